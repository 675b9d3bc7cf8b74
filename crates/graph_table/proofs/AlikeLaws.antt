-- What two graphs that are alike have in common: laws, answers and undominated pairs.
use Rattle.std.proofs.Common.{◌≡◌, ℕ, ◌<◌, ◌*◌, List, [], ◌∷◌, length, refl, sym, ap, ◌∙◌, subst, arith}
use Rattle.std.specs.Prelude.{◌↔◌}
use Rattle.rulebook_order.specs.Answer.{IsAnswer, IsAnswerList, IsUndominated}
use Rattle.rulebook_order.specs.Front.{IsInFront}
use Rattle.rulebook_order.specs.Graph.{Graph, LeadsTo, Reaches, IsReached, IsStateOf, IsAttained}
use Rattle.rulebook_order.specs.StepGraph.{IsStepGraph, AddsUpTo, ticks_passed}
use Rattle.rulebook_order.specs.Sums.{sums}
use Rattle.graph_table.specs.Alike.{AreAlike, ReachAlike}

-- alike the other way round
pub flipped : {S T : Type 0} (g : Graph S) (h : Graph T) (R : S → T → Type 0) → AreAlike g h R → AreAlike h g (λ t s. R s t)
flipped g h R a = record {
  width = sym a.width;
  last = sym a.last;
  step_limit = sym a.step_limit;
  start = a.start;
  first = sym a.first;
  choices = λ t s r. sym (a.choices s t r);
  next = λ t s c r below. a.next s t c r (rw (a.choices s t r) below);
  cost = λ t s c r below. sym (a.cost s t c r (rw (a.choices s t r) below));
  finish = λ t s r. sym (a.finish s t r);
  goal = λ t s r. sym (a.goal s t r);
  tick = λ t s r. sym (a.tick s t r);
  one_here = λ t u s r q. a.one_there s t u r q;
  one_there = λ t s u r q. a.one_here s u t r q;
}

products : (a b c d : ℕ) → a ≡ b → c ≡ d → a * c ≡ b * d
products a b c d e f = rw (e, f) refl

-- what is in the front of the vectors with a property is so with one that the same vectors have
pub in_front_alike : (IsNoWorse : List ℕ → List ℕ → Type 0) (Has Holds : List ℕ → Type 0) → ((w : List ℕ) → Has w → Holds w) → ((w : List ℕ) → Holds w → Has w) → (v : List ℕ) → IsInFront IsNoWorse Has v → IsInFront IsNoWorse Holds v
in_front_alike IsNoWorse Has Holds there back v f = record { has = there v f.has; unbeaten = λ w holds. f.unbeaten w (back w holds) }

module _ {S T : Type 0} (g : Graph S) (h : Graph T) (R : S → T → Type 0) (a : AreAlike g h R) where
  -- a list leads on alike from states that stand for one another
  leads_alike : (cs : List ℕ) (s : S) (t : T) (v : List ℕ) (u : S) (w : List ℕ) → R s t → LeadsTo g s v cs u w → (x : T) × (R u x × LeadsTo h t v cs x w)
  leads_alike [] s t v u w r l = (t, (subst (λ y. R y t) (sym l.0) r, (refl, l.1)))
  leads_alike (c ∷ cs) s t v u w r l =
      let more = leads_alike cs (g.next s c) (h.next t c) (sums v (g.cost s c)) u w (a.next s t c r l.0) l.1 in
      let below : c < h.choices t = rw (← a.choices s t r) l.0 in
      (more.0, (more.1.0, (below, subst (λ (y : List ℕ). LeadsTo h (h.next t c) (sums v y) cs more.0 w) (a.cost s t c r l.0) more.1.1)))

  reaches_alike : (list : List ℕ) (s : S) (v : List ℕ) → Reaches g list s v → (t : T) × (R s t × Reaches h list t v)
  reaches_alike list s v l = leads_alike list g.start h.start h.first s v a.start (subst (λ (y : List ℕ). LeadsTo g g.start y list s v) a.first l)

  -- what a list reaches, at a state that stands for the other
  pub reaches_at : (list : List ℕ) (s : S) (t : T) (v : List ℕ) → R s t → Reaches g list s v → Reaches h list t v
  reaches_at list s t v r l =
      let x = reaches_alike list s v l in
      subst (λ (y : T). Reaches h list y v) (a.one_there s x.0 t x.1.0 r) x.1.1

  pub reached_at : (s : S) (t : T) (v : List ℕ) → R s t → IsReached g s v → IsReached h t v
  reached_at s t v r l = record { list = l.list; reaches = reaches_at l.list s t v r l.reaches }

  pub state_at : (s : S) (t : T) → R s t → IsStateOf g s → IsStateOf h t
  state_at s t r l = (l.0, reached_at s t l.0 r l.1)

  -- each state that a list reaches stands for one
  pub stands : (s : S) → IsStateOf g s → (t : T) × R s t
  stands s l = let x = reaches_alike l.1.list s l.0 l.1.reaches in (x.0, x.1.0)

  -- and what a list attains
  pub attained_at : (w : List ℕ) → IsAttained g w → IsAttained h w
  attained_at w l =
      let it = l.attains in
      let x = reaches_alike l.list it.state it.vector it.reaches in
      record {
        list = l.list;
        attains = record {
          state = x.0;
          vector = it.vector;
          reaches = x.1.1;
          at_goal = rw (← a.goal it.state x.0 x.1.0) it.at_goal;
          vector_is = it.vector_is ∙ ap (sums it.vector) (a.finish it.state x.0 x.1.0);
        };
      }

module _ {S T : Type 0} (g : Graph S) (h : Graph T) (R : S → T → Type 0) (a : AreAlike g h R) where
  abbrev back : AreAlike h g (λ t s. R s t)
  back = flipped g h R a

  -- the same lists reach the same vectors
  pub reach_alike : ReachAlike g h R
  reach_alike list t v = (
    λ l. (let x = reaches_alike h g (λ t s. R s t) back list t v l in record { state = x.0; stands = x.1.0; reaches = x.1.1 }),
    λ l. reaches_at g h R a list l.state t v l.stands l.reaches,
  )

  -- the same vectors are attained, so the answer is the same
  pub answer_alike : (IsNoWorse : List ℕ → List ℕ → Type 0) (v : List ℕ) → IsAnswer g IsNoWorse v ↔ IsAnswer h IsNoWorse v
  answer_alike IsNoWorse v = (
    in_front_alike IsNoWorse (IsAttained g) (IsAttained h) (attained_at g h R a) (attained_at h g (λ t s. R s t) back) v,
    in_front_alike IsNoWorse (IsAttained h) (IsAttained g) (attained_at h g (λ t s. R s t) back) (attained_at g h R a) v,
  )

  pub answers_alike : (IsNoWorse : List ℕ → List ℕ → Type 0) (vectors : List (List ℕ)) → IsAnswerList h IsNoWorse vectors → IsAnswerList g IsNoWorse vectors
  answers_alike IsNoWorse vectors are = record {
    exact = λ v. (λ there. (answer_alike IsNoWorse v).1 ((are.exact v).0 there), λ answer. (are.exact v).1 ((answer_alike IsNoWorse v).0 answer));
    once = are.once;
  }

  -- the undominated pairs of states that stand for one another are the same
  pub undominated_alike : (IsNoWorse : List ℕ → List ℕ → Type 0) (s : S) (t : T) (v : List ℕ) → R s t → IsUndominated g IsNoWorse s v ↔ IsUndominated h IsNoWorse t v
  undominated_alike IsNoWorse s t v r = (
    in_front_alike IsNoWorse (IsReached g s) (IsReached h t) (λ w. reached_at g h R a s t w r) (λ w. reached_at h g (λ t s. R s t) back t s w r) v,
    in_front_alike IsNoWorse (IsReached h t) (IsReached g s) (λ w. reached_at h g (λ t s. R s t) back t s w r) (λ w. reached_at g h R a s t w r) v,
  )

  module _ (laws : IsStepGraph g) where
    -- the graph's state of one of the other's
    here : (t : T) → IsStateOf h t → (s : S) × (R s t × IsStateOf g s)
    here t l = let x = stands h g (λ t s. R s t) back t l in (x.0, (x.1, state_at h g (λ t s. R s t) back t x.0 x.1 l))

    adds_alike : (limit bound : ℕ) (vector other : List ℕ) → limit ≡ bound → vector ≡ other → AddsUpTo g limit vector → AddsUpTo h bound other
    adds_alike limit bound vector other e v up = record { width = ap length (sym v) ∙ (up.width ∙ a.width); up_to = rw (← e, ← v) up.up_to }

    passed_alike : (s : S) (t : T) (c : ℕ) → R s t → c < g.choices s → ticks_passed g s c ≡ ticks_passed h t c
    passed_alike s t c r below = rw (a.tick s t r, a.tick (g.next s c) (h.next t c) (a.next s t c r below)) refl

    -- the laws of a step graph
    pub laws_alike : IsStepGraph h
    laws_alike = record {
      width = rw (← a.width) laws.width;
      choices = λ t l. (let x = here t l in rw (← a.choices x.0 t x.1.0) (laws.choices x.0 x.1.1));
      start_tick = sym (a.tick g.start h.start a.start) ∙ laws.start_tick;
      tick_rises = λ t c l below.
          let x = here t l in
          let under : c < g.choices x.0 = rw (a.choices x.0 t x.1.0) below in
          rw (← a.tick x.0 t x.1.0, ← a.tick (g.next x.0 c) (h.next t c) (a.next x.0 t c x.1.0 under)) (laws.tick_rises x.0 c x.1.1 under);
      tick_high = λ t l.
          let x = here t l in
          let high = laws.tick_high x.0 x.1.1 in
          let tick = a.tick x.0 t x.1.0 in
          let last = a.last in
          omega arith;
      first = adds_alike g.step_limit h.step_limit g.first h.first a.step_limit a.first laws.first;
      cost = λ t c l below.
          let x = here t l in
          let under : c < g.choices x.0 = rw (a.choices x.0 t x.1.0) below in
          let same : g.step_limit * ticks_passed g x.0 c ≡ h.step_limit * ticks_passed h t c = products _ _ _ _ a.step_limit (passed_alike x.0 t c x.1.0 under) in
          adds_alike _ _ (g.cost x.0 c) (h.cost t c) same (a.cost x.0 t c x.1.0 under) (laws.cost x.0 c x.1.1 under);
      finish = λ t l. (let x = here t l in adds_alike g.step_limit h.step_limit (g.finish x.0) (h.finish t) a.step_limit (a.finish x.0 t x.1.0) (laws.finish x.0 x.1.1));
      sums_fit = rw (← a.step_limit, ← a.last) laws.sums_fit;
    }
