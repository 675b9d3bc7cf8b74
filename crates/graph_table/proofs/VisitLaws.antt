-- The states visited are those that some list of choices reaches, each once, by their ticks.
use Rattle.std.proofs.Common.{◌≡◌, ℕ, zero, suc, ◌<◌, ◌≤◌, ◌+◌, ◌-◌, Bool, true, List, [], ◌∷◌, filter, refl, sym, ap, ◌∙◌, subst, arith, inl, inr}
use Rattle.std.specs.Cmp.{IsEquivalence}
use Rattle.std.specs.Prelude.{All, AllPairs, Contains, ◌≢◌}
use Rattle.std.proofs.lemmas.Bool.{cases_Bool, eqb-true, eq-eqb}
use Rattle.std.proofs.lemmas.List.Elements.{All-nil, All-cons, All-weaker, All-filter, All-contains, Contains-append_right, filter_passes}
use Rattle.rulebook_order.specs.Graph.{Graph, IsStateOf}
use Rattle.rulebook_order.specs.StepGraph.{IsStepGraph}
use Rattle.rulebook_order.specs.Sums.{sums}
use Rattle.rulebook_order.proofs.Reached.{Built, start, extend, built, state_built, IsReached-extend, IsReached-first}
use Rattle.graph_table.specs.Tables.{AreReached}
use Rattle.graph_table.specs.Visits.{each_choice, is_at_tick, arriving, visited}
use Rattle.graph_table.proofs.Choices.{All-each, contains_each}
use Rattle.graph_table.proofs.Inserted.{BeginsWith, begins_itself, begins_further, begins_inserted, contains_begun, all_once_inserted, contains_inserted, All-inserted}

-- what passes a test stays in the list of what passes
pub contains_filter : {X : Type 0} (p : X → Bool) (xs : List X) (x : X) → p x ≡ true → Contains xs x → Contains (filter p xs) x
contains_filter p [] x h (k, below, at) = absurd (omega arith)
contains_filter p (y ∷ ys) x h (zero, below, at) = (let passes : p y ≡ true = ap p at ∙ h in rw passes (0, omega arith, at))
contains_filter p (y ∷ ys) x h (suc k, below, at) =
    let rest = contains_filter p ys x h (k, omega arith, at) in
    elim (cases_Bool (p y)) [ inl there ↦ rw there (Contains-append_right (y ∷ []) (filter p ys) x rest) | inr not_there ↦ rw not_there rest ]

module _ {S : Type 0} (eq : S → S → Bool) (g : Graph S) where
  pub visited_begins : (tick more : ℕ) → BeginsWith (visited eq g (tick + more)) (visited eq g tick)
  visited_begins tick zero =
      let same : tick ≡ tick + 0 = omega arith in
      subst (λ n. BeginsWith (visited eq g n) (visited eq g tick)) same (begins_itself (visited eq g tick))
  visited_begins tick (suc more) =
      let same : suc (tick + more) ≡ tick + suc more = omega arith in
      begins_further (visited eq g tick) (visited eq g (tick + more)) (visited eq g (tick + suc more)) (visited_begins tick more)
      (subst (λ n. BeginsWith (visited eq g n) (visited eq g (tick + more))) same (begins_inserted eq (visited eq g (tick + more)) (arriving g (visited eq g (tick + more)) (suc (tick + more)))))

  pub visited_up_to : (tick last : ℕ) → tick ≤ last → BeginsWith (visited eq g last) (visited eq g tick)
  visited_up_to tick last h =
      let same : tick + (last - tick) ≡ last = omega arith in
      subst (λ n. BeginsWith (visited eq g n) (visited eq g tick)) same (visited_begins tick (last - tick))

  pub next_reached : (s : S) → IsStateOf g s → (c : ℕ) → c < g.choices s → IsStateOf g (g.next s c)
  next_reached s r c below = (sums r.0 (g.cost s c), IsReached-extend g s r.0 c r.1 below)

  pub nexts_reached : (states : List S) → All (IsStateOf g) states → All (IsStateOf g) (each_choice g g.next states)
  nexts_reached states all = All-each g.next g (IsStateOf g) states (All-weaker (IsStateOf g) (λ s. (c : ℕ) → c < g.choices s → IsStateOf g (g.next s c)) next_reached states all)

  -- each is reached
  pub visited_reached : (tick : ℕ) → All (IsStateOf g) (visited eq g tick)
  visited_reached zero = All-cons (IsStateOf g) g.start [] (g.first, IsReached-first g) (All-nil (IsStateOf g))
  visited_reached (suc tick) =
      let states = visited eq g tick in
      let all = visited_reached tick in
      All-inserted eq (IsStateOf g) states (arriving g states (suc tick)) all (All-filter (is_at_tick g (suc tick)) (IsStateOf g) (each_choice g g.next states) (nexts_reached states all))

  module _ (laws : IsStepGraph g) where
    -- and its tick has come
    pub visited_ticks : (tick : ℕ) → All (λ s. g.tick s ≤ tick) (visited eq g tick)
    visited_ticks zero = All-cons (λ s. g.tick s ≤ 0) g.start [] (let first = laws.start_tick in omega arith) (All-nil (λ s. g.tick s ≤ 0))
    visited_ticks (suc tick) =
        let states = visited eq g tick in
        All-inserted eq (λ s. g.tick s ≤ suc tick) states (arriving g states (suc tick)) (All-weaker (λ s. g.tick s ≤ tick) (λ s. g.tick s ≤ suc tick) (λ s h. omega arith) states (visited_ticks tick))
        (All-weaker (λ s. is_at_tick g (suc tick) s ≡ true) (λ s. g.tick s ≤ suc tick) (λ s h. let e = eqb-true (g.tick s) (suc tick) h in omega arith) (arriving g states (suc tick)) (filter_passes (is_at_tick g (suc tick)) (each_choice g g.next states)))

    module _ (same : (s t : S) → eq s t ≡ true → s ≡ t) where
      -- what a choice leads to from a state visited is visited at its tick
      visited_next : (s : S) (c tick : ℕ) → Contains (visited eq g tick) s → c < g.choices s → g.tick (g.next s c) ≡ suc tick → Contains (visited eq g (suc tick)) (g.next s c)
      visited_next s c tick here below at =
          let states = visited eq g tick in
          let led = contains_each g.next g states s c here below in
          contains_inserted eq same states (arriving g states (suc tick)) (g.next s c) (contains_filter (is_at_tick g (suc tick)) (each_choice g g.next states) (g.next s c) (rw at (eq-eqb (suc tick) (suc tick) refl)) led)

      -- so each that is reached is visited at its tick
      visited_built : {s : S} {v : List ℕ} → Built g s v → Contains (visited eq g (g.tick s)) s
      visited_built start = contains_begun (visited eq g 0) (visited eq g (g.tick g.start)) g.start (visited_up_to 0 (g.tick g.start) (omega arith)) (0, omega arith, refl)
      visited_built (extend {s} {v} {c} b below) =
          let rises = laws.tick_rises s c (state_built g b) below in
          let before : ℕ = g.tick (g.next s c) - 1 in
          let at : g.tick (g.next s c) ≡ suc before = omega arith in
          let earlier = contains_begun (visited eq g (g.tick s)) (visited eq g before) s (visited_up_to (g.tick s) before (omega arith)) (visited_built b) in
          subst (λ n. Contains (visited eq g n) (g.next s c)) (sym at) (visited_next s c before earlier below at)

      pub visited_all : (s : S) → IsStateOf g s → Contains (visited eq g g.last) s
      visited_all s r = contains_begun (visited eq g (g.tick s)) (visited eq g g.last) s (visited_up_to (g.tick s) g.last (laws.tick_high s r)) (visited_built (built g r.1))

      module _ (eq_laws : IsEquivalence eq) where
        -- each stands once
        pub visited_once : (tick : ℕ) → AllPairs (λ s t. s ≢ t) (visited eq g tick)
        visited_once zero = λ i j d below inside. absurd (omega arith)
        visited_once (suc tick) = all_once_inserted eq eq_laws same (visited eq g tick) (arriving g (visited eq g tick) (suc tick)) (visited_once tick)

        pub are_reached : AreReached g (visited eq g g.last)
        are_reached = record {
          exact = λ s. (λ here. All-contains (IsStateOf g) (visited eq g g.last) s (visited_reached g.last) here, visited_all s);
          once = visited_once g.last;
        }
