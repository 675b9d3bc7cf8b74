-- How states are reached: by the start, and one choice more at the end of a list.
use Rattle.std.proofs.Common.{◌≡◌, ℕ, ◌<◌, Bool, List, [], ◌∷◌, ◌++◌, length, refl, ap}
use Rattle.std.specs.Prelude.{IsTrue}
use Rattle.rulebook_order.specs.Graph.{Graph, LeadsTo, IsReached, IsStateOf, IsAttained, finished}
use Rattle.rulebook_order.specs.StepGraph.{IsStepGraph}
use Rattle.rulebook_order.specs.Sums.{sums}
use Rattle.rulebook_order.specs.VectorOrder.{IsVectorOrder}
use Rattle.rulebook_order.proofs.Lists.{width-sums}

-- a state and a running vector, by the start and one choice after another
pub data Built {S : Type 0} (g : Graph S) : S → List ℕ → Type 0 where
  start : Built g g.start g.first
  extend : {s : S} {v : List ℕ} {c : ℕ} → Built g s v → c < g.choices s → Built g (g.next s c) (sums v (g.cost s c))

module _ {S : Type 0} (g : Graph S) where
  -- a list that leads from s to t, and one choice more
  pub LeadsTo-snoc : (s : S) (v : List ℕ) (cs : List ℕ) (t : S) (w : List ℕ) (c : ℕ) → LeadsTo g s v cs t w → c < g.choices t → LeadsTo g s v (cs ++ c ∷ []) (g.next t c) (sums w (g.cost t c))
  LeadsTo-snoc s v [] t w c h below = (let k : c < g.choices s = rw h.0 at below in k, (ap (λ x. g.next x c) h.0, rw (h.0, h.1) refl))
  LeadsTo-snoc s v (d ∷ cs) t w c h below = (h.0, LeadsTo-snoc (g.next s d) (sums v (g.cost s d)) cs t w c h.1 below)

  -- the empty list, and one choice more
  pub IsReached-first : IsReached g g.start g.first
  IsReached-first = record { list = []; reaches = (refl, refl) }

  pub IsReached-extend : (s : S) (v : List ℕ) (c : ℕ) → IsReached g s v → c < g.choices s → IsReached g (g.next s c) (sums v (g.cost s c))
  IsReached-extend s v c r below = record { list = r.list ++ c ∷ []; reaches = LeadsTo-snoc g.start g.first r.list s v c r.reaches below }

  -- what is built is reached, and what is reached is built
  pub IsReached-built : {s : S} {v : List ℕ} → Built g s v → IsReached g s v
  IsReached-built start = IsReached-first
  IsReached-built (extend {s} {v} {c} b below) = IsReached-extend s v c (IsReached-built b) below

  pub built_from : (s : S) (v : List ℕ) (cs : List ℕ) (t : S) (w : List ℕ) → Built g s v → LeadsTo g s v cs t w → Built g t w
  built_from s v [] t w b h = rw (h.0, h.1) b
  built_from s v (c ∷ cs) t w b h = built_from (g.next s c) (sums v (g.cost s c)) cs t w (extend b h.0) h.1

  pub built : {s : S} {v : List ℕ} → IsReached g s v → Built g s v
  built {s} {v} r = built_from g.start g.first r.list s v start r.reaches

  pub state_built : {s : S} {v : List ℕ} → Built g s v → IsStateOf g s
  state_built {s} {v} b = (v, IsReached-built b)

  pub IsAttained-at : (s : S) (v : List ℕ) → IsReached g s v → IsTrue (g.goal s) → IsAttained g (finished g s v)
  IsAttained-at s v r goal = record { list = r.list; attains = record { state = s; vector = v; reaches = r.reaches; at_goal = goal; vector_is = refl } }

  module _ (laws : IsStepGraph g) where
    -- every running vector has the width
    pub width_built : {s : S} {v : List ℕ} → Built g s v → length v ≡ g.width
    width_built start = laws.first.width
    width_built (extend {s} {v} {c} b below) = width-sums v (g.cost s c) g.width (width_built b) (laws.cost s c (state_built b) below).width

    pub width_reached : (s : S) (v : List ℕ) → IsReached g s v → length v ≡ g.width
    width_reached s v r = width_built (built r)

    -- and so has every finished vector
    pub width_finished : (s : S) (v : List ℕ) → IsReached g s v → length (finished g s v) ≡ g.width
    width_finished s v r = width-sums v (g.finish s) g.width (width_reached s v r) (laws.finish s (v, r)).width

    pub width_attained : (w : List ℕ) → IsAttained g w → length w ≡ g.width
    width_attained w a = rw a.attains.vector_is (width_finished a.attains.state a.attains.vector (record { list = a.list; reaches = a.attains.reaches }))

    -- at one state, finishing keeps which of two vectors is no worse
    pub finished_keeps : (no_worse : List ℕ → List ℕ → Bool) → IsVectorOrder g.width no_worse → (s : S) (u v : List ℕ) → IsReached g s u → IsReached g s v → IsTrue (no_worse u v) → IsTrue (no_worse (finished g s u) (finished g s v))
    finished_keeps no_worse order s u v a b h = rw (order.unchanged_by_adding u v (g.finish s) (width_reached s u a) (width_reached s v b) (laws.finish s (u, a)).width) h

    -- and so does a choice
    pub extended_keeps : (no_worse : List ℕ → List ℕ → Bool) → IsVectorOrder g.width no_worse → (s : S) (u v : List ℕ) (c : ℕ) → IsReached g s u → IsReached g s v → c < g.choices s → IsTrue (no_worse u v) → IsTrue (no_worse (sums u (g.cost s c)) (sums v (g.cost s c)))
    extended_keeps no_worse order s u v c a b below h = rw (order.unchanged_by_adding u v (g.cost s c) (width_reached s u a) (width_reached s v b) (laws.cost s c (u, a) below).width) h
