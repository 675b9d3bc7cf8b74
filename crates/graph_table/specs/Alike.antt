-- When two graphs are alike: their states stand for one another, one for one, so that the same
-- lists of choices apply in both, and reach the same vectors.
-- (A bisimulation that is one to one: Milner, "Communication and Concurrency", 1989.)
use Rattle.std.specs.Prelude.{◌≡◌, ◌↔◌, ℕ, ◌<◌, List}
use Rattle.rulebook_order.specs.Graph.{Graph, Reaches}

-- the states that stand for one another offer the same choices, which lead to such states again;
-- and no state stands for two
pub record AreAlike {S T : Type 0} (g : Graph S) (h : Graph T) (StandsFor : S → T → Type 0)
    : Type 0 where
  pub width : g.width ≡ h.width
  pub last : g.last ≡ h.last
  pub step_limit : g.step_limit ≡ h.step_limit
  pub start : StandsFor g.start h.start
  pub first : g.first ≡ h.first
  pub choices : (s : S) (t : T) → StandsFor s t → g.choices s ≡ h.choices t
  pub next : (s : S) (t : T) (c : ℕ) → StandsFor s t → c < g.choices s
      → StandsFor (g.next s c) (h.next t c)
  pub cost : (s : S) (t : T) (c : ℕ) → StandsFor s t → c < g.choices s → g.cost s c ≡ h.cost t c
  pub finish : (s : S) (t : T) → StandsFor s t → g.finish s ≡ h.finish t
  pub goal : (s : S) (t : T) → StandsFor s t → g.goal s ≡ h.goal t
  pub tick : (s : S) (t : T) → StandsFor s t → g.tick s ≡ h.tick t
  pub one_here : (s u : S) (t : T) → StandsFor s t → StandsFor u t → s ≡ u
  pub one_there : (s : S) (t u : T) → StandsFor s t → StandsFor s u → t ≡ u

-- some state stands for t, and the list of choices reaches it with the running vector v
pub record ReachesFor {S T : Type 0} (g : Graph S) (StandsFor : S → T → Type 0)
    (list : List ℕ) (t : T) (v : List ℕ) : Type 0 where
  pub state : S
  pub stands : StandsFor state t
  pub reaches : Reaches g list state v

-- a list of choices reaches a state in h just where it reaches one that stands for it in g, with
-- the same running vector
abbrev pub ReachAlike : {S T : Type 0} → Graph S → Graph T → (S → T → Type 0) → Type 0
ReachAlike {S} {T} g h StandsFor =
    (list : List ℕ) (t : T) (v : List ℕ) → Reaches h list t v ↔ ReachesFor g StandsFor list t v
