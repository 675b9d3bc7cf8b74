-- What the search has found when all states of a smaller tick are done. Martins, "On a
-- multicriteria shortest path problem", 1984; that labels are settled tick by tick is this
-- project's own.
use Rattle.std.specs.Prelude.{◌≡◌, ◌↔◌, ℕ, zero, suc, ◌+◌, ◌<◌, Bool, List, [], ◌∷◌, ◌++◌, Some}
use Rattle.std.specs.Prelude.{slice_get, Contains, All, AllPairs, sum_by, IsTrue}
use Rattle.rulebook_order.specs.Graph.{Graph, IsReached}
use Rattle.rulebook_order.specs.Sums.{sums}
use Rattle.rulebook_order.specs.NoWorse.{AreApart}
use Rattle.rulebook_order.specs.VectorOrder.{Holds}
use Rattle.label_search.specs.declared.arrival.Arrival.{Arrival}

-- the state and the running vector of an arrival
abbrev pub pair_of : {S : Type 0} → Arrival S → S × List ℕ
pair_of x = (x.state, x.vector)

-- arrivals at one state stand apart
abbrev pub AreApartThere : {S : Type 0} → (List ℕ → List ℕ → Bool) → Arrival S → Arrival S → Type 0
AreApartThere no_worse x y = x.state ≡ y.state → AreApart (Holds no_worse) x.vector y.vector

-- some arrival at the state is no worse than the vector
pub record IsCoveredAt {S : Type 0} (no_worse : List ℕ → List ℕ → Bool)
    (arrivals : List (Arrival S)) (s : S) (v : List ℕ) : Type 0 where
  pub by : Arrival S
  pub listed : Contains arrivals by
  pub state_is : by.state ≡ s
  pub no_worse_is : IsTrue (no_worse by.vector v)

-- what a choice leads to from the arrival with this number
abbrev pub extension : {S : Type 0} → Graph S → ℕ → Arrival S → ℕ → Arrival S
extension g n from c =
    record {
      state = g.next from.state c;
      vector = sums from.vector (g.cost from.state c);
      parent = n;
      choice = c;
    }

-- what the choices below m lead to from it
abbrev pub extensions_below : {S : Type 0} → Graph S → ℕ → Arrival S → ℕ → List (Arrival S)
extensions_below g n from zero = []
extensions_below g n from (suc c) = extensions_below g n from c ++ extension g n from c ∷ []

-- what all choices lead to from arrivals, of which the first has number n
abbrev pub extensions_from : {S : Type 0} → Graph S → ℕ → List (Arrival S) → List (Arrival S)
extensions_from g n [] = []
extensions_from g n (from ∷ arrivals) =
    extensions_below g n from (g.choices from.state) ++ extensions_from g (n + 1) arrivals

-- the arrival of the empty list of choices
abbrev pub start_arrival : {S : Type 0} → Graph S → Arrival S
start_arrival g = record { state = g.start; vector = g.first; parent = 0; choice = 0 }

-- arrival k is what its parent leads to by its choice, and the parent has a smaller number
pub record IsChild {S : Type 0} (g : Graph S) (arrivals : List (Arrival S)) (k : ℕ)
    (x : Arrival S) : Type 0 where
  pub parent : Arrival S
  pub parent_is : slice_get arrivals x.parent ≡ Some parent
  pub earlier : x.parent < k
  pub choice_below : x.choice < g.choices parent.state
  pub arrival_is : x ≡ extension g x.parent parent x.choice

-- the first is the start's, and each other one comes from its parent
pub record ComeFromParents {S : Type 0} (g : Graph S) (arrivals : List (Arrival S)) : Type 0 where
  pub first : slice_get arrivals 0 ≡ Some (start_arrival g)
  pub later : (k : ℕ) (x : Arrival S) → 0 < k → slice_get arrivals k ≡ Some x
      → IsChild g arrivals k x

-- the labels of all states below the tick, and what their choices lead to
pub record IsSearched {S : Type 0} (g : Graph S) (no_worse : List ℕ → List ℕ → Bool) (tick : ℕ)
    (labels extensions : List (Arrival S)) : Type 0 where
  pub parents : ComeFromParents g labels
  pub reached : All (λ x. IsReached g x.state x.vector) labels
  pub below : All (λ x. g.tick x.state < tick) labels
  pub apart : AllPairs (AreApartThere no_worse) labels
  pub covers : (s : S) (v : List ℕ) → IsReached g s v → g.tick s < tick
      → IsCoveredAt no_worse labels s v
  pub extensions_are : extensions ≡ extensions_from g 0 labels

-- how many choices the states of the arrivals have together
abbrev pub choices_of : {S : Type 0} → Graph S → List (Arrival S) → ℕ
choices_of g arrivals = sum_by (λ x. g.choices x.state) arrivals

-- the number is the place of an arrival with the tick
pub record IsAtTick {S : Type 0} (g : Graph S) (arrivals : List (Arrival S))
    (tick place : ℕ) : Type 0 where
  pub arrival : Arrival S
  pub arrival_is : slice_get arrivals place ≡ Some arrival
  pub tick_is : g.tick arrival.state ≡ tick

-- the places, rising, are those of the arrivals with the tick
pub record ArePlacesOf {S : Type 0} (g : Graph S) (arrivals : List (Arrival S)) (tick : ℕ)
    (places : List ℕ) : Type 0 where
  pub exact : (place : ℕ) → Contains places place ↔ IsAtTick g arrivals tick place
  pub rising : AllPairs (λ i j. i < j) places

-- so for each tick
abbrev pub AreByTick : {S : Type 0} → Graph S → List (Arrival S) → (ℕ → List ℕ) → Type 0
AreByTick g arrivals places = (tick : ℕ) → ArePlacesOf g arrivals tick (places tick)
