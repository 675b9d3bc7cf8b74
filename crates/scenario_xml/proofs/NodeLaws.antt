-- A loop over the children of an element.
use Rattle.std.proofs.Common.{◌≡◌, ℕ, ◌<◌, Option, Some, None, Result, Ok, Err, refl}
use Rattle.std.specs.Prelude.{IfSome}
use Rattle.element_tree.specs.Document.{Document}
use Rattle.element_tree.specs.Trees.{younger, from}
use Rattle.reading.specs.Reading.{read_all}

pub nodes_go_on : {S F : Type 0} (document : Document) (step : ℕ → S → Result S F) (next after : Option ℕ) (k : ℕ) (s t : S)
    → next ≡ Some k → from document after ≡ younger document k → step k s ≡ Ok t → read_all step (from document next) s ≡ read_all step (from document after) t
unfolding read_all
nodes_go_on document step next after k s t found e h = rw (found, e, h) refl

pub nodes_stop : {S F : Type 0} (document : Document) (step : ℕ → S → Result S F) (next : Option ℕ) (k : ℕ) (s : S) (f : F)
    → next ≡ Some k → step k s ≡ Err f → read_all step (from document next) s ≡ Err f
unfolding read_all
nodes_stop document step next k s f found h = rw (found, h) refl

pub nodes_done : {S F : Type 0} (document : Document) (step : ℕ → S → Result S F) (next : Option ℕ) (s : S) → next ≡ None → read_all step (from document next) s ≡ Ok s
unfolding read_all
nodes_done document step next s none = rw none refl

pub inside : (o : Option ℕ) (low high : ℕ) → IfSome o (λ k. (low < k) × (k < high)) → IfSome o (λ k. k < high)
inside (Some k) low high h = h.1
inside None low high h = tt
