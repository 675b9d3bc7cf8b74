-- Items with different names.
use Rattle.std.proofs.Common.{◌≡◌, ℕ, ◌<◌, false, List, [], ◌∷◌, ◌++◌, length, get_or}
use Rattle.std.specs.Prelude.{◌≢◌}
use Rattle.std.specs.Str.{bytes_eq}
use Rattle.std.proofs.lemmas.Bool.{both_ways}
use Rattle.std.proofs.lemmas.List.Folds.{list_any_at}
use Rattle.std.proofs.lemmas.List.Quantifiers.{all_pairs_push}
use Rattle.std.proofs.lemmas.Slice.Eq.{bytes_eq-Decides}
use Rattle.reading.proofs.Truth.{refuted}
use Rattle.rule_language.specs.Names.{AreDifferent, has_name}

-- one item more, whose name is new
pub different_more : {X : Type 0} (name_of : X → List ℕ) (xs : List X) (y : X) → AreDifferent name_of xs → ((k : ℕ) (d : X) → k < length xs → bytes_eq (name_of (get_or xs k d)) (name_of y) ≡ false) → AreDifferent name_of (xs ++ y ∷ [])
different_more name_of xs y different new =
    all_pairs_push (λ a b. name_of a ≢ name_of b) xs y different (λ k d inside same. both_ways _ (new k d inside) ((bytes_eq-Decides (name_of (get_or xs k d)) (name_of y)).1 same))

-- a name that no item has
pub fresh : {X : Type 0} (name_of : X → List ℕ) (name : List ℕ) (xs : List X) → has_name name_of name xs ≡ false → (k : ℕ) (d : X) → k < length xs → bytes_eq (name_of (get_or xs k d)) name ≡ false
unfolding has_name
fresh name_of name xs none k d inside = refuted (bytes_eq (name_of (get_or xs k d)) name) (λ e. both_ways _ none (list_any_at (λ x. bytes_eq (name_of x) name) xs k d inside e))
