-- Whether parts are a sum, as a test.
use Rattle.std.specs.Prelude.{◌/◌, Bool, true, false, ◌&&◌, List, [], ◌∷◌, Option, Some, None}
use Rattle.std.specs.Prelude.{nat_le, length, take, drop, if◌then◌else◌}
use Rattle.rule_language.specs.declared.book.Rule.{Rule}
use Rattle.rule_language.specs.declared.part.Part.{Part}
use Rattle.book_operations.specs.Images.{is_new}
use Rattle.book_operations.specs.Same.{are_times}

-- the parts after those that are the summand's, in order, with the weights times a number of at
-- least 1
abbrev pub after_summand : List Part → List Part → Option (List Part)
after_summand [] parts = None
after_summand (part ∷ summand) [] = None
after_summand (part ∷ summand) (other ∷ others) =
    let times = other.weight / part.weight in
    let count = length (part ∷ summand) in
    if nat_le 1 times && nat_le count (length (other ∷ others))
    && are_times times (part ∷ summand) (take count (other ∷ others))
    then Some (drop count (other ∷ others)) else None

abbrev pub or_false : Option (List Part) → (List Part → Bool) → Bool
or_false None test = false
or_false (Some parts) test = test parts

abbrev pub is_empty : List Part → Bool
is_empty [] = true
is_empty (part ∷ parts) = false

-- the parts are a sum of the rules whose names the others lack
abbrev pub sums_up : List Rule → List Rule → List Part → Bool
sums_up others [] parts = is_empty parts
sums_up others (rule ∷ rules) parts =
    if is_new others rule then or_false (after_summand rule.parts parts) (sums_up others rules)
    else sums_up others rules parts
