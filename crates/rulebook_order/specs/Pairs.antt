-- Pairs of items of a list. This project's own.
use Rattle.std.specs.Prelude.{List, [], ◌∷◌, ◌++◌, map}

-- each item with each later one, by the first and then by the second
abbrev pub later_pairs : {X : Type 0} → List X → List (X × X)
later_pairs [] = []
later_pairs (x ∷ xs) = map (λ y. (x, y)) xs ++ later_pairs xs
