-- What the program prints that has no command but `check`.
use Rattle.std.specs.Prelude.{◌≡◌, ℕ, List, Option, Some}
use Rattle.outside_io.specs.Outside.{Files}
use Rattle.check_command.specs.CheckWords.{check, check_reading}
use Rattle.check_command.specs.Headline.{AcceptsTheAnswer}

-- words that are `check SCENARIO BOOK LATTICE CERT`: the answer over the scene of the three files
-- was written behind `accepted`, whatever certificate CERT holds
abbrev pub PrintsTheAnswer : List (List ℕ) → Option Files → (List ℕ → Type 0) → Type 0
PrintsTheAnswer words held Written =
    (scenario book lattice name : List ℕ)
    → check_reading words ≡ Some (check scenario book lattice name)
    → AcceptsTheAnswer scenario book lattice name held Written
