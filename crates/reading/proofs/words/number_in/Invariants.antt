use Rattle.std.proofs.Common.{◌≡◌, take, true, min}
use Rattle.std.specs.List.{list_all}
use Rattle.std.specs.Char.{is_ascii_digit}
use Rattle.std.specs.Str.Parse.{digits_value}
use Rattle.reading.specs.declared.words.TheConstants.{PAST}
use Rattle.reading.proofs.words.number_in.Given as goal

abbrev pub invariant-loop-b : goal.invariant-loop-b
invariant-loop-b l =
    (list_all is_ascii_digit (take l.b-index l.word) ≡ true) × (l.value ≡ min (digits_value 10 (take l.b-index l.word)) PAST)
