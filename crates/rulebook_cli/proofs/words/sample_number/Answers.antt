use Rattle.std.proofs.Common.{rules, ◌≡◌, ◌≤◌, ◌<◌, length, Some, sym, ◌∙◌, arith}
use Rattle.reading.specs.Words.{number_of}
use Rattle.rulebook_cli.proofs.SampleWords.{number_is, small_number}
use Rattle.rulebook_cli.proofs.words.sample_number.Goals as goal

found : (c : goal.In-Some) → (length c.args.word.now ≤ 6) × ((c.in-Some.number < 1000000) × (number_of c.args.word.now ≡ Some c.in-Some.number))
found c =
    let short : length c.args.word.now ≤ 6 = search rules in
    (short, small_number c.args.word.now c.in-Some.number short (sym c.in-Some.is ∙ rw c.as_bytes.ensures.value at c.number_in.ensures))

pub overflow_cast-result : goal.overflow_cast-result
overflow_cast-result c = let f = found c in omega (arith, f.1.0)

pub returns-in-Some-clause-value : goal.returns-in-Some-clause-value
returns-in-Some-clause-value c = let f = found c in number_is c.args.word.now c.in-Some.number f.0 f.1.1

pub returns-in-Some-clause-within : goal.returns-in-Some-clause-within
returns-in-Some-clause-within c = let f = found c in omega (arith, f.1.0)
