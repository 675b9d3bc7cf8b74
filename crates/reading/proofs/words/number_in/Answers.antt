use Rattle.std.proofs.Common.{rules}
use Rattle.reading.proofs.Digits.{more_digits}
use Rattle.reading.proofs.words.number_in.Goals as goal

pub loop-b-preserved : goal.loop-b-preserved
loop-b-preserved c = more_digits c.args.word.now c.loop-b.b-index c.loop-b.value c.min-value.result _ c.loop-b-test.true (search rules) c.loop-b.invariant (search rules)
