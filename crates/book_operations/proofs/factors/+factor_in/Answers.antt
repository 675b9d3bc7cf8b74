use Rattle.std.proofs.Common.{◌∙◌, sym}
use Rattle.book_operations.proofs.SmallFactors.{factor-next}
use Rattle.book_operations.proofs.factors.+factor_in.Goals as goal

pub returns-in-len2-up-2 : goal.returns-in-len2-up-2
returns-in-len2-up-2 t c = factor-next c.args.words.now _ c.args.name.now c.factor_in.result c.in-len2-up.len_at_least (sym c.same_word.ensures ∙ c.if-same_word.false) c.factor_in.ensures
