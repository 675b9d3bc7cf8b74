use Rattle.std.specs.Prelude.{◌≤◌, IfSome, map}
use Rattle.std.proofs.Common.{subst, sym}
use Rattle.rule_language.specs.declared.limits.TheConstants.{MAX_WEIGHT}
use Rattle.book_operations.proofs.SmallFactors.{factor_small}
use Rattle.book_operations.proofs.factors.small_factor.Goals as goal

pub returns-clause-small : goal.returns-clause-small
returns-clause-small c = subst (λ o. IfSome o (λ times. times ≤ MAX_WEIGHT)) (sym c.factor_in.ensures) (factor_small (map (λ w. w.now) c.args.words.now) c.args.name.now c.requires)
