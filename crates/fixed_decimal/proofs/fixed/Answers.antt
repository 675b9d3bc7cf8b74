use Rattle.std.proofs.Common.{subst, sym, arith, ◌≤◌, length}
use Rattle.fixed_decimal.specs.Parts.{IsShort}
use Rattle.fixed_decimal.proofs.Spelling.{short}
use Rattle.fixed_decimal.proofs.fixed.Goals as goal
use Rattle.fixed_decimal.specs.declared.limits.TheConstants.{MAX_BYTES}

pub rounded-requires : goal.rounded-requires
rounded-requires c =
    let limit : length c.args.text.now ≤ MAX_BYTES = omega arith in
    subst IsShort (sym c.in-Some.ensures.1) (short c.args.text.now c.in-Some.ensures.0 limit)
