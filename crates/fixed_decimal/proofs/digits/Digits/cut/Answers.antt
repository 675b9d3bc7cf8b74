use Rattle.std.proofs.Common.{◌-◌, arith, sym}
use Rattle.fixed_decimal.specs.Parts.{all_digits}
use Rattle.fixed_decimal.proofs.Numbers.{cut_none, cut_low, cut_high, cut_least}
use Rattle.fixed_decimal.proofs.Pieces.{digits_whole}
use Rattle.fixed_decimal.proofs.digits.Digits.cut.Goals as goal

pub returns-then-last-count : goal.returns-then-last-count
returns-then-last-count c =
    let ds = all_digits c.args.self in
    let all = digits_whole c.args.self c.requires.digits in
    (sym (cut_none ds c.args.last all (omega arith)), omega arith)

pub returns-in-None : goal.returns-in-None
returns-in-None c =
    let ds = all_digits c.args.self in
    let all = digits_whole c.args.self c.requires.digits in
    omega (arith, c.in-None.ensures, cut_least ds (c.count-count.result - c.args.last) c.args.last all c.requires.last (omega arith))

pub returns-then-at-lt5 : goal.returns-then-at-lt5
returns-then-at-lt5 c =
    let ds = all_digits c.args.self in
    let all = digits_whole c.args.self c.requires.digits in
    let e = cut_low ds (c.count-count.result - c.args.last) c.args.last all c.requires.last (omega arith) (omega (arith, c.if-at-lt5.true)) in
    (omega (arith, e, c.in-Some.ensures.0), c.in-Some.ensures.1)

pub returns-then-value-eq-MAX_VALUE : goal.returns-then-value-eq-MAX_VALUE
returns-then-value-eq-MAX_VALUE c =
    let ds = all_digits c.args.self in
    let all = digits_whole c.args.self c.requires.digits in
    let e = cut_high ds (c.count-count.result - c.args.last) c.args.last all c.requires.last (omega arith) (omega (arith, c.if-at-lt5.false)) in
    omega (arith, e, c.in-Some.ensures.0)

pub returns-else-value-eq-MAX_VALUE : goal.returns-else-value-eq-MAX_VALUE
returns-else-value-eq-MAX_VALUE c =
    let ds = all_digits c.args.self in
    let all = digits_whole c.args.self c.requires.digits in
    let e = cut_high ds (c.count-count.result - c.args.last) c.args.last all c.requires.last (omega arith) (omega (arith, c.if-at-lt5.false)) in
    (omega (arith, e, c.in-Some.ensures.0), omega (arith, c.in-Some.ensures.1))
