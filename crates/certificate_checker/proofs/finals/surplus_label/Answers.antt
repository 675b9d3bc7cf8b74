use Rattle.std.proofs.Common.{length, refl, arith}
use Rattle.std.proofs.lemmas.Option.{slice_get_read}
use Rattle.certificate_checker.proofs.finals.surplus_label.Goals as goal

pub choices-requires : goal.choices-requires
choices-requires g c =
    let p = c.index-pairs-k.result in
    let there = slice_get_read c.args.pairs.now (length c.args.pairs.now) c.loop-k.k p refl (omega arith) c.index-pairs-k.is in
    (p.1, c.requires.reached c.loop-k.k p.0 p.1 there)
