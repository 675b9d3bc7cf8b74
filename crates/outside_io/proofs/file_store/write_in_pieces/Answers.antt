use Rattle.std.proofs.Common.{◌≡◌, length, sym, ◌∙◌}
use Rattle.std.proofs.lemmas.Bool.{eqb-true}
use Rattle.outside_io.proofs.Pieces.{written_none, written_more, written_all}
use Rattle.outside_io.proofs.file_store.write_in_pieces.Goals as goal

pub loop-rest-init : goal.loop-rest-init
loop-rest-init g c = written_none (g.W.Write.contents c.args.file.now) c.args.bytes.now

pub loop-rest-preserved : goal.loop-rest-preserved
loop-rest-preserved g c = written_more _ _ _ _ c.loop-rest.rest.now c.min-most.result c.loop-rest.invariant c.in_ok-write_all.ensures.bytes

pub returns : goal.returns
returns g c =
    let none : length c.loop-rest.rest.now ≡ 0 = eqb-true (length c.loop-rest.rest.now) 0 (sym c.is_empty.ensures ∙ c.loop-rest-test.false) in
    written_all _ _ _ c.loop-rest.rest.now c.loop-rest.invariant none
