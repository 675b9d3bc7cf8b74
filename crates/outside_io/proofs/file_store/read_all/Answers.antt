use Rattle.std.proofs.Common.{◌<◌, length, arith}
use Rattle.outside_io.proofs.Pieces.{all_left}
use Rattle.outside_io.proofs.file_store.read_all.Goals as goal

pub returns-in-Ok-clause-all : goal.returns-in-Ok-clause-all
returns-in-Ok-clause-all g c =
    let few : length c.read_to_end.new.buf.items < 16777217 = omega (arith, c.len.ensures, c.if-len-le-MAX_FILE.true) in
    all_left (g.F.Read.remaining c.args.file) 16777217 c.read_to_end.new.buf.items
    (rw (← c.take.ensures.limit, ← c.take.ensures.inner) (rw c.new-bytes.ensures.items at c.in-Ok.ensures.bytes)) few
