use Rattle.std.proofs.Common.{Some, sym, arith}
use Rattle.trajectory_judge.proofs.CsvRows.{all_rows, few_rows}
use Rattle.trajectory_judge.proofs.ReadOnce.{no_longer}
use Rattle.csv.specs.Reading.{strip_bom}
use Rattle.csv.specs.declared.parser.State.TheVariants as st
use Rattle.trajectory_judge.proofs.rows.Rows.of.Goals as goal

pub returns-clause-left : goal.returns-clause-left
returns-clause-left c = rw (c.from_reader.ensures.state, c.from_reader.ensures.source) (sym (all_rows c.args.bytes.now))

pub returns-clause-few : goal.returns-clause-few
returns-clause-few c = rw (c.from_reader.ensures.state, c.from_reader.ensures.source)
    (few_rows st.StartRecord (Some (strip_bom c.args.bytes.now)) 18446744073709551616 (omega (arith, no_longer c.args.bytes.now, c.prove_short.ensures)))
