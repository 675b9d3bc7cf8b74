use Rattle.std.proofs.Common.{sym}
use Rattle.csv.proofs.RecordFacts.{field-there}
use Rattle.csv.specs.Records.{fields_of}
use Rattle.trajectory_judge.proofs.rows.field.Goals as goal

pub returns-in-None : goal.returns-in-None
returns-in-None c = absurd (field-there (fields_of c.args.row.now) c.args.place c.requires (sym c.in-None.ensures.value))
