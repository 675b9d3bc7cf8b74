use Rattle.trajectory_judge.specs.Rows.{row_of}
use Rattle.trajectory_judge.proofs.Columns.{nine_fields}
use Rattle.trajectory_judge.proofs.rows.Rows.fields.Goals as goal

pub returns : goal.returns
returns c = nine_fields (row_of c.args.self.now) _ _ _ _ _ _ _ _ _ c.requires c.field.ensures c.field-2.ensures c.field-3.ensures c.field-4.ensures c.field-5.ensures c.field-6.ensures c.field-7.ensures c.field-8.ensures c.field-9.ensures
