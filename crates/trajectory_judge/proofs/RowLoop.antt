-- A loop over rows.
use Rattle.std.proofs.Common.{◌≡◌, ℕ, List, Err, refl}
use Rattle.trajectory_judge.specs.Records.{IsCut, row_step}
use Rattle.reading.proofs.ReadingLaws.{items_stop}
use Rattle.reading.specs.Reading.{read_numbered}
use Rattle.trajectory_judge.specs.Rows.{Row, rows_left}
use Rattle.trajectory_judge.specs.declared.fault.RecordFault.{RecordFault}
use Rattle.trajectory_judge.specs.declared.records.Records.{Records}
use Rattle.trajectory_judge.specs.declared.rows.Rows.{Rows}
use Rattle.trajectory_judge.proofs.Columns.{not_nine}

-- a row that has not nine fields is the first fault, where the rows before it were read
pub rows_cut : (maneuvers : List (List ℕ)) (n : ℕ) (rows : Rows) (s : Records) (e : RecordFault) → IsCut rows n e → read_numbered (row_step maneuvers) n (rows_left rows) s ≡ Err e
unfolding row_step
rows_cut maneuvers n rows s e cut = items_stop (row_step maneuvers) n (rows_left rows) s cut.0 cut.1 e cut.2 (rw (not_nine maneuvers n cut.0 cut.3, cut.4) refl)
