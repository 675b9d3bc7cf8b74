use Rattle.std.proofs.Common.{◌≡◌, ◌+◌, ◌<◌, ◌^◌, Some, length}
use Rattle.trajectory_judge.specs.Records.{AreRuns, row_step}
use Rattle.reading.specs.Reading.{read_numbered}
use Rattle.trajectory_judge.specs.Rows.{COLUMNS, IsOpen, row_width, rows_left}
use Rattle.trajectory_judge.proofs.records.Records.add_rows.Given as goal

abbrev pub invariant-loop-row : goal.invariant-loop-row
invariant-loop-row l =
    (read_numbered (row_step l.maneuvers) (l.row + 1) (rows_left l.rows) l.self ≡ read_numbered (row_step l.maneuvers) 1 (rows_left l.fn.rows) l.fn.self)
    × (l.row + length (rows_left l.rows) < 2 ^ 64)
    × IsOpen l.rows
    × (row_width l.rows ≡ Some COLUMNS)
    × AreRuns (length l.maneuvers) l.self.runs

abbrev pub decreases-loop-row : goal.decreases-loop-row
decreases-loop-row l = length (rows_left l.rows)
