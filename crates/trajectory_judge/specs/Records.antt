-- The recordings of a file, or its first fault. Rows that follow one another under one name are a
-- recording.
-- This project's own.
use Rattle.std.specs.Prelude.{◌≡◌, ◌≢◌, ℕ, ◌+◌, ◌-◌, ◌<◌, ◌≤◌, ◌++◌, Bool, true, false, not, List}
use Rattle.std.specs.Prelude.{[], ◌∷◌, length, map, All, Option, Some, None, IfSome, Result, Ok}
use Rattle.std.specs.Prelude.{Err, ◌==◌, nat_le, if◌then◌else◌, IsTrue, slice_get, slice_index_or}
use Rattle.std.specs.Prelude.{slice_set, unsigned_abs}
use Rattle.std.specs.Str.{bytes_eq}
use Rattle.preorder.specs.Name.{is_name}
use Rattle.reading.specs.Reading.{◌>>=◌, read_numbered, IsFirstFault}
use Rattle.rule_language.specs.Names.{AreDifferent, has_name}
use Rattle.violation_measures.specs.declared.step.Step.{Step}
use Rattle.trajectory_judge.specs.Fields.{said}
use Rattle.trajectory_judge.specs.Rows.{COLUMNS, Row, rows_left, rows_of, under_header}
use Rattle.trajectory_judge.specs.declared.fault.RecordFault.{RecordFault}
use Rattle.trajectory_judge.specs.declared.fault.RecordFault.TheVariants.{WrongHeader, Csv, TickGap}
use Rattle.trajectory_judge.specs.declared.fault.RecordFault.TheVariants.{DuplicateName, TooMany}
use Rattle.trajectory_judge.specs.declared.fault.RecordFault.TheVariants.{Empty, NoMemory}
use Rattle.trajectory_judge.specs.declared.limits.TheConstants.{MAX_RECORDINGS, MAX_RECORDED_STEPS}
use Rattle.trajectory_judge.specs.declared.limits.TheConstants.{MAX_RECORDED_TICK}
use Rattle.trajectory_judge.specs.declared.limits.TheConstants.{MAX_RECORDED_COORDINATE}
use Rattle.trajectory_judge.specs.declared.limits.TheConstants.{MAX_RECORDED_HEADING}
use Rattle.trajectory_judge.specs.declared.limits.TheConstants.{MAX_RECORDED_SPEED}
use Rattle.trajectory_judge.specs.declared.limits.TheConstants.{MAX_RECORDED_TURN}
use Rattle.trajectory_judge.specs.declared.records.Recording.{Recording}
use Rattle.trajectory_judge.specs.declared.records.Records.{Records}
use Rattle.trajectory_judge.specs.declared.rows.Rows.{Rows}

abbrev pub name_of : Recording → List ℕ
name_of run = run.name

-- the last item, if there is one
abbrev pub last_of : {X : Type 0} → List X → Option X
last_of xs = slice_get xs (length xs - 1)

-- the step has the tick after the last one's, if there is one
abbrev pub is_next : Option Step → Step → Bool
is_next None step = false
is_next (Some last) step = step.tick == last.tick + 1

-- row n goes on with the last recording
unfoldable pub going_on : ℕ → Step → Recording → List Recording
    → Result (List Recording) RecordFault
going_on n step run runs =
    if not (is_next (last_of run.steps) step) then Err (TickGap n)
    else if nat_le MAX_RECORDED_STEPS (length run.steps) then Err (TooMany n)
    else Ok (slice_set runs (length runs - 1) (record run { steps = run.steps ++ step ∷ [] }))

-- row n begins a recording
unfoldable pub beginning : ℕ → List ℕ → Step → List Recording → Result (List Recording) RecordFault
beginning n name step runs =
    if has_name name_of name runs then Err (DuplicateName n)
    else if nat_le MAX_RECORDINGS (length runs) then Err (TooMany n)
    else Ok (runs ++ (record { name = name; steps = step ∷ [] }) ∷ [])

-- after the last recording, if there is one: row n goes on with it where it has its name
abbrev pub after_last : ℕ → List ℕ → Step → Option Recording → List Recording
    → Result (List Recording) RecordFault
after_last n name step None runs = beginning n name step runs
after_last n name step (Some run) runs =
    if bytes_eq run.name name then going_on n step run runs else beginning n name step runs

-- the recordings with the step that row n says under the name
unfoldable pub with_step : ℕ → List ℕ → Step → Records → Result Records RecordFault
with_step n name step records =
    after_last n name step (last_of records.runs) records.runs
    >>= λ runs. Ok (record { runs = runs })

-- row n, after the rows before it
unfoldable pub row_step : List (List ℕ) → ℕ → Row → Records → Result Records RecordFault
row_step maneuvers n row records = said maneuvers n row >>= λ p. with_step n p.0 p.1 records

abbrev pub no_runs : Records
no_runs = record { runs = [] }

-- there is a recording
abbrev pub not_empty : Records → Result Records RecordFault
not_empty records = if length records.runs == 0 then Err Empty else Ok records

-- the recordings of the bytes of a file, whose maneuvers are among these
unfoldable pub records_of : List (List ℕ) → List ℕ → Result Records RecordFault
records_of maneuvers bytes =
    under_header (rows_of bytes) >>= λ rows.
    read_numbered (row_step maneuvers) 1 rows no_runs >>= not_empty

-- a step in the ranges of a recording
pub record IsDrive (step : Step) : Type 0 where
  pub tick : step.tick ≤ MAX_RECORDED_TICK
  pub x : unsigned_abs step.x ≤ MAX_RECORDED_COORDINATE
  pub y : unsigned_abs step.y ≤ MAX_RECORDED_COORDINATE
  pub heading : unsigned_abs step.heading ≤ MAX_RECORDED_HEADING
  pub speed : unsigned_abs step.speed ≤ MAX_RECORDED_SPEED
  pub accel : unsigned_abs step.accel ≤ MAX_RECORDED_SPEED
  pub turn : unsigned_abs step.turn ≤ MAX_RECORDED_TURN

-- and its maneuver is one of so many
pub record IsRecordedStep (maneuvers : ℕ) (step : Step) : Type 0 where
  pub drive : IsDrive step
  pub maneuver : IfSome step.maneuver (λ m. m < maneuvers)

-- each tick is the one after the tick before it
abbrev pub TicksRiseByOne : List Step → Type 0
TicksRiseByOne steps =
    (i : ℕ) (d : Step) → i + 1 < length steps → (slice_index_or steps (i + 1) d).tick
    ≡ (slice_index_or steps i d).tick + 1

-- a well-formed recording, whose maneuvers are among so many
pub record IsRecording (maneuvers : ℕ) (run : Recording) : Type 0 where
  pub name : IsTrue (is_name run.name)
  pub some : 1 ≤ length run.steps
  pub few : length run.steps ≤ MAX_RECORDED_STEPS
  pub steps : All (IsRecordedStep maneuvers) run.steps
  pub ticks : TicksRiseByOne run.steps

-- well-formed recordings: none to 200 of them, with different names
pub record AreRuns (maneuvers : ℕ) (runs : List Recording) : Type 0 where
  pub few : length runs ≤ MAX_RECORDINGS
  pub different : AreDifferent name_of runs
  pub each : All (IsRecording maneuvers) runs

-- the recordings of a file: there is one at least
pub record AreRecords (maneuvers : ℕ) (records : Records) : Type 0 where
  pub some : 1 ≤ length records.runs
  pub runs : AreRuns maneuvers records.runs

-- the next row, of this number, has not nine fields
abbrev pub IsCut : Rows → ℕ → RecordFault → Type 0
IsCut rows n fault =
    (row : Row) × (rest : List Row) × (rows_left rows ≡ row ∷ rest) × (length row ≢ COLUMNS)
    × (fault ≡ Csv n)

-- what each row says, the first of them the n-th
unfoldable pub each_said : List (List ℕ) → ℕ → List Row → Result (List (List ℕ × Step)) RecordFault
each_said maneuvers n [] = Ok []
each_said maneuvers n (row ∷ rows) =
    said maneuvers n row >>= λ p. each_said maneuvers (n + 1) rows >>= λ ps. Ok (p ∷ ps)

-- each step of each recording, under its recording's name
abbrev pub all_steps : List Recording → List (List ℕ × Step)
all_steps [] = []
all_steps (run ∷ runs) =
    map {A = Step} {B = List ℕ × Step} (λ step. (run.name, step)) run.steps ++ all_steps runs

-- the recordings are well formed, and their steps are what the rows of the file say, in its order
pub record AreRecordsOf (maneuvers : List (List ℕ)) (bytes : List ℕ)
    (records : Records) : Type 0 where
  pub rows : List Row
  pub header : under_header (rows_of bytes) ≡ Ok rows
  pub say : each_said maneuvers 1 rows ≡ Ok (all_steps records.runs)
  pub well_formed : AreRecords (length maneuvers) records

-- the faults that are no row's
abbrev pub is_of_file : RecordFault → Bool
is_of_file WrongHeader = true
is_of_file Empty = true
is_of_file NoMemory = true
is_of_file _ = false

-- the first faulty row of a file: the rows before it were all read, and then it was refused, by its
-- number and what was read so far
pub record IsFirstFaultyRow (maneuvers : List (List ℕ)) (bytes : List ℕ)
    (fault : RecordFault) : Type 0 where
  pub rows : List Row
  pub header : under_header (rows_of bytes) ≡ Ok rows
  pub first : IsFirstFault (row_step maneuvers) 1 rows no_runs fault
