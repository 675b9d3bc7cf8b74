-- The rows of a file of recordings. What a record of comma-separated values is, is what `csv`
-- promises of its reader with the defaults: RFC 4180, with a byte order mark left out and empty
-- lines skipped.
use Rattle.std.specs.Prelude.{◌≡◌, ◌≢◌, ℕ, ◌+◌, Bool, false, ◌&&◌, List, [], ◌∷◌, length, Option}
use Rattle.std.specs.Prelude.{Some, None, IfSome, IsSome, Result, Ok, Err, if◌then◌else◌, codes}
use Rattle.std.specs.Str.{bytes_eq}
use Rattle.csv.specs.Reading.{default_config, records, records_from, strip_bom, source_of}
use Rattle.csv.specs.Reading.{reader_config, reader_state, reader_trim, is_flexible, expected_len}
use Rattle.csv.specs.Reading.{Ready}
use Rattle.csv.specs.Records.{fields_of}
use Rattle.csv.specs.declared.parser.State.{State}
use Rattle.csv.specs.declared.reader.Trim.TheVariants as trim
use Rattle.trajectory_judge.specs.declared.fault.RecordFault.{RecordFault}
use Rattle.trajectory_judge.specs.declared.fault.RecordFault.TheVariants.{WrongHeader}
use Rattle.trajectory_judge.specs.declared.rows.Fields.{Fields}
use Rattle.trajectory_judge.specs.declared.rows.Rows.{Rows}

-- the fields of a row
abbrev pub Row : Type 0
Row = List (List ℕ)

-- the rows of some bytes, the header among them
unfoldable pub rows_of : List ℕ → List Row
rows_of bytes = records default_config (strip_bom bytes)

-- how many columns there are
abbrev pub COLUMNS : ℕ
COLUMNS = 9

-- each field is the name of its column
unfoldable pub is_header : Row → Bool
is_header (name ∷ tick ∷ x ∷ y ∷ heading ∷ speed ∷ accel ∷ turn ∷ maneuver ∷ []) =
    bytes_eq name (codes "name") && (bytes_eq tick (codes "tick")
    && (bytes_eq x (codes "x") && (bytes_eq y (codes "y") && (bytes_eq heading (codes "heading")
    && (bytes_eq speed (codes "speed") && (bytes_eq accel (codes "accel")
    && (bytes_eq turn (codes "turn") && bytes_eq maneuver (codes "maneuver"))))))))
is_header _ = false

-- the rows under the header
abbrev pub under_header : List Row → Result (List Row) RecordFault
under_header [] = Err WrongHeader
under_header (first ∷ rows) = if is_header first then Ok rows else Err WrongHeader

-- the row of these fields
abbrev pub columns : Fields → Row
columns f =
    f.name.now ∷ f.tick.now ∷ f.x.now ∷ f.y.now ∷ f.heading.now ∷ f.speed.now ∷ f.accel.now
    ∷ f.turn.now ∷ f.maneuver.now ∷ []

-- the rows from a state of the reader
unfoldable pub rows_from : State → Option (List ℕ) → List Row
rows_from s None = []
rows_from s (Some bytes) = records_from default_config (length bytes + 1) s bytes

-- the bytes that are still to be read
abbrev pub bytes_left : Rows → Option (List ℕ)
bytes_left rows = source_of (λ s. Some s.now) rows.reader

-- the rows that are still to be taken
abbrev pub rows_left : Rows → List Row
rows_left rows = rows_from (reader_state rows.reader) (bytes_left rows)

-- the row that was taken last
abbrev pub row_of : Rows → Row
row_of rows = fields_of rows.record

-- how many fields each row must have, once a row was taken
abbrev pub row_width : Rows → Option ℕ
row_width rows = expected_len rows.reader

-- rows are taken as they stand, and each has as many fields as the first
pub record IsOpen (rows : Rows) : Type 0 where
  pub plain : reader_config rows.reader ≡ default_config
  pub untrimmed : reader_trim rows.reader ≡ trim.None
  pub even : is_flexible rows.reader ≡ false
  pub ready : Ready rows.reader
  pub told : IsSome (bytes_left rows)

-- a row was taken
pub record GotRow (old new : Rows) : Type 0 where
  pub row : rows_left old ≡ row_of new ∷ rows_left new
  pub stays : IsOpen new
  pub width : row_width new ≡ Some (length (row_of new))
  pub even : IfSome (row_width old) (λ n. length (row_of new) ≡ n)

-- the next row has not as many fields as the first
pub record IsUneven (rows : Rows) : Type 0 where
  pub row : Row
  pub rest : List Row
  pub next : rows_left rows ≡ row ∷ rest
  pub some : IsSome (row_width rows)
  pub uneven : IfSome (row_width rows) (λ n. length row ≢ n)
