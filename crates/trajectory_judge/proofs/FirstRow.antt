-- A file is refused by its first faulty row.
use Rattle.std.specs.Prelude.{◌≡◌, ℕ, ◌+◌, Bool, true, false, List, [], ◌∷◌, ◌++◌, length, Result, Ok, Err, IfErr}
use Rattle.std.specs.Bool.{OnFalse}
use Rattle.std.proofs.Common.{eqb, refl, sym, ap, ◌∙◌, arith, cond, subst}
use Rattle.reading.specs.Reading.{◌>>=◌, Gives, read_numbered}
use Rattle.reading.proofs.FirstFault.{first_fault}
use Rattle.reading.proofs.ReadingLaws.{handed_on}
use Rattle.trajectory_judge.specs.Faults.{is_memory}
use Rattle.trajectory_judge.specs.Records.{AreRecordsOf, IsFirstFaultyRow, is_of_file, no_runs, not_empty, records_of, row_step}
use Rattle.trajectory_judge.specs.Rows.{Row, is_header, rows_of, under_header}
use Rattle.trajectory_judge.specs.declared.fault.RecordFault.{RecordFault}
use Rattle.trajectory_judge.specs.declared.fault.RecordFault.TheVariants.{WrongHeader, Csv, BadName, BadNumber, UnknownManeuver, TickGap, DuplicateName, TooMany, Empty, NoMemory}
use Rattle.trajectory_judge.specs.declared.records.Records.{Records}
use Rattle.trajectory_judge.proofs.OnlyReading.{only_reading}

-- a fault that is no row's asks nothing
of_file : (P : Type 0) (f : RecordFault) → is_of_file f ≡ true → OnFalse (is_of_file f) P
of_file P f e = rw e tt

same_fault : (f g : RecordFault) → ◌≡◌ {A = Result Records RecordFault} (Err g) (Err f) → g ≡ f
same_fault f g e = cc

wrong_header : (rows : List Row) (f : RecordFault) → under_header rows ≡ Err f → is_of_file f ≡ true
wrong_header [] f e = let is : WrongHeader ≡ f = cc in rw (← is) refl
wrong_header (row ∷ rows) f e = by (is_header row) e
  where
    by : (b : Bool) → cond b (Ok rows) (Err WrongHeader) ≡ Err f → is_of_file f ≡ true
    by true e = absurd cc
    by false e = let is : WrongHeader ≡ f = cc in rw (← is) refl

pub first_row : (maneuvers : List (List ℕ)) (bytes : List ℕ) (f : RecordFault) → records_of maneuvers bytes ≡ Err f → OnFalse (is_of_file f) (IsFirstFaultyRow maneuvers bytes f)
unfolding records_of
first_row maneuvers bytes f h = by (under_header (rows_of bytes)) refl h
  where
    row_or_file : (b : Bool) → IsFirstFaultyRow maneuvers bytes f → OnFalse b (IsFirstFaultyRow maneuvers bytes f)
    row_or_file true first = tt
    row_or_file false first = first

    none : (t : Records) (b : Bool) → cond b (Err Empty) (Ok t) ≡ Err f → is_of_file f ≡ true
    none t true e = let is : Empty ≡ f = cc in rw (← is) refl
    none t false e = absurd cc

    read : (rows : List Row) → under_header (rows_of bytes) ≡ Ok rows → (r : Result Records RecordFault) → read_numbered (row_step maneuvers) 1 rows no_runs ≡ r → (r >>= not_empty) ≡ Err f → OnFalse (is_of_file f) (IsFirstFaultyRow maneuvers bytes f)
    read rows header (Ok t) e k = of_file (IsFirstFaultyRow maneuvers bytes f) f (none t (eqb (length t.runs) 0) k)
    read rows header (Err g) e k =
        row_or_file (is_of_file f) (record {
          rows = rows;
          header = header;
          first = first_fault (row_step maneuvers) 1 rows no_runs f (e ∙ k);
        })

    by : (r : Result (List Row) RecordFault) → under_header (rows_of bytes) ≡ r → (r >>= λ rows. read_numbered (row_step maneuvers) 1 rows no_runs >>= not_empty) ≡ Err f → OnFalse (is_of_file f) (IsFirstFaultyRow maneuvers bytes f)
    by (Ok rows) e k = read rows e (read_numbered (row_step maneuvers) 1 rows no_runs) refl k
    by (Err g) e k = of_file (IsFirstFaultyRow maneuvers bytes f) f (subst (λ (x : RecordFault). is_of_file x ≡ true) (same_fault f g k) (wrong_header (rows_of bytes) g e))

or_free : (P : Type 0) (f : RecordFault) → OnFalse (is_memory f) (OnFalse (is_of_file f) P) → OnFalse (is_of_file f) P
or_free P WrongHeader h = tt
or_free P (Csv n) h = h
or_free P (BadName n) h = h
or_free P (BadNumber n) h = h
or_free P (UnknownManeuver n) h = h
or_free P (TickGap n) h = h
or_free P (DuplicateName n) h = h
or_free P (TooMany n) h = h
or_free P Empty h = tt
or_free P NoMemory h = tt

pub first_of : (maneuvers : List (List ℕ)) (bytes : List ℕ) (r : Result Records RecordFault) → Gives is_memory (λ records. records) r (records_of maneuvers bytes) → IfErr r (λ f. OnFalse (is_of_file f) (IsFirstFaultyRow maneuvers bytes f))
first_of maneuvers bytes (Ok records) h = tt
first_of maneuvers bytes (Err f) h = or_free (IsFirstFaultyRow maneuvers bytes f) f (handed_on (is_memory f) (first_row maneuvers bytes f) h)

pub only_of : (maneuvers : List (List ℕ)) (bytes : List ℕ) (r : Result Records RecordFault) → Gives is_memory (λ records. records) r (records_of maneuvers bytes) → (records : Records) → AreRecordsOf maneuvers bytes records → Gives is_memory (λ records. records) r (Ok records)
only_of maneuvers bytes (Ok read) h records are = sym (only_reading maneuvers bytes records are) ∙ h
only_of maneuvers bytes (Err f) h records are = rw (← only_reading maneuvers bytes records are) h
