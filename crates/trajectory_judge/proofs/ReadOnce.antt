-- What a read of the reader leaves of the rows.
use Rattle.std.specs.Prelude.{◌≡◌, ℕ, ◌≤◌, Bool, true, false, List, [], ◌∷◌, length, Option, Some, None, IfSome, IsSome}
use Rattle.std.proofs.Common.{Bor, refl, arith}
use Rattle.csv.specs.Reading.{ReadRecord, TookRecord, default_config, pending_of, reader_config, reader_state, source_of, strip_bom, is_bom}
use Rattle.csv.specs.declared.reader.Reader.{Reader}
use Rattle.trajectory_judge.specs.Rows.{Row, rows_from}
use Rattle.trajectory_judge.proofs.CsvRows.{row_taken, no_row}

abbrev Bytes : Type 0
Bytes = Reader (Bor (List ℕ))

abbrev source : Bytes → Option (List ℕ)
source a = source_of (λ s. Some s.now) a

pub taken : (a b : Bytes) (row : Row) → reader_config a ≡ default_config → IsSome (source a) → ReadRecord (λ s. Some s.now) a b true row
    → IsSome (source b) × (rows_from (reader_state a) (source a) ≡ row ∷ rows_from (reader_state b) (source b))
taken a b row plain known r = rw r.1 (row_taken (reader_state a) (reader_state b) (source a) (pending_of (Some b.rdr.now) b) row known (rw plain at r.0))

pub ended : (a b : Bytes) (row : Row) → reader_config a ≡ default_config → IsSome (source a) → ReadRecord (λ s. Some s.now) a b false row → rows_from (reader_state a) (source a) ≡ []
ended a b row plain known r = no_row (reader_state a) (reader_state b) (source a) (pending_of (Some b.rdr.now) b) row known (rw plain at r.0)

pub even : (o k : Option ℕ) (n : ℕ) → IfSome o (λ e. k ≡ Some e) → k ≡ Some n → IfSome o (λ e. n ≡ e)
even None k n h e = tt
even (Some m) k n h e = cc

pub took : (a b : Bytes) (row : Row) → reader_config a ≡ default_config → IsSome (source a) → TookRecord (λ s. Some s.now) a b row
    → rows_from (reader_state a) (source a) ≡ row ∷ rows_from (reader_state b) (pending_of (Some b.rdr.now) b)
took a b row plain known r = (row_taken (reader_state a) (reader_state b) (source a) (pending_of (Some b.rdr.now) b) row known (rw plain at r)).1

pub no_longer : (xs : List ℕ) → length (strip_bom xs) ≤ length xs
unfolding strip_bom
no_longer [] = omega arith
no_longer (a ∷ []) = omega arith
no_longer (a ∷ b ∷ []) = omega arith
no_longer (a ∷ b ∷ c ∷ rest) = by (is_bom a b c) refl
  where
    by : (t : Bool) → is_bom a b c ≡ t → length (strip_bom (a ∷ b ∷ c ∷ rest)) ≤ length (a ∷ b ∷ c ∷ rest)
    by true e = rw e (omega arith)
    by false e = rw e (omega arith)
