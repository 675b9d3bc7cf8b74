-- The records of a text, one after the other.
use Rattle.std.specs.Prelude.{◌≡◌, ℕ, zero, suc, ◌+◌, ◌<◌, ◌≤◌, Bool, true, false, List, [], ◌∷◌, ◌++◌, length, Option, Some, None, IfSome, IsSome}
use Rattle.std.proofs.Common.{refl, sym, ap, ◌∙◌, ◌⊎◌, inl, inr, add-one, arith}
use Rattle.csv.specs.Machine.{Read, next_record, step, is_end, ends_at_end, fields_after, field_after}
use Rattle.csv.specs.Reading.{ReadsNext, NextIs, default_config, records_from, records_next, strip_bom}
use Rattle.csv.specs.declared.parser.Config.{Config}
use Rattle.csv.specs.declared.parser.State.{State}
use Rattle.csv.specs.declared.parser.State.TheVariants as st
use Rattle.trajectory_judge.specs.Rows.{Row, rows_of, rows_from}

-- the record ends the text
record Ends (xs : List ℕ) (p : Read) : Type 0 where
  none : xs ≡ []
  start : p.1 ≡ st.StartRecord
  rest : p.2 ≡ []

ends : (r p : Read) → r.1 ≡ st.StartRecord → r.2 ≡ [] → Some r ≡ Some p → Ends [] p
ends r p a b e = let f : r ≡ p = cc in record { none = refl; start = sym (ap (λ (q : Read). q.1) f) ∙ a; rest = sym (ap (λ (q : Read). q.2) f) ∙ b }

rest_of : (r p : Read) (xs : List ℕ) → r.2 ≡ xs → Some r ≡ Some p → p.2 ≡ xs
rest_of r p xs b e = let f : r ≡ p = cc in sym (ap (λ (q : Read). q.2) f) ∙ b

-- a record takes a byte at least, or ends the text
shorter : (cfg : Config) (s : State) (fields : List (List ℕ)) (field xs : List ℕ) (p : Read) → next_record cfg s fields field xs ≡ Some p → (length p.2 < length xs) ⊎ Ends xs p
unfolding next_record
shorter cfg s fields field [] p e = by (ends_at_end s) refl e
  where
    by : (b : Bool) → ends_at_end s ≡ b → next_record cfg s fields field [] ≡ Some p → (length p.2 < length {A = ℕ} []) ⊎ Ends [] p
    by true t q = inr (ends (fields ++ (field ∷ []), st.StartRecord, []) p refl refl (rw t at q))
    by false t q = cc (rw t at q)
shorter cfg s fields field (c ∷ rest) p e = by (is_end (step cfg s c).1) refl e (λ q. shorter cfg (step cfg s c).0 (fields_after (step cfg s c).1 fields field) (field_after (step cfg s c).1 c field) rest p q)
  where
    further : (length p.2 < length rest) ⊎ Ends rest p → (length p.2 < length (c ∷ rest)) ⊎ Ends (c ∷ rest) p
    further (inl less) = inl (omega (arith, less))
    further (inr end) = inl (omega (arith, ap (length {A = ℕ}) end.rest))

    by : (b : Bool) → is_end (step cfg s c).1 ≡ b → next_record cfg s fields field (c ∷ rest) ≡ Some p
        → (next_record cfg (step cfg s c).0 (fields_after (step cfg s c).1 fields field) (field_after (step cfg s c).1 c field) rest ≡ Some p → (length p.2 < length rest) ⊎ Ends rest p)
        → (length p.2 < length (c ∷ rest)) ⊎ Ends (c ∷ rest) p
    by true t q again =
        let f : p.2 ≡ rest = rest_of (fields_after (step cfg s c).1 fields field, (step cfg s c).0, rest) p rest refl (rw t at q) in
        inl (omega (arith, ap (length {A = ℕ}) f))
    by false t q again = further (again (rw t at q))

none_left : (cfg : Config) (n : ℕ) → records_from cfg n st.StartRecord [] ≡ []
unfolding records_from next_record
none_left cfg zero = refl
none_left cfg (suc n) = refl

-- how often a record may be read makes no difference, once that is more than the bytes are
enough : (cfg : Config) (n m : ℕ) (s : State) (xs : List ℕ) → length xs < n → length xs < m → records_from cfg n s xs ≡ records_from cfg m s xs
unfolding records_from
enough cfg zero m s xs h k = absurd (omega arith)
enough cfg (suc n) zero s xs h k = absurd (omega arith)
enough cfg (suc n) (suc m) s xs h k = by (next_record cfg s [] [] xs) refl (λ p less. enough cfg n m p.1 p.2 (omega arith) (omega arith))
  where
    after : (p : Read) → (length p.2 < length xs → records_from cfg n p.1 p.2 ≡ records_from cfg m p.1 p.2) → (length p.2 < length xs) ⊎ Ends xs p → records_from cfg n p.1 p.2 ≡ records_from cfg m p.1 p.2
    after p again (inl less) = again less
    after p again (inr end) = rw (end.start, end.rest) (none_left cfg n ∙ sym (none_left cfg m))

    by : (o : Option Read) → next_record cfg s [] [] xs ≡ o → ((p : Read) → length p.2 < length xs → records_from cfg n p.1 p.2 ≡ records_from cfg m p.1 p.2) → records_next (records_from cfg n) o ≡ records_next (records_from cfg m) o
    by None e again = refl
    by (Some p) e again = ap (λ (rows : List Row). p.0 ∷ rows) (after p (again p) (shorter cfg s [] [] xs p e))

-- the next record, and those after it
one_more : (cfg : Config) (s : State) (xs : List ℕ) (p : Read) → next_record cfg s [] [] xs ≡ Some p → records_from cfg (length xs + 1) s xs ≡ p.0 ∷ records_from cfg (length p.2 + 1) p.1 p.2
unfolding records_from
one_more cfg s xs p e = rw (add-one (length xs), e) (ap (λ (rows : List Row). p.0 ∷ rows) (after (shorter cfg s [] [] xs p e)))
  where
    after : (length p.2 < length xs) ⊎ Ends xs p → records_from cfg (length xs) p.1 p.2 ≡ records_from cfg (length p.2 + 1) p.1 p.2
    after (inl less) = enough cfg (length xs) (length p.2 + 1) p.1 p.2 less (omega arith)
    after (inr end) = rw (end.start, end.rest) (none_left cfg (length xs) ∙ sym (none_left cfg (length {A = ℕ} [] + 1)))

no_more : (cfg : Config) (s : State) (xs : List ℕ) → next_record cfg s [] [] xs ≡ None → records_from cfg (length xs + 1) s xs ≡ []
unfolding records_from
no_more cfg s xs e = rw (add-one (length xs), e) refl

-- there are no more records than that
few : (cfg : Config) (n : ℕ) (s : State) (xs : List ℕ) → length (records_from cfg n s xs) ≤ n
unfolding records_from
few cfg zero s xs = omega arith
few cfg (suc n) s xs = by (next_record cfg s [] [] xs) (λ p. few cfg n p.1 p.2)
  where
    by : (o : Option Read) → ((p : Read) → length (records_from cfg n p.1 p.2) ≤ n) → length (records_next (records_from cfg n) o) ≤ suc n
    by None again = omega arith
    by (Some p) again = omega (arith, again p)

pub few_rows : (s : State) (bytes : Option (List ℕ)) (n : ℕ) → IfSome bytes (λ xs. length xs < n) → length (rows_from s bytes) ≤ n
unfolding rows_from
few_rows s None n h = omega arith
few_rows s (Some xs) n h = omega (arith, h, few default_config (length xs + 1) s xs)

pub all_rows : (bytes : List ℕ) → rows_of bytes ≡ rows_from st.StartRecord (Some (strip_bom bytes))
unfolding rows_of rows_from
all_rows bytes = refl

next_some : (o : Option Read) (f : Row) (s : State) (z : List ℕ) → NextIs o true f s z → (p : Read) × (o ≡ Some p) × (f ≡ p.0) × (s ≡ p.1) × (z ≡ p.2)
next_some None f s z n = cc n
next_some (Some p) f s z n = (p, refl, n.1, n.2, n.3)

next_none : (o : Option Read) (f : Row) (s : State) (z : List ℕ) → NextIs o false f s z → o ≡ None
next_none None f s z n = refl
next_none (Some p) f s z n = cc n.0

same_rows : (a b : Row) (s t : State) (xs ys : List ℕ) → a ≡ b → s ≡ t → xs ≡ ys → b ∷ records_from default_config (length ys + 1) t ys ≡ a ∷ records_from default_config (length xs + 1) s xs
same_rows a b s t xs ys e f g = rw (e, f, g) refl

-- a record that was read is the next row, and the others come after it
pub row_taken : (s t : State) (before after : Option (List ℕ)) (row : Row) → IsSome before → ReadsNext default_config s before after true row t
    → IsSome after × (rows_from s before ≡ row ∷ rows_from t after)
unfolding rows_from
row_taken s t None after row h r = absurd (cc h)
row_taken s t (Some xs) None row h r = absurd r
row_taken s t (Some xs) (Some ys) row h r =
    let n = next_some _ row t ys r in
    (refl, one_more default_config s xs n.0 n.1 ∙ same_rows row n.0.0 t n.0.1 ys n.0.2 n.2 n.3 n.4)

-- where no record was read there is no row
pub no_row : (s t : State) (before after : Option (List ℕ)) (row : Row) → IsSome before → ReadsNext default_config s before after false row t → rows_from s before ≡ []
unfolding rows_from
no_row s t None after row h r = absurd (cc h)
no_row s t (Some xs) None row h r = absurd r
no_row s t (Some xs) (Some ys) row h r = no_more default_config s xs (next_none _ row t ys r)
