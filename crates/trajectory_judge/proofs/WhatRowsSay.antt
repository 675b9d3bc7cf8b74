-- The recordings that are read hold what the rows say.
use Rattle.std.specs.Prelude.{◌≡◌, ℕ, zero, suc, ◌+◌, ◌-◌, Bool, true, false, not, List, [], ◌∷◌, ◌++◌, length, map, set, slice_get, Option, Some, None, Result, Ok, Err, if◌then◌else◌, nat_le, IfOk}
use Rattle.std.specs.Str.{bytes_eq}
use Rattle.std.proofs.Common.{eqb, refl, sym, ap, ◌∙◌, arith, append_assoc}
use Rattle.std.proofs.lemmas.List.{append-nil, map-append}
use Rattle.std.proofs.lemmas.Slice.Eq.{bytes_eq-Decides}
use Rattle.std.proofs.lemmas.Option.{slice_get_within}
use Rattle.reading.specs.Reading.{◌>>=◌, Gives, read_numbered}
use Rattle.rule_language.specs.Names.{has_name}
use Rattle.violation_measures.specs.declared.step.Step.{Step}
use Rattle.trajectory_judge.specs.Faults.{is_memory}
use Rattle.trajectory_judge.specs.Fields.{said}
use Rattle.trajectory_judge.specs.Records.{AreRecords, AreRecordsOf, after_last, all_steps, beginning, each_said, going_on, is_next, last_of, name_of, no_runs, not_empty, records_of, row_step, with_step}
use Rattle.trajectory_judge.specs.Rows.{Row, rows_of, under_header}
use Rattle.trajectory_judge.specs.declared.fault.RecordFault.{RecordFault}
use Rattle.trajectory_judge.specs.declared.fault.RecordFault.TheVariants.{TickGap, DuplicateName, TooMany, Empty}
use Rattle.trajectory_judge.specs.declared.limits.TheConstants.{MAX_RECORDINGS, MAX_RECORDED_STEPS}
use Rattle.trajectory_judge.specs.declared.records.Recording.{Recording}
use Rattle.trajectory_judge.specs.declared.records.Records.{Records}

abbrev pub Named : Type 0
Named = List ℕ × Step

pub all_steps-append : (xs ys : List Recording) → all_steps (xs ++ ys) ≡ all_steps xs ++ all_steps ys
all_steps-append [] ys = refl
all_steps-append (x ∷ xs) ys =
    let own : List Named = map {A = Step} {B = Named} (λ step. (x.name, step)) x.steps in
    ap (λ (ps : List Named). own ++ ps) (all_steps-append xs ys) ∙ sym (append_assoc own (all_steps xs) (all_steps ys))

-- a list by its last item, and with another in its place
pub record IsLast {X : Type 0} (xs : List X) (i : ℕ) (x : X) : Type 0 where
  pub before : List X
  pub whole : xs ≡ before ++ x ∷ []
  pub changed : (y : X) → set xs i y ≡ before ++ y ∷ []

pub last_item : {X : Type 0} (xs : List X) (i : ℕ) (x : X) → i + 1 ≡ length xs → slice_get xs i ≡ Some x → IsLast xs i x
last_item [] i x e h = absurd (omega (arith, e))
last_item (a ∷ []) zero x e h = let same : a ≡ x = cc in record { before = []; whole = ap (λ b. b ∷ []) same; changed = λ y. refl }
last_item (a ∷ b ∷ xs) zero x e h = absurd (omega (arith, e))
last_item (a ∷ xs) (suc i) x e h =
    let rest = last_item xs i x (omega (arith, e)) h in
    record { before = a ∷ rest.before; whole = ap (λ ys. a ∷ ys) rest.whole; changed = λ y. ap (λ ys. a ∷ ys) (rest.changed y) }

-- a test that was passed
record Passed {X : Type 0} (b : Bool) (r : Result X RecordFault) (x : X) : Type 0 where
  fails : b ≡ false
  rest : r ≡ Ok x

passed : {X : Type 0} (b : Bool) (e : RecordFault) (r : Result X RecordFault) (x : X) → (if b then Err e else r) ≡ Ok x → Passed b r x
passed true e r x h = absurd cc
passed false e r x h = record { fails = refl; rest = h }

module _ (n : ℕ) (name : List ℕ) (step : Step) where
  abbrev pub one : Named
  one = (name, step)

  begun_steps : (runs new : List Recording) → beginning n name step runs ≡ Ok new → all_steps new ≡ all_steps runs ++ one ∷ []
  unfolding beginning
  begun_steps runs new h =
      let run : Recording = record { name = name; steps = step ∷ [] } in
      let a = passed (has_name name_of name runs) (DuplicateName n) (if nat_le MAX_RECORDINGS (length runs) then Err (TooMany n) else Ok (runs ++ run ∷ [])) new h in
      let b = passed (nat_le MAX_RECORDINGS (length runs)) (TooMany n) (Ok (runs ++ run ∷ [])) new a.rest in
      let is : new ≡ runs ++ run ∷ [] = sym cc in
      rw is (all_steps-append runs (run ∷ []))

  -- a recording with one step more
  run_longer : (run : Recording) → run.name ≡ name → all_steps ((record run { steps = run.steps ++ step ∷ [] }) ∷ []) ≡ all_steps (run ∷ []) ++ one ∷ []
  run_longer run named =
      let under : Step → Named = λ s. (run.name, s) in
      append-nil (map under (run.steps ++ step ∷ [])) ∙ (map-append under run.steps (step ∷ []) ∙ rw (append-nil (map under run.steps), named) refl)

  longer_steps : (runs new : List Recording) (run : Recording) → bytes_eq run.name name ≡ true → last_of runs ≡ Some run → going_on n step run runs ≡ Ok new → all_steps new ≡ all_steps runs ++ one ∷ []
  unfolding going_on
  longer_steps runs new run named here h =
      let longer : Recording = record run { steps = run.steps ++ step ∷ [] } in
      let changed : List Recording = set runs (length runs - 1) longer in
      let a = passed (not (is_next (last_of run.steps) step)) (TickGap n) (if nat_le MAX_RECORDED_STEPS (length run.steps) then Err (TooMany n) else Ok changed) new h in
      let b = passed (nat_le MAX_RECORDED_STEPS (length run.steps)) (TooMany n) (Ok changed) new a.rest in
      let is : new ≡ changed = sym cc in
      let l = last_item runs (length runs - 1) run (omega (arith, slice_get_within runs (length runs - 1) run here)) here in
      is_more runs new l (is ∙ l.changed longer)
    where
      is_more : (runs new : List Recording) (l : IsLast runs (length runs - 1) run) → new ≡ l.before ++ (record run { steps = run.steps ++ step ∷ [] }) ∷ [] → all_steps new ≡ all_steps runs ++ one ∷ []
      is_more runs new l is =
          let grown : all_steps new ≡ all_steps l.before ++ all_steps ((record run { steps = run.steps ++ step ∷ [] }) ∷ []) = ap all_steps is ∙ all_steps-append l.before ((record run { steps = run.steps ++ step ∷ [] }) ∷ []) in
          let old : all_steps runs ≡ all_steps l.before ++ all_steps (run ∷ []) = ap all_steps l.whole ∙ all_steps-append l.before (run ∷ []) in
          grown ∙ (ap (λ (ps : List Named). all_steps l.before ++ ps) (run_longer run ((bytes_eq-Decides run.name name).0 named)) ∙ (sym (append_assoc (all_steps l.before) (all_steps (run ∷ [])) (one ∷ [])) ∙ ap (λ (ps : List Named). ps ++ one ∷ []) (sym old)))

  pub step_said : (s t : Records) → with_step n name step s ≡ Ok t → all_steps t.runs ≡ all_steps s.runs ++ one ∷ []
  unfolding with_step
  step_said s t h = by (last_of s.runs) refl h
    where
      made : (r : Result (List Recording) RecordFault) → (r >>= λ runs. Ok (record { runs = runs })) ≡ Ok t → r ≡ Ok t.runs
      made (Ok runs) h = let is : record { runs = runs } ≡ t = cc in ap (λ (u : Records). Ok u.runs) is
      made (Err e) h = absurd cc

      by_name : (run : Recording) (b : Bool) → bytes_eq run.name name ≡ b → last_of s.runs ≡ Some run → (if b then going_on n step run s.runs else beginning n name step s.runs) ≡ Ok t.runs → all_steps t.runs ≡ all_steps s.runs ++ one ∷ []
      by_name run true e here h = longer_steps s.runs t.runs run e here h
      by_name run false e here h = begun_steps s.runs t.runs h

      by : (o : Option Recording) → last_of s.runs ≡ o → (after_last n name step o s.runs >>= λ runs. Ok (record { runs = runs })) ≡ Ok t → all_steps t.runs ≡ all_steps s.runs ++ one ∷ []
      by None e h = begun_steps s.runs t.runs (made (beginning n name step s.runs) h)
      by (Some run) e h = by_name run (bytes_eq run.name name) refl e (made (if bytes_eq run.name name then going_on n step run s.runs else beginning n name step s.runs) h)

-- what rows say, and what was read before
pub record HaveSaid (maneuvers : List (List ℕ)) (n : ℕ) (rows : List Row) (s t : Records) : Type 0 where
  pub steps : List Named
  pub say : each_said maneuvers n rows ≡ Ok steps
  pub grown : all_steps t.runs ≡ all_steps s.runs ++ steps

pub rows_say : (maneuvers : List (List ℕ)) (n : ℕ) (rows : List Row) (s t : Records) → read_numbered (row_step maneuvers) n rows s ≡ Ok t → HaveSaid maneuvers n rows s t
unfolding each_said row_step read_numbered
rows_say maneuvers n [] s t h = let same : s ≡ t = cc in record { steps = []; say = refl; grown = ap (λ (u : Records). all_steps u.runs) (sym same) ∙ sym (append-nil (all_steps s.runs)) }
rows_say maneuvers n (row ∷ rows) s t h = by (said maneuvers n row) refl h (λ u k. rows_say maneuvers (n + 1) rows u t k)
  where
    after_step : (p : Named) → said maneuvers n row ≡ Ok p → (r : Result Records RecordFault) → with_step n p.0 p.1 s ≡ r → (r >>= read_numbered (row_step maneuvers) (n + 1) rows) ≡ Ok t
        → ((u : Records) → read_numbered (row_step maneuvers) (n + 1) rows u ≡ Ok t → HaveSaid maneuvers (n + 1) rows u t) → HaveSaid maneuvers n (row ∷ rows) s t
    after_step p e (Ok u) f k again =
        let rest = again u k in
        record {
          steps = p ∷ rest.steps;
          say = rw (e, rest.say) refl;
          grown = rest.grown ∙ (ap (λ (ps : List Named). ps ++ rest.steps) (step_said n p.0 p.1 s u f) ∙ append_assoc (all_steps s.runs) (p ∷ []) rest.steps);
        }
    after_step p e (Err fault) f k again = absurd cc

    by : (r : Result Named RecordFault) → said maneuvers n row ≡ r → ((r >>= λ p. with_step n p.0 p.1 s) >>= read_numbered (row_step maneuvers) (n + 1) rows) ≡ Ok t
        → ((u : Records) → read_numbered (row_step maneuvers) (n + 1) rows u ≡ Ok t → HaveSaid maneuvers (n + 1) rows u t) → HaveSaid maneuvers n (row ∷ rows) s t
    by (Ok p) e k again = after_step p e (with_step n p.0 p.1 s) refl k again
    by (Err fault) e k again = absurd cc

-- what is read of the bytes of a file
pub what_is_read : (maneuvers : List (List ℕ)) (bytes : List ℕ) (records : Records) → records_of maneuvers bytes ≡ Ok records → AreRecords (length maneuvers) records → AreRecordsOf maneuvers bytes records
unfolding records_of
what_is_read maneuvers bytes records h are = by (under_header (rows_of bytes)) refl h
  where
    kept : (r : Result Records RecordFault) → (r >>= not_empty) ≡ Ok records → r ≡ Ok records
    kept (Ok t) e = (passed (eqb (length t.runs) 0) Empty (Ok t) records e).rest
    kept (Err fault) e = absurd cc

    by : (r : Result (List Row) RecordFault) → under_header (rows_of bytes) ≡ r → (r >>= λ rows. read_numbered (row_step maneuvers) 1 rows no_runs >>= not_empty) ≡ Ok records → AreRecordsOf maneuvers bytes records
    by (Ok rows) e k =
        let says = rows_say maneuvers 1 rows no_runs records (kept (read_numbered (row_step maneuvers) 1 rows no_runs) k) in
        record { rows = rows; header = e; say = says.say ∙ ap (λ (ps : List Named). Ok ps) (sym says.grown); well_formed = are }
    by (Err fault) e k = absurd cc

pub read_as_said : (maneuvers : List (List ℕ)) (bytes : List ℕ) (r : Result Records RecordFault) → Gives is_memory (λ records. records) r (records_of maneuvers bytes) → IfOk r (AreRecords (length maneuvers)) → IfOk r (AreRecordsOf maneuvers bytes)
read_as_said maneuvers bytes (Ok records) h are = what_is_read maneuvers bytes records h are
read_as_said maneuvers bytes (Err fault) h are = tt
