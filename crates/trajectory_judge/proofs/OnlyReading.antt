-- Well-formed recordings that the rows of a file say are what is read of it.
use Rattle.std.specs.Prelude.{◌≡◌, ℕ, ◌+◌, ◌-◌, ◌<◌, ◌≤◌, true, false, List, [], ◌∷◌, ◌++◌, length, map, set, get_or, slice_get, Option, Some, None, Result, Ok, Err}
use Rattle.std.specs.Str.{bytes_eq}
use Rattle.std.proofs.Common.{eqb, refl, sym, ap, subst, ◌∙◌, arith, append_assoc, length-append}
use Rattle.std.proofs.lemmas.Bool.{both_ways, eq-eqb, eqb-true, lt-leb, false_from_ne_true}
use Rattle.std.proofs.lemmas.List.{append-nil}
use Rattle.std.proofs.lemmas.List.Folds.{list_any_at, list_any_none}
use Rattle.std.proofs.lemmas.Slice.Eq.{bytes_eq-Decides}
use Rattle.std.proofs.lemmas.Option.{get_or_from_slice_get, slice_get-get_or, slice_get_within}
use Rattle.std.proofs.Math.ListN.{get_or-append}
use Rattle.std.proofs.Math.Seq.{get_or-append_seam}
use Rattle.reading.specs.Reading.{◌>>=◌, read_numbered}
use Rattle.rule_language.specs.Names.{AreDifferent, has_name}
use Rattle.rulebook_order.proofs.Lists.{slice_get-snoc}
use Rattle.violation_measures.specs.declared.step.Step.{Step}
use Rattle.trajectory_judge.specs.Fields.{said}
use Rattle.trajectory_judge.specs.Records.{AreRecordsOf, AreRuns, IsRecording, TicksRiseByOne, after_last, all_steps, beginning, each_said, going_on, is_next, last_of, name_of, no_runs, records_of, row_step, with_step}
use Rattle.trajectory_judge.specs.Rows.{Row}
use Rattle.trajectory_judge.specs.declared.fault.RecordFault.{RecordFault}
use Rattle.trajectory_judge.specs.declared.limits.TheConstants.{MAX_RECORDINGS, MAX_RECORDED_STEPS}
use Rattle.trajectory_judge.specs.declared.records.Recording.{Recording}
use Rattle.trajectory_judge.specs.declared.records.Records.{Records}

-- steps under names are added one after the other
add_all : ℕ → List (List ℕ × Step) → Records → Result Records RecordFault
add_all n [] s = Ok s
add_all n (p ∷ ps) s = with_step n p.0 p.1 s >>= add_all (n + 1) ps

rows_add : (maneuvers : List (List ℕ)) (n : ℕ) (rows : List Row) (ps : List (List ℕ × Step)) (s : Records) → each_said maneuvers n rows ≡ Ok ps → read_numbered (row_step maneuvers) n rows s ≡ add_all n ps s
unfolding each_said row_step read_numbered add_all
rows_add maneuvers n [] ps s h = let none : [] ≡ ps = cc in rw (← none) refl
rows_add maneuvers n (row ∷ rows) ps s h = by (said maneuvers n row) refl h (λ qs u k. rows_add maneuvers (n + 1) rows qs u k)
  where
    later : (p : List ℕ × Step) → said maneuvers n row ≡ Ok p → (r : Result (List (List ℕ × Step)) RecordFault) → each_said maneuvers (n + 1) rows ≡ r → (r >>= λ qs. Ok (p ∷ qs)) ≡ Ok ps
        → ((qs : List (List ℕ × Step)) (u : Records) → each_said maneuvers (n + 1) rows ≡ Ok qs → read_numbered (row_step maneuvers) (n + 1) rows u ≡ add_all (n + 1) qs u)
        → ((said maneuvers n row >>= λ p. with_step n p.0 p.1 s) >>= read_numbered (row_step maneuvers) (n + 1) rows) ≡ add_all n ps s
    later p e (Ok qs) f k again =
        let is : p ∷ qs ≡ ps = cc in
        rw (← is, e) (step_by (with_step n p.0 p.1 s))
      where
        step_by : (r : Result Records RecordFault) → (r >>= read_numbered (row_step maneuvers) (n + 1) rows) ≡ (r >>= add_all (n + 1) qs)
        step_by (Ok u) = again qs u f
        step_by (Err fault) = refl
    later p e (Err fault) f k again = absurd cc

    by : (r : Result (List ℕ × Step) RecordFault) → said maneuvers n row ≡ r → (r >>= λ p. each_said maneuvers (n + 1) rows >>= λ ps. Ok (p ∷ ps)) ≡ Ok ps
        → ((qs : List (List ℕ × Step)) (u : Records) → each_said maneuvers (n + 1) rows ≡ Ok qs → read_numbered (row_step maneuvers) (n + 1) rows u ≡ add_all (n + 1) qs u)
        → ((said maneuvers n row >>= λ p. with_step n p.0 p.1 s) >>= read_numbered (row_step maneuvers) (n + 1) rows) ≡ add_all n ps s
    by (Ok p) e k again = later p e (each_said maneuvers (n + 1) rows) refl k again
    by (Err fault) e k again = absurd cc

set_last : {X : Type 0} (before : List X) (x y : X) → set (before ++ x ∷ []) (length before) y ≡ before ++ y ∷ []
set_last [] x y = refl
set_last (z ∷ before) x y = ap (λ zs. z ∷ zs) (set_last before x y)

-- a name that is told apart from those before it is new
new_name : (before more : List Recording) (run : Recording) → AreDifferent name_of (before ++ run ∷ more) → has_name name_of run.name before ≡ false
unfolding has_name
new_name before more run different = list_any_none (λ (r : Recording). bytes_eq r.name run.name) before (λ k d inside.
    let size : length (before ++ run ∷ more) ≡ length before + length (run ∷ more) = length-append before (run ∷ more) in
    let at_k : get_or (before ++ run ∷ more) k d ≡ get_or before k d = get_or-append before (run ∷ more) d k inside in
    let at_run : get_or (before ++ run ∷ more) (length before) d ≡ run = get_or-append_seam before run more d in
    false_from_ne_true _ (λ t. different k (length before) d inside (omega (arith, size)) (ap name_of at_k ∙ ((bytes_eq-Decides (get_or before k d).name run.name).0 t ∙ sym (ap name_of at_run)))))

-- a row goes on with the last recording
goes_on : (n : ℕ) (before : List Recording) (name : List ℕ) (front : List Step) (step : Step) → is_next (last_of front) step ≡ true → length front < MAX_RECORDED_STEPS
    → with_step n name step (record { runs = before ++ (record { name = name; steps = front }) ∷ [] }) ≡ Ok (record { runs = before ++ (record { name = name; steps = front ++ step ∷ [] }) ∷ [] })
unfolding with_step going_on
goes_on n before name front step next few =
    let run : Recording = record { name = name; steps = front } in
    let longer : Recording = record { name = name; steps = front ++ step ∷ [] } in
    let size : length (before ++ run ∷ []) - 1 ≡ length before = omega (arith, length-append before (run ∷ [])) in
    let last : slice_get (before ++ run ∷ []) (length (before ++ run ∷ []) - 1) ≡ Some run = subst (λ k. slice_get (before ++ run ∷ []) k ≡ Some run) (sym size) (slice_get-snoc before run) in
    let changed : set (before ++ run ∷ []) (length (before ++ run ∷ []) - 1) longer ≡ before ++ longer ∷ [] = subst (λ k. set (before ++ run ∷ []) k longer ≡ before ++ longer ∷ []) (sym size) (set_last before run longer) in
    rw (last, (bytes_eq-Decides name name).1 refl, next, lt-leb MAX_RECORDED_STEPS (length front) few, changed) refl

abbrev whole_runs : Result (List Recording) RecordFault → Result Records RecordFault
whole_runs r = r >>= λ runs. Ok (record { runs = runs })

-- a row begins a recording
begins : (n : ℕ) (before : List Recording) (name : List ℕ) (step : Step) → has_name name_of name before ≡ false → length before < MAX_RECORDINGS
    → with_step n name step (record { runs = before }) ≡ Ok (record { runs = before ++ (record { name = name; steps = step ∷ [] }) ∷ [] })
unfolding with_step beginning has_name
begins n before name step new few = by (last_of before) refl
  where
    made : beginning n name step before ≡ Ok (before ++ (record { name = name; steps = step ∷ [] }) ∷ [])
    made = rw (new, lt-leb MAX_RECORDINGS (length before) few) refl

    by : (o : Option Recording) → last_of before ≡ o → whole_runs (after_last n name step o before) ≡ Ok (record { runs = before ++ (record { name = name; steps = step ∷ [] }) ∷ [] })
    by None e = rw made refl
    by (Some run) e =
        let inside : length before - 1 < length before = slice_get_within before (length before - 1) run e in
        let at : get_or before (length before - 1) run ≡ run = get_or_from_slice_get before (length before - 1) run run e in
        let other : bytes_eq run.name name ≡ false = false_from_ne_true _ (λ t. both_ways _ new (list_any_at (λ (r : Recording). bytes_eq r.name name) before (length before - 1) run inside (subst (λ (r : Recording). bytes_eq r.name name ≡ true) (sym at) t))) in
        rw (other, made) refl

next_tick : (front back : List Step) (step : Step) → 1 ≤ length front → TicksRiseByOne (front ++ step ∷ back) → is_next (last_of front) step ≡ true
next_tick front back step some rise =
    let i = length front - 1 in
    let e : length front - 1 + 1 ≡ length front = omega (arith, some) in
    let last : slice_get front (length front - 1) ≡ Some (get_or front (length front - 1) step) = slice_get-get_or front (length front - 1) step (omega (arith, some)) in
    let tick = rise (length front - 1) step (omega (arith, e, length-append front (step ∷ back))) in
    let at : get_or (front ++ step ∷ back) (length front - 1) step ≡ get_or front (length front - 1) step = get_or-append front (step ∷ back) step (length front - 1) (omega (arith, some)) in
    let here : get_or (front ++ step ∷ back) (length front - 1 + 1) step ≡ step = rw e (get_or-append_seam front step back step) in
    rw last (eq-eqb _ _ (sym (ap (λ (s : Step). s.tick) here) ∙ (tick ∙ ap (λ (s : Step). s.tick + 1) at)))

-- the rest of a recording
run_all : (n : ℕ) (before : List Recording) (name : List ℕ) (front back : List Step) (more : List (List ℕ × Step)) → 1 ≤ length front → TicksRiseByOne (front ++ back) → length (front ++ back) ≤ MAX_RECORDED_STEPS
    → add_all n (map {A = Step} {B = List ℕ × Step} (λ s. (name, s)) back ++ more) (record { runs = before ++ (record { name = name; steps = front }) ∷ [] })
    ≡ add_all (n + length back) more (record { runs = before ++ (record { name = name; steps = front ++ back }) ∷ [] })
unfolding add_all
run_all n before name front [] more some rise few = rw (append-nil front) (ap (λ k. add_all k more (record { runs = before ++ (record { name = name; steps = front }) ∷ [] })) (omega arith))
run_all n before name front (step ∷ back) more some rise few =
    let size : length (front ++ step ∷ back) ≡ length front + length (step ∷ back) = length-append front (step ∷ back) in
    let whole : (front ++ step ∷ []) ++ back ≡ front ++ step ∷ back = append_assoc front (step ∷ []) back in
    let again = run_all (n + 1) before name (front ++ step ∷ []) back more (omega (arith, length-append front (step ∷ []))) (rw whole rise) (rw whole few) in
    rw (goes_on n before name front step (next_tick front back step some rise) (omega (arith, size, few)))
    (again ∙ (ap (λ (steps : List Step). add_all (n + 1 + length back) more (record { runs = before ++ (record { name = name; steps = steps }) ∷ [] })) whole
    ∙ ap (λ k. add_all k more (record { runs = before ++ (record { name = name; steps = front ++ step ∷ back }) ∷ [] })) (omega arith)))

-- the first step of a recording, and the rest of it
one_run : (n : ℕ) (before : List Recording) (name : List ℕ) (steps : List Step) (more : List (List ℕ × Step)) → has_name name_of name before ≡ false → length before < MAX_RECORDINGS → 1 ≤ length steps → TicksRiseByOne steps → length steps ≤ MAX_RECORDED_STEPS
    → add_all n (map {A = Step} {B = List ℕ × Step} (λ s. (name, s)) steps ++ more) (record { runs = before }) ≡ add_all (n + length steps) more (record { runs = before ++ (record { name = name; steps = steps }) ∷ [] })
unfolding add_all
one_run n before name [] more new few some rise short = absurd (omega arith)
one_run n before name (step ∷ steps) more new few some rise short =
    rw (begins n before name step new few)
    (run_all (n + 1) before name (step ∷ []) steps more (omega arith) rise short
    ∙ ap (λ k. add_all k more (record { runs = before ++ (record { name = name; steps = step ∷ steps }) ∷ [] })) (omega arith))

runs_all : (m n : ℕ) (before more : List Recording) → AreRuns m (before ++ more) → add_all n (all_steps more) (record { runs = before }) ≡ Ok (record { runs = before ++ more })
unfolding add_all
runs_all m n before [] are = ap (λ (runs : List Recording). Ok (record { runs = runs })) (sym (append-nil before))
runs_all m n before (run ∷ more) are =
    let size : length (before ++ run ∷ more) ≡ length before + length (run ∷ more) = length-append before (run ∷ more) in
    let at_run : get_or (before ++ run ∷ more) (length before) run ≡ run = get_or-append_seam before run more run in
    let is : IsRecording m run = subst (IsRecording m) at_run (are.each (length before) run (omega (arith, size))) in
    let whole : (before ++ run ∷ []) ++ more ≡ before ++ run ∷ more = append_assoc before (run ∷ []) more in
    one_run n before run.name run.steps (all_steps more) (new_name before more run are.different) (omega (arith, size, are.few)) is.some is.ticks is.few
    ∙ (runs_all m (n + length run.steps) (before ++ run ∷ []) more (rw whole are) ∙ ap (λ (runs : List Recording). Ok (record { runs = runs })) whole)

-- recordings that the rows of a file say are what is read of it
pub only_reading : (maneuvers : List (List ℕ)) (bytes : List ℕ) (records : Records) → AreRecordsOf maneuvers bytes records → records_of maneuvers bytes ≡ Ok records
unfolding records_of
only_reading maneuvers bytes records are =
    let read : read_numbered (row_step maneuvers) 1 are.rows no_runs ≡ Ok records = rows_add maneuvers 1 are.rows (all_steps records.runs) no_runs are.say ∙ runs_all (length maneuvers) 1 [] records.runs are.well_formed.runs in
    let some : eqb (length records.runs) 0 ≡ false = false_from_ne_true _ (λ t. omega (arith, eqb-true _ _ t, are.well_formed.some)) in
    rw (are.header, read, some) refl
