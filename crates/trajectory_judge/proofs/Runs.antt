-- Recordings stay well formed while rows are read.
use Rattle.std.specs.Prelude.{◌≡◌, ℕ, ◌+◌, ◌-◌, ◌<◌, ◌≤◌, false, true, List, [], ◌∷◌, ◌++◌, length, get_or, set, slice_get, Some, IsTrue}
use Rattle.std.proofs.Common.{sym, ap, subst, ◌∙◌, ⊎_elim, arith, length-append}
use Rattle.std.proofs.lemmas.Bool.{cases_eq, eqb-true}
use Rattle.std.proofs.lemmas.List.{length-set, get_or-set_same, get_or-set_other}
use Rattle.std.proofs.lemmas.List.Elements.{All-nil, All-push, All-set}
use Rattle.std.proofs.lemmas.Option.{get_or_from_slice_get, slice_get-get_or}
use Rattle.std.proofs.Math.ListN.{get_or-append}
use Rattle.std.proofs.Math.Seq.{get_or-append_seam}
use Rattle.preorder.specs.Name.{is_name}
use Rattle.rule_language.specs.Names.{has_name}
use Rattle.rule_language.proofs.Names.{different_more, fresh}
use Rattle.violation_measures.specs.declared.step.Step.{Step}
use Rattle.trajectory_judge.specs.Records.{AreRuns, IsRecording, IsRecordedStep, TicksRiseByOne, is_next, last_of, name_of}
use Rattle.trajectory_judge.specs.declared.limits.TheConstants.{MAX_RECORDINGS, MAX_RECORDED_STEPS}
use Rattle.trajectory_judge.specs.declared.records.Recording.{Recording}

-- one tick more
pub rise_on : (steps : List Step) (step : Step) → 1 ≤ length steps → is_next (last_of steps) step ≡ true → TicksRiseByOne steps → TicksRiseByOne (steps ++ step ∷ [])
rise_on steps step some next rise i d inside =
    let size : length (steps ++ step ∷ []) ≡ length steps + 1 = length-append steps (step ∷ []) in
    let at : get_or (steps ++ step ∷ []) i d ≡ get_or steps i d = get_or-append steps (step ∷ []) d i (omega (arith, inside, size)) in
    ⊎_elim
    (λ (e : i + 1 ≡ length steps).
    let last : slice_get steps (length steps - 1) ≡ Some (get_or steps i d) = subst (λ k. slice_get steps k ≡ Some (get_or steps i d)) (omega (arith, e)) (slice_get-get_or steps i d (omega (arith, e))) in
    let tick : step.tick ≡ (get_or steps i d).tick + 1 = eqb-true _ _ (rw last at next) in
    let end : get_or (steps ++ step ∷ []) (i + 1) d ≡ step = rw e (get_or-append_seam steps step [] d) in
    ap (λ (s : Step). s.tick) end ∙ (tick ∙ ap (λ (s : Step). s.tick + 1) (sym at)))
    (λ (ne : i + 1 ≡ length steps → ⊥).
    let here : i + 1 < length steps = omega (arith, inside, size, ne) in
    ap (λ (s : Step). s.tick) (get_or-append steps (step ∷ []) d (i + 1) here) ∙ (rise i d here ∙ ap (λ (s : Step). s.tick + 1) (sym at)))
    (cases_eq (i + 1) (length steps))

pub longer : (m : ℕ) (run : Recording) (step : Step) → IsRecording m run → IsRecordedStep m step → is_next (last_of run.steps) step ≡ true → length run.steps < MAX_RECORDED_STEPS
    → IsRecording m (record run { steps = run.steps ++ step ∷ [] })
longer m run step is recorded next few =
    let size : length (run.steps ++ step ∷ []) ≡ length run.steps + 1 = length-append run.steps (step ∷ []) in
    record {
      name = is.name;
      some = omega (arith, size);
      few = omega (arith, size, few);
      steps = All-push (IsRecordedStep m) run.steps step is.steps recorded;
      ticks = rise_on run.steps step is.some next is.ticks;
    }

pub begun : (m : ℕ) (name : List ℕ) (step : Step) → IsTrue (is_name name) → IsRecordedStep m step → IsRecording m (record { name = name; steps = step ∷ [] })
begun m name step is recorded = record {
  name = is;
  some = omega arith;
  few = omega arith;
  steps = All-push (IsRecordedStep m) [] step (All-nil (IsRecordedStep m)) recorded;
  ticks = λ i d inside. absurd (omega arith);
}

-- one recording more, with a name that none has
pub runs_begun : (m : ℕ) (name : List ℕ) (step : Step) (runs : List Recording) → IsTrue (is_name name) → has_name name_of name runs ≡ false → length runs < MAX_RECORDINGS → AreRuns m runs → IsRecordedStep m step
    → AreRuns m (runs ++ (record { name = name; steps = step ∷ [] }) ∷ [])
runs_begun m name step runs is new few are recorded =
    let run : Recording = record { name = name; steps = step ∷ [] } in
    let size : length (runs ++ run ∷ []) ≡ length runs + 1 = length-append runs (run ∷ []) in
    record {
      few = omega (arith, size, few);
      different = different_more name_of runs run are.different (fresh name_of name runs new);
      each = All-push (IsRecording m) runs run are.each (begun m name step is recorded);
    }

-- the last recording with one step more
pub runs_longer : (m : ℕ) (i : ℕ) (run : Recording) (step : Step) (runs : List Recording) → i < length runs → slice_get runs i ≡ Some run → AreRuns m runs → IsRecordedStep m step
    → is_next (last_of run.steps) step ≡ true → length run.steps < MAX_RECORDED_STEPS
    → AreRuns m (set runs i (record run { steps = run.steps ++ step ∷ [] }))
runs_longer m i run step runs inside here are recorded next few =
    let more : Recording = record run { steps = run.steps ++ step ∷ [] } in
    let at : (d : Recording) → get_or runs i d ≡ run = λ d. get_or_from_slice_get runs i run d here in
    let old : IsRecording m run = subst (IsRecording m) (at run) (are.each i run inside) in
    let size : length (set runs i more) ≡ length runs = length-set runs i more in
    let name : (k : ℕ) (d : Recording) → name_of (get_or (set runs i more) k d) ≡ name_of (get_or runs k d) = λ k d.
    ⊎_elim
    (λ (e : k ≡ i). subst (λ j. name_of (get_or (set runs i more) j d) ≡ name_of (get_or runs j d)) (sym e) (ap name_of (get_or-set_same runs i more d inside) ∙ ap name_of (sym (at d))))
    (λ (ne : k ≡ i → ⊥). ap name_of (get_or-set_other runs i k more d ne))
    (cases_eq k i) in
    record {
      few = omega (arith, size, are.few);
      different = λ j k d below within same. are.different j k d below (omega (arith, within, size)) (sym (name j d) ∙ (same ∙ name k d));
      each = All-set (IsRecording m) runs i more (longer m run step old recorded next few) are.each;
    }
