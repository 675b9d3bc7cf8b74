-- Recordings are measured one after the other, and compared by their places.
use Rattle.std.specs.Prelude.{◌≡◌, ℕ, ◌+◌, ◌-◌, ◌<◌, ◌≤◌, List, [], ◌∷◌, ◌++◌, length, map, get_or, take, All}
use Rattle.std.proofs.Common.{suc, refl, sym, ap, ◌∙◌, arith, append_assoc}
use Rattle.std.specs.List.{range_with_len}
use Rattle.std.proofs.lemmas.List.{get_or-map, length-map, map-append, take_more}
use Rattle.std.proofs.lemmas.List.FromFn.{map-range_with_len_more}
use Rattle.violation_measures.specs.Steps.{IsStep}
use Rattle.violation_measures.specs.declared.step.Step.{Step}
use Rattle.trajectory_judge.specs.Records.{IsRecording, IsRecordedStep}
use Rattle.std.specs.List.{sum_by, last_or}
use Rattle.std.specs.Prelude.{None}
use Rattle.rule_language.specs.declared.book.Rule.{Rule}
use Rattle.rulebook_order.specs.Front.{vector_at}
use Rattle.rulebook_order.specs.declared.verdict.Verdict.{Verdict}
use Rattle.violation_measures.specs.Sources.{Features}
use Rattle.violation_measures.specs.Vectors.{end_after, trajectory_vector, value_at, width}
use Rattle.violation_measures.specs.declared.bound.Bound.{Bound}
use Rattle.trajectory_judge.specs.Judgements.{measured, places}
use Rattle.rulebook_order.specs.Pairs.{later_pairs}
use Rattle.trajectory_judge.specs.declared.records.Records.{Records}
use Rattle.trajectory_judge.specs.declared.records.Recording.{Recording}

-- one item more, and what is made of it
pub grown : {A X Y : Type 0} (f : A → Y) (h : X → Y) (made : List A) (a : A) (xs : List X) (i : ℕ) (d : X) → i < length xs → map f made ≡ map h (take i xs) → f a ≡ h (get_or xs i d)
    → map f (made ++ a ∷ []) ≡ map h (take (i + 1) xs)
grown f h made a xs i d inside before here =
    map-append f made (a ∷ []) ∙ (rw (before, here, take_more xs i d inside) (sym (map-append h (take i xs) (get_or xs i d ∷ []))))

-- the place i with each of those from start on
abbrev pub with_each : ℕ → ℕ → ℕ → List (ℕ × ℕ)
with_each i start count = map {A = ℕ} {B = ℕ × ℕ} (λ k. (i, k)) (range_with_len start count)

-- a pair of places more
pub pairs_pushed : (i j : ℕ) (verdict : Verdict) (pairs old : List (ℕ × ℕ × Verdict)) → i + 1 ≤ j → map places pairs ≡ map places old ++ with_each i (i + 1) (j - (i + 1))
    → map places (pairs ++ (i, j, verdict) ∷ []) ≡ map places old ++ with_each i (i + 1) (j + 1 - (i + 1))
pairs_pushed i j verdict pairs old later before =
    let pair : ℕ × ℕ = (i, j) in
    let next : ℕ × ℕ × Verdict = (i, j, verdict) in
    let size : j + 1 - (i + 1) ≡ j - (i + 1) + 1 = omega (arith, later) in
    let more : with_each i (i + 1) (j - (i + 1) + 1) ≡ with_each i (i + 1) (j - (i + 1)) ++ pair ∷ [] = map-range_with_len_more {X = ℕ × ℕ} (λ k. (i, k)) (i + 1) (j - (i + 1)) j (omega (arith, later)) in
    map-append places pairs (next ∷ []) ∙ (rw (before, size, more) (append_assoc (map places old) (with_each i (i + 1) (j - (i + 1))) (pair ∷ [])))

-- the pairs of the places from i on are those of i, and those of the places after it
pub pairs_from : (i n : ℕ) → i < n → later_pairs (range_with_len i (n - i)) ≡ with_each i (i + 1) (n - (i + 1)) ++ later_pairs (range_with_len (i + 1) (n - (i + 1)))
pairs_from i n inside =
    let size : n - i ≡ suc (n - (i + 1)) = omega (arith, inside) in
    rw size refl

-- the vectors have a number for each rule
pub measured_wide : (f : Features) (bound : Bound) (records : Records) (i : ℕ) → i < length (measured f bound records) → length (vector_at (measured f bound records) i) ≡ width bound
unfolding trajectory_vector
measured_wide f bound records i inside =
    let none : Recording = record { name = []; steps = [] } in
    let within : i < length records.runs = omega (arith, inside, length-map records.runs (λ (run : Recording). trajectory_vector f bound run.steps)) in
    ap (length {A = ℕ}) (get_or-map (λ (run : Recording). trajectory_vector f bound run.steps) records.runs i none [] within)
    ∙ length-map bound.book.rules (λ (rule : Rule). sum_by (λ step. value_at f step rule) (get_or records.runs i none).steps + end_after f (last_or None (get_or records.runs i none).steps) rule)
