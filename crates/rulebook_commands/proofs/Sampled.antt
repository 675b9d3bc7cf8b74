-- What is due to `sample N`.
use Rattle.std.proofs.Common.{◌≡◌, ℕ, ◌<◌, ◌≤◌, List, [], ◌∷◌, length, take, ◌+◌, ◌++◌, get_or, Option, None, Result, Ok, Err, Some, Vec, refl, sym, ap, subst, ◌∙◌, arith, inl, inr}
use Rattle.std.specs.Prelude.{All, Contains, IsSome, ⊤, codes}
use Rattle.std.specs.FinMap.{empty}
use Rattle.std.specs.List.Sorted.{IsPermutation, IsSortedBy}
use Rattle.std.specs.declared.alloc.Global.{Global}
use Rattle.std.proofs.lemmas.List.{get_or-map, length-map, map_more}
use Rattle.std.proofs.lemmas.List.Sorted.{Contains-permutation, IsPermutation-sym}
use Rattle.std.proofs.lemmas.Option.{slice_get-get_or, slice_get_within}
use Rattle.outside_io.specs.Outside.{Files}
use Rattle.preorder.specs.declared.order.Preorder.{Preorder}
use Rattle.rulebook_order.specs.Answer.{AreUndominated, IsAnswerList}
use Rattle.rulebook_order.specs.Certified.{IsGoalLabel, finished_at, finished_vectors}
use Rattle.rulebook_order.specs.Graph.{Graph, finished}
use Rattle.rulebook_order.specs.NoWorseBy.{no_worse_by}
use Rattle.rulebook_order.specs.VectorOrder.{Holds}
use Rattle.rulebook_order.proofs.Agree.{IsAnswerList-agree}
use Rattle.rulebook_order.proofs.Counting.{distinct_within}
use Rattle.rulebook_order.proofs.Lists.{Contains-from_slice_get}
use Rattle.label_search.specs.Found.{pairs_of}
use Rattle.label_search.specs.declared.label.Label.{Label}
use Rattle.violation_measures.specs.Binding.{IsBoundTo}
use Rattle.violation_measures.specs.declared.bind_fault.BindFault.{BindFault}
use Rattle.sample_scene.specs.Sample.{HasStart, MayBeBound, sample}
use Rattle.sample_scene.specs.declared.sample.SampleScene.{SampleScene}
use Rattle.maneuver_lattice.specs.Lattice.{IsLattice}
use Rattle.maneuver_lattice.specs.declared.state.LatticeState.{LatticeState}
use Rattle.command_outcome.specs.declared.outcome.Ending.TheVariants as ending
use Rattle.command_outcome.specs.declared.outcome.Status.TheVariants as status
use Rattle.command_outcome.specs.declared.outcome.Stop.{Stop}
use Rattle.command_outcome.specs.declared.outcome.Stop.TheVariants as stop
use Rattle.command_outcome.specs.Ends.{Has, LoadingStops, Serves, Shelf}
use Rattle.command_outcome.specs.Inputs.{Halt, gives, refusal, told}
use Rattle.command_outcome.specs.Outcome.{Outcome}
use Rattle.command_outcome.specs.Tasks.{KeepsFiles}
use Rattle.command_outcome.proofs.DueOutcomes.{same_outcome}
use Rattle.command_outcome.proofs.HavingInputs.{unchanged}
use Rattle.command_outcome.proofs.Serving.{ends, made}
use Rattle.check_command.specs.Answers.{NoWorseFor, graph_of, vector_before}
use Rattle.check_command.specs.Certificates.{IsOrderOf}
use Rattle.rulebook_commands.specs.Sample.{AreUnbeaten, IsSample, SampleMakes, Samples, sample_files, sample_task, sample_text}
use Rattle.rulebook_commands.specs.Sampled.{IsPairReached}
use Rattle.bound_scene.specs.SceneInputs.{bind_fault_text, binding_told, bound, bound_scene, features, start_found, start_told}
use Rattle.rulebook_commands.specs.Plan.{HasTooMany}
use Rattle.bound_scene.specs.declared.scene_files.SceneFiles.{SceneFiles}
use Rattle.bound_scene.proofs.Binding.{rules_bound}
use Rattle.check_command.proofs.AscendingAnswers.{one_vector_list, vectors_ascend}
use Rattle.check_command.proofs.Ordered.{all_agree, test_is}
use Rattle.check_command.proofs.Shown.{unbeaten}
use Rattle.command_outcome.proofs.HavingInputs.{has_given}
use Rattle.command_outcome.proofs.DueOutcomes.{IsLawful, lawful}

-- ---- labels and finals

module _ (g : Graph LatticeState) (labels : List (Label LatticeState)) where
  abbrev pair_of : Label LatticeState → LatticeState × List ℕ
  pair_of label = (label.state, label.vector)

  pub pairs_long : length labels ≡ length (pairs_of labels)
  pairs_long = sym (length-map labels pair_of)

  pub reached : (IsNoWorse : List ℕ → List ℕ → Type 0) → AreUndominated g IsNoWorse (pairs_of labels) → All (IsPairReached g) labels
  reached IsNoWorse are k d inside =
      let label = get_or labels k d in
      let listed : Contains (pairs_of labels) (label.state, label.vector) = (k, omega (arith, inside, length-map labels pair_of), get_or-map pair_of labels k d (label.state, label.vector) inside) in
      ((are.exact label.state label.vector).0 listed).has

  pub finals_within : (finals : List ℕ) → All (IsGoalLabel g (pairs_of labels)) finals → All (λ number. number < length labels) finals
  finals_within finals at_goal k d inside =
      let is = at_goal k d inside in
      let within = slice_get_within (pairs_of labels) (get_or finals k d) (is.state, is.vector) is.pair_is in
      omega (arith, within, length-map labels pair_of)

  pub finished_is : (number : ℕ) (d : Label LatticeState) → number < length labels → finished g (get_or labels number d).state (get_or labels number d).vector ≡ finished_at g (pairs_of labels) number
  finished_is number d inside = ap (λ (p : LatticeState × List ℕ). finished g p.0 p.1) (sym (get_or-map pair_of labels number d (g.start, g.first) inside))

  pub one_more_final : (finals : List ℕ) (i number : ℕ) (d : Label LatticeState) (v : List ℕ) (vs : List (List ℕ)) → i < length finals → get_or finals i 0 ≡ number → number < length labels
      → v ≡ finished g (get_or labels number d).state (get_or labels number d).vector → vs ≡ finished_vectors g (pairs_of labels) (take i finals) → vs ++ v ∷ [] ≡ finished_vectors g (pairs_of labels) (take (i + 1) finals)
  one_more_final finals i number d v vs inside here within is so_far =
      ap (λ (l : List (List ℕ)). l ++ v ∷ []) so_far
      ∙ ap (λ (w : List ℕ). finished_vectors g (pairs_of labels) (take i finals) ++ w ∷ []) (is ∙ finished_is number d within ∙ ap (finished_at g (pairs_of labels)) (sym here))
      ∙ sym (map_more (finished_at g (pairs_of labels)) finals i 0 inside)

-- ---- the text

module _ (files : SceneFiles) (bound_to : IsBoundTo (features files) (bound files)) (sound : IsLattice files.lattice) (order : Preorder) (is_order : IsOrderOf files.book order) (g : Graph LatticeState) (same : g ≡ graph_of files) where
  abbrev UnbeatenFrom : List (List ℕ) → List (List ℕ) → Graph LatticeState → Type 0
  UnbeatenFrom vectors sorted h = IsAnswerList h (Holds (no_worse_by order)) vectors → IsPermutation vectors sorted → IsSortedBy vector_before sorted → AreUnbeaten files sorted

  pub are_unbeaten : (vectors sorted : List (List ℕ)) → UnbeatenFrom vectors sorted g
  are_unbeaten vectors sorted = subst (UnbeatenFrom vectors sorted) (sym same) (λ answer moved up.
      let there = IsAnswerList-agree (Holds (no_worse_by order)) (NoWorseFor files) (test_is files.book order is_order) (graph_of files) vectors answer in
      let back = IsPermutation-sym vectors sorted moved in
      record {
        exact = λ v. (
          λ listed. (unbeaten files bound_to sound v).0 ((there.exact v).0 (Contains-permutation sorted vectors v back listed)),
          λ f. Contains-permutation vectors sorted v moved ((there.exact v).1 ((unbeaten files bound_to sound v).1 f)),
        );
        ascending = vectors_ascend vectors sorted there.once moved up;
      })

  abbrev PairsFrom : List (LatticeState × List ℕ) → Graph LatticeState → Type 0
  PairsFrom pairs h = AreUndominated h (Holds (no_worse_by order)) pairs → AreUndominated (graph_of files) (NoWorseFor files) pairs

  pub are_undominated : (pairs : List (LatticeState × List ℕ)) → PairsFrom pairs g
  are_undominated pairs = subst (PairsFrom pairs) (sym same) (λ are. all_agree (graph_of files) (Holds (no_worse_by order)) (NoWorseFor files) (test_is files.book order is_order) pairs are)

pub same_text : (number n m k l : ℕ) (vs ws : List (List ℕ)) → n ≡ m → k ≡ l → vs ≡ ws → sample_text number n k vs ≡ sample_text number m l ws
same_text number n m k l vs ws count labels vectors =
    ap (λ (i : ℕ). sample_text number i k vs) count ∙ ap (λ (i : ℕ). sample_text number m i vs) labels ∙ ap (sample_text number m l) vectors

-- ---- binding

abbrev somewhere : Shelf
somewhere = record { held = Some empty; faults = 0; failed = [] }

bound_given : (files : SceneFiles) → binding_told files ≡ Ok tt → start_told files ≡ Ok tt → gives (bound_scene files) empty ≡ Ok files
bound_given files binds starts = rw (binds, starts) refl

-- where the book binds and there is a start, memory alone is wanting
pub only_memory : (files : SceneFiles) → binding_told files ≡ Ok tt → start_told files ≡ Ok tt → (end : Stop) → ((at : Shelf) → LoadingStops (bound_scene files) at at end) → end ≡ stop.NoMemory
only_memory files binds starts stop.NoMemory h = refl
only_memory files binds starts (stop.Unread role) h = (let vain = h somewhere in absurd (omega (arith, vain.load.rose)))
only_memory files binds starts (stop.Ended e text) h = absurd (clash text.items (sym (bound_given files binds starts) ∙ (h somewhere).2))
  where
    clash : (t : List ℕ) → ◌≡◌ {A = Result SceneFiles Halt} (Ok files) (Err (refusal t)) → ⊥
    clash t e = cc
only_memory files binds starts stop.Unsaved h = absurd (h somewhere)

-- what was had is the scene itself
kept : (files x : SceneFiles) → binding_told files ≡ Ok tt → start_told files ≡ Ok tt → Has (bound_scene files) somewhere somewhere x → x ≡ files
kept files x binds starts had = same_ok (sym had.gives ∙ bound_given files binds starts)
  where
    same_ok : ◌≡◌ {A = Result SceneFiles Halt} (Ok x) (Ok files) → x ≡ files
    same_ok e = cc

abbrev pub files_of : SampleScene → SceneFiles
files_of scene = record { scenario = scene.scenario; book = scene.book; lattice = scene.lattice }

some_start : (class : Option ℕ) → IsSome class → start_found class ≡ Ok tt
some_start None h = absurd cc
some_start (Some class) h = refl

binds_told : (scene : SampleScene) → MayBeBound scene → binding_told (files_of scene) ≡ Ok tt
binds_told scene h = ap (λ (r : Result ⊤ BindFault). told (bind_fault_text scene.book.rules) r) (rules_bound (features (files_of scene)) 0 scene.book.rules h)

starts_told : (scene : SampleScene) → HasStart scene → start_told (files_of scene) ≡ Ok tt
starts_told scene h = some_start _ (h _)

module _ (number : ℕ) (scene : SampleScene) (value : scene ≡ sample number) (starts : HasStart scene) (binds : MayBeBound scene) where
  is_sample : files_of scene ≡ sample_files number
  unfolding sample_files
  is_sample = ap files_of value

  pub sampled_files : (x : SceneFiles) → ((at : Shelf) → Has (bound_scene (files_of scene)) at at x) → x ≡ sample_files number
  sampled_files x loads = kept (files_of scene) x (binds_told scene binds) (starts_told scene starts) (loads somewhere) ∙ is_sample

  pub sampled_stops : (end : Stop) → ((at : Shelf) → LoadingStops (bound_scene (files_of scene)) at at end) → end ≡ stop.NoMemory
  sampled_stops = only_memory (files_of scene) (binds_told scene binds) (starts_told scene starts)

-- ---- what is due

module _ (number : ℕ) (files : SceneFiles) (is : files ≡ sample_files number) (at : Shelf) where
  pub sample_serves : (result : Result (Vec ℕ Global) Stop) → Samples number files result → Serves (sample_task number) at at result
  sample_serves (Ok text) h = made (sample_task number) at at number (has_given number at) status.Done text.items (λ before. inl (record { done = refl; stays = refl; says = subst (λ (f : SceneFiles). IsSample number f text.items) is h }))
  sample_serves (Err stop.NoMemory) h = unchanged at
  sample_serves (Err (stop.Ended e text)) h =
      ends (sample_task number) at at number (has_given number at) ending.TooManyLabels (codes "too many labels\n") (stop.Ended e text) h.1 (λ before. inr (record { many = subst HasTooMany is h.0; is = refl }))
  sample_serves (Err (stop.Unread r)) h = absurd h
  sample_serves (Err stop.Unsaved) h = absurd h

-- ---- one outcome

as_many : (g : Graph LatticeState) (IsNoWorse : List ℕ → List ℕ → Type 0) (xs ys : List (LatticeState × List ℕ)) → AreUndominated g IsNoWorse xs → AreUndominated g IsNoWorse ys → length xs ≡ length ys
as_many g IsNoWorse xs ys a b = omega (arith, within xs ys a b, within ys xs b a)
  where
    within : (us ws : List (LatticeState × List ℕ)) → AreUndominated g IsNoWorse us → AreUndominated g IsNoWorse ws → length us ≤ length ws
    within us ws u w = distinct_within us ws u.once (λ k d inside.
        let p = get_or us k d in
        (w.exact p.0 p.1).1 ((u.exact p.0 p.1).0 (Contains-from_slice_get us k p (slice_get-get_or us k d inside))))

one_sample_text : (number : ℕ) (files : SceneFiles) (s t : List ℕ) → IsSample number files s → IsSample number files t → s ≡ t
one_sample_text number files s t h k =
    let count = length files.scenario.obstacles in
    let labels = as_many (graph_of files) (NoWorseFor files) h.pairs k.pairs h.undominated k.undominated in
    let vectors = one_vector_list h.vectors k.vectors h.unbeaten.ascending k.unbeaten.ascending (λ v. (λ listed. (k.unbeaten.exact v).1 ((h.unbeaten.exact v).0 listed), λ listed. (h.unbeaten.exact v).1 ((k.unbeaten.exact v).0 listed))) in
    h.says ∙ ap (λ (n : ℕ). sample_text number count n h.vectors) labels ∙ ap (λ (vs : List (List ℕ)). sample_text number count (length k.pairs) vs) vectors ∙ sym k.says

one_sample : (before : Files) (number : ℕ) (o p : Outcome) → SampleMakes before number o → SampleMakes before number p → o ≡ p
one_sample before number o p (inl h) (inl k) = same_outcome o p (h.done ∙ sym k.done) (one_sample_text number (sample_files number) o.text p.text h.says k.says) (h.stays ∙ sym k.stays)
one_sample before number o p (inl h) (inr k) = absurd (h.says.few k.many)
one_sample before number o p (inr h) (inl k) = absurd (k.says.few h.many)
one_sample before number o p (inr h) (inr k) = h.is ∙ sym k.is

sample_keeps : (number : ℕ) (before : Files) (x : ℕ) (o : Outcome) → SampleMakes before x o → KeepsFiles (sample_task number) before o
sample_keeps number before x o (inl h) = inl h.stays
sample_keeps number before x o (inr h) = inl (ap (λ (q : Outcome). q.files) h.is)

pub sample_lawful : (number : ℕ) → IsLawful (sample_task number)
sample_lawful number = lawful (sample_task number) one_sample (sample_keeps number)
