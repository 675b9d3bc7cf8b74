-- What an accepted certificate shows of a scene.
use Rattle.std.proofs.Common.{◌≡◌, ◌↔◌, ℕ, List, [], ◌∷◌, length, refl, sym, ap, ◌∙◌, subst, arith}
use Rattle.std.specs.Prelude.{All, Contains, Some, slice_get}
use Rattle.std.specs.List.Sorted.{IsPermutation, IsSortedBy}
use Rattle.std.specs.Option.{option_map}
use Rattle.std.proofs.lemmas.List.{length-map}
use Rattle.std.proofs.lemmas.List.Sorted.{All-permutation, Contains-permutation, IsPermutation-map, IsPermutation-sym, length_permutation}
use Rattle.std.proofs.lemmas.Option.{slice_get-map, slice_get_within}
use Rattle.preorder.specs.Preorder.{rules_of}
use Rattle.preorder.specs.declared.order.Preorder.{Preorder}
use Rattle.rulebook_order.specs.Answer.{IsAnswerList}
use Rattle.rulebook_order.specs.Certified.{finished_at}
use Rattle.rulebook_order.specs.Front.{IsInFront}
use Rattle.rulebook_order.specs.Graph.{Graph, Attains, IsAttained}
use Rattle.rulebook_order.specs.NoWorseBy.{NoWorseBy, no_worse_by}
use Rattle.rulebook_order.specs.StepGraph.{IsStepGraph}
use Rattle.rulebook_order.specs.VectorOrder.{IsVectorOrder}
use Rattle.rulebook_order.specs.laws.PairLaws.{no_worse_by-laws}
use Rattle.rulebook_order.proofs.Agree.{IsAnswerList-agree}
use Rattle.rulebook_order.proofs.Lists.{Contains-from_slice_get, Contains-slice_get, slice_get_some}
use Rattle.violation_measures.specs.Binding.{IsBoundTo}
use Rattle.violation_measures.specs.Sources.{Features}
use Rattle.violation_measures.specs.declared.bound.Bound.{Bound}
use Rattle.certificate_text.specs.declared.certificate.Certificate.{Certificate}
use Rattle.certificate_checker.specs.Answers.{AreAttained, FollowParents, vectors_of}
use Rattle.certificate_checker.specs.GoodCertificate.{IsGood, answers_of, pairs_of}
use Rattle.certificate_checker.specs.declared.checked.Attained.{Attained}
use Rattle.certificate_checker.specs.Failing.{Fails, RejectedBy}
use Rattle.certificate_checker.specs.declared.checked.Rejection.{Rejection}
use Rattle.certificate_checker.proofs.AgreeGood.{IsGood-agree, IsGood-words, RejectedBy-agree}
use Rattle.certificate_checker.proofs.OneFinding.{LeadsToLabel-once, with_parts}
use Rattle.certificate_checker.proofs.Sound.{covers}
use Rattle.maneuver_lattice.specs.Lattice.{IsLattice}
use Rattle.maneuver_lattice.specs.SceneGraphs.{AttainsItsVector, IsDriven, scene_graph}
use Rattle.maneuver_lattice.specs.Scenes.{Scene}
use Rattle.maneuver_lattice.specs.declared.state.LatticeState.{LatticeState}
use Rattle.maneuver_lattice.proofs.GraphLaws.{attains_its_vector, reaches_its_steps}
use Rattle.check_command.specs.Answers.{IsDrivenBy, IsUnbeaten, NoWorseFor, comes_before, graph_of}
use Rattle.check_command.specs.Certificates.{IsOfFinal, IsOrderOf, Shows}
use Rattle.check_command.specs.Driven.{HasList}
use Rattle.bound_scene.specs.SceneInputs.{bound, features, scene}
use Rattle.bound_scene.specs.declared.scene_files.SceneFiles.{SceneFiles}
use Rattle.check_command.proofs.AscendingAnswers.{sorted_ascends}

same_some : {X : Type 0} (x y : X) → Some x ≡ Some y → x ≡ y
same_some x y e = cc

-- ---- the answers of finals

module _ (files : SceneFiles) (cert : Certificate) (answers : List Attained) (vectors : vectors_of answers ≡ answers_of (graph_of files) cert) (follow : FollowParents cert.labels cert.finals answers) where
  abbrev ended : ℕ → List ℕ
  ended final = finished_at (graph_of files) (pairs_of (graph_of files) cert.labels) final

  as_many : length answers ≡ length cert.finals
  as_many = sym (length-map answers (λ (a : Attained). a.vector)) ∙ ap length vectors ∙ length-map cert.finals ended

  -- the vector of an answer is that of the final at its place
  vector_at : (j final : ℕ) (answer : Attained) → slice_get cert.finals j ≡ Some final → slice_get answers j ≡ Some answer → answer.vector ≡ ended final
  vector_at j final answer there here =
      same_some answer.vector (ended final)
      (sym (ap (option_map (λ (a : Attained). a.vector)) here) ∙ sym (slice_get-map (λ (a : Attained). a.vector) answers j) ∙ ap (λ (vs : List (List ℕ)). slice_get vs j) vectors
      ∙ slice_get-map ended cert.finals j ∙ ap (option_map ended) there)

  of_final : (answer : Attained) → Contains answers answer → IsOfFinal files cert answer
  of_final answer listed =
      let at = Contains-slice_get answers answer listed in
      let inside = slice_get_within answers at.0 answer at.1 in
      let final = slice_get_some cert.finals at.0 (omega (arith, inside, as_many)) in
      record {
        final = final.0;
        listed = Contains-from_slice_get cert.finals at.0 final.0 final.1;
        vector_is = vector_at at.0 final.0 answer final.1 at.1;
        leads = follow at.0 final.0 answer final.1 at.1;
      }

  listed_final : (answer : Attained) → IsOfFinal files cert answer → Contains answers answer
  listed_final answer of =
      let at = Contains-slice_get cert.finals of.final of.listed in
      let inside = slice_get_within cert.finals at.0 of.final at.1 in
      let other = slice_get_some answers at.0 (omega (arith, inside, as_many)) in
      let b = other.0 in
      let vector : b.vector ≡ answer.vector = vector_at at.0 of.final b at.1 other.1 ∙ sym of.vector_is in
      let list : b.choices ≡ answer.choices = LeadsToLabel-once cert.labels of.final b.choices answer.choices (follow at.0 of.final b at.1 other.1) of.leads in
      let same : b ≡ answer = ap (λ (v : List ℕ). with_parts v b.choices) vector ∙ ap (λ (l : List ℕ). with_parts answer.vector l) list in
      subst (Contains answers) same (Contains-from_slice_get answers at.0 b other.1)

-- ---- attained in the graph, and driven in the scene

module _ (files : SceneFiles) (bound_to : IsBoundTo (features files) (bound files)) (sound : IsLattice files.lattice) where
  attains : AttainsItsVector (scene files) (features files) (bound files)
  attains = attains_its_vector (scene files) (features files) (bound files) bound_to sound

  driven_by : (answer : Attained) → Attains (graph_of files) answer.choices answer.vector → IsDrivenBy files answer
  driven_by answer a = let d = (attains answer.choices answer.vector).0 a in record { drives = d.0; vector_is = d.1 }

  driven : (v : List ℕ) → IsAttained (graph_of files) v → IsDriven (scene files) (features files) (bound files) v
  driven v a = let d = (attains a.list v).0 a.attains in record { list = a.list; drives = d.0; vector_is = d.1 }

  attained : (v : List ℕ) → IsDriven (scene files) (features files) (bound files) v → IsAttained (graph_of files) v
  attained v d = record { list = d.list; attains = (attains d.list v).1 (d.drives, d.vector_is) }

  pub unbeaten : (v : List ℕ) → IsInFront (NoWorseFor files) (IsAttained (graph_of files)) v ↔ IsUnbeaten files v
  unbeaten v = (
    λ f. record { has = driven v f.has; unbeaten = λ w h beats. f.unbeaten w (attained w h) beats },
    λ f. record { has = attained v f.has; unbeaten = λ w h beats. f.unbeaten w (driven w h) beats },
  )

  -- ---- the whole

  module _ (order : Preorder) (agree : (x y : List ℕ) → NoWorseBy order x y ↔ NoWorseFor files x y) (laws : IsStepGraph (graph_of files)) (wide : (graph_of files).width ≡ rules_of order)
      (cert : Certificate) (good : IsGood (graph_of files) (NoWorseBy order) cert) (answers : List Attained) (vectors : vectors_of answers ≡ answers_of (graph_of files) cert) where
    vector_order : IsVectorOrder (graph_of files).width (no_worse_by order)
    vector_order = subst (λ (n : ℕ). IsVectorOrder n (no_worse_by order)) (sym wide) (no_worse_by-laws order)

    -- where a list of choices attains a vector there is an answer
    some_answer : (list v : List ℕ) → Attains (graph_of files) list v → answers ≡ [] → ⊥
    some_answer list v a none =
        let covered = covers (graph_of files) (no_worse_by order) laws vector_order cert ((IsGood-words (graph_of files) order cert).1 good) v (record { list = list; attains = a }) in
        let listed : Contains (vectors_of answers) covered.by = subst (λ (vs : List (List ℕ)). Contains vs covered.by) (sym vectors) covered.listed in
        let at = Contains-slice_get (vectors_of answers) covered.by listed in
        let inside = slice_get_within (vectors_of answers) at.0 covered.by at.1 in
        let long = length-map answers (λ (x : Attained). x.vector) in
        let empty : length answers ≡ 0 = ap length none in
        omega (arith, inside, long, empty)

    pub shows : FollowParents cert.labels cert.finals answers → AreAttained (graph_of files) answers → IsAnswerList (graph_of files) (NoWorseBy order) (vectors_of answers)
        → (sorted : List Attained) → IsPermutation answers sorted → IsSortedBy comes_before sorted → Shows files cert sorted
    shows follow each answer sorted same up =
        let there = IsAnswerList-agree (NoWorseBy order) (NoWorseFor files) agree (graph_of files) (vectors_of answers) answer in
        let back = IsPermutation-sym answers sorted same in
        let moved = IsPermutation-map (λ (a : Attained). a.vector) answers sorted same in
        let moved_back = IsPermutation-sym (vectors_of answers) (vectors_of sorted) moved in
        record {
          good = (IsGood-agree (graph_of files) (NoWorseBy order) (NoWorseFor files) agree cert).0 good;
          of_finals = λ a. (
            λ listed. of_final files cert answers vectors follow a (Contains-permutation sorted answers a back listed),
            λ of. Contains-permutation answers sorted a same (listed_final files cert answers vectors follow a of),
          );
          answers_are = record {
            exact = λ v. (
              λ listed. (unbeaten v).0 ((there.exact v).0 (Contains-permutation (vectors_of sorted) (vectors_of answers) v moved_back listed)),
              λ f. Contains-permutation (vectors_of answers) (vectors_of sorted) v moved ((there.exact v).1 ((unbeaten v).1 f)),
            );
            ascending = sorted_ascends (λ (a : Attained). a.vector) answers sorted answer.once same up;
            driven = All-permutation (IsDrivenBy files) answers sorted same (λ k d inside. driven_by _ (each k d inside));
            none = λ empty list trajectory.
                let a = (attains list _).1 (trajectory, refl) in
                let long = length_permutation answers sorted same in
                some_answer list _ a (nothing answers (omega (arith, long, ap length empty)));
          };
        }
      where
        nothing : (xs : List Attained) → length xs ≡ 0 → xs ≡ []
        nothing [] e = refl
        nothing (x ∷ xs) e = absurd (omega (arith, e))

-- ---- from the graph that the code has

pub graph_same : (files : SceneFiles) (s : Scene) (f : Features) (b : Bound) → s ≡ scene files → f ≡ features files → b ≡ bound files → scene_graph s f b ≡ graph_of files
graph_same files s f b scene_is features_are bound_is =
    ap (λ (z : Scene). scene_graph z f b) scene_is ∙ ap (λ (y : Features). scene_graph (scene files) y b) features_are ∙ ap (λ (x : Bound). scene_graph (scene files) (features files) x) bound_is

pub may_drive : (s : Scene) (f : Features) (b : Bound) → IsBoundTo f b → (answers : List Attained) → AreAttained (scene_graph s f b) answers → All (HasList s) answers
may_drive s f b bound_to answers each k d inside = let a = each k d inside in (a.state, ((reaches_its_steps s f b bound_to _ a.state a.vector).0 a.reaches).0)

module _ (files : SceneFiles) (bound_to : IsBoundTo (features files) (bound files)) (sound : IsLattice files.lattice) (order : Preorder) (is_order : IsOrderOf files.book order) (cert : Certificate) (g : Graph LatticeState) (same : g ≡ graph_of files) where
  abbrev ShowsFrom : List Attained → Graph LatticeState → Type 0
  ShowsFrom answers h =
      IsStepGraph h → h.width ≡ rules_of order → IsGood h (NoWorseBy order) cert → vectors_of answers ≡ answers_of h cert → FollowParents cert.labels cert.finals answers → AreAttained h answers → IsAnswerList h (NoWorseBy order) (vectors_of answers)
      → (sorted : List Attained) → IsPermutation answers sorted → IsSortedBy comes_before sorted → Shows files cert sorted

  pub shown : (answers : List Attained) → ShowsFrom answers g
  shown answers = subst (ShowsFrom answers) (sym same) (λ laws wide good vectors. shows files bound_to sound order is_order.words laws wide cert good answers vectors)

  abbrev RejectsFrom : Rejection → Graph LatticeState → Type 0
  RejectsFrom fault h = RejectedBy (Fails h (NoWorseBy order) cert) fault → RejectedBy (Fails (graph_of files) (NoWorseFor files) cert) fault

  pub rejected : (fault : Rejection) → RejectsFrom fault g
  rejected fault = subst (RejectsFrom fault) (sym same) (RejectedBy-agree (graph_of files) (NoWorseBy order) (NoWorseFor files) is_order.words cert fault)
