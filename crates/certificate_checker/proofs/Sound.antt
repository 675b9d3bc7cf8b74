-- The finished vectors of a good certificate's finals are the answer.
use Rattle.std.proofs.Common.{◌≡◌, ℕ, ◌<◌, Bool, List, length, get_or, ap, sym, subst, arith}
use Rattle.std.specs.Prelude.{All, AllPairs, Contains, slice_get, Some, IsTrue}
use Rattle.std.proofs.lemmas.Option.{slice_get-get_or, get_or_from_slice_get, slice_get_within}
use Rattle.std.proofs.lemmas.List.Elements.{All-map, All-weaker, All-contains_itself}
use Rattle.rulebook_order.specs.Answer.{IsAnswerList}
use Rattle.rulebook_order.specs.Certified.{finished_at}
use Rattle.rulebook_order.specs.Graph.{Graph, IsReached, IsAttained, finished}
use Rattle.rulebook_order.specs.StepGraph.{IsStepGraph}
use Rattle.rulebook_order.specs.Sums.{sums}
use Rattle.rulebook_order.specs.NoWorse.{AreApart}
use Rattle.rulebook_order.specs.VectorOrder.{Holds, IsVectorOrder}
use Rattle.rulebook_order.proofs.Covering.{Covers, undominated_exact, undominated_once}
use Rattle.rulebook_order.proofs.Lists.{slice_get_some, Contains-slice_get, Contains-map, AllPairs-map}
use Rattle.rulebook_order.proofs.Reached.{Built, start, extend, built, IsReached-built, IsReached-extend, IsAttained-at, width_reached, width_attained, width_finished, finished_keeps, extended_keeps}
use Rattle.certificate_text.specs.declared.certificate.Certificate.{Certificate}
use Rattle.certificate_checker.specs.GoodCertificate.{pairs_of, IsGood, answers_of}
use Rattle.certificate_checker.proofs.Pairs.{length-pairs_of, first_pair, pair_built}

-- a label of the state is no worse than the vector
record IsCovered {S : Type 0} (no_worse : List ℕ → List ℕ → Bool) (pairs : List (S × List ℕ)) (s : S) (v : List ℕ) : Type 0 where
  place : ℕ
  vector : List ℕ
  pair_is : slice_get pairs place ≡ Some (s, vector)
  no_worse_is : IsTrue (no_worse vector v)

module _ {S : Type 0} (g : Graph S) (no_worse : List ℕ → List ℕ → Bool) (laws : IsStepGraph g) (order : IsVectorOrder g.width no_worse) (cert : Certificate) (good : IsGood g (Holds no_worse) cert) where
  reached_pair : (k : ℕ) (s : S) (v : List ℕ) → slice_get (pairs_of g cert.labels) k ≡ Some (s, v) → IsReached g s v
  reached_pair k s v at = IsReached-built g (pair_built g cert.labels good.parents good.choices k s v at)

  place_below : (k : ℕ) (p : S × List ℕ) → slice_get (pairs_of g cert.labels) k ≡ Some p → k < length cert.labels
  place_below k p at = let inside = slice_get_within (pairs_of g cert.labels) k p at in omega (arith, length-pairs_of g cert.labels)

  -- each list of choices is covered by a label of the state that it reaches
  covered : {s : S} {v : List ℕ} → Built g s v → IsCovered no_worse (pairs_of g cert.labels) s v
  covered start = record { place = 0; vector = g.first; pair_is = first_pair g cert.labels good.first; no_worse_is = order.reflexive g.first laws.first.width }
  covered (extend {s} {v} {c} b below) =
      let ih = covered b in
      let here = place_below ih.place (s, ih.vector) ih.pair_is in
      let label = slice_get_some cert.labels ih.place here in
      let link = good.links ih.place here label.0 s ih.vector label.1 ih.pair_is c below in
      let r = IsReached-built g b in
      let r' = reached_pair ih.place s ih.vector ih.pair_is in
      let keeps = extended_keeps g laws no_worse order s ih.vector v c r' r below ih.no_worse_is in
      record {
        place = link.link;
        vector = link.found;
        pair_is = link.pair_is;
        no_worse_is = order.transitive link.found (sums ih.vector (g.cost s c)) (sums v (g.cost s c)) (width_reached g laws (g.next s c) link.found (reached_pair link.link (g.next s c) link.found link.pair_is)) (width_reached g laws (g.next s c) (sums ih.vector (g.cost s c)) (IsReached-extend g s ih.vector c r' below)) (width_reached g laws (g.next s c) (sums v (g.cost s c)) (IsReached-extend g s v c r below)) link.no_worse_is keeps;
      }

  finished_pair : (f : ℕ) (s : S) (u : List ℕ) → slice_get (pairs_of g cert.labels) f ≡ Some (s, u) → finished_at g (pairs_of g cert.labels) f ≡ finished g s u
  finished_pair f s u at = ap (λ (p : S × List ℕ). finished g p.0 p.1) (get_or_from_slice_get (pairs_of g cert.labels) f (s, u) (g.start, g.first) at)

  attained_final : (f : ℕ) → Contains cert.finals f → IsAttained g (finished_at g (pairs_of g cert.labels) f)
  attained_final f listed =
      let j = Contains-slice_get cert.finals f listed in
      let goal = good.finals j.0 (slice_get_within cert.finals j.0 f j.1) f j.1 in
      subst (IsAttained g) (sym (finished_pair f goal.state goal.vector goal.pair_is)) (IsAttained-at g goal.state goal.vector (reached_pair f goal.state goal.vector goal.pair_is) goal.goal_is)

  attained : All (IsAttained g) (answers_of g cert)
  attained = All-map (IsAttained g) (finished_at g (pairs_of g cert.labels)) cert.finals (All-weaker (Contains cert.finals) (λ f. IsAttained g (finished_at g (pairs_of g cert.labels) f)) attained_final cert.finals (All-contains_itself cert.finals))

  -- some answer is no worse than each attained vector
  pub covers : (w : List ℕ) → IsAttained g w → Covers no_worse (answers_of g cert) w
  covers w a =
      let s = a.attains.state in
      let r : IsReached g s a.attains.vector = record { list = a.list; reaches = a.attains.reaches } in
      let k = covered (built g r) in
      let r' = reached_pair k.place s k.vector k.pair_is in
      let link = good.goal_links k.place (place_below k.place (s, k.vector) k.pair_is) s k.vector k.pair_is a.attains.at_goal in
      let keeps = finished_keeps g laws no_worse order s k.vector a.attains.vector r' r k.no_worse_is in
      let by = finished_at g (pairs_of g cert.labels) link.final in
      let wide = width_attained g laws by (attained_final link.final link.listed) in
      record {
        by = by;
        listed = Contains-map (finished_at g (pairs_of g cert.labels)) cert.finals link.final link.listed;
        no_worse_is = subst (λ v. IsTrue (no_worse by v)) (sym a.attains.vector_is) (order.transitive by (finished g s k.vector) (finished g s a.attains.vector) wide (width_finished g laws s k.vector r') (width_finished g laws s a.attains.vector r) link.no_worse_is keeps);
      }

  apart : AllPairs (AreApart (Holds no_worse)) (answers_of g cert)
  apart = AllPairs-map (finished_at g (pairs_of g cert.labels)) (AreApart (Holds no_worse)) cert.finals
      (λ i j d below inside. good.apart j inside i (get_or cert.finals i d) (get_or cert.finals j d) below (slice_get-get_or cert.finals i d (omega arith)) (slice_get-get_or cert.finals j d inside))

  -- the answers of a good certificate are the answer, each once
  pub IsAnswerList-good : IsAnswerList g (Holds no_worse) (answers_of g cert)
  IsAnswerList-good = record {
    exact = undominated_exact no_worse g.width order (IsAttained g) (width_attained g laws) (answers_of g cert) attained covers apart;
    once = undominated_once no_worse g.width order (IsAttained g) (width_attained g laws) (answers_of g cert) attained covers apart;
  }
