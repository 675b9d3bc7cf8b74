-- A new vector comes to candidates that stand apart.
use Rattle.std.proofs.Common.{◌≡◌, ap, ℕ, Bool, true, false, List, [], ◌∷◌, ◌++◌, length, get_or, inl, inr, ◌⊎◌}
use Rattle.std.specs.Prelude.{All, Contains, filter}
use Rattle.std.proofs.lemmas.Option.{get_or_from_slice_get}
use Rattle.rulebook_order.proofs.Lists.{Contains-from_slice_get}
use Rattle.std.proofs.lemmas.Bool.{cases_Bool, both_ways, not-true, not_from_false}
use Rattle.std.proofs.lemmas.List.Elements.{All-contains, Contains-push, Contains-push_cases, Contains-append_left, Contains-get_or}
use Rattle.std.proofs.lemmas.List.Kept.{AllPairs-filter}
use Rattle.std.proofs.lemmas.List.Quantifiers.{all_pairs_push}
use Rattle.rulebook_order.specs.NoWorse.{AreApart}
use Rattle.rulebook_order.specs.VectorOrder.{Holds, IsVectorOrder}
use Rattle.label_search.specs.declared.candidate.Candidate.{Candidate}
use Rattle.label_search.specs.Candidates.{IsCoverAt, IsCovered, stays, StandApart, HaveWidth}
use Rattle.label_search.proofs.Filters.{Contains-filter, Contains-from_filter, All-filter_true}

-- no candidate covers the vector, if each is not no worse
pub none_covers : (no_worse : List ℕ → List ℕ → Bool) (candidates : List Candidate) (v : List ℕ) → All (λ x. no_worse x.vector v ≡ false) candidates → IsCovered no_worse candidates v → ⊥
none_covers no_worse candidates v none c = both_ways (no_worse c.by.vector v) (All-contains (λ x. no_worse x.vector v ≡ false) candidates c.by none c.listed) c.no_worse_is

-- the number of the candidate at a place where it is no worse is that of a cover
pub number_at : (no_worse : List ℕ → List ℕ → Bool) (candidates : List Candidate) (v : List ℕ) (place : ℕ) → IsCoverAt no_worse candidates v place → (d : Candidate) → (cover : IsCovered no_worse candidates v) × ((get_or candidates place d).number ≡ cover.by.number)
number_at no_worse candidates v place at d = (record { by = at.by; listed = Contains-from_slice_get candidates place at.by at.by_is; no_worse_is = at.no_worse_is }, ap (λ (x : Candidate). x.number) (get_or_from_slice_get candidates place at.by d at.by_is))

module _ (no_worse : List ℕ → List ℕ → Bool) (width : ℕ) (order : IsVectorOrder width no_worse) (candidates : List Candidate) (y : Candidate) (widths : HaveWidth width candidates) (wide : length y.vector ≡ width) where
  pub covered-new : IsCovered no_worse (filter (stays no_worse y.vector) candidates ++ y ∷ []) y.vector
  covered-new = record { by = y; listed = Contains-push (filter (stays no_worse y.vector) candidates) y; no_worse_is = order.reflexive y.vector wide }

  pub covered-left : (v : List ℕ) → length v ≡ width → IsCovered no_worse candidates v → IsCovered no_worse (filter (stays no_worse y.vector) candidates ++ y ∷ []) v
  covered-left v w c = elim (cases_Bool (no_worse y.vector c.by.vector)) [
    | inl gone ↦ record {
      by = y;
      listed = Contains-push (filter (stays no_worse y.vector) candidates) y;
      no_worse_is = order.transitive y.vector c.by.vector v wide (All-contains (λ x. length x.vector ≡ width) candidates c.by widths c.listed) w gone c.no_worse_is;
    }
    | inr stay ↦ record {
      by = c.by;
      listed = Contains-append_left (filter (stays no_worse y.vector) candidates) (y ∷ []) c.by (Contains-filter (stays no_worse y.vector) candidates c.by c.listed (not_from_false (no_worse y.vector c.by.vector) stay));
      no_worse_is = c.no_worse_is;
    }
  ]

  pub apart-left : StandApart no_worse candidates → (IsCovered no_worse candidates y.vector → ⊥) → StandApart no_worse (filter (stays no_worse y.vector) candidates ++ y ∷ [])
  apart-left apart new =
      all_pairs_push (λ (x z : Candidate). AreApart (Holds no_worse) x.vector z.vector) (filter (stays no_worse y.vector) candidates) y (AllPairs-filter (λ (x z : Candidate). AreApart (Holds no_worse) x.vector z.vector) (stays no_worse y.vector) candidates apart)
      (λ k d below.
      let x = get_or (filter (stays no_worse y.vector) candidates) k d in
      let in_rest = Contains-get_or (filter (stays no_worse y.vector) candidates) k d below in
      let in_all = Contains-from_filter (stays no_worse y.vector) candidates x in_rest in
      let stay = not-true (no_worse y.vector x.vector) (All-contains (λ x. stays no_worse y.vector x ≡ true) (filter (stays no_worse y.vector) candidates) x (All-filter_true (stays no_worse y.vector) candidates) in_rest) in
      ((λ t. new (record { by = x; listed = in_all; no_worse_is = t })), (λ t. both_ways (no_worse y.vector x.vector) stay t)))

  pub from-left : (x : Candidate) → Contains (filter (stays no_worse y.vector) candidates ++ y ∷ []) x → Contains candidates x ⊎ (y ≡ x)
  from-left x h = elim (Contains-push_cases (filter (stays no_worse y.vector) candidates) y x h) [
    | inl old ↦ inl (Contains-from_filter (stays no_worse y.vector) candidates x old)
    | inr new ↦ inr new
  ]
