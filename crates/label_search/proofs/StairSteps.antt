-- A new vector comes next to candidates that are stairs.
use Rattle.std.proofs.Common.{◌≡◌, ℕ, ◌+◌, ◌<◌, Bool, List, [], ◌∷◌, ◌++◌, length, get_or, sym, subst, inl, inr, arith}
use Rattle.std.specs.Prelude.{Contains, Some, slice_get}
use Rattle.std.proofs.lemmas.Bool.{cases_eq}
use Rattle.std.proofs.lemmas.Option.{get_or_from_slice_get}
use Rattle.std.proofs.lemmas.List.Elements.{All-contains, Contains-push, Contains-append_left, Contains-get_or}
use Rattle.std.proofs.lemmas.List.Quantifiers.{all_pairs_push}
use Rattle.rulebook_order.specs.NoWorse.{AreApart}
use Rattle.rulebook_order.specs.Trade.{IsTradeOff}
use Rattle.rulebook_order.specs.VectorOrder.{Holds, IsVectorOrder}
use Rattle.label_search.specs.declared.candidate.Candidate.{Candidate}
use Rattle.label_search.specs.Candidates.{IsCovered, StandApart, HaveWidth}
use Rattle.label_search.specs.Stairs.{IsStep, AreStairs, ComesNext}

-- what is a step further than the last is a step further than each
pub next_after : (candidates : List Candidate) (last : ℕ) (x : Candidate) (v : List ℕ) → length candidates ≡ last + 1 → slice_get candidates last ≡ Some x → AreStairs candidates → IsStep x.vector v → ComesNext candidates v
next_after candidates last x v size at stairs step = λ k d below.
    let e : get_or candidates last d ≡ x = get_or_from_slice_get candidates last x d at in
    elim (cases_eq k last) [
      | inl same ↦ subst (λ n. IsStep (get_or candidates n d).vector v) (sym same) (subst (λ (y : Candidate). IsStep y.vector v) (sym e) step)
      | inr ne ↦
          let s = subst (λ (y : Candidate). IsStep (get_or candidates k d).vector y.vector) e (stairs k last d (omega (arith, size, below, ne)) (omega (arith, size))) in
          record { more = omega (arith, s.more, step.more); less = omega (arith, s.less, step.less) }
    ]

pub stairs_push : (candidates : List Candidate) (y : Candidate) → AreStairs candidates → ComesNext candidates y.vector → AreStairs (candidates ++ y ∷ [])
stairs_push candidates y stairs next = all_pairs_push (λ (x z : Candidate). IsStep x.vector z.vector) candidates y stairs next

module _ (no_worse : List ℕ → List ℕ → Bool) (width : ℕ) (trade : IsTradeOff width no_worse) (candidates : List Candidate) (y : Candidate) (widths : HaveWidth width candidates) (wide : length y.vector ≡ width) (next : ComesNext candidates y.vector) where
  apart_from : (x : Candidate) → Contains candidates x → AreApart (Holds no_worse) x.vector y.vector
  apart_from x listed =
      let w = All-contains (λ (z : Candidate). length z.vector ≡ width) candidates x widths listed in
      let step = All-contains (λ (z : Candidate). IsStep z.vector y.vector) candidates x next listed in
      ((λ t. (let p = (trade.exact x.vector y.vector w wide).0 t in omega (arith, p.1, step.less))), (λ t. (let p = (trade.exact y.vector x.vector wide w).0 t in omega (arith, p.0, step.more))))

  pub uncovered : IsCovered no_worse candidates y.vector → ⊥
  uncovered c = (apart_from c.by c.listed).0 c.no_worse_is

  pub apart_next : StandApart no_worse candidates → StandApart no_worse (candidates ++ y ∷ [])
  apart_next apart = all_pairs_push (λ (x z : Candidate). AreApart (Holds no_worse) x.vector z.vector) candidates y apart (λ k d below. apart_from (get_or candidates k d) (Contains-get_or candidates k d below))

  pub covered_next : IsVectorOrder width no_worse → IsCovered no_worse (candidates ++ y ∷ []) y.vector
  covered_next order = record { by = y; listed = Contains-push candidates y; no_worse_is = order.reflexive y.vector wide }

  pub still_covered : (v : List ℕ) → IsCovered no_worse candidates v → IsCovered no_worse (candidates ++ y ∷ []) v
  still_covered v c = record { by = c.by; listed = Contains-append_left candidates (y ∷ []) c.by c.listed; no_worse_is = c.no_worse_is }
