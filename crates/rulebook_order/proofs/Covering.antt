-- Vectors that stand apart, one of which is no worse than each vector that has a property, are the undominated ones.
use Rattle.std.proofs.Common.{◌≡◌, ◌≢◌, ℕ, Bool, List, length, get_or, sym, subst, inl, inr}
use Rattle.std.specs.Prelude.{All, AllPairs, Contains, IsTrue, ◌↔◌}
use Rattle.std.proofs.lemmas.Bool.{cases_Bool, both_ways}
use Rattle.std.proofs.lemmas.List.Elements.{All-contains, Contains-get_or}
use Rattle.rulebook_order.specs.NoWorse.{AreApart}
use Rattle.rulebook_order.specs.Front.{IsInFront}
use Rattle.rulebook_order.specs.VectorOrder.{Holds, IsVectorOrder}
use Rattle.rulebook_order.proofs.Lists.{pair_cases}

-- one of the vectors is no worse
pub record Covers (no_worse : List ℕ → List ℕ → Bool) (vectors : List (List ℕ)) (v : List ℕ) : Type 0 where
  pub by : List ℕ
  pub listed : Contains vectors by
  pub no_worse_is : IsTrue (no_worse by v)

module _ (no_worse : List ℕ → List ℕ → Bool) (width : ℕ) (order : IsVectorOrder width no_worse) (Has : List ℕ → Type 0) (wide : (v : List ℕ) → Has v → length v ≡ width) (vectors : List (List ℕ)) (has : All Has vectors) (covers : (v : List ℕ) → Has v → Covers no_worse vectors v) (apart : AllPairs (AreApart (Holds no_worse)) vectors) where
  has_listed : (v : List ℕ) → Contains vectors v → Has v
  has_listed v listed = All-contains Has vectors v has listed

  -- of two listed vectors, one no worse than the other, both are the same
  same_vector : (x y : List ℕ) → Contains vectors x → Contains vectors y → IsTrue (no_worse x y) → x ≡ y
  same_vector x y in_x in_y le = elim (pair_cases (AreApart (Holds no_worse)) vectors apart x y in_x in_y) [
    | inl same ↦ same
    | inr (inl forth) ↦ absurd (forth.0 le)
    | inr (inr back) ↦ absurd (back.1 le)
  ]

  pub undominated_exact : (v : List ℕ) → Contains vectors v ↔ IsInFront (Holds no_worse) Has v
  undominated_exact v = (
    λ listed. record {
      has = has_listed v listed;
      unbeaten = λ w h beats.
          let c = covers w h in
          let le = order.transitive c.by w v (wide c.by (has_listed c.by c.listed)) (wide w h) (wide v (has_listed v listed)) c.no_worse_is beats.no_worse in
          beats.one_way (subst (λ x. IsTrue (no_worse x w)) (same_vector c.by v c.listed listed le) c.no_worse_is);
    },
    λ u.
        let c = covers v u.has in
        let by_has = has_listed c.by c.listed in
        elim (cases_Bool (no_worse v c.by)) [
          | inl back ↦ subst (λ x. Contains vectors x) (order.antisymmetric c.by v (wide c.by by_has) (wide v u.has) c.no_worse_is back) c.listed
          | inr worse ↦ absurd (u.unbeaten c.by by_has (record { no_worse = c.no_worse_is; one_way = λ back. both_ways (no_worse v c.by) worse back }))
        ],
  )

  pub undominated_once : AllPairs (λ v w. v ≢ w) vectors
  undominated_once i j d below inside same =
      let listed = Contains-get_or vectors j d inside in
      let r = order.reflexive (get_or vectors j d) (wide (get_or vectors j d) (has_listed (get_or vectors j d) listed)) in
      (apart i j d below inside).0 (subst (λ v. IsTrue (no_worse v (get_or vectors j d))) (sym same) r)
