-- The new rule of a merge is the sum of the rules that it merges, by the numbers that the line names.
use Rattle.std.specs.Prelude.{◌≡◌, ◌≢◌, ℕ, ◌<◌, ◌≤◌, Bool, true, false, not, List, [], ◌∷◌, ◌++◌, Option, Some, None, IsTrue, IfSome, All, length, map, is_some, is_none, take, drop}
use Rattle.std.specs.List.{filter, flat_map}
use Rattle.std.specs.Option.{unwrap_or}
use Rattle.std.proofs.Common.{◌∙◌, ⊎_elim, refl, sym, ap, subst, zero, suc, arith}
use Rattle.std.proofs.lemmas.Bool.{both_ways, cases_Bool, cases_order, cond-true, cond-false, not-true, false_from_ne_true}
use Rattle.std.proofs.lemmas.List.{length-append, get_or_default}
use Rattle.std.proofs.Math.Seq.{get_or-append_seam}
use Rattle.std.proofs.lemmas.List.Elements.{All-head, All-tail}
use Rattle.rule_language.specs.Books.{place_of, nameless, IsBook}
use Rattle.rule_language.specs.Writing.{name_at}
use Rattle.rule_language.specs.declared.book.Book.{Book}
use Rattle.rule_language.specs.declared.book.Rule.{Rule}
use Rattle.rule_language.specs.declared.part.Part.{Part}
use Rattle.book_operations.specs.Aggregation.{IsSumBy, IsOneNew, IsAggregation, merged_rules, new_rule}
use Rattle.book_operations.specs.Images.{rule_at, is_new, IsNew, image_at}
use Rattle.book_operations.specs.Merging.{factor_in, is_merged, times_in, merged_parts, kept_rules, first_merged, merged_book}
use Rattle.book_operations.specs.Same.{scaled}
use Rattle.book_operations.proofs.SmallFactors.{IsFactor, factor}
use Rattle.book_operations.proofs.Inserted.{all-between, apart, filter-passes, filter-halves}
use Rattle.book_operations.proofs.Merged.{one-place}
use Rattle.book_operations.proofs.MergedBook.{IsMerge}
use Rattle.book_operations.proofs.Placed.{image-named, name-found}

-- ---- filters

filter-agree : {X : Type 0} (p q : X → Bool) (xs : List X) → All (λ x. p x ≡ q x) xs → filter p xs ≡ filter q xs
filter-agree p q [] h = refl
filter-agree {X = X} p q (x ∷ xs) h =
    let same = All-head (λ x. p x ≡ q x) x xs h in
    let rest = filter-agree p q xs (All-tail (λ x. p x ≡ q x) x xs h) in
    ⊎_elim
    (λ yes. cond-true {A = List X} (p x) (x ∷ filter p xs) (filter p xs) yes ∙ ap (λ (ys : List X). x ∷ ys) rest ∙ sym (cond-true {A = List X} (q x) (x ∷ filter q xs) (filter q xs) (sym same ∙ yes)))
    (λ no. cond-false {A = List X} (p x) (x ∷ filter p xs) (filter p xs) no ∙ rest ∙ sym (cond-false {A = List X} (q x) (x ∷ filter q xs) (filter q xs) (sym same ∙ no)))
    (cases_Bool (p x))

-- what passes the test is found in the filter
found-kept : (p : Rule → Bool) (rules : List Rule) (r : ℕ) → r < length rules → p (rule_at rules r) ≡ true → (i : ℕ) × (i < length (filter p rules)) × (rule_at (filter p rules) i ≡ rule_at rules r)
found-kept p [] r h t = absurd (omega (arith, h))
found-kept p (x ∷ xs) zero h t = subst (λ (rs : List Rule). (i : ℕ) × (i < length rs) × (rule_at rs i ≡ x)) (sym (cond-true {A = List Rule} (p x) (x ∷ filter p xs) (filter p xs) t)) (0, omega arith, refl)
found-kept p (x ∷ xs) (suc r) h t =
    let at = found-kept p xs r (omega (arith, h)) t in
    ⊎_elim
    (λ yes. subst (λ (rs : List Rule). (i : ℕ) × (i < length rs) × (rule_at rs i ≡ rule_at xs r)) (sym (cond-true {A = List Rule} (p x) (x ∷ filter p xs) (filter p xs) yes)) (suc at.0, omega (arith, at.1), at.2))
    (λ no. subst (λ (rs : List Rule). (i : ℕ) × (i < length rs) × (rule_at rs i ≡ rule_at xs r)) (sym (cond-false {A = List Rule} (p x) (x ∷ filter p xs) (filter p xs) no)) at)
    (cases_Bool (p x))

found-between : (front back : List Rule) (new : Rule) (i : ℕ) → i < length (front ++ back) → (j : ℕ) × (j < length (front ++ new ∷ back)) × (rule_at (front ++ new ∷ back) j ≡ rule_at (front ++ back) i)
found-between [] back new i h = (suc i, omega (arith, h), refl)
found-between (r ∷ front) back new zero h = (0, omega arith, refl)
found-between (r ∷ front) back new (suc i) h = let at = found-between front back new i (omega (arith, h)) in (suc at.0, omega (arith, at.1), at.2)

-- ---- parts

given-by : (words : List (List ℕ)) (rules : List Rule) → merged_parts words rules ≡ flat_map (λ (rule : Rule). map (scaled (times_in words rule.name)) rule.parts) (filter (is_merged words) rules)
given-by words [] = refl
given-by words (r ∷ rs) =
    let parts = map (scaled (times_in words r.name)) r.parts in
    let all = λ (rules : List Rule). flat_map (λ (rule : Rule). map (scaled (times_in words rule.name)) rule.parts) rules in
    ⊎_elim
    (λ yes.
    ap (λ (ps : List Part). ps ++ merged_parts words rs) (cond-true {A = List Part} (is_merged words r) parts [] yes)
    ∙ ap (λ (ps : List Part). parts ++ ps) (given-by words rs)
    ∙ sym (ap all (cond-true {A = List Rule} (is_merged words r) (r ∷ filter (is_merged words) rs) (filter (is_merged words) rs) yes)))
    (λ no.
    ap (λ (ps : List Part). ps ++ merged_parts words rs) (cond-false {A = List Part} (is_merged words r) parts [] no)
    ∙ given-by words rs
    ∙ sym (ap all (cond-false {A = List Rule} (is_merged words r) (r ∷ filter (is_merged words) rs) (filter (is_merged words) rs) no)))
    (cases_Bool (is_merged words r))

counted : (o : Option ℕ) → IfSome o IsFactor → 1 ≤ unwrap_or o 1
counted (Some w) h = h.counted
counted None h = omega arith

module _ (words : List (List ℕ)) (book : Book) (new : Rule) (is : IsBook book) (merge : IsMerge words book new) where
  abbrev keep : Rule → Bool
  keep rule = not (is_merged words rule)

  abbrev front : List Rule
  front = kept_rules words (take (first_merged words book.rules) book.rules)

  abbrev back : List Rule
  back = kept_rules words (drop (first_merged words book.rules) book.rules)

  abbrev child : Book
  child = merged_book new words book

  halves : front ++ back ≡ filter keep book.rules
  halves = filter-halves keep (first_merged words book.rules) book.rules

  -- the child lacks just the names of the rules that are merged
  merged-lacks : (r : ℕ) → r < length book.rules → IsTrue (is_merged words (rule_at book.rules r)) → IsNew book.rules child.rules r
  merged-lacks r h t =
      ⊎_elim (λ new. new)
      (λ old.
      let at = image-named book.rules child.rules r (λ new. both_ways _ old new) in
      let others : All (λ (q : Rule). q.name ≢ name_at book.rules r) (filter keep book.rules) =
      λ k d lt e. both_ways _ (not-true _ (filter-passes keep book.rules k d lt)) (subst (λ (name : List ℕ). IsTrue (is_some (factor_in words name))) (sym e) t) in
      let own : new.name ≢ name_at book.rules r = λ e. apart new.name book.rules merge.fresh r nameless h (sym e) in
      absurd (all-between (λ (q : Rule). q.name ≢ name_at book.rules r) front back new (subst (All (λ (q : Rule). q.name ≢ name_at book.rules r)) (sym halves) others) own (image_at book.rules child.rules r) nameless at.0 at.1))
      (cases_Bool (is_new child.rules (rule_at book.rules r)))

  kept-has : (r : ℕ) → r < length book.rules → is_merged words (rule_at book.rules r) ≡ false → ¬ IsNew book.rules child.rules r
  kept-has r h fails =
      let at = found-kept keep book.rules r h (ap not fails) in
      let inside : at.0 < length (front ++ back) = omega (arith, at.1, ap (length {A = Rule}) halves) in
      let there = found-between front back new at.0 inside in
      name-found book.rules child.rules r there.0 there.1 (ap (λ (q : Rule). q.name) (there.2 ∙ ap (λ (rs : List Rule). rule_at rs at.0) halves ∙ at.2))

  lacks : All (λ (rule : Rule). is_new child.rules rule ≡ is_merged words rule) book.rules
  lacks k d h =
      let same = get_or_default book.rules k nameless d h in
      subst (λ (rule : Rule). is_new child.rules rule ≡ is_merged words rule) same
      (⊎_elim
      (λ yes. merged-lacks k h yes ∙ sym yes)
      (λ no. false_from_ne_true _ (kept-has k h no) ∙ sym no)
      (cases_Bool (is_merged words (rule_at book.rules k))))

  merged-are : merged_rules book.rules child.rules ≡ filter (is_merged words) book.rules
  merged-are = filter-agree (is_new child.rules) (is_merged words) book.rules lacks

  -- the new rule stands where it was put
  module _ (one : IsOneNew child.rules book.rules) where
    seam : rule_at child.rules (length front) ≡ new
    seam = get_or-append_seam front new back nameless

    fresh-none : (o : Option ℕ) → is_some o ≡ false → is_none o ≡ true
    fresh-none None e = refl
    fresh-none (Some i) e = absurd cc

    seam-new : IsNew child.rules book.rules (length front)
    seam-new = subst (λ (rule : Rule). IsTrue (is_new book.rules rule)) (sym seam) (fresh-none (place_of new.name book.rules) merge.fresh)

    seam-inside : length front < length child.rules
    seam-inside = omega (arith, length-append front (new ∷ back))

    here : length front ≡ one.new
    here = ⊎_elim (λ e. e) (λ d. absurd (⊎_elim (λ less. one.first.before (length front) less seam-new) (λ more. one.alone (length front) more seam-inside seam-new) d)) (cases_order (length front) one.new)

    new-is : new_rule book child ≡ new
    new-is = ap (rule_at child.rules) (one-place child.rules book.rules one ∙ sym here) ∙ seam

  pub merged-is-sum : IsAggregation book child → IsSumBy book child (times_in words)
  merged-is-sum aggregates = record {
    not_bare = aggregates.sum.not_bare;
    counted = λ k d h. counted (factor_in words _) (factor words _ merge.weights);
    total =
        ap (λ (rule : Rule). rule.parts) (new-is aggregates.rules.new)
        ∙ merge.parts
        ∙ given-by words book.rules
        ∙ ap (λ (rules : List Rule). flat_map (λ (rule : Rule). map (scaled (times_in words rule.name)) rule.parts) rules) (sym merged-are);
  }
