-- What a merge makes of a well-formed book is well formed, and its new rule is the sum of those that it merges.
use Rattle.std.specs.Prelude.{◌≡◌, ◌≢◌, ℕ, ◌<◌, ◌≤◌, Bool, true, false, not, ◌&&◌, ◌==◌, List, [], ◌∷◌, ◌++◌, Option, IsTrue, All, length, map, is_some, is_none, take, drop, nat_le}
use Rattle.std.specs.List.{filter, list_all, position}
use Rattle.std.specs.Option.{unwrap_or}
use Rattle.std.specs.Str.{bytes_eq}
use Rattle.std.proofs.Common.{◌∙◌, ⊎_elim, sym, ap, subst, suc, arith, get_or}
use Rattle.std.proofs.lemmas.Bool.{and_parts, cases_Bool, false≢true, cond-true, cond-false}
use Rattle.std.proofs.lemmas.Bool.Decides.{nat_tests}
use Rattle.std.proofs.lemmas.List.{length-append}
use Rattle.std.proofs.lemmas.List.Elements.{All-nil, All-cons, All-filter, All-weaker}
use Rattle.std.proofs.lemmas.List.Kept.{AllPairs-filter}
use Rattle.std.proofs.lemmas.List.Quantifiers.{position-Some}
use Rattle.std.proofs.lemmas.Slice.Eq.{bytes_eq-Decides}
use Rattle.preorder.specs.Name.{is_name}
use Rattle.preorder.specs.Statements.{InRange}
use Rattle.expressions.specs.Written.{is_well_formed}
use Rattle.rule_language.specs.Books.{place_of, nameless, IsRule, IsBook}
use Rattle.rule_language.specs.Parts.{IsPart}
use Rattle.rule_language.specs.declared.book.Book.{Book}
use Rattle.rule_language.specs.declared.book.Rule.{Rule}
use Rattle.rule_language.specs.declared.limits.TheConstants.{MAX_PARTS, MAX_WEIGHT}
use Rattle.rule_language.specs.declared.part.Part.{Part}
use Rattle.book_operations.specs.Images.{rule_at, is_new, image_at}
use Rattle.book_operations.specs.Merging.{weight_in, factor_in, are_factors, are_known, is_weight, are_weights, is_merged, times_in, given_parts, merged_parts, fits, kept_rules, first_merged, restated, merged_book}
use Rattle.book_operations.specs.Same.{scaled}
use Rattle.book_operations.proofs.Inserted.{all-between, different-between, apart, filter-halves, filter-drops, all-of, all-flat}
use Rattle.book_operations.proofs.Placed.{image-inside, option-cases}

-- what the words of a merge and its new rule are, where no fault is found
pub record IsMerge (words : List (List ℕ)) (book : Book) (new : Rule) : Type 0 where
  pub some : 4 ≤ length words
  pub factors : IsTrue (are_factors words)
  pub known : IsTrue (are_known book.rules words)
  pub fresh : is_some (place_of new.name book.rules) ≡ false
  pub weights : IsTrue (are_weights words)
  pub named : IsTrue (is_name new.name)
  pub parts : new.parts ≡ merged_parts words book.rules
  pub weigh : IsTrue (list_all (λ (part : Part). is_weight part.weight) new.parts)
  pub few : length new.parts ≤ MAX_PARTS
  pub fit : IsTrue (list_all (fits new.name) new.parts)

-- ---- one rule at least is merged

found : (name : List ℕ) (rules : List Rule) → IsTrue (is_some (place_of name rules)) → (i : ℕ) × (i < length rules) × ((rule_at rules i).name ≡ name)
unfolding place_of
found name rules h =
    ⊎_elim
    (λ none. absurd (false≢true (sym (ap is_some none) ∙ h)))
    (λ some. let at = position-Some (λ q. bytes_eq q.name name) rules some.0 nameless some.1 in (some.0, at.0, (bytes_eq-Decides _ _).0 at.1))
    (option-cases (place_of name rules))

some-merged : (words : List (List ℕ)) (rules : List Rule) → 4 ≤ length words → IsTrue (are_factors words) → IsTrue (are_known rules words) → (i : ℕ) × (i < length rules) × IsTrue (is_merged words (rule_at rules i))
some-merged [] rules le f k = absurd (omega (arith, le))
some-merged (w ∷ []) rules le f k = absurd (omega (arith, le))
some-merged (w ∷ a ∷ ws) rules le f k =
    let g = and_parts (is_some (weight_in w) && is_name a && is_none (factor_in ws a)) (are_factors ws) f in
    let h = and_parts (is_some (weight_in w) && is_name a) (is_none (factor_in ws a)) g.0 in
    let j = and_parts (is_some (weight_in w)) (is_name a) h.0 in
    let at = found a rules (and_parts (is_some (place_of a rules)) (are_known rules ws) k).0 in
    let same : bytes_eq a (rule_at rules at.0).name ≡ true = (bytes_eq-Decides a (rule_at rules at.0).name).1 (sym at.2) in
    (at.0, at.1, subst (λ (o : Option ℕ). IsTrue (is_some o)) (sym (cond-true {A = Option ℕ} (bytes_eq a (rule_at rules at.0).name) (weight_in w) (factor_in ws (rule_at rules at.0).name) same)) j.0)

-- ---- the parts

abbrev Good : Part → Type 0
Good part = IsTrue (is_well_formed part.expr)

given-good : (words : List (List ℕ)) (rule : Rule) → IsRule rule → All Good (given_parts words rule)
given-good words rule is =
    ⊎_elim
    (λ yes. subst (All Good) (sym (cond-true {A = List Part} (is_merged words rule) (map (scaled (times_in words rule.name)) rule.parts) [] yes)) (scaled-good rule.parts (All-weaker (IsPart rule.name) Good (λ part p. p.well_formed) rule.parts is.parts)))
    (λ no. subst (All Good) (sym (cond-false {A = List Part} (is_merged words rule) (map (scaled (times_in words rule.name)) rule.parts) [] no)) (All-nil Good))
    (cases_Bool (is_merged words rule)) where
      scaled-good : (parts : List Part) → All Good parts → All Good (map (scaled (times_in words rule.name)) parts)
      scaled-good [] h = All-nil Good
      scaled-good (p ∷ ps) h = All-cons Good (scaled (times_in words rule.name) p) (map (scaled (times_in words rule.name)) ps) (h 0 p (omega arith)) (scaled-good ps (λ k d lt. h (suc k) d (omega (arith, lt))))

pub weight-from : (w : ℕ) → IsTrue (is_weight w) → (1 ≤ w) × (w ≤ MAX_WEIGHT)
weight-from w h = let g = and_parts (nat_le 1 w) (nat_le w MAX_WEIGHT) h in (grind (arith, nat_tests, g.0), grind (arith, nat_tests, g.1))

module _ (words : List (List ℕ)) (book : Book) (new : Rule) (is : IsBook book) (merge : IsMerge words book new) where
  new-is-rule : IsRule new
  new-is-rule =
      let good : All Good new.parts = subst (All Good) (sym merge.parts) (all-flat Good (given_parts words) book.rules (All-weaker IsRule (λ rule. All Good (given_parts words rule)) (given-good words) book.rules is.rules)) in
      let weigh = all-of (λ (part : Part). is_weight part.weight) new.parts merge.weigh in
      let fit = all-of (fits new.name) new.parts merge.fit in
      record {
        name = merge.named;
        few = merge.few;
        parts = λ k d h. record { weighs = (weight-from _ (weigh k d h)).0; weight = (weight-from _ (weigh k d h)).1; well_formed = good k d h; fits = fit k d h };
      }

  -- ---- the rules

  abbrev keep : Rule → Bool
  keep rule = not (is_merged words rule)

  abbrev front : List Rule
  front = kept_rules words (take (first_merged words book.rules) book.rules)

  abbrev back : List Rule
  back = kept_rules words (drop (first_merged words book.rules) book.rules)

  abbrev kept : List Rule
  kept = filter keep book.rules

  abbrev child : Book
  child = merged_book new words book

  halves : front ++ back ≡ kept
  halves = filter-halves keep (first_merged words book.rules) book.rules

  others-apart : All (λ (q : Rule). q.name ≢ new.name) kept
  others-apart = All-filter keep (λ (q : Rule). q.name ≢ new.name) book.rules (apart new.name book.rules merge.fresh)

  over : (P : List Rule → Type 0) → P kept → P (front ++ back)
  over P h = subst P (sym halves) h

  fewer : length kept < length book.rules
  fewer =
      let at = some-merged words book.rules merge.some merge.factors merge.known in
      filter-drops keep book.rules at.0 nameless at.1 (ap not at.2)

  long : length child.rules ≡ suc (length kept)
  long = omega (arith, length-append front (new ∷ back), length-append front back, ap (length {A = Rule}) halves)

  inside : (r : ℕ) → image_at book.rules child.rules r < length child.rules
  inside = image-inside book.rules child.rules (omega (arith, long))

  restated-inside : (pair : ℕ × ℕ) → All (InRange (length child.rules)) (restated book.rules child.rules pair)
  restated-inside pair =
      let place = unwrap_or (position (is_new book.rules) child.rules) 0 in
      let a = image_at book.rules child.rules pair.0 in
      let b = image_at book.rules child.rules pair.1 in
      ⊎_elim
      (λ yes. subst (All (InRange (length child.rules))) (sym (cond-true {A = List (ℕ × ℕ)} (a == place && b == place) [] ((a, b) ∷ []) yes)) (All-nil (InRange (length child.rules))))
      (λ no. subst (All (InRange (length child.rules))) (sym (cond-false {A = List (ℕ × ℕ)} (a == place && b == place) [] ((a, b) ∷ []) no)) (All-cons (InRange (length child.rules)) (a, b) [] (inside pair.0, inside pair.1) (All-nil (InRange (length child.rules)))))
      (cases_Bool (a == place && b == place))

  pub merged-is-book : IsBook child
  merged-is-book = record {
    some = omega (arith, long);
    few = omega (arith, long, fewer, is.few);
    rules = all-between IsRule front back new (over (All IsRule) (All-filter keep IsRule book.rules is.rules)) new-is-rule;
    different = different-between front back new (over (λ rs. (i j : ℕ) (d : Rule) → i < j → j < length rs → (get_or rs i d).name ≢ (get_or rs j d).name) (AllPairs-filter (λ (a b : Rule). a.name ≢ b.name) keep book.rules is.different)) (over (All (λ (q : Rule). q.name ≢ new.name)) others-apart);
    statements = all-flat (InRange (length child.rules)) (restated book.rules child.rules) book.statements (λ k d h. restated-inside _);
  }
