-- Parts are a sum by the test where they are one.
use Rattle.std.specs.Prelude.{◌≡◌, ◌≢◌, ℕ, ◌≤◌, ◌*◌, ◌/◌, Bool, true, false, ◌&&◌, List, [], ◌∷◌, ◌++◌, Option, Some, None, IsTrue, All, nat_le, length, map, take, drop}
use Rattle.std.specs.List.{flat_map}
use Rattle.std.specs.Str.{bytes_eq}
use Rattle.std.proofs.Common.{◌⊎◌, inl, inr, cond, ◌∙◌, ⊎_elim, refl, sym, ap, subst, suc, arith}
use Rattle.std.proofs.lemmas.Bool.{and_parts, and_from, cases_Bool, cond-true, cond-false, false≢true, false_from_ne_true}
use Rattle.std.proofs.lemmas.Bool.Decides.{nat_tests}
use Rattle.std.proofs.lemmas.List.{take-append-drop, length-append, length-map}
use Rattle.std.proofs.lemmas.List.Elements.{All-nil, All-cons, All-head, All-tail, All-filter, All-weaker}
use Rattle.std.proofs.lemmas.Slice.Eq.{bytes_eq-Decides}
use Rattle.std.proofs.Math.Nat.{mul-div_right}
use Rattle.std.proofs.Math.Seq.{take-append_seam, drop-append_seam}
use Rattle.rule_language.specs.Books.{IsRule}
use Rattle.rule_language.specs.Names.{AreDifferent}
use Rattle.rule_language.specs.Parts.{IsPart}
use Rattle.rule_language.specs.declared.book.Rule.{Rule}
use Rattle.rule_language.specs.declared.part.Part.{Part}
use Rattle.book_operations.specs.Aggregation.{merged_rules, IsSumOf}
use Rattle.book_operations.specs.Images.{is_new}
use Rattle.book_operations.specs.Same.{scaled, are_times}
use Rattle.book_operations.specs.Summing.{after_summand, or_false, sums_up}
use Rattle.book_operations.proofs.Parts.{are_times-from, are_times-to}

-- ---- one summand

abbrev pub Parts : Type 0
Parts = List Part

chosen : (b : Bool) (x y : Parts) → cond b (Some x) None ≡ Some y → (b ≡ true) × (x ≡ y)
chosen true x y e = (refl, cc)
chosen false x y e = absurd cc

record IsSummand (summand parts rest : Parts) : Type 0 where
  times : ℕ
  counted : 1 ≤ times
  some : 1 ≤ length summand
  cut : parts ≡ map (scaled times) summand ++ rest

le-from : (a b : ℕ) → IsTrue (nat_le a b) → a ≤ b
le-from a b h = grind (arith, nat_tests, h)

le-to : (a b : ℕ) → a ≤ b → IsTrue (nat_le a b)
le-to a b h = grind (arith, nat_tests, h)

summand-from : (summand parts rest : Parts) → after_summand summand parts ≡ Some rest → IsSummand summand parts rest
summand-from [] parts rest e = absurd cc
summand-from (p ∷ s) [] rest e = absurd cc
summand-from (p ∷ s) (q ∷ qs) rest e =
    let t = q.weight / p.weight in
    let n = length (p ∷ s) in
    let all = chosen (nat_le 1 t && nat_le n (length (q ∷ qs)) && are_times t (p ∷ s) (take n (q ∷ qs))) (drop n (q ∷ qs)) rest e in
    let g = and_parts (nat_le 1 t && nat_le n (length (q ∷ qs))) (are_times t (p ∷ s) (take n (q ∷ qs))) all.0 in
    let k = and_parts (nat_le 1 t) (nat_le n (length (q ∷ qs))) g.0 in
    record {
      times = t;
      counted = le-from 1 t k.0;
      some = omega arith;
      cut = sym (take-append-drop n (q ∷ qs)) ∙ ap (λ (xs : Parts). xs ++ drop n (q ∷ qs)) (sym (are_times-from t (p ∷ s) (take n (q ∷ qs)) g.1)) ∙ ap (λ (xs : Parts). map (scaled t) (p ∷ s) ++ xs) all.1;
    }

quotient-is : (w t : ℕ) → 1 ≤ w → (w * t) / w ≡ t
quotient-is w t h = mul-div_right t (omega (arith, h))

given : (p : Part) (s : Parts) (q : Part) (qs : Parts) (t : ℕ) → q.weight / p.weight ≡ t → 1 ≤ t → length (p ∷ s) ≤ length (q ∷ qs) → IsTrue (are_times t (p ∷ s) (take (length (p ∷ s)) (q ∷ qs))) → after_summand (p ∷ s) (q ∷ qs) ≡ Some (drop (length (p ∷ s)) (q ∷ qs))
given p s q qs t e some few are =
    let n = length (p ∷ s) in
    let u = q.weight / p.weight in
    cond-true {A = Option Parts} (nat_le 1 u && nat_le n (length (q ∷ qs)) && are_times u (p ∷ s) (take n (q ∷ qs))) (Some (drop n (q ∷ qs))) None
    (and_from (nat_le 1 u && nat_le n (length (q ∷ qs))) (are_times u (p ∷ s) (take n (q ∷ qs)))
    (and_from (nat_le 1 u) (nat_le n (length (q ∷ qs))) (subst (λ (v : ℕ). IsTrue (nat_le 1 v)) (sym e) (le-to 1 t some)) (le-to n (length (q ∷ qs)) few))
    (subst (λ (v : ℕ). IsTrue (are_times v (p ∷ s) (take n (q ∷ qs)))) (sym e) are))

summand-to : (summand : Parts) (t : ℕ) (rest : Parts) → 1 ≤ length summand → 1 ≤ t → All (λ (p : Part). 1 ≤ p.weight) summand → after_summand summand (map (scaled t) summand ++ rest) ≡ Some rest
summand-to [] t rest some counted weighs = absurd (omega (arith, some))
summand-to (p ∷ s) t rest some counted weighs =
    let ms = map (scaled t) (p ∷ s) in
    let n : length ms ≡ length (p ∷ s) = length-map (p ∷ s) (scaled t) in
    let front : take (length (p ∷ s)) (ms ++ rest) ≡ ms = ap (λ (k : ℕ). take k (ms ++ rest)) (sym n) ∙ take-append_seam ms rest in
    let back : drop (length (p ∷ s)) (ms ++ rest) ≡ rest = ap (λ (k : ℕ). drop k (ms ++ rest)) (sym n) ∙ drop-append_seam ms rest in
    given p s (scaled t p) (map (scaled t) s ++ rest) t (quotient-is p.weight t (All-head (λ (p : Part). 1 ≤ p.weight) p s weighs)) counted
    (omega (arith, length-append ms rest, n))
    (subst (λ (xs : Parts). IsTrue (are_times t (p ∷ s) xs)) (sym front) (are_times-to t (p ∷ s)))
    ∙ ap (λ (xs : Parts). Some xs) back

abbrev pub Weighs : Rule → Type 0
Weighs rule = All (λ (p : Part). 1 ≤ p.weight) rule.parts

pub weighs : (rules : List Rule) → All IsRule rules → All Weighs rules
weighs rules all = All-weaker IsRule Weighs (λ rule is. All-weaker (IsPart rule.name) (λ (p : Part). 1 ≤ p.weight) (λ p part. part.weighs) rule.parts is.parts) rules all

pub sums-read : (a others b rules : List Rule) (c parts : Parts) → a ≡ others → b ≡ rules → c ≡ parts → sums_up a b c ≡ sums_up others rules parts
sums-read a others b rules c parts e f g = ap (λ (x : List Rule). sums_up x b c) e ∙ ap (λ (x : List Rule). sums_up others x c) f ∙ ap (sums_up others rules) g

-- ---- names, one rule after the other

abbrev pub Distinct : List Rule → Type 0
Distinct [] = Unit {0}
Distinct (r ∷ rs) = All (λ (q : Rule). q.name ≢ r.name) rs × Distinct rs

pub distinct : (rules : List Rule) → AreDifferent (λ (rule : Rule). rule.name) rules → Distinct rules
distinct [] d = tt
distinct (r ∷ rs) d = (
  λ k x h e. d 0 (suc k) x (omega arith) (omega (arith, h)) (sym e),
  distinct rs (λ i j x lt h. d (suc i) (suc j) x (omega (arith, lt)) (omega (arith, h))),
)

-- ---- sums

summed : (List ℕ → ℕ) → List Rule → Parts
summed times rules = flat_map (λ (rule : Rule). map (scaled (times rule.name)) rule.parts) rules

summed-is : (times : List ℕ → ℕ) (rules : List Rule) → summed times rules ≡ flat_map (λ (rule : Rule). map (scaled (times rule.name)) rule.parts) rules
unfolding summed
summed-is times rules = refl

summed-cons : (times : List ℕ → ℕ) (r : Rule) (rs : List Rule) → flat_map (λ (rule : Rule). map (scaled (times rule.name)) rule.parts) (r ∷ rs) ≡ map (scaled (times r.name)) r.parts ++ summed times rs
unfolding summed
summed-cons times r rs = refl

abbrev with_first : ℕ → List ℕ → (List ℕ → ℕ) → List ℕ → ℕ
with_first t name times other = cond (bytes_eq other name) t (times other)

with_first-other : (t : ℕ) (name : List ℕ) (times : List ℕ → ℕ) (other : List ℕ) → other ≢ name → with_first t name times other ≡ times other
with_first-other t name times other ne = cond-false {A = ℕ} (bytes_eq other name) t (times other) (false_from_ne_true _ (λ e. ne ((bytes_eq-Decides other name).0 e)))

summed-agree : (t : ℕ) (name : List ℕ) (times : List ℕ → ℕ) (rules : List Rule) → All (λ (q : Rule). q.name ≢ name) rules → summed (with_first t name times) rules ≡ summed times rules
unfolding summed
summed-agree t name times [] apart = refl
summed-agree t name times (r ∷ rs) apart =
    ap (λ (k : ℕ). map (scaled k) r.parts ++ summed (with_first t name times) rs) (with_first-other t name times r.name (All-head (λ (q : Rule). q.name ≢ name) r rs apart))
    ∙ ap (λ (ps : Parts). map (scaled (times r.name)) r.parts ++ ps) (summed-agree t name times rs (All-tail (λ (q : Rule). q.name ≢ name) r rs apart))

module _ (others : List Rule) where
  abbrev pub Sum : List Rule → Parts → Type 0
  Sum rules parts = (times : List ℕ → ℕ) × IsSumOf (merged_rules rules others) times parts

  join : (r : Rule) (rs : List Rule) (parts rest : Parts) → All (λ (q : Rule). q.name ≢ r.name) rs → IsSummand r.parts parts rest → Sum rs rest → (times : List ℕ → ℕ) × IsSumOf (r ∷ merged_rules rs others) times parts
  unfolding summed
  join r rs parts rest apart summand sum =
      let t = summand.times in
      let times = with_first t r.name sum.0 in
      let here : times r.name ≡ t = cond-true {A = ℕ} (bytes_eq r.name r.name) t (sum.0 r.name) ((bytes_eq-Decides r.name r.name).1 refl) in
      let far = All-filter (is_new others) (λ (q : Rule). q.name ≢ r.name) rs apart in (
        times,
        record {
          not_bare = All-cons (λ (rule : Rule). 1 ≤ length rule.parts) r (merged_rules rs others) summand.some sum.1.not_bare;
          counted = All-cons (λ (rule : Rule). 1 ≤ times rule.name) r (merged_rules rs others) (omega (arith, here, summand.counted)) (λ k x h. omega (arith, with_first-other t r.name sum.0 _ (far k x h), sum.1.counted k x h));
          total = summand.cut ∙ ap (λ (k : ℕ). map (scaled k) r.parts ++ rest) (sym here) ∙ ap (λ (ps : Parts). map (scaled (times r.name)) r.parts ++ ps) (sum.1.total ∙ sym (summed-agree t r.name sum.0 (merged_rules rs others) far));
        },
      )

  option-cases : (o : Option Parts) → (o ≡ None) ⊎ ((ps : Parts) × (o ≡ Some ps))
  option-cases None = inl refl
  option-cases (Some ps) = inr (ps, refl)

  pub sum-from : (rules : List Rule) (parts : Parts) → Distinct rules → IsTrue (sums_up others rules parts) → Sum rules parts
  sum-from [] [] d h = (λ _. 1, record { not_bare = All-nil (λ (rule : Rule). 1 ≤ length rule.parts); counted = All-nil (λ (rule : Rule). 1 ≤ 1); total = refl })
  sum-from [] (p ∷ ps) d h = absurd (false≢true h)
  sum-from (r ∷ rs) parts d h =
      ⊎_elim
      (λ new.
      let passes = sym (cond-true {A = Bool} (is_new others r) (or_false (after_summand r.parts parts) (sums_up others rs)) (sums_up others rs parts) new) ∙ h in
      ⊎_elim
      (λ none. absurd (false≢true (sym (ap (λ (o : Option Parts). or_false o (sums_up others rs)) none) ∙ passes)))
      (λ some.
      let rec = sum-from rs some.0 d.1 (sym (ap (λ (o : Option Parts). or_false o (sums_up others rs)) some.1) ∙ passes) in
      subst (λ (l : List Rule). (times : List ℕ → ℕ) × IsSumOf l times parts) (sym (cond-true {A = List Rule} (is_new others r) (r ∷ merged_rules rs others) (merged_rules rs others) new))
      (join r rs parts some.0 d.0 (summand-from r.parts parts some.0 some.1) rec))
      (option-cases (after_summand r.parts parts)))
      (λ old.
      let rec = sum-from rs parts d.1 (sym (cond-false {A = Bool} (is_new others r) (or_false (after_summand r.parts parts) (sums_up others rs)) (sums_up others rs parts) old) ∙ h) in
      subst (λ (l : List Rule). (times : List ℕ → ℕ) × IsSumOf l times parts) (sym (cond-false {A = List Rule} (is_new others r) (r ∷ merged_rules rs others) (merged_rules rs others) old)) rec)
      (cases_Bool (is_new others r))

  pub sum-to : (rules : List Rule) (times : List ℕ → ℕ) (parts : Parts) → All Weighs rules → IsSumOf (merged_rules rules others) times parts → IsTrue (sums_up others rules parts)
  sum-to [] times parts weighs sum = subst (λ (ps : Parts). IsTrue (sums_up others [] ps)) (sym sum.total) refl
  sum-to (r ∷ rs) times parts weighs sum =
      ⊎_elim
      (λ new.
      let is = cond-true {A = List Rule} (is_new others r) (r ∷ merged_rules rs others) (merged_rules rs others) new in
      let whole = subst (λ (l : List Rule). IsSumOf l times parts) is sum in
      let tail : IsSumOf (merged_rules rs others) times (summed times (merged_rules rs others)) = record {
        not_bare = All-tail (λ (rule : Rule). 1 ≤ length rule.parts) r (merged_rules rs others) whole.not_bare;
        counted = All-tail (λ (rule : Rule). 1 ≤ times rule.name) r (merged_rules rs others) whole.counted;
        total = summed-is times (merged_rules rs others);
      } in
      let first = summand-to r.parts (times r.name) (summed times (merged_rules rs others))
      (All-head (λ (rule : Rule). 1 ≤ length rule.parts) r (merged_rules rs others) whole.not_bare)
      (All-head (λ (rule : Rule). 1 ≤ times rule.name) r (merged_rules rs others) whole.counted)
      (All-head Weighs r rs weighs) in
      let cut : parts ≡ map (scaled (times r.name)) r.parts ++ summed times (merged_rules rs others) = whole.total ∙ summed-cons times r (merged_rules rs others) in
      cond-true {A = Bool} (is_new others r) (or_false (after_summand r.parts parts) (sums_up others rs)) (sums_up others rs parts) new
      ∙ ap (λ (o : Option Parts). or_false o (sums_up others rs)) (ap (after_summand r.parts) cut ∙ first)
      ∙ sum-to rs times (summed times (merged_rules rs others)) (All-tail Weighs r rs weighs) tail)
      (λ old.
      let is = cond-false {A = List Rule} (is_new others r) (r ∷ merged_rules rs others) (merged_rules rs others) old in
      cond-false {A = Bool} (is_new others r) (or_false (after_summand r.parts parts) (sums_up others rs)) (sums_up others rs parts) old
      ∙ sum-to rs times parts (All-tail Weighs r rs weighs) (subst (λ (l : List Rule). IsSumOf l times parts) is sum))
      (cases_Bool (is_new others r))
