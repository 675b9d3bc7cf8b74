-- A part that is read, and whose weight is in its range, may be written.
use Rattle.std.proofs.Common.{◌≡◌, ℕ, suc, ◌+◌, ◌<◌, ◌≤◌, ◌^◌, ◌&&◌, Bool, true, false, not, cond, List, [], ◌∷◌, length, Option, Some, None, Result, Ok, Err, refl, sym, ap, ◌∙◌, subst, arith}
use Rattle.std.specs.Prelude.{nat_lt, min, ◌==◌}
use Rattle.std.specs.List.{list_all, position, position_or_len}
use Rattle.std.specs.Char.{is_ascii_digit, digit_value}
use Rattle.std.specs.Fmt.{decimal}
use Rattle.std.specs.Str.Parse.{AllDigits, digits_value}
use Rattle.std.proofs.lemmas.Bool.Decides.{nat_tests}
use Rattle.std.proofs.lemmas.Fmt.{decimal-digits_value}
use Rattle.std.proofs.lemmas.Str.Parse.{IsNumeralModel}
use Rattle.preorder.specs.Name.{is_name}
use Rattle.reading.specs.Reading.{◌>>=◌}
use Rattle.reading.specs.Words.{is_word, number_of}
use Rattle.reading.specs.declared.words.TheConstants.{PAST}
use Rattle.reading.proofs.Digits.{digit_is}
use Rattle.expressions.specs.declared.fault.ExprFault.{ExprFault}
use Rattle.expressions.specs.declared.fault.ExprFault.TheVariants.{Syntax as NoExpr, NoMemory as NoRoom}
use Rattle.expressions.specs.declared.tree.Expr.{Expr}
use Rattle.expressions.specs.Reading.{expr_of}
use Rattle.expressions.specs.Written.{is_well_formed}
use Rattle.reading.proofs.Truth.{both}
use Rattle.expressions.proofs.Texts.{spelled}
use Rattle.expressions.proofs.WellFormed.{read_is_well_formed}
use Rattle.rule_language.specs.declared.limits.TheConstants.{MAX_WEIGHT}
use Rattle.rule_language.specs.declared.book.BookFault.{BookFault}
use Rattle.rule_language.specs.declared.book.BookFault.TheVariants.{Syntax}
use Rattle.rule_language.specs.declared.part.Part.{Part}
use Rattle.rule_language.specs.Parts.{trimmed, without_zeros, part_fits, IsPart}
use Rattle.rule_language.specs.Books.{part_of, weight_from, or_syntax}
use Rattle.rule_language.proofs.PartLaw.{kept}

-- ---- digits without the zeros before them are what is written

model : IsNumeralModel (AllDigits 10) (digits_value 10)
model = record { to = λ ds h. h; from = λ ds h. h; same = λ ds h. refl }

all_digits : (w : List ℕ) → list_all is_ascii_digit w ≡ true → AllDigits 10 w
all_digits [] e = tt
all_digits (c ∷ w) e =
    let k = both (is_ascii_digit c) (list_all is_ascii_digit w) e in
    let value = digit_is c k.0 in
    let small : digit_value c < 10 = grind (arith, nat_tests, value, k.0) in
    (small, all_digits w k.1)

zero_first : (ds : List ℕ) → without_zeros (48 ∷ ds) ≡ without_zeros ds
unfolding without_zeros
zero_first ds = at (nat_lt (position_or_len (λ b. not (b == 48)) ds) (length ds)) refl where
  at : (t : Bool) → nat_lt (position_or_len (λ b. not (b == 48)) ds) (length ds) ≡ t → trimmed (48 ∷ ds) (position (λ b. not (b == 48)) (48 ∷ ds)) ≡ trimmed ds (position (λ b. not (b == 48)) ds)
  at true e =
      let over : nat_lt (1 + position_or_len (λ b. not (b == 48)) ds) (length (48 ∷ ds)) ≡ true = grind (arith, nat_tests, e) in
      let one : 1 + position_or_len (λ b. not (b == 48)) ds ≡ suc (position_or_len (λ b. not (b == 48)) ds) = omega arith in
      rw (over, e, one) refl
  at false e =
      let over : nat_lt (1 + position_or_len (λ b. not (b == 48)) ds) (length (48 ∷ ds)) ≡ false = grind (arith, nat_tests, e) in
      rw (over, e) refl

zero_case : (ds : List ℕ) → (1 ≤ digits_value 10 ds → digits_value 10 ds < 2 ^ 64 → without_zeros ds ≡ decimal (digits_value 10 ds))
    → 1 ≤ digits_value 10 (48 ∷ ds) → digits_value 10 (48 ∷ ds) < 2 ^ 64 → without_zeros (48 ∷ ds) ≡ decimal (digits_value 10 (48 ∷ ds))
zero_case ds again low high = zero_first ds ∙ again low high

written_digits : (ds : List ℕ) → list_all is_ascii_digit ds ≡ true → 1 ≤ digits_value 10 ds → digits_value 10 ds < 2 ^ 64 → without_zeros ds ≡ decimal (digits_value 10 ds)
written_digits [] all low high = absurd (omega arith)
written_digits (b ∷ ds) all low high = at (b == 48) refl (written_digits ds (both (is_ascii_digit b) (list_all is_ascii_digit ds) all).1) where
  at : (t : Bool) → (b == 48) ≡ t → (1 ≤ digits_value 10 ds → digits_value 10 ds < 2 ^ 64 → without_zeros ds ≡ decimal (digits_value 10 ds)) → without_zeros (b ∷ ds) ≡ decimal (digits_value 10 (b ∷ ds))
  at true e again =
      let same : b ≡ 48 = grind (arith, nat_tests, e) in
      subst (λ (c : ℕ). 1 ≤ digits_value 10 (c ∷ ds) → digits_value 10 (c ∷ ds) < 2 ^ 64 → without_zeros (c ∷ ds) ≡ decimal (digits_value 10 (c ∷ ds))) (sym same) (zero_case ds again) low high
  at false e again = kept (b ∷ ds) e ∙ sym (decimal-digits_value model (b ∷ ds) (all_digits (b ∷ ds) all) (omega arith) (λ h. absurd (let no : (b == 48) ≡ true = grind (arith, nat_tests, h) in cc)) high)

-- ---- a part that is read

record Number (weight : List ℕ) (w : ℕ) : Type 0 where
  digits : list_all is_ascii_digit weight ≡ true
  value : digits_value 10 weight ≡ w

number_is : (weight : List ℕ) (w : ℕ) → number_of weight ≡ Some w → Number weight w
unfolding number_of
number_is weight w e = at (is_word weight && list_all is_ascii_digit weight) refl e where
  at : (t : Bool) → (is_word weight && list_all is_ascii_digit weight) ≡ t → cond t (Some (digits_value 10 weight)) None ≡ Some w → Number weight w
  at true f h = record { digits = (both (is_word weight) (list_all is_ascii_digit weight) f).1; value = cc }
  at false f h = absurd cc

weight_text : (weight : List ℕ) (w : ℕ) → number_of weight ≡ Some w → 1 ≤ w → w ≤ MAX_WEIGHT → without_zeros weight ≡ decimal w
weight_text weight w e low high =
    let n = number_is weight w e in
    subst (λ (v : ℕ). 1 ≤ v → v ≤ MAX_WEIGHT → without_zeros weight ≡ decimal v) n.value (λ l h. written_digits weight n.digits l (omega arith)) low high

abbrev made : ℕ → Expr → Bool → Part
made w e at_end = record { weight = min w PAST; expr = e; at_end = at_end }

of_fit : (name weight : List ℕ) (w : ℕ) (e : Expr) (at_end : Bool) → number_of weight ≡ Some w → is_well_formed e ≡ true → part_fits at_end name (without_zeros weight) e ≡ true
    → 1 ≤ (made w e at_end).weight → (made w e at_end).weight ≤ MAX_WEIGHT → IsPart name (made w e at_end)
of_fit name weight w e at_end is good fit low high =
    let same : w ≡ min w PAST = omega arith in
    let text : without_zeros weight ≡ decimal (min w PAST) = weight_text weight w is (omega arith) (omega arith) ∙ ap decimal same in
    record { weighs = low; weight = high; well_formed = good; fits = subst (λ (t : List ℕ). part_fits at_end name t e ≡ true) text fit }

fitted : (n : ℕ) (name weight : List ℕ) (w : ℕ) (e : Expr) (at_end b : Bool) (p : Part) → number_of weight ≡ Some w → is_well_formed e ≡ true → part_fits at_end name (without_zeros weight) e ≡ b
    → ◌≡◌ {A = Result Part BookFault} (cond b (Ok (made w e at_end)) (Err (Syntax n))) (Ok p) → 1 ≤ p.weight → p.weight ≤ MAX_WEIGHT → IsPart name p
fitted n name weight w e at_end true p is good fit h =
    let same : made w e at_end ≡ p = cc in
    subst (λ (q : Part). 1 ≤ q.weight → q.weight ≤ MAX_WEIGHT → IsPart name q) same (of_fit name weight w e at_end is good fit)
fitted n name weight w e at_end false p is good fit h = absurd cc

of_expr : (n : ℕ) (name weight : List ℕ) (w : ℕ) (ws : List (List ℕ)) (at_end : Bool) (r : Result Expr ExprFault) (p : Part) → number_of weight ≡ Some w → expr_of ws ≡ r
    → (or_syntax n r >>= λ e. cond (part_fits at_end name (without_zeros weight) e) (Ok (made w e at_end)) (Err (Syntax n))) ≡ Ok p → 1 ≤ p.weight → p.weight ≤ MAX_WEIGHT → IsPart name p
of_expr n name weight w ws at_end (Ok e) p is read h = fitted n name weight w e at_end (part_fits at_end name (without_zeros weight) e) p is (read_is_well_formed ws e (spelled ws e read)) refl h
of_expr n name weight w ws at_end (Err NoExpr) p is read h = absurd cc
of_expr n name weight w ws at_end (Err NoRoom) p is read h = absurd cc

of_weight : (n : ℕ) (name weight : List ℕ) (ws : List (List ℕ)) (at_end : Bool) (o : Option ℕ) (p : Part) → number_of weight ≡ o
    → (weight_from n o >>= λ w. or_syntax n (expr_of ws) >>= λ e. cond (part_fits at_end name (without_zeros weight) e) (Ok (record { weight = w; expr = e; at_end = at_end })) (Err (Syntax n))) ≡ Ok p → 1 ≤ p.weight → p.weight ≤ MAX_WEIGHT → IsPart name p
of_weight n name weight ws at_end (Some w) p is h = of_expr n name weight w ws at_end (expr_of ws) p is refl h
of_weight n name weight ws at_end None p is h = absurd cc

past_name : (b : Bool) (n : ℕ) (r : Result Part BookFault) (p : Part) → cond b (Err (Syntax n)) r ≡ Ok p → r ≡ Ok p
past_name true n r p h = absurd cc
past_name false n r p h = h

pub part_sound : (n : ℕ) (at_end : Bool) (name weight : List ℕ) (ws : List (List ℕ)) (p : Part) → part_of n at_end name weight ws ≡ Ok p → 1 ≤ p.weight → p.weight ≤ MAX_WEIGHT → IsPart name p
unfolding part_of
part_sound n at_end name weight ws p h = of_weight n name weight ws at_end (number_of weight) p refl (past_name (not (is_name name)) n _ p h)
