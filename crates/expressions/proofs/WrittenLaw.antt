-- The written form of an expression that a book may hold is its text.
use Rattle.std.proofs.Common.{◌≡◌, ℕ, zero, suc, ◌+◌, ◌<◌, ◌≤◌, ◌^◌, ◌&&◌, Bool, true, not, pos, negsuc, max, List, [], ◌∷◌, ◌++◌, length, Some, None, refl, sym, ap, subst, ◌∙◌, append_assoc, arith}
use Rattle.std.specs.Prelude.{codes, nat_le, nat_lt}
use Rattle.std.specs.Fmt.{decimal}
use Rattle.std.proofs.lemmas.Bool.Decides.{nat_tests}
use Rattle.std.proofs.lemmas.Fmt.{length-decimal-le}
use Rattle.preorder.specs.Name.{is_name}
use Rattle.reading.specs.Reading.{read_each}
use Rattle.expressions.specs.declared.limits.TheConstants.{MAX_BRACKETS, MAX_CONSTANT, MAX_DIVISOR, MAX_ARGUMENT_DIGITS}
use Rattle.expressions.specs.declared.token.Token.{Token}
use Rattle.expressions.specs.declared.token.Token.TheVariants.{Plus, Minus, Times, Open, Close, Comma, Digits, Word}
use Rattle.expressions.specs.declared.tree.Argument.TheVariants.{Named, Number}
use Rattle.expressions.specs.declared.tree.Expr.{Expr}
use Rattle.expressions.specs.declared.tree.Expr.TheVariants as e
use Rattle.expressions.specs.declared.tree.Expr.TheViews.{roll-Expr}
use Rattle.expressions.specs.declared.tree.Expr.TheOpen.{Expr-F}
use Rattle.expressions.specs.declared.tree.Expr.TheFolds.{fold-Expr, fold-roll-Expr, ind-Expr, map-Expr}
use Rattle.expressions.specs.Tokens.{token, tokens_of}
use Rattle.expressions.specs.Grammar.{expr, factor, Is, one_term, sum, difference, one_factor, product, constant, negation, brackets, absolute, least, greatest, choice, quotient, plain, of_name, of_number, is_reserved, IsTextOf}
use Rattle.expressions.specs.Written.{call, listed, signed, written, written_step, nesting, nesting_step, is_from_to, is_feature, is_well_formed, well_formed_step}
use Rattle.expressions.proofs.Lexemes.{lexemes_of_words}
use Rattle.reading.proofs.Truth.{both}
use Rattle.expressions.proofs.Spelled.{Lexes, no_text, at_blank, at_sign, name_lexes, decimal_lexes, plus_is, minus_is, times_is, open_is, close_is, comma_is}

-- the tokens of the written form
abbrev spelled_step : Expr-F (List Token) → List Token
spelled_step (Expr-F.Const (pos n)) = Digits n (length (decimal n)) ∷ []
spelled_step (Expr-F.Const (negsuc n)) = []
spelled_step (Expr-F.Feature name None) = Word name ∷ []
spelled_step (Expr-F.Feature name (Some (Named about))) = Word name ∷ Open ∷ Word about ∷ Close ∷ []
spelled_step (Expr-F.Feature name (Some (Number n))) = Word name ∷ Open ∷ Digits n (length (decimal n)) ∷ Close ∷ []
spelled_step (Expr-F.Neg a) = Minus ∷ a
spelled_step (Expr-F.Abs a) = Word (codes "abs") ∷ Open ∷ a ++ Close ∷ []
spelled_step (Expr-F.Add a b) = Open ∷ (a ++ Plus ∷ b) ++ Close ∷ []
spelled_step (Expr-F.Sub a b) = Open ∷ (a ++ Minus ∷ b) ++ Close ∷ []
spelled_step (Expr-F.Mul a b) = Open ∷ (a ++ Times ∷ b) ++ Close ∷ []
spelled_step (Expr-F.Min a b) = Word (codes "min") ∷ Open ∷ a ++ (Comma ∷ b ++ Close ∷ [])
spelled_step (Expr-F.Max a b) = Word (codes "max") ∷ Open ∷ a ++ (Comma ∷ b ++ Close ∷ [])
spelled_step (Expr-F.If a b c) = Word (codes "if") ∷ Open ∷ a ++ (Comma ∷ b ++ (Comma ∷ c ++ Close ∷ []))
spelled_step (Expr-F.Div a (pos n)) = Word (codes "div") ∷ Open ∷ a ++ Comma ∷ Digits n (length (decimal n)) ∷ Close ∷ []
spelled_step (Expr-F.Div a (negsuc n)) = []

abbrev spelled : Expr → List Token
spelled = fold-Expr (List Token) spelled_step

-- what the written form of e is, where e may stand in a book
record IsWritten (e : Expr) (text : List ℕ) (ts : List Token) (deep : ℕ) : Type 0 where
  lexes : Lexes text ts
  is : (d : ℕ) → deep ≤ d → Is factor d ts e

abbrev Holds : Expr → Type 0
Holds e = is_well_formed e ≡ true → IsWritten e (written e) (spelled e) (nesting e)

abbrev LayerHolds : Expr-F Expr → Type 0
LayerHolds x = well_formed_step (map-Expr Expr Bool is_well_formed x) ≡ true
    → IsWritten (roll-Expr x) (written_step (map-Expr Expr (List ℕ) written x)) (spelled_step (map-Expr Expr (List Token) spelled x)) (nesting_step (map-Expr Expr ℕ nesting x))

settled : (x : Expr-F Expr) → LayerHolds x → Holds (roll-Expr x)
settled x h good =
    let f : well_formed_step (map-Expr Expr Bool is_well_formed x) ≡ true = sym (fold-roll-Expr Bool well_formed_step x) ∙ good in
    rw (fold-roll-Expr (List ℕ) written_step x, fold-roll-Expr (List Token) spelled_step x, fold-roll-Expr ℕ nesting_step x) (h f)

-- ---- one operation

in_call : (name inner : List ℕ) (ns ts : List Token) → Lexes name ns → Lexes inner ts → Lexes (call name inner) (ns ++ Open ∷ (ts ++ Close ∷ []))
in_call name inner ns ts p q = at_sign name (inner ++ 41 ∷ []) ns (ts ++ Close ∷ []) 40 Open refl refl open_is p (at_sign inner [] ts [] 41 Close refl refl close_is q no_text)

in_list : (x y : List ℕ) (ts us : List Token) → Lexes x ts → Lexes y us → Lexes (listed x y) (ts ++ Comma ∷ us)
in_list x y ts us p q = at_sign x (32 ∷ y) ts us 44 Comma refl refl comma_is p (at_blank [] y [] us no_text q)

in_plus : (x y : List ℕ) (ts us : List Token) → Lexes x ts → Lexes y us → Lexes (signed 43 x y) (ts ++ Plus ∷ us)
in_plus x y ts us p q = at_blank x (43 ∷ 32 ∷ y) ts (Plus ∷ us) p (at_sign [] (32 ∷ y) [] us 43 Plus refl refl plus_is no_text (at_blank [] y [] us no_text q))

in_minus : (x y : List ℕ) (ts us : List Token) → Lexes x ts → Lexes y us → Lexes (signed 45 x y) (ts ++ Minus ∷ us)
in_minus x y ts us p q = at_blank x (45 ∷ 32 ∷ y) ts (Minus ∷ us) p (at_sign [] (32 ∷ y) [] us 45 Minus refl refl minus_is no_text (at_blank [] y [] us no_text q))

in_times : (x y : List ℕ) (ts us : List Token) → Lexes x ts → Lexes y us → Lexes (signed 42 x y) (ts ++ Times ∷ us)
in_times x y ts us p q = at_blank x (42 ∷ 32 ∷ y) ts (Times ∷ us) p (at_sign [] (32 ∷ y) [] us 42 Times refl refl times_is no_text (at_blank [] y [] us no_text q))

named_call : (name inner : List ℕ) (ts : List Token) → is_name name ≡ true → Lexes inner ts → Lexes (call name inner) (Word name ∷ Open ∷ (ts ++ Close ∷ []))
named_call name inner ts e q = in_call name inner (Word name ∷ []) ts (name_lexes name e) q

abs_is : is_name (codes "abs") ≡ true
unfolding is_name
abs_is = refl

min_is : is_name (codes "min") ≡ true
unfolding is_name
min_is = refl

max_is : is_name (codes "max") ≡ true
unfolding is_name
max_is = refl

if_is : is_name (codes "if") ≡ true
unfolding is_name
if_is = refl

div_is : is_name (codes "div") ≡ true
unfolding is_name
div_is = refl

-- one bracket deeper
under : (Q : ℕ → Type 0) (m d : ℕ) → m + 1 ≤ d → ((k : ℕ) → m ≤ k → Q (suc k)) → Q d
under Q m zero le f = absurd (omega arith)
under Q m (suc k) le f = f k (omega arith)

as_expr : (d : ℕ) (ts : List Token) (a : Expr) → Is factor d ts a → Is expr d ts a
as_expr d ts a g = one_term d ts a (one_factor d ts a g)

made : (d : ℕ) (ts : List Token) (a b : Expr) → a ≡ b → Is factor d ts b → Is factor d ts a
made d ts a b e g = subst (λ (c : Expr). Is factor d ts c) (sym e) g

lexes_as : (text : List ℕ) (ts us : List Token) → ts ≡ us → Lexes text us → Lexes text ts
lexes_as text ts us e l = subst (λ (vs : List Token). Lexes text vs) (sym e) l

layer : (x : Expr-F ((a : Expr) × Holds a)) → LayerHolds (map-Expr ((a : Expr) × Holds a) Expr (λ p. p.0) x)
layer (Expr-F.Const (pos n)) good =
    let high : n ≤ MAX_CONSTANT = grind (arith, nat_tests, (both (nat_le 0 n) (nat_le n MAX_CONSTANT) good).1) in
    record { lexes = decimal_lexes n (omega arith); is = λ d le. made d (Digits n (length (decimal n)) ∷ []) _ (e.Const (pos n)) (e.rolls-Const (pos n)) (constant d n (length (decimal n)) high) }
layer (Expr-F.Const (negsuc n)) good = absurd cc
layer (Expr-F.Neg a) good =
    let h = a.1 good in
    record {
      lexes = at_sign [] (written a.0) [] (spelled a.0) 45 Minus refl refl minus_is no_text h.lexes;
      is = λ d le. made d (Minus ∷ spelled a.0) _ (e.Neg a.0) (e.rolls-Neg a.0) (negation d (spelled a.0) a.0 (h.is d le));
    }
layer (Expr-F.Abs a) good =
    let h = a.1 good in
    record {
      lexes = named_call (codes "abs") (written a.0) (spelled a.0) abs_is h.lexes;
      is = λ d le. under (λ n. Is factor n (Word (codes "abs") ∷ Open ∷ spelled a.0 ++ Close ∷ []) (roll-Expr (Expr-F.Abs a.0))) (nesting a.0) d le (λ k m.
          made (suc k) _ _ (e.Abs a.0) (e.rolls-Abs a.0) (absolute k (spelled a.0) a.0 (as_expr k (spelled a.0) a.0 (h.is k m))));
    }
layer (Expr-F.Add a b) good =
    let h = a.1 (both (is_well_formed a.0) (is_well_formed b.0) good).0 in
    let i = b.1 (both (is_well_formed a.0) (is_well_formed b.0) good).1 in
    record {
      lexes = in_call [] (signed 43 (written a.0) (written b.0)) [] (spelled a.0 ++ Plus ∷ spelled b.0) no_text (in_plus (written a.0) (written b.0) (spelled a.0) (spelled b.0) h.lexes i.lexes);
      is = λ d le. under (λ n. Is factor n (Open ∷ (spelled a.0 ++ Plus ∷ spelled b.0) ++ Close ∷ []) (roll-Expr (Expr-F.Add a.0 b.0))) (max (nesting a.0) (nesting b.0)) d le (λ k m.
          made (suc k) _ _ (e.Add a.0 b.0) (e.rolls-Add a.0 b.0) (brackets k (spelled a.0 ++ Plus ∷ spelled b.0) (e.Add a.0 b.0)
          (sum k (spelled a.0) (spelled b.0) a.0 b.0 (as_expr k (spelled a.0) a.0 (h.is k (omega arith))) (one_factor k (spelled b.0) b.0 (i.is k (omega arith))))));
    }
layer (Expr-F.Sub a b) good =
    let h = a.1 (both (is_well_formed a.0) (is_well_formed b.0) good).0 in
    let i = b.1 (both (is_well_formed a.0) (is_well_formed b.0) good).1 in
    record {
      lexes = in_call [] (signed 45 (written a.0) (written b.0)) [] (spelled a.0 ++ Minus ∷ spelled b.0) no_text (in_minus (written a.0) (written b.0) (spelled a.0) (spelled b.0) h.lexes i.lexes);
      is = λ d le. under (λ n. Is factor n (Open ∷ (spelled a.0 ++ Minus ∷ spelled b.0) ++ Close ∷ []) (roll-Expr (Expr-F.Sub a.0 b.0))) (max (nesting a.0) (nesting b.0)) d le (λ k m.
          made (suc k) _ _ (e.Sub a.0 b.0) (e.rolls-Sub a.0 b.0) (brackets k (spelled a.0 ++ Minus ∷ spelled b.0) (e.Sub a.0 b.0)
          (difference k (spelled a.0) (spelled b.0) a.0 b.0 (as_expr k (spelled a.0) a.0 (h.is k (omega arith))) (one_factor k (spelled b.0) b.0 (i.is k (omega arith))))));
    }
layer (Expr-F.Mul a b) good =
    let h = a.1 (both (is_well_formed a.0) (is_well_formed b.0) good).0 in
    let i = b.1 (both (is_well_formed a.0) (is_well_formed b.0) good).1 in
    record {
      lexes = in_call [] (signed 42 (written a.0) (written b.0)) [] (spelled a.0 ++ Times ∷ spelled b.0) no_text (in_times (written a.0) (written b.0) (spelled a.0) (spelled b.0) h.lexes i.lexes);
      is = λ d le. under (λ n. Is factor n (Open ∷ (spelled a.0 ++ Times ∷ spelled b.0) ++ Close ∷ []) (roll-Expr (Expr-F.Mul a.0 b.0))) (max (nesting a.0) (nesting b.0)) d le (λ k m.
          made (suc k) _ _ (e.Mul a.0 b.0) (e.rolls-Mul a.0 b.0) (brackets k (spelled a.0 ++ Times ∷ spelled b.0) (e.Mul a.0 b.0) (one_term k (spelled a.0 ++ Times ∷ spelled b.0) (e.Mul a.0 b.0)
          (product k (spelled a.0) (spelled b.0) a.0 b.0 (one_factor k (spelled a.0) a.0 (h.is k (omega arith))) (i.is k (omega arith))))));
    }
layer (Expr-F.Min a b) good =
    let h = a.1 (both (is_well_formed a.0) (is_well_formed b.0) good).0 in
    let i = b.1 (both (is_well_formed a.0) (is_well_formed b.0) good).1 in
    record {
      lexes = lexes_as _ _ _ (ap (λ (ts : List Token). Word (codes "min") ∷ Open ∷ ts) (sym (append_assoc (spelled a.0) (Comma ∷ spelled b.0) (Close ∷ []))))
          (named_call (codes "min") (listed (written a.0) (written b.0)) (spelled a.0 ++ Comma ∷ spelled b.0) min_is (in_list (written a.0) (written b.0) (spelled a.0) (spelled b.0) h.lexes i.lexes));
      is = λ d le. under (λ n. Is factor n (Word (codes "min") ∷ Open ∷ spelled a.0 ++ (Comma ∷ spelled b.0 ++ Close ∷ [])) (roll-Expr (Expr-F.Min a.0 b.0))) (max (nesting a.0) (nesting b.0)) d le (λ k m.
          made (suc k) _ _ (e.Min a.0 b.0) (e.rolls-Min a.0 b.0) (least k (spelled a.0) (spelled b.0) a.0 b.0 (as_expr k (spelled a.0) a.0 (h.is k (omega arith))) (as_expr k (spelled b.0) b.0 (i.is k (omega arith)))));
    }
layer (Expr-F.Max a b) good =
    let h = a.1 (both (is_well_formed a.0) (is_well_formed b.0) good).0 in
    let i = b.1 (both (is_well_formed a.0) (is_well_formed b.0) good).1 in
    record {
      lexes = lexes_as _ _ _ (ap (λ (ts : List Token). Word (codes "max") ∷ Open ∷ ts) (sym (append_assoc (spelled a.0) (Comma ∷ spelled b.0) (Close ∷ []))))
          (named_call (codes "max") (listed (written a.0) (written b.0)) (spelled a.0 ++ Comma ∷ spelled b.0) max_is (in_list (written a.0) (written b.0) (spelled a.0) (spelled b.0) h.lexes i.lexes));
      is = λ d le. under (λ n. Is factor n (Word (codes "max") ∷ Open ∷ spelled a.0 ++ (Comma ∷ spelled b.0 ++ Close ∷ [])) (roll-Expr (Expr-F.Max a.0 b.0))) (max (nesting a.0) (nesting b.0)) d le (λ k m.
          made (suc k) _ _ (e.Max a.0 b.0) (e.rolls-Max a.0 b.0) (greatest k (spelled a.0) (spelled b.0) a.0 b.0 (as_expr k (spelled a.0) a.0 (h.is k (omega arith))) (as_expr k (spelled b.0) b.0 (i.is k (omega arith)))));
    }
layer (Expr-F.If a b c) good =
    let h = a.1 (both (is_well_formed a.0) (is_well_formed b.0 && is_well_formed c.0) good).0 in
    let i = b.1 (both (is_well_formed b.0) (is_well_formed c.0) (both (is_well_formed a.0) (is_well_formed b.0 && is_well_formed c.0) good).1).0 in
    let j = c.1 (both (is_well_formed b.0) (is_well_formed c.0) (both (is_well_formed a.0) (is_well_formed b.0 && is_well_formed c.0) good).1).1 in
    record {
      lexes = lexes_as _ _ _ (ap (λ (ts : List Token). Word (codes "if") ∷ Open ∷ ts)
          (ap (λ (ts : List Token). spelled a.0 ++ Comma ∷ ts) (sym (append_assoc (spelled b.0) (Comma ∷ spelled c.0) (Close ∷ []))) ∙ sym (append_assoc (spelled a.0) (Comma ∷ (spelled b.0 ++ Comma ∷ spelled c.0)) (Close ∷ []))))
          (named_call (codes "if") (listed (written a.0) (listed (written b.0) (written c.0))) (spelled a.0 ++ Comma ∷ (spelled b.0 ++ Comma ∷ spelled c.0)) if_is
          (in_list (written a.0) (listed (written b.0) (written c.0)) (spelled a.0) (spelled b.0 ++ Comma ∷ spelled c.0) h.lexes (in_list (written b.0) (written c.0) (spelled b.0) (spelled c.0) i.lexes j.lexes)));
      is = λ d le. under (λ n. Is factor n (Word (codes "if") ∷ Open ∷ spelled a.0 ++ (Comma ∷ spelled b.0 ++ (Comma ∷ spelled c.0 ++ Close ∷ []))) (roll-Expr (Expr-F.If a.0 b.0 c.0))) (max (nesting a.0) (max (nesting b.0) (nesting c.0))) d le (λ k m.
          made (suc k) _ _ (e.If a.0 b.0 c.0) (e.rolls-If a.0 b.0 c.0) (choice k (spelled a.0) (spelled b.0) (spelled c.0) a.0 b.0 c.0
          (as_expr k (spelled a.0) a.0 (h.is k (omega arith))) (as_expr k (spelled b.0) b.0 (i.is k (omega arith))) (as_expr k (spelled c.0) c.0 (j.is k (omega arith)))));
    }
layer (Expr-F.Div a (pos n)) good =
    let h = a.1 (both (is_well_formed a.0) (is_from_to 1 MAX_DIVISOR (pos n)) good).0 in
    let t = both (nat_le 1 n) (nat_le n MAX_DIVISOR) (both (is_well_formed a.0) (is_from_to 1 MAX_DIVISOR (pos n)) good).1 in
    let low : 1 ≤ n = grind (arith, nat_tests, t.0) in
    let high : n ≤ MAX_DIVISOR = grind (arith, nat_tests, t.1) in
    record {
      lexes = lexes_as _ _ _ (ap (λ (ts : List Token). Word (codes "div") ∷ Open ∷ ts) (sym (append_assoc (spelled a.0) (Comma ∷ Digits n (length (decimal n)) ∷ []) (Close ∷ []))))
          (named_call (codes "div") (listed (written a.0) (decimal n)) (spelled a.0 ++ Comma ∷ Digits n (length (decimal n)) ∷ []) div_is (in_list (written a.0) (decimal n) (spelled a.0) (Digits n (length (decimal n)) ∷ []) h.lexes (decimal_lexes n (omega arith))));
      is = λ d le. under (λ i. Is factor i (Word (codes "div") ∷ Open ∷ spelled a.0 ++ Comma ∷ Digits n (length (decimal n)) ∷ Close ∷ []) (roll-Expr (Expr-F.Div a.0 (pos n)))) (nesting a.0) d le (λ k m.
          made (suc k) _ _ (e.Div a.0 (pos n)) (e.rolls-Div a.0 (pos n)) (quotient k (spelled a.0) a.0 n (length (decimal n)) (as_expr k (spelled a.0) a.0 (h.is k m)) low high));
    }
layer (Expr-F.Div a (negsuc n)) good = absurd (let h = (both (is_well_formed a.0) (is_from_to 1 MAX_DIVISOR (negsuc n)) good).1 in cc)
layer (Expr-F.Feature name None) good =
    let t = both (is_name name) (not (is_reserved name)) good in
    record { lexes = name_lexes name t.0; is = λ d le. made d (Word name ∷ []) _ (e.Feature name None) (e.rolls-Feature name None) (plain d name t.1) }
layer (Expr-F.Feature name (Some (Named about))) good =
    let t = both (is_feature name) (is_name about) good in
    let u = both (is_name name) (not (is_reserved name)) t.0 in
    record {
      lexes = named_call name about (Word about ∷ []) u.0 (name_lexes about t.1);
      is = λ d le. under (λ n. Is factor n (Word name ∷ Open ∷ Word about ∷ Close ∷ []) (roll-Expr (Expr-F.Feature name (Some (Named about))))) 0 d le (λ k m. made (suc k) _ _ (e.Feature name (Some (Named about))) (e.rolls-Feature name (Some (Named about))) (of_name k name about u.1));
    }
layer (Expr-F.Feature name (Some (Number n))) good =
    let t = both (is_feature name) (nat_lt n (10 ^ MAX_ARGUMENT_DIGITS)) good in
    let u = both (is_name name) (not (is_reserved name)) t.0 in
    let few : n < 10 ^ MAX_ARGUMENT_DIGITS = grind (arith, nat_tests, t.1) in
    record {
      lexes = named_call name (decimal n) (Digits n (length (decimal n)) ∷ []) u.0 (decimal_lexes n few);
      is = λ d le. under (λ i. Is factor i (Word name ∷ Open ∷ Digits n (length (decimal n)) ∷ Close ∷ []) (roll-Expr (Expr-F.Feature name (Some (Number n))))) 0 d le (λ k m.
          made (suc k) _ _ (e.Feature name (Some (Number n))) (e.rolls-Feature name (Some (Number n))) (of_number k name n (length (decimal n)) u.1 (length-decimal-le MAX_ARGUMENT_DIGITS n (omega arith) few (omega arith))));
    }

holds : (a : Expr) → Holds a
holds = ind-Expr Holds (λ x y is. subst (λ (z : Expr-F Expr). Holds (roll-Expr z)) is (settled (map-Expr ((a : Expr) × Holds a) Expr (λ p. p.0) y) (layer y)))

-- The written form is the text of its expression.
pub written_is_text : (a : Expr) → is_well_formed a ≡ true → nesting a ≤ MAX_BRACKETS → IsTextOf (written a) a
unfolding tokens_of
written_is_text a good few =
    let h = holds a good in
    (spelled a, ap (read_each token) (lexemes_of_words (written a)) ∙ h.lexes.are, as_expr MAX_BRACKETS (spelled a) a (h.is MAX_BRACKETS few))
