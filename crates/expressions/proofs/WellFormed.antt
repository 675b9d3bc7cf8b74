-- An expression that is read is one that a book may hold.
use Rattle.std.proofs.Common.{◌≡◌, ℕ, ◌<◌, ◌≤◌, ◌^◌, ◌&&◌, Bool, true, false, cond, ℤ, pos, List, [], ◌∷◌, ◌++◌, length, Option, Some, None, Result, Ok, Err, refl, sym, ap, ◌∙◌, subst, arith}
use Rattle.std.specs.Prelude.{IsTrue, IfOk, nat_le, nat_lt, min, codes}
use Rattle.std.proofs.lemmas.Bool.Decides.{nat_tests}
use Rattle.preorder.specs.Name.{is_name}
use Rattle.reading.specs.Reading.{◌>>=◌, read_each}
use Rattle.reading.specs.Words.{words, is_word, number_of}
use Rattle.reading.specs.declared.words.TheConstants.{PAST}
use Rattle.reading.proofs.Digits.{digit_is}
use Rattle.std.specs.List.{list_all}
use Rattle.std.specs.Char.{is_ascii_digit, digit_value}
use Rattle.std.specs.Str.{bytes_eq}
use Rattle.std.specs.Str.Parse.{AllDigits, digits_value}
use Rattle.std.proofs.lemmas.Int.Digits.{digits_value-lt}
use Rattle.std.proofs.Math.Nat.{pow-le-pow_right}
use Rattle.expressions.specs.declared.limits.TheConstants.{MAX_BRACKETS, MAX_CONSTANT, MAX_DIVISOR, MAX_ARGUMENT_DIGITS}
use Rattle.expressions.specs.Tokens.{token, word, digits, digits_from, spread, tokens_of}
use Rattle.reading.proofs.Truth.{both}
use Rattle.expressions.specs.declared.fault.ExprFault.{ExprFault}
use Rattle.expressions.specs.declared.token.Token.{Token}
use Rattle.expressions.specs.declared.token.Token.TheVariants.{Plus, Minus, Times, Open, Close, Comma, Digits, Word}
use Rattle.expressions.specs.declared.tree.Argument.{Argument}
use Rattle.expressions.specs.declared.tree.Argument.TheVariants.{Named, Number}
use Rattle.expressions.specs.declared.tree.Expr.{Expr}
use Rattle.expressions.specs.declared.tree.Expr.TheVariants as e
use Rattle.expressions.specs.declared.tree.Expr.TheOpen.{Expr-F}
use Rattle.expressions.specs.declared.tree.Expr.TheFolds.{fold-roll-Expr}
use Rattle.expressions.specs.Grammar.{Phrase, expr, term, factor, Is, one_term, sum, difference, one_factor, product, constant, negation, brackets, absolute, least, greatest, choice, quotient, plain, of_name, of_number, IsSpelled}
use Rattle.expressions.specs.Written.{is_from_to, is_well_formed, well_formed_step}

-- a word is a name, and digits that are few are below 10^MAX_ARGUMENT_DIGITS
abbrev pub IsSoundToken : Token → Type 0
IsSoundToken (Word name) = is_name name ≡ true
IsSoundToken (Digits value len) = len ≤ MAX_ARGUMENT_DIGITS → value < 10 ^ MAX_ARGUMENT_DIGITS
IsSoundToken _ = Unit {0}

abbrev pub AreSound : List Token → Type 0
AreSound [] = Unit {0}
AreSound (t ∷ ts) = IsSoundToken t × AreSound ts

front : (ts us : List Token) → AreSound (ts ++ us) → AreSound ts
front [] us h = tt
front (t ∷ ts) us h = (h.0, front ts us h.1)

back : (ts us : List Token) → AreSound (ts ++ us) → AreSound us
back [] us h = h
back (t ∷ ts) us h = back ts us h.1

-- the equations of is_well_formed
neg_is : (a : Expr) → is_well_formed (e.Neg a) ≡ is_well_formed a
neg_is a = sym (ap is_well_formed (e.rolls-Neg a)) ∙ fold-roll-Expr Bool well_formed_step (Expr-F.Neg a)

abs_is : (a : Expr) → is_well_formed (e.Abs a) ≡ is_well_formed a
abs_is a = sym (ap is_well_formed (e.rolls-Abs a)) ∙ fold-roll-Expr Bool well_formed_step (Expr-F.Abs a)

add_is : (a b : Expr) → is_well_formed (e.Add a b) ≡ (is_well_formed a && is_well_formed b)
add_is a b = sym (ap is_well_formed (e.rolls-Add a b)) ∙ fold-roll-Expr Bool well_formed_step (Expr-F.Add a b)

sub_is : (a b : Expr) → is_well_formed (e.Sub a b) ≡ (is_well_formed a && is_well_formed b)
sub_is a b = sym (ap is_well_formed (e.rolls-Sub a b)) ∙ fold-roll-Expr Bool well_formed_step (Expr-F.Sub a b)

mul_is : (a b : Expr) → is_well_formed (e.Mul a b) ≡ (is_well_formed a && is_well_formed b)
mul_is a b = sym (ap is_well_formed (e.rolls-Mul a b)) ∙ fold-roll-Expr Bool well_formed_step (Expr-F.Mul a b)

min_is : (a b : Expr) → is_well_formed (e.Min a b) ≡ (is_well_formed a && is_well_formed b)
min_is a b = sym (ap is_well_formed (e.rolls-Min a b)) ∙ fold-roll-Expr Bool well_formed_step (Expr-F.Min a b)

max_is : (a b : Expr) → is_well_formed (e.Max a b) ≡ (is_well_formed a && is_well_formed b)
max_is a b = sym (ap is_well_formed (e.rolls-Max a b)) ∙ fold-roll-Expr Bool well_formed_step (Expr-F.Max a b)

if_is : (a b c : Expr) → is_well_formed (e.If a b c) ≡ (is_well_formed a && (is_well_formed b && is_well_formed c))
if_is a b c = sym (ap is_well_formed (e.rolls-If a b c)) ∙ fold-roll-Expr Bool well_formed_step (Expr-F.If a b c)

div_is : (a : Expr) (n : ℤ) → is_well_formed (e.Div a n) ≡ (is_well_formed a && is_from_to 1 MAX_DIVISOR n)
div_is a n = sym (ap is_well_formed (e.rolls-Div a n)) ∙ fold-roll-Expr Bool well_formed_step (Expr-F.Div a n)

const_is : (n : ℤ) → is_well_formed (e.Const n) ≡ is_from_to 0 MAX_CONSTANT n
const_is n = sym (ap is_well_formed (e.rolls-Const n)) ∙ fold-roll-Expr Bool well_formed_step (Expr-F.Const n)

feature_is : (name : List ℕ) (argument : Option Argument) → is_well_formed (e.Feature name argument) ≡ well_formed_step (Expr-F.Feature name argument)
feature_is name argument = sym (ap is_well_formed (e.rolls-Feature name argument)) ∙ fold-roll-Expr Bool well_formed_step (Expr-F.Feature name argument)

-- An induction over the grammar.
pub of_grammar : (p : Phrase) (d : ℕ) (ts : List Token) (a : Expr) → Is p d ts a → AreSound ts → is_well_formed a ≡ true
of_grammar _ _ _ _ (one_term d ts a g) h = of_grammar term d ts a g h
of_grammar _ _ _ _ (sum d ts us a b g k) h = rw (add_is a b, of_grammar expr d ts a g (front ts (Plus ∷ us) h), of_grammar term d us b k (back ts (Plus ∷ us) h).1) refl
of_grammar _ _ _ _ (difference d ts us a b g k) h = rw (sub_is a b, of_grammar expr d ts a g (front ts (Minus ∷ us) h), of_grammar term d us b k (back ts (Minus ∷ us) h).1) refl
of_grammar _ _ _ _ (one_factor d ts a g) h = of_grammar factor d ts a g h
of_grammar _ _ _ _ (product d ts us a b g k) h = rw (mul_is a b, of_grammar term d ts a g (front ts (Times ∷ us) h), of_grammar factor d us b k (back ts (Times ∷ us) h).1) refl
of_grammar _ _ _ _ (constant d value len le) h =
    let high : nat_le value MAX_CONSTANT ≡ true = grind (arith, nat_tests, le) in
    let low : nat_le 0 value ≡ true = grind (arith, nat_tests) in
    rw (const_is (pos value), low, high) refl
of_grammar _ _ _ _ (negation d ts a g) h = neg_is a ∙ of_grammar factor d ts a g h.1
of_grammar _ _ _ _ (brackets d ts a g) h = of_grammar expr d ts a g (front ts (Close ∷ []) h.1)
of_grammar _ _ _ _ (absolute d ts a g) h = abs_is a ∙ of_grammar expr d ts a g (front ts (Close ∷ []) h.1.1)
of_grammar _ _ _ _ (least d ts us a b g k) h =
    rw (min_is a b, of_grammar expr d ts a g (front ts (Comma ∷ us ++ Close ∷ []) h.1.1), of_grammar expr d us b k (front us (Close ∷ []) (back ts (Comma ∷ us ++ Close ∷ []) h.1.1).1)) refl
of_grammar _ _ _ _ (greatest d ts us a b g k) h =
    rw (max_is a b, of_grammar expr d ts a g (front ts (Comma ∷ us ++ Close ∷ []) h.1.1), of_grammar expr d us b k (front us (Close ∷ []) (back ts (Comma ∷ us ++ Close ∷ []) h.1.1).1)) refl
of_grammar _ _ _ _ (choice d ts us vs a b c g k l) h =
    let rest = back ts (Comma ∷ us ++ (Comma ∷ vs ++ Close ∷ [])) h.1.1 in
    rw (if_is a b c, of_grammar expr d ts a g (front ts (Comma ∷ us ++ (Comma ∷ vs ++ Close ∷ [])) h.1.1), of_grammar expr d us b k (front us (Comma ∷ vs ++ Close ∷ []) rest.1), of_grammar expr d vs c l (front vs (Close ∷ []) (back us (Comma ∷ vs ++ Close ∷ []) rest.1).1)) refl
of_grammar _ _ _ _ (quotient d ts a value len g low high) h =
    let l : nat_le 1 value ≡ true = grind (arith, nat_tests, low) in
    let m : nat_le value MAX_DIVISOR ≡ true = grind (arith, nat_tests, high) in
    rw (div_is a (pos value), of_grammar expr d ts a g (front ts (Comma ∷ Digits value len ∷ Close ∷ []) h.1.1), l, m) refl
of_grammar _ _ _ _ (plain d name free) h = rw (feature_is name None, h.0, free) refl
of_grammar _ _ _ _ (of_name d name about free) h = rw (feature_is name (Some (Named about)), h.0, free, h.1.1.0) refl
of_grammar _ _ _ _ (of_number d name value len free few) h =
    let small : nat_lt value (10 ^ MAX_ARGUMENT_DIGITS) ≡ true = grind (arith, nat_tests, h.1.1.0 few) in
    rw (feature_is name (Some (Number value)), h.0, free, small) refl

-- ---- the tokens of a text

given : (P : Token → Type 0) (a b : Token) → ◌≡◌ {A = Result Token ExprFault} (Ok a) (Ok b) → P a → P b
given P a b e p = let same : a ≡ b = cc in subst P same p

test : (b : Bool) (y z : Result Token ExprFault) (t : Token) → (b ≡ true → y ≡ Ok t → IsSoundToken t) → (b ≡ false → z ≡ Ok t → IsSoundToken t) → cond b y z ≡ Ok t → IsSoundToken t
test true y z t f g e = f refl e
test false y z t f g e = g refl e

all_digits : (w : List ℕ) → list_all is_ascii_digit w ≡ true → AllDigits 10 w
all_digits [] e = tt
all_digits (c ∷ w) e =
    let k = both (is_ascii_digit c) (list_all is_ascii_digit w) e in
    let value = digit_is c k.0 in
    let small : digit_value c < 10 = grind (arith, nat_tests, value, k.0) in
    (small, all_digits w k.1)

powers : (n : ℕ) → n ≤ MAX_ARGUMENT_DIGITS → 10 ^ n ≤ 10 ^ MAX_ARGUMENT_DIGITS
powers n h = pow-le-pow_right {n = 10} (omega arith) h

few_digits : (w : List ℕ) → list_all is_ascii_digit w ≡ true → length w ≤ MAX_ARGUMENT_DIGITS → digits_value 10 w < 10 ^ MAX_ARGUMENT_DIGITS
few_digits w e few = omega (arith, digits_value-lt 10 w (all_digits w e), powers (length w) few)

number_small : (w : List ℕ) (n : ℕ) → number_of w ≡ Some n → length w ≤ MAX_ARGUMENT_DIGITS → min n PAST < 10 ^ MAX_ARGUMENT_DIGITS
unfolding number_of
number_small w n e few = at (is_word w && list_all is_ascii_digit w) refl e where
  at : (t : Bool) → (is_word w && list_all is_ascii_digit w) ≡ t → cond t (Some (digits_value 10 w)) None ≡ Some n → min n PAST < 10 ^ MAX_ARGUMENT_DIGITS
  at true f h =
      let digits = (both (is_word w) (list_all is_ascii_digit w) f).1 in
      let value : digits_value 10 w ≡ n = cc in
      omega (arith, few_digits w digits few, value)
  at false f h = absurd cc

digits_sound : (w : List ℕ) (o : Option ℕ) (t : Token) → number_of w ≡ o → digits_from (length w) o ≡ Ok t → IsSoundToken t
digits_sound w (Some n) t is e = given IsSoundToken (Digits (min n PAST) (length w)) t e (λ few. number_small w n is few)
digits_sound w None t is e = absurd cc

word_sound : (w : List ℕ) (t : Token) → word w ≡ Ok t → IsSoundToken t
unfolding word digits
word_sound w t = test (is_name w) (Ok (Word w)) (digits_from (length w) (number_of w)) t (λ n e. given IsSoundToken (Word w) t e n) (λ n e. digits_sound w (number_of w) t refl e)

token_sound : (w : List ℕ) (t : Token) → token w ≡ Ok t → IsSoundToken t
unfolding token
token_sound w t =
    test (bytes_eq w (codes "+")) _ _ t (λ p e. given IsSoundToken Plus t e tt) (λ p.
    test (bytes_eq w (codes "-")) _ _ t (λ p e. given IsSoundToken Minus t e tt) (λ p.
    test (bytes_eq w (codes "*")) _ _ t (λ p e. given IsSoundToken Times t e tt) (λ p.
    test (bytes_eq w (codes "(")) _ _ t (λ p e. given IsSoundToken Open t e tt) (λ p.
    test (bytes_eq w (codes ")")) _ _ t (λ p e. given IsSoundToken Close t e tt) (λ p.
    test (bytes_eq w (codes ",")) _ _ t (λ p e. given IsSoundToken Comma t e tt) (λ p e. word_sound w t e))))))

one_more : (r : Result Token ExprFault) (s : Result (List Token) ExprFault) (ts : List Token) → ((t : Token) → r ≡ Ok t → IsSoundToken t) → ((us : List Token) → s ≡ Ok us → AreSound us)
    → (r >>= λ y. s >>= λ ys. Ok (y ∷ ys)) ≡ Ok ts → AreSound ts
one_more (Ok t) (Ok us) ts f g e = let same : t ∷ us ≡ ts = cc in subst AreSound same (f t refl, g us refl)
one_more (Ok t) (Err h) ts f g e = absurd cc
one_more (Err h) s ts f g e = absurd cc

tokens_sound : (ws : List (List ℕ)) (ts : List Token) → read_each token ws ≡ Ok ts → AreSound ts
unfolding read_each
tokens_sound [] ts e = let none : [] ≡ ts = cc in subst AreSound none tt
tokens_sound (w ∷ ws) ts e = one_more (token w) (read_each token ws) ts (token_sound w) (tokens_sound ws) e

pub read_is_well_formed : (ws : List (List ℕ)) (a : Expr) → IsSpelled ws a → is_well_formed a ≡ true
unfolding tokens_of
read_is_well_formed ws a s = of_grammar expr MAX_BRACKETS s.0 a s.2 (tokens_sound (words (spread ws)) s.0 s.1)

pub well_formed_result : (ws : List (List ℕ)) (r : Result Expr ExprFault) → IfOk r (IsSpelled ws) → IfOk r (λ a. IsTrue (is_well_formed a))
well_formed_result ws (Ok a) h = read_is_well_formed ws a h
well_formed_result ws (Err f) h = tt
