-- What is read off the front of tokens is what the grammar says.
use Rattle.std.proofs.Common.{◌≡◌, ℕ, zero, suc, ◌≤◌, Bool, true, false, cond, not, ◌&&◌, ◌||◌, List, [], ◌∷◌, ◌++◌, length, Result, Ok, Err, pos, Some, None, refl, sym, ap, subst, ◌∙◌, append_assoc, arith}
use Rattle.std.specs.Prelude.{IsTrue, nat_le, codes}
use Rattle.std.specs.Str.{bytes_eq}
use Rattle.std.proofs.lemmas.Bool.Decides.{nat_tests}
use Rattle.std.proofs.lemmas.List.{append-nil}
use Rattle.std.proofs.lemmas.Slice.Eq.{bytes_eq-Decides}
use Rattle.expressions.specs.declared.limits.TheConstants.{MAX_CONSTANT, MAX_DIVISOR, MAX_ARGUMENT_DIGITS}
use Rattle.expressions.specs.declared.fault.ExprFault.{ExprFault}
use Rattle.expressions.specs.declared.fault.ExprFault.TheVariants.{Syntax}
use Rattle.expressions.specs.declared.token.Token.{Token}
use Rattle.expressions.specs.declared.token.Token.TheVariants.{Plus, Minus, Times, Open, Close, Comma, Digits, Word}
use Rattle.expressions.specs.declared.tree.Argument.TheVariants.{Named, Number}
use Rattle.expressions.specs.declared.tree.Expr.{Expr}
use Rattle.expressions.specs.declared.tree.Expr.TheVariants.{Const, Feature, Neg, Abs, Add, Sub, Mul, Min, Max, If, Div}
use Rattle.reading.proofs.Truth.{both}
use Rattle.reading.specs.Reading.{◌>>=◌}
use Rattle.expressions.specs.Grammar.{is_reserved, Phrase, expr, term, factor, Is, one_term, sum, difference, one_factor, product, constant, negation, brackets, absolute, least, greatest, choice, quotient, plain, of_name, of_number}
use Rattle.expressions.specs.Reading as r
use Rattle.expressions.specs.Reading.{Read, after_comma, after_close, divided, asked, feature_in, joined, argument, last, called, named, factor_at, products, term_at, sums, expr_at, inside}

-- a phrase stands at the front, and these tokens after it
pub record Front (p : Phrase) (d : ℕ) (ts : List Token) (x : Expr × List Token) : Type 0 where
  pub front : List Token
  pub cut : ts ≡ front ++ x.1
  pub is : Is p d front x.0

-- behind a bracket
record Behind (d : ℕ) (ts : List Token) (x : Expr × List Token) : Type 0 where
  below : ℕ
  less : d ≡ suc below
  read : Front expr below ts x

abbrev IsSound : ℕ → Type 0
IsSound d = (ts : List Token) (x : Expr × List Token) → inside d ts ≡ Ok x → Behind d ts x

pub record Bound {A B : Type 0} (r : Result A ExprFault) (f : A → Result B ExprFault) (y : B) : Type 0 where
  pub value : A
  pub was : r ≡ Ok value
  pub then : f value ≡ Ok y

pub bound : {A B : Type 0} (r : Result A ExprFault) (f : A → Result B ExprFault) (y : B) → (r >>= f) ≡ Ok y → Bound r f y
bound (Ok a) f y e = record { value = a; was = refl; then = e }
bound (Err g) f y e = absurd cc

-- what was read is this
given : {A : Type 0} (P : A → Type 0) (a b : A) → ◌≡◌ {A = Result A ExprFault} (Ok a) (Ok b) → P a → P b
given P a b e p = let same : a ≡ b = cc in subst P same p

-- a test that passed
passed : {A : Type 0} (b : Bool) (x y : A) → ◌≡◌ {A = Result A ExprFault} (cond b (Ok x) (Err Syntax)) (Ok y) → (b ≡ true) × (◌≡◌ {A = Result A ExprFault} (Ok x) (Ok y))
passed true x y e = (refl, e)
passed false x y e = absurd cc

comma_at : (ts us : List Token) → after_comma ts ≡ Ok us → ts ≡ Comma ∷ us
unfolding after_comma
comma_at [] us e = absurd cc
comma_at (Comma ∷ ts) us e = cc
comma_at (_ ∷ ts) us e = absurd cc

close_at : (ts us : List Token) → after_close ts ≡ Ok us → ts ≡ Close ∷ us
unfolding after_close
close_at [] us e = absurd cc
close_at (Close ∷ ts) us e = cc
close_at (_ ∷ ts) us e = absurd cc

-- an expression and a token after it
record Ended (end : Token) (d : ℕ) (ts : List Token) (x : Expr × List Token) : Type 0 where
  below : ℕ
  less : d ≡ suc below
  front : List Token
  cut : ts ≡ front ++ end ∷ x.1
  is : Is expr below front x.0

ended : (end : Token) (d : ℕ) (ts : List Token) (a : Expr × List Token) (us : List Token) → Behind d ts a → a.1 ≡ end ∷ us → Ended end d ts (a.0, us)
ended end d ts a us b e = record { below = b.below; less = b.less; front = b.read.front; cut = b.read.cut ∙ ap (λ (l : List Token). b.read.front ++ l) e; is = b.read.is }

argument_sound : (d : ℕ) → IsSound d → (ts : List Token) (x : Expr × List Token) → argument d (inside d) ts ≡ Ok x → Ended Comma d ts x
unfolding argument
argument_sound d sound ts x e =
    let a = bound (inside d ts) (λ a. after_comma a.1 >>= λ us. Ok (a.0, us)) x e in
    let u = bound (after_comma a.value.1) (λ us. Ok (a.value.0, us)) x a.then in
    given (Ended Comma d ts) (a.value.0, u.value) x u.then (ended Comma d ts a.value u.value (sound ts a.value a.was) (comma_at a.value.1 u.value u.was))

last_sound : (d : ℕ) → IsSound d → (ts : List Token) (x : Expr × List Token) → last d (inside d) ts ≡ Ok x → Ended Close d ts x
unfolding last
last_sound d sound ts x e =
    let a = bound (inside d ts) (λ a. after_close a.1 >>= λ us. Ok (a.0, us)) x e in
    let u = bound (after_close a.value.1) (λ us. Ok (a.value.0, us)) x a.then in
    given (Ended Close d ts) (a.value.0, u.value) x u.then (ended Close d ts a.value u.value (sound ts a.value a.was) (close_at a.value.1 u.value u.was))

-- ---- what stands behind `name (`, with the name and the bracket before it

abbrev Call : List ℕ → ℕ → List Token → Expr × List Token → Type 0
Call name d ts x = Front factor d (Word name ∷ Open ∷ ts) x

closes : (d : ℕ) (ts : List Token) (a : Expr × List Token) → Ended Close d ts a → (name : List ℕ) (e : Expr)
    → ((k : ℕ) (us : List Token) → Is expr k us a.0 → Is factor (suc k) (Word name ∷ Open ∷ us ++ Close ∷ []) e) → Call name d ts (e, a.1)
closes d ts a l name e make =
    subst (λ (n : ℕ). Call name n ts (e, a.1)) (sym l.less) (record {
      front = Word name ∷ Open ∷ l.front ++ Close ∷ [];
      cut = ap (λ (us : List Token). Word name ∷ Open ∷ us) (l.cut ∙ sym (append_assoc l.front (Close ∷ []) a.1));
      is = make l.below l.front l.is;
    })

absolute_sound : (d : ℕ) → IsSound d → (ts : List Token) (x : Expr × List Token) → r.absolute d (inside d) ts ≡ Ok x → Call (codes "abs") d ts x
unfolding r.absolute
absolute_sound d sound ts x e =
    let a = bound (last d (inside d) ts) (λ a. Ok (Abs a.0, a.1)) x e in
    given (Call (codes "abs") d ts) (Abs a.value.0, a.value.1) x a.then
    (closes d ts a.value (last_sound d sound ts a.value a.was) (codes "abs") (Abs a.value.0) (λ k us g. absolute k us a.value.0 g))

below_same : (d k l : ℕ) → d ≡ suc k → d ≡ suc l → l ≡ k
below_same d k l e f = omega arith

-- two expressions and the closing bracket
pair_closes : (d : ℕ) (ts : List Token) (a b : Expr × List Token) → Ended Comma d ts a → Ended Close d a.1 b → (name : List ℕ) (e : Expr)
    → ((k : ℕ) (us vs : List Token) → Is expr k us a.0 → Is expr k vs b.0 → Is factor (suc k) (Word name ∷ Open ∷ us ++ (Comma ∷ vs ++ Close ∷ [])) e)
    → Call name d ts (e, b.1)
pair_closes d ts a b l m name e make =
    subst (λ (n : ℕ). Call name n ts (e, b.1)) (sym l.less) (record {
      front = Word name ∷ Open ∷ l.front ++ (Comma ∷ m.front ++ Close ∷ []);
      cut = ap (λ (us : List Token). Word name ∷ Open ∷ us)
          (l.cut ∙ ap (λ (us : List Token). l.front ++ Comma ∷ us) (m.cut ∙ sym (append_assoc m.front (Close ∷ []) b.1)) ∙ sym (append_assoc l.front (Comma ∷ m.front ++ Close ∷ []) b.1));
      is = make l.below l.front m.front l.is (subst (λ (n : ℕ). Is expr n m.front b.0) (below_same d l.below m.below l.less m.less) m.is);
    })

least_sound : (d : ℕ) → IsSound d → (ts : List Token) (x : Expr × List Token) → r.least d (inside d) ts ≡ Ok x → Call (codes "min") d ts x
unfolding r.least
least_sound d sound ts x e =
    let a = bound (argument d (inside d) ts) (λ a. last d (inside d) a.1 >>= λ b. Ok (Min a.0 b.0, b.1)) x e in
    let b = bound (last d (inside d) a.value.1) (λ b. Ok (Min a.value.0 b.0, b.1)) x a.then in
    given (Call (codes "min") d ts) (Min a.value.0 b.value.0, b.value.1) x b.then
    (pair_closes d ts a.value b.value (argument_sound d sound ts a.value a.was) (last_sound d sound a.value.1 b.value b.was) (codes "min") (Min a.value.0 b.value.0) (λ k us vs g h. least k us vs a.value.0 b.value.0 g h))

greatest_sound : (d : ℕ) → IsSound d → (ts : List Token) (x : Expr × List Token) → r.greatest d (inside d) ts ≡ Ok x → Call (codes "max") d ts x
unfolding r.greatest
greatest_sound d sound ts x e =
    let a = bound (argument d (inside d) ts) (λ a. last d (inside d) a.1 >>= λ b. Ok (Max a.0 b.0, b.1)) x e in
    let b = bound (last d (inside d) a.value.1) (λ b. Ok (Max a.value.0 b.0, b.1)) x a.then in
    given (Call (codes "max") d ts) (Max a.value.0 b.value.0, b.value.1) x b.then
    (pair_closes d ts a.value b.value (argument_sound d sound ts a.value a.was) (last_sound d sound a.value.1 b.value b.was) (codes "max") (Max a.value.0 b.value.0) (λ k us vs g h. greatest k us vs a.value.0 b.value.0 g h))

triple_closes : (d : ℕ) (ts : List Token) (a b c : Expr × List Token) → Ended Comma d ts a → Ended Comma d a.1 b → Ended Close d b.1 c → Call (codes "if") d ts (If a.0 b.0 c.0, c.1)
triple_closes d ts a b c l m n =
    subst (λ (i : ℕ). Call (codes "if") i ts (If a.0 b.0 c.0, c.1)) (sym l.less) (record {
      front = Word (codes "if") ∷ Open ∷ l.front ++ (Comma ∷ m.front ++ (Comma ∷ n.front ++ Close ∷ []));
      cut = ap (λ (us : List Token). Word (codes "if") ∷ Open ∷ us)
          (l.cut ∙ ap (λ (us : List Token). l.front ++ Comma ∷ us)
          (m.cut ∙ ap (λ (us : List Token). m.front ++ Comma ∷ us) (n.cut ∙ sym (append_assoc n.front (Close ∷ []) c.1)) ∙ sym (append_assoc m.front (Comma ∷ n.front ++ Close ∷ []) c.1))
          ∙ sym (append_assoc l.front (Comma ∷ m.front ++ (Comma ∷ n.front ++ Close ∷ [])) c.1));
      is = choice l.below l.front m.front n.front a.0 b.0 c.0 l.is
          (subst (λ (i : ℕ). Is expr i m.front b.0) (below_same d l.below m.below l.less m.less) m.is)
          (subst (λ (i : ℕ). Is expr i n.front c.0) (below_same d l.below n.below l.less n.less) n.is);
    })

choice_sound : (d : ℕ) → IsSound d → (ts : List Token) (x : Expr × List Token) → r.choice d (inside d) ts ≡ Ok x → Call (codes "if") d ts x
unfolding r.choice
choice_sound d sound ts x e =
    let a = bound (argument d (inside d) ts) (λ a. argument d (inside d) a.1 >>= λ b. last d (inside d) b.1 >>= λ c. Ok (If a.0 b.0 c.0, c.1)) x e in
    let b = bound (argument d (inside d) a.value.1) (λ b. last d (inside d) b.1 >>= λ c. Ok (If a.value.0 b.0 c.0, c.1)) x a.then in
    let c = bound (last d (inside d) b.value.1) (λ c. Ok (If a.value.0 b.value.0 c.0, c.1)) x b.then in
    given (Call (codes "if") d ts) (If a.value.0 b.value.0 c.value.0, c.value.1) x c.then
    (triple_closes d ts a.value b.value c.value (argument_sound d sound ts a.value a.was) (argument_sound d sound a.value.1 b.value b.was) (last_sound d sound b.value.1 c.value c.was))

-- digits before the closing bracket
record Divisor (a : Expr) (ts : List Token) (x : Expr × List Token) : Type 0 where
  value : ℕ
  len : ℕ
  cut : ts ≡ Digits value len ∷ Close ∷ x.1
  low : 1 ≤ value
  high : value ≤ MAX_DIVISOR
  gives : x.0 ≡ Div a (pos value)

divided_sound : (a : Expr) (ts : List Token) (x : Expr × List Token) → divided a ts ≡ Ok x → Divisor a ts x
unfolding divided
divided_sound a (Digits value len ∷ Close ∷ ts) x e =
    let p = passed (nat_le 1 value && nat_le value MAX_DIVISOR) (Div a (pos value), ts) x e in
    let t = both (nat_le 1 value) (nat_le value MAX_DIVISOR) p.0 in
    let low : 1 ≤ value = grind (arith, nat_tests, t.0) in
    let high : value ≤ MAX_DIVISOR = grind (arith, nat_tests, t.1) in
    given (Divisor a (Digits value len ∷ Close ∷ ts)) (Div a (pos value), ts) x p.1 (record { value = value; len = len; cut = refl; low = low; high = high; gives = refl })
divided_sound a _ x e = absurd cc

quotient_closes : (d : ℕ) (ts : List Token) (a x : Expr × List Token) → Ended Comma d ts a → Divisor a.0 a.1 x → Call (codes "div") d ts x
quotient_closes d ts a x l v =
    subst (λ (n : ℕ). Call (codes "div") n ts x) (sym l.less) (record {
      front = Word (codes "div") ∷ Open ∷ l.front ++ Comma ∷ Digits v.value v.len ∷ Close ∷ [];
      cut = ap (λ (us : List Token). Word (codes "div") ∷ Open ∷ us)
          (l.cut ∙ ap (λ (us : List Token). l.front ++ Comma ∷ us) v.cut ∙ sym (append_assoc l.front (Comma ∷ Digits v.value v.len ∷ Close ∷ []) x.1));
      is = subst (λ (e : Expr). Is factor (suc l.below) (Word (codes "div") ∷ Open ∷ l.front ++ Comma ∷ Digits v.value v.len ∷ Close ∷ []) e) (sym v.gives) (quotient l.below l.front a.0 v.value v.len l.is v.low v.high);
    })

quotient_sound : (d : ℕ) → IsSound d → (ts : List Token) (x : Expr × List Token) → r.quotient d (inside d) ts ≡ Ok x → Call (codes "div") d ts x
unfolding r.quotient
quotient_sound d sound ts x e =
    let a = bound (argument d (inside d) ts) (λ a. divided a.0 a.1) x e in
    quotient_closes d ts a.value x (argument_sound d sound ts a.value a.was) (divided_sound a.value.0 a.value.1 x a.then)

asked_sound : (d : ℕ) (name : List ℕ) (ts : List Token) (x : Expr × List Token) → IsTrue (not (is_reserved name)) → asked name ts ≡ Ok x → Call name (suc d) ts x
unfolding asked
asked_sound d name (Word about ∷ Close ∷ ts) x free e =
    given (Call name (suc d) (Word about ∷ Close ∷ ts)) (Feature name (Some (Named about)), ts) x e
    (record { front = Word name ∷ Open ∷ Word about ∷ Close ∷ []; cut = refl; is = of_name d name about free })
asked_sound d name (Digits value len ∷ Close ∷ ts) x free e =
    let p = passed (nat_le len MAX_ARGUMENT_DIGITS) (Feature name (Some (Number value)), ts) x e in
    let few : len ≤ MAX_ARGUMENT_DIGITS = grind (arith, nat_tests, p.0) in
    given (Call name (suc d) (Digits value len ∷ Close ∷ ts)) (Feature name (Some (Number value)), ts) x p.1
    (record { front = Word name ∷ Open ∷ Digits value len ∷ Close ∷ []; cut = refl; is = of_number d name value len free few })
asked_sound d name _ x free e = absurd cc

feature_sound : (d : ℕ) (name : List ℕ) (ts : List Token) (x : Expr × List Token) → IsTrue (not (is_reserved name)) → feature_in d name ts ≡ Ok x → Call name d ts x
unfolding feature_in
feature_sound zero name ts x free e = absurd cc
feature_sound (suc d) name ts x free e = asked_sound d name ts x free e

-- a reserved name, or none of them
is_word : (name word : List ℕ) → bytes_eq name word ≡ true → word ≡ name
is_word name word e = sym ((bytes_eq-Decides name word).0 e)

-- a chain of tests
by_test : {X : Type 0} (b : Bool) (y z : Result X ExprFault) (x : X) (P : Type 0) → (b ≡ true → y ≡ Ok x → P) → (b ≡ false → z ≡ Ok x → P) → cond b y z ≡ Ok x → P
by_test true y z x P f g e = f refl e
by_test false y z x P f g e = g refl e

none_is : (a b c d e : Bool) → a ≡ false → b ≡ false → c ≡ false → d ≡ false → e ≡ false → not (a || (b || (c || (d || e)))) ≡ true
none_is a b c d e p q r s t = rw (p, q, r, s, t) refl

named_by : (d : ℕ) (name word : List ℕ) (ts : List Token) (x : Expr × List Token) → bytes_eq name word ≡ true → Call word d ts x → Call name d ts x
named_by d name word ts x e c = subst (λ (w : List ℕ). Call w d ts x) (is_word name word e) c

called_sound : (d : ℕ) → IsSound d → (name : List ℕ) (ts : List Token) (x : Expr × List Token) → called d (inside d) name ts ≡ Ok x → Call name d ts x
unfolding called
called_sound d sound name ts x =
    by_test (bytes_eq name (codes "abs")) _ _ x (Call name d ts x) (λ p e. named_by d name (codes "abs") ts x p (absolute_sound d sound ts x e)) (λ p.
    by_test (bytes_eq name (codes "min")) _ _ x (Call name d ts x) (λ q e. named_by d name (codes "min") ts x q (least_sound d sound ts x e)) (λ q.
    by_test (bytes_eq name (codes "max")) _ _ x (Call name d ts x) (λ s e. named_by d name (codes "max") ts x s (greatest_sound d sound ts x e)) (λ s.
    by_test (bytes_eq name (codes "if")) _ _ x (Call name d ts x) (λ t e. named_by d name (codes "if") ts x t (choice_sound d sound ts x e)) (λ t.
    by_test (bytes_eq name (codes "div")) _ _ x (Call name d ts x) (λ u e. named_by d name (codes "div") ts x u (quotient_sound d sound ts x e)) (λ u e.
    feature_sound d name ts x (none_is (bytes_eq name (codes "abs")) (bytes_eq name (codes "min")) (bytes_eq name (codes "max")) (bytes_eq name (codes "if")) (bytes_eq name (codes "div")) p q s t u) e)))))

-- ---- phrases

alone : (d : ℕ) (name : List ℕ) (ts : List Token) (x : Expr × List Token) → cond (is_reserved name) (Err Syntax) (Ok (Feature name None, ts)) ≡ Ok x → Front factor d (Word name ∷ ts) x
alone d name ts x = by_test (is_reserved name) _ _ x (Front factor d (Word name ∷ ts) x) (λ p e. absurd cc)
    (λ p e. given (Front factor d (Word name ∷ ts)) (Feature name None, ts) x e (record { front = Word name ∷ []; cut = refl; is = plain d name (ap not p) }))

named_sound : (d : ℕ) → IsSound d → (name : List ℕ) (ts : List Token) (x : Expr × List Token) → named d (inside d) name ts ≡ Ok x → Front factor d (Word name ∷ ts) x
unfolding named
named_sound d sound name [] x e = alone d name [] x e
named_sound d sound name (Open ∷ ts) x e = called_sound d sound name ts x e
named_sound d sound name (t ∷ ts) x e = alone d name (t ∷ ts) x e

constant_sound : (d value len : ℕ) (ts : List Token) (x : Expr × List Token) → r.constant value ts ≡ Ok x → Front factor d (Digits value len ∷ ts) x
unfolding r.constant
constant_sound d value len ts x e =
    let p = passed (nat_le value MAX_CONSTANT) (Const (pos value), ts) x e in
    let few : value ≤ MAX_CONSTANT = grind (arith, nat_tests, p.0) in
    given (Front factor d (Digits value len ∷ ts)) (Const (pos value), ts) x p.1 (record { front = Digits value len ∷ []; cut = refl; is = constant d value len few })

in_brackets : (d : ℕ) (ts : List Token) (x : Expr × List Token) → Ended Close d ts x → Front factor d (Open ∷ ts) x
in_brackets d ts x l =
    subst (λ (n : ℕ). Front factor n (Open ∷ ts) x) (sym l.less) (record {
      front = Open ∷ l.front ++ Close ∷ [];
      cut = ap (λ (us : List Token). Open ∷ us) (l.cut ∙ sym (append_assoc l.front (Close ∷ []) x.1));
      is = brackets l.below l.front x.0 l.is;
    })

factor_sound : (d : ℕ) → IsSound d → (ts : List Token) (x : Expr × List Token) → factor_at d (inside d) ts ≡ Ok x → Front factor d ts x
unfolding factor_at
factor_sound d sound [] x e = absurd cc
factor_sound d sound (Digits value len ∷ ts) x e = constant_sound d value len ts x e
factor_sound d sound (Minus ∷ ts) x e =
    let a = bound (factor_at d (inside d) ts) (λ a. Ok (Neg a.0, a.1)) x e in
    let f = factor_sound d sound ts a.value a.was in
    given (Front factor d (Minus ∷ ts)) (Neg a.value.0, a.value.1) x a.then
    (record { front = Minus ∷ f.front; cut = ap (λ (us : List Token). Minus ∷ us) f.cut; is = negation d f.front a.value.0 f.is })
factor_sound d sound (Open ∷ ts) x e = in_brackets d ts x (last_sound d sound ts x e)
factor_sound d sound (Word name ∷ ts) x e = named_sound d sound name ts x e
factor_sound d sound (_ ∷ ts) x e = absurd cc

-- what is read on from what was read
record On (p : Phrase) (d : ℕ) (front ts : List Token) (x : Expr × List Token) : Type 0 where
  more : List Token
  cut : ts ≡ more ++ x.1
  is : Is p d (front ++ more) x.0

on_end : (p : Phrase) (d : ℕ) (front ts : List Token) (a : Expr) (x : Expr × List Token) → Is p d front a → ◌≡◌ {A = Read} (Ok (a, ts)) (Ok x) → On p d front ts x
on_end p d front ts a x g e = given (On p d front ts) (a, ts) x e (record { more = []; cut = refl; is = subst (λ (us : List Token). Is p d us a) (sym (append-nil front)) g })

on_more : (p : Phrase) (d : ℕ) (front us rest : List Token) (t : Token) (x : Expr × List Token) → On p d (front ++ t ∷ us) rest x → On p d front (t ∷ (us ++ rest)) x
on_more p d front us rest t x o = record {
  more = t ∷ us ++ o.more;
  cut = ap (λ (ts : List Token). t ∷ (us ++ ts)) o.cut ∙ ap (λ (ts : List Token). t ∷ ts) (sym (append_assoc us o.more x.1));
  is = subst (λ (ts : List Token). Is p d ts x.0) (append_assoc front (t ∷ us) o.more) o.is;
}

on_front : (p : Phrase) (d : ℕ) (front ts us : List Token) (x : Expr × List Token) → ts ≡ us → On p d front us x → On p d front ts x
on_front p d front ts us x e o = subst (λ (l : List Token). On p d front l x) (sym e) o

products_sound : (d : ℕ) → IsSound d → (n : ℕ) (a : Expr) (front ts : List Token) (x : Expr × List Token) → Is term d front a → products d (inside d) n a ts ≡ Ok x → On term d front ts x
unfolding products
products_sound d sound zero a front ts x g e = on_end term d front ts a x g e
products_sound d sound (suc n) a front [] x g e = on_end term d front [] a x g e
products_sound d sound (suc n) a front (Times ∷ ts) x g e =
    let b = bound (factor_at d (inside d) ts) (λ b. products d (inside d) n (Mul a b.0) b.1) x e in
    let f = factor_sound d sound ts b.value b.was in
    on_front term d front (Times ∷ ts) (Times ∷ (f.front ++ b.value.1)) x (ap (λ (us : List Token). Times ∷ us) f.cut)
    (on_more term d front f.front b.value.1 Times x
    (products_sound d sound n (Mul a b.value.0) (front ++ Times ∷ f.front) b.value.1 x (product d front f.front a b.value.0 g f.is) b.then))
products_sound d sound (suc n) a front (t ∷ ts) x g e = on_end term d front (t ∷ ts) a x g e

joins : (p : Phrase) (d : ℕ) (front ts us : List Token) (x : Expr × List Token) → ts ≡ front ++ us → On p d front us x → Front p d ts x
joins p d front ts us x e o = record { front = front ++ o.more; cut = e ∙ ap (λ (l : List Token). front ++ l) o.cut ∙ sym (append_assoc front o.more x.1); is = o.is }

term_sound : (d : ℕ) → IsSound d → (ts : List Token) (x : Expr × List Token) → term_at d (inside d) ts ≡ Ok x → Front term d ts x
unfolding term_at
term_sound d sound ts x e =
    let a = bound (factor_at d (inside d) ts) (λ a. products d (inside d) (length a.1) a.0 a.1) x e in
    let f = factor_sound d sound ts a.value a.was in
    joins term d f.front ts a.value.1 x f.cut (products_sound d sound (length a.value.1) a.value.0 f.front a.value.1 x (one_factor d f.front a.value.0 f.is) a.then)

sums_sound : (d : ℕ) → IsSound d → (n : ℕ) (a : Expr) (front ts : List Token) (x : Expr × List Token) → Is expr d front a → sums d (inside d) n a ts ≡ Ok x → On expr d front ts x
unfolding sums
sums_sound d sound zero a front ts x g e = on_end expr d front ts a x g e
sums_sound d sound (suc n) a front [] x g e = on_end expr d front [] a x g e
sums_sound d sound (suc n) a front (Plus ∷ ts) x g e =
    let b = bound (term_at d (inside d) ts) (λ b. sums d (inside d) n (Add a b.0) b.1) x e in
    let f = term_sound d sound ts b.value b.was in
    on_front expr d front (Plus ∷ ts) (Plus ∷ (f.front ++ b.value.1)) x (ap (λ (us : List Token). Plus ∷ us) f.cut)
    (on_more expr d front f.front b.value.1 Plus x
    (sums_sound d sound n (Add a b.value.0) (front ++ Plus ∷ f.front) b.value.1 x (sum d front f.front a b.value.0 g f.is) b.then))
sums_sound d sound (suc n) a front (Minus ∷ ts) x g e =
    let b = bound (term_at d (inside d) ts) (λ b. sums d (inside d) n (Sub a b.0) b.1) x e in
    let f = term_sound d sound ts b.value b.was in
    on_front expr d front (Minus ∷ ts) (Minus ∷ (f.front ++ b.value.1)) x (ap (λ (us : List Token). Minus ∷ us) f.cut)
    (on_more expr d front f.front b.value.1 Minus x
    (sums_sound d sound n (Sub a b.value.0) (front ++ Minus ∷ f.front) b.value.1 x (difference d front f.front a b.value.0 g f.is) b.then))
sums_sound d sound (suc n) a front (t ∷ ts) x g e = on_end expr d front (t ∷ ts) a x g e

expr_sound : (d : ℕ) → IsSound d → (ts : List Token) (x : Expr × List Token) → expr_at d (inside d) ts ≡ Ok x → Front expr d ts x
unfolding expr_at
expr_sound d sound ts x e =
    let a = bound (term_at d (inside d) ts) (λ a. sums d (inside d) (length a.1) a.0 a.1) x e in
    let f = term_sound d sound ts a.value a.was in
    joins expr d f.front ts a.value.1 x f.cut (sums_sound d sound (length a.value.1) a.value.0 f.front a.value.1 x (one_term d f.front a.value.0 f.is) a.then)

inside_sound : (d : ℕ) → IsSound d
unfolding inside
inside_sound zero ts x e = absurd cc
inside_sound (suc d) ts x e = record { below = d; less = refl; read = expr_sound d (inside_sound d) ts x e }

pub sound : (d : ℕ) (ts : List Token) (x : Expr × List Token) → expr_at d (inside d) ts ≡ Ok x → Front expr d ts x
sound d ts x e = expr_sound d (inside_sound d) ts x e
