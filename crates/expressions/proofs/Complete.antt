-- What the grammar says is a phrase is read as that phrase, whatever may follow it.
use Rattle.std.proofs.Common.{◌≡◌, ℕ, zero, suc, ◌≤◌, Bool, true, false, not, ◌||◌, List, [], ◌∷◌, ◌++◌, length, Ok, pos, Some, None, refl, ap, ◌∙◌, append_assoc, length-append, arith}
use Rattle.std.specs.Prelude.{IsTrue, nat_le, codes}
use Rattle.std.specs.Str.{bytes_eq}
use Rattle.std.proofs.lemmas.Bool.Decides.{nat_tests}
use Rattle.expressions.specs.declared.limits.TheConstants.{MAX_CONSTANT, MAX_DIVISOR, MAX_ARGUMENT_DIGITS}
use Rattle.expressions.specs.declared.token.Token.{Token}
use Rattle.expressions.specs.declared.token.Token.TheVariants.{Plus, Minus, Times, Open, Close, Comma, Digits, Word}
use Rattle.expressions.specs.declared.tree.Argument.TheVariants.{Named, Number}
use Rattle.expressions.specs.declared.tree.Expr.{Expr}
use Rattle.expressions.specs.declared.tree.Expr.TheVariants.{Const, Feature, Neg, Abs, Add, Sub, Mul, Min, Max, If, Div}
use Rattle.expressions.specs.Grammar.{is_reserved, Phrase, expr, term, factor, Is, one_term, sum, difference, one_factor, product, constant, negation, brackets, absolute, least, greatest, choice, quotient, plain, of_name, of_number}
use Rattle.expressions.specs.Reading as r
use Rattle.expressions.specs.Reading.{Read, after_comma, after_close, divided, asked, feature_in, joined, argument, last, called, named, factor_at, products, term_at, sums, expr_at, inside}

-- what may follow a factor, a term and a whole expression
abbrev pub AfterFactor : List Token → Type 0
AfterFactor (Open ∷ ts) = ⊥
AfterFactor _ = Unit {0}

abbrev pub AfterTerm : List Token → Type 0
AfterTerm (Open ∷ ts) = ⊥
AfterTerm (Times ∷ ts) = ⊥
AfterTerm _ = Unit {0}

abbrev pub AfterExpr : List Token → Type 0
AfterExpr [] = Unit {0}
AfterExpr (Comma ∷ ts) = Unit {0}
AfterExpr (Close ∷ ts) = Unit {0}
AfterExpr _ = ⊥

-- A term is read up to a product so far, an expression up to a sum so far, with turns enough for what follows.
abbrev pub ReadsOn : Phrase → ℕ → List Token → Expr → List Token → Type 0
ReadsOn factor d ts e rest = AfterFactor rest → factor_at d (inside d) (ts ++ rest) ≡ Ok (e, rest)
ReadsOn term d ts e rest = AfterFactor rest → (n : ℕ) × (length rest ≤ n) × (term_at d (inside d) (ts ++ rest) ≡ products d (inside d) n e rest)
ReadsOn expr d ts e rest = AfterTerm rest → (n : ℕ) × (length rest ≤ n) × (expr_at d (inside d) (ts ++ rest) ≡ sums d (inside d) n e rest)

factor_after : (rest : List Token) → AfterTerm rest → AfterFactor rest
factor_after [] h = tt
factor_after (Open ∷ ts) h = h
factor_after (Plus ∷ ts) h = tt
factor_after (Minus ∷ ts) h = tt
factor_after (Times ∷ ts) h = tt
factor_after (Close ∷ ts) h = tt
factor_after (Comma ∷ ts) h = tt
factor_after (Digits v l ∷ ts) h = tt
factor_after (Word w ∷ ts) h = tt

term_after : (rest : List Token) → AfterExpr rest → AfterTerm rest
term_after [] h = tt
term_after (Close ∷ ts) h = tt
term_after (Comma ∷ ts) h = tt
term_after (_ ∷ ts) h = absurd h

products_done : (d n : ℕ) (a : Expr) (rest : List Token) → AfterTerm rest → products d (inside d) n a rest ≡ Ok (a, rest)
unfolding products
products_done d zero a rest h = refl
products_done d (suc n) a (Times ∷ ts) h = absurd h
products_done d (suc n) a rest h = refl

sums_done : (d n : ℕ) (a : Expr) (rest : List Token) → AfterExpr rest → sums d (inside d) n a rest ≡ Ok (a, rest)
unfolding sums
sums_done d zero a rest h = refl
sums_done d (suc n) a (Plus ∷ ts) h = absurd h
sums_done d (suc n) a (Minus ∷ ts) h = absurd h
sums_done d (suc n) a rest h = refl

-- one factor more, one term more
product_on : (d n : ℕ) (a b : Expr) (us rest : List Token) → length (Times ∷ (us ++ rest)) ≤ n → factor_at d (inside d) (us ++ rest) ≡ Ok (b, rest)
    → (m : ℕ) × (length rest ≤ m) × (products d (inside d) n a (Times ∷ (us ++ rest)) ≡ products d (inside d) m (Mul a b) rest)
unfolding products
product_on d zero a b us rest le e = absurd (omega arith)
product_on d (suc m) a b us rest le e = (m, omega (arith, length-append us rest), rw e refl)

sum_on : (d n : ℕ) (a b : Expr) (us rest : List Token) → length (Plus ∷ (us ++ rest)) ≤ n → term_at d (inside d) (us ++ rest) ≡ Ok (b, rest)
    → (m : ℕ) × (length rest ≤ m) × (sums d (inside d) n a (Plus ∷ (us ++ rest)) ≡ sums d (inside d) m (Add a b) rest)
unfolding sums
sum_on d zero a b us rest le e = absurd (omega arith)
sum_on d (suc m) a b us rest le e = (m, omega (arith, length-append us rest), rw e refl)

difference_on : (d n : ℕ) (a b : Expr) (us rest : List Token) → length (Minus ∷ (us ++ rest)) ≤ n → term_at d (inside d) (us ++ rest) ≡ Ok (b, rest)
    → (m : ℕ) × (length rest ≤ m) × (sums d (inside d) n a (Minus ∷ (us ++ rest)) ≡ sums d (inside d) m (Sub a b) rest)
unfolding sums
difference_on d zero a b us rest le e = absurd (omega arith)
difference_on d (suc m) a b us rest le e = (m, omega (arith, length-append us rest), rw e refl)

-- a term, an expression with nothing more to read
term_ends : (d : ℕ) (ts : List Token) (e : Expr) (rest : List Token) → ReadsOn term d ts e rest → AfterTerm rest → term_at d (inside d) (ts ++ rest) ≡ Ok (e, rest)
term_ends d ts e rest k h = let on = k (factor_after rest h) in on.2 ∙ products_done d on.0 e rest h

pub expr_ends : (d : ℕ) (ts : List Token) (e : Expr) (rest : List Token) → ReadsOn expr d ts e rest → AfterExpr rest → expr_at d (inside d) (ts ++ rest) ≡ Ok (e, rest)
expr_ends d ts e rest k h = let on = k (term_after rest h) in on.2 ∙ sums_done d on.0 e rest h

of_term : (d : ℕ) (ts : List Token) (e : Expr) (rest : List Token) → ReadsOn term d ts e rest → ReadsOn expr d ts e rest
unfolding expr_at
of_term d ts e rest k h = (length rest, omega arith, rw (term_ends d ts e rest k h) refl)

of_factor : (d : ℕ) (ts : List Token) (e : Expr) (rest : List Token) → ReadsOn factor d ts e rest → ReadsOn term d ts e rest
unfolding term_at
of_factor d ts e rest k h = (length rest, omega arith, rw (k h) refl)

of_product : (d : ℕ) (ts us : List Token) (a b : Expr) (rest : List Token) → ReadsOn term d ts a (Times ∷ (us ++ rest)) → ReadsOn factor d us b rest → ReadsOn term d (ts ++ Times ∷ us) (Mul a b) rest
of_product d ts us a b rest first second h =
    let on = first tt in
    let next = product_on d on.0 a b us rest on.1 (second h) in
    (next.0, next.1, ap (term_at d (inside d)) (append_assoc ts (Times ∷ us) rest) ∙ on.2 ∙ next.2)

of_sum : (d : ℕ) (ts us : List Token) (a b : Expr) (rest : List Token) → ReadsOn expr d ts a (Plus ∷ (us ++ rest)) → ReadsOn term d us b rest → ReadsOn expr d (ts ++ Plus ∷ us) (Add a b) rest
of_sum d ts us a b rest first second h =
    let on = first tt in
    let next = sum_on d on.0 a b us rest on.1 (term_ends d us b rest second h) in
    (next.0, next.1, ap (expr_at d (inside d)) (append_assoc ts (Plus ∷ us) rest) ∙ on.2 ∙ next.2)

of_difference : (d : ℕ) (ts us : List Token) (a b : Expr) (rest : List Token) → ReadsOn expr d ts a (Minus ∷ (us ++ rest)) → ReadsOn term d us b rest → ReadsOn expr d (ts ++ Minus ∷ us) (Sub a b) rest
of_difference d ts us a b rest first second h =
    let on = first tt in
    let next = difference_on d on.0 a b us rest on.1 (term_ends d us b rest second h) in
    (next.0, next.1, ap (expr_at d (inside d)) (append_assoc ts (Minus ∷ us) rest) ∙ on.2 ∙ next.2)

of_constant : (d value len : ℕ) (rest : List Token) → value ≤ MAX_CONSTANT → factor_at d (inside d) (Digits value len ∷ rest) ≡ Ok (Const (pos value), rest)
unfolding factor_at r.constant
of_constant d value len rest le = let e : nat_le value MAX_CONSTANT ≡ true = grind (arith, nat_tests) in rw e refl

of_negation : (d : ℕ) (ts : List Token) (a : Expr) (rest : List Token) → factor_at d (inside d) (ts ++ rest) ≡ Ok (a, rest) → factor_at d (inside d) (Minus ∷ (ts ++ rest)) ≡ Ok (Neg a, rest)
unfolding factor_at
of_negation d ts a rest e = rw e refl

-- behind a bracket, up to the comma or the closing bracket
behind : (d : ℕ) (ts : List Token) (a : Expr) (rest : List Token) → ReadsOn expr d ts a rest → AfterExpr rest → inside (suc d) (ts ++ rest) ≡ Ok (a, rest)
unfolding inside
behind d ts a rest k h = expr_ends d ts a rest k h

to_comma : (d : ℕ) (ts : List Token) (a : Expr) (rest : List Token) → ReadsOn expr d ts a (Comma ∷ rest) → argument (suc d) (inside (suc d)) (ts ++ Comma ∷ rest) ≡ Ok (a, rest)
unfolding argument after_comma
to_comma d ts a rest k = rw (behind d ts a (Comma ∷ rest) k tt) refl

to_close : (d : ℕ) (ts : List Token) (a : Expr) (rest : List Token) → ReadsOn expr d ts a (Close ∷ rest) → last (suc d) (inside (suc d)) (ts ++ Close ∷ rest) ≡ Ok (a, rest)
unfolding last after_close
to_close d ts a rest k = rw (behind d ts a (Close ∷ rest) k tt) refl

of_brackets : (d : ℕ) (ts : List Token) (a : Expr) (rest : List Token) → ReadsOn expr d ts a (Close ∷ rest)
    → factor_at (suc d) (inside (suc d)) ((Open ∷ ts ++ Close ∷ []) ++ rest) ≡ Ok (a, rest)
unfolding factor_at
of_brackets d ts a rest k = ap (last (suc d) (inside (suc d))) (append_assoc ts (Close ∷ []) rest) ∙ to_close d ts a rest k

of_absolute : (d : ℕ) (ts : List Token) (a : Expr) (rest : List Token) → ReadsOn expr d ts a (Close ∷ rest)
    → factor_at (suc d) (inside (suc d)) ((Word (codes "abs") ∷ Open ∷ ts ++ Close ∷ []) ++ rest) ≡ Ok (Abs a, rest)
unfolding factor_at named called r.absolute
of_absolute d ts a rest k = rw (append_assoc ts (Close ∷ []) rest, to_close d ts a rest k) refl

of_least : (d : ℕ) (ts us : List Token) (a b : Expr) (rest : List Token) → ReadsOn expr d ts a (Comma ∷ (us ++ Close ∷ rest)) → ReadsOn expr d us b (Close ∷ rest)
    → factor_at (suc d) (inside (suc d)) ((Word (codes "min") ∷ Open ∷ ts ++ (Comma ∷ us ++ Close ∷ [])) ++ rest) ≡ Ok (Min a b, rest)
unfolding factor_at named called r.least
of_least d ts us a b rest k l =
    rw (append_assoc ts (Comma ∷ us ++ Close ∷ []) rest, append_assoc us (Close ∷ []) rest, to_comma d ts a (us ++ Close ∷ rest) k, to_close d us b rest l) refl

of_greatest : (d : ℕ) (ts us : List Token) (a b : Expr) (rest : List Token) → ReadsOn expr d ts a (Comma ∷ (us ++ Close ∷ rest)) → ReadsOn expr d us b (Close ∷ rest)
    → factor_at (suc d) (inside (suc d)) ((Word (codes "max") ∷ Open ∷ ts ++ (Comma ∷ us ++ Close ∷ [])) ++ rest) ≡ Ok (Max a b, rest)
unfolding factor_at named called r.greatest
of_greatest d ts us a b rest k l =
    rw (append_assoc ts (Comma ∷ us ++ Close ∷ []) rest, append_assoc us (Close ∷ []) rest, to_comma d ts a (us ++ Close ∷ rest) k, to_close d us b rest l) refl

of_choice : (d : ℕ) (ts us vs : List Token) (a b c : Expr) (rest : List Token) → ReadsOn expr d ts a (Comma ∷ (us ++ Comma ∷ (vs ++ Close ∷ rest))) → ReadsOn expr d us b (Comma ∷ (vs ++ Close ∷ rest)) → ReadsOn expr d vs c (Close ∷ rest)
    → factor_at (suc d) (inside (suc d)) ((Word (codes "if") ∷ Open ∷ ts ++ (Comma ∷ us ++ (Comma ∷ vs ++ Close ∷ []))) ++ rest) ≡ Ok (If a b c, rest)
unfolding factor_at named called r.choice
of_choice d ts us vs a b c rest k l m =
    rw (append_assoc ts (Comma ∷ us ++ (Comma ∷ vs ++ Close ∷ [])) rest, append_assoc us (Comma ∷ vs ++ Close ∷ []) rest, append_assoc vs (Close ∷ []) rest, to_comma d ts a (us ++ Comma ∷ (vs ++ Close ∷ rest)) k, to_comma d us b (vs ++ Close ∷ rest) l, to_close d vs c rest m) refl

of_quotient : (d : ℕ) (ts : List Token) (a : Expr) (value len : ℕ) (rest : List Token) → ReadsOn expr d ts a (Comma ∷ Digits value len ∷ Close ∷ rest) → 1 ≤ value → value ≤ MAX_DIVISOR
    → factor_at (suc d) (inside (suc d)) ((Word (codes "div") ∷ Open ∷ ts ++ Comma ∷ Digits value len ∷ Close ∷ []) ++ rest) ≡ Ok (Div a (pos value), rest)
unfolding factor_at named called r.quotient divided
of_quotient d ts a value len rest k low high =
    let e : nat_le 1 value ≡ true = grind (arith, nat_tests) in
    let f : nat_le value MAX_DIVISOR ≡ true = grind (arith, nat_tests) in
    rw (append_assoc ts (Comma ∷ Digits value len ∷ Close ∷ []) rest, to_comma d ts a (Digits value len ∷ Close ∷ rest) k, e, f) refl

-- no name of a feature is reserved
record NotReserved (name : List ℕ) : Type 0 where
  abs : bytes_eq name (codes "abs") ≡ false
  min : bytes_eq name (codes "min") ≡ false
  max : bytes_eq name (codes "max") ≡ false
  if : bytes_eq name (codes "if") ≡ false
  div : bytes_eq name (codes "div") ≡ false

none_of : (a b c d e : Bool) → not (a || (b || (c || (d || e)))) ≡ true → (a ≡ false) × (b ≡ false) × (c ≡ false) × (d ≡ false) × (e ≡ false)
none_of true b c d e h = absurd cc
none_of false true c d e h = absurd cc
none_of false false true d e h = absurd cc
none_of false false false true e h = absurd cc
none_of false false false false true h = absurd cc
none_of false false false false false h = (refl, refl, refl, refl, refl)

not_reserved : (name : List ℕ) → IsTrue (not (is_reserved name)) → NotReserved name
not_reserved name h =
    let n = none_of (bytes_eq name (codes "abs")) (bytes_eq name (codes "min")) (bytes_eq name (codes "max")) (bytes_eq name (codes "if")) (bytes_eq name (codes "div")) h in
    record { abs = n.0; min = n.1; max = n.2; if = n.3; div = n.4 }

of_plain : (d : ℕ) (name : List ℕ) (rest : List Token) → IsTrue (not (is_reserved name)) → AfterFactor rest → factor_at d (inside d) (Word name ∷ rest) ≡ Ok (Feature name None, rest)
unfolding factor_at named
of_plain d name [] h k = let n = not_reserved name h in rw (n.abs, n.min, n.max, n.if, n.div) refl
of_plain d name (Open ∷ ts) h k = absurd k
of_plain d name (t ∷ ts) h k = let n = not_reserved name h in rw (n.abs, n.min, n.max, n.if, n.div) refl

of_about : (d : ℕ) (name about : List ℕ) (rest : List Token) → IsTrue (not (is_reserved name))
    → factor_at (suc d) (inside (suc d)) (Word name ∷ Open ∷ Word about ∷ Close ∷ rest) ≡ Ok (Feature name (Some (Named about)), rest)
unfolding factor_at named called feature_in asked
of_about d name about rest h = let n = not_reserved name h in rw (n.abs, n.min, n.max, n.if, n.div) refl

of_count : (d : ℕ) (name : List ℕ) (value len : ℕ) (rest : List Token) → IsTrue (not (is_reserved name)) → len ≤ MAX_ARGUMENT_DIGITS
    → factor_at (suc d) (inside (suc d)) (Word name ∷ Open ∷ Digits value len ∷ Close ∷ rest) ≡ Ok (Feature name (Some (Number value)), rest)
unfolding factor_at named called feature_in asked
of_count d name value len rest h le =
    let n = not_reserved name h in
    let e : nat_le len MAX_ARGUMENT_DIGITS ≡ true = grind (arith, nat_tests) in
    rw (n.abs, n.min, n.max, n.if, n.div, e) refl

-- An induction over the grammar.
pub complete : (p : Phrase) (d : ℕ) (ts : List Token) (e : Expr) → Is p d ts e → (rest : List Token) → ReadsOn p d ts e rest
complete _ _ _ _ (one_term d ts a g) rest = of_term d ts a rest (complete term d ts a g rest)
complete _ _ _ _ (sum d ts us a b g h) rest = of_sum d ts us a b rest (complete expr d ts a g (Plus ∷ (us ++ rest))) (complete term d us b h rest)
complete _ _ _ _ (difference d ts us a b g h) rest = of_difference d ts us a b rest (complete expr d ts a g (Minus ∷ (us ++ rest))) (complete term d us b h rest)
complete _ _ _ _ (one_factor d ts a g) rest = of_factor d ts a rest (complete factor d ts a g rest)
complete _ _ _ _ (product d ts us a b g h) rest = of_product d ts us a b rest (complete term d ts a g (Times ∷ (us ++ rest))) (complete factor d us b h rest)
complete _ _ _ _ (constant d value len le) rest = λ h. of_constant d value len rest le
complete _ _ _ _ (negation d ts a g) rest = λ h. of_negation d ts a rest (complete factor d ts a g rest h)
complete _ _ _ _ (brackets d ts a g) rest = λ h. of_brackets d ts a rest (complete expr d ts a g (Close ∷ rest))
complete _ _ _ _ (absolute d ts a g) rest = λ h. of_absolute d ts a rest (complete expr d ts a g (Close ∷ rest))
complete _ _ _ _ (least d ts us a b g k) rest = λ h. of_least d ts us a b rest (complete expr d ts a g (Comma ∷ (us ++ Close ∷ rest))) (complete expr d us b k (Close ∷ rest))
complete _ _ _ _ (greatest d ts us a b g k) rest = λ h. of_greatest d ts us a b rest (complete expr d ts a g (Comma ∷ (us ++ Close ∷ rest))) (complete expr d us b k (Close ∷ rest))
complete _ _ _ _ (choice d ts us vs a b c g k l) rest = λ h.
    of_choice d ts us vs a b c rest (complete expr d ts a g (Comma ∷ (us ++ Comma ∷ (vs ++ Close ∷ rest)))) (complete expr d us b k (Comma ∷ (vs ++ Close ∷ rest))) (complete expr d vs c l (Close ∷ rest))
complete _ _ _ _ (quotient d ts a value len g low high) rest = λ h. of_quotient d ts a value len rest (complete expr d ts a g (Comma ∷ Digits value len ∷ Close ∷ rest)) low high
complete _ _ _ _ (plain d name free) rest = λ h. of_plain d name rest free h
complete _ _ _ _ (of_name d name about free) rest = λ h. of_about d name about rest free
complete _ _ _ _ (of_number d name value len free le) rest = λ h. of_count d name value len rest free le
