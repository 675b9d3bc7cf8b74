-- One turn of the loop over the factors of a term, and over the terms of an expression.
use Rattle.std.proofs.Common.{◌≡◌, ℕ, zero, suc, ◌<◌, ◌≤◌, List, [], ◌∷◌, length, Some, None, Ok, Err, refl, ◌∙◌, sym, ap, arith}
use Rattle.reading.specs.Reading.{◌>>=◌}
use Rattle.expressions.specs.declared.fault.ExprFault.{ExprFault}
use Rattle.expressions.specs.declared.token.Token.{Token}
use Rattle.expressions.specs.declared.token.Token.TheVariants.{Plus, Minus, Times}
use Rattle.expressions.specs.declared.tree.Expr.{Expr}
use Rattle.expressions.specs.declared.tree.Expr.TheVariants.{Mul}
use Rattle.expressions.specs.Reading.{Read, joined, after_times, after_sign, factor_at, products, term_at, sums, expr_at, inside}

-- with turns enough, a product so far and what follows are read as this; a sum so far
abbrev pub Multiplies : ℕ → Expr → List Token → Read → Type 0
Multiplies d a ts read = (n : ℕ) × (length ts ≤ n) × (products d (inside d) n a ts ≡ read)

abbrev pub Sums : ℕ → Expr → List Token → Read → Type 0
Sums d a ts read = (n : ℕ) × (length ts ≤ n) × (sums d (inside d) n a ts ≡ read)

pub factor_first : (d : ℕ) (a : Expr) (ts us : List Token) → factor_at d (inside d) ts ≡ Ok (a, us) → Multiplies d a us (term_at d (inside d) ts)
unfolding term_at
factor_first d a ts us e = (length us, omega arith, rw e refl)

pub factor_refused : (d : ℕ) (ts : List Token) (f : ExprFault) → factor_at d (inside d) ts ≡ Err f → term_at d (inside d) ts ≡ Err f
unfolding term_at
factor_refused d ts f e = rw e refl

turn : (d n : ℕ) (a : Expr) (ts us : List Token) → length ts ≤ n → after_times ts ≡ Some us
    → (m : ℕ) × (length us ≤ m) × (products d (inside d) n a ts ≡ (factor_at d (inside d) us >>= λ b. products d (inside d) m (Mul a b.0) b.1))
unfolding after_times products
turn d zero a (Times ∷ ts) us le e = absurd (omega arith)
turn d (suc n) a (Times ∷ ts) us le e = let same : ts ≡ us = cc in (n, rw (← same) (omega arith), rw same refl)
turn d n a [] us le e = absurd cc
turn d n a (_ ∷ ts) us le e = absurd cc

pub factor_more : (d : ℕ) (a b : Expr) (ts us vs : List Token) (read : Read) → Multiplies d a ts read → after_times ts ≡ Some us → factor_at d (inside d) us ≡ Ok (b, vs) → length vs < length us → Multiplies d (Mul a b) vs read
factor_more d a b ts us vs read on at next less =
    let t = turn d on.0 a ts us on.1 at in
    (t.0, omega (arith, t.1), rw next at (sym t.2) ∙ on.2)

pub factor_fails : (d : ℕ) (a : Expr) (ts us : List Token) (read : Read) (f : ExprFault) → Multiplies d a ts read → after_times ts ≡ Some us → factor_at d (inside d) us ≡ Err f → read ≡ Err f
factor_fails d a ts us read f on at next =
    let t = turn d on.0 a ts us on.1 at in
    sym on.2 ∙ (rw next at t.2)

ends : (d n : ℕ) (a : Expr) (ts : List Token) → after_times ts ≡ None → products d (inside d) n a ts ≡ Ok (a, ts)
unfolding after_times products
ends d zero a ts e = refl
ends d (suc n) a [] e = refl
ends d (suc n) a (Times ∷ ts) e = absurd cc
ends d (suc n) a (_ ∷ ts) e = refl

pub no_factor : (d : ℕ) (a : Expr) (ts : List Token) (read : Read) → Multiplies d a ts read → after_times ts ≡ None → read ≡ Ok (a, ts)
no_factor d a ts read on e = sym on.2 ∙ ends d on.0 a ts e

-- the same of sums
pub term_first : (d : ℕ) (a : Expr) (ts us : List Token) → term_at d (inside d) ts ≡ Ok (a, us) → Sums d a us (expr_at d (inside d) ts)
unfolding expr_at
term_first d a ts us e = (length us, omega arith, rw e refl)

pub term_refused : (d : ℕ) (ts : List Token) (f : ExprFault) → term_at d (inside d) ts ≡ Err f → expr_at d (inside d) ts ≡ Err f
unfolding expr_at
term_refused d ts f e = rw e refl

signed_turn : (d n : ℕ) (a : Expr) (ts us : List Token) (sign : Token) → length ts ≤ n → after_sign ts ≡ Some (sign, us)
    → (m : ℕ) × (length us ≤ m) × (sums d (inside d) n a ts ≡ (term_at d (inside d) us >>= λ b. sums d (inside d) m (joined sign a b.0) b.1))
unfolding after_sign sums
signed_turn d zero a (Plus ∷ ts) us sign le e = absurd (omega arith)
signed_turn d zero a (Minus ∷ ts) us sign le e = absurd (omega arith)
signed_turn d (suc n) a (Plus ∷ ts) us sign le e =
    let p : ◌≡◌ {A = Token × List Token} (Plus, ts) (sign, us) = cc in
    let s : Plus ≡ sign = ap (λ (x : Token × List Token). x.0) p in
    let t : ts ≡ us = ap (λ (x : Token × List Token). x.1) p in
    (n, rw (← t) (omega arith), rw (← s, ← t) refl)
signed_turn d (suc n) a (Minus ∷ ts) us sign le e =
    let p : ◌≡◌ {A = Token × List Token} (Minus, ts) (sign, us) = cc in
    let s : Minus ≡ sign = ap (λ (x : Token × List Token). x.0) p in
    let t : ts ≡ us = ap (λ (x : Token × List Token). x.1) p in
    (n, rw (← t) (omega arith), rw (← s, ← t) refl)
signed_turn d n a [] us sign le e = absurd cc
signed_turn d n a (_ ∷ ts) us sign le e = absurd cc

pub term_more : (d : ℕ) (a b : Expr) (ts us vs : List Token) (sign : Token) (read : Read) → Sums d a ts read → after_sign ts ≡ Some (sign, us) → term_at d (inside d) us ≡ Ok (b, vs) → length vs < length us → Sums d (joined sign a b) vs read
term_more d a b ts us vs sign read on at next less =
    let t = signed_turn d on.0 a ts us sign on.1 at in
    (t.0, omega (arith, t.1), rw next at (sym t.2) ∙ on.2)

pub term_fails : (d : ℕ) (a : Expr) (ts us : List Token) (sign : Token) (read : Read) (f : ExprFault) → Sums d a ts read → after_sign ts ≡ Some (sign, us) → term_at d (inside d) us ≡ Err f → read ≡ Err f
term_fails d a ts us sign read f on at next =
    let t = signed_turn d on.0 a ts us sign on.1 at in
    sym on.2 ∙ (rw next at t.2)

sums_end : (d n : ℕ) (a : Expr) (ts : List Token) → after_sign ts ≡ None → sums d (inside d) n a ts ≡ Ok (a, ts)
unfolding after_sign sums
sums_end d zero a ts e = refl
sums_end d (suc n) a [] e = refl
sums_end d (suc n) a (Plus ∷ ts) e = absurd cc
sums_end d (suc n) a (Minus ∷ ts) e = absurd cc
sums_end d (suc n) a (_ ∷ ts) e = refl

pub no_term : (d : ℕ) (a : Expr) (ts : List Token) (read : Read) → Sums d a ts read → after_sign ts ≡ None → read ≡ Ok (a, ts)
no_term d a ts read on e = sym on.2 ∙ sums_end d on.0 a ts e
