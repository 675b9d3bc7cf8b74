-- How a tree is read off the front of tokens, from the left, with the tokens after it. What is read
-- so is what the grammar says, and nothing else: the law `reading_is_the_grammar`.
use Rattle.std.specs.Prelude.{ℕ, zero, suc, ◌&&◌, List, [], ◌∷◌, length, Option, Some, None, Result}
use Rattle.std.specs.Prelude.{Ok, Err, pos, codes, nat_le, if◌then◌else◌}
use Rattle.std.specs.Str.{bytes_eq}
use Rattle.reading.specs.Reading.{◌>>=◌}
use Rattle.expressions.specs.Tokens.{tokens_of}
use Rattle.expressions.specs.Grammar.{is_reserved}
use Rattle.expressions.specs.declared.limits.TheConstants.{MAX_BRACKETS, MAX_CONSTANT, MAX_DIVISOR}
use Rattle.expressions.specs.declared.limits.TheConstants.{MAX_ARGUMENT_DIGITS}
use Rattle.expressions.specs.declared.fault.ExprFault.{ExprFault}
use Rattle.expressions.specs.declared.fault.ExprFault.TheVariants.{Syntax}
use Rattle.expressions.specs.declared.token.Token.{Token}
use Rattle.expressions.specs.declared.token.Token.TheVariants.{Plus, Minus, Times, Open, Close}
use Rattle.expressions.specs.declared.token.Token.TheVariants.{Comma, Digits, Word}
use Rattle.expressions.specs.declared.tree.Argument.TheVariants.{Named, Number}
use Rattle.expressions.specs.declared.tree.Expr.{Expr}
use Rattle.expressions.specs.declared.tree.Expr.TheVariants.{Const, Feature, Neg, Abs, Add, Sub}
use Rattle.expressions.specs.declared.tree.Expr.TheVariants.{Mul, Min, Max, If, Div}

abbrev pub Read : Type 0
Read = Result (Expr × List Token) ExprFault

-- the tokens after a comma, after a closing bracket
unfoldable pub after_comma : List Token → Result (List Token) ExprFault
after_comma (Comma ∷ ts) = Ok ts
after_comma _ = Err Syntax

unfoldable pub after_close : List Token → Result (List Token) ExprFault
after_close (Close ∷ ts) = Ok ts
after_close _ = Err Syntax

-- the tokens after a `*`, and after a `+` or `-` with that sign
unfoldable pub after_times : List Token → Option (List Token)
after_times (Times ∷ ts) = Some ts
after_times _ = None

unfoldable pub after_sign : List Token → Option (Token × List Token)
after_sign (Plus ∷ ts) = Some (Plus, ts)
after_sign (Minus ∷ ts) = Some (Minus, ts)
after_sign _ = None

unfoldable pub constant : ℕ → List Token → Read
constant value ts = if nat_le value MAX_CONSTANT then Ok (Const (pos value), ts) else Err Syntax

-- a divided by what stands before the closing bracket
unfoldable pub divided : Expr → List Token → Read
divided a (Digits value len ∷ Close ∷ ts) =
    if nat_le 1 value && nat_le value MAX_DIVISOR then Ok (Div a (pos value), ts) else Err Syntax
divided a _ = Err Syntax

-- a feature of what stands before the closing bracket
unfoldable pub asked : List ℕ → List Token → Read
asked name (Word about ∷ Close ∷ ts) = Ok (Feature name (Some (Named about)), ts)
asked name (Digits value len ∷ Close ∷ ts) =
    if nat_le len MAX_ARGUMENT_DIGITS then Ok (Feature name (Some (Number value)), ts)
    else Err Syntax
asked name _ = Err Syntax

unfoldable pub feature_in : ℕ → List ℕ → List Token → Read
feature_in zero name ts = Err Syntax
feature_in (suc d) name ts = asked name ts

-- by the sign between them
abbrev pub joined : Token → Expr → Expr → Expr
joined Minus a b = Sub a b
joined _ a b = Add a b

-- depth: how many brackets may be opened inside each other; nested: how an expression behind one of
-- them is read
module _ (depth : ℕ) (nested : List Token → Read) where
  -- an expression and a comma
  unfoldable pub argument : List Token → Read
  argument ts = nested ts >>= λ a. after_comma a.1 >>= λ us. Ok (a.0, us)

  -- an expression and the closing bracket
  unfoldable pub last : List Token → Read
  last ts = nested ts >>= λ a. after_close a.1 >>= λ us. Ok (a.0, us)

  -- behind `abs (`, `min (`, `max (`, `if (`, `div (`
  unfoldable pub absolute : List Token → Read
  absolute ts = last ts >>= λ a. Ok (Abs a.0, a.1)

  unfoldable pub least : List Token → Read
  least ts = argument ts >>= λ a. last a.1 >>= λ b. Ok (Min a.0 b.0, b.1)

  unfoldable pub greatest : List Token → Read
  greatest ts = argument ts >>= λ a. last a.1 >>= λ b. Ok (Max a.0 b.0, b.1)

  unfoldable pub choice : List Token → Read
  choice ts = argument ts >>= λ a. argument a.1 >>= λ b. last b.1 >>= λ c. Ok (If a.0 b.0 c.0, c.1)

  unfoldable pub quotient : List Token → Read
  quotient ts = argument ts >>= λ a. divided a.0 a.1

  -- behind `name (`
  unfoldable pub called : List ℕ → List Token → Read
  called name ts =
      if bytes_eq name (codes "abs") then absolute ts
      else if bytes_eq name (codes "min") then least ts
      else if bytes_eq name (codes "max") then greatest ts
      else if bytes_eq name (codes "if") then choice ts
      else if bytes_eq name (codes "div") then quotient ts
      else feature_in depth name ts

  -- behind a name
  unfoldable pub named : List ℕ → List Token → Read
  named name (Open ∷ ts) = called name ts
  named name ts = if is_reserved name then Err Syntax else Ok (Feature name None, ts)

  unfoldable pub factor_at : List Token → Read
  factor_at (Digits value len ∷ ts) = constant value ts
  factor_at (Minus ∷ ts) = factor_at ts >>= λ a. Ok (Neg a.0, a.1)
  factor_at (Open ∷ ts) = last ts
  factor_at (Word name ∷ ts) = named name ts
  factor_at _ = Err Syntax

  -- A product so far, times the factors that follow; each takes a token, so the count of tokens is
  -- turns enough.
  unfoldable pub products : ℕ → Expr → List Token → Read
  products (suc n) a (Times ∷ ts) = factor_at ts >>= λ b. products n (Mul a b.0) b.1
  products n a ts = Ok (a, ts)

  unfoldable pub term_at : List Token → Read
  term_at ts = factor_at ts >>= λ a. products (length a.1) a.0 a.1

  -- a sum so far, and the terms that follow
  unfoldable pub sums : ℕ → Expr → List Token → Read
  sums (suc n) a (Plus ∷ ts) = term_at ts >>= λ b. sums n (joined Plus a b.0) b.1
  sums (suc n) a (Minus ∷ ts) = term_at ts >>= λ b. sums n (joined Minus a b.0) b.1
  sums n a ts = Ok (a, ts)

  unfoldable pub expr_at : List Token → Read
  expr_at ts = term_at ts >>= λ a. sums (length a.1) a.0 a.1

-- behind a bracket, where so many may be opened
unfoldable pub inside : ℕ → List Token → Read
inside zero ts = Err Syntax
inside (suc d) ts = expr_at d (inside d) ts

-- all tokens are read
abbrev pub nothing_left : Expr × List Token → Result Expr ExprFault
nothing_left (e, []) = Ok e
nothing_left (e, t ∷ ts) = Err Syntax

-- the tree that all tokens have
unfoldable pub tree_of : List Token → Result Expr ExprFault
tree_of ts = expr_at MAX_BRACKETS (inside MAX_BRACKETS) ts >>= nothing_left

-- the tree of the text that words spell
unfoldable pub expr_of : List (List ℕ) → Result Expr ExprFault
expr_of ws = tokens_of ws >>= tree_of
