-- The grammar of expressions: which tokens are the text of which tree. This project's own.
use Rattle.std.specs.Prelude.{◌≡◌, ◌≤◌, ℕ, suc, Bool, not, ◌||◌, List, [], ◌∷◌, ◌++◌, Some, None}
use Rattle.std.specs.Prelude.{Ok, pos, codes, IsTrue}
use Rattle.std.specs.Str.{bytes_eq}
use Rattle.reading.specs.Words.{words}
use Rattle.expressions.specs.Tokens.{tokens_of}
use Rattle.expressions.specs.declared.limits.TheConstants.{MAX_BRACKETS, MAX_CONSTANT, MAX_DIVISOR}
use Rattle.expressions.specs.declared.limits.TheConstants.{MAX_ARGUMENT_DIGITS}
use Rattle.expressions.specs.declared.token.Token.{Token}
use Rattle.expressions.specs.declared.token.Token.TheVariants.{Plus, Minus, Times, Open, Close}
use Rattle.expressions.specs.declared.token.Token.TheVariants.{Comma, Digits, Word}
use Rattle.expressions.specs.declared.tree.Argument.TheVariants.{Named, Number}
use Rattle.expressions.specs.declared.tree.Expr.{Expr}
use Rattle.expressions.specs.declared.tree.Expr.TheVariants.{Const, Feature, Neg, Abs, Add, Sub}
use Rattle.expressions.specs.declared.tree.Expr.TheVariants.{Mul, Min, Max, If, Div}

-- the names that no feature has
abbrev pub is_reserved : List ℕ → Bool
is_reserved name =
    bytes_eq name (codes "abs") || (bytes_eq name (codes "min")
    || (bytes_eq name (codes "max") || (bytes_eq name (codes "if") || bytes_eq name (codes "div"))))

-- expr, term and factor
pub data Phrase : Type 0 where
  expr : Phrase
  term : Phrase
  factor : Phrase

-- Tokens are this phrase, with this tree and at most so many brackets inside each other.
pub data Is : Phrase → ℕ → List Token → Expr → Type 0 where
  -- expr := term | expr + term | expr - term
  one_term : (d : ℕ) (ts : List Token) (a : Expr) → Is term d ts a → Is expr d ts a
  sum : (d : ℕ) (ts us : List Token) (a b : Expr) → Is expr d ts a → Is term d us b
      → Is expr d (ts ++ Plus ∷ us) (Add a b)
  difference : (d : ℕ) (ts us : List Token) (a b : Expr) → Is expr d ts a → Is term d us b
      → Is expr d (ts ++ Minus ∷ us) (Sub a b)
  -- term := factor | term * factor
  one_factor : (d : ℕ) (ts : List Token) (a : Expr) → Is factor d ts a → Is term d ts a
  product : (d : ℕ) (ts us : List Token) (a b : Expr) → Is term d ts a → Is factor d us b
      → Is term d (ts ++ Times ∷ us) (Mul a b)
  -- factor := digits | - factor | ( expr )
  constant : (d value len : ℕ) → value ≤ MAX_CONSTANT
      → Is factor d (Digits value len ∷ []) (Const (pos value))
  negation : (d : ℕ) (ts : List Token) (a : Expr) → Is factor d ts a
      → Is factor d (Minus ∷ ts) (Neg a)
  brackets : (d : ℕ) (ts : List Token) (a : Expr) → Is expr d ts a
      → Is factor (suc d) (Open ∷ ts ++ Close ∷ []) a
  -- | abs(expr) | min(expr, expr) | max(expr, expr) | if(expr, expr, expr) | div(expr, digits)
  absolute : (d : ℕ) (ts : List Token) (a : Expr) → Is expr d ts a
      → Is factor (suc d) (Word (codes "abs") ∷ Open ∷ ts ++ Close ∷ []) (Abs a)
  least : (d : ℕ) (ts us : List Token) (a b : Expr) → Is expr d ts a → Is expr d us b
      → Is factor (suc d) (Word (codes "min") ∷ Open ∷ ts ++ (Comma ∷ us ++ Close ∷ [])) (Min a b)
  greatest : (d : ℕ) (ts us : List Token) (a b : Expr) → Is expr d ts a → Is expr d us b
      → Is factor (suc d) (Word (codes "max") ∷ Open ∷ ts ++ (Comma ∷ us ++ Close ∷ [])) (Max a b)
  choice : (d : ℕ) (ts us vs : List Token) (a b c : Expr) → Is expr d ts a → Is expr d us b
      → Is expr d vs c
      → Is factor (suc d) (Word (codes "if") ∷ Open
      ∷ ts ++ (Comma ∷ us ++ (Comma ∷ vs ++ Close ∷ []))) (If a b c)
  quotient : (d : ℕ) (ts : List Token) (a : Expr) (value len : ℕ) → Is expr d ts a → 1 ≤ value
      → value ≤ MAX_DIVISOR
      → Is factor (suc d) (Word (codes "div") ∷ Open ∷ ts ++ Comma ∷ Digits value len ∷ Close ∷ [])
      (Div a (pos value))
  -- | feature | feature(name) | feature(digits)
  plain : (d : ℕ) (name : List ℕ) → IsTrue (not (is_reserved name))
      → Is factor d (Word name ∷ []) (Feature name None)
  of_name : (d : ℕ) (name about : List ℕ) → IsTrue (not (is_reserved name))
      → Is factor (suc d) (Word name ∷ Open ∷ Word about ∷ Close ∷ [])
      (Feature name (Some (Named about)))
  of_number : (d : ℕ) (name : List ℕ) (value len : ℕ) → IsTrue (not (is_reserved name))
      → len ≤ MAX_ARGUMENT_DIGITS
      → Is factor (suc d) (Word name ∷ Open ∷ Digits value len ∷ Close ∷ [])
      (Feature name (Some (Number value)))

-- The text that these words spell is this expression's: as many brackets stand inside each other as
-- may.
abbrev pub IsSpelled : List (List ℕ) → Expr → Type 0
IsSpelled ws e = (ts : List Token) × (tokens_of ws ≡ Ok ts) × Is expr MAX_BRACKETS ts e

-- The text is this expression's. Spaces and tabs are free between its signs, digits and words.
abbrev pub IsTextOf : List ℕ → Expr → Type 0
IsTextOf text e = IsSpelled (words text) e
