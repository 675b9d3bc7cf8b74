-- What the signs, digits and words of an expression's text are. This project's own.
use Rattle.std.specs.Prelude.{ℕ, Bool, true, false, ◌||◌, ◌==◌, List, [], ◌∷◌, ◌++◌, length, min}
use Rattle.std.specs.Prelude.{Option, Some, None, Result, Ok, Err, if◌then◌else◌, codes}
use Rattle.std.specs.List.{flat_map}
use Rattle.std.specs.Str.{bytes_eq}
use Rattle.preorder.specs.Name.{is_name}
use Rattle.reading.specs.Words.{words, number_of}
use Rattle.reading.specs.Reading.{read_each}
use Rattle.reading.specs.declared.words.TheConstants.{PAST}
use Rattle.expressions.specs.Bytes.{plus_sign, times_sign, open_bracket}
use Rattle.reading.specs.Bytes.{space, minus_sign, comma}
use Rattle.expressions.specs.Bytes.{close_bracket}
use Rattle.expressions.specs.declared.fault.ExprFault.{ExprFault}
use Rattle.expressions.specs.declared.fault.ExprFault.TheVariants.{Syntax, NoMemory}
use Rattle.expressions.specs.declared.token.Token.{Token}
use Rattle.expressions.specs.declared.token.Token.TheVariants.{Plus, Minus, Times, Open, Close}
use Rattle.expressions.specs.declared.token.Token.TheVariants.{Comma, Digits, Word}

-- the one fault that may come at any time
abbrev pub is_memory : ExprFault → Bool
is_memory NoMemory = true
is_memory Syntax = false

-- `+`, `-`, `*`, `(`, `)` or `,`
abbrev pub is_sign : ℕ → Bool
is_sign b =
    b == plus_sign || b == minus_sign || b == times_sign || b == open_bracket || b == close_bracket
    || b == comma

-- a sign between two blanks, and any other byte as it is
abbrev pub apart : ℕ → List ℕ
apart b = if is_sign b then space ∷ b ∷ space ∷ [] else b ∷ []

-- words with a blank after each, and their signs between blanks
abbrev pub spread : List (List ℕ) → List ℕ
spread ws = flat_map (λ w. flat_map apart w ++ space ∷ []) ws

abbrev pub digits_from : ℕ → Option ℕ → Result Token ExprFault
digits_from len (Some n) = Ok (Digits (min n PAST) len)
digits_from len None = Err Syntax

unfoldable pub digits : List ℕ → Result Token ExprFault
digits w = digits_from (length w) (number_of w)

unfoldable pub word : List ℕ → Result Token ExprFault
word w = if is_name w then Ok (Word w) else digits w

-- A sign, a name, or digits, of which the value and the length count; the value of digits past all
-- limits is one number.
unfoldable pub token : List ℕ → Result Token ExprFault
token w =
    if bytes_eq w (codes "+") then Ok Plus
    else if bytes_eq w (codes "-") then Ok Minus
    else if bytes_eq w (codes "*") then Ok Times
    else if bytes_eq w (codes "(") then Ok Open
    else if bytes_eq w (codes ")") then Ok Close
    else if bytes_eq w (codes ",") then Ok Comma
    else word w

-- The tokens of the text that words spell. Signs need no blanks about them.
unfoldable pub tokens_of : List (List ℕ) → Result (List Token) ExprFault
tokens_of ws = read_each token (words (spread ws))
