-- What is written is the text of the expression that it is written of.
use Rattle.std.proofs.Common.{◌≡◌, ℕ, ◌+◌, ◌<◌, ◌^◌, ◌%◌, ◌&&◌, Bool, true, false, List, [], ◌∷◌, ◌++◌, length, Result, Ok, Err, refl, sym, ap, ◌∙◌, length-append, arith}
use Rattle.std.specs.Prelude.{codes, min, slice_index, nat_lt, nat_le}
use Rattle.std.specs.Fmt.{decimal}
use Rattle.std.specs.List.{list_all}
use Rattle.std.specs.Char.{is_ascii_digit}
use Rattle.std.specs.Str.{bytes_eq}
use Rattle.std.specs.Str.Parse.{digits_value}
use Rattle.std.proofs.lemmas.Bool.Decides.{nat_tests}
use Rattle.std.proofs.lemmas.Bool.{ne_eqb}
use Rattle.std.proofs.lemmas.Fmt.{decimal_is_IsNumeral, decimal_by_steps}
use Rattle.std.proofs.lemmas.Slice.Eq.{bytes_eq-Decides}
use Rattle.preorder.specs.declared.limits.TheConstants.{MAX_NAME}
use Rattle.preorder.specs.Name.{is_name, is_name_byte, is_letter}
use Rattle.reading.specs.Reading.{◌>>=◌, read_each}
use Rattle.reading.specs.Words.{number_of, is_blank}
use Rattle.reading.specs.declared.words.TheConstants.{PAST}
use Rattle.expressions.specs.declared.limits.TheConstants.{MAX_ARGUMENT_DIGITS}
use Rattle.expressions.specs.declared.token.Token.{Token}
use Rattle.expressions.specs.declared.token.Token.TheVariants.{Plus, Minus, Times, Open, Close, Comma, Digits, Word}
use Rattle.expressions.specs.Tokens.{is_sign, digits, word, token}
use Rattle.expressions.proofs.Lexemes.{lexemes, lexemes-nil, lexemes-blank, lexemes-sign, lexemes-word}
use Rattle.reading.proofs.Truth.{both, refuted}

-- the tokens of a text
pub record Lexes (text : List ℕ) (ts : List Token) : Type 0 where
  pub are : read_each token (lexemes text) ≡ Ok ts

read_cons : {Y F : Type 0} (r : Result Y F) (s t : Result (List Y) F) (a b : List Y) → (r >>= λ y. s >>= λ ys. Ok (y ∷ ys)) ≡ Ok a → ((c : List Y) → s ≡ Ok c → t ≡ Ok (c ++ b)) → (r >>= λ y. t >>= λ ys. Ok (y ∷ ys)) ≡ Ok (a ++ b)
read_cons (Ok y) (Ok ys) t a b e again = let all : y ∷ ys ≡ a = cc in rw (again ys refl, ← all) refl
read_cons (Ok y) (Err f) t a b e again = absurd cc
read_cons (Err f) s t a b e again = absurd cc

read_both : {X Y F : Type 0} (f : X → Result Y F) (xs ys : List X) (a b : List Y) → read_each f xs ≡ Ok a → read_each f ys ≡ Ok b → read_each f (xs ++ ys) ≡ Ok (a ++ b)
unfolding read_each
read_both f [] ys a b e h = let none : [] ≡ a = cc in rw (← none) h
read_both f (x ∷ xs) ys a b e h = read_cons (f x) (read_each f xs) (read_each f (xs ++ ys)) a b e (λ c k. read_both f xs ys c b k h)

pub no_text : Lexes [] []
unfolding read_each
no_text = record { are = rw lexemes-nil refl }

pub at_blank : (x y : List ℕ) (ts us : List Token) → Lexes x ts → Lexes y us → Lexes (x ++ 32 ∷ y) (ts ++ us)
at_blank x y ts us p q = record { are = ap (read_each token) (lexemes-blank x y) ∙ read_both token (lexemes x) (lexemes y) ts us p.are q.are }

pub at_sign : (x y : List ℕ) (ts us : List Token) (b : ℕ) (t : Token) → is_sign b ≡ true → is_blank b ≡ false → token (b ∷ []) ≡ Ok t → Lexes x ts → Lexes y us → Lexes (x ++ b ∷ y) (ts ++ t ∷ us)
unfolding read_each
at_sign x y ts us b t e f s p q =
    let first : read_each token ((b ∷ []) ∷ lexemes y) ≡ Ok (t ∷ us) = rw (s, q.are) refl in
    record { are = ap (read_each token) (lexemes-sign x y b e f) ∙ read_both token (lexemes x) ((b ∷ []) ∷ lexemes y) ts (t ∷ us) p.are first }

pub one_lexeme : (w : List ℕ) (t : Token) → list_all is_name_byte w ≡ true → 0 < length w → token w ≡ Ok t → Lexes w (t ∷ [])
unfolding read_each
one_lexeme w t plain some e = record { are = rw (lexemes-word w plain some, e) refl }

-- the signs
pub plus_is : token (codes "+") ≡ Ok Plus
unfolding token
plus_is = refl

pub minus_is : token (codes "-") ≡ Ok Minus
unfolding token
minus_is = refl

pub times_is : token (codes "*") ≡ Ok Times
unfolding token
times_is = refl

pub open_is : token (codes "(") ≡ Ok Open
unfolding token
open_is = refl

pub close_is : token (codes ")") ≡ Ok Close
unfolding token
close_is = refl

pub comma_is : token (codes ",") ≡ Ok Comma
unfolding token
comma_is = refl

-- what passes a test differs from what does not
differs : (p : List ℕ → Bool) (w v : List ℕ) → p w ≡ true → p v ≡ false → bytes_eq w v ≡ false
differs p w v e f = refuted (bytes_eq w v) (λ s.
    let same : w ≡ v = (bytes_eq-Decides w v).0 s in
    let no : true ≡ false = sym e ∙ ap p same ∙ f in cc)

pub record NameParts (name : List ℕ) : Type 0 where
  pub some : 0 < length name
  pub letter : is_letter (slice_index name 0) ≡ true
  pub bytes : list_all is_name_byte name ≡ true

four : (a b c d : Bool) → (a && (b && (c && d))) ≡ true → (a ≡ true) × (c ≡ true) × (d ≡ true)
four true true true true e = (refl, refl, refl)
four true true true false e = absurd cc
four true true false d e = absurd cc
four true false c d e = absurd cc
four false b c d e = absurd cc

pub name_parts : (name : List ℕ) → is_name name ≡ true → NameParts name
unfolding is_name
name_parts name e =
    let p = four (nat_lt 0 (length name)) (nat_le (length name) MAX_NAME) (is_letter (slice_index name 0)) (list_all is_name_byte name) e in
    record { some = grind (arith, nat_tests, p.0); letter = p.1; bytes = p.2 }

name_token : (name : List ℕ) → is_name name ≡ true → token name ≡ Ok (Word name)
unfolding token word is_name
name_token name e =
    let plus = differs is_name name (codes "+") e refl in
    let minus = differs is_name name (codes "-") e refl in
    let times = differs is_name name (codes "*") e refl in
    let opens = differs is_name name (codes "(") e refl in
    let closes = differs is_name name (codes ")") e refl in
    let comma = differs is_name name (codes ",") e refl in
    rw (plus, minus, times, opens, closes, comma, e) refl

pub name_lexes : (name : List ℕ) → is_name name ≡ true → Lexes name (Word name ∷ [])
name_lexes name e = let n = name_parts name e in one_lexeme name (Word name) n.bytes n.some (name_token name e)

-- digits
record AreDigits (ds : List ℕ) : Type 0 where
  all : list_all is_ascii_digit ds ≡ true
  bytes : list_all is_name_byte ds ≡ true
  some : 0 < length ds

one_digit : (n : ℕ) → n < 10 → AreDigits ((48 + n) ∷ [])
one_digit n h = record { all = grind (arith, nat_tests); bytes = grind (arith, nat_tests); some = omega arith }

pub all_more : (p : ℕ → Bool) (xs : List ℕ) (b : ℕ) → list_all p xs ≡ true → p b ≡ true → list_all p (xs ++ b ∷ []) ≡ true
all_more p [] b e f = rw f refl
all_more p (x ∷ xs) b e f = let k = both (p x) (list_all p xs) e in rw (k.0, all_more p xs b k.1 f) refl

digit_more : (ds : List ℕ) (n : ℕ) → n < 10 → AreDigits ds → AreDigits (ds ++ (48 + n) ∷ [])
digit_more ds n h d =
    let one = one_digit n h in
    record { all = all_more is_ascii_digit ds (48 + n) d.all (both (is_ascii_digit (48 + n)) true one.all).0; bytes = all_more is_name_byte ds (48 + n) d.bytes (both (is_name_byte (48 + n)) true one.bytes).0; some = omega (arith, length-append ds ((48 + n) ∷ [])) }

decimal_digits : (n : ℕ) → n < 2 ^ 64 → AreDigits (decimal n)
decimal_digits = decimal_by_steps (λ n ds. AreDigits ds) one_digit (λ n ds h d. digit_more ds (n % 10) (omega arith) d)

no_name : (ds : List ℕ) → AreDigits ds → is_name ds ≡ false
no_name ds d = refuted (is_name ds) (λ e. first_is_digit ds d.all d.some (name_parts ds e).letter) where
  first_is_digit : (w : List ℕ) → list_all is_ascii_digit w ≡ true → 0 < length w → is_letter (slice_index w 0) ≡ true → ⊥
  first_is_digit [] all some letter = omega arith
  first_is_digit (b ∷ w) all some letter = let digit = (both (is_ascii_digit b) (list_all is_ascii_digit w) all).0 in grind (arith, nat_tests, digit, letter)

digits_token : (ds : List ℕ) (n : ℕ) → AreDigits ds → digits_value 10 ds ≡ n → n < 10 ^ MAX_ARGUMENT_DIGITS → token ds ≡ Ok (Digits n (length ds))
unfolding token word digits number_of
digits_token ds n d value few =
    let plus = differs (list_all is_ascii_digit) ds (codes "+") d.all refl in
    let minus = differs (list_all is_ascii_digit) ds (codes "-") d.all refl in
    let times = differs (list_all is_ascii_digit) ds (codes "*") d.all refl in
    let opens = differs (list_all is_ascii_digit) ds (codes "(") d.all refl in
    let closes = differs (list_all is_ascii_digit) ds (codes ")") d.all refl in
    let comma = differs (list_all is_ascii_digit) ds (codes ",") d.all refl in
    let filled = ne_eqb (length ds) 0 (omega arith) in
    let small : min n PAST ≡ n = omega arith in
    rw (plus, minus, times, opens, closes, comma, no_name ds d, filled, d.all, value, small) refl

pub decimal_lexes : (n : ℕ) → n < 10 ^ MAX_ARGUMENT_DIGITS → Lexes (decimal n) (Digits n (length (decimal n)) ∷ [])
decimal_lexes n h =
    let d = decimal_digits n (omega arith) in
    one_lexeme (decimal n) (Digits n (length (decimal n))) d.bytes d.some (digits_token (decimal n) n d (decimal_is_IsNumeral n (omega arith)).1 (omega arith))
