-- The written form of a part is read as that part.
use Rattle.std.proofs.Common.{◌≡◌, ℕ, ◌+◌, ◌<◌, ◌≤◌, ◌^◌, ◌%◌, ◌/◌, Bool, true, false, List, [], ◌∷◌, ◌++◌, length, Some, Ok, refl, sym, ap, ◌∙◌, arith, length-append, get_or}
use Rattle.std.specs.Prelude.{All, nat_lt, nat_le, min, ◌==◌, codes}
use Rattle.std.specs.List.{list_all}
use Rattle.std.specs.Char.{is_ascii_digit}
use Rattle.std.specs.Fmt.{decimal}
use Rattle.std.proofs.lemmas.Bool.{ne_eqb}
use Rattle.std.proofs.lemmas.Bool.Decides.{nat_tests}
use Rattle.std.proofs.lemmas.List.Folds.{list_all_at}
use Rattle.std.proofs.lemmas.Fmt.{decimal_is_IsNumeral, decimal_by_steps}
use Rattle.preorder.specs.Name.{is_name, is_name_byte}
use Rattle.reading.specs.Reading.{◌>>=◌, read_each}
use Rattle.reading.specs.Words.{words, is_blank, number_of}
use Rattle.reading.proofs.Spelling.{words-word}
use Rattle.reading.specs.declared.words.TheConstants.{PAST}
use Rattle.expressions.specs.declared.tree.Expr.{Expr}
use Rattle.expressions.specs.Tokens.{tokens_of}
use Rattle.expressions.specs.Reading.{expr_of, tree_of, expr_at, term_at, factor_at}
use Rattle.expressions.specs.Written.{written, nesting}
use Rattle.reading.proofs.Truth.{both, refuted}
use Rattle.expressions.proofs.Spelled.{all_more, name_parts}
use Rattle.expressions.proofs.Texts.{is_read}
use Rattle.expressions.proofs.WrittenLaw.{written_is_text}
use Rattle.expressions.specs.declared.limits.TheConstants.{MAX_BRACKETS, MAX_LINE}
use Rattle.rule_language.specs.declared.limits.TheConstants.{MAX_WEIGHT}
use Rattle.rule_language.specs.declared.part.Part.{Part}
use Rattle.rule_language.specs.Parts.{without_zeros, kind_of, part_text, part_fits, IsPart}
use Rattle.rule_language.specs.declared.book.Book.{Book}
use Rattle.rule_language.specs.Books.{part_of, book_words, part_line, add_part, add_named, named_rule}
use Rattle.rule_language.specs.LineFiles.{by_words}

-- ---- numbers in decimal

abbrev pub NoZeroFirst : List ℕ → Type 0
NoZeroFirst [] = ⊥
NoZeroFirst (b ∷ ds) = (b == 48) ≡ false

record IsDecimal (n : ℕ) (ds : List ℕ) : Type 0 where
  all : list_all is_ascii_digit ds ≡ true
  some : 0 < length ds
  first : 1 ≤ n → NoZeroFirst ds

one : (n : ℕ) → n < 10 → IsDecimal n ((48 + n) ∷ [])
one n h = record { all = grind (arith, nat_tests); some = omega arith; first = λ k. ne_eqb (48 + n) 48 (omega arith) }

first_more : (ds : List ℕ) (b : ℕ) → NoZeroFirst ds → NoZeroFirst (ds ++ b ∷ [])
first_more [] b h = absurd h
first_more (d ∷ ds) b h = h

more : (n : ℕ) (ds : List ℕ) → 10 ≤ n → IsDecimal (n / 10) ds → IsDecimal n (ds ++ (48 + n % 10) ∷ [])
more n ds h d =
    let small : n % 10 < 10 = omega arith in
    let digit : is_ascii_digit (48 + n % 10) ≡ true = (both (is_ascii_digit (48 + n % 10)) true (one (n % 10) small).all).0 in
    record { all = all_more is_ascii_digit ds (48 + n % 10) d.all digit; some = omega (arith, length-append ds ((48 + n % 10) ∷ [])); first = λ k. first_more ds (48 + n % 10) (d.first (omega arith)) }

decimal_is : (n : ℕ) → n < 2 ^ 64 → IsDecimal n (decimal n)
decimal_is = decimal_by_steps IsDecimal one more

pub kept : (ds : List ℕ) → NoZeroFirst ds → without_zeros ds ≡ ds
unfolding without_zeros
kept [] h = absurd h
kept (b ∷ ds) h = let some : nat_lt 0 (length (b ∷ ds)) ≡ true = grind (arith, nat_tests) in rw (h, some) refl

-- a weight is written without zeros before it, and read as itself
weight_kept : (w : ℕ) → 1 ≤ w → w ≤ MAX_WEIGHT → without_zeros (decimal w) ≡ decimal w
weight_kept w low high = kept (decimal w) ((decimal_is w (omega arith)).first low)

weight_read : (w : ℕ) → w ≤ MAX_WEIGHT → number_of (decimal w) ≡ Some w
unfolding number_of
weight_read w high =
    let d = decimal_is w (omega arith) in
    let filled = ne_eqb (length (decimal w)) 0 (omega (arith, d.some)) in
    rw (filled, d.all, (decimal_is_IsNumeral w (omega arith)).1) refl

deep_enough : (name : List ℕ) (part : Part) → part_fits part.at_end name (decimal part.weight) part.expr ≡ true → nesting part.expr ≤ MAX_BRACKETS
unfolding part_fits
deep_enough name part e =
    let k = both (nat_le (length (part_text part.at_end name (decimal part.weight) part.expr)) MAX_LINE) (nat_le (nesting part.expr) MAX_BRACKETS) e in
    grind (arith, nat_tests, k.1)

read_again : (name : List ℕ) (part : Part) → IsPart name part → expr_of (words (written part.expr)) ≡ Ok part.expr
read_again name part is = is_read (words (written part.expr)) part.expr (written_is_text part.expr is.well_formed (deep_enough name part is.fits))

pub part_again : (n : ℕ) (name : List ℕ) (part : Part) → is_name name ≡ true → IsPart name part → part_of n part.at_end name (decimal part.weight) (words (written part.expr)) ≡ Ok part
unfolding part_of
part_again n name part named is =
    let read = read_again name part is in
    let weight : min part.weight PAST ≡ part.weight = omega (arith, is.weight) in
    rw (named, weight_read part.weight is.weight, read, weight_kept part.weight is.weighs is.weight, is.fits, weight) refl

-- ---- the line of a part, as its words

no_blank : (b : ℕ) → is_name_byte b ≡ true → is_blank b ≡ false
no_blank b h = refuted (is_blank b) (λ s. grind (arith, nat_tests))

byte_at : (w : List ℕ) (i d : ℕ) (t : Bool) → i < length w → is_name_byte (get_or w i d) ≡ t → list_all is_name_byte w ≡ true → is_name_byte (get_or w i d) ≡ true
byte_at w i d true lt e all = e
byte_at w i d false lt e all = let no : true ≡ false = sym all ∙ list_all_at is_name_byte w i d lt e in cc

pub blank_free : (w : List ℕ) → list_all is_name_byte w ≡ true → All (λ b. is_blank b ≡ false) w
blank_free w e = λ i d lt. no_blank (get_or w i d) (byte_at w i d (is_name_byte (get_or w i d)) lt refl e)

digit_bytes : (ds : List ℕ) → list_all is_ascii_digit ds ≡ true → list_all is_name_byte ds ≡ true
digit_bytes [] e = refl
digit_bytes (d ∷ ds) e =
    let k = both (is_ascii_digit d) (list_all is_ascii_digit ds) e in
    let byte : is_name_byte d ≡ true = grind (arith, nat_tests, k.0) in
    rw (byte, digit_bytes ds k.1) refl

kind_words : (at_end : Bool) (rest : List ℕ) → words (kind_of at_end ++ 32 ∷ rest) ≡ kind_of at_end ∷ words rest
kind_words true rest = words-word (codes "final") rest (blank_free (codes "final") refl) (omega arith)
kind_words false rest = words-word (codes "part") rest (blank_free (codes "part") refl) (omega arith)

pub part_words : (at_end : Bool) (name : List ℕ) (w : ℕ) (e : Expr) → is_name name ≡ true → w < 2 ^ 64
    → words (part_text at_end name (decimal w) e) ≡ kind_of at_end ∷ name ∷ decimal w ∷ words (written e)
part_words at_end name w e named small =
    let d = decimal_is w small in
    let n = name_parts name named in
    kind_words at_end (name ++ (32 ∷ decimal w ++ (32 ∷ written e)))
    ∙ ap (λ (ws : List (List ℕ)). kind_of at_end ∷ ws) (words-word name (decimal w ++ (32 ∷ written e)) (blank_free name n.bytes) n.some)
    ∙ ap (λ (ws : List (List ℕ)). kind_of at_end ∷ name ∷ ws) (words-word (decimal w) (written e) (blank_free (decimal w) (digit_bytes (decimal w) d.all)) d.some)

record Filled (ws : List (List ℕ)) : Type 0 where
  first : List ℕ
  others : List (List ℕ)
  is : ws ≡ first ∷ others

-- an expression has a word
filled : (ws : List (List ℕ)) (e : Expr) → expr_of ws ≡ Ok e → Filled ws
unfolding expr_of tokens_of tree_of expr_at term_at factor_at read_each words
filled [] e h = absurd cc
filled (w ∷ ws) e h = record { first = w; others = ws; is = refl }

at_words : (n : ℕ) (at_end : Bool) (name weight word : List ℕ) (others : List (List ℕ)) (book : Book)
    → book_words n (kind_of at_end ∷ name ∷ weight ∷ word ∷ others) book ≡ part_line n at_end name weight (word ∷ others) book
unfolding book_words
at_words n true name weight word others book = refl
at_words n false name weight word others book = refl

of_part : (n : ℕ) (name : List ℕ) (part : Part) (book : Book) → is_name name ≡ true → IsPart name part
    → part_line n part.at_end name (decimal part.weight) (words (written part.expr)) book ≡ (named_rule n name book.rules >>= λ i. add_part n i part book)
unfolding part_line
of_part n name part book named is = rw (part_again n name part named is) refl

pub name_some : (name : List ℕ) → is_name name ≡ true → 0 < length name
name_some name e = (name_parts name e).some

pub name_bytes : (name : List ℕ) → is_name name ≡ true → list_all is_name_byte name ≡ true
name_bytes name e = (name_parts name e).bytes

pub decimal_bytes : (n : ℕ) → n < 2 ^ 64 → list_all is_name_byte (decimal n) ≡ true
decimal_bytes n h = digit_bytes (decimal n) (decimal_is n h).all

-- A written line of a part does what the part does to the book.
pub part_line_again : (n : ℕ) (name : List ℕ) (part : Part) (book : Book) → is_name name ≡ true → IsPart name part
    → book_words n (words (part_text part.at_end name (decimal part.weight) part.expr)) book ≡ (named_rule n name book.rules >>= λ i. add_part n i part book)
part_line_again n name part book named is =
    let e = part.expr in
    let f = filled (words (written e)) e (read_again name part is) in
    ap (λ (ws : List (List ℕ)). book_words n ws book) (part_words part.at_end name part.weight e named (omega (arith, is.weight)) ∙ ap (λ (ws : List (List ℕ)). kind_of part.at_end ∷ name ∷ decimal part.weight ∷ ws) f.is)
    ∙ at_words n part.at_end name (decimal part.weight) f.first f.others book
    ∙ ap (λ (ws : List (List ℕ)). part_line n part.at_end name (decimal part.weight) ws book) (sym f.is)
    ∙ of_part n name part book named is

-- the words of such a line are words
pub by_the_words : (n : ℕ) (name : List ℕ) (part : Part) (book : Book) → is_name name ≡ true → IsPart name part
    → by_words book_words n (words (part_text part.at_end name (decimal part.weight) part.expr)) book ≡ add_named n name part book
by_the_words n name part book named is =
    let cut = part_words part.at_end name part.weight part.expr named (omega (arith, is.weight)) in
    ap (λ (ws : List (List ℕ)). by_words book_words n ws book) cut ∙ sym (ap (λ (ws : List (List ℕ)). book_words n ws book) cut) ∙ part_line_again n name part book named is
