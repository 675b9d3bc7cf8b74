-- The lexemes of a text: its words, where signs stand apart. How they come together from those of its parts.
use Rattle.std.proofs.Common.{◌≡◌, ℕ, ◌<◌, Bool, true, false, cond, List, [], ◌∷◌, ◌++◌, length, filter, refl, sym, ap, ◌∙◌, append_assoc, arith}
use Rattle.std.specs.Prelude.{All}
use Rattle.std.specs.List.{flat_map, slice_split, onto_first, list_all}
use Rattle.std.proofs.lemmas.Bool.{ne_eqb}
use Rattle.std.proofs.lemmas.Bool.Decides.{nat_tests}
use Rattle.preorder.specs.Name.{is_name_byte}
use Rattle.std.proofs.lemmas.Grind.{flat_map-append}
use Rattle.std.proofs.lemmas.List.{append-nil}
use Rattle.std.proofs.lemmas.List.Elements.{filter-append, All-push}
use Rattle.std.proofs.lemmas.List.Splits.{length-slice_split}
use Rattle.reading.specs.Words.{words, is_blank, is_word}
use Rattle.reading.proofs.Spelling.{words-last}
use Rattle.reading.proofs.Truth.{both, refuted}
use Rattle.expressions.specs.Tokens.{is_sign, apart, spread}

onto_more : (b : ℕ) (parts more : List (List ℕ)) → 0 < length parts → onto_first b (parts ++ more) ≡ onto_first b parts ++ more
onto_more b [] more h = absurd (omega arith)
onto_more b (part ∷ parts) more h = refl

split_append : (p : ℕ → Bool) (x : List ℕ) (b : ℕ) (y : List ℕ) → p b ≡ true → slice_split p (x ++ b ∷ y) ≡ slice_split p x ++ slice_split p y
split_append p [] b y e = rw e refl
split_append p (c ∷ x) b y e = rw (split_append p x b y e) (at (p c)) where
  at : (t : Bool) → cond t ([] ∷ (slice_split p x ++ slice_split p y)) (onto_first c (slice_split p x ++ slice_split p y)) ≡ cond t ([] ∷ slice_split p x) (onto_first c (slice_split p x)) ++ slice_split p y
  at true = refl
  at false = onto_more c (slice_split p x) (slice_split p y) (omega (arith, length-slice_split p x))

-- a blank stands between words
pub words_append : (x : List ℕ) (b : ℕ) (y : List ℕ) → is_blank b ≡ true → words (x ++ b ∷ y) ≡ words x ++ words y
unfolding words
words_append x b y e = ap (λ (parts : List (List ℕ)). filter is_word parts) (split_append is_blank x b y e) ∙ filter-append is_word (slice_split is_blank x) (slice_split is_blank y)

pub lexemes : List ℕ → List (List ℕ)
lexemes text = words (flat_map apart text)

sign_apart : (b : ℕ) → is_sign b ≡ true → apart b ≡ 32 ∷ b ∷ 32 ∷ []
sign_apart b e = rw e refl

other_apart : (b : ℕ) → is_sign b ≡ false → apart b ≡ b ∷ []
other_apart b e = rw e refl

pub lexemes-nil : lexemes [] ≡ []
unfolding lexemes words
lexemes-nil = refl

-- a blank stands between lexemes
pub lexemes-blank : (x y : List ℕ) → lexemes (x ++ 32 ∷ y) ≡ lexemes x ++ lexemes y
unfolding lexemes
lexemes-blank x y = ap words (flat_map-append apart x (32 ∷ y)) ∙ words_append (flat_map apart x) 32 (flat_map apart y) refl

-- a sign is a lexeme
pub lexemes-sign : (x y : List ℕ) (b : ℕ) → is_sign b ≡ true → is_blank b ≡ false → lexemes (x ++ b ∷ y) ≡ lexemes x ++ (b ∷ []) ∷ lexemes y
unfolding lexemes
lexemes-sign x y b e f =
    let spread_out : flat_map apart (x ++ b ∷ y) ≡ flat_map apart x ++ 32 ∷ ((b ∷ []) ++ 32 ∷ flat_map apart y) =
    flat_map-append apart x (b ∷ y) ∙ ap (λ (z : List ℕ). flat_map apart x ++ (z ++ flat_map apart y)) (sign_apart b e) in
    ap words spread_out ∙ words_append (flat_map apart x) 32 ((b ∷ []) ++ 32 ∷ flat_map apart y) refl
    ∙ ap (λ (ws : List (List ℕ)). words (flat_map apart x) ++ ws) (words_append (b ∷ []) 32 (flat_map apart y) refl ∙ ap (λ (ws : List (List ℕ)). ws ++ words (flat_map apart y)) (words-last (b ∷ []) (one f) (omega arith))) where
      one : is_blank b ≡ false → All (λ c. is_blank c ≡ false) (b ∷ [])
      one h = All-push (λ c. is_blank c ≡ false) [] b (λ k d lt. absurd (omega arith)) h

-- a byte of a name or of digits is no sign and no blank
record Plain (b : ℕ) : Type 0 where
  sign : is_sign b ≡ false
  blank : is_blank b ≡ false

plain : (b : ℕ) → is_name_byte b ≡ true → Plain b
plain b e = record { sign = refuted (is_sign b) (λ s. grind (arith, nat_tests)); blank = refuted (is_blank b) (λ s. grind (arith, nat_tests)) }

plain_apart : (w : List ℕ) → list_all is_name_byte w ≡ true → flat_map apart w ≡ w
plain_apart [] h = refl
plain_apart (b ∷ w) h =
    let k = both (is_name_byte b) (list_all is_name_byte w) h in
    rw (other_apart b (plain b k.0).sign, plain_apart w k.1) refl

plain_split : (w : List ℕ) → list_all is_name_byte w ≡ true → slice_split is_blank w ≡ w ∷ []
plain_split [] h = refl
plain_split (b ∷ w) h =
    let k = both (is_name_byte b) (list_all is_name_byte w) h in
    rw ((plain b k.0).blank, plain_split w k.1) refl

-- a name or digits are a lexeme
pub lexemes-word : (w : List ℕ) → list_all is_name_byte w ≡ true → 0 < length w → lexemes w ≡ w ∷ []
unfolding lexemes words
lexemes-word w e some = rw (plain_apart w e, plain_split w e, ne_eqb (length w) 0 (omega arith)) refl

-- words with blanks after them have the lexemes of each
spread_lexemes : (ws : List (List ℕ)) → words (spread ws) ≡ flat_map lexemes ws
unfolding lexemes words
spread_lexemes [] = refl
spread_lexemes (w ∷ ws) = next (spread_lexemes ws) where
  next : words (spread ws) ≡ flat_map lexemes ws → words ((flat_map apart w ++ 32 ∷ []) ++ spread ws) ≡ lexemes w ++ flat_map lexemes ws
  next h = ap words (append_assoc (flat_map apart w) (32 ∷ []) (spread ws)) ∙ words_append (flat_map apart w) 32 (spread ws) refl ∙ ap (λ (xs : List (List ℕ)). lexemes w ++ xs) h

blank_apart : (b : ℕ) → is_blank b ≡ true → is_sign b ≡ false
blank_apart b e = refuted (is_sign b) (λ s. grind (arith, nat_tests))

at_blank : (x y : List ℕ) (b : ℕ) → is_blank b ≡ true → lexemes (x ++ b ∷ y) ≡ lexemes x ++ lexemes y
unfolding lexemes
at_blank x y b e =
    let out : flat_map apart (x ++ b ∷ y) ≡ flat_map apart x ++ b ∷ flat_map apart y =
    flat_map-append apart x (b ∷ y) ∙ ap (λ (z : List ℕ). flat_map apart x ++ (z ++ flat_map apart y)) (other_apart b (blank_apart b e)) in
    ap words out ∙ words_append (flat_map apart x) b (flat_map apart y) e

abbrev NoBlank : List ℕ → Type 0
NoBlank [] = Unit {0}
NoBlank (c ∷ w) = (is_blank c ≡ false) × NoBlank w

NoBlank-more : (w : List ℕ) (b : ℕ) → NoBlank w → is_blank b ≡ false → NoBlank (w ++ b ∷ [])
NoBlank-more [] b h e = (e, tt)
NoBlank-more (c ∷ w) b h e = (h.0, NoBlank-more w b h.1 e)

NoBlank-split : (w : List ℕ) → NoBlank w → slice_split is_blank w ≡ w ∷ []
NoBlank-split [] h = refl
NoBlank-split (c ∷ w) h = rw (h.0, NoBlank-split w h.1) refl

of_one : (w : List ℕ) → NoBlank w → flat_map lexemes (words w) ≡ lexemes w
unfolding words
of_one [] h = sym lexemes-nil
of_one (c ∷ w) h = rw (NoBlank-split (c ∷ w) h, ne_eqb (length (c ∷ w)) 0 (omega arith)) (append-nil (lexemes (c ∷ w)))

joined : (x y : List ℕ) (b : ℕ) → is_blank b ≡ true → flat_map lexemes (words x) ≡ lexemes x → flat_map lexemes (words y) ≡ lexemes y → flat_map lexemes (words (x ++ b ∷ y)) ≡ lexemes (x ++ b ∷ y)
joined x y b e p q =
    let both_sides : flat_map lexemes (words x) ++ flat_map lexemes (words y) ≡ lexemes x ++ lexemes y = cc in
    ap (flat_map lexemes) (words_append x b y e) ∙ flat_map-append lexemes (words x) (words y) ∙ both_sides ∙ sym (at_blank x y b e)

step : (passed : List ℕ) (b : ℕ) (text : List ℕ) (t : Bool) → is_blank b ≡ t → NoBlank passed → flat_map lexemes (words text) ≡ lexemes text
    → (NoBlank (passed ++ b ∷ []) → flat_map lexemes (words ((passed ++ b ∷ []) ++ text)) ≡ lexemes ((passed ++ b ∷ []) ++ text))
    → flat_map lexemes (words (passed ++ b ∷ text)) ≡ lexemes (passed ++ b ∷ text)
step passed b text true e h rest on = joined passed text b e (of_one passed h) rest
step passed b text false e h rest on =
    let same : (passed ++ b ∷ []) ++ text ≡ passed ++ b ∷ text = append_assoc passed (b ∷ []) text in
    let whole : flat_map lexemes (words ((passed ++ b ∷ []) ++ text)) ≡ lexemes ((passed ++ b ∷ []) ++ text) = on (NoBlank-more passed b h e) in
    sym (ap (λ (z : List ℕ). flat_map lexemes (words z)) same) ∙ whole ∙ ap lexemes same

-- of what was passed without a blank, and the rest
of_rest : (passed text : List ℕ) → NoBlank passed → flat_map lexemes (words (passed ++ text)) ≡ lexemes (passed ++ text)
of_rest passed [] h = ap (λ (z : List ℕ). flat_map lexemes (words z)) (append-nil passed) ∙ of_one passed h ∙ ap lexemes (sym (append-nil passed))
of_rest passed (b ∷ text) h = step passed b text (is_blank b) refl h (of_rest [] text tt) (λ k. of_rest (passed ++ b ∷ []) text k)

-- the lexemes of a text are those of its words
pub lexemes_of_words : (text : List ℕ) → words (spread (words text)) ≡ lexemes text
lexemes_of_words text = spread_lexemes (words text) ∙ of_rest [] text tt
