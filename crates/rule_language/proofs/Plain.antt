-- A written line has no comment, no end of a line and no carriage return: it is read whole.
use Rattle.std.proofs.Common.{◌≡◌, ℕ, zero, suc, ◌-◌, ◌<◌, ◌≤◌, ◌^◌, ◌&&◌, ◌||◌, Bool, true, false, not, pos, negsuc, List, [], ◌∷◌, ◌++◌, length, get_or, Some, None, refl, sym, ◌∙◌, subst, arith}
use Rattle.std.specs.Prelude.{nat_lt, nat_le, ◌==◌, codes}
use Rattle.std.specs.List.{list_all, position_or_len}
use Rattle.std.specs.Fmt.{decimal}
use Rattle.std.specs.Str.Lines.{strip_carriage_return}
use Rattle.std.proofs.lemmas.Bool.Decides.{nat_tests}
use Rattle.std.proofs.lemmas.List.{take_all}
use Rattle.std.proofs.lemmas.List.Folds.{list_all-append}
use Rattle.preorder.specs.Name.{is_name, is_name_byte}
use Rattle.reading.specs.Lines.{is_feed, lines_of}
use Rattle.reading.proofs.Spelling.{lines_of-line}
use Rattle.expressions.specs.Tokens.{is_sign}
use Rattle.expressions.specs.declared.tree.Argument.TheVariants.{Named, Number}
use Rattle.expressions.specs.declared.tree.Expr.{Expr}
use Rattle.expressions.specs.declared.tree.Expr.TheViews.{roll-Expr}
use Rattle.expressions.specs.declared.tree.Expr.TheOpen.{Expr-F}
use Rattle.expressions.specs.declared.tree.Expr.TheFolds.{fold-roll-Expr, ind-Expr, map-Expr}
use Rattle.reading.proofs.Truth.{both, refuted}
use Rattle.expressions.specs.Grammar.{is_reserved}
use Rattle.expressions.specs.declared.limits.TheConstants.{MAX_CONSTANT, MAX_DIVISOR, MAX_ARGUMENT_DIGITS}
use Rattle.expressions.specs.Written.{call, listed, signed, written, written_step, is_from_to, is_feature, is_well_formed, well_formed_step}
use Rattle.rule_language.specs.Bytes.{is_hash}
use Rattle.rule_language.specs.LineFiles.{content}
use Rattle.rule_language.specs.Parts.{kind_of, part_text}
use Rattle.rule_language.proofs.PartLaw.{name_bytes, decimal_bytes}

abbrev pub is_text_byte : ℕ → Bool
is_text_byte b = is_name_byte b || (is_sign b || b == 32)

-- a text of names, digits, signs and spaces
pub record IsText (text : List ℕ) : Type 0 where
  pub all : list_all is_text_byte text ≡ true

-- ---- what stands in none of them

abbrev NoneOf : (ℕ → Bool) → List ℕ → Type 0
NoneOf p [] = Unit {0}
NoneOf p (b ∷ bs) = (p b ≡ false) × NoneOf p bs

none_of : (p : ℕ → Bool) → ((b : ℕ) → is_text_byte b ≡ true → p b ≡ false) → (text : List ℕ) → list_all is_text_byte text ≡ true → NoneOf p text
none_of p other [] e = tt
none_of p other (b ∷ bs) e = let k = both (is_text_byte b) (list_all is_text_byte bs) e in (other b k.0, none_of p other bs k.1)

no_hash : (b : ℕ) → is_text_byte b ≡ true → is_hash b ≡ false
no_hash b h = refuted (is_hash b) (λ s. grind (arith, nat_tests))

no_feed : (b : ℕ) → is_text_byte b ≡ true → is_feed b ≡ false
no_feed b h = refuted (is_feed b) (λ s. grind (arith, nat_tests))

no_return : (b : ℕ) → is_text_byte b ≡ true → (b == 13) ≡ false
no_return b h = refuted (b == 13) (λ s. grind (arith, nat_tests))

no_place : (p : ℕ → Bool) (text : List ℕ) → NoneOf p text → position_or_len p text ≡ length text
no_place p [] h = refl
no_place p (b ∷ bs) h = let again = no_place p bs h.1 in rw h.0 (omega (arith, again))

pub content_of : (text : List ℕ) → IsText text → content text ≡ text
unfolding content
content_of text is = let place = no_place is_hash text (none_of is_hash no_hash text is.all) in take_all (position_or_len is_hash text) text (omega (arith, place))

some_at : (p : ℕ → Bool) (text : List ℕ) → NoneOf p text → (i d : ℕ) → i < length text → p (get_or text i d) ≡ true → ⊥
some_at p [] h i d lt e = omega arith
some_at p (b ∷ bs) h zero d lt e = let no : true ≡ false = sym e ∙ h.0 in cc
some_at p (b ∷ bs) h (suc i) d lt e = some_at p bs h.1 i d (omega arith) e

at_each : (p : ℕ → Bool) (text : List ℕ) → NoneOf p text → (i d : ℕ) → i < length text → p (get_or text i d) ≡ false
at_each p text h i d lt = decided (p (get_or text i d)) refl where
  decided : (t : Bool) → p (get_or text i d) ≡ t → p (get_or text i d) ≡ false
  decided false e = e
  decided true e = absurd (some_at p text h i d lt e)

pub line_of : (text rest : List ℕ) → IsText text → lines_of (text ++ 10 ∷ rest) ≡ text ∷ lines_of rest
line_of text rest is = lines_of-line text rest (λ i d lt. at_each is_feed text (none_of is_feed no_feed text is.all) i d lt) (no_end text is.all) where
  no_end : (l : List ℕ) → list_all is_text_byte l ≡ true → strip_carriage_return l ≡ l
  no_end [] e = refl
  no_end (b ∷ bs) e = rw (at_each (λ c. c == 13) (b ∷ bs) (none_of (λ c. c == 13) no_return (b ∷ bs) e) (length (b ∷ bs) - 1) 0 (omega arith)) refl

-- ---- texts put together

pub no_bytes : IsText []
no_bytes = record { all = refl }

pub text_byte : (b : ℕ) (text : List ℕ) → is_text_byte b ≡ true → IsText text → IsText (b ∷ text)
text_byte b text e is = record { all = rw (e, is.all) refl }

pub text_then : (x y : List ℕ) → IsText x → IsText y → IsText (x ++ y)
text_then x y p q = record { all = rw (list_all-append is_text_byte x y, p.all, q.all) refl }

byte_is : (b : ℕ) → is_name_byte b ≡ true → is_text_byte b ≡ true
byte_is b e = rw e refl

bytes_are : (w : List ℕ) → list_all is_name_byte w ≡ true → list_all is_text_byte w ≡ true
bytes_are [] e = refl
bytes_are (b ∷ w) e = let k = both (is_name_byte b) (list_all is_name_byte w) e in rw (byte_is b k.0, bytes_are w k.1) refl

pub text_name : (name : List ℕ) → is_name name ≡ true → IsText name
text_name name e = record { all = bytes_are name (name_bytes name e) }

pub text_decimal : (n : ℕ) → n < 2 ^ 64 → IsText (decimal n)
text_decimal n h = record { all = bytes_are (decimal n) (decimal_bytes n h) }

text_call : (name inner : List ℕ) → IsText name → IsText inner → IsText (call name inner)
text_call name inner p q = text_then name (40 ∷ (inner ++ 41 ∷ [])) p (text_byte 40 (inner ++ 41 ∷ []) refl (text_then inner (41 ∷ []) q (text_byte 41 [] refl no_bytes)))

text_list : (x y : List ℕ) → IsText x → IsText y → IsText (listed x y)
text_list x y p q = text_then x (44 ∷ 32 ∷ y) p (text_byte 44 (32 ∷ y) refl (text_byte 32 y refl q))

text_signed : (sign : ℕ) (x y : List ℕ) → is_text_byte sign ≡ true → IsText x → IsText y → IsText (signed sign x y)
text_signed sign x y e p q = text_then x (32 ∷ sign ∷ 32 ∷ y) p (text_byte 32 (sign ∷ 32 ∷ y) refl (text_byte sign (32 ∷ y) e (text_byte 32 y refl q)))

pub text_codes : (w : List ℕ) → list_all is_text_byte w ≡ true → IsText w
text_codes w e = record { all = e }

-- ---- an induction over expressions

Holds : Expr → Type 0
Holds a = is_well_formed a ≡ true → IsText (written a)

LayerHolds : Expr-F Expr → Type 0
LayerHolds x = well_formed_step (map-Expr Expr Bool is_well_formed x) ≡ true → IsText (written_step (map-Expr Expr (List ℕ) written x))

settled : (x : Expr-F Expr) → LayerHolds x → Holds (roll-Expr x)
unfolding Holds LayerHolds
settled x h good =
    let f : well_formed_step (map-Expr Expr Bool is_well_formed x) ≡ true = sym (fold-roll-Expr Bool well_formed_step x) ∙ good in
    rw (fold-roll-Expr (List ℕ) written_step x) (h f)

layer : (x : Expr-F ((a : Expr) × Holds a)) → LayerHolds (map-Expr ((a : Expr) × Holds a) Expr (λ p. p.0) x)
unfolding Holds LayerHolds
layer (Expr-F.Const (pos n)) good = let t = both (nat_le 0 n) (nat_le n MAX_CONSTANT) good in let high : n ≤ MAX_CONSTANT = grind (arith, nat_tests, t.1) in text_decimal n (omega arith)
layer (Expr-F.Const (negsuc n)) good = absurd cc
layer (Expr-F.Feature name None) good = text_name name (both (is_name name) (not (is_reserved name)) good).0
layer (Expr-F.Feature name (Some (Named about))) good =
    let t = both (is_feature name) (is_name about) good in
    text_call name about (text_name name (both (is_name name) (not (is_reserved name)) t.0).0) (text_name about t.1)
layer (Expr-F.Feature name (Some (Number n))) good =
    let t = both (is_feature name) (nat_lt n (10 ^ MAX_ARGUMENT_DIGITS)) good in
    let few : n < 10 ^ MAX_ARGUMENT_DIGITS = grind (arith, nat_tests, t.1) in
    text_call name (decimal n) (text_name name (both (is_name name) (not (is_reserved name)) t.0).0) (text_decimal n (omega arith))
layer (Expr-F.Neg a) good = text_byte 45 (written a.0) refl (a.1 good)
layer (Expr-F.Abs a) good = text_call (codes "abs") (written a.0) (text_codes (codes "abs") refl) (a.1 good)
layer (Expr-F.Add a b) good = let g = both (is_well_formed a.0) (is_well_formed b.0) good in text_call [] (signed 43 (written a.0) (written b.0)) no_bytes (text_signed 43 (written a.0) (written b.0) refl (a.1 g.0) (b.1 g.1))
layer (Expr-F.Sub a b) good = let g = both (is_well_formed a.0) (is_well_formed b.0) good in text_call [] (signed 45 (written a.0) (written b.0)) no_bytes (text_signed 45 (written a.0) (written b.0) refl (a.1 g.0) (b.1 g.1))
layer (Expr-F.Mul a b) good = let g = both (is_well_formed a.0) (is_well_formed b.0) good in text_call [] (signed 42 (written a.0) (written b.0)) no_bytes (text_signed 42 (written a.0) (written b.0) refl (a.1 g.0) (b.1 g.1))
layer (Expr-F.Min a b) good = let g = both (is_well_formed a.0) (is_well_formed b.0) good in text_call (codes "min") (listed (written a.0) (written b.0)) (text_codes (codes "min") refl) (text_list (written a.0) (written b.0) (a.1 g.0) (b.1 g.1))
layer (Expr-F.Max a b) good = let g = both (is_well_formed a.0) (is_well_formed b.0) good in text_call (codes "max") (listed (written a.0) (written b.0)) (text_codes (codes "max") refl) (text_list (written a.0) (written b.0) (a.1 g.0) (b.1 g.1))
layer (Expr-F.If a b c) good =
    let g = both (is_well_formed a.0) (is_well_formed b.0 && is_well_formed c.0) good in
    let k = both (is_well_formed b.0) (is_well_formed c.0) g.1 in
    text_call (codes "if") (listed (written a.0) (listed (written b.0) (written c.0))) (text_codes (codes "if") refl) (text_list (written a.0) (listed (written b.0) (written c.0)) (a.1 g.0) (text_list (written b.0) (written c.0) (b.1 k.0) (c.1 k.1)))
layer (Expr-F.Div a (pos n)) good =
    let g = both (is_well_formed a.0) (is_from_to 1 MAX_DIVISOR (pos n)) good in
    let t = both (nat_le 1 n) (nat_le n MAX_DIVISOR) g.1 in
    let high : n ≤ MAX_DIVISOR = grind (arith, nat_tests, t.1) in
    text_call (codes "div") (listed (written a.0) (decimal n)) (text_codes (codes "div") refl) (text_list (written a.0) (decimal n) (a.1 g.0) (text_decimal n (omega arith)))
layer (Expr-F.Div a (negsuc n)) good = absurd (let g = (both (is_well_formed a.0) (is_from_to 1 MAX_DIVISOR (negsuc n)) good).1 in cc)

pub text_written : (a : Expr) → is_well_formed a ≡ true → IsText (written a)
unfolding Holds
text_written = ind-Expr Holds (λ x y is. subst (λ (z : Expr-F Expr). Holds (roll-Expr z)) is (settled (map-Expr ((a : Expr) × Holds a) Expr (λ p. p.0) y) (layer y)))

-- the line of a part
pub text_part : (at_end : Bool) (name : List ℕ) (w : ℕ) (e : Expr) → is_name name ≡ true → w < 2 ^ 64 → is_well_formed e ≡ true → IsText (part_text at_end name (decimal w) e)
text_part at_end name w e named small good =
    text_then (kind_of at_end) (32 ∷ name ++ (32 ∷ decimal w ++ (32 ∷ written e))) (kind at_end)
    (text_byte 32 (name ++ (32 ∷ decimal w ++ (32 ∷ written e))) refl (text_then name (32 ∷ decimal w ++ (32 ∷ written e)) (text_name name named)
    (text_byte 32 (decimal w ++ (32 ∷ written e)) refl (text_then (decimal w) (32 ∷ written e) (text_decimal w small) (text_byte 32 (written e) refl (text_written e good)))))) where
      kind : (b : Bool) → IsText (kind_of b)
      kind true = text_codes (codes "final") refl
      kind false = text_codes (codes "part") refl
