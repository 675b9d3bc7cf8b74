-- What the line `merge NEW W1 A1 W2 A2 ..` makes of a book: rules become one new rule, with their
-- parts and multiplied weights. This project's own text for the aggregations of Censi and others,
-- 2019.
use Rattle.std.specs.Prelude.{ℕ, min, Bool, true, false, not, ◌&&◌, ◌==◌, List, [], ◌∷◌, ◌++◌}
use Rattle.std.specs.Prelude.{Option, None, Result, Ok, Err, is_some, is_none, option_map, nat_le}
use Rattle.std.specs.Prelude.{nat_lt, length, map, take, drop, if◌then◌else◌}
use Rattle.std.specs.Fmt.{decimal}
use Rattle.std.specs.List.{filter, flat_map, list_all, position}
use Rattle.std.specs.Option.{unwrap_or}
use Rattle.std.specs.Str.{bytes_eq}
use Rattle.preorder.specs.Name.{is_name}
use Rattle.reading.specs.Reading.{◌>>=◌}
use Rattle.reading.specs.Words.{number_of}
use Rattle.reading.specs.declared.words.TheConstants.{PAST}
use Rattle.rule_language.specs.Books.{place_of}
use Rattle.rule_language.specs.Parts.{part_fits}
use Rattle.rule_language.specs.declared.book.Book.{Book}
use Rattle.rule_language.specs.declared.book.Rule.{Rule}
use Rattle.rule_language.specs.declared.limits.TheConstants.{MAX_PARTS, MAX_WEIGHT}
use Rattle.rule_language.specs.declared.part.Part.{Part}
use Rattle.book_operations.specs.Images.{is_new, image_at}
use Rattle.book_operations.specs.Same.{scaled}
use Rattle.book_operations.specs.declared.fault.DeriveFault.{DeriveFault}
use Rattle.book_operations.specs.declared.fault.DeriveFault.TheVariants.{Syntax, UnknownRule}
use Rattle.book_operations.specs.declared.fault.DeriveFault.TheVariants.{DuplicateName, BadWeight}
use Rattle.book_operations.specs.declared.fault.DeriveFault.TheVariants.{TooManyParts}

-- ---- the words `W1 A1 W2 A2 ..`

-- the number that a word of digits is
abbrev pub weight_in : List ℕ → Option ℕ
weight_in word = option_map (λ n. min n PAST) (number_of word)

-- by what the words multiply the rule of this name, if they name it
abbrev pub factor_in : List (List ℕ) → List ℕ → Option ℕ
factor_in (weight ∷ name ∷ words) rule =
    if bytes_eq name rule then weight_in weight else factor_in words rule
factor_in words rule = None

-- each first word is of digits, each second one a name, and no name stands twice
abbrev pub are_factors : List (List ℕ) → Bool
are_factors [] = true
are_factors (weight ∷ []) = false
are_factors (weight ∷ name ∷ words) =
    is_some (weight_in weight) && is_name name && is_none (factor_in words name)
    && are_factors words

-- each name is that of a rule
abbrev pub are_known : List Rule → List (List ℕ) → Bool
are_known rules (weight ∷ name ∷ words) = is_some (place_of name rules) && are_known rules words
are_known rules words = true

abbrev pub is_weight : ℕ → Bool
is_weight weight = nat_le 1 weight && nat_le weight MAX_WEIGHT

abbrev pub are_weights : List (List ℕ) → Bool
are_weights (weight ∷ name ∷ words) =
    is_weight (unwrap_or (weight_in weight) 0) && are_weights words
are_weights words = true

-- ---- the new rule

abbrev pub is_merged : List (List ℕ) → Rule → Bool
is_merged words rule = is_some (factor_in words rule.name)

-- by what the rule of this name is multiplied
abbrev pub times_in : List (List ℕ) → List ℕ → ℕ
times_in words name = unwrap_or (factor_in words name) 1

-- what a rule gives to the new rule: its parts with their weights multiplied, if it is merged
abbrev pub given_parts : List (List ℕ) → Rule → List Part
given_parts words rule =
    if is_merged words rule then map (scaled (times_in words rule.name)) rule.parts else []

-- the parts of the new rule, in the book's order
abbrev pub merged_parts : List (List ℕ) → List Rule → List Part
merged_parts words rules = flat_map (given_parts words) rules

abbrev pub fits : List ℕ → Part → Bool
fits name part = part_fits part.at_end name (decimal part.weight) part.expr

-- ---- the book

-- the rules that are not merged
abbrev pub kept_rules : List (List ℕ) → List Rule → List Rule
kept_rules words rules = filter (λ rule. not (is_merged words rule)) rules

abbrev pub first_merged : List (List ℕ) → List Rule → ℕ
first_merged words rules = unwrap_or (position (is_merged words) rules) 0

-- the rules with the new one at the place of the first that is merged, and without those that are
abbrev pub with_new : Rule → List (List ℕ) → List Rule → List Rule
with_new new words rules =
    let at = first_merged words rules in
    kept_rules words (take at rules) ++ new ∷ kept_rules words (drop at rules)

-- the statement on what the rules become; one of the new rule with itself is left out
abbrev pub restated : List Rule → List Rule → ℕ × ℕ → List (ℕ × ℕ)
restated rules others pair =
    let new = unwrap_or (position (is_new rules) others) 0 in
    let a = image_at rules others pair.0 in
    let b = image_at rules others pair.1 in
    if a == new && b == new then [] else (a, b) ∷ []

abbrev pub merged_book : Rule → List (List ℕ) → Book → Book
merged_book new words book =
    let rules = with_new new words book.rules in
    record { rules = rules; statements = flat_map (restated book.rules rules) book.statements }

-- the name of the new rule, if the line has its form, its rules are there, the name is new, and
-- each weight is one
unfoldable pub new_name : ℕ → List ℕ → List (List ℕ) → List Rule → Result (List ℕ) DeriveFault
new_name n name words rules =
    if not (is_name name && nat_le 4 (length words) && are_factors words) then Err (Syntax n)
    else if not (are_known rules words) then Err (UnknownRule n)
    else if is_some (place_of name rules) then Err (DuplicateName n)
    else if not (are_weights words) then Err (BadWeight n)
    else Ok name

-- the rule with these parts, if each weight is one, there are not too many, and each fits its
-- written line
unfoldable pub with_parts : ℕ → List ℕ → List Part → Result Rule DeriveFault
with_parts n name parts =
    if not (list_all (λ (part : Part). is_weight part.weight) parts) then Err (BadWeight n)
    else if nat_lt MAX_PARTS (length parts) then Err (TooManyParts n)
    else if not (list_all (fits name) parts) then Err (Syntax n)
    else Ok (record { name = name; parts = parts })

-- `merge NEW W1 A1 W2 A2 ..` on line n
unfoldable pub merge_line : ℕ → List ℕ → List (List ℕ) → Book → Result Book DeriveFault
merge_line n name words book =
    new_name n name words book.rules >>= λ new. with_parts n new (merged_parts words book.rules)
    >>= λ rule. Ok (merged_book rule words book)
