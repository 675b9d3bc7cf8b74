-- What a book says: its rules and its statements on them, or the first fault. This project's own
-- text for the rulebooks of Censi and others, 2019.
use Rattle.std.specs.Prelude.{◌≡◌, ℕ, ◌≤◌, min, slice_set, slice_index_or, ◌++◌, Bool, true, false, not}
use Rattle.std.specs.Prelude.{◌&&◌, List, [], ◌∷◌, length, All, Option, Some, None, Result, Ok, Err}
use Rattle.std.specs.Prelude.{nat_le, is_some, if◌then◌else◌, codes, IsTrue}
use Rattle.std.specs.List.{position}
use Rattle.std.specs.Str.{bytes_eq, is_utf8}
use Rattle.preorder.specs.Name.{is_name}
use Rattle.preorder.specs.Statements.{InRange}
use Rattle.reading.specs.Lines.{lines_of}
use Rattle.reading.specs.Reading.{◌>>=◌, read_numbered}
use Rattle.reading.specs.Words.{number_of}
use Rattle.reading.specs.declared.words.TheConstants.{PAST}
use Rattle.expressions.specs.declared.fault.ExprFault.{ExprFault}
use Rattle.expressions.specs.declared.fault.ExprFault.TheVariants.{Syntax as NoExpr}
use Rattle.expressions.specs.declared.fault.ExprFault.TheVariants.{NoMemory as NoRoom}
use Rattle.expressions.specs.Reading.{expr_of}
use Rattle.rule_language.specs.Parts.{part_fits, without_zeros, IsPart}
use Rattle.rule_language.specs.LineFiles.{by_text, line_text}
use Rattle.rule_language.specs.Names.{AreDifferent}
use Rattle.rule_language.specs.declared.book.Book.{Book}
use Rattle.rule_language.specs.declared.book.Rule.{Rule}
use Rattle.rule_language.specs.declared.part.Part.{Part}
use Rattle.rule_language.specs.declared.limits.TheConstants.{MAX_PARTS, MAX_WEIGHT}
use Rattle.preorder.specs.declared.limits.TheConstants.{MAX_RULES}
use Rattle.rule_language.specs.declared.book.BookFault.{BookFault}
use Rattle.rule_language.specs.declared.book.BookFault.TheVariants.{NotUtf8, Syntax, UnknownName}
use Rattle.rule_language.specs.declared.book.BookFault.TheVariants.{DuplicateName, BadWeight}
use Rattle.rule_language.specs.declared.book.BookFault.TheVariants.{TooManyRules, TooManyParts}
use Rattle.rule_language.specs.declared.book.BookFault.TheVariants.{NoRules, NoMemory}

-- the one fault that may come at any time
abbrev pub is_memory : BookFault → Bool
is_memory NoMemory = true
is_memory _ = false

-- the faults that are no line's
abbrev pub is_of_file : BookFault → Bool
is_of_file NotUtf8 = true
is_of_file NoRules = true
is_of_file NoMemory = true
is_of_file _ = false

-- the place of the rule of this name
unfoldable pub place_of : List ℕ → List Rule → Option ℕ
place_of name rules = position (λ r. bytes_eq r.name name) rules

-- `rule NAME` on line n: a new rule
unfoldable pub rule_line : ℕ → List ℕ → Book → Result Book BookFault
rule_line n name book =
    if not (is_name name) then Err (Syntax n)
    else if is_some (place_of name book.rules) then Err (DuplicateName n)
    else if nat_le MAX_RULES (length book.rules) then Err (TooManyRules n)
    else Ok (record book { rules = book.rules ++ (record { name = name; parts = [] }) ∷ [] })

abbrev pub or_unknown : ℕ → Option ℕ → Result ℕ BookFault
or_unknown n None = Err (UnknownName n)
or_unknown n (Some i) = Ok i

-- the place of a rule of an earlier line
unfoldable pub named_rule : ℕ → List ℕ → List Rule → Result ℕ BookFault
named_rule n name rules = or_unknown n (place_of name rules)

-- the places of two rules of earlier lines
unfoldable pub pair : ℕ → List ℕ → List ℕ → List Rule → Result (ℕ × ℕ) BookFault
pair n a b rules =
    if not (is_name a && is_name b) then Err (Syntax n)
    else named_rule n a rules >>= λ i. named_rule n b rules >>= λ j. Ok (i, j)

-- `above A B`: the statement (A, B)
unfoldable pub above_line : ℕ → List ℕ → List ℕ → Book → Result Book BookFault
above_line n a b book =
    pair n a b book.rules >>= λ p. Ok (record book { statements = book.statements ++ p ∷ [] })

-- `same A B`: the statements (A, B) and (B, A)
unfoldable pub same_line : ℕ → List ℕ → List ℕ → Book → Result Book BookFault
same_line n a b book =
    pair n a b book.rules >>= λ p. Ok (record book {
      statements = book.statements ++ p ∷ (p.1, p.0) ∷ [];
    })

-- what stands where there is no rule
abbrev pub nameless : Rule
nameless = record { name = []; parts = [] }

-- the book with one part more of the rule at place i
abbrev pub with_part : ℕ → Part → Book → Book
with_part i part book =
    let rule = slice_index_or book.rules i nameless in
    record book { rules = slice_set book.rules i (record rule { parts = rule.parts ++ part ∷ [] }) }

-- A weight is from 1 to the largest, and a rule has no more parts of both kinds together than it
-- may have.
unfoldable pub add_part : ℕ → ℕ → Part → Book → Result Book BookFault
add_part n i part book =
    if not (nat_le 1 part.weight && nat_le part.weight MAX_WEIGHT) then Err (BadWeight n)
    else if nat_le MAX_PARTS (length (slice_index_or book.rules i nameless).parts)
    then Err (TooManyParts n)
    else Ok (with_part i part book)

abbrev pub or_syntax : {X : Type 0} → ℕ → Result X ExprFault → Result X BookFault
or_syntax n (Ok x) = Ok x
or_syntax n (Err NoExpr) = Err (Syntax n)
or_syntax n (Err NoRoom) = Err NoMemory

abbrev pub weight_from : ℕ → Option ℕ → Result ℕ BookFault
weight_from n None = Err (Syntax n)
weight_from n (Some weight) = Ok (min weight PAST)

-- the part of line n, by its words after the kind; its written line must fit, with the weight's
-- value in decimal
unfoldable pub part_of : ℕ → Bool → List ℕ → List ℕ → List (List ℕ) → Result Part BookFault
part_of n at_end name weight expr =
    if not (is_name name) then Err (Syntax n)
    else weight_from n (number_of weight) >>= λ w. or_syntax n (expr_of expr) >>= λ e.
    if part_fits at_end name (without_zeros weight) e
    then Ok (record { weight = w; expr = e; at_end = at_end }) else Err (Syntax n)

-- one part more of the rule of this name
abbrev pub add_named : ℕ → List ℕ → Part → Book → Result Book BookFault
add_named n name part book = named_rule n name book.rules >>= λ i. add_part n i part book

-- `part NAME WEIGHT EXPR` on line n, and with at_end `final NAME WEIGHT EXPR`: its form, then its
-- rule, then its weight, then its rule's number of parts
unfoldable pub part_line : ℕ → Bool → List ℕ → List ℕ → List (List ℕ) → Book → Result Book BookFault
part_line n at_end name weight expr book =
    part_of n at_end name weight expr >>= λ part. add_named n name part book

-- a line of two names
unfoldable pub pair_line : ℕ → List ℕ → List ℕ → List ℕ → Book → Result Book BookFault
pair_line n kind a b book =
    if bytes_eq kind (codes "above") then above_line n a b book
    else if bytes_eq kind (codes "same") then same_line n a b book
    else Err (Syntax n)

-- `same A B` half done: the statement (A, B) stands, as after `above A B`
abbrev pub IsHalfPair : ℕ → List ℕ → List ℕ → List ℕ → Book → Book → Type 0
IsHalfPair n kind a b old new = IsTrue (bytes_eq kind (codes "same")) × (above_line n a b old ≡ Ok new)

-- of the lines of a book that of two names alone can be left half done
abbrev pub IsHalfLine : ℕ → List (List ℕ) → Book → Book → Type 0
IsHalfLine n (kind ∷ a ∷ b ∷ []) old new = IsHalfPair n kind a b old new
IsHalfLine n words old new = ⊥

-- line n as its words
unfoldable pub book_words : ℕ → List (List ℕ) → Book → Result Book BookFault
book_words n (kind ∷ a ∷ []) book =
    if bytes_eq kind (codes "rule") then rule_line n a book else Err (Syntax n)
book_words n (kind ∷ a ∷ b ∷ []) book = pair_line n kind a b book
book_words n (kind ∷ name ∷ weight ∷ word ∷ expr) book =
    if bytes_eq kind (codes "part") then part_line n false name weight (word ∷ expr) book
    else if bytes_eq kind (codes "final") then part_line n true name weight (word ∷ expr) book
    else Err (Syntax n)
book_words n words book = Err (Syntax n)

-- line n, after the lines before it
abbrev pub book_line : ℕ → List ℕ → Book → Result Book BookFault
book_line = by_text (line_text Syntax book_words)

abbrev pub no_lines : Book
no_lines = record { rules = []; statements = [] }

abbrev pub with_rules : Book → Result Book BookFault
with_rules book = if nat_le 1 (length book.rules) then Ok book else Err NoRules

-- the book of the bytes of a file
unfoldable pub book_of : List ℕ → Result Book BookFault
book_of bytes =
    if is_utf8 bytes then (read_numbered book_line 1 (lines_of bytes) no_lines >>= with_rules)
    else Err NotUtf8

-- what a rule of a well-formed book is
pub record IsRule (rule : Rule) : Type 0 where
  pub name : IsTrue (is_name rule.name)
  pub few : length rule.parts ≤ MAX_PARTS
  pub parts : All (IsPart rule.name) rule.parts

-- A well-formed book has at least one rule, its rules have names that are all different, and its
-- statements are on rules that there are.
pub record IsBook (book : Book) : Type 0 where
  pub some : 1 ≤ length book.rules
  pub few : length book.rules ≤ MAX_RULES
  pub rules : All IsRule book.rules
  pub different : AreDifferent (λ (rule : Rule). rule.name) book.rules
  pub statements : All (InRange (length book.rules)) book.statements

-- of a book whose lines are not all read, nothing is asked
abbrev pub AnyBook : Book → Type 0
AnyBook book = Unit {0}
