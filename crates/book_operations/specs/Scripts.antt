-- What a script makes of a book, line by line: the step of each line, whether its test accepts it,
-- and the first fault. This project's own.
use Rattle.std.specs.Prelude.{◌≡◌, ◌⊎◌, IsTrue, ℕ, ◌+◌, Bool, true, false, not, List, [], ◌∷◌, ◌++◌}
use Rattle.std.specs.Prelude.{Option, Some, None, Result, Ok, Err, is_some, nat_le, nat_lt, length}
use Rattle.std.specs.Prelude.{if◌then◌else◌, codes}
use Rattle.std.proofs.Common.{zero, suc}
use Rattle.std.specs.Str.{bytes_eq, is_utf8}
use Rattle.reading.specs.Lines.{lines_of}
use Rattle.reading.specs.Reading.{◌>>=◌}
use Rattle.reading.specs.Words.{words}
use Rattle.expressions.specs.declared.limits.TheConstants.{MAX_LINE}
use Rattle.rule_language.specs.Books.{place_of, pair_line, part_of}
use Rattle.rule_language.specs.LineFiles.{content}
use Rattle.rule_language.specs.declared.book.Book.{Book}
use Rattle.rule_language.specs.declared.book.BookFault.{BookFault}
use Rattle.rule_language.specs.declared.book.BookFault.TheVariants as in_book
use Rattle.preorder.specs.declared.limits.TheConstants.{MAX_RULES}
use Rattle.rule_language.specs.declared.part.Part.{Part}
use Rattle.rulebook_order.specs.NoWorse.{Beats}
use Rattle.rulebook_order.specs.NoWorseUnder.{NoWorseUnder}
use Rattle.book_operations.specs.Derivation.{Carries}
use Rattle.book_operations.specs.Kinds.{IsStep, IsStepFault, ShowsAs}
use Rattle.book_operations.specs.Merging.{times_in, is_weight, merge_line}
use Rattle.book_operations.specs.Tests.{size_of, becomes, once}
use Rattle.book_operations.specs.declared.fault.DeriveFault.{DeriveFault}
use Rattle.book_operations.specs.declared.fault.DeriveFault.TheVariants.{Syntax, UnknownRule}
use Rattle.book_operations.specs.declared.fault.DeriveFault.TheVariants.{DuplicateName, BadWeight}
use Rattle.book_operations.specs.declared.fault.DeriveFault.TheVariants.{TooManyRules, TooManyParts}
use Rattle.book_operations.specs.declared.fault.DeriveFault.TheVariants.{NoMemory}
use Rattle.book_operations.specs.declared.kind.Accepted.{Accepted}
use Rattle.book_operations.specs.declared.kind.Accepted.TheVariants.{Refinement, Aggregation}
use Rattle.book_operations.specs.declared.kind.Accepted.TheVariants.{Augmentation}
use Rattle.book_operations.specs.declared.steps.Child.{Child}

-- the one fault that may come at any time
abbrev pub is_memory : DeriveFault → Bool
is_memory NoMemory = true
is_memory _ = false

-- ---- what a line makes

-- the fault of a line of a book, as that of a line of a script
abbrev pub line_fault : BookFault → DeriveFault
line_fault in_book.NotUtf8 = Syntax 1
line_fault (in_book.Syntax n) = Syntax n
line_fault (in_book.UnknownName n) = UnknownRule n
line_fault (in_book.DuplicateName n) = DuplicateName n
line_fault (in_book.BadWeight n) = BadWeight n
line_fault (in_book.TooManyRules n) = TooManyRules n
line_fault (in_book.TooManyParts n) = TooManyParts n
line_fault in_book.NoRules = Syntax 1
line_fault in_book.NoMemory = NoMemory

abbrev pub in_script : {X : Type 0} → Result X BookFault → Result X DeriveFault
in_script (Ok x) = Ok x
in_script (Err fault) = Err (line_fault fault)

-- `refine above A B` and `refine same A B`: the book with the further statements
unfoldable pub refine_line : ℕ → List ℕ → List ℕ → List ℕ → Book → Result Book DeriveFault
refine_line n kind a b book = in_script (pair_line n kind a b book)

-- that each rule below the count is at least the new one
abbrev pub each_above : ℕ → ℕ → List (ℕ × ℕ)
each_above new zero = []
each_above new (suc r) = each_above new r ++ (r, new) ∷ []

-- a last rule with one part, and each old rule above it
abbrev pub augmented : List ℕ → Part → Book → Book
augmented name part book =
    let new = length book.rules in
    record {
      rules = book.rules ++ (record { name = name; parts = part ∷ [] }) ∷ [];
      statements = book.statements ++ each_above new new;
    }

-- `augment NEW WEIGHT EXPR` on line n
unfoldable pub augment_line : ℕ → List ℕ → List ℕ → List (List ℕ) → Book → Result Book DeriveFault
augment_line n name weight expr book =
    in_script (part_of n false name weight expr) >>= λ part.
    if is_some (place_of name book.rules) then Err (DuplicateName n)
    else if not (is_weight part.weight) then Err (BadWeight n)
    else if nat_le MAX_RULES (length book.rules) then Err (TooManyRules n)
    else Ok (augmented name part book)

-- a child with the test that it is put to
abbrev pub to_test : Accepted → Result Book DeriveFault → Result Child DeriveFault
to_test kind made = made >>= λ book. Ok (record { kind = kind; book = book })

abbrev pub refine_words : ℕ → List (List ℕ) → Book → Result Child DeriveFault
refine_words n (kind ∷ a ∷ b ∷ []) book = to_test Refinement (refine_line n kind a b book)
refine_words n words book = Err (Syntax n)

abbrev pub merge_words : ℕ → List (List ℕ) → Book → Result Child DeriveFault
merge_words n (name ∷ words) book = to_test Aggregation (merge_line n name words book)
merge_words n [] book = Err (Syntax n)

abbrev pub augment_words : ℕ → List (List ℕ) → Book → Result Child DeriveFault
augment_words n (name ∷ weight ∷ expr) book =
    to_test Augmentation (augment_line n name weight expr book)
augment_words n words book = Err (Syntax n)

-- the child that line n makes, by its words
unfoldable pub script_words : ℕ → List (List ℕ) → Book → Result Child DeriveFault
script_words n [] book = Err (Syntax n)
script_words n (kind ∷ words) book =
    if bytes_eq kind (codes "refine") then refine_words n words book
    else if bytes_eq kind (codes "merge") then merge_words n words book
    else if bytes_eq kind (codes "augment") then augment_words n words book
    else Err (Syntax n)

abbrev pub words_child : ℕ → List (List ℕ) → Book → Result (Option Child) DeriveFault
words_child n [] book = Ok None
words_child n (word ∷ words) book = script_words n (word ∷ words) book >>= λ child. Ok (Some child)

-- the child that line n makes of the book, if it has a word, by its length with its comment and its
-- text without it
abbrev pub text_child : ℕ → ℕ → List ℕ → Book → Result (Option Child) DeriveFault
text_child n len text book =
    if nat_lt MAX_LINE len then Err (Syntax n) else words_child n (words text) book

-- the same by the whole line; comments, blanks and the limit of a line are as in a book
abbrev pub line_child : ℕ → List ℕ → Book → Result (Option Child) DeriveFault
line_child n line book = text_child n (length line) (content line) book

-- ---- what a script makes

-- what a line leaves of the book: its child, which its test accepts; a blank line leaves the book
abbrev pub Leaves : Book → Result (Option Child) DeriveFault → Book → Type 0
Leaves book (Ok None) next = book ≡ next
Leaves book (Ok (Some child)) next = (child.book ≡ next) × IsStep book child.book child.kind
Leaves book (Err fault) next = ⊥

-- the fault of a line: its own, or that of the test of its child, whose two vectors show a
-- preference that the child loses
abbrev pub IsLineFault : Book → Result (Option Child) DeriveFault → DeriveFault → Type 0
IsLineFault book (Ok None) fault = ⊥
IsLineFault book (Ok (Some child)) fault =
    IsStepFault book child.book child.kind fault × ShowsAs book child.book child.kind fault
IsLineFault book (Err own) fault = own ≡ fault

-- The lines, of which the first is the n-th of its script, derive the last book from the book: each
-- line makes a child of the book before it, which its test accepts.
unfoldable pub Derives : ℕ → List (List ℕ) → Book → Book → Type 0
Derives n [] book last = book ≡ last
Derives n (line ∷ lines) book last =
    (next : Book) × Leaves book (line_child n line book) next × Derives (n + 1) lines next last

-- the first fault: the lines before it derive a book, of which this line is refused, by its number
pub record IsFirstRefused (n : ℕ) (lines : List (List ℕ)) (book : Book)
    (fault : DeriveFault) : Type 0 where
  pub before : List (List ℕ)
  pub line : List ℕ
  pub after : List (List ℕ)
  pub so_far : Book
  pub cut : lines ≡ before ++ line ∷ after
  pub fine : Derives n before book so_far
  pub refused : IsLineFault so_far (line_child (n + length before) line so_far) fault

-- a script of these bytes, which are UTF-8, derives the last book from the first
pub record IsDerivedBy (script : List ℕ) (first last : Book) : Type 0 where
  pub utf8 : IsTrue (is_utf8 script)
  pub derives : Derives 1 (lines_of script) first last

-- the first fault of a script; one that is not UTF-8 has a first line that is none
abbrev pub IsScriptFault : List ℕ → Book → DeriveFault → Type 0
IsScriptFault script first fault =
    (IsTrue (is_utf8 script) × IsFirstRefused 1 (lines_of script) first fault)
    ⊎ ((is_utf8 script ≡ false) × (fault ≡ Syntax 1))

-- ---- what a script keeps

-- by what the line's words multiply the values of the rule of this name: a merge by what it names,
-- all others by 1
abbrev pub multiplier : List (List ℕ) → List ℕ → ℕ
multiplier (kind ∷ new ∷ words) = if bytes_eq kind (codes "merge") then times_in words else once
multiplier words = once

abbrev pub line_multiplier : List ℕ → List ℕ → ℕ
line_multiplier line = multiplier (words (content line))

-- y, of what a line leaves of the book, carries x of the book, where the line multiplies so
abbrev pub CarriesOver : Book → (List ℕ → ℕ) → Result (Option Child) DeriveFault → List ℕ → List ℕ
    → Type 0
CarriesOver book times (Ok None) x y = x ≡ y
CarriesOver book times (Ok (Some child)) x y =
    Carries (size_of book) (size_of child.book) (becomes book child.book times) x y
CarriesOver book times (Err fault) x y = ⊥

-- last_x carries x through the lines: from book to book there are vectors that carry one another
unfoldable pub CarriesThrough : ℕ → List (List ℕ) → Book → List ℕ → List ℕ → Type 0
CarriesThrough n [] book x last_x = x ≡ last_x
CarriesThrough n (line ∷ lines) book x last_x =
    (next : Book) × (y : List ℕ) × Leaves book (line_child n line book) next
    × CarriesOver book (line_multiplier line) (line_child n line book) x y
    × CarriesThrough (n + 1) lines next y last_x

abbrev pub BeatsIn : Book → List ℕ → List ℕ → Type 0
BeatsIn book = Beats (NoWorseUnder book.statements (size_of book))

-- whatever vectors of the last book carry two vectors of the first through the lines: where the one
-- beats the other in the first, so it does in the last
abbrev pub KeepsThrough : ℕ → List (List ℕ) → Book → Book → Type 0
KeepsThrough n lines first last =
    (x y last_x last_y : List ℕ) → CarriesThrough n lines first x last_x
    → CarriesThrough n lines first y last_y → BeatsIn first x y → BeatsIn last last_x last_y

-- the same over one line
abbrev pub KeepsOver : Book → (List ℕ → ℕ) → Result (Option Child) DeriveFault → Book → Type 0
KeepsOver book times made next =
    (x y next_x next_y : List ℕ) → CarriesOver book times made x next_x
    → CarriesOver book times made y next_y → BeatsIn book x y → BeatsIn next next_x next_y
