-- A book that is read is well formed.
use Rattle.std.proofs.Common.{◌≡◌, ℕ, zero, suc, ◌+◌, ◌<◌, ◌≤◌, ◌&&◌, Bool, true, false, not, cond, List, [], ◌∷◌, ◌++◌, length, get_or, Option, Some, None, Result, Ok, Err, refl, sym, ap, ◌∙◌, subst, arith, append_assoc, length-append}
use Rattle.std.specs.Prelude.{IfOk, nat_lt, nat_le, codes, slice_index_or, slice_set, is_some}
use Rattle.std.specs.List.{position, position_or_len, AllByRecursion}
use Rattle.std.specs.Str.{bytes_eq, is_utf8}
use Rattle.std.proofs.lemmas.Bool.Decides.{nat_tests}
use Rattle.std.proofs.lemmas.List.{append-nil, length-set}
use Rattle.std.proofs.lemmas.List.Quantifiers.{position-Some}
use Rattle.std.proofs.lemmas.Slice.Eq.{bytes_eq-Decides}
use Rattle.preorder.specs.Name.{is_name}
use Rattle.preorder.specs.Statements.{InRange}
use Rattle.reading.specs.Lines.{lines_of}
use Rattle.reading.specs.Words.{words}
use Rattle.reading.specs.Reading.{◌>>=◌, Gives, read_numbered}
use Rattle.expressions.specs.declared.limits.TheConstants.{MAX_LINE}
use Rattle.rule_language.specs.declared.limits.TheConstants.{MAX_PARTS, MAX_WEIGHT}
use Rattle.preorder.specs.declared.limits.TheConstants.{MAX_RULES}
use Rattle.rule_language.specs.declared.book.Book.{Book}
use Rattle.rule_language.specs.declared.book.Rule.{Rule}
use Rattle.rule_language.specs.declared.book.BookFault.{BookFault}
use Rattle.rule_language.specs.declared.book.BookFault.TheVariants.{NotUtf8, Syntax, DuplicateName, BadWeight, TooManyRules, TooManyParts, NoRules}
use Rattle.rule_language.specs.declared.part.Part.{Part}
use Rattle.rule_language.specs.LineFiles.{content, by_words, line_text}
use Rattle.rule_language.specs.Parts.{IsPart}
use Rattle.rule_language.specs.Books.{is_memory, place_of, rule_line, or_unknown, pair, above_line, same_line, pair_line, part_of, add_part, part_line, with_part, nameless, IsBook, book_words, book_line, no_lines, with_rules, book_of, named_rule}
use Rattle.reading.proofs.Truth.{both}
use Rattle.rule_language.proofs.OneByOne.{NotNamed, MayFollow, AreRules, OneByOne, is_book}
use Rattle.rule_language.proofs.PartSound.{part_sound}

record Kept (b : Book) : Type 0 where
  rules : AreRules [] b.rules
  statements : AllByRecursion (InRange (length b.rules)) b.statements

-- what is read, if anything, is kept
abbrev Keeps : Result Book BookFault → Type 0
Keeps read = (c : Book) → read ≡ Ok c → Kept c

refuses : (f : BookFault) → Keeps (Err f)
refuses f c e = absurd cc

gives : (b : Book) → Kept b → Keeps (Ok b)
gives b k c e = let same : b ≡ c = cc in subst Kept same k

tested : (t : Bool) (f : BookFault) (read : Result Book BookFault) → (t ≡ false → Keeps read) → Keeps (cond t (Err f) read)
tested true f read k = refuses f
tested false f read k = k refl

chosen : (t : Bool) (x y : Result Book BookFault) → Keeps x → Keeps y → Keeps (cond t x y)
chosen true x y k l = k
chosen false x y k l = l

followed : {X : Type 0} (first : Result X BookFault) (next : X → Result Book BookFault) → ((x : X) → first ≡ Ok x → Keeps (next x)) → Keeps (first >>= next)
followed (Ok x) next k = k x refl
followed (Err f) next k = refuses f

-- ---- lists

all_more : {X : Type 0} (P : X → Type 0) (xs : List X) (x : X) → AllByRecursion P xs → P x → AllByRecursion P (xs ++ x ∷ [])
all_more P [] x h p = (p, tt)
all_more P (y ∷ xs) x h p = (h.0, all_more P xs x h.1 p)

all_weaker : (m n : ℕ) (ps : List (ℕ × ℕ)) → m ≤ n → AllByRecursion (InRange m) ps → AllByRecursion (InRange n) ps
all_weaker m n [] le h = tt
all_weaker m n (p ∷ ps) le h = ((omega (arith, le, h.0.0), omega (arith, le, h.0.1)), all_weaker m n ps le h.1)

-- ---- names

none_len : (name : List ℕ) (rules : List Rule) → length rules ≤ position_or_len (λ (r : Rule). bytes_eq r.name name) rules → NotNamed name rules
none_len name [] le = tt
none_len name (r ∷ rs) le = at (bytes_eq r.name name) refl le (λ h. none_len name rs h) where
  at : (t : Bool) → bytes_eq r.name name ≡ t → length (r ∷ rs) ≤ cond (not t) (1 + position_or_len (λ (q : Rule). bytes_eq q.name name) rs) 0
      → (length rs ≤ position_or_len (λ (q : Rule). bytes_eq q.name name) rs → NotNamed name rs) → (bytes_eq r.name name ≡ false) × NotNamed name rs
  at true e h again = absurd (omega (arith, h))
  at false e h again = (e, again (omega (arith, h)))

new_name : (name : List ℕ) (rules : List Rule) → is_some (place_of name rules) ≡ false → NotNamed name rules
unfolding place_of
new_name name rules e = at (nat_lt (position_or_len (λ (r : Rule). bytes_eq r.name name) rules) (length rules)) refl e where
  at : (t : Bool) → nat_lt (position_or_len (λ (r : Rule). bytes_eq r.name name) rules) (length rules) ≡ t → is_some (cond t (Some (position_or_len (λ (r : Rule). bytes_eq r.name name) rules)) None) ≡ false → NotNamed name rules
  at true f h = absurd cc
  at false f h = none_len name rules (grind (arith, nat_tests, f))

record Known (name : List ℕ) (rules : List Rule) (i : ℕ) : Type 0 where
  inside : i < length rules
  same : (d : Rule) → (get_or rules i d).name ≡ name

known_is : (n : ℕ) (name : List ℕ) (rules : List Rule) (i : ℕ) → named_rule n name rules ≡ Ok i → Known name rules i
unfolding named_rule place_of
known_is n name rules i e = at (position (λ (r : Rule). bytes_eq r.name name) rules) refl e where
  at : (o : Option ℕ) → position (λ (r : Rule). bytes_eq r.name name) rules ≡ o → or_unknown n o ≡ Ok i → Known name rules i
  at (Some j) f h =
      let same : j ≡ i = cc in
      let g : position (λ (r : Rule). bytes_eq r.name name) rules ≡ Some i = f ∙ ap (λ (k : ℕ). Some k) same in
      record {
        inside = (position-Some (λ (r : Rule). bytes_eq r.name name) rules i nameless g).0;
        same = λ d. (bytes_eq-Decides (get_or rules i d).name name).0 (position-Some (λ (r : Rule). bytes_eq r.name name) rules i d g).1;
      }
  at None f h = absurd cc

-- ---- rules

rule_more : (rs done : List Rule) (r : Rule) → AreRules done rs → MayFollow (done ++ rs) r → AreRules done (rs ++ r ∷ [])
rule_more [] done r h m = (subst (λ (l : List Rule). MayFollow l r) (append-nil done) m, tt)
rule_more (q ∷ rs) done r h m = (h.0, rule_more rs (done ++ q ∷ []) r h.1 (subst (λ (l : List Rule). MayFollow l r) (sym (append_assoc done (q ∷ []) rs)) m))

not_named_as : (name : List ℕ) (done more : List Rule) (q r : Rule) → r.name ≡ q.name → NotNamed name (done ++ q ∷ more) → NotNamed name (done ++ r ∷ more)
not_named_as name [] more q r e h = (ap (λ (w : List ℕ). bytes_eq w name) e ∙ h.0, h.1)
not_named_as name (d ∷ done) more q r e h = (h.0, not_named_as name done more q r e h.1)

rules_as : (rs done more : List Rule) (q r : Rule) → r.name ≡ q.name → AreRules (done ++ q ∷ more) rs → AreRules (done ++ r ∷ more) rs
rules_as [] done more q r e h = tt
rules_as (s ∷ rs) done more q r e h = (
  record {
    named = h.0.named;
    new = not_named_as s.name done more q r e h.0.new;
    few = omega (arith, h.0.few, length-append done (q ∷ more), length-append done (r ∷ more));
    few_parts = h.0.few_parts;
    parts = h.0.parts;
  },
  subst (λ (l : List Rule). AreRules l rs) (sym (append_assoc done (r ∷ more) (s ∷ [])))
      (rules_as rs done (more ++ s ∷ []) q r e (subst (λ (l : List Rule). AreRules l rs) (append_assoc done (q ∷ more) (s ∷ [])) h.1)),
)

part_more : (rs done : List Rule) (i : ℕ) (part : Part) → AreRules done rs → i < length rs → IsPart (slice_index_or rs i nameless).name part
    → length (slice_index_or rs i nameless).parts < MAX_PARTS
    → AreRules done (slice_set rs i (record (slice_index_or rs i nameless) { parts = (slice_index_or rs i nameless).parts ++ part ∷ [] }))
part_more [] done i part h lt is few = absurd (omega arith)
part_more (r ∷ rs) done zero part h lt is few =
    (record { named = h.0.named; new = h.0.new; few = h.0.few; few_parts = omega (arith, few, length-append r.parts (part ∷ [])); parts = all_more (IsPart r.name) r.parts part h.0.parts is }, rules_as rs done [] r (record r { parts = r.parts ++ part ∷ [] }) refl h.1)
part_more (r ∷ rs) done (suc i) part h lt is few = (h.0, part_more rs (done ++ r ∷ []) i part h.1 (omega arith) is few)

-- ---- lines

rule_keeps : (n : ℕ) (name : List ℕ) (b : Book) → Kept b → Keeps (rule_line n name b)
unfolding rule_line
rule_keeps n name b k =
    let rule : Rule = record { name = name; parts = [] } in
    tested (not (is_name name)) (Syntax n) _ (λ p. tested (is_some (place_of name b.rules)) (DuplicateName n) _ (λ q. tested (nat_le MAX_RULES (length b.rules)) (TooManyRules n) _ (λ s.
    gives (record b { rules = b.rules ++ rule ∷ [] }) (record {
      rules = rule_more b.rules [] rule k.rules (record { named = truth (is_name name) p; new = new_name name b.rules q; few = grind (arith, nat_tests, s); few_parts = omega arith; parts = tt });
      statements = all_weaker (length b.rules) (length (b.rules ++ rule ∷ [])) b.statements (omega (arith, length-append b.rules (rule ∷ []))) k.statements;
    })))) where
      truth : (t : Bool) → not t ≡ false → t ≡ true
      truth true e = refl
      truth false e = absurd cc

pub pair_in : (n : ℕ) (x y : List ℕ) (rules : List Rule) (p : ℕ × ℕ) → pair n x y rules ≡ Ok p → InRange (length rules) p
unfolding pair
pair_in n x y rules p e = at (not (is_name x && is_name y)) e where
  second : (i : ℕ) → i < length rules → (r : Result ℕ BookFault) → named_rule n y rules ≡ r → (r >>= λ j. Ok (i, j)) ≡ Ok p → InRange (length rules) p
  second i lt (Ok j) f h = let same : ◌≡◌ {A = ℕ × ℕ} (i, j) p = cc in subst (InRange (length rules)) same (lt, (known_is n y rules j f).inside)
  second i lt (Err g) f h = absurd cc

  first : (r : Result ℕ BookFault) → named_rule n x rules ≡ r → (r >>= λ i. named_rule n y rules >>= λ j. Ok (i, j)) ≡ Ok p → InRange (length rules) p
  first (Ok i) f h = second i (known_is n x rules i f).inside (named_rule n y rules) refl h
  first (Err g) f h = absurd cc

  at : (t : Bool) → cond t (Err (Syntax n)) (named_rule n x rules >>= λ i. named_rule n y rules >>= λ j. Ok (i, j)) ≡ Ok p → InRange (length rules) p
  at true h = absurd cc
  at false h = first (named_rule n x rules) refl h

above_keeps : (n : ℕ) (x y : List ℕ) (b : Book) → Kept b → Keeps (above_line n x y b)
unfolding above_line
above_keeps n x y b k = followed (pair n x y b.rules) _ (λ p e. gives (record b { statements = b.statements ++ p ∷ [] }) (record { rules = k.rules; statements = all_more (InRange (length b.rules)) b.statements p k.statements (pair_in n x y b.rules p e) }))

same_keeps : (n : ℕ) (x y : List ℕ) (b : Book) → Kept b → Keeps (same_line n x y b)
unfolding same_line
same_keeps n x y b k = followed (pair n x y b.rules) _ (λ p e.
    let i = pair_in n x y b.rules p e in
    gives (record b { statements = b.statements ++ p ∷ (p.1, p.0) ∷ [] }) (record {
      rules = k.rules;
      statements =
          subst (λ (l : List (ℕ × ℕ)). AllByRecursion (InRange (length b.rules)) l) (append_assoc b.statements (p ∷ []) ((p.1, p.0) ∷ []))
          (all_more (InRange (length b.rules)) (b.statements ++ p ∷ []) (p.1, p.0) (all_more (InRange (length b.rules)) b.statements p k.statements i) (i.1, i.0));
    }))

part_keeps : (n : ℕ) (at_end : Bool) (name weight : List ℕ) (expr : List (List ℕ)) (b : Book) → Kept b → Keeps (part_line n at_end name weight expr b)
unfolding part_line add_part
part_keeps n at_end name weight expr b k =
    followed (part_of n at_end name weight expr) _ (λ part e. followed (named_rule n name b.rules) _ (λ i f.
    let at = known_is n name b.rules i f in
    tested (not (nat_le 1 part.weight && nat_le part.weight MAX_WEIGHT)) (BadWeight n) _ (λ p. tested (nat_le MAX_PARTS (length (slice_index_or b.rules i nameless).parts)) (TooManyParts n) _ (λ q.
    let t = both (nat_le 1 part.weight) (nat_le part.weight MAX_WEIGHT) (truth (nat_le 1 part.weight && nat_le part.weight MAX_WEIGHT) p) in
    let low : 1 ≤ part.weight = grind (arith, nat_tests, t.0) in
    let high : part.weight ≤ MAX_WEIGHT = grind (arith, nat_tests, t.1) in
    let few : length (slice_index_or b.rules i nameless).parts < MAX_PARTS = grind (arith, nat_tests, q) in
    let is = part_sound n at_end name weight expr part e low high in
    gives (with_part i part b) (record {
      rules = part_more b.rules [] i part k.rules at.inside (subst (λ (w : List ℕ). IsPart w part) (sym (at.same nameless)) is) few;
      statements = all_weaker (length b.rules) (length (with_part i part b).rules) b.statements (omega (arith, length-set b.rules i (record (slice_index_or b.rules i nameless) { parts = (slice_index_or b.rules i nameless).parts ++ part ∷ [] }))) k.statements;
    }))))) where
      truth : (t : Bool) → not t ≡ false → t ≡ true
      truth true e = refl
      truth false e = absurd cc

words_keep : (n : ℕ) (ws : List (List ℕ)) (b : Book) → Kept b → Keeps (book_words n ws b)
unfolding book_words pair_line
words_keep n [] b k = refuses (Syntax n)
words_keep n (kind ∷ []) b k = refuses (Syntax n)
words_keep n (kind ∷ x ∷ []) b k = chosen (bytes_eq kind (codes "rule")) _ _ (rule_keeps n x b k) (refuses (Syntax n))
words_keep n (kind ∷ x ∷ y ∷ []) b k = chosen (bytes_eq kind (codes "above")) _ _ (above_keeps n x y b k) (chosen (bytes_eq kind (codes "same")) _ _ (same_keeps n x y b k) (refuses (Syntax n)))
words_keep n (kind ∷ name ∷ weight ∷ w ∷ ws) b k = chosen (bytes_eq kind (codes "part")) _ _ (part_keeps n false name weight (w ∷ ws) b k) (chosen (bytes_eq kind (codes "final")) _ _ (part_keeps n true name weight (w ∷ ws) b k) (refuses (Syntax n)))

line_keeps : (n : ℕ) (line : List ℕ) (b : Book) → Kept b → Keeps (book_line n line b)
unfolding line_text
line_keeps n line b k = tested (nat_lt MAX_LINE (length line)) (Syntax n) _ (λ e. on (words (content line))) where
  on : (ws : List (List ℕ)) → Keeps (by_words book_words n ws b)
  on [] = gives b k
  on (w ∷ ws) = words_keep n (w ∷ ws) b k

lines_keep : (lines : List (List ℕ)) (n : ℕ) (b : Book) → Kept b → Keeps (read_numbered book_line n lines b)
unfolding read_numbered
lines_keep [] n b k = gives b k
lines_keep (line ∷ lines) n b k = followed (book_line n line b) _ (λ c e. lines_keep lines (n + 1) c (line_keeps n line b k c e))

book_kept : (bytes : List ℕ) (b : Book) → book_of bytes ≡ Ok b → OneByOne b
unfolding book_of
book_kept bytes b e = at (is_utf8 bytes) e where
  some : (c : Book) (t : Bool) → nat_le 1 (length c.rules) ≡ t → Kept c → ◌≡◌ {A = Result Book BookFault} (cond t (Ok c) (Err NoRules)) (Ok b) → OneByOne b
  some c true f k h = let same : c ≡ b = cc in subst OneByOne same (record { some = grind (arith, nat_tests, f); rules = k.rules; statements = k.statements })
  some c false f k h = absurd cc

  read : (r : Result Book BookFault) → Keeps r → (r >>= with_rules) ≡ Ok b → OneByOne b
  read (Ok c) k h = some c (nat_le 1 (length c.rules)) refl (k c refl) h
  read (Err f) k h = absurd cc

  at : (t : Bool) → cond t (read_numbered book_line 1 (lines_of bytes) no_lines >>= with_rules) (Err NotUtf8) ≡ Ok b → OneByOne b
  at true h = read (read_numbered book_line 1 (lines_of bytes) no_lines) (lines_keep (lines_of bytes) 1 no_lines (record { rules = tt; statements = tt })) h
  at false h = absurd cc

pub read_is_book : (bytes : List ℕ) (r : Result Book BookFault) → Gives is_memory (λ b. b) r (book_of bytes) → IfOk r IsBook
read_is_book bytes (Ok b) h = is_book b (book_kept bytes b h)
read_is_book bytes (Err f) h = tt
