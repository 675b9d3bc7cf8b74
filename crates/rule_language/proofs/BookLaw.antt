-- What the lines of a written book do, one after the other.
use Rattle.std.proofs.Common.{◌≡◌, ℕ, zero, suc, ◌+◌, ◌<◌, ◌≤◌, Bool, true, false, List, [], ◌∷◌, ◌++◌, length, Some, None, Ok, refl, sym, ap, ◌∙◌, subst, arith, append_assoc, length-append}
use Rattle.std.specs.Prelude.{nat_lt, nat_le, codes}
use Rattle.std.specs.List.{list_all, flat_map, position_or_len, AllByRecursion}
use Rattle.std.specs.Fmt.{decimal}
use Rattle.std.specs.Str.{bytes_eq, is_utf8, IsAscii}
use Rattle.std.proofs.lemmas.Str.{IsUtf8-from_ascii, is_utf8-from_IsUtf8}
use Rattle.std.proofs.lemmas.List.Folds.{list_all-append}
use Rattle.std.proofs.Math.Seq.{get_or-append_seam, set-append_seam}
use Rattle.std.proofs.lemmas.Bool.Decides.{nat_tests}
use Rattle.std.proofs.lemmas.List.{append-nil}
use Rattle.std.proofs.lemmas.Slice.Eq.{bytes_eq-Decides}
use Rattle.preorder.specs.Name.{is_name}
use Rattle.preorder.specs.Statements.{InRange}
use Rattle.reading.specs.Lines.{lines_of}
use Rattle.reading.specs.Words.{words}
use Rattle.reading.specs.Reading.{read_numbered}
use Rattle.reading.proofs.Spelling.{words-word, words-last}
use Rattle.expressions.proofs.Lengths.{name_short}
use Rattle.reading.proofs.Truth.{both}
use Rattle.expressions.specs.declared.limits.TheConstants.{MAX_LINE}
use Rattle.rule_language.specs.declared.limits.TheConstants.{MAX_PARTS, MAX_WEIGHT}
use Rattle.preorder.specs.declared.limits.TheConstants.{MAX_RULES}
use Rattle.rule_language.specs.declared.book.Book.{Book}
use Rattle.rule_language.specs.declared.book.Rule.{Rule}
use Rattle.rule_language.specs.declared.part.Part.{Part}
use Rattle.rule_language.specs.LineFiles.{by_words, line_text}
use Rattle.rule_language.specs.Parts.{part_text, part_fits, IsPart}
use Rattle.rule_language.specs.Writing.{line, part_line_text, rule_text, name_at, statement_text, book_text}
use Rattle.rule_language.proofs.OneByOne.{NotNamed, MayFollow, AreRules, OneByOne, one_by_one}
use Rattle.rule_language.specs.Books.{place_of, rule_line, pair, above_line, pair_line, add_part, add_named, nameless, IsBook, book_words, book_line, no_lines, book_of, named_rule}
use Rattle.rule_language.proofs.PartLaw.{name_bytes, name_some, blank_free, by_the_words}
use Rattle.rule_language.proofs.Plain.{is_text_byte, IsText, content_of, line_of, text_then, text_codes, text_name, text_byte, text_part}

abbrev book : List Rule → List (ℕ × ℕ) → Book
book rules statements = record { rules = rules; statements = statements }

-- after the text, reading goes on from the other book
record Does (text : List ℕ) (b c : Book) : Type 0 where
  on : (n : ℕ) (rest : List ℕ) → (m : ℕ) × (read_numbered book_line n (lines_of (text ++ rest)) b ≡ read_numbered book_line m (lines_of rest) c)

nothing : (b : Book) → Does [] b b
nothing b = record { on = λ n rest. (n, refl) }

next : (s t : List ℕ) (b c d : Book) → Does s b c → Does t c d → Does (s ++ t) b d
next s t b c d p q = record {
  on = λ n rest.
      let x = p.on n (t ++ rest) in
      let y = q.on x.0 rest in
      (y.0, ap (λ (z : List ℕ). read_numbered book_line n (lines_of z) b) (append_assoc s t rest) ∙ x.1 ∙ y.1);
}

one_line : (text : List ℕ) (b c : Book) → IsText text → length text ≤ MAX_LINE → ((n : ℕ) → by_words book_words n (words text) b ≡ Ok c) → Does (line text) b c
unfolding read_numbered line_text
one_line text b c is short step = record {
  on = λ n rest.
      let fits : nat_lt MAX_LINE (length text) ≡ false = grind (arith, nat_tests, short) in
      (n + 1, ap (λ (z : List ℕ). read_numbered book_line n (lines_of z) b) (append_assoc text (10 ∷ []) rest) ∙ rw (line_of text rest is, fits, content_of text is, step n) refl);
}

-- ---- where a rule stands

past : (name : List ℕ) (done more : List Rule) → NotNamed name done → position_or_len (λ (r : Rule). bytes_eq r.name name) (done ++ more) ≡ length done + position_or_len (λ (r : Rule). bytes_eq r.name name) more
past name [] more h = omega arith
past name (r ∷ done) more h = let again = past name done more h.1 in rw h.0 (omega (arith, again))

no_rule : (name : List ℕ) (done : List Rule) → NotNamed name done → place_of name done ≡ None
unfolding place_of
no_rule name done h =
    let len : position_or_len (λ (r : Rule). bytes_eq r.name name) done ≡ length done = ap (position_or_len (λ (r : Rule). bytes_eq r.name name)) (sym (append-nil done)) ∙ past name done [] h ∙ omega arith in
    let over : nat_lt (position_or_len (λ (r : Rule). bytes_eq r.name name) done) (length done) ≡ false = grind (arith, nat_tests, len) in
    rw over refl

same_name : (name : List ℕ) → bytes_eq name name ≡ true
same_name name = (bytes_eq-Decides name name).1 refl

last_rule : (r : Rule) (done : List Rule) → NotNamed r.name done → place_of r.name (done ++ r ∷ []) ≡ Some (length done)
unfolding place_of
last_rule r done h =
    let here : position_or_len (λ (q : Rule). bytes_eq q.name r.name) (r ∷ []) ≡ 0 = rw (same_name r.name) refl in
    let len : position_or_len (λ (q : Rule). bytes_eq q.name r.name) (done ++ r ∷ []) ≡ length done = past r.name done (r ∷ []) h ∙ omega (arith, here) in
    let inside : nat_lt (position_or_len (λ (q : Rule). bytes_eq q.name r.name) (done ++ r ∷ [])) (length (done ++ r ∷ [])) ≡ true = grind (arith, nat_tests, len, length-append done (r ∷ [])) in
    rw (inside, len) refl

-- ---- the line of a rule, and the lines of its parts

rule_added : (n : ℕ) (name : List ℕ) (done : List Rule) (ss : List (ℕ × ℕ)) → is_name name ≡ true → NotNamed name done → length done < MAX_RULES
    → rule_line n name (book done ss) ≡ Ok (book (done ++ (record { name = name; parts = [] }) ∷ []) ss)
unfolding rule_line
rule_added n name done ss named new few =
    let room : nat_le MAX_RULES (length done) ≡ false = grind (arith, nat_tests, few) in
    rw (named, no_rule name done new, room) refl

rule_does : (name : List ℕ) (done : List Rule) (ss : List (ℕ × ℕ)) → is_name name ≡ true → NotNamed name done → length done < MAX_RULES
    → Does (line (codes "rule " ++ name)) (book done ss) (book (done ++ (record { name = name; parts = [] }) ∷ []) ss)
unfolding book_words
rule_does name done ss named new few =
    let cut : words (codes "rule " ++ name) ≡ codes "rule" ∷ name ∷ [] =
    words-word (codes "rule") name (blank_free (codes "rule") refl) (omega arith) ∙ ap (λ (ws : List (List ℕ)). codes "rule" ∷ ws) (words-last name (blank_free name (name_bytes name named)) (name_some name named)) in
    one_line (codes "rule " ++ name) (book done ss) (book (done ++ (record { name = name; parts = [] }) ∷ []) ss) (text_then (codes "rule ") name (text_codes (codes "rule ") refl) (text_name name named))
    (omega (arith, name_short name named)) (λ n. rw (cut, rule_added n name done ss named new few) refl)

part_added : (n : ℕ) (r : Rule) (part : Part) (done : List Rule) (ss : List (ℕ × ℕ)) → NotNamed r.name done → IsPart r.name part → length r.parts < MAX_PARTS
    → add_named n r.name part (book (done ++ r ∷ []) ss) ≡ Ok (book (done ++ (record r { parts = r.parts ++ part ∷ [] }) ∷ []) ss)
unfolding named_rule add_part
part_added n r part done ss new is few =
    let low : nat_le 1 part.weight ≡ true = grind (arith, nat_tests, is.weighs) in
    let high : nat_le part.weight MAX_WEIGHT ≡ true = grind (arith, nat_tests, is.weight) in
    let room : nat_le MAX_PARTS (length r.parts) ≡ false = grind (arith, nat_tests, few) in
    rw (last_rule r done new, low, high, get_or-append_seam done r [] nameless, room, set-append_seam done r [] (record r { parts = r.parts ++ part ∷ [] })) refl

fits_line : (name : List ℕ) (part : Part) → IsPart name part → length (part_text part.at_end name (decimal part.weight) part.expr) ≤ MAX_LINE
unfolding part_fits
fits_line name part is =
    let k = both (nat_le (length (part_text part.at_end name (decimal part.weight) part.expr)) MAX_LINE) _ is.fits in
    grind (arith, nat_tests, k.0)

part_does : (r : Rule) (part : Part) (done : List Rule) (ss : List (ℕ × ℕ)) → is_name r.name ≡ true → NotNamed r.name done → IsPart r.name part → length r.parts < MAX_PARTS
    → Does (part_line_text r.name part) (book (done ++ r ∷ []) ss) (book (done ++ (record r { parts = r.parts ++ part ∷ [] }) ∷ []) ss)
part_does r part done ss named new is few =
    one_line (part_text part.at_end r.name (decimal part.weight) part.expr) (book (done ++ r ∷ []) ss) (book (done ++ (record r { parts = r.parts ++ part ∷ [] }) ∷ []) ss)
    (text_part part.at_end r.name part.weight part.expr named (omega (arith, is.weight)) is.well_formed) (fits_line r.name part is)
    (λ n. by_the_words n r.name part (book (done ++ r ∷ []) ss) named is ∙ part_added n r part done ss new is few)

parts_do : (ps : List Part) (r : Rule) (done : List Rule) (ss : List (ℕ × ℕ)) → is_name r.name ≡ true → NotNamed r.name done → AllByRecursion (IsPart r.name) ps → length r.parts + length ps ≤ MAX_PARTS
    → Does (flat_map (part_line_text r.name) ps) (book (done ++ r ∷ []) ss) (book (done ++ (record r { parts = r.parts ++ ps }) ∷ []) ss)
parts_do [] r done ss named new all few = subst (λ (qs : List Part). Does [] (book (done ++ r ∷ []) ss) (book (done ++ (record r { parts = qs }) ∷ []) ss)) (sym (append-nil r.parts)) (nothing (book (done ++ r ∷ []) ss))
parts_do (p ∷ ps) r done ss named new all few =
    let grown : Rule = record r { parts = r.parts ++ p ∷ [] } in
    let rest = parts_do ps grown done ss named new all.1 (omega (arith, few, length-append r.parts (p ∷ []))) in
    subst (λ (qs : List Part). Does (flat_map (part_line_text r.name) (p ∷ ps)) (book (done ++ r ∷ []) ss) (book (done ++ (record r { parts = qs }) ∷ []) ss)) (append_assoc r.parts (p ∷ []) ps)
    (next (part_line_text r.name p) (flat_map (part_line_text r.name) ps) (book (done ++ r ∷ []) ss) (book (done ++ grown ∷ []) ss) (book (done ++ (record grown { parts = grown.parts ++ ps }) ∷ []) ss) (part_does r p done ss named new all.0 (omega (arith, few))) rest)

-- ---- the rules of a book

whole_rule_does : (r : Rule) (done : List Rule) (ss : List (ℕ × ℕ)) → MayFollow done r → Does (rule_text r) (book done ss) (book (done ++ r ∷ []) ss)
whole_rule_does r done ss h =
    next (line (codes "rule " ++ r.name)) (flat_map (part_line_text r.name) r.parts) (book done ss) (book (done ++ (record { name = r.name; parts = [] }) ∷ []) ss) (book (done ++ r ∷ []) ss)
    (rule_does r.name done ss h.named h.new h.few) (parts_do r.parts (record { name = r.name; parts = [] }) done ss h.named h.new h.parts (omega (arith, h.few_parts)))

rules_do : (rs done : List Rule) (ss : List (ℕ × ℕ)) → AreRules done rs → Does (flat_map rule_text rs) (book done ss) (book (done ++ rs) ss)
rules_do [] done ss h = subst (λ (qs : List Rule). Does [] (book done ss) (book qs ss)) (sym (append-nil done)) (nothing (book done ss))
rules_do (r ∷ rs) done ss h =
    subst (λ (qs : List Rule). Does (flat_map rule_text (r ∷ rs)) (book done ss) (book qs ss)) (append_assoc done (r ∷ []) rs)
    (next (rule_text r) (flat_map rule_text rs) (book done ss) (book (done ++ r ∷ []) ss) (book ((done ++ r ∷ []) ++ rs) ss) (whole_rule_does r done ss h.0) (rules_do rs (done ++ r ∷ []) ss h.1))

-- ---- the statements of a book

at_rule : (r : Rule) (done rs : List Rule) → NotNamed r.name done → place_of r.name (done ++ r ∷ rs) ≡ Some (length done)
unfolding place_of
at_rule r done rs h =
    let here : position_or_len (λ (q : Rule). bytes_eq q.name r.name) (r ∷ rs) ≡ 0 = rw (same_name r.name) refl in
    let len : position_or_len (λ (q : Rule). bytes_eq q.name r.name) (done ++ r ∷ rs) ≡ length done = past r.name done (r ∷ rs) h ∙ omega (arith, here) in
    let inside : nat_lt (position_or_len (λ (q : Rule). bytes_eq q.name r.name) (done ++ r ∷ rs)) (length (done ++ r ∷ rs)) ≡ true = grind (arith, nat_tests, len, length-append done (r ∷ rs)) in
    rw (inside, len) refl

-- the rule at a place after the rules that are done
record Stands (done rs : List Rule) (i : ℕ) : Type 0 where
  named : is_name (name_at rs i) ≡ true
  place : place_of (name_at rs i) (done ++ rs) ≡ Some (length done + i)

stands : (rs done : List Rule) (i : ℕ) → AreRules done rs → i < length rs → Stands done rs i
stands [] done i h lt = absurd (omega arith)
stands (r ∷ rs) done zero h lt = record { named = h.0.named; place = at_rule r done rs h.0.new ∙ ap (λ (n : ℕ). Some n) (omega arith) }
stands (r ∷ rs) done (suc i) h lt =
    let s = stands rs (done ++ r ∷ []) i h.1 (omega arith) in
    record {
      named = s.named;
      place = ap (place_of (name_at rs i)) (sym (append_assoc done (r ∷ []) rs)) ∙ s.place ∙ ap (λ (n : ℕ). Some n) (omega (arith, length-append done (r ∷ [])));
    }

statement_added : (n : ℕ) (rules : List Rule) (ss : List (ℕ × ℕ)) (p : ℕ × ℕ) → Stands [] rules p.0 → Stands [] rules p.1
    → book_words n (codes "above" ∷ name_at rules p.0 ∷ name_at rules p.1 ∷ []) (book rules ss) ≡ Ok (book rules (ss ++ p ∷ []))
unfolding book_words pair_line above_line pair named_rule
statement_added n rules ss p a b =
    let i : place_of (name_at rules p.0) rules ≡ Some p.0 = a.place ∙ ap (λ (m : ℕ). Some m) (omega arith) in
    let j : place_of (name_at rules p.1) rules ≡ Some p.1 = b.place ∙ ap (λ (m : ℕ). Some m) (omega arith) in
    rw (a.named, b.named, i, j) refl

statement_does : (rules : List Rule) (ss : List (ℕ × ℕ)) (p : ℕ × ℕ) → Stands [] rules p.0 → Stands [] rules p.1 → Does (statement_text rules p) (book rules ss) (book rules (ss ++ p ∷ []))
statement_does rules ss p a b =
    let x = name_at rules p.0 in
    let y = name_at rules p.1 in
    let cut : words (codes "above " ++ (x ++ (32 ∷ y))) ≡ codes "above" ∷ x ∷ y ∷ [] =
    words-word (codes "above") (x ++ (32 ∷ y)) (blank_free (codes "above") refl) (omega arith)
    ∙ ap (λ (ws : List (List ℕ)). codes "above" ∷ ws) (words-word x y (blank_free x (name_bytes x a.named)) (name_some x a.named))
    ∙ ap (λ (ws : List (List ℕ)). codes "above" ∷ x ∷ ws) (words-last y (blank_free y (name_bytes y b.named)) (name_some y b.named)) in
    one_line (codes "above " ++ (x ++ (32 ∷ y))) (book rules ss) (book rules (ss ++ p ∷ []))
    (text_then (codes "above ") (x ++ (32 ∷ y)) (text_codes (codes "above ") refl) (text_then x (32 ∷ y) (text_name x a.named) (text_byte 32 y refl (text_name y b.named))))
    (omega (arith, length-append x (32 ∷ y), name_short x a.named, name_short y b.named))
    (λ n. ap (λ (ws : List (List ℕ)). by_words book_words n ws (book rules ss)) cut ∙ statement_added n rules ss p a b)

statements_do : (ps : List (ℕ × ℕ)) (rules : List Rule) (ss : List (ℕ × ℕ)) → AreRules [] rules → AllByRecursion (InRange (length rules)) ps
    → Does (flat_map (statement_text rules) ps) (book rules ss) (book rules (ss ++ ps))
statements_do [] rules ss h all = subst (λ (qs : List (ℕ × ℕ)). Does [] (book rules ss) (book rules qs)) (sym (append-nil ss)) (nothing (book rules ss))
statements_do (p ∷ ps) rules ss h all =
    subst (λ (qs : List (ℕ × ℕ)). Does (flat_map (statement_text rules) (p ∷ ps)) (book rules ss) (book rules qs)) (append_assoc ss (p ∷ []) ps)
    (next (statement_text rules p) (flat_map (statement_text rules) ps) (book rules ss) (book rules (ss ++ p ∷ [])) (book rules ((ss ++ p ∷ []) ++ ps))
    (statement_does rules ss p (stands rules [] p.0 h all.0.0) (stands rules [] p.1 h all.0.1)) (statements_do ps rules (ss ++ p ∷ []) h all.1))

-- ---- the book

pub lines_again : (b : Book) → OneByOne b → read_numbered book_line 1 (lines_of (book_text b)) no_lines ≡ Ok b
unfolding read_numbered lines_of
lines_again b h =
    let d = next (flat_map rule_text b.rules) (flat_map (statement_text b.rules) b.statements) (book [] []) (book b.rules []) (book b.rules b.statements) (rules_do b.rules [] [] h.rules) (statements_do b.statements b.rules [] h.rules h.statements) in
    let x = d.on 1 [] in
    ap (λ (z : List ℕ). read_numbered book_line 1 (lines_of z) no_lines) (sym (append-nil (book_text b))) ∙ x.1

-- ---- it is ASCII

abbrev is_low : ℕ → Bool
is_low b = nat_lt b 128

record IsLow (text : List ℕ) : Type 0 where
  all : list_all is_low text ≡ true

low_then : (x y : List ℕ) → IsLow x → IsLow y → IsLow (x ++ y)
low_then x y p q = record { all = rw (list_all-append is_low x y, p.all, q.all) refl }

low_byte : (b : ℕ) → is_text_byte b ≡ true → is_low b ≡ true
low_byte b e = sure (is_low b) (λ f. grind (arith, nat_tests)) where
  sure : (t : Bool) → (t ≡ false → ⊥) → t ≡ true
  sure true h = refl
  sure false h = absurd (h refl)

low_all : (text : List ℕ) → list_all is_text_byte text ≡ true → list_all is_low text ≡ true
low_all [] e = refl
low_all (b ∷ bs) e = let k = both (is_text_byte b) (list_all is_text_byte bs) e in rw (low_byte b k.0, low_all bs k.1) refl

low_line : (text : List ℕ) → IsText text → IsLow (line text)
low_line text is = low_then text (10 ∷ []) (record { all = low_all text is.all }) (record { all = refl })

low_parts : (name : List ℕ) (ps : List Part) → is_name name ≡ true → AllByRecursion (IsPart name) ps → IsLow (flat_map (part_line_text name) ps)
low_parts name [] named all = record { all = refl }
low_parts name (p ∷ ps) named all =
    low_then (part_line_text name p) (flat_map (part_line_text name) ps) (low_line (part_text p.at_end name (decimal p.weight) p.expr) (text_part p.at_end name p.weight p.expr named (omega (arith, all.0.weight)) all.0.well_formed)) (low_parts name ps named all.1)

low_rules : (rs done : List Rule) → AreRules done rs → IsLow (flat_map rule_text rs)
low_rules [] done h = record { all = refl }
low_rules (r ∷ rs) done h =
    low_then (rule_text r) (flat_map rule_text rs)
    (low_then (line (codes "rule " ++ r.name)) (flat_map (part_line_text r.name) r.parts) (low_line (codes "rule " ++ r.name) (text_then (codes "rule ") r.name (text_codes (codes "rule ") refl) (text_name r.name h.0.named))) (low_parts r.name r.parts h.0.named h.0.parts))
    (low_rules rs (done ++ r ∷ []) h.1)

low_statements : (rules : List Rule) (ps : List (ℕ × ℕ)) → AreRules [] rules → AllByRecursion (InRange (length rules)) ps → IsLow (flat_map (statement_text rules) ps)
low_statements rules [] h all = record { all = refl }
low_statements rules (p ∷ ps) h all =
    let x = name_at rules p.0 in
    let y = name_at rules p.1 in
    let a = stands rules [] p.0 h all.0.0 in
    let b = stands rules [] p.1 h all.0.1 in
    low_then (statement_text rules p) (flat_map (statement_text rules) ps)
    (low_line (codes "above " ++ (x ++ (32 ∷ y))) (text_then (codes "above ") (x ++ (32 ∷ y)) (text_codes (codes "above ") refl) (text_then x (32 ∷ y) (text_name x a.named) (text_byte 32 y refl (text_name y b.named)))))
    (low_statements rules ps h all.1)

low_at : (text : List ℕ) → list_all is_low text ≡ true → IsAscii text
low_at [] e zero = omega arith
low_at [] e (suc i) = omega arith
low_at (b ∷ bs) e zero = let k = both (is_low b) (list_all is_low bs) e in grind (arith, nat_tests, k.0)
low_at (b ∷ bs) e (suc i) = let k = both (is_low b) (list_all is_low bs) e in low_at bs k.1 i

is_text_utf8 : (b : Book) → OneByOne b → is_utf8 (book_text b) ≡ true
is_text_utf8 b h =
    let low = low_then (flat_map rule_text b.rules) (flat_map (statement_text b.rules) b.statements) (low_rules b.rules [] h.rules) (low_statements b.rules b.statements h.rules h.statements) in
    is_utf8-from_IsUtf8 (book_text b) (IsUtf8-from_ascii (book_text b) (low_at (book_text b) low.all))

pub book_again : (b : Book) → IsBook b → book_of (book_text b) ≡ Ok b
unfolding book_of
book_again b is =
    let h = one_by_one b is in
    let some : nat_le 1 (length b.rules) ≡ true = grind (arith, nat_tests, is.some) in
    rw (is_text_utf8 b h, lines_again b h, some) refl
