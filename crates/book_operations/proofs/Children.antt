-- What a line makes of a well-formed book is well formed, and keeps its preferences where its test accepts it.
use Rattle.std.specs.Prelude.{◌≡◌, ◌≢◌, ℕ, ◌<◌, ◌≤◌, Bool, true, false, not, ◌&&◌, List, [], ◌∷◌, ◌++◌, Option, Some, None, Result, Ok, Err, IfOk, IfSome, IsTrue, All, nat_le, nat_lt, length, codes, is_some, slice_index_or}
use Rattle.std.specs.List.{list_all}
use Rattle.std.specs.Str.{bytes_eq}
use Rattle.std.proofs.Common.{cond, ◌∙◌, refl, sym, ap, subst, zero, suc, arith}
use Rattle.std.proofs.lemmas.Bool.{and_parts}
use Rattle.std.proofs.lemmas.Bool.Decides.{nat_tests}
use Rattle.std.proofs.lemmas.List.{append-nil, length-append}
use Rattle.std.proofs.lemmas.List.Elements.{All-nil, All-cons, All-append, All-weaker}
use Rattle.std.proofs.lemmas.Slice.Eq.{bytes_eq-Decides}
use Rattle.expressions.specs.declared.limits.TheConstants.{MAX_LINE}
use Rattle.preorder.specs.Name.{is_name}
use Rattle.preorder.specs.Statements.{InRange}
use Rattle.reading.specs.Reading.{◌>>=◌, Gives}
use Rattle.reading.specs.Words.{words}
use Rattle.rule_language.proofs.BookLaw.{book_again}
use Rattle.rule_language.proofs.Keeps.{pair_in}
use Rattle.rule_language.proofs.PartSound.{part_sound}
use Rattle.rule_language.specs.Books.{place_of, pair, pair_line, above_line, same_line, part_of, IsRule, IsBook, book_of}
use Rattle.rule_language.specs.LineFiles.{content}
use Rattle.rule_language.specs.Parts.{IsPart}
use Rattle.rule_language.specs.Writing.{book_text}
use Rattle.rule_language.specs.declared.book.Book.{Book}
use Rattle.rule_language.specs.declared.book.Rule.{Rule}
use Rattle.rule_language.specs.declared.book.BookFault.{BookFault}
use Rattle.rule_language.specs.declared.book.BookFault.TheVariants.{Syntax as Unread}
use Rattle.rule_language.specs.declared.limits.TheConstants.{MAX_PARTS}
use Rattle.preorder.specs.declared.limits.TheConstants.{MAX_RULES}
use Rattle.rule_language.specs.declared.part.Part.{Part}
use Rattle.book_operations.specs.Aggregation.{IsAggregation, IsSumBy}
use Rattle.book_operations.specs.Derivation.{Carries}
use Rattle.book_operations.specs.Kinds.{IsStep, KeepsAs}
use Rattle.book_operations.specs.Measures.{IsMeasure, measured}
use Rattle.book_operations.specs.Merging.{are_factors, are_known, is_weight, are_weights, times_in, merged_parts, fits, merged_book, new_name, with_parts, merge_line}
use Rattle.book_operations.specs.Scripts.{is_memory, in_script, refine_line, each_above, augmented, augment_line, refine_words, merge_words, augment_words, script_words, words_child, text_child, multiplier, line_child, line_multiplier, KeepsOver}
use Rattle.book_operations.specs.Tests.{KeepsPreferencesOf, becomes, once, size_of}
use Rattle.book_operations.specs.declared.fault.DeriveFault.{DeriveFault}
use Rattle.book_operations.specs.declared.fault.DeriveFault.TheVariants.{Syntax, UnknownRule, DuplicateName, BadWeight, TooManyRules, TooManyParts}
use Rattle.book_operations.specs.declared.kind.Accepted.TheVariants.{Refinement, Aggregation, Augmentation}
use Rattle.book_operations.specs.declared.steps.Child.{Child}
use Rattle.book_operations.proofs.Inserted.{all-between, different-between, apart, with-more}
use Rattle.book_operations.proofs.Measured.{kept-measured, merged-measured}
use Rattle.book_operations.proofs.MergedBook.{IsMerge, merged-is-book, weight-from}
use Rattle.book_operations.proofs.MergedSum.{merged-is-sum}

-- ---- what is read, if anything

-- P of what is read
abbrev Reads : {X F : Type 0} → (X → Type 0) → Result X F → Type 0
Reads {X} {F} P read = (x : X) → read ≡ Ok x → P x

refuses : {X F : Type 0} (P : X → Type 0) (f : F) → Reads P (Err f)
refuses P f x e = absurd cc

gives : {X F : Type 0} (P : X → Type 0) (y : X) → P y → Reads {F = F} P (Ok y)
gives {X = X} P y h x e = let same : y ≡ x = cc in subst P same h

tested : {X F : Type 0} (P : X → Type 0) (t : Bool) (f : F) (read : Result X F) → (t ≡ false → Reads P read) → Reads P (cond t (Err f) read)
tested P true f read k = refuses P f
tested P false f read k = k refl

chosen : {X F : Type 0} (P : X → Type 0) (t : Bool) (a b : Result X F) → (t ≡ true → Reads P a) → (t ≡ false → Reads P b) → Reads P (cond t a b)
chosen P true a b k l = k refl
chosen P false a b k l = l refl

followed : {X Y F : Type 0} (P : Y → Type 0) (first : Result X F) (next : X → Result Y F) → ((x : X) → first ≡ Ok x → Reads P (next x)) → Reads P (first >>= next)
followed P (Ok x) next k = k x refl
followed P (Err f) next k = refuses P f

lifted : {X : Type 0} (P : X → Type 0) (read : Result X BookFault) → Reads P read → Reads P (in_script read)
lifted P (Ok y) h = gives P y (h y refl)
lifted P (Err f) h = refuses P _

truth : (t : Bool) → not t ≡ false → t ≡ true
truth true e = refl
truth false e = absurd cc

-- ---- refine

refine-is-book : (n : ℕ) (kind a b : List ℕ) (book : Book) → IsBook book → Reads IsBook (refine_line n kind a b book)
unfolding refine_line pair_line above_line same_line
refine-is-book n kind a b book is =
    lifted IsBook (pair_line n kind a b book)
    (chosen IsBook (bytes_eq kind (codes "above")) _ _
    (λ yes. followed IsBook (pair n a b book.rules) _ (λ p e. gives IsBook (record book { statements = book.statements ++ p ∷ [] }) (with-more book (p ∷ []) is (All-cons (InRange (length book.rules)) p [] (pair_in n a b book.rules p e) (All-nil (InRange (length book.rules)))))))
    (λ no. chosen IsBook (bytes_eq kind (codes "same")) _ _
    (λ yes. followed IsBook (pair n a b book.rules) _ (λ p e.
    let i = pair_in n a b book.rules p e in
    gives IsBook (record book { statements = book.statements ++ p ∷ (p.1, p.0) ∷ [] })
    (with-more book (p ∷ (p.1, p.0) ∷ []) is (All-cons (InRange (length book.rules)) p ((p.1, p.0) ∷ []) i (All-cons (InRange (length book.rules)) (p.1, p.0) [] (i.1, i.0) (All-nil (InRange (length book.rules))))))))
    (λ none. refuses IsBook (Unread n))))

-- ---- augment

each-in : (size new count : ℕ) → count ≤ size → new < size → All (InRange size) (each_above new count)
each-in size new zero le h = All-nil (InRange size)
each-in size new (suc r) le h = All-append (InRange size) (each_above new r) ((r, new) ∷ []) (each-in size new r (omega (arith, le)) h) (All-cons (InRange size) (r, new) [] (omega (arith, le), h) (All-nil (InRange size)))

augmented-is-book : (name : List ℕ) (part : Part) (book : Book) → IsBook book → IsTrue (is_name name) → IsPart name part → is_some (place_of name book.rules) ≡ false → length book.rules < MAX_RULES → IsBook (augmented name part book)
augmented-is-book name part book is named fit fresh few =
    let rule : Rule = record { name = name; parts = part ∷ [] } in
    let rules = book.rules ++ rule ∷ [] in
    let size : length rules ≡ suc (length book.rules) = omega (arith, length-append book.rules (rule ∷ [])) in
    let new-rule : IsRule rule = record { name = named; few = omega arith; parts = All-cons (IsPart name) part [] fit (All-nil (IsPart name)) } in
    let whole = sym (append-nil book.rules) in
    record {
      some = omega (arith, size);
      few = omega (arith, size, few);
      rules = all-between IsRule book.rules [] rule (subst (All IsRule) whole is.rules) new-rule;
      different = different-between book.rules [] rule (subst (λ (rs : List Rule). (i j : ℕ) (d : Rule) → i < j → j < length rs → (slice_index_or rs i d).name ≢ (slice_index_or rs j d).name) whole is.different) (subst (All (λ (q : Rule). q.name ≢ name)) whole (apart name book.rules fresh));
      statements = All-append (InRange (length rules)) book.statements (each_above (length book.rules) (length book.rules))
          (All-weaker (InRange (length book.rules)) (InRange (length rules)) (λ p h. (omega (arith, size, h.0), omega (arith, size, h.1))) book.statements is.statements)
          (each-in (length rules) (length book.rules) (length book.rules) (omega (arith, size)) (omega (arith, size)));
    }

part-named : (n : ℕ) (name weight : List ℕ) (expr : List (List ℕ)) → Reads (λ (part : Part). IsTrue (is_name name)) (part_of n false name weight expr)
unfolding part_of
part-named n name weight expr = tested (λ (part : Part). IsTrue (is_name name)) (not (is_name name)) (Unread n) _ (λ yes part e. truth (is_name name) yes)

augment-is-book : (n : ℕ) (name weight : List ℕ) (expr : List (List ℕ)) (book : Book) → IsBook book → Reads IsBook (augment_line n name weight expr book)
unfolding augment_line
augment-is-book n name weight expr book is =
    followed IsBook (in_script (part_of n false name weight expr)) _ (λ part e.
    let read = of_book (part_of n false name weight expr) part e in
    tested IsBook (is_some (place_of name book.rules)) (DuplicateName n) _ (λ fresh.
    tested IsBook (not (is_weight part.weight)) (BadWeight n) _ (λ weighs.
    tested IsBook (nat_le MAX_RULES (length book.rules)) (TooManyRules n) _ (λ few.
    let w = weight-from part.weight (truth (is_weight part.weight) weighs) in
    gives IsBook (augmented name part book)
    (augmented-is-book name part book is (part-named n name weight expr part read) (part_sound n false name weight expr part read w.0 w.1) fresh (grind (arith, nat_tests, few))))))) where
      of_book : (r : Result Part BookFault) (part : Part) → in_script r ≡ Ok part → r ≡ Ok part
      of_book (Ok p) part e = let same : p ≡ part = cc in ap (λ q. Ok q) same
      of_book (Err f) part e = absurd cc

-- ---- merge

record IsNamed (words : List (List ℕ)) (rules : List Rule) (name new : List ℕ) : Type 0 where
  same : name ≡ new
  named : IsTrue (is_name name)
  some : 4 ≤ length words
  factors : IsTrue (are_factors words)
  known : IsTrue (are_known rules words)
  fresh : is_some (place_of name rules) ≡ false
  weights : IsTrue (are_weights words)

name-reads : (n : ℕ) (name : List ℕ) (words : List (List ℕ)) (rules : List Rule) → Reads (IsNamed words rules name) (new_name n name words rules)
unfolding new_name
name-reads n name words rules =
    let P = IsNamed words rules name in
    tested P (not (is_name name && nat_le 4 (length words) && are_factors words)) (Syntax n) _ (λ form.
    tested P (not (are_known rules words)) (UnknownRule n) _ (λ known.
    tested P (is_some (place_of name rules)) (DuplicateName n) _ (λ fresh.
    tested P (not (are_weights words)) (BadWeight n) _ (λ weights.
    let g = and_parts (is_name name && nat_le 4 (length words)) (are_factors words) (truth (is_name name && nat_le 4 (length words) && are_factors words) form) in
    let h = and_parts (is_name name) (nat_le 4 (length words)) g.0 in
    gives P name (record { same = refl; named = h.0; some = grind (arith, nat_tests, h.1); factors = g.1; known = truth (are_known rules words) known; fresh = fresh; weights = truth (are_weights words) weights })))))

record HasParts (name : List ℕ) (parts : List Part) (rule : Rule) : Type 0 where
  name_is : rule.name ≡ name
  parts_are : rule.parts ≡ parts
  weigh : IsTrue (list_all (λ (part : Part). is_weight part.weight) rule.parts)
  few : length rule.parts ≤ MAX_PARTS
  fit : IsTrue (list_all (fits rule.name) rule.parts)

parts-read : (n : ℕ) (name : List ℕ) (parts : List Part) → Reads (HasParts name parts) (with_parts n name parts)
unfolding with_parts
parts-read n name parts =
    let P = HasParts name parts in
    let all = list_all (λ (part : Part). is_weight part.weight) parts in
    tested P (not all) (BadWeight n) _ (λ weigh.
    tested P (nat_lt MAX_PARTS (length parts)) (TooManyParts n) _ (λ few.
    tested P (not (list_all (fits name) parts)) (Syntax n) _ (λ fit.
    gives P (record { name = name; parts = parts })
    (record { name_is = refl; parts_are = refl; weigh = truth all weigh; few = grind (arith, nat_tests, few); fit = truth (list_all (fits name) parts) fit }))))

-- what a merge makes
record Merges (words : List (List ℕ)) (book child : Book) : Type 0 where
  new : Rule
  merge : IsMerge words book new
  is : merged_book new words book ≡ child

merge-makes : (n : ℕ) (name : List ℕ) (words : List (List ℕ)) (book : Book) → Reads (Merges words book) (merge_line n name words book)
unfolding merge_line
merge-makes n name words book =
    let parts = merged_parts words book.rules in
    let P = Merges words book in
    followed P (new_name n name words book.rules) _ (λ new e.
    let named = name-reads n name words book.rules new e in
    followed P (with_parts n new parts) _ (λ rule f.
    let has = parts-read n new parts rule f in
    let same : rule.name ≡ name = has.name_is ∙ sym named.same in
    gives P (merged_book rule words book) (record {
      new = rule;
      is = refl;
      merge = record {
        some = named.some;
        factors = named.factors;
        known = named.known;
        fresh = ap (λ (w : List ℕ). is_some (place_of w book.rules)) same ∙ named.fresh;
        weights = named.weights;
        named = subst (λ (w : List ℕ). IsTrue (is_name w)) (sym same) named.named;
        parts = has.parts_are;
        weigh = has.weigh;
        few = has.few;
        fit = has.fit;
      };
    })))

-- ---- children

abbrev pub CarriesBy : Book → Book → (List ℕ → ℕ) → (Part → ℕ) → Type 0
CarriesBy book child times amount = Carries (size_of book) (size_of child) (becomes book child times) (measured amount book) (measured amount child)

pub record Made (book : Book) (times : List ℕ → ℕ) (child : Child) : Type 0 where
  pub is_book : IsBook child.book
  pub keeps : IsStep book child.book child.kind → KeepsAs book child.book child.kind → KeepsPreferencesOf book child.book times
  pub measures : IsStep book child.book child.kind → (amount : Part → ℕ) → IsMeasure amount → Carries (size_of book) (size_of child.book) (becomes book child.book times) (measured amount book) (measured amount child.book)

multiplier-once : (kind : List ℕ) (words : List (List ℕ)) → bytes_eq kind (codes "merge") ≡ false → once ≡ multiplier (kind ∷ words)
multiplier-once kind [] e = refl
multiplier-once kind (new ∷ words) e = ap (λ (t : Bool). cond t (times_in words) once) (sym e)

multiplier-merge : (kind new : List ℕ) (words : List (List ℕ)) → bytes_eq kind (codes "merge") ≡ true → times_in words ≡ multiplier (kind ∷ new ∷ words)
multiplier-merge kind new words e = ap (λ (t : Bool). cond t (times_in words) once) (sym e)

module _ (n : ℕ) (book : Book) (is : IsBook book) (times : List ℕ → ℕ) where
  sum-of : (words : List (List ℕ)) (child : Book) → Merges words book child → IsAggregation book child → IsSumBy book child (times_in words)
  sum-of words child makes = subst (λ (b : Book). IsAggregation book b → IsSumBy book b (times_in words)) makes.is (merged-is-sum words book makes.new is makes.merge)

  refine-made : once ≡ times → (words : List (List ℕ)) → Reads (Made book times) (refine_words n words book)
  refine-made same [] = refuses (Made book times) (Syntax n)
  refine-made same (a ∷ []) = refuses (Made book times) (Syntax n)
  refine-made same (a ∷ b ∷ []) = refuses (Made book times) (Syntax n)
  refine-made same (a ∷ b ∷ c ∷ []) = followed (Made book times) (refine_line n a b c book) _ (λ child e.
      gives (Made book times) (record { kind = Refinement; book = child })
      (record {
        is_book = refine-is-book n a b c book is child e;
        keeps = λ step keeps. subst (λ (t : List ℕ → ℕ). KeepsPreferencesOf book child t) same keeps;
        measures = λ step amount measure. subst (λ (t : List ℕ → ℕ). CarriesBy book child t amount) same (kept-measured book child is (refine-is-book n a b c book is child e) step.kept amount);
      }))
  refine-made same (a ∷ b ∷ c ∷ d ∷ words) = refuses (Made book times) (Syntax n)

  augment-made : once ≡ times → (words : List (List ℕ)) → Reads (Made book times) (augment_words n words book)
  augment-made same [] = refuses (Made book times) (Syntax n)
  augment-made same (a ∷ []) = refuses (Made book times) (Syntax n)
  augment-made same (a ∷ b ∷ words) = followed (Made book times) (augment_line n a b words book) _ (λ child e.
      gives (Made book times) (record { kind = Augmentation; book = child })
      (record {
        is_book = augment-is-book n a b words book is child e;
        keeps = λ step keeps. subst (λ (t : List ℕ → ℕ). KeepsPreferencesOf book child t) same keeps;
        measures = λ step amount measure. subst (λ (t : List ℕ → ℕ). CarriesBy book child t amount) same (kept-measured book child is (augment-is-book n a b words book is child e) step.kept amount);
      }))

  merge-made : (name : List ℕ) (words : List (List ℕ)) → times_in words ≡ times → Reads (Made book times) (merge_words n (name ∷ words) book)
  merge-made name words same = followed (Made book times) (merge_line n name words book) _ (λ child e.
      let makes = merge-makes n name words book child e in
      gives (Made book times) (record { kind = Aggregation; book = child })
      (record {
        is_book = subst IsBook makes.is (merged-is-book words book makes.new is makes.merge);
        keeps = λ step keeps.
            subst (λ (t : List ℕ → ℕ). KeepsPreferencesOf book child t) same
            (keeps (times_in words) (sum-of words child makes step));
        measures = λ step amount measure.
            subst (λ (t : List ℕ → ℕ). CarriesBy book child t amount) same
            (merged-measured book child is (subst IsBook makes.is (merged-is-book words book makes.new is makes.merge)) step.rules (times_in words) (sum-of words child makes step) amount measure);
      }))

words-made : (n : ℕ) (words : List (List ℕ)) (book : Book) → IsBook book → Reads (Made book (multiplier words)) (script_words n words book)
unfolding script_words
words-made n [] book is = refuses (Made book once) (Syntax n)
words-made n (kind ∷ words) book is =
    let times = multiplier (kind ∷ words) in
    chosen (Made book times) (bytes_eq kind (codes "refine")) _ _
    (λ yes. refine-made n book is times (multiplier-once kind words (other kind yes)) words)
    (λ no_refine. chosen (Made book times) (bytes_eq kind (codes "merge")) _ _
    (λ yes. merged words yes)
    (λ no_merge. chosen (Made book times) (bytes_eq kind (codes "augment")) _ _
    (λ yes. augment-made n book is times (multiplier-once kind words no_merge) words)
    (λ none. refuses (Made book times) (Syntax n)))) where
      other : (kind : List ℕ) → bytes_eq kind (codes "refine") ≡ true → bytes_eq kind (codes "merge") ≡ false
      other kind is_so = ap (λ (w : List ℕ). bytes_eq w (codes "merge")) ((bytes_eq-Decides kind (codes "refine")).0 is_so) ∙ refl

      merged : (words : List (List ℕ)) → bytes_eq kind (codes "merge") ≡ true → Reads (Made book (multiplier (kind ∷ words))) (merge_words n words book)
      merged [] is_so = refuses (Made book once) (Syntax n)
      merged (name ∷ words) is_so = merge-made n book is (multiplier (kind ∷ name ∷ words)) name words (multiplier-merge kind name words is_so)

of_some : (made : Result Child DeriveFault) (child : Child) → ◌≡◌ {A = Result (Option Child) DeriveFault} (made >>= λ c. Ok (Some c)) (Ok (Some child)) → made ≡ Ok child
of_some (Ok c) child e = let same : c ≡ child = cc in ap (λ d. Ok d) same
of_some (Err f) child e = absurd cc

child-made : (n : ℕ) (words : List (List ℕ)) (book : Book) (child : Child) → IsBook book → words_child n words book ≡ Ok (Some child) → Made book (multiplier words) child
child-made n [] book child is e = absurd cc
child-made n (word ∷ words) book child is e = words-made n (word ∷ words) book is child (of_some (script_words n (word ∷ words) book) child e)

-- ---- as calls return them

pub made-is-book : (made : Result (Option Child) DeriveFault) (n : ℕ) (words : List (List ℕ)) (book : Book) → IsBook book → Gives is_memory (λ child. child) made (words_child n words book) → IfOk made (λ child. IfSome child (λ (c : Child). IsBook c.book))
made-is-book (Ok (Some child)) n words book is e = (child-made n words book child is e).is_book
made-is-book (Ok None) n words book is e = tt
made-is-book (Err fault) n words book is e = tt

within : (t : Bool) (n : ℕ) (made : Result (Option Child) DeriveFault) (child : Child) → cond t (Err (Syntax n)) made ≡ Ok (Some child) → made ≡ Ok (Some child)
within true n made child e = absurd cc
within false n made child e = e

pub over-child : (n len : ℕ) (text : List ℕ) (book : Book) (child : Child) → IsBook book → text_child n len text book ≡ Ok (Some child) → IsStep book child.book child.kind → KeepsAs book child.book child.kind → KeepsOver book (multiplier (words text)) (text_child n len text book) child.book
over-child n len text book child is e step keeps =
    subst (λ (made : Result (Option Child) DeriveFault). KeepsOver book (multiplier (words text)) made child.book) (sym e)
    ((child-made n (words text) book child is (within (nat_lt MAX_LINE len) n (words_child n (words text) book) child e)).keeps step keeps)

pub child-of_line : (n : ℕ) (line : List ℕ) (book : Book) (child : Child) → IsBook book → line_child n line book ≡ Ok (Some child) → Made book (line_multiplier line) child
child-of_line n line book child is e = child-made n (words (content line)) book child is (within (nat_lt MAX_LINE (length line)) n (words_child n (words (content line)) book) child e)

pub read-again : (derived : Result Book DeriveFault) → IfOk derived IsBook → IfOk derived (λ book. book_of (book_text book) ≡ Ok book)
read-again (Ok book) is = book_again book is
read-again (Err fault) is = tt
