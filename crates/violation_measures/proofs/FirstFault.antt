-- What a book that may be written keeps to, and which fault is the first.
use Rattle.std.proofs.Common.{◌≡◌, Bool, true, ℕ, ◌+◌, ◌≤◌, ◌<◌, List, [], ◌∷◌, length, get_or, refl, sym, subst, ◌∙◌}
use Rattle.std.specs.Prelude.{All, take}
use Rattle.std.proofs.lemmas.List.{get_or_default, take_more, take_all}
use Rattle.std.proofs.lemmas.List.Elements.{All-nil, All-cons, All-append}
use Rattle.rule_language.specs.Books.{IsBook}
use Rattle.rule_language.specs.declared.book.Book.{Book}
use Rattle.rule_language.specs.declared.book.Rule.{Rule}
use Rattle.violation_measures.specs.Binding.{RuleMayBind, IsFirst, IsBookRule, IsBoundRule, IsBoundTo}
use Rattle.violation_measures.specs.Resolved.{resolved_book}
use Rattle.violation_measures.specs.Sources.{Features}
use Rattle.violation_measures.specs.declared.bound.Bound.{Bound}

pub book_rules : (book : Book) → IsBook book → All IsBookRule book.rules
book_rules book h = λ i rule within.
    let r = h.rules i rule within in
    record { few = r.few; parts = λ j part here. record { weight = (r.parts j part here).weight; well_formed = (r.parts j part here).well_formed } }

bound_rule : (f : Features) (rule : Rule) → IsBookRule rule → RuleMayBind f rule → IsBoundRule f rule
bound_rule f rule h k = record {
  some = k.some;
  few = h.few;
  parts = λ j part here. record { weight = (h.parts j part here).weight; well_formed = (h.parts j part here).well_formed; known = (k.parts j part here).known; keeps = (k.parts j part here).keeps };
}

pub bound_book : (f : Features) (book : Book) (bound : Bound) → IsBook book → All (RuleMayBind f) book.rules → bound ≡ resolved_book f.find book → IsBoundTo f bound
bound_book f book bound h may same =
    let rules = book_rules book h in
    subst (λ (b : Bound). IsBoundTo f b) (sym same) (record { some = h.some; few = h.few; rules = λ i rule within. bound_rule f _ (rules i rule within) (may i rule within); resolved = refl })

pub first_at : {X : Type 0} (Fine Bad : X → Type 0) (items : List X) (i : ℕ) (item : X) → i < length items → item ≡ get_or items i item → All Fine (take i items) → Bad item → IsFirst Fine Bad items i
first_at Fine Bad items i item within here before bad = record {
  here = within;
  bad = λ d. subst Bad (here ∙ get_or_default items i item d within) bad;
  before = before;
}

-- one item more
pub all_next : {X : Type 0} (P : X → Type 0) (xs : List X) (i : ℕ) (x : X) → i < length xs → x ≡ get_or xs i x → All P (take i xs) → P x → All P (take (i + 1) xs)
all_next {X = X} P xs i x within here before p =
    subst (λ (ys : List X). All P ys) (sym (take_more xs i x within))
    (All-append P (take i xs) (get_or xs i x ∷ []) before (All-cons P (get_or xs i x) [] (subst P here p) (All-nil P)))

pub all_end : {X : Type 0} (P : X → Type 0) (xs : List X) (i : ℕ) → length xs ≤ i → All P (take i xs) → All P xs
all_end {X = X} P xs i far all = subst (λ (ys : List X). All P ys) (take_all i xs far) all

pub is_known : (b d : Bool) → b ≡ true → b ≡ d → d ≡ true
is_known b d e same = sym same ∙ e
