-- The rules of a well-formed book one after the other: each may follow those before it.
use Rattle.std.proofs.Common.{◌≡◌, ℕ, zero, suc, ◌<◌, ◌≤◌, true, false, List, [], ◌∷◌, ◌++◌, length, get_or, sym, ap, ◌∙◌, subst, arith, append_assoc, length-append}
use Rattle.std.specs.Prelude.{All}
use Rattle.std.specs.List.{AllByRecursion}
use Rattle.std.specs.Str.{bytes_eq}
use Rattle.std.proofs.Math.Seq.{get_or-append_seam}
use Rattle.std.proofs.lemmas.List.{append-nil, get_or_append_left}
use Rattle.std.proofs.lemmas.List.Elements.{All-push, All-nil, All-from_recursion, recursion_from_All}
use Rattle.std.proofs.lemmas.Slice.Eq.{bytes_eq-Decides}
use Rattle.preorder.specs.Name.{is_name}
use Rattle.preorder.specs.Statements.{InRange}
use Rattle.reading.proofs.Truth.{refuted}
use Rattle.rule_language.specs.declared.book.Book.{Book}
use Rattle.rule_language.specs.declared.book.Rule.{Rule}
use Rattle.rule_language.specs.declared.limits.TheConstants.{MAX_PARTS}
use Rattle.preorder.specs.declared.limits.TheConstants.{MAX_RULES}
use Rattle.rule_language.specs.Names.{AreDifferent}
use Rattle.rule_language.specs.Parts.{IsPart}
use Rattle.rule_language.specs.Books.{IsRule, IsBook}
use Rattle.rule_language.proofs.Names.{different_more}

-- no rule has the name
abbrev pub NotNamed : List ℕ → List Rule → Type 0
NotNamed name [] = Unit {0}
NotNamed name (r ∷ rs) = (bytes_eq r.name name ≡ false) × NotNamed name rs

-- a rule that may follow the rules before it
pub record MayFollow (done : List Rule) (r : Rule) : Type 0 where
  pub named : is_name r.name ≡ true
  pub new : NotNamed r.name done
  pub few : length done < MAX_RULES
  pub few_parts : length r.parts ≤ MAX_PARTS
  pub parts : AllByRecursion (IsPart r.name) r.parts

abbrev pub AreRules : List Rule → List Rule → Type 0
AreRules done [] = Unit {0}
AreRules done (r ∷ rs) = MayFollow done r × AreRules (done ++ r ∷ []) rs

pub record OneByOne (b : Book) : Type 0 where
  pub some : 1 ≤ length b.rules
  pub rules : AreRules [] b.rules
  pub statements : AllByRecursion (InRange (length b.rules)) b.statements

-- the rules of a well-formed book, as far as they are read
record SoFar (rules : List Rule) : Type 0 where
  few : length rules ≤ MAX_RULES
  each : All IsRule rules
  different : AreDifferent (λ (r : Rule). r.name) rules

-- ---- names

at_each : (name : List ℕ) (done : List Rule) → NotNamed name done → (k : ℕ) (d : Rule) → k < length done → bytes_eq (get_or done k d).name name ≡ false
at_each name [] h k d lt = absurd (omega arith)
at_each name (r ∷ done) h zero d lt = h.0
at_each name (r ∷ done) h (suc k) d lt = at_each name done h.1 k d (omega arith)

nowhere : (name : List ℕ) (done : List Rule) → ((k : ℕ) (d : Rule) → k < length done → bytes_eq (get_or done k d).name name ≡ false) → NotNamed name done
nowhere name [] h = tt
nowhere name (r ∷ done) h = (h 0 r (omega arith), nowhere name done (λ k d lt. h (suc k) d (omega (arith, lt))))

-- ---- one after the other, so well formed

grown : (done : List Rule) (r : Rule) → SoFar done → MayFollow done r → SoFar (done ++ r ∷ [])
grown done r s h = record {
  few = omega (arith, h.few, length-append done (r ∷ []));
  each = All-push IsRule done r s.each (record { name = h.named; few = h.few_parts; parts = All-from_recursion (IsPart r.name) r.parts h.parts });
  different = different_more (λ (q : Rule). q.name) done r s.different (at_each r.name done h.new);
}

so_far : (rs done : List Rule) → SoFar done → AreRules done rs → SoFar (done ++ rs)
so_far [] done s h = subst SoFar (sym (append-nil done)) s
so_far (r ∷ rs) done s h = subst SoFar (append_assoc done (r ∷ []) rs) (so_far rs (done ++ r ∷ []) (grown done r s h.0) h.1)

none : SoFar []
none = record { few = omega arith; each = All-nil IsRule; different = λ i j d below inside. absurd (omega (arith, below, inside)) }

pub is_book : (b : Book) → OneByOne b → IsBook b
is_book b h =
    let s = so_far b.rules [] none h.rules in
    record { some = h.some; few = s.few; rules = s.each; different = s.different; statements = All-from_recursion (InRange (length b.rules)) b.statements h.statements }

-- ---- well formed, so one after the other

new_name : (r : Rule) (done rs : List Rule) → AreDifferent (λ (q : Rule). q.name) (done ++ r ∷ rs) → (k : ℕ) (d : Rule) → k < length done → bytes_eq (get_or done k d).name r.name ≡ false
new_name r done rs different k d lt = refuted (bytes_eq (get_or done k d).name r.name) (λ e.
    let same : (get_or done k d).name ≡ r.name = (bytes_eq-Decides (get_or done k d).name r.name).0 e in
    let first = ap (λ (q : Rule). q.name) (get_or_append_left done (r ∷ rs) d k lt) in
    let second = ap (λ (q : Rule). q.name) (get_or-append_seam done r rs d) in
    different k (length done) d lt (omega (arith, length-append done (r ∷ rs))) (first ∙ same ∙ sym second))

follows : (r : Rule) (done rs : List Rule) → SoFar (done ++ r ∷ rs) → MayFollow done r
follows r done rs s =
    let is : IsRule r = subst IsRule (get_or-append_seam done r rs r) (s.each (length done) r (omega (arith, length-append done (r ∷ rs)))) in
    record {
      named = is.name;
      new = nowhere r.name done (new_name r done rs s.different);
      few = omega (arith, s.few, length-append done (r ∷ rs));
      few_parts = is.few;
      parts = recursion_from_All (IsPart r.name) r.parts is.parts;
    }

each_follows : (rs done : List Rule) → SoFar (done ++ rs) → AreRules done rs
each_follows [] done s = tt
each_follows (r ∷ rs) done s = (follows r done rs s, each_follows rs (done ++ r ∷ []) (subst SoFar (sym (append_assoc done (r ∷ []) rs)) s))

pub one_by_one : (b : Book) → IsBook b → OneByOne b
one_by_one b h = record {
  some = h.some;
  rules = each_follows b.rules [] (record { few = h.few; each = h.rules; different = h.different });
  statements = recursion_from_All (InRange (length b.rules)) b.statements h.statements;
}
