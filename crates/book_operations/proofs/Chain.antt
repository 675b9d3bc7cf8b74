-- From line to line of a script.
use Rattle.std.specs.Prelude.{◌≡◌, ℕ, ◌+◌, List, [], ◌∷◌, Option, Some, None, Result, Ok, Err, length}
use Rattle.std.proofs.Common.{◌∙◌, refl, sym, ap, subst, arith}
use Rattle.rule_language.specs.declared.book.Book.{Book}
use Rattle.book_operations.specs.Scripts.{line_child, line_multiplier, Leaves, IsLineFault, Derives, IsFirstRefused, CarriesThrough, BeatsIn, KeepsThrough, KeepsOver}
use Rattle.book_operations.specs.declared.fault.DeriveFault.{DeriveFault}
use Rattle.book_operations.specs.declared.steps.Child.{Child}

-- a line leaves one book
pub one-left : (book : Book) (made : Result (Option Child) DeriveFault) (c d : Book) → Leaves book made c → Leaves book made d → c ≡ d
one-left book (Ok None) c d h k = sym h ∙ k
one-left book (Ok (Some child)) c d h k = sym h.0 ∙ k.0
one-left book (Err fault) c d h k = absurd h

module _ (n : ℕ) (lines : List (List ℕ)) (line : List ℕ) (rest : List (List ℕ)) (cut : lines ≡ line ∷ rest) (book next : Book) (left : Leaves book (line_child n line book) next) where
  pub derives-on : (last : Book) → Derives (n + 1) rest next last → Derives n lines book last
  unfolding Derives
  derives-on last h = subst (λ (ls : List (List ℕ)). Derives n ls book last) (sym cut) (next, left, h)

  pub refused-on : (fault : DeriveFault) → IsFirstRefused (n + 1) rest next fault → IsFirstRefused n lines book fault
  unfolding Derives
  refused-on fault h =
      let place : n + 1 + length h.before ≡ n + length (line ∷ h.before) = omega arith in
      record {
        before = line ∷ h.before;
        line = h.line;
        after = h.after;
        so_far = h.so_far;
        cut = cut ∙ ap (λ (ls : List (List ℕ)). line ∷ ls) h.cut;
        fine = (next, left, h.fine);
        refused = subst (λ (m : ℕ). IsLineFault h.so_far (line_child m h.line h.so_far) fault) place h.refused;
      }

  pub keeps-on : KeepsOver book (line_multiplier line) (line_child n line book) next → (last : Book) → KeepsThrough (n + 1) rest next last → KeepsThrough n lines book last
  unfolding CarriesThrough
  keeps-on over last through x y last_x last_y cx cy beats =
      let dx = subst (λ (ls : List (List ℕ)). CarriesThrough n ls book x last_x) cut cx in
      let dy = subst (λ (ls : List (List ℕ)). CarriesThrough n ls book y last_y) cut cy in
      let ex = one-left book (line_child n line book) dx.0 next dx.2 left in
      let ey = one-left book (line_child n line book) dy.0 next dy.2 left in
      through dx.1 dy.1 last_x last_y
      (subst (λ (b : Book). CarriesThrough (n + 1) rest b dx.1 last_x) ex dx.4)
      (subst (λ (b : Book). CarriesThrough (n + 1) rest b dy.1 last_y) ey dy.4)
      (over x y dx.1 dy.1 dx.3 dy.3 beats)

pub refused-here : (n : ℕ) (lines : List (List ℕ)) (line : List ℕ) (rest : List (List ℕ)) → lines ≡ line ∷ rest → (book : Book) (fault : DeriveFault) → IsLineFault book (line_child n line book) fault → IsFirstRefused n lines book fault
unfolding Derives
refused-here n lines line rest cut book fault h =
    let place : n ≡ n + 0 = omega arith in
    record { before = []; line = line; after = rest; so_far = book; cut = cut; fine = refl; refused = subst (λ (m : ℕ). IsLineFault book (line_child m line book) fault) place h }

pub derives-none : (n : ℕ) (lines : List (List ℕ)) (book : Book) → lines ≡ [] → Derives n lines book book
unfolding Derives
derives-none n lines book e = subst (λ (ls : List (List ℕ)). Derives n ls book book) (sym e) refl

pub keeps-none : (n : ℕ) (lines : List (List ℕ)) (book : Book) → lines ≡ [] → KeepsThrough n lines book book
unfolding CarriesThrough
keeps-none n lines book e x y last_x last_y cx cy beats =
    let dx = subst (λ (ls : List (List ℕ)). CarriesThrough n ls book x last_x) e cx in
    let dy = subst (λ (ls : List (List ℕ)). CarriesThrough n ls book y last_y) e cy in
    subst (λ (u : List ℕ). BeatsIn book u last_y) dx (subst (λ (v : List ℕ). BeatsIn book x v) dy beats)
