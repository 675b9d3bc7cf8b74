-- Lines one after the other.
use Rattle.std.proofs.Common.{◌≡◌, ℕ, List, [], ◌∷◌, ◌++◌, length, map, take, drop, get_or, ◌-◌, ◌<◌, ◌≤◌, refl, sym, ◌∙◌, ap, subst, append_assoc, arith}
use Rattle.std.specs.Prelude.{All}
use Rattle.std.proofs.lemmas.List.Elements.{All-tail}
use Rattle.preorder.specs.declared.row.Row.{Row}
use Rattle.std.proofs.lemmas.List.{append-nil, take_all}
use Rattle.rule_language.specs.declared.book.Book.{Book}
use Rattle.rulebook_order.specs.NoWorseUnder.{IsAbove, IsVerdictUnder}
use Rattle.rulebook_order.proofs.Unique.{IsVerdict-unique}
use Rattle.rulebook_commands.specs.Compare.{AreLines, AddsLines, IsPairLine, pair_line}
use Rattle.rulebook_order.specs.Pairs.{later_pairs}

module _ {X : Type 0} (IsLine : X → List ℕ → Type 0) where
  pub lines_join : (xs ys : List X) (s t : List ℕ) → AreLines IsLine xs s → AreLines IsLine ys t → AreLines IsLine (xs ++ ys) (s ++ t)
  lines_join [] ys s t h k = rw h k
  lines_join (x ∷ xs) ys s t h k = (h.0, h.1 ++ t, h.2, lines_join xs ys h.1 t h.3 k, ap (λ (l : List ℕ). l ++ t) h.4 ∙ append_assoc h.0 h.1 t)

  pub adds_none : (old : List ℕ) → AddsLines IsLine [] old old
  adds_none old = record { added = []; lines = refl; appended = sym (append-nil old) }

  pub adds_one : (x : X) (old line new : List ℕ) → IsLine x line → new ≡ old ++ line → AddsLines IsLine (x ∷ []) old new
  adds_one x old line new h e = record { added = line; lines = (line, [], h, refl, sym (append-nil line)); appended = e }

  pub adds_more : (xs ys : List X) (old mid new : List ℕ) → AddsLines IsLine xs old mid → AddsLines IsLine ys mid new → AddsLines IsLine (xs ++ ys) old new
  adds_more xs ys old mid new h k = record {
    added = h.added ++ k.added;
    lines = lines_join xs ys h.added k.added h.lines k.lines;
    appended = k.appended ∙ ap (λ (l : List ℕ). l ++ k.added) h.appended ∙ append_assoc old h.added k.added;
  }

-- another way to say what a line is
pub lines_agree : {X : Type 0} (P Q : X → List ℕ → Type 0) → ((x : X) (line : List ℕ) → P x line → Q x line) → (xs : List X) (text : List ℕ) → AreLines P xs text → AreLines Q xs text
lines_agree P Q go [] text h = h
lines_agree P Q go (x ∷ xs) text h = (h.0, h.1, go x h.0 h.2, lines_agree P Q go xs h.1 h.3, h.4)

-- where each item has one line, the items have one text
pub lines_unique : {X : Type 0} (P : X → List ℕ → Type 0) → ((x : X) (s t : List ℕ) → P x s → P x t → s ≡ t) → (xs : List X) (s t : List ℕ) → AreLines P xs s → AreLines P xs t → s ≡ t
lines_unique P one [] s t h k = h ∙ sym k
lines_unique P one (x ∷ xs) s t h k =
    let first : h.0 ≡ k.0 = one x h.0 k.0 h.2 k.2 in
    let rest : h.1 ≡ k.1 = lines_unique P one xs h.1 k.1 h.3 k.3 in
    h.4 ∙ ap (λ (l : List ℕ). l ++ h.1) first ∙ ap (λ (l : List ℕ). k.0 ++ l) rest ∙ sym k.4

-- The lines of some pairs are written, and those of the rows that are left are still to come.
pub record IsComparedTo (IsLine : Row × Row → List ℕ → Type 0) (width : ℕ) (rows rest : List Row) (text : List ℕ) : Type 0 where
  pub before : List (Row × Row)
  pub lines : AddsLines IsLine before [] text
  pub whole : before ++ later_pairs rest ≡ later_pairs rows
  pub wide : All (λ (row : Row). length row.values ≡ width) rest

pub compared_more : (IsLine : Row × Row → List ℕ → Type 0) (width : ℕ) (rows rest : List Row) (first : Row) (others : List Row) (old new : List ℕ) → IsComparedTo IsLine width rows rest old → rest ≡ first ∷ others
    → AddsLines IsLine (map (λ (other : Row). (first, other)) others) old new → IsComparedTo IsLine width rows others new
compared_more IsLine width rows rest first others old new so_far is added = record {
  before = so_far.before ++ map (λ (other : Row). (first, other)) others;
  lines = adds_more IsLine so_far.before (map (λ (other : Row). (first, other)) others) [] old new so_far.lines added;
  whole = append_assoc so_far.before (map (λ (other : Row). (first, other)) others) (later_pairs others) ∙ subst (λ (r : List Row). so_far.before ++ later_pairs r ≡ later_pairs rows) is so_far.whole;
  wide = All-tail (λ (row : Row). length row.values ≡ width) first others (subst (λ (r : List Row). All (λ (row : Row). length row.values ≡ width) r) is so_far.wide);
}

pub compared_all : (IsLine : Row × Row → List ℕ → Type 0) (width : ℕ) (rows rest : List Row) (text : List ℕ) → IsComparedTo IsLine width rows rest text → rest ≡ [] → AreLines IsLine (later_pairs rows) text
compared_all IsLine width rows rest text so_far is =
    let whole : so_far.before ≡ later_pairs rows = sym (append-nil so_far.before) ∙ subst (λ (r : List Row). so_far.before ++ later_pairs r ≡ later_pairs rows) is so_far.whole in
    subst (λ (t : List ℕ). AreLines IsLine (later_pairs rows) t) (sym so_far.lines.appended) (subst (λ (ps : List (Row × Row)). AreLines IsLine ps so_far.lines.added) whole so_far.lines.lines)

pub nothing_left : {X : Type 0} (xs : List X) → length xs < 1 → xs ≡ []
nothing_left [] h = refl
nothing_left (x ∷ xs) h = absurd (omega arith)

-- the first item, and the others as the code spells them
pub split_first : {X : Type 0} (xs : List X) (d x : X) → 1 ≤ length xs → x ≡ get_or xs 0 d → xs ≡ x ∷ take (length xs - 1) (drop 1 xs)
split_first [] d x h e = absurd (omega arith)
split_first (y ∷ xs) d x h e =
    let rest : take (length (y ∷ xs) - 1) (drop 1 (y ∷ xs)) ≡ xs = take_all (length (y ∷ xs) - 1) xs (omega arith) in
    ap (λ z. z ∷ xs) (sym e) ∙ ap (λ zs. x ∷ zs) (sym rest)

-- a pair of rows has one line
pub one_pair_line : (book : Book) (pair : Row × Row) (s t : List ℕ) → IsPairLine (IsVerdictUnder book.statements (length book.rules)) book.rules pair s → IsPairLine (IsVerdictUnder book.statements (length book.rules)) book.rules pair t → s ≡ t
one_pair_line book pair s t h k = h.2 ∙ ap (pair_line book.rules pair) (IsVerdict-unique (length book.rules) (IsAbove book.statements) pair.0.values pair.1.values h.0 k.0 h.1 k.1) ∙ sym k.2
