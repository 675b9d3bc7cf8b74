-- One rule more in a well-formed book, and further statements.
use Rattle.std.specs.Prelude.{◌≡◌, ◌≢◌, ℕ, ◌<◌, ◌≤◌, Bool, false, List, [], ◌∷◌, ◌++◌, IsTrue, All, length, is_some, take, drop}
use Rattle.std.specs.List.{filter, flat_map, list_all}
use Rattle.std.specs.Str.{bytes_eq}
use Rattle.std.proofs.Common.{◌∙◌, ⊎_elim, sym, ap, subst, zero, suc, arith, get_or}
use Rattle.std.proofs.lemmas.Bool.{and_parts, both_ways, cases_Bool, false≢true, cond-true, cond-false}
use Rattle.std.proofs.lemmas.List.{take-append-drop, get_or_default}
use Rattle.std.proofs.lemmas.List.Elements.{All-nil, All-cons, All-head, All-tail, All-append, filter-append}
use Rattle.std.proofs.lemmas.List.Kept.{AllPairs-cons}
use Rattle.std.proofs.lemmas.Slice.Eq.{bytes_eq-Decides}
use Rattle.preorder.specs.Statements.{InRange}
use Rattle.rule_language.specs.Books.{place_of, nameless, IsBook}
use Rattle.rule_language.specs.Names.{AreDifferent}
use Rattle.rule_language.specs.declared.book.Book.{Book}
use Rattle.rule_language.specs.declared.book.Rule.{Rule}
use Rattle.book_operations.specs.Images.{rule_at}
use Rattle.book_operations.proofs.Placed.{position-none, option-cases}
use Rattle.book_operations.proofs.Summands.{Distinct, distinct}

-- ---- one item between others

pub all-between : {X : Type 0} (P : X → Type 0) (front back : List X) (x : X) → All P (front ++ back) → P x → All P (front ++ x ∷ back)
all-between P [] back x h p = All-cons P x back p h
all-between P (y ∷ front) back x h p = All-cons P y (front ++ x ∷ back) (All-head P y (front ++ back) h) (all-between P front back x (All-tail P y (front ++ back) h) p)

distinct-between : (front back : List Rule) (new : Rule) → Distinct (front ++ back) → All (λ (q : Rule). q.name ≢ new.name) (front ++ back) → Distinct (front ++ new ∷ back)
distinct-between [] back new d apart = (apart, d)
distinct-between (r ∷ front) back new d apart = (
  all-between (λ (q : Rule). q.name ≢ r.name) front back new d.0 (λ e. All-head (λ (q : Rule). q.name ≢ new.name) r (front ++ back) apart (sym e)),
  distinct-between front back new d.1 (All-tail (λ (q : Rule). q.name ≢ new.name) r (front ++ back) apart),
)

different : (rules : List Rule) → Distinct rules → AreDifferent (λ (rule : Rule). rule.name) rules
different [] d = λ i j x lt h. absurd (omega (arith, lt, h))
different (r ∷ rs) d = AllPairs-cons (λ (a b : Rule). a.name ≢ b.name) r rs (λ k x h e. d.0 k x h (sym e)) (different rs d.1)

pub different-between : (front back : List Rule) (new : Rule) → AreDifferent (λ (rule : Rule). rule.name) (front ++ back) → All (λ (q : Rule). q.name ≢ new.name) (front ++ back) → AreDifferent (λ (rule : Rule). rule.name) (front ++ new ∷ back)
different-between front back new d apart = different (front ++ new ∷ back) (distinct-between front back new (distinct (front ++ back) d) apart)

-- ---- names that no rule has

pub apart : (name : List ℕ) (rules : List Rule) → is_some (place_of name rules) ≡ false → All (λ (q : Rule). q.name ≢ name) rules
unfolding place_of
apart name rules e k d h same =
    ⊎_elim
    (λ none.
    let at : (rule_at rules k).name ≡ name = ap (λ (q : Rule). q.name) (get_or_default rules k nameless d h) ∙ same in
    both_ways _ (position-none (λ q. bytes_eq q.name name) rules none k h) ((bytes_eq-Decides _ _).1 at))
    (λ some. false≢true (sym e ∙ ap is_some some.1))
    (option-cases (place_of name rules))

-- ---- filters

module _ {X : Type 0} (p : X → Bool) where
  pub filter-passes : (xs : List X) → All (λ x. IsTrue (p x)) (filter p xs)
  filter-passes [] = All-nil (λ x. IsTrue (p x))
  filter-passes (x ∷ xs) =
      ⊎_elim
      (λ yes. subst (All (λ x. IsTrue (p x))) (sym (cond-true {A = List X} (p x) (x ∷ filter p xs) (filter p xs) yes)) (All-cons (λ x. IsTrue (p x)) x (filter p xs) yes (filter-passes xs)))
      (λ no. subst (All (λ x. IsTrue (p x))) (sym (cond-false {A = List X} (p x) (x ∷ filter p xs) (filter p xs) no)) (filter-passes xs))
      (cases_Bool (p x))

  pub filter-halves : (n : ℕ) (xs : List X) → filter p (take n xs) ++ filter p (drop n xs) ≡ filter p xs
  filter-halves n xs = sym (filter-append p (take n xs) (drop n xs)) ∙ ap (filter p) (take-append-drop n xs)

  pub filter-shorter : (xs : List X) → length (filter p xs) ≤ length xs
  filter-shorter [] = omega arith
  filter-shorter (x ∷ xs) =
      ⊎_elim
      (λ yes. omega (arith, ap (length {A = X}) (cond-true {A = List X} (p x) (x ∷ filter p xs) (filter p xs) yes), filter-shorter xs))
      (λ no. omega (arith, ap (length {A = X}) (cond-false {A = List X} (p x) (x ∷ filter p xs) (filter p xs) no), filter-shorter xs))
      (cases_Bool (p x))

  -- where one item fails, the filter is shorter
  pub filter-drops : (xs : List X) (i : ℕ) (d : X) → i < length xs → p (get_or xs i d) ≡ false → length (filter p xs) < length xs
  filter-drops [] i d h e = absurd (omega (arith, h))
  filter-drops (x ∷ xs) zero d h e = omega (arith, ap (length {A = X}) (cond-false {A = List X} (p x) (x ∷ filter p xs) (filter p xs) e), filter-shorter xs)
  filter-drops (x ∷ xs) (suc i) d h e =
      let less = filter-drops xs i d (omega (arith, h)) e in
      ⊎_elim
      (λ yes. omega (arith, ap (length {A = X}) (cond-true {A = List X} (p x) (x ∷ filter p xs) (filter p xs) yes), less))
      (λ no. omega (arith, ap (length {A = X}) (cond-false {A = List X} (p x) (x ∷ filter p xs) (filter p xs) no), less))
      (cases_Bool (p x))

  pub all-of : (xs : List X) → IsTrue (list_all p xs) → All (λ x. IsTrue (p x)) xs
  all-of [] h = All-nil (λ x. IsTrue (p x))
  all-of (x ∷ xs) h = let g = and_parts (p x) (list_all p xs) h in All-cons (λ x. IsTrue (p x)) x xs g.0 (all-of xs g.1)

pub all-flat : {X Y : Type 0} (P : Y → Type 0) (f : X → List Y) (xs : List X) → All (λ x. All P (f x)) xs → All P (flat_map f xs)
all-flat P f [] h = All-nil P
all-flat P f (x ∷ xs) h = All-append P (f x) (flat_map f xs) (All-head (λ x. All P (f x)) x xs h) (all-flat P f xs (All-tail (λ x. All P (f x)) x xs h))

-- ---- further statements

pub with-more : (book : Book) (more : List (ℕ × ℕ)) → IsBook book → All (InRange (length book.rules)) more → IsBook (record book { statements = book.statements ++ more })
with-more book more is h = record { some = is.some; few = is.few; rules = is.rules; different = is.different; statements = All-append (InRange (length book.rules)) book.statements more is.statements h }
