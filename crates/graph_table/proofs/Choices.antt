-- What stands for each choice of each of some states, and where.
use Rattle.std.proofs.Common.{◌≡◌, ℕ, zero, suc, ◌<◌, ◌≤◌, ◌+◌, List, [], ◌∷◌, ◌++◌, length, refl, sym, ap, ◌∙◌, subst, arith, inl, inr, take}
use Rattle.std.specs.Prelude.{All, Contains, Some, slice_get}
use Rattle.std.proofs.lemmas.List.Elements.{All-nil, All-append, All-push, All-head, All-tail, All-cons, All-weaker, Contains-append_left, Contains-append_right}
use Rattle.std.proofs.lemmas.Bool.{cases_order}
use Rattle.std.proofs.lemmas.List.{length-append}
use Rattle.rulebook_order.specs.Graph.{Graph}
use Rattle.rulebook_order.proofs.Lists.{slice_get-append, slice_get-snoc, Contains-from_slice_get}
use Rattle.std.proofs.lemmas.Option.{same_Some}
use Rattle.graph_table.specs.Visits.{each_below, each_choice, row_for, rows_from, choices_of}
use Rattle.graph_table.specs.declared.entries.StateRow.{StateRow}

-- an element behind a list
pub slice_get-behind : {X : Type 0} (xs ys : List X) (i j : ℕ) (x : X) → slice_get ys i ≡ Some x → j ≡ length xs + i → slice_get (xs ++ ys) j ≡ Some x
slice_get-behind [] ys i j x h e = (let same : j ≡ i = omega arith in ap (slice_get ys) same ∙ h)
slice_get-behind (z ∷ xs) ys i zero x h e = absurd (omega arith)
slice_get-behind (z ∷ xs) ys i (suc j) x h e = slice_get-behind xs ys i j x h (omega arith)

append_three : {X : Type 0} (xs ys zs : List X) → (xs ++ ys) ++ zs ≡ xs ++ (ys ++ zs)
append_three [] ys zs = refl
append_three (x ∷ xs) ys zs = ap (λ rest. x ∷ rest) (append_three xs ys zs)

append_nothing : {X : Type 0} (xs : List X) → xs ++ [] ≡ xs
append_nothing [] = refl
append_nothing (x ∷ xs) = ap (λ rest. x ∷ rest) (append_nothing xs)

module _ {S X : Type 0} (f : S → ℕ → X) where
  pub length_below : (s : S) (n : ℕ) → length (each_below f s n) ≡ n
  length_below s zero = refl
  length_below s (suc n) = length-append (each_below f s n) (f s n ∷ []) ∙ (let e = length_below s n in omega arith)

  pub below_at : (s : S) (n c : ℕ) → c < n → slice_get (each_below f s n) c ≡ Some (f s c)
  below_at s zero c h = absurd (omega arith)
  below_at s (suc n) c h = elim (cases_order c n) [
    | inr (inl earlier) ↦ slice_get-append (each_below f s n) (f s n ∷ []) c (f s c) (below_at s n c earlier)
    | inr (inr later) ↦ absurd (omega arith)
    | inl last ↦ subst (λ k. slice_get (each_below f s (suc n)) k ≡ Some (f s k)) (length_below s n ∙ sym last) (subst (λ k. slice_get (each_below f s (suc n)) (length (each_below f s n)) ≡ Some (f s k)) (sym (length_below s n)) (slice_get-snoc (each_below f s n) (f s n)))
  ]

  pub All-below : (P : X → Type 0) (s : S) (n : ℕ) → ((c : ℕ) → c < n → P (f s c)) → All P (each_below f s n)
  All-below P s zero h = All-nil P
  All-below P s (suc n) h = All-push P (each_below f s n) (f s n) (All-below P s n (λ c below. h c (omega arith))) (h n (omega arith))

  pub contains_below : (s : S) (n c : ℕ) → c < n → Contains (each_below f s n) (f s c)
  contains_below s n c h = at (below_at s n c h)
    where
      at : slice_get (each_below f s n) c ≡ Some (f s c) → Contains (each_below f s n) (f s c)
      at is = Contains-from_slice_get (each_below f s n) c (f s c) is

  module _ (g : Graph S) where
    pub length_each : (states : List S) → length (each_choice g f states) ≡ choices_of g states
    length_each [] = refl
    length_each (s ∷ states) = length-append (each_below f s (g.choices s)) (each_choice g f states) ∙ (let e = length_below s (g.choices s) in let more = length_each states in omega arith)

    pub All-each : (P : X → Type 0) (states : List S) → All (λ s. (c : ℕ) → c < g.choices s → P (f s c)) states → All P (each_choice g f states)
    All-each P [] h = All-nil P
    All-each P (s ∷ states) h =
        All-append P (each_below f s (g.choices s)) (each_choice g f states) (All-below P s (g.choices s) (All-head (λ s. (c : ℕ) → c < g.choices s → P (f s c)) s states h)) (All-each P states (All-tail (λ s. (c : ℕ) → c < g.choices s → P (f s c)) s states h))

    pub contains_each : (states : List S) (s : S) (c : ℕ) → Contains states s → c < g.choices s → Contains (each_choice g f states) (f s c)
    contains_each [] s c (k, below, at) h = absurd (omega arith)
    contains_each (t ∷ states) s c (zero, below, at) h =
        let here : c < g.choices t = rw at h in
        subst (λ y. Contains (each_choice g f (t ∷ states)) (f y c)) at (Contains-append_left (each_below f t (g.choices t)) (each_choice g f states) (f t c) (contains_below t (g.choices t) c here))
    contains_each (t ∷ states) s c (suc k, below, at) h = Contains-append_right (each_below f t (g.choices t)) (each_choice g f states) (f s c) (contains_each states s c (k, omega arith, at) h)

    -- one state more
    pub each-snoc : (states : List S) (s : S) → each_choice g f (states ++ s ∷ []) ≡ each_choice g f states ++ each_below f s (g.choices s)
    each-snoc [] s = append_nothing (each_below f s (g.choices s))
    each-snoc (t ∷ states) s = ap (λ rest. each_below f t (g.choices t) ++ rest) (each-snoc states s) ∙ sym (append_three (each_below f t (g.choices t)) (each_choice g f states) (each_below f s (g.choices s)))

    -- the choices of state k begin behind those of the states before it
    pub each_at : (states : List S) (k : ℕ) (s : S) (c : ℕ) → slice_get states k ≡ Some s → c < g.choices s → slice_get (each_choice g f states) (choices_of g (take k states) + c) ≡ Some (f s c)
    each_at [] k s c at h = absurd cc
    each_at (t ∷ states) zero s c at h =
        let here : c < g.choices t = rw (same_Some t s at) h in
        let place : 0 + c ≡ c = omega arith in
        ap (slice_get (each_choice g f (t ∷ states))) place ∙ subst (λ y. slice_get (each_choice g f (t ∷ states)) c ≡ Some (f y c)) (same_Some t s at) (slice_get-append (each_below f t (g.choices t)) (each_choice g f states) c (f t c) (below_at t (g.choices t) c here))
    each_at (t ∷ states) (suc k) s c at h =
        let place : length (each_below f t (g.choices t)) + (choices_of g (take k states) + c) ≡ choices_of g (take (suc k) (t ∷ states)) + c = (let e = length_below t (g.choices t) in omega arith) in
        slice_get-behind (each_below f t (g.choices t)) (each_choice g f states) (choices_of g (take k states) + c) _ (f s c) (each_at states k s c at h) (sym place)

module _ {S : Type 0} (g : Graph S) where
  pub row_at : (n : ℕ) (states : List S) (k : ℕ) (s : S) → slice_get states k ≡ Some s → slice_get (rows_from g n states) k ≡ Some (row_for g s (n + choices_of g (take k states)))
  row_at n [] k s at = absurd cc
  row_at n (t ∷ states) zero s at = subst (λ y. Some (row_for g t n) ≡ Some (row_for g y (n + 0))) (same_Some t s at) (ap (λ m. Some (row_for g t m)) (omega arith))
  row_at n (t ∷ states) (suc k) s at = row_at (n + g.choices t) states k s at ∙ ap (λ m. Some (row_for g s m)) (omega arith)

  pub rows-snoc : (n : ℕ) (states : List S) (s : S) → rows_from g n (states ++ s ∷ []) ≡ rows_from g n states ++ row_for g s (n + choices_of g states) ∷ []
  rows-snoc n [] s = ap (λ m. row_for g s m ∷ []) (omega arith)
  rows-snoc n (t ∷ states) s = ap (λ rest. row_for g t n ∷ rest) (rows-snoc (n + g.choices t) states s ∙ ap (λ m. rows_from g (n + g.choices t) states ++ row_for g s m ∷ []) (omega arith))

  -- the choices of each row stand among those of the states
  pub rows_inside : (n : ℕ) (states : List S) → All (λ (row : StateRow). row.from + row.choices ≤ n + choices_of g states) (rows_from g n states)
  rows_inside n [] = All-nil (λ (row : StateRow). row.from + row.choices ≤ n + choices_of g [])
  rows_inside n (s ∷ states) =
      let rest = rows_inside (n + g.choices s) states in
      All-cons (λ (row : StateRow). row.from + row.choices ≤ n + choices_of g (s ∷ states)) (row_for g s n) (rows_from g (n + g.choices s) states) (omega arith)
      (All-weaker (λ (row : StateRow). row.from + row.choices ≤ n + g.choices s + choices_of g states) (λ (row : StateRow). row.from + row.choices ≤ n + choices_of g (s ∷ states)) (λ row h. omega arith) (rows_from g (n + g.choices s) states) rest)

  pub choices-append : (xs ys : List S) → choices_of g (xs ++ ys) ≡ choices_of g xs + choices_of g ys
  choices-append [] ys = omega arith
  choices-append (x ∷ xs) ys = (let e = choices-append xs ys in omega arith)
