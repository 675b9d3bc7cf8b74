-- What is in a list of different items into which others are inserted.
use Rattle.std.proofs.Common.{◌≡◌, ℕ, zero, suc, ◌≤◌, Bool, true, false, List, [], ◌∷◌, ◌++◌, length, refl, sym, ap, ◌∙◌, subst, arith, inl, inr, take}
use Rattle.std.specs.Cmp.{IsEquivalence}
use Rattle.std.specs.List.{list_any}
use Rattle.std.specs.Prelude.{All, AllPairs, Contains, ◌≢◌}
use Rattle.std.proofs.lemmas.Bool.{cases_Bool}
use Rattle.std.proofs.lemmas.List.Elements.{Contains-append_left, Contains-get_or, All-push}
use Rattle.std.proofs.lemmas.List.{length-append}
use Rattle.std.proofs.lemmas.List.Quantifiers.{all_pairs_push}
use Rattle.std.proofs.lemmas.Map.Views.{list_any-from_Contains}
use Rattle.indexmap.specs.IndexSet.{insert_key, insert_all}
use Rattle.indexmap.proofs.CallerLemmas.{Contains-insert_key}

append_none : {X : Type 0} (xs : List X) → xs ≡ xs ++ []
append_none [] = refl
append_none (x ∷ xs) = ap (λ ys. x ∷ ys) (append_none xs)

append_again : {X : Type 0} (xs ys zs : List X) → (xs ++ ys) ++ zs ≡ xs ++ (ys ++ zs)
append_again [] ys zs = refl
append_again (x ∷ xs) ys zs = ap (λ rest. x ∷ rest) (append_again xs ys zs)

-- one list begins with another
pub record BeginsWith {X : Type 0} (longer shorter : List X) : Type 0 where
  pub rest : List X
  pub is : longer ≡ shorter ++ rest

pub begins_itself : {X : Type 0} (xs : List X) → BeginsWith xs xs
begins_itself xs = record { rest = []; is = append_none xs }

pub begins_further : {X : Type 0} (xs ys zs : List X) → BeginsWith ys xs → BeginsWith zs ys → BeginsWith zs xs
begins_further xs ys zs a b = record { rest = a.rest ++ b.rest; is = b.is ∙ (ap (λ l. l ++ b.rest) a.is ∙ append_again xs a.rest b.rest) }

pub contains_begun : {X : Type 0} (xs ys : List X) (x : X) → BeginsWith ys xs → Contains xs x → Contains ys x
contains_begun xs ys x b h = subst (λ l. Contains l x) (sym b.is) (Contains-append_left xs b.rest x h)

module _ {X : Type 0} (eq : X → X → Bool) where
  begins_insert : (xs : List X) (x : X) → BeginsWith (insert_key eq xs x) xs
  begins_insert xs x = elim (cases_Bool (list_any (eq x) xs)) [
    | inl there ↦ record { rest = []; is = rw there (append_none xs) }
    | inr new ↦ record { rest = x ∷ []; is = rw new refl }
  ]

  pub begins_inserted : (xs ys : List X) → BeginsWith (insert_all eq xs ys) xs
  begins_inserted xs [] = begins_itself xs
  begins_inserted xs (y ∷ ys) = begins_further xs (insert_key eq xs y) (insert_all eq (insert_key eq xs y) ys) (begins_insert xs y) (begins_inserted (insert_key eq xs y) ys)

  All-insert : (P : X → Type 0) (xs : List X) (x : X) → All P xs → P x → All P (insert_key eq xs x)
  All-insert P xs x all p = elim (cases_Bool (list_any (eq x) xs)) [ inl there ↦ rw there all | inr new ↦ rw new (All-push P xs x all p) ]

  module _ (laws : IsEquivalence eq) (same : (x y : X) → eq x y ≡ true → x ≡ y) where
    once_inserted : (xs : List X) (x : X) → AllPairs (λ a b. a ≢ b) xs → AllPairs (λ a b. a ≢ b) (insert_key eq xs x)
    once_inserted xs x once = elim (cases_Bool (list_any (eq x) xs)) [
      | inl there ↦ rw there once
      | inr new ↦ rw new (all_pairs_push (λ a b. a ≢ b) xs x once (λ k d below e. differs (sym (list_any-from_Contains laws x xs (subst (Contains xs) e (Contains-get_or xs k d below))) ∙ new)))
    ]
      where
        differs : true ≡ false → ⊥
        differs e = absurd cc

    pub all_once_inserted : (xs ys : List X) → AllPairs (λ a b. a ≢ b) xs → AllPairs (λ a b. a ≢ b) (insert_all eq xs ys)
    all_once_inserted xs [] once = once
    all_once_inserted xs (y ∷ ys) once = all_once_inserted (insert_key eq xs y) ys (once_inserted xs y once)

  module _ (same : (x y : X) → eq x y ≡ true → x ≡ y) where
    pub contains_inserted : (xs ys : List X) (x : X) → Contains ys x → Contains (insert_all eq xs ys) x
    contains_inserted xs [] x h = absurd (omega arith)
    contains_inserted xs (y ∷ ys) x (zero, below, at) =
        contains_begun (insert_key eq xs y) (insert_all eq (insert_key eq xs y) ys) x (begins_inserted (insert_key eq xs y) ys) (subst (Contains (insert_key eq xs y)) at (Contains-insert_key eq same xs y))
    contains_inserted xs (y ∷ ys) x (suc k, below, at) = contains_inserted (insert_key eq xs y) ys x (k, omega arith, at)

  pub All-inserted : (P : X → Type 0) (xs ys : List X) → All P xs → All P ys → All P (insert_all eq xs ys)
  All-inserted P xs [] all more = all
  All-inserted P xs (y ∷ ys) all more = All-inserted P (insert_key eq xs y) ys (All-insert P xs y all (more 0 y (omega arith))) (λ k d below. more (suc k) d (omega arith))

module _ {X : Type 0} (eq : X → X → Bool) where
  pub longer_begun : (xs ys : List X) → BeginsWith ys xs → length xs ≤ length ys
  longer_begun xs ys b = omega (arith, ap length b.is ∙ length-append xs b.rest)

  -- the more are inserted, the longer the list
  pub inserted_longer : (xs ys : List X) (i : ℕ) → length (insert_all eq xs (take i ys)) ≤ length (insert_all eq xs ys)
  inserted_longer xs ys zero = longer_begun xs (insert_all eq xs ys) (begins_inserted eq xs ys)
  inserted_longer xs [] (suc i) = omega arith
  inserted_longer xs (y ∷ ys) (suc i) = inserted_longer (insert_key eq xs y) ys i
