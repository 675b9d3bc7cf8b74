-- A file is refused by its first item with a fault, and where there is one it is refused.
use Rattle.std.proofs.Common.{◌≡◌, ℕ, ◌+◌, Bool, List, [], ◌∷◌, length, Result, Ok, Err, refl, ap}
use Rattle.std.proofs.Common.{◌∙◌, arith}
use Rattle.reading.specs.Reading.{◌>>=◌, Gives, read_numbered, read_all, IsFirstFault}
use Rattle.std.specs.Result.{IfErr}
use Rattle.std.specs.Bool.{OnFalse}
use Rattle.reading.proofs.ReadingLaws.{handed_on}

at_item : {X S F : Type 0} (step : ℕ → X → S → Result S F) (n : ℕ) (item : X) (items : List X) (s : S)
    (f : F) (r : Result S F) → step n item s ≡ r
    → ((t : S) → read_numbered step (n + 1) items t ≡ Err f → IsFirstFault step (n + 1) items t f)
    → (r >>= read_numbered step (n + 1) items) ≡ Err f → IsFirstFault step n (item ∷ items) s f
unfolding read_numbered
at_item step n item items s f (Ok t) h again e =
    let k = again t e in
    let m : n + 1 + length k.before ≡ n + length (item ∷ k.before) = omega arith in
    record {
      before = item ∷ k.before;
      item = k.item;
      after = k.after;
      state = k.state;
      cut = ap (λ xs. item ∷ xs) k.cut;
      fine = rw h k.fine;
      refused = rw (← m) k.refused;
    }
at_item {X} step n item items s f (Err g) h again e =
    let m : n + length {A = X} [] ≡ n = omega arith in
    record {
      before = [];
      item = item;
      after = items;
      state = s;
      cut = refl;
      fine = refl;
      refused = rw m (h ∙ e);
    }

pub first_fault : {X S F : Type 0} (step : ℕ → X → S → Result S F) (n : ℕ) (items : List X) (s : S)
    (f : F) → read_numbered step n items s ≡ Err f → IsFirstFault step n items s f
unfolding read_numbered
first_fault step n [] s f e = absurd cc
first_fault step n (item ∷ items) s f e =
    at_item step n item items s f (step n item s) refl (λ t. first_fault step (n + 1) items t f) e

pub first_of : {X Y S F : Type 0} (is_free : F → Bool) (view : X → S) (r : Result X F)
    (step : ℕ → Y → S → Result S F) (n : ℕ) (items : List Y) (s : S)
    → Gives is_free view r (read_numbered step n items s)
    → IfErr r (λ e. OnFalse (is_free e) (IsFirstFault step n items s e))
first_of is_free view (Ok x) step n items s h = tt
first_of is_free view (Err e) step n items s h =
    handed_on (is_free e) (first_fault step n items s e) h

on_both : {S F : Type 0} {f g : S → Result S F} (r : Result S F) → ((t : S) → f t ≡ g t)
    → (r >>= f) ≡ (r >>= g)
on_both (Ok t) same = same t
on_both (Err e) same = refl

-- items that are read without their numbers
pub all_numbered : {X S F : Type 0} (step : X → S → Result S F) (n : ℕ) (items : List X) (s : S)
    → read_numbered (λ (_ : ℕ). step) n items s ≡ read_all step items s
unfolding read_numbered read_all
all_numbered step n [] s = refl
all_numbered step n (item ∷ items) s =
    on_both (step item s) (λ t. all_numbered step (n + 1) items t)

pub first_of_all : {X Y S F : Type 0} (is_free : F → Bool) (view : X → S) (r : Result X F)
    (step : Y → S → Result S F) (items : List Y) (s : S)
    → Gives is_free view r (read_all step items s)
    → IfErr r (λ e. OnFalse (is_free e) (IsFirstFault (λ (_ : ℕ). step) 0 items s e))
first_of_all is_free view (Ok x) step items s h = tt
first_of_all is_free view (Err e) step items s h =
    handed_on (is_free e) (λ k. first_fault (λ (_ : ℕ). step) 0 items s e (all_numbered step 0 items s ∙ k)) h
