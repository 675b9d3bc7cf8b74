-- What reading gives: a value, or the first fault. Shared by all readers; this project's own.
use Rattle.std.specs.Prelude.{◌≡◌, ℕ, ◌+◌, Bool, List, [], ◌∷◌, ◌++◌, Result, Ok, Err, length}
use Rattle.std.specs.Bool.{OnFalse}

-- then: what f makes of the value, or the fault
infixl 10 ◌>>=◌
abbrev pub ◌>>=◌ : {F A B : Type 0} → Result A F → (A → Result B F) → Result B F
(Ok x) >>= f = f x
(Err e) >>= f = Err e

-- What a call returned, seen by view, is what reading gives. A fault that is_free may come at any
-- time.
abbrev pub Gives : {X Y F : Type 0} → (F → Bool) → (X → Y) → Result X F → Result Y F → Type 0
Gives is_free view (Ok x) read = read ≡ Ok (view x)
Gives is_free view (Err e) read = OnFalse (is_free e) (read ≡ Err e)

-- Reads items one after the other, the first of them the n-th of its file, from what was read so
-- far.
unfoldable pub read_numbered : {X S F : Type 0}
    → (ℕ → X → S → Result S F) → ℕ → List X → S → Result S F
read_numbered step n [] s = Ok s
read_numbered step n (x ∷ xs) s = step n x s >>= read_numbered step (n + 1) xs

-- Reads items one after the other, from what was read so far.
unfoldable pub read_all : {X S F : Type 0} → (X → S → Result S F) → List X → S → Result S F
read_all step [] s = Ok s
read_all step (x ∷ xs) s = step x s >>= read_all step xs

-- Reads each item, in order.
unfoldable pub read_each : {X Y F : Type 0} → (X → Result Y F) → List X → Result (List Y) F
read_each read [] = Ok []
read_each read (x ∷ xs) = read x >>= λ y. read_each read xs >>= λ ys. Ok (y ∷ ys)

-- The first fault: the items before it were all read, and then this item was refused, by its number
-- and what was read so far.
pub record IsFirstFault {X S F : Type 0} (step : ℕ → X → S → Result S F) (n : ℕ) (items : List X)
    (s : S) (f : F) : Type 0 where
  pub before : List X
  pub item : X
  pub after : List X
  pub state : S
  pub cut : items ≡ before ++ item ∷ after
  pub fine : read_numbered step n before s ≡ Ok state
  pub refused : step (n + length before) item state ≡ Err f
