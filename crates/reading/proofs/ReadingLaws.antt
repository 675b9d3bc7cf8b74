-- A loop over the items of a file.
use Rattle.std.proofs.Common.{◌≡◌, ℕ, suc, ◌+◌, ◌<◌, ◌≤◌, Bool, true, false, List, [], ◌∷◌, ◌++◌, length, get_or, drop, Result, Ok, Err, refl, sym, ap, map, add-one, append_assoc, drop-cons, arith}
use Rattle.std.specs.Bool.{OnFalse}
use Rattle.std.proofs.lemmas.List.{append-nil, drop_all, length-map, get_or-map}
use Rattle.reading.specs.Reading.{◌>>=◌, read_numbered, read_each}

pub items_go_on : {X S F : Type 0} (step : ℕ → X → S → Result S F) (n : ℕ) (items : List X) (s : S)
    (item : X) (rest : List X) (t : S) → items ≡ item ∷ rest → step n item s ≡ Ok t
    → read_numbered step n items s ≡ read_numbered step (n + 1) rest t
unfolding read_numbered
items_go_on step n items s item rest t e h = rw (e, h) refl

pub items_stop : {X S F : Type 0} (step : ℕ → X → S → Result S F) (n : ℕ) (items : List X) (s : S)
    (item : X) (rest : List X) (f : F) → items ≡ item ∷ rest → step n item s ≡ Err f
    → read_numbered step n items s ≡ Err f
unfolding read_numbered
items_stop step n items s item rest f e h = rw (e, h) refl

pub items_done : {X S F : Type 0} (step : ℕ → X → S → Result S F) (n : ℕ) (items : List X) (s : S)
    → items ≡ [] → read_numbered step n items s ≡ Ok s
unfolding read_numbered
items_done step n items s e = rw e refl

-- what was read before, and what is still read
abbrev pub with_front : {Y F : Type 0} → List Y → Result (List Y) F → Result (List Y) F
with_front ys read = read >>= λ zs. Ok (ys ++ zs)

regroup : {Y F : Type 0} (ys : List Y) (y : Y) (read : Result (List Y) F) → with_front ys (read >>= λ zs. Ok (y ∷ zs)) ≡ with_front (ys ++ y ∷ []) read
regroup ys y (Ok zs) = ap (λ ws. Ok ws) (sym (append_assoc ys (y ∷ []) zs))
regroup ys y (Err f) = refl

-- a loop over items that f views, at place i
next_item : {W X : Type 0} (f : W → X) (ws : List W) (i : ℕ) (d : W) → i < length ws → drop i (map f ws) ≡ f (get_or ws i d) ∷ drop (i + 1) (map f ws)
next_item f ws i d lt =
    let inside : i < length (map f ws) = omega (arith, length-map ws f) in
    rw (add-one, drop-cons (map f ws) i (f d)) (ap (λ z. z ∷ drop (suc i) (map f ws)) (get_or-map f ws i d (f d) lt))

pub each_goes_on : {W X Y F : Type 0} (read : X → Result Y F) (f : W → X) (ws : List W) (i : ℕ) (d : W) (ys : List Y) (y : Y) → i < length ws → read (f (get_or ws i d)) ≡ Ok y
    → with_front ys (read_each read (drop i (map f ws))) ≡ with_front (ys ++ y ∷ []) (read_each read (drop (i + 1) (map f ws)))
unfolding read_each
each_goes_on read f ws i d ys y lt h = rw (next_item f ws i d lt, h) (regroup ys y (read_each read (drop (i + 1) (map f ws))))

pub each_stops : {W X Y F : Type 0} (read : X → Result Y F) (f : W → X) (ws : List W) (i : ℕ) (d : W) (ys : List Y) (e : F) → i < length ws → read (f (get_or ws i d)) ≡ Err e
    → with_front ys (read_each read (drop i (map f ws))) ≡ Err e
unfolding read_each
each_stops read f ws i d ys e lt h = rw (next_item f ws i d lt, h) refl

pub each_done : {X Y F : Type 0} (read : X → Result Y F) (xs : List X) (i : ℕ) (ys : List Y) → length xs ≤ i → with_front ys (read_each read (drop i xs)) ≡ Ok ys
unfolding read_each
each_done read xs i ys le = rw (drop_all i xs le) (ap (λ ws. Ok ws) (append-nil ys))

-- a fault that is handed on
pub handed_on : {P Q : Type 0} (b : Bool) → (P → Q) → OnFalse b P → OnFalse b Q
handed_on true h p = tt
handed_on false h p = h p
