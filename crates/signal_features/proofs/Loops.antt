-- A loop over items: what is kept of them, and what is read of them.
use Rattle.std.proofs.Common.{◌≡◌, ◌∙◌, ℕ, suc, ◌+◌, ◌<◌, ◌≤◌, List, [], ◌∷◌, ◌++◌, length, get_or, take, drop, Option, Some, None, Result, Ok, Err, refl, sym, ap, add-one, drop-cons}
use Rattle.std.proofs.Common.{append_assoc}
use Rattle.std.specs.List.{filter_map}
use Rattle.std.specs.Option.{option_map}
use Rattle.std.proofs.lemmas.List.{append-nil, drop_all, take_more}
use Rattle.std.proofs.lemmas.List.Elements.{filter_map-append}
use Rattle.element_tree.specs.Pieces.{◌>>?◌}
use Rattle.reading.specs.Reading.{read_all}
use Rattle.signal_features.specs.Forms.{each_of}

pub kept_more : {X Y : Type 0} (h : X → Option Y) (xs : List X) (i : ℕ) (d : X) (y : Y) → i < length xs → h (get_or xs i d) ≡ Some y
    → filter_map h (take (i + 1) xs) ≡ filter_map h (take i xs) ++ y ∷ []
kept_more h xs i d y lt e =
    ap (filter_map h) (take_more xs i d lt) ∙ filter_map-append h (take i xs) (get_or xs i d ∷ []) ∙ rw e refl

pub kept_same : {X Y : Type 0} (h : X → Option Y) (xs : List X) (i : ℕ) (d : X) → i < length xs → h (get_or xs i d) ≡ None
    → filter_map h (take (i + 1) xs) ≡ filter_map h (take i xs)
kept_same h xs i d lt e =
    ap (filter_map h) (take_more xs i d lt) ∙ filter_map-append h (take i xs) (get_or xs i d ∷ []) ∙ rw e (append-nil (filter_map h (take i xs)))

next_item : {X : Type 0} (xs : List X) (i : ℕ) (d : X) → i < length xs → drop i xs ≡ get_or xs i d ∷ drop (i + 1) xs
next_item xs i d lt = rw (add-one) (drop-cons xs i d lt)

pub items_go_on : {X S F : Type 0} (step : X → S → Result S F) (xs : List X) (i : ℕ) (d : X) (s t : S) → i < length xs → step (get_or xs i d) s ≡ Ok t
    → read_all step (drop i xs) s ≡ read_all step (drop (i + 1) xs) t
unfolding read_all
items_go_on step xs i d s t lt h = rw (next_item xs i d lt, h) refl

pub items_stop : {X S F : Type 0} (step : X → S → Result S F) (xs : List X) (i : ℕ) (d : X) (s : S) (f : F) → i < length xs → step (get_or xs i d) s ≡ Err f
    → read_all step (drop i xs) s ≡ Err f
unfolding read_all
items_stop step xs i d s f lt h = rw (next_item xs i d lt, h) refl

pub items_done : {X S F : Type 0} (step : X → S → Result S F) (xs : List X) (i : ℕ) (s : S) → length xs ≤ i → read_all step (drop i xs) s ≡ Ok s
unfolding read_all
items_done step xs i s le = rw (drop_all i xs le) refl

-- what was read before, and what is still read
abbrev pub with_front : {Y : Type 0} → List Y → Option (List Y) → Option (List Y)
with_front ys read = option_map (λ zs. ys ++ zs) read

regroup : {Y : Type 0} (ys : List Y) (y : Y) (read : Option (List Y)) → with_front ys (read >>? λ zs. Some (y ∷ zs)) ≡ with_front (ys ++ y ∷ []) read
regroup ys y (Some zs) = ap (λ ws. Some ws) (sym (append_assoc ys (y ∷ []) zs))
regroup ys y None = refl

pub each_goes_on : {X Y : Type 0} (read : X → Option Y) (xs : List X) (i : ℕ) (d : X) (ys : List Y) (y : Y) → i < length xs → read (get_or xs i d) ≡ Some y
    → with_front ys (each_of read (drop i xs)) ≡ with_front (ys ++ y ∷ []) (each_of read (drop (i + 1) xs))
unfolding each_of
each_goes_on read xs i d ys y lt h = rw (next_item xs i d lt, h) (regroup ys y (each_of read (drop (i + 1) xs)))

pub each_stops : {X Y : Type 0} (read : X → Option Y) (xs : List X) (i : ℕ) (d : X) (ys : List Y) → i < length xs → read (get_or xs i d) ≡ None
    → with_front ys (each_of read (drop i xs)) ≡ None
unfolding each_of
each_stops read xs i d ys lt h = rw (next_item xs i d lt, h) refl

pub each_done : {X Y : Type 0} (read : X → Option Y) (xs : List X) (i : ℕ) (ys : List Y) → length xs ≤ i → with_front ys (each_of read (drop i xs)) ≡ Some ys
unfolding each_of
each_done read xs i ys le = rw (drop_all i xs le) (ap (λ ws. Some ws) (append-nil ys))
