-- Placements whose ticks rise by one are found by their places.
use Rattle.std.proofs.Common.{◌≡◌, ℕ, zero, suc, ◌+◌, ◌<◌, ◌==◌, Bool, true, false, cond, List, [], ◌∷◌, ◌++◌, length, take, get_or, refl, sym, ap, subst, ◌∙◌, arith}
use Rattle.std.specs.Prelude.{None, Some, find, slice_get}
use Rattle.std.proofs.lemmas.Bool.{eq-eqb, ne_eqb}
use Rattle.std.proofs.lemmas.List.{take_more, length-take-le}
use Rattle.moving_obstacles.specs.declared.track.Placement.{Placement}
use Rattle.moving_obstacles.specs.Ticks.{RiseFrom}

rise_append : (first : ℕ) (xs : List Placement) (p : Placement) → RiseFrom first xs → p.pose.tick ≡ first + length xs → RiseFrom first (xs ++ p ∷ [])
rise_append first [] p h e = (omega (arith, e), tt)
rise_append first (x ∷ xs) p h e = (h.0, rise_append (suc first) xs p h.1 (omega (arith, e)))

-- one placement more
pub rise_more : (first i : ℕ) (xs : List Placement) (p : Placement) → i < length xs → RiseFrom first (take i xs) → p ≡ get_or xs i p → p.pose.tick ≡ first + i → RiseFrom first (take (i + 1) xs)
rise_more first i xs p h held here e =
    let long : length (take i xs) ≡ i = length-take-le i xs (omega (arith, h)) in
    let more : take (i + 1) xs ≡ take i xs ++ p ∷ [] = take_more xs i p h ∙ ap (λ (q : Placement). take i xs ++ q ∷ []) (sym here) in
    subst (RiseFrom first) (sym more) (rise_append first (take i xs) p held (omega (arith, e, long)))

-- none has a tick before the first
pub found_before : (first tick : ℕ) (xs : List Placement) → RiseFrom first xs → tick < first → find (λ (p : Placement). p.pose.tick == tick) xs ≡ None
found_before first tick [] h before = refl
found_before first tick (x ∷ xs) h before =
    let other : (x.pose.tick == tick) ≡ false = ne_eqb x.pose.tick tick (λ e. omega (arith, e, h.0, before)) in
    ap (λ (b : Bool). cond b (Some x) (find (λ (p : Placement). p.pose.tick == tick) xs)) other ∙ found_before (suc first) tick xs h.1 (omega (arith, before))

found_at : (first k tick : ℕ) (xs : List Placement) → RiseFrom first xs → tick ≡ first + k → find (λ (p : Placement). p.pose.tick == tick) xs ≡ slice_get xs k
found_at first k tick [] h e = refl
found_at first zero tick (x ∷ xs) h e =
    let same : (x.pose.tick == tick) ≡ true = eq-eqb x.pose.tick tick (omega (arith, e, h.0)) in
    ap (λ (b : Bool). cond b (Some x) (find (λ (p : Placement). p.pose.tick == tick) xs)) same
found_at first (suc k) tick (x ∷ xs) h e =
    let other : (x.pose.tick == tick) ≡ false = ne_eqb x.pose.tick tick (λ same. omega (arith, e, h.0, same)) in
    ap (λ (b : Bool). cond b (Some x) (find (λ (p : Placement). p.pose.tick == tick) xs)) other ∙ found_at (suc first) k tick xs h.1 (omega (arith, e))

-- the placement of a tick is as many places from the first as its tick
pub found_from : (first tick k : ℕ) (xs : List Placement) → RiseFrom first xs → tick ≡ first + k → slice_get xs k ≡ find (λ (p : Placement). p.pose.tick == tick) xs
found_from first tick k xs h e = sym (found_at first k tick xs h e)
