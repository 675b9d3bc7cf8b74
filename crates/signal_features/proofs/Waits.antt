-- How long it takes until a light is not red.
use Rattle.std.proofs.Common.{◌≡◌, ◌∙◌, ℕ, zero, suc, ◌+◌, ◌-◌, ◌*◌, ◌%◌, ◌<◌, ◌≤◌, Bool, true, false, not, cond, List, [], ◌∷◌, length, get_or, Option, Some, None, refl, sym, ap, subst, arith, inl, inr, ℤ, pos}
use Rattle.std.specs.Prelude.{nat_lt, ◌-ℤ◌, ◌+ℤ◌, unsigned_abs}
use Rattle.std.specs.Int.{int_rem_euclid}
use Rattle.std.specs.List.{position, position_or_len, range_with_len, sum_by}
use Rattle.std.specs.Option.{option_map, option_map_or}
use Rattle.std.proofs.Math.Nat.{mod-eq_of_lt, mod-lt, mod-add-mod, add-mod_left, le-mul_of_pos_right}
use Rattle.std.proofs.lemmas.Bool.{cases_lt}
use Rattle.std.proofs.lemmas.Bool.Decides.{nat_tests}
use Rattle.std.proofs.lemmas.Int.{ints, int_rem_euclid_is}
use Rattle.std.proofs.lemmas.List.FromFn.{length-range_with_len, get_or-range_with_len}
use Rattle.std.proofs.lemmas.List.Sums.{position_or_len_is, sum_by-cons}
use Rattle.signal_features.specs.Lights.{cycle, is_red_at, place_at, is_red, green_in, wait_from}
use Rattle.signal_features.specs.declared.limits.TheConstants.{MAX_WAIT}
use Rattle.signal_features.specs.declared.signals.Light.{Light}
use Rattle.signal_features.specs.declared.signals.Phase.{Phase}

-- ---- places

ints_shift : (t o m : ℕ) → o ≤ m → (pos t -ℤ pos o) +ℤ pos m ≡ pos (t + (m - o))
ints_shift t o m h = omega (arith, ints, h)

-- what is added to a tick for its place
abbrev shift : Light → ℕ
shift l = l.offset * cycle l.phases - l.offset

place_is : (l : Light) (t : ℕ) → 0 < cycle l.phases → place_at l t ≡ (t + shift l) % cycle l.phases
unfolding place_at
place_is l t some =
    ap unsigned_abs (int_rem_euclid_is (pos t -ℤ pos l.offset) (pos (cycle l.phases)) (cycle l.phases) l.offset (t + shift l) some refl
    (ints_shift t l.offset (l.offset * cycle l.phases) (le-mul_of_pos_right l.offset some)))

pub place_within : (l : Light) (t : ℕ) → 0 < cycle l.phases → place_at l t < cycle l.phases
place_within l t some = rw (place_is l t some) (mod-lt (t + shift l) some)

-- later by some ticks is further by as many places
place_later : (l : Light) (t n : ℕ) → 0 < cycle l.phases → place_at l (t + n) ≡ (place_at l t + n) % cycle l.phases
place_later l t n some =
    let T = cycle l.phases in
    let moved : t + n + shift l ≡ t + shift l + n = omega arith in
    place_is l (t + n) some ∙ ap (λ k. k % T) moved ∙ sym (mod-add-mod (t + shift l) T n) ∙ ap (λ k. (k + n) % T) (sym (place_is l t some))

near : (T p n : ℕ) → p + n < T → (p + n) % T ≡ p + n
near T p n h = mod-eq_of_lt h

far : (T p n k : ℕ) → p + n ≡ T + k → k < T → (p + n) % T ≡ k
far T p n k e h = ap (λ m. m % T) e ∙ add-mod_left T k ∙ mod-eq_of_lt h

-- ---- phase by phase

record IsWait (phases : List Phase) (p n : ℕ) : Type 0 where
  inside : p + n < cycle phases
  green : is_red_at phases (p + n) ≡ false
  before : (m : ℕ) → m < n → is_red_at phases (p + m) ≡ true

record IsNoWait (phases : List Phase) (p : ℕ) : Type 0 where
  all : (m : ℕ) → p + m < cycle phases → is_red_at phases (p + m) ≡ true

lt_test : (m n : ℕ) → m < n → nat_lt m n ≡ true
lt_test m n h = grind (arith, nat_tests)

ge_test : (m n : ℕ) → n ≤ m → nat_lt m n ≡ false
ge_test m n h = grind (arith, nat_tests)

red_here : (x : Phase) (xs : List Phase) (k : ℕ) → k < x.ticks → is_red_at (x ∷ xs) k ≡ x.red
unfolding is_red_at
red_here x xs k h = rw (lt_test k x.ticks h) refl

red_there : (x : Phase) (xs : List Phase) (k j : ℕ) → k ≡ x.ticks + j → is_red_at (x ∷ xs) k ≡ is_red_at xs j
unfolding is_red_at
red_there x xs k j h =
    let back : k - x.ticks ≡ j = omega (arith, h) in
    rw (ge_test k x.ticks (omega (arith, h)), back) refl

longer : (x : Phase) (xs : List Phase) → cycle (x ∷ xs) ≡ x.ticks + cycle xs
longer x xs = sum_by-cons (λ (y : Phase). y.ticks) x xs

nothing_more : (n : ℕ) → 0 + n ≡ n
nothing_more n = omega arith

from_start : (xs : List Phase) (n : ℕ) → is_red_at xs n ≡ is_red_at xs (0 + n)
from_start xs n = ap (is_red_at xs) (sym (nothing_more n))

wait_ends : (x : Phase) (xs : List Phase) (p n k : ℕ) → p < x.ticks → x.red ≡ true → IsWait xs 0 k → x.ticks - p + k ≡ n → IsWait (x ∷ xs) p n
wait_ends x xs p n k low red w e =
    record {
      inside = omega (arith, low, e, w.inside, longer x xs);
      green = red_there x xs (p + n) k (omega (arith, low, e)) ∙ from_start xs k ∙ w.green;
      before = λ m h. elim (cases_lt (p + m) x.ticks) [
        | inl here ↦ red_here x xs (p + m) here ∙ red
        | inr there ↦ red_there x xs (p + m) (p + m - x.ticks) (omega (arith, there)) ∙ from_start xs (p + m - x.ticks) ∙ w.before (p + m - x.ticks) (omega (arith, there, h, e, low))
      ];
    }

wait_goes_on : (x : Phase) (xs : List Phase) (p n : ℕ) → x.ticks ≤ p → IsWait xs (p - x.ticks) n → IsWait (x ∷ xs) p n
wait_goes_on x xs p n high w =
    record {
      inside = omega (arith, high, w.inside, longer x xs);
      green = red_there x xs (p + n) (p - x.ticks + n) (omega (arith, high)) ∙ w.green;
      before = λ m h. red_there x xs (p + m) (p - x.ticks + m) (omega (arith, high)) ∙ w.before m h;
    }

no_wait_ends : (x : Phase) (xs : List Phase) (p : ℕ) → p < x.ticks → x.red ≡ true → IsNoWait xs 0 → IsNoWait (x ∷ xs) p
no_wait_ends x xs p low red w =
    record {
      all = λ m h. elim (cases_lt (p + m) x.ticks) [
        | inl here ↦ red_here x xs (p + m) here ∙ red
        | inr there ↦ red_there x xs (p + m) (p + m - x.ticks) (omega (arith, there)) ∙ from_start xs (p + m - x.ticks) ∙ w.all (p + m - x.ticks) (omega (arith, there, h, longer x xs))
      ];
    }

no_wait_goes_on : (x : Phase) (xs : List Phase) (p : ℕ) → x.ticks ≤ p → IsNoWait xs (p - x.ticks) → IsNoWait (x ∷ xs) p
no_wait_goes_on x xs p high w =
    record { all = λ m h. red_there x xs (p + m) (p - x.ticks + m) (omega (arith, high)) ∙ w.all m (omega (arith, high, h, longer x xs)) }

-- what a wait is found to be
abbrev IsFound : List Phase → ℕ → Option ℕ → Type 0
IsFound phases p (Some n) = IsWait phases p n
IsFound phases p None = IsNoWait phases p

found_ends : (x : Phase) (xs : List Phase) (p : ℕ) (o : Option ℕ) → p < x.ticks → x.red ≡ true → IsFound xs 0 o → IsFound (x ∷ xs) p (option_map (λ n. x.ticks - p + n) o)
found_ends x xs p (Some k) low red w = wait_ends x xs p (x.ticks - p + k) k low red w refl
found_ends x xs p None low red w = no_wait_ends x xs p low red w

found_goes_on : (x : Phase) (xs : List Phase) (p : ℕ) (o : Option ℕ) → x.ticks ≤ p → IsFound xs (p - x.ticks) o → IsFound (x ∷ xs) p o
found_goes_on x xs p (Some k) high w = wait_goes_on x xs p k high w
found_goes_on x xs p None high w = no_wait_goes_on x xs p high w

green_here : (x : Phase) (xs : List Phase) (p : ℕ) → p < x.ticks → x.red ≡ false → IsFound (x ∷ xs) p (Some 0)
green_here x xs p low green =
    record {
      inside = omega (arith, low, longer x xs);
      green = red_here x xs (p + 0) (omega (arith, low)) ∙ green;
      before = λ m h. absurd (omega (arith, h));
    }

found_here : (x : Phase) (xs : List Phase) (p : ℕ) (red : Bool) → p < x.ticks → x.red ≡ red → IsFound xs 0 (wait_from xs 0)
    → IsFound (x ∷ xs) p (cond red (option_map (λ n. x.ticks - p + n) (wait_from xs 0)) (Some 0))
found_here x xs p true low red w = found_ends x xs p (wait_from xs 0) low red w
found_here x xs p false low red w = green_here x xs p low red

wait_found : (phases : List Phase) (p : ℕ) → IsFound phases p (wait_from phases p)
unfolding wait_from
wait_found [] p = record { all = λ m h. absurd (omega (arith, h)) }
wait_found (x ∷ xs) p =
    elim (cases_lt p x.ticks) [
      | inl low ↦ rw (lt_test p x.ticks low) (found_here x xs p x.red low refl (wait_found xs 0))
      | inr high ↦ rw (ge_test p x.ticks high) (found_goes_on x xs p (wait_from xs (p - x.ticks)) high (wait_found xs (p - x.ticks)))
    ]

is_wait : (phases : List Phase) (p n : ℕ) → wait_from phases p ≡ Some n → IsWait phases p n
is_wait phases p n e = subst (IsFound phases p) e (wait_found phases p)

is_no_wait : (phases : List Phase) (p : ℕ) → wait_from phases p ≡ None → IsNoWait phases p
is_no_wait phases p e = subst (IsFound phases p) e (wait_found phases p)

-- ---- over the cycle

-- after so many ticks the light is not red, and before it is
abbrev green_after : Light → ℕ → ℕ → Bool
green_after l t n = not (is_red l (t + n))

first_green : (l : Light) (t g T : ℕ) → g < T → is_red l (t + g) ≡ false → ((m : ℕ) → m < g → is_red l (t + m) ≡ true)
    → position_or_len (λ n. not (is_red l (t + n))) (range_with_len 0 T) ≡ g
first_green l t g T below green before =
    position_or_len_is (λ n. not (is_red l (t + n))) (range_with_len 0 T) g 0 (omega (arith, below, length-range_with_len 0 T))
    (λ k h. rw (get_or-range_with_len 0 T k 0 (omega (arith, h, below)), nothing_more k) (ap not (before k h)))
    (λ h. rw (get_or-range_with_len 0 T g 0 below, nothing_more g) (ap not green))

never_green : (l : Light) (t T : ℕ) → ((m : ℕ) → m < T → is_red l (t + m) ≡ true)
    → position_or_len (λ n. not (is_red l (t + n))) (range_with_len 0 T) ≡ T
never_green l t T red =
    position_or_len_is (λ n. not (is_red l (t + n))) (range_with_len 0 T) T 0 (omega (arith, length-range_with_len 0 T))
    (λ k h. rw (get_or-range_with_len 0 T k 0 h, nothing_more k) (ap not (red k h)))
    (λ h. absurd (omega (arith, h, length-range_with_len 0 T)))

green_is : (l : Light) (t g : ℕ) → g < cycle l.phases → is_red l (t + g) ≡ false → ((m : ℕ) → m < g → is_red l (t + m) ≡ true) → green_in l t ≡ g
unfolding green_in
green_is l t g below green before =
    rw (first_green l t g (cycle l.phases) below green before, length-range_with_len 0 (cycle l.phases), lt_test g (cycle l.phases) below) refl

green_never : (l : Light) (t : ℕ) → ((m : ℕ) → m < cycle l.phases → is_red l (t + m) ≡ true) → green_in l t ≡ MAX_WAIT
unfolding green_in
green_never l t red =
    let T = cycle l.phases in
    let same : nat_lt T T ≡ false = ge_test T T (omega arith) in
    rw (never_green l t T red, length-range_with_len 0 T, same) refl

red_at_place : (l : Light) (t n k : ℕ) → 0 < cycle l.phases → (place_at l t + n) % cycle l.phases ≡ k → is_red l (t + n) ≡ is_red_at l.phases k
unfolding is_red
red_at_place l t n k some e = ap (is_red_at l.phases) (place_later l t n some ∙ e)

-- it comes before the cycle ends
pub green_soon : (l : Light) (t n : ℕ) → 0 < cycle l.phases → wait_from l.phases (place_at l t) ≡ Some n → green_in l t ≡ n
green_soon l t n some e =
    let T = cycle l.phases in
    let p = place_at l t in
    let w = is_wait l.phases p n e in
    green_is l t n (omega (arith, w.inside))
    (red_at_place l t n (p + n) some (near T p n w.inside) ∙ w.green)
    (λ m h. red_at_place l t m (p + m) some (near T p m (omega (arith, h, w.inside))) ∙ w.before m h)

-- it comes in the next cycle
pub green_later : (l : Light) (t n : ℕ) → 0 < cycle l.phases → wait_from l.phases (place_at l t) ≡ None → wait_from l.phases 0 ≡ Some n
    → green_in l t ≡ cycle l.phases - place_at l t + n
green_later l t n some none e =
    let T = cycle l.phases in
    let p = place_at l t in
    let within : p < T = place_within l t some in
    let w = is_wait l.phases 0 n e in
    let rest = is_no_wait l.phases p none in
    let early : n < p = elim (cases_lt n p) [
      | inl h ↦ h
      | inr h ↦
          let red : is_red_at l.phases (p + (n - p)) ≡ true = rest.all (n - p) (omega (arith, h, w.inside)) in
          let same : p + (n - p) ≡ n = omega (arith, h) in
          let both : is_red_at l.phases n ≡ true = ap (is_red_at l.phases) (sym same) ∙ red in
          let green : is_red_at l.phases n ≡ false = from_start l.phases n ∙ w.green in
          absurd (cc)
    ] in
    green_is l t (T - p + n) (omega (arith, early, within))
    (red_at_place l t (T - p + n) n some (far T p (T - p + n) n (omega (arith, within)) (omega (arith, early, within))) ∙ from_start l.phases n ∙ w.green)
    (λ m h. elim (cases_lt (p + m) T) [
      | inl here ↦ red_at_place l t m (p + m) some (near T p m here) ∙ rest.all m here
      | inr there ↦ red_at_place l t m (p + m - T) some (far T p m (p + m - T) (omega (arith, there)) (omega (arith, h, there, early, within))) ∙ from_start l.phases (p + m - T) ∙ w.before (p + m - T) (omega (arith, h, there, within))
    ])

-- it never comes
pub never : (l : Light) (t : ℕ) → 0 < cycle l.phases → wait_from l.phases 0 ≡ None → green_in l t ≡ MAX_WAIT
never l t some none =
    let T = cycle l.phases in
    let rest = is_no_wait l.phases 0 none in
    let all : (k : ℕ) → k < T → is_red_at l.phases k ≡ true = λ k h. from_start l.phases k ∙ rest.all k (omega (arith, h)) in
    green_never l t (λ m h. red_at_place l t m ((place_at l t + m) % T) some refl ∙ all ((place_at l t + m) % T) (mod-lt (place_at l t + m) some))
