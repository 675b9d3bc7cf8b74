-- Digits as one number, cut off and extended.
use Rattle.std.proofs.Common.{◌≡◌, ℕ, zero, suc, ◌+◌, ◌-◌, ◌*◌, ◌/◌, ◌^◌, ◌<◌, ◌≤◌, List, [], ◌∷◌, length, get_or, take, drop, refl, sym, ap, ◌∙◌, arith, neg_ℤ, mul-le-mul, pos, negsuc, drop-cons, length-drop}
use Rattle.std.specs.List.{fold}
use Rattle.std.proofs.lemmas.List.{take-append-drop, take-take}
use Rattle.std.proofs.lemmas.List.Elements.{All-head, All-tail, All-drop}
use Rattle.std.proofs.lemmas.List.Sums.{fold_more, fold-append}
use Rattle.std.proofs.lemmas.Nat.{div-mul-add}
use Rattle.std.proofs.Math.Nat.{pow-suc, pow-le-pow_right}
use Rattle.std.proofs.lemmas.Bool.{cases_lt}
use Rattle.std.proofs.Common.{inl, inr}
use Rattle.std.specs.Char.{IsAsciiDigit}
use Rattle.fixed_decimal.specs.Decimals.{IsDigits}
use Rattle.fixed_decimal.specs.Rounding.{number, halves_up, scaled}

abbrev read : ℕ → List ℕ → ℕ
read a ds = fold (λ (n b : ℕ). n * 10 + (b - 48)) a ds

pub ten_power : (k : ℕ) → 1 ≤ 10 ^ k
ten_power zero = omega arith
ten_power (suc k) = omega (arith, ten_power k, pow-suc 10 k)

spread : (a d t : ℕ) → (a * 10 + d) * t ≡ a * (t * 10) + d * t
spread a d t = omega arith

-- what stands before the digits counts by their power
read_from : (a : ℕ) (ds : List ℕ) → read a ds ≡ a * 10 ^ length ds + read 0 ds
read_from a [] = omega arith
read_from a (d ∷ ds) =
    let one : read a (d ∷ ds) ≡ read (a * 10 + (d - 48)) ds = refl in
    let two : read 0 (d ∷ ds) ≡ read (0 * 10 + (d - 48)) ds = refl in
    omega (arith, one, two, read_from (a * 10 + (d - 48)) ds, read_from (0 * 10 + (d - 48)) ds, ap (λ (t : ℕ). a * t) (pow-suc 10 (length ds)), spread a (d - 48) (10 ^ length ds), spread 0 (d - 48) (10 ^ length ds))

pub number_from : (d : ℕ) (ds : List ℕ) → number (d ∷ ds) ≡ (d - 48) * 10 ^ length ds + number ds
unfolding number
number_from d ds =
    let one : read 0 (d ∷ ds) ≡ read (0 * 10 + (d - 48)) ds = refl in
    omega (arith, one, read_from (0 * 10 + (d - 48)) ds)

pub number_none : number [] ≡ 0
unfolding number
number_none = refl

pub number_below : (ds : List ℕ) → IsDigits ds → number ds < 10 ^ length ds
number_below [] h = omega (arith, number_none)
number_below (d ∷ ds) h =
    let head : IsAsciiDigit d = All-head IsAsciiDigit d ds h in
    let same : 10 ^ length ds ≤ 10 ^ length ds = omega arith in
    let up : suc (d - 48) ≤ 10 = omega (arith, head) in
    omega (arith, number_from d ds, number_below ds (All-tail IsAsciiDigit d ds h), pow-suc 10 (length ds), mul-le-mul up same)

-- the digits before place i, and those from there on
pub number_split : (i : ℕ) (ds : List ℕ) → number ds ≡ number (take i ds) * 10 ^ length (drop i ds) + number (drop i ds)
unfolding number
number_split i ds =
    ap (read 0) (sym (take-append-drop i ds)) ∙ fold-append (λ (n b : ℕ). n * 10 + (b - 48)) 0 (take i ds) (drop i ds) ∙ read_from (read 0 (take i ds)) (drop i ds)

pub number_more : (ds : List ℕ) (i : ℕ) → i < length ds → number (take (i + 1) ds) ≡ number (take i ds) * 10 + (get_or ds i 0 - 48)
unfolding number
number_more ds i h = fold_more (λ (n b : ℕ). n * 10 + (b - 48)) 0 ds i 0 h

-- what the first digits are worth is not lost
pub number_front : (i : ℕ) (ds : List ℕ) → number (take i ds) ≤ number ds
number_front i ds =
    let same : number (take i ds) ≤ number (take i ds) = omega arith in
    omega (arith, number_split i ds, mul-le-mul same (ten_power (length (drop i ds))))

rounds_down : (a b d : ℕ) → 2 * b < d → halves_up (a * d + b) d ≡ a
unfolding halves_up
rounds_down a b d h =
    let e : 2 * (a * d + b) + d ≡ a * (2 * d) + (2 * b + d) = omega arith in
    ap (λ (n : ℕ). n / (2 * d)) e ∙ div-mul-add a (2 * d) (2 * b + d) (omega arith)

rounds_up : (a b d : ℕ) → d ≤ 2 * b → b < d → halves_up (a * d + b) d ≡ a + 1
unfolding halves_up
rounds_up a b d h k =
    let e : 2 * (a * d + b) + d ≡ (a + 1) * (2 * d) + (2 * b - d) = omega arith in
    ap (λ (n : ℕ). n / (2 * d)) e ∙ div-mul-add (a + 1) (2 * d) (2 * b - d) (omega arith)

-- the digit at place c decides which way the rest from there on is rounded
pub cut_down : (ds : List ℕ) (c m : ℕ) → IsDigits ds → c + suc m ≡ length ds → get_or ds c 0 - 48 < 5 → scaled (number ds) (negsuc m) ≡ number (take c ds)
unfolding scaled
cut_down ds c m h len small =
    let long : length (drop c ds) ≡ suc m = omega (arith, length-drop c ds) in
    let whole = number_split c ds ∙ ap (λ (n : ℕ). number (take c ds) * 10 ^ n + number (drop c ds)) long in
    let rest = ap number (drop-cons ds c 0 (omega arith)) ∙ number_from (get_or ds c 0) (drop (suc c) ds) in
    let behind : length (drop (suc c) ds) ≡ m = omega (arith, length-drop (suc c) ds) in
    let below = number_below (drop (suc c) ds) (All-drop IsAsciiDigit (suc c) ds h) in
    let same : 10 ^ m ≤ 10 ^ m = omega arith in
    let up : suc (get_or ds c 0 - 48) ≤ 5 = omega arith in
    let exact = ap (λ (n : ℕ). 10 ^ n) behind in
    let product = ap (λ (n : ℕ). (get_or ds c 0 - 48) * 10 ^ n) behind in
    ap (λ (n : ℕ). halves_up n (10 ^ suc m)) whole
    ∙ rounds_down (number (take c ds)) (number (drop c ds)) (10 ^ suc m) (omega (arith, rest, below, exact, product, pow-suc 10 m, mul-le-mul up same))

pub cut_up : (ds : List ℕ) (c m : ℕ) → IsDigits ds → c + suc m ≡ length ds → 5 ≤ get_or ds c 0 - 48 → scaled (number ds) (negsuc m) ≡ number (take c ds) + 1
unfolding scaled
cut_up ds c m h len large =
    let long : length (drop c ds) ≡ suc m = omega (arith, length-drop c ds) in
    let whole = number_split c ds ∙ ap (λ (n : ℕ). number (take c ds) * 10 ^ n + number (drop c ds)) long in
    let rest = ap number (drop-cons ds c 0 (omega arith)) ∙ number_from (get_or ds c 0) (drop (suc c) ds) in
    let behind : length (drop (suc c) ds) ≡ m = omega (arith, length-drop (suc c) ds) in
    let below = number_below (drop c ds) (All-drop IsAsciiDigit c ds h) in
    let same : 10 ^ m ≤ 10 ^ m = omega arith in
    let product = ap (λ (n : ℕ). (get_or ds c 0 - 48) * 10 ^ n) behind in
    let power = ap (λ (n : ℕ). 10 ^ n) long in
    ap (λ (n : ℕ). halves_up n (10 ^ suc m)) whole
    ∙ rounds_up (number (take c ds)) (number (drop c ds)) (10 ^ suc m) (omega (arith, rest, product, pow-suc 10 m, mul-le-mul large same)) (omega (arith, below, power))

-- with no digit left the value rounds to 0
pub cut_all : (ds : List ℕ) (m : ℕ) → IsDigits ds → length ds ≤ m → scaled (number ds) (negsuc m) ≡ 0
unfolding scaled
cut_all ds m h len =
    let below = number_below ds h in
    let wide : 10 ^ length ds ≤ 10 ^ m = pow-le-pow_right {n = 10} (omega arith) len in
    let alone : number ds ≡ 0 * 10 ^ suc m + number ds = omega arith in
    ap (λ (n : ℕ). halves_up n (10 ^ suc m)) alone ∙ rounds_down 0 (number ds) (10 ^ suc m) (omega (arith, below, wide, pow-suc 10 m))

pub number_fronts : (i j : ℕ) (ds : List ℕ) → i ≤ j → number (take i ds) ≤ number (take j ds)
number_fronts i j ds h =
    omega (arith, number_front i (take j ds), ap number (take-take i j ds h))

pub zeros_grow : (v i j : ℕ) → i ≤ j → v * 10 ^ i ≤ v * 10 ^ j
zeros_grow v i j h =
    let same : v ≤ v = omega arith in
    mul-le-mul same (pow-le-pow_right {n = 10} (omega arith) h)

-- the code's cases, whole: the value and the limit
pub whole_capped : (ds : List ℕ) (k : ℕ) → number ds ≤ number ds * 10 ^ k
whole_capped ds k =
    let same : number ds ≤ number ds = omega arith in
    omega (arith, mul-le-mul same (ten_power k))

pub scaled_up : (n k : ℕ) → scaled n (pos k) ≡ n * 10 ^ k
unfolding scaled
scaled_up n k = refl

-- the same by the number of digits that are cut off
pub cut_none : (ds : List ℕ) (last : ℕ) → IsDigits ds → length ds < last → scaled (number ds) (neg_ℤ (pos last)) ≡ 0
cut_none ds zero h k = absurd (omega arith)
cut_none ds (suc m) h k = cut_all ds m h (omega arith)

pub cut_low : (ds : List ℕ) (c last : ℕ) → IsDigits ds → 0 < last → c + last ≡ length ds → get_or ds c 0 - 48 < 5 → scaled (number ds) (neg_ℤ (pos last)) ≡ number (take c ds)
cut_low ds c zero h p k small = absurd (omega arith)
cut_low ds c (suc m) h p k small = cut_down ds c m h k small

pub cut_high : (ds : List ℕ) (c last : ℕ) → IsDigits ds → 0 < last → c + last ≡ length ds → 5 ≤ get_or ds c 0 - 48 → scaled (number ds) (neg_ℤ (pos last)) ≡ number (take c ds) + 1
cut_high ds c zero h p k large = absurd (omega arith)
cut_high ds c (suc m) h p k large = cut_up ds c m h k large

pub cut_least : (ds : List ℕ) (c last : ℕ) → IsDigits ds → 0 < last → c + last ≡ length ds → number (take c ds) ≤ scaled (number ds) (neg_ℤ (pos last))
cut_least ds c last h p k =
    elim (cases_lt (get_or ds c 0 - 48) 5) [ inl small ↦ omega (arith, cut_low ds c last h p k small) | inr large ↦ omega (arith, cut_high ds c last h p k large) ]
