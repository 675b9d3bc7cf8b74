-- The first point at the least squared distance.
use Rattle.std.proofs.Common.{◌≡◌, ℕ, ◌+◌, ◌<◌, true, false, List, length, subst, arith, inl, inr, ℤ, pos, ◌≤ℤ◌, ◌<ℤ◌}
use Rattle.std.specs.Prelude.{int_le, int_lt}
use Rattle.std.proofs.lemmas.Int.{ints}
use Rattle.std.proofs.lemmas.List.Folds.{list_all_at}
use Rattle.std.proofs.lemmas.List.Elements.{All-from_get_or}
use Rattle.std.proofs.lemmas.List.Sums.{position_or_len_is, list_all-from_AllPass}
use Rattle.std.proofs.lemmas.Bool.{cases_lt, cases_Bool}
use Rattle.fixed_geometry.specs.declared.point.Point.{Point}
use Rattle.lanelet_network.specs.Bounds.{point_at, squared_distance, is_nearest, nearest}

abbrev origin : Point
origin = record { x = pos 0; y = pos 0 }

-- of the points before the end, the one at the place is the first at the least distance
pub record IsFirstLeast (p : Point) (bound : List Point) (end place : ℕ) (least : ℤ) : Type 0 where
  pub here : place < end
  pub is : least ≡ squared_distance p (point_at bound place)
  pub earlier : (k : ℕ) → k < place → least <ℤ squared_distance p (point_at bound k)
  pub every : (k : ℕ) → k < end → least ≤ℤ squared_distance p (point_at bound k)

last_too : (P : ℕ → Type 0) (end : ℕ) → ((k : ℕ) → k < end → P k) → P end → (k : ℕ) → k < end + 1 → P k
last_too P end before last k below =
    elim (cases_lt k end) [
      | inl less ↦ before k less
      | inr more ↦ let same : end ≡ k = omega (arith, more, below) in subst P same last
    ]

at_same : (a b : ℤ) → a ≡ b → a ≤ℤ b
at_same a b e = omega (arith, ints, e)

less_at_most : (a b c : ℤ) → a <ℤ b → b ≤ℤ c → a ≤ℤ c
less_at_most a b c h k = omega (arith, ints, h, k)

less_at_most_less : (a b c : ℤ) → a <ℤ b → b ≤ℤ c → a <ℤ c
less_at_most_less a b c h k = omega (arith, ints, h, k)

pub later_less : (p : Point) (bound : List Point) (i place : ℕ) (least distance : ℤ) → IsFirstLeast p bound i place least → distance ≡ squared_distance p (point_at bound i) → distance <ℤ least → IsFirstLeast p bound (i + 1) i distance
later_less p bound i place least distance h e lt = record {
  here = omega arith;
  is = e;
  earlier = λ k below. less_at_most_less distance least (squared_distance p (point_at bound k)) lt (h.every k below);
  every = last_too (λ k. distance ≤ℤ squared_distance p (point_at bound k)) i (λ k below. less_at_most distance least (squared_distance p (point_at bound k)) lt (h.every k below)) (at_same distance (squared_distance p (point_at bound i)) e);
}

pub later_kept : (p : Point) (bound : List Point) (i place : ℕ) (least distance : ℤ) → IsFirstLeast p bound i place least → distance ≡ squared_distance p (point_at bound i) → least ≤ℤ distance → IsFirstLeast p bound (i + 1) place least
later_kept p bound i place least distance h e le = record {
  here = omega (arith, h.here);
  is = h.is;
  earlier = h.earlier;
  every = last_too (λ k. least ≤ℤ squared_distance p (point_at bound k)) i h.every (subst (λ z. least ≤ℤ z) e le);
}

pub renamed : (p : Point) (bound : List Point) (end place found : ℕ) (least distance : ℤ) → IsFirstLeast p bound end place least → found ≡ place → distance ≡ least → IsFirstLeast p bound end found distance
renamed p bound end place found least distance h e f = rw (e, f) h

-- what the test of the loop says, where `read` is the distance as it is stored
pub is_less : (read distance least : ℤ) → read ≡ distance → int_lt read least ≡ true → distance <ℤ least
is_less read distance least e t = omega (arith, ints, e, t)

pub is_no_less : (read distance least : ℤ) → read ≡ distance → int_lt read least ≡ false → least ≤ℤ distance
is_no_less read distance least e t = omega (arith, ints, e, t)

pub test_passes : (a b : ℤ) → a ≤ℤ b → int_le a b ≡ true
test_passes a b h =
    elim (cases_Bool (int_le a b)) [
      | inl passes ↦ passes
      | inr fails ↦ absurd (omega (arith, ints, h, fails))
    ]

test_fails : (a b : ℤ) → b <ℤ a → int_le a b ≡ false
test_fails a b h =
    elim (cases_Bool (int_le a b)) [
      | inl passes ↦ absurd (omega (arith, ints, h, passes))
      | inr fails ↦ fails
    ]

-- no point is nearer than the one found, and it is nearer than each earlier one
pub nearest_is : (p : Point) (bound : List Point) (place : ℕ) (least : ℤ) → IsFirstLeast p bound (length bound) place least → nearest p bound ≡ place
unfolding nearest is_nearest
nearest_is p bound place least h =
    let distance : Point → ℤ = squared_distance p in
    position_or_len_is (is_nearest p bound) bound place origin (omega (arith, h.here))
    (λ k below. list_all_at (λ other. int_le (distance (point_at bound k)) (distance other)) bound place origin h.here (test_fails (distance (point_at bound k)) (distance (point_at bound place)) (subst (λ z. z <ℤ distance (point_at bound k)) h.is (h.earlier k below))))
    (λ here. list_all-from_AllPass (λ other. int_le (distance (point_at bound place)) (distance other)) bound (All-from_get_or (λ other. int_le (distance (point_at bound place)) (distance other) ≡ true) bound origin (λ k below. test_passes (distance (point_at bound place)) (distance (point_at bound k)) (subst (λ z. z ≤ℤ distance (point_at bound k)) h.is (h.every k below)))))
