-- What is plainly behind or beside is not ahead.
use Rattle.std.proofs.Common.{◌≡◌, ℕ, zero, suc, ◌+◌, ◌*◌, ◌/◌, Bool, true, false, ◌&&◌, ◌⊎◌, inl, inr, refl, sym, ap, subst, ◌∙◌, arith, ℤ, pos, negsuc, neg_ℤ, ◌-ℤ◌, ◌*ℤ◌, ◌≤ℤ◌, ◌<ℤ◌, unsigned_abs}
use Rattle.std.specs.Prelude.{int_lt, int_le, Some}
use Rattle.std.specs.List.{fold}
use Rattle.std.specs.Int.{int_min}
use Rattle.std.proofs.lemmas.Bool.{cases_Bool}
use Rattle.std.proofs.lemmas.Int.{ints}
use Rattle.std.proofs.Math.IntN.{*ℤ-negsuc, *ℤ_comm, neg_ℤ-neg_ℤ}
use Rattle.fixed_geometry.specs.declared.point.Point.{Point}
use Rattle.fixed_geometry.specs.Rounding.{round_div}
use Rattle.fixed_geometry.specs.Vectors.{dot, turn, way, ahead, beside}
use Rattle.fixed_geometry.proofs.Nearest.{size_negated}
use Rattle.scenario_model.specs.declared.obstacle.Pose.{Pose}
use Rattle.moving_obstacles.specs.Corridor.{IsFarBeside}
use Rattle.moving_obstacles.specs.Nearness.{along, side, is_ahead, distances}

zero_times : (u : ℤ) → u *ℤ pos 0 ≡ pos 0
zero_times (pos m) = let none : m * 0 ≡ 0 = omega arith in ap pos none
zero_times (negsuc m) = let none : suc m * 0 ≡ 0 = omega arith in ap (λ (n : ℕ). neg_ℤ (pos n)) none

times_negated : (u v : ℤ) → u *ℤ neg_ℤ v ≡ neg_ℤ (u *ℤ v)
times_negated u (pos zero) = zero_times u ∙ ap neg_ℤ (sym (zero_times u))
times_negated u (pos (suc n)) = *ℤ-negsuc u n
times_negated u (negsuc n) = sym (neg_ℤ-neg_ℤ (u *ℤ pos (suc n))) ∙ ap neg_ℤ (sym (*ℤ-negsuc u n))

negated_times : (u v : ℤ) → neg_ℤ u *ℤ v ≡ neg_ℤ (u *ℤ v)
negated_times u v = *ℤ_comm (neg_ℤ u) v ∙ times_negated v u ∙ ap neg_ℤ (*ℤ_comm v u)

-- across the direction as along that to the left
pub turned : (unit left v : Point) → left.x ≡ neg_ℤ unit.y → left.y ≡ unit.x → dot left v ≡ turn unit v
unfolding dot turn
turned unit left v e f =
    let x : left.x *ℤ v.x ≡ neg_ℤ (unit.y *ℤ v.x) = ap (λ (z : ℤ). z *ℤ v.x) e ∙ negated_times unit.y v.x in
    let y : left.y *ℤ v.y ≡ unit.x *ℤ v.y = ap (λ (z : ℤ). z *ℤ v.y) f in
    omega (arith, ints, x, y)

not_above : (n : ℤ) → n ≤ℤ pos 0 → round_div n (pos 1000000) ≤ℤ pos 0
unfolding round_div
not_above (pos n) h = omega (arith, ints, h)
not_above (negsuc n) h = omega (arith, ints)

more_than : (a b : ℤ) → b <ℤ a → int_le a b ≡ false
more_than a b h = elim (cases_Bool (int_le a b)) [ inl k ↦ absurd (omega (arith, ints, k, h)) | inr k ↦ k ]

farther : (m w : ℤ) → IsFarBeside m w → w <ℤ pos (unsigned_abs (round_div m (pos 1000000)))
unfolding round_div
farther (pos m) w (inl h) = omega (arith, ints, h)
farther (pos m) w (inr h) = omega (arith, ints, h)
farther (negsuc m) w (inl h) = omega (arith, ints, h)
farther (negsuc m) w (inr h) = omega (arith, ints, h, size_negated ((2 * (m + 1) + 1000000) / (2 * 1000000)))

far_size : (m w : ℤ) → IsFarBeside m w → int_le (pos (unsigned_abs (round_div m (pos 1000000)))) w ≡ false
far_size m w h = more_than (pos (unsigned_abs (round_div m (pos 1000000)))) w (farther m w h)

no_and : (u v : Bool) → (u ≡ false) ⊎ (v ≡ false) → (u && v) ≡ false
no_and true v (inl h) = absurd (cc)
no_and true v (inr h) = h
no_and false v h = refl

not_less : (z : ℤ) → z ≤ℤ pos 0 → int_lt (pos 0) z ≡ false
not_less z h = elim (cases_Bool (int_lt (pos 0) z)) [ inl k ↦ absurd (omega (arith, ints, k, h)) | inr k ↦ k ]

same_way : (p q v : Point) → v.x ≡ q.x -ℤ p.x → v.y ≡ q.y -ℤ p.y → v ≡ way p q
unfolding way
same_way p q v e f = λ i. record { x = e i; y = f i }

-- what leads back is not ahead
pub behind : (position unit v : Point) (width : ℤ) (pose : Pose) → v.x ≡ pose.position.x -ℤ position.x → v.y ≡ pose.position.y -ℤ position.y → dot unit v ≤ℤ pos 0 → is_ahead position unit width pose ≡ false
unfolding is_ahead ahead
behind position unit v width pose e f h =
    let IsBack : Point → Type 0 = λ w. dot unit w ≤ℤ pos 0 in
    let back = subst IsBack (same_way position pose.position v e f) h in
    no_and (int_lt (pos 0) (along position unit pose)) (int_le (pos (unsigned_abs (side position unit pose))) width) (inl (not_less (along position unit pose) (not_above (dot unit (way position pose.position)) back)))

-- nor is what leads far to a side
pub far_beside : (position unit v : Point) (width : ℤ) (pose : Pose) → v.x ≡ pose.position.x -ℤ position.x → v.y ≡ pose.position.y -ℤ position.y → IsFarBeside (turn unit v) width → is_ahead position unit width pose ≡ false
unfolding is_ahead beside
far_beside position unit v width pose e f h =
    let IsFar : Point → Type 0 = λ w. IsFarBeside (turn unit w) width in
    let far = subst IsFar (same_way position pose.position v e f) h in
    no_and (int_lt (pos 0) (along position unit pose)) (int_le (pos (unsigned_abs (side position unit pose))) width) (inr (far_size (turn unit (way position pose.position)) width far))

-- and what is not ahead changes no least distance
pub least_kept : (position unit : Point) (width least : ℤ) (pose : Pose) → is_ahead position unit width pose ≡ false → least ≡ fold int_min least (distances position unit width (Some pose))
unfolding distances
least_kept position unit width least pose h = rw h refl
