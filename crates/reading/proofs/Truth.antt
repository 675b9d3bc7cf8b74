-- What tests of two values say.
use Rattle.std.proofs.Common.{◌≡◌, ℕ, Bool, true, false, ◌&&◌, cond, Some, None, refl}

pub both : (a b : Bool) → (a && b) ≡ true → (a ≡ true) × (b ≡ true)
both true b h = (refl, h)
both false b h = absurd cc

pub refuted : (t : Bool) → (t ≡ true → ⊥) → t ≡ false
refuted true h = absurd (h refl)
refuted false h = refl

-- where a place was asked for and none is there, the test failed
pub refused : (b : Bool) (n : ℕ) → cond b (Some n) None ≡ None → b ≡ false
refused true n e = absurd cc
refused false n e = refl
