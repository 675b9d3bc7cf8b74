-- States of a lattice that compare equal are the same.
use Rattle.std.specs.Prelude.{◌≡◌, ℕ, ℤ, Bool, true, ◌&&◌, nat_eq}
use Rattle.std.specs.Ordering.{int_eq}
use Rattle.std.proofs.lemmas.Bool.{and_parts, eqb-true}
use Rattle.std.proofs.lemmas.Bool.Decides.{Decides-int_eq}
use Rattle.maneuver_lattice.specs.contracts.state.LatticeStatePartialEq.TheImpl as state_eq
use Rattle.maneuver_lattice.specs.declared.state.LatticeState.{LatticeState}

pub same_state : (s t : LatticeState) → (state_eq.ghosts).eq s t ≡ true → s ≡ t
same_state s t h =
    let p = and_parts (nat_eq s.tick t.tick) (int_eq s.forward t.forward
    && (int_eq s.left t.left && nat_eq s.class t.class)) h in
    let q = and_parts (int_eq s.forward t.forward)
    (int_eq s.left t.left && nat_eq s.class t.class) p.1 in
    let r = and_parts (int_eq s.left t.left) (nat_eq s.class t.class) q.1 in
    λ i. record {
      tick = eqb-true s.tick t.tick p.0 i;
      forward = (Decides-int_eq s.forward t.forward).0 q.0 i;
      left = (Decides-int_eq s.left t.left).0 r.0 i;
      class = eqb-true s.class t.class r.1 i;
    }
