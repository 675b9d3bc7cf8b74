-- Lists of choices that may be driven. This project's own.
use Rattle.std.specs.Prelude.{ℕ, List}
use Rattle.certificate_checker.specs.declared.checked.Attained.{Attained}
use Rattle.maneuver_lattice.specs.Scenes.{Scene, start, Leads}
use Rattle.maneuver_lattice.specs.declared.state.LatticeState.{LatticeState}

-- from the state the choices lead somewhere, one after the other
abbrev pub MayBeDriven : Scene → LatticeState → List ℕ → Type 0
MayBeDriven scene state list = (end : LatticeState) × Leads scene state list end

-- the choices of an answer may be driven from the start
abbrev pub HasList : Scene → Attained → Type 0
HasList scene answer = MayBeDriven scene (start scene) answer.choices
