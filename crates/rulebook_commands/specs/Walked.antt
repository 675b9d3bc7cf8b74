-- A list of choices that was walked. This project's own.
use Rattle.rulebook_order.specs.Graph.{Graph, Reaches}
use Rattle.maneuver_lattice.specs.declared.state.LatticeState.{LatticeState}
use Rattle.rulebook_commands.specs.declared.walking.Walked.{Walked}

-- it reaches its state and its running vector in the graph
pub record IsWalk (g : Graph LatticeState) (walked : Walked) : Type 0 where
  pub reaches : Reaches g walked.choices walked.state walked.vector
