-- Labels whose running vectors are reached. This project's own.
use Rattle.rulebook_order.specs.Graph.{Graph, IsReached}
use Rattle.label_search.specs.declared.label.Label.{Label}
use Rattle.maneuver_lattice.specs.declared.state.LatticeState.{LatticeState}

-- some list of choices leads to the label's state with its running vector
abbrev pub IsPairReached : Graph LatticeState → Label LatticeState → Type 0
IsPairReached g label = IsReached g label.state label.vector
