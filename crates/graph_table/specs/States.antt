-- States of a table that compare equal are the same.
use Rattle.std.specs.Prelude.{◌≡◌, true}
use Rattle.std.proofs.lemmas.Bool.{eqb-true}
use Rattle.graph_table.specs.contracts.state.TableStatePartialEq.TheImpl as state_eq
use Rattle.graph_table.specs.declared.state.TableState.{TableState}

pub same_state : (s t : TableState) → (state_eq.ghosts).eq s t ≡ true → s ≡ t
same_state s t h = λ i. record { index = eqb-true s.index t.index h i }
