use Rattle.std.proofs.Common.{◌≡◌, ℕ, List, Option, Some, None, IfSome, IsNone, true, false, refl, sym, ◌∙◌, subst}
use Rattle.maneuver_lattice.specs.Moves.{scene_of}
use Rattle.maneuver_lattice.specs.Scenes.{Scene, choice_named, IsNamedChoice, HasNoChoice}
use Rattle.maneuver_lattice.specs.declared.state.LatticeState.{LatticeState}
use Rattle.maneuver_lattice.proofs.ByName.{named_is, none_named}
use Rattle.maneuver_lattice.proofs.moves.SceneMoves.choice_named.Goals as goal

found : (scene : Scene) (state : LatticeState) (name : List ℕ) (o : Option ℕ) → o ≡ choice_named scene state name → IfSome o (IsNamedChoice scene state name)
found scene state name None e = tt
found scene state name (Some choice) e = named_is scene state name choice (sym e)

missed : (scene : Scene) (state : LatticeState) (name : List ℕ) (o : Option ℕ) → o ≡ choice_named scene state name → IsNone o → HasNoChoice scene state name
missed scene state name None e none = none_named scene state name (sym e)
missed scene state name (Some choice) e none = absurd (let no : false ≡ true = sym none in cc)

value : (c : goal.After-open_named) → c.open_named.result ≡ choice_named (scene_of c.args.self.now) c.args.state.now c.args.name.now
unfolding choice_named
value c = rw (c.horizon.ensures.value, c.as_slice.ensures) at c.open_named.ensures

pub returns-clause-named : goal.returns-clause-named
returns-clause-named c = found (scene_of c.args.self.now) c.args.state.now c.args.name.now c.open_named.result (value c)

pub returns-clause-none : goal.returns-clause-none
returns-clause-none c = missed (scene_of c.args.self.now) c.args.state.now c.args.name.now c.open_named.result (value c)
