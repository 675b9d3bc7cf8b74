use Rattle.std.proofs.Common.{◌≡◌, sym, subst}
use Rattle.rule_language.specs.Books.{IsBook}
use Rattle.maneuver_lattice.specs.Lattice.{IsLattice}
use Rattle.scenario_model.specs.Scenario.{IsScenario}
use Rattle.sample_scene.specs.Sample.{sample, HasStart, MayBeBound}
use Rattle.sample_scene.specs.declared.sample.SampleScene.{SampleScene}
use Rattle.sample_scene.proofs.ScenarioSound.{scenario_is_sound}
use Rattle.sample_scene.proofs.LatticeSound.{lattice_is_sound}
use Rattle.sample_scene.proofs.BookSound.{book_is_sound}
use Rattle.sample_scene.proofs.SampleLaws.{sample_has_start, sample_may_be_bound}
use Rattle.sample_scene.proofs.sample.sample_scene.Goals as goal

pub returns-clause-scenario : goal.returns-clause-scenario
returns-clause-scenario c = subst IsScenario (sym c.in_ok-scenario.ensures) (scenario_is_sound c.args.number)

pub returns-clause-book : goal.returns-clause-book
returns-clause-book c = subst IsBook (sym c.in_ok-book.ensures) book_is_sound

pub returns-clause-lattice : goal.returns-clause-lattice
returns-clause-lattice c = subst IsLattice (sym c.in_ok-lattice.ensures) lattice_is_sound

pub returns-clause-starts : goal.returns-clause-starts
returns-clause-starts c =
    let scene : SampleScene = record { scenario = c.in_ok-scenario.field-0; book = c.in_ok-book.field-0; lattice = c.in_ok-lattice.field-0 } in
    let same : scene ≡ sample c.args.number = λ i. record { scenario = c.in_ok-scenario.ensures i; book = c.in_ok-book.ensures i; lattice = c.in_ok-lattice.ensures i } in
    subst HasStart (sym same) (sample_has_start c.args.number)

pub returns-clause-binds : goal.returns-clause-binds
returns-clause-binds c =
    let scene : SampleScene = record { scenario = c.in_ok-scenario.field-0; book = c.in_ok-book.field-0; lattice = c.in_ok-lattice.field-0 } in
    let same : scene ≡ sample c.args.number = λ i. record { scenario = c.in_ok-scenario.ensures i; book = c.in_ok-book.ensures i; lattice = c.in_ok-lattice.ensures i } in
    subst MayBeBound (sym same) (sample_may_be_bound c.args.number)
