-- The sample scene has a start, and its book may be bound.
use Rattle.std.proofs.Common.{ℕ}
use Rattle.lanelet_network.specs.Lanes.{lanes_of}
use Rattle.sample_scene.specs.Motorway.{scenario}
use Rattle.sample_scene.specs.Maneuvers.{lattice}
use Rattle.sample_scene.specs.Sample.{sample, HasStart, MayBeBound}
use Rattle.sample_scene.proofs.LatticeSound.{lattice_has_start}
use Rattle.sample_scene.proofs.BookBound.{book_may_be_bound}

pub sample_has_start : (number : ℕ) → HasStart (sample number)
unfolding scenario
sample_has_start number = λ none. lattice_has_start

pub sample_may_be_bound : (number : ℕ) → MayBeBound (sample number)
sample_may_be_bound number = book_may_be_bound (lanes_of (scenario number)) (scenario number).obstacles lattice.length lattice.width
