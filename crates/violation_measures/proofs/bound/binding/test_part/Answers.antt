use Rattle.std.proofs.Common.{refl}
use Rattle.violation_measures.specs.Intervals.{all_known}
use Rattle.violation_measures.specs.Sources.{bounds_of}
use Rattle.violation_measures.proofs.FirstFault.{is_known}
use Rattle.violation_measures.proofs.Kept.{keeps_where_some, passes_where_none}
use Rattle.violation_measures.proofs.bound.binding.test_part.Goals as goal

pub returns-in-Some-clause-ok : goal.returns-in-Some-clause-ok
returns-in-Some-clause-ok g c =
    let f = g.S.FeatureSource.features c.args.source.now in
    record {
      known = is_known c.are_known.result (all_known f.find c.args.part.now.expr) c.if-not-are_known.false c.are_known.ensures;
      keeps = keeps_where_some (bounds_of f) c.args.part.now.expr c.in-Some.field-0 c.requires.well_formed c.in-Some.ensures.value;
    }

pub returns-in-None-clause-fault : goal.returns-in-None-clause-fault
returns-in-None-clause-fault g c =
    let f = g.S.FeatureSource.features c.args.source.now in (
      refl,
      record {
        known = is_known c.are_known.result (all_known f.find c.args.part.now.expr) c.if-not-are_known.false c.are_known.ensures;
        passes = passes_where_none (bounds_of f) c.args.part.now.expr c.requires.well_formed c.in-None.ensures.value;
      },
    )
