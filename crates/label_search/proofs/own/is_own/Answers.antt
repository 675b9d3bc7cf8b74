use Rattle.std.proofs.Common.{length, refl, sym}
use Rattle.std.proofs.lemmas.Bool.{ltb-true}
use Rattle.std.proofs.lemmas.Option.{slice_get_read}
use Rattle.label_search.proofs.own.is_own.Goals as goal

pub returns-then-number-gt0 : goal.returns-then-number-gt0
returns-then-number-gt0 g c = λ alike.
    let both = c.come_alike.ensures alike in
    let found = c.in-Some.ensures.lookup in
    record {
      label = c.in-Some.label.now;
      label_is = slice_get_read c.args.labels.now (length c.args.labels.now) c.args.number c.in-Some.label.now refl (ltb-true c.args.number (length c.args.labels.now) (sym found.0)) found.1;
      later = c.if-number-gt0.true;
      parent_is = both.0;
      choice_is = both.1;
    }
