use Rattle.std.proofs.Common.{◌≡◌, ◌<◌, [], ◌∷◌, ◌++◌, length, refl, sym, subst, arith, append_assoc, append-nil}
use Rattle.std.specs.Prelude.{reverse}
use Rattle.std.proofs.lemmas.List.{reverse-append}
use Rattle.std.proofs.lemmas.Option.{slice_get_read}
use Rattle.certificate_checker.specs.GoodCertificate.{LeadsToLabel, start, then}
use Rattle.certificate_checker.proofs.answers.choices_back.Goals as goal

pub loop-at-init : goal.loop-at-init
loop-at-init c = rw c.new-back.ensures.items (record { within = c.requires.number; rest = λ choices lead. rw append-nil lead })

pub loop-at-preserved : goal.loop-at-preserved
loop-at-preserved c =
    let labels = c.args.labels.now in
    let at = c.loop-at.at in
    let label = c.index-labels-at.result in
    let was = c.loop-at.invariant in
    let there = slice_get_read labels (length labels) at label refl was.within c.index-labels-at.is in
    let up : 0 < at = c.loop-at-test.true in
    let early = c.requires.parents at was.within label there up in
    let back = c.loop-at.back.items in
    record {
      within = omega (arith, early, was.within);
      rest = λ choices lead.
          let longer : LeadsToLabel labels c.args.number ((choices ++ label.choice ∷ []) ++ reverse back) = was.rest (choices ++ label.choice ∷ []) (then at label choices up there lead) in
          let e : choices ++ reverse (back ++ label.choice ∷ []) ≡ (choices ++ label.choice ∷ []) ++ reverse back = rw (reverse-append, append_assoc) refl in
          rw (c.in_ok-push.ensures.items, e) longer;
    }

pub returns : goal.returns
returns c =
    let at : c.loop-at.at ≡ 0 = omega (arith, c.loop-at-test.false) in
    c.loop-at.invariant.rest [] (subst (λ n. LeadsToLabel c.args.labels.now n []) (sym at) start)
