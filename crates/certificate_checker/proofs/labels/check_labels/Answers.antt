use Rattle.std.proofs.Common.{length, arith, sym, ap, ◌∙◌}
use Rattle.std.proofs.lemmas.Bool.{eqb-true, eqb-false}
use Rattle.rulebook_order.proofs.Reached.{IsReached-built}
use Rattle.certificate_checker.specs.Failing.{no_label, late_parent, no_choice, no_link}
use Rattle.certificate_checker.proofs.Pairs.{length-pairs_of, pair_built}
use Rattle.certificate_checker.proofs.labels.check_labels.Goals as goal

pub returns-then-is_empty-clause-rejected : goal.returns-then-is_empty-clause-rejected
returns-then-is_empty-clause-rejected g c =
    let none = eqb-true (length c.as_slice-labels.result.now) 0 (sym c.is_empty.ensures ∙ c.if-is_empty.true) in
    rw (sym c.as_slice-labels.ensures) (no_label (λ first. omega arith))

pub returns-in-Some-clause-rejected : goal.returns-in-Some-clause-rejected
returns-in-Some-clause-rejected g c =
    let ne = eqb-false (length c.as_slice-labels.result.now) 0 (sym c.is_empty.ensures ∙ c.if-is_empty.false) in
    rw (sym c.as_slice-labels.ensures) (late_parent c.in-Some.label (omega arith) c.in-Some.ensures)

pub returns-in-Err-clause-rejected : goal.returns-in-Err-clause-rejected
returns-in-Err-clause-rejected g c =
    let ne = eqb-false (length c.as_slice-labels.result.now) 0 (sym c.is_empty.ensures ∙ c.if-is_empty.false) in
    rw (sym c.as_slice-labels.ensures) (no_choice c.in-Err.label (omega arith) c.in_default.ensures (rw c.in-Err.is at (c.in_ok-label.ensures {u = tt}).choices))

pub unlinked_label-requires-clause-length : goal.unlinked_label-requires-clause-length
unlinked_label-requires-clause-length g c =
    let made = rw c.in-Ok.is at (c.in_ok-label.ensures {u = tt}).pairs in
    ap length (c.as_slice.ensures.value ∙ made) ∙ length-pairs_of (g.G.StepGraph.graph c.args.graph.now) c.as_slice-labels.result.now

pub unlinked_label-requires-clause-reached : goal.unlinked_label-requires-clause-reached
unlinked_label-requires-clause-reached g c = λ k s v there.
    let graph = g.G.StepGraph.graph c.args.graph.now in
    let made = rw c.in-Ok.is at (c.in_ok-label.ensures {u = tt}).pairs in
    let choices = rw c.in-Ok.is at (c.in_ok-label.ensures {u = tt}).choices in
    IsReached-built graph (pair_built graph c.as_slice-labels.result.now c.in_default.ensures choices k s v (rw (c.as_slice.ensures.value, made) at there))

pub returns-in-Some-2-clause-rejected : goal.returns-in-Some-2-clause-rejected
returns-in-Some-2-clause-rejected g c =
    let ne = eqb-false (length c.as_slice-labels.result.now) 0 (sym c.is_empty.ensures ∙ c.if-is_empty.false) in
    let made = rw c.in-Ok.is at (c.in_ok-label.ensures {u = tt}).pairs in
    let choices = rw c.in-Ok.is at (c.in_ok-label.ensures {u = tt}).choices in
    let failing = rw c.in-Some-2.is at (c.in_ok-label-2.ensures {u = tt}).failing in
    rw (sym c.as_slice-labels.ensures) (no_link c.in-Some-2.label (omega arith) c.in_default.ensures choices (rw (c.as_slice.ensures.value, made) at failing))

pub returns-in-None-clause-linked : goal.returns-in-None-clause-linked
returns-in-None-clause-linked g c =
    let ne = eqb-false (length c.as_slice-labels.result.now) 0 (sym c.is_empty.ensures ∙ c.if-is_empty.false) in
    let made = rw c.in-Ok.is at (c.in_ok-label.ensures {u = tt}).pairs in
    let choices = rw c.in-Ok.is at (c.in_ok-label.ensures {u = tt}).choices in
    let none = rw c.in-None.is at (c.in_ok-label-2.ensures {u = tt}).failing in
    rw (sym c.as_slice-labels.ensures) (record { first = omega arith; parents = c.in_default.ensures; choices = choices; links = rw (c.as_slice.ensures.value, made) at none })
