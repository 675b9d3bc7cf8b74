use Rattle.std.proofs.Common.{sym, ◌∙◌, arith}
use Rattle.std.proofs.lemmas.Result.{err_from_is_err_and}
use Rattle.element_tree.specs.Documents.{is_memory}
use Rattle.element_tree.specs.Views.{state}
use Rattle.element_tree.proofs.ReadLaws.{on_more, on_stop, on_end, handed_on}
use Rattle.element_tree.proofs.reader.read_on.Goals as goal

pub returns-in_err-step-clause-exact : goal.returns-in_err-step-clause-exact
returns-in_err-step-clause-exact c =
    let p = err_from_is_err_and c.from_residual.result c.from_residual.ensures.1 in
    let e = c.in_err-step.field-0.0 in
    rw (p.1, p.2) (handed_on (is_memory e) (λ k. sym c.loop-kind.invariant.same ∙ on_stop c.loop-kind.rest.now c.in-Some.after.now (c.in-Some.kind, c.in-Some.token.now) (state c.loop-kind.reader) e c.in-Some.ensures.tokens k) c.in_err-step.ensures.exact)

pub loop-kind-preserved : goal.loop-kind-preserved
loop-kind-preserved c = record {
  same = sym (on_more c.loop-kind.rest.now c.in-Some.after.now (c.in-Some.kind, c.in-Some.token.now) (state c.loop-kind.reader) (state c.step.new.self) c.in-Some.ensures.tokens c.in_ok-step.ensures.exact) ∙ c.loop-kind.invariant.same;
  places = omega (arith, c.in_ok-step.ensures.at, c.in-Some.ensures.whole);
  within = c.in_ok-step.ensures.within c.loop-kind.invariant.within;
}

pub returns-clause-exact : goal.returns-clause-exact
returns-clause-exact c =
    let e = sym c.loop-kind.invariant.same ∙ on_end c.loop-kind.rest.now (state c.loop-kind.reader) c.in_default.ensures.tokens in
    rw e c.finish.ensures.exact
