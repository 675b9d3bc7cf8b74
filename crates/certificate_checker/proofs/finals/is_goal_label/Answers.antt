use Rattle.std.proofs.Common.{◌≡◌, ℕ, List, length, sym, ◌∙◌, refl, subst, true}
use Rattle.std.proofs.lemmas.Bool.{false≢true}
use Rattle.std.proofs.lemmas.Option.{same_Some, none-some, slice_get_read, slice_get_past}
use Rattle.certificate_checker.proofs.finals.is_goal_label.Goals as goal

pub is_goal-requires : goal.is_goal-requires
is_goal-requires g c =
    let p = c.in-Some.field-0.now in
    let l = c.in-Some.ensures.lookup in
    let there = slice_get_read c.args.pairs.now (length c.args.pairs.now) c.args.number p refl l.3.0 l.1 in
    (p.1, c.requires.reached c.args.number p.0 p.1 there)

pub returns-in-None : goal.returns-in-None
returns-in-None g c =
    let past = slice_get_past c.args.pairs.now c.args.number c.in-None.ensures.lookup.3 in
    (λ h. absurd (false≢true h), λ h. absurd (none-some _ (sym past ∙ h.pair_is)))

pub returns-in-Some : goal.returns-in-Some
returns-in-Some g c =
    let graph = g.G.StepGraph.graph c.args.graph.now in
    let p = c.in-Some.field-0.now in
    let l = c.in-Some.ensures.lookup in
    let there = slice_get_read c.args.pairs.now (length c.args.pairs.now) c.args.number p refl l.3.0 l.1 in (
      λ yes. record { state = p.0; vector = p.1; pair_is = there; goal_is = sym c.is_goal.ensures ∙ yes },
      λ h. let e = same_Some _ _ (sym h.pair_is ∙ there) in c.is_goal.ensures ∙ subst (λ (q : g.row.G-State.Denot × List ℕ). graph.goal q.0 ≡ true) e h.goal_is,
    )
