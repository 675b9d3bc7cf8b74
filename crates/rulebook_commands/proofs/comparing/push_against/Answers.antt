use Rattle.std.proofs.Common.{◌≡◌, List, map, take, get_or, subst, ◌∷◌, [], ◌∙◌}
use Rattle.std.proofs.lemmas.List.{map_more, take_all, get_or_default}
use Rattle.preorder.specs.declared.row.Row.{Row}
use Rattle.rulebook_order.specs.NoWorseBy.{IsVerdictBy}
use Rattle.rulebook_commands.specs.Compare.{AddsLines, IsPairLine}
use Rattle.rulebook_commands.proofs.Lines.{adds_more}
use Rattle.rulebook_commands.proofs.comparing.push_against.Goals as goal

pub loop-other-preserved : goal.loop-other-preserved
loop-other-preserved c =
    let other : c.other-item.result ≡ get_or c.args.others.now c.loop-other.other-index c.args.first.now = c.other-item.is ∙ get_or_default c.args.others.now c.loop-other.other-index _ c.args.first.now c.loop-other-test.true in
    rw (map_more {Y = Row × Row} (λ (other : Row). (c.args.first.now, other)) c.args.others.now c.loop-other.other-index c.args.first.now c.loop-other-test.true, ← other)
    (adds_more (IsPairLine (IsVerdictBy c.args.order.now) c.args.rules.now) (map (λ (other : Row). (c.args.first.now, other)) (take c.loop-other.other-index c.args.others.now)) ((c.args.first.now, c.other-item.result) ∷ [])
    c.args.out.now.items c.loop-other.out.items c.push_pair.new.out.items c.loop-other.invariant c.in_ok-push_pair.ensures)

pub returns : goal.returns
returns c =
    subst (λ (others : List Row). AddsLines (IsPairLine (IsVerdictBy c.args.order.now) c.args.rules.now) (map (λ (other : Row). (c.args.first.now, other)) others) c.args.out.now.items c.loop-other.out.items)
    (take_all c.loop-other.other-index c.args.others.now c.loop-other-test.false) c.loop-other.invariant
