use Rattle.std.proofs.Common.{◌≡◌, ◌++◌, refl, rules, append_assoc}
use Rattle.rulebook_order.specs.NoWorseBy.{IsVerdictBy}
use Rattle.rulebook_commands.specs.Compare.{IsPairLine, pair_line}
use Rattle.rulebook_commands.proofs.Lines.{adds_one}
use Rattle.rulebook_commands.proofs.comparing.push_pair.Goals as goal

pub returns : goal.returns
returns c =
    let verdict = rw (c.as_slice.ensures.value, c.as_slice-2.ensures.value) at c.compare-verdict.ensures in
    let appended : c.push.new.self.items ≡ c.args.out.now.items ++ pair_line c.args.rules.now (c.args.first.now, c.args.second.now) c.compare-verdict.result = search (rules, append_assoc) in
    adds_one (IsPairLine (IsVerdictBy c.args.order.now) c.args.rules.now) (c.args.first.now, c.args.second.now) c.args.out.now.items
    (pair_line c.args.rules.now (c.args.first.now, c.args.second.now) c.compare-verdict.result) c.push.new.self.items (c.compare-verdict.result, verdict, refl) appended
