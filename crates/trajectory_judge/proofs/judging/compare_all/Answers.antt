use Rattle.std.proofs.Common.{ℕ, ◌+◌, ◌-◌, ◌++◌, ◌∙◌, sym, ap, List, map, length, append_assoc}
use Rattle.std.specs.List.{range_with_len}
use Rattle.trajectory_judge.specs.Judgements.{places}
use Rattle.rulebook_order.specs.Pairs.{later_pairs}
use Rattle.trajectory_judge.proofs.Measuring.{pairs_from, with_each}
use Rattle.trajectory_judge.proofs.judging.compare_all.Goals as goal

pub loop-i-preserved : goal.loop-i-preserved
loop-i-preserved c =
    let n = length c.args.runs.now in
    let i = c.loop-i.i in
    let rest = later_pairs (range_with_len (i + 1) (n - (i + 1))) in (
      rw (c.in_ok-push_against.ensures.places) (append_assoc (map places c.loop-i.pairs) (with_each i (i + 1) (n - (i + 1))) rest)
          ∙ (ap (λ (ps : List (ℕ × ℕ)). map places c.loop-i.pairs ++ ps) (sym (pairs_from i n c.loop-i-test.true)) ∙ c.loop-i.invariant.0),
      c.in_ok-push_against.ensures.verdicts,
    )
