use Rattle.std.proofs.Common.{rules, ◌≡◌, ℕ, List}
use Rattle.std.specs.Ordering.{is_lt}
use Rattle.std.proofs.lemmas.Cmp.{nat_list_cmp_total}
use Rattle.std.proofs.lemmas.Fn.{always_returns_same}
use Rattle.std.proofs.lemmas.List.MinMax.{ranks_by}
use Rattle.check_command.specs.Answers.{vector_before}
use Rattle.rulebook_commands.proofs.sampling.in_order.Goals as goal

pub returns-clause-sorted : goal.returns-clause-sorted
returns-clause-sorted c =
    c.in_ok-sort_by.ensures.sorted vector_before (ranks_by nat_list_cmp_total (λ (v : List ℕ). v)) (always_returns_same _ (λ a r. is_lt r ≡ vector_before a.0.now a.1.0.now) _ (λ a r f' k. search rules))
