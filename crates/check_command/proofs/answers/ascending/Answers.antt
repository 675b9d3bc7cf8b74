use Rattle.std.proofs.Common.{rules, ◌≡◌, Bor, List, map, subst}
use Rattle.std.specs.List.Sorted.{IsPermutation}
use Rattle.std.specs.Ordering.{is_lt}
use Rattle.std.proofs.lemmas.Fn.{always_returns_same}
use Rattle.std.proofs.lemmas.List.Sorted.{IsPermutation-map}
use Rattle.certificate_checker.specs.declared.checked.Attained.{Attained}
use Rattle.check_command.proofs.AscendingAnswers.{before, before_ranks, sorted_now}
use Rattle.check_command.proofs.answers.ascending.Goals as goal

pub returns-clause-same : goal.returns-clause-same
returns-clause-same c =
    let collected : map (λ (a : Bor Attained). a.now) c.in_ok-sorted.sorted.items ≡ c.args.answers.now = search rules in
    subst (λ (xs : List Attained). IsPermutation xs (map (λ (a : Bor Attained). a.now) c.sort_by.new.self.items)) collected
    (IsPermutation-map (λ (a : Bor Attained). a.now) c.in_ok-sorted.sorted.items c.sort_by.new.self.items c.sort_by.ensures.permutation)

pub returns-clause-sorted : goal.returns-clause-sorted
returns-clause-sorted c =
    sorted_now c.sort_by.new.self.items
    (c.in_ok-sort_by.ensures.sorted before before_ranks (always_returns_same _ (λ a r. is_lt r ≡ before a.0.now a.1.0.now) _ (λ a r f' k. search rules)))
