use Rattle.std.proofs.Common.{◌≡◌, ◌++◌, take}
use Rattle.std.specs.List.{flat_map}
use Rattle.rule_language.specs.declared.book.Rule.{Rule}
use Rattle.text_lines.specs.Lines.{word}
use Rattle.check_command.proofs.answers.push_rules.Given as goal

abbrev pub invariant-loop-rule : goal.invariant-loop-rule
invariant-loop-rule l = l.out.items ≡ l.initial.out.items ++ flat_map (λ (rule : Rule). word rule.name) (take l.rule-index l.rules)
