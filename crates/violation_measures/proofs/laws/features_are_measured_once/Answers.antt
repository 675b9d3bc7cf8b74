use Rattle.std.proofs.Common.{[], arith}
use Rattle.violation_measures.specs.Measured.{rule_numbers, used_by}
use Rattle.violation_measures.proofs.NotedLaws.{only_those, each_once, few_folded, all_named}
use Rattle.violation_measures.proofs.laws.features_are_measured_once.Goals as goal

pub returns-clause-named : goal.returns-clause-named
unfolding used_by
returns-clause-named c = λ find at_end rules. only_those (rule_numbers find at_end rules)

pub returns-clause-once : goal.returns-clause-once
unfolding used_by
returns-clause-once c = λ find at_end rules. each_once (rule_numbers find at_end rules)

pub returns-clause-few : goal.returns-clause-few
unfolding used_by
returns-clause-few c = λ find at_end rules. few_folded (rule_numbers find at_end rules) [] (omega arith)

pub returns-clause-all : goal.returns-clause-all
unfolding used_by
returns-clause-all c = λ find at_end rules room. all_named (rule_numbers find at_end rules) [] room
