-- What words ask for, as a task. This project's own.
use Rattle.std.specs.Prelude.{ℕ, List}
use Rattle.command_outcome.specs.Tasks.{Task, print_task, task_by}
use Rattle.rulebook_cli.specs.Words.{Request, pick, compare, show, walk, accept, derive, judge}
use Rattle.rulebook_cli.specs.Words.{plan, check, sample, help, reading}
use Rattle.rulebook_cli.specs.Pick.{pick_task}
use Rattle.rulebook_commands.specs.Compare.{compare_task}
use Rattle.rulebook_commands.specs.Show.{show_task}
use Rattle.rulebook_commands.specs.Walk.{walk_task}
use Rattle.rulebook_commands.specs.Accept.{accept_task}
use Rattle.rulebook_commands.specs.Derive.{derive_task}
use Rattle.rulebook_commands.specs.Judge.{judge_task}
use Rattle.rulebook_commands.specs.Plan.{plan_task}
use Rattle.check_command.specs.Check.{check_task}
use Rattle.rulebook_commands.specs.Sample.{sample_task}
use Rattle.rulebook_cli.specs.Help.{help_text}

abbrev pub task_of : Request → Task
task_of (pick book table) = pick_task book table
task_of (compare book table) = compare_task book table
task_of (show scenario) = show_task scenario
task_of (walk scenario book lattice list) = walk_task scenario book lattice list
task_of (accept parent child) = accept_task parent child
task_of (derive parent script) = derive_task parent script
task_of (judge scenario book lattice records) = judge_task scenario book lattice records
task_of (plan scenario book lattice certificate) = plan_task scenario book lattice certificate
task_of (check scenario book lattice certificate) = check_task scenario book lattice certificate
task_of (sample number) = sample_task number
task_of help = print_task help_text

-- words with no reading are told the usage
abbrev pub asked : List (List ℕ) → Task
asked words = task_by task_of (reading words)
