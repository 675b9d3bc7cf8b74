-- What due outcomes have in common: of each command a line.
use Rattle.std.proofs.Common.{◌≡◌, List, ℕ}
use Rattle.command_outcome.proofs.DueOutcomes.{IsLawful, lawful_by, print_lawful}
use Rattle.check_command.proofs.CheckLaw.{check_lawful}
use Rattle.rulebook_commands.proofs.CompareLaw.{compare_lawful}
use Rattle.rulebook_commands.proofs.Derivings.{accept_lawful, derive_lawful}
use Rattle.rulebook_commands.proofs.PlanLaw.{plan_lawful}
use Rattle.rulebook_commands.proofs.Recorded.{judge_lawful}
use Rattle.rulebook_commands.proofs.Sampled.{sample_lawful}
use Rattle.rulebook_commands.proofs.ShowLaw.{show_lawful}
use Rattle.rulebook_commands.proofs.WalkLaw.{walk_lawful}
use Rattle.rulebook_cli.specs.Asked.{asked, task_of}
use Rattle.rulebook_cli.specs.Help.{help_text}
use Rattle.rulebook_cli.specs.Laws.{FilesAreKept, OneOutcomeIsDue, OneStatusIsDue}
use Rattle.rulebook_cli.specs.Words.{Request, pick, compare, show, walk, accept, derive, judge, plan, check, sample, help, reading}
use Rattle.rulebook_cli.proofs.PickLaw.{pick_lawful}

each : (request : Request) → IsLawful (task_of request)
each (pick book table) = pick_lawful book table
each (compare book table) = compare_lawful book table
each (show scenario) = show_lawful scenario
each (walk scenario book lattice list) = walk_lawful scenario book lattice list
each (accept parent child) = accept_lawful parent child
each (derive parent script) = derive_lawful parent script
each (judge scenario book lattice records) = judge_lawful scenario book lattice records
each (plan scenario book lattice certificate) = plan_lawful scenario book lattice certificate
each (check scenario book lattice certificate) = check_lawful scenario book lattice certificate
each (sample number) = sample_lawful number
each help = print_lawful help_text

all : (words : List (List ℕ)) → IsLawful (asked words)
all words = lawful_by task_of each (reading words)

pub one_outcome : OneOutcomeIsDue
one_outcome words files o p saves = (all words).once saves files o p

pub one_status : OneStatusIsDue
one_status words = (all words).ends_alike

pub files_kept : FilesAreKept
files_kept words = (all words).keeps_files
