use Rattle.std.proofs.Common.{rules, ◌≡◌, ℕ, List, ap}
use Rattle.command_outcome.specs.Tasks.{print_task}
use Rattle.command_outcome.specs.declared.outcome.Status.TheVariants as status
use Rattle.command_outcome.proofs.HavingInputs.{has_given}
use Rattle.command_outcome.proofs.Serving.{made, outcome}
use Rattle.command_outcome.proofs.printing.print_text.Goals as goal

pub returns : goal.returns
returns c =
    let says : c.in_ok-text.text.items ≡ c.args.text.now = search rules in
    λ at. made (print_task c.args.text.now) at at tt (has_given tt at) status.Done c.in_ok-text.text.items (λ before. ap (λ (text : List ℕ). outcome status.Done text before) says)
