-- What due outcomes of `show` have in common.
use Rattle.std.proofs.Common.{ℕ, List, sym, ◌∙◌, ap}
use Rattle.command_outcome.specs.Outcome.{Outcome}
use Rattle.command_outcome.proofs.DueOutcomes.{IsLawful, lawful_text}
use Rattle.rulebook_commands.specs.Show.{show_task}

pub show_lawful : (scenario : List ℕ) → IsLawful (show_task scenario)
show_lawful scenario = lawful_text (show_task scenario) (λ files x o p h k. h ∙ sym k) (λ files x o h. ap (λ (q : Outcome). q.files) h)
