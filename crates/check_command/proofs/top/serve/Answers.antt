use Rattle.check_command.proofs.top.serve.Goals as goal

pub returns-in-Help : goal.returns-in-Help
returns-in-Help g c = rw c.in-Help.is (c.print_text.ensures _)
