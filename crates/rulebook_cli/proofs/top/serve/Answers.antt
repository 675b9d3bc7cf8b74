use Rattle.rulebook_cli.proofs.top.serve.Goals as goal

pub returns-in-Sample : goal.returns-in-Sample
returns-in-Sample g c = rw c.in-Sample.is (c.sample.ensures _)

pub returns-in-Help : goal.returns-in-Help
returns-in-Help g c = rw c.in-Help.is (c.print_text.ensures _)
