use Rattle.check_command.proofs.certificates.show_answers.Given as goal

abbrev pub ghosts-checked : goal.ghosts-checked
ghosts-checked a = record { name = a.blank.name; parts = a.blank.parts }
