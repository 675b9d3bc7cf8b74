use Rattle.rulebook_commands.proofs.sampling.sample_bound.Given as goal

abbrev pub ghosts-searched : goal.ghosts-searched
ghosts-searched a = record { name = a.blank.name; parts = a.blank.parts }
