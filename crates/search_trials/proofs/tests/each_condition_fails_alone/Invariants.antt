use Rattle.search_trials.proofs.tests.each_condition_fails_alone.Given as goal

abbrev pub ghosts-finding : goal.ghosts-finding
ghosts-finding g a = record { name = a.blank.name; parts = a.blank.parts }
