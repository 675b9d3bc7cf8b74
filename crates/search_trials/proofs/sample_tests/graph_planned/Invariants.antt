use Rattle.search_trials.proofs.sample_tests.graph_planned.Given as goal

abbrev pub ghosts-planned : goal.ghosts-planned
ghosts-planned a = record { name = a.blank.name; parts = a.blank.parts }
