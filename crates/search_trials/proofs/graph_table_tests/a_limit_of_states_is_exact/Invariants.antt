use Rattle.search_trials.proofs.graph_table_tests.a_limit_of_states_is_exact.Given as goal

abbrev pub ghosts-has_state : goal.ghosts-has_state
ghosts-has_state g a = record { name = a.blank.name; parts = a.blank.parts }
