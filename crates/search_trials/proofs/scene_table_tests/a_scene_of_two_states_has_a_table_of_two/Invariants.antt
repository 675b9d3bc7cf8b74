use Rattle.search_trials.proofs.scene_table_tests.a_scene_of_two_states_has_a_table_of_two.Given as goal

abbrev pub ghosts-has_state : goal.ghosts-has_state
ghosts-has_state g a = record { name = a.blank.name; parts = a.blank.parts }
