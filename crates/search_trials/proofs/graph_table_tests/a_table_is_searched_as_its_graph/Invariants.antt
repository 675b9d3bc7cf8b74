use Rattle.search_trials.proofs.graph_table_tests.a_table_is_searched_as_its_graph.Given as goal

abbrev pub ghosts-labels_found : goal.ghosts-labels_found
ghosts-labels_found g a = record { name = a.blank.name; parts = a.blank.parts }
