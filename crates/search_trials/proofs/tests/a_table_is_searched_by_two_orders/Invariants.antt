use Rattle.search_trials.proofs.tests.a_table_is_searched_by_two_orders.Given as goal

abbrev pub ghosts-table_text : goal.ghosts-table_text
ghosts-table_text g a = record { name = a.blank.name; parts = a.blank.parts }

abbrev pub ghosts-table_text-2 : goal.ghosts-table_text-2
ghosts-table_text-2 g a = record { name = a.blank.name; parts = a.blank.parts }
