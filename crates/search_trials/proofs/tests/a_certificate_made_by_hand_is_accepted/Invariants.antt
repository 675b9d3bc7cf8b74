use Rattle.search_trials.proofs.tests.a_certificate_made_by_hand_is_accepted.Given as goal

abbrev pub ghosts-finding : goal.ghosts-finding
ghosts-finding g a = record { name = a.blank.name; parts = a.blank.parts }
