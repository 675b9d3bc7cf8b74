-- `--help`: the commands with their words.
use Rattle.std.specs.Prelude.{ℕ, List, codes}

-- a line for each command
abbrev pub help_text : List ℕ
help_text =
    codes
    "pick BOOK TABLE\ncompare BOOK TABLE\nshow SCENARIO\nwalk SCENARIO BOOK LATTICE LIST\nplan SCENARIO BOOK LATTICE CERT\ncheck SCENARIO BOOK LATTICE CERT\naccept PARENT CHILD\nderive PARENT SCRIPT\njudge SCENARIO BOOK LATTICE RECORDS\nsample N\n--help\n"
