use Rattle.std.proofs.Common.{sym, ◌∙◌}
use Rattle.std.proofs.lemmas.List.Folds.{list_all-map}
use Rattle.std.specs.String.{string_bytes}
use Rattle.command_outcome.specs.FileWords.{is_word}
use Rattle.command_outcome.proofs.file_words.are_words.Goals as goal

pub returns : goal.returns
returns c = c.all_words.ensures ∙ sym (list_all-map is_word string_bytes c.args.words.now)
