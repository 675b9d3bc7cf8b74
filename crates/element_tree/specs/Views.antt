-- What the reader has read so far. This project's own.
use Rattle.element_tree.specs.State.{State}
use Rattle.element_tree.specs.declared.reader.Reader.{Reader}

abbrev pub state : Reader → State
state r = record { at = r.at; nodes = r.nodes.items; unended = r.unended }
