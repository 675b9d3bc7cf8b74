-- The first fault of a document (a profile of CommonRoad XML, this project's own).
use Rattle.std.specs.Prelude.{◌≡◌, ℕ, ◌+◌, List, [], ◌++◌, length, Option, Some, None, Ok, Err}
use Rattle.element_tree.specs.declared.fault.MarkupFault.{MarkupFault}
use Rattle.element_tree.specs.declared.fault.MarkupFault.TheVariants.{Malformed, Truncated, TooDeep}
use Rattle.element_tree.specs.declared.fault.MarkupFault.TheVariants.{TooMany, Unsupported}
use Rattle.element_tree.specs.declared.fault.MarkupFault.TheVariants.{NoMemory}
use Rattle.element_tree.specs.declared.token.Kind.{Kind}
use Rattle.element_tree.specs.Pieces.{pieces}
use Rattle.element_tree.specs.Tokens.{cut_token}
use Rattle.element_tree.specs.State.{State}
use Rattle.element_tree.specs.Documents.{step, finish}
use Rattle.element_tree.specs.Contents.{spelling, mark_len}
use Rattle.reading.specs.Reading.{read_all}

-- the fault names this place; want of memory names none
abbrev pub IsAt : ℕ → MarkupFault → Type 0
IsAt place (Malformed n) = n ≡ place
IsAt place (Truncated n) = n ≡ place
IsAt place (TooDeep n) = n ≡ place
IsAt place (TooMany n) = n ≡ place
IsAt place (Unsupported n) = n ≡ place
IsAt place NoMemory = ⊥

-- this fault comes next: the first token of the rest has it, or, where no token can be cut off, the
-- end has it
abbrev pub IsNext : Option ((Kind × List ℕ) × List ℕ) → List ℕ → State → MarkupFault → Type 0
IsNext (Some x) rest s fault = step x.0 s ≡ Err fault
IsNext None rest s fault = finish rest s ≡ Err fault

-- The first fault of the bytes: all tokens before it were read, it comes next, and it names the
-- place where they end.
pub record IsFirstFault (start : State) (bytes : List ℕ) (fault : MarkupFault) : Type 0 where
  pub before : List (Kind × List ℕ)
  pub rest : List ℕ
  pub state : State
  pub whole : spelling before ++ rest ≡ bytes
  pub cut : pieces cut_token bytes
      ≡ (before ++ (pieces cut_token rest).0, (pieces cut_token rest).1)
  pub fine : read_all step before start ≡ Ok state
  pub next : IsNext (cut_token rest) rest state fault
  pub place : IsAt (start.at + length (spelling before)) fault

-- nothing was read, but a byte order mark
abbrev pub at_front : List ℕ → State
at_front bytes = record { at = mark_len bytes; nodes = []; unended = [] }
