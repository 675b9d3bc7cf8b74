-- A loop over tokens.
use Rattle.std.specs.Bool.{OnFalse}
use Rattle.std.proofs.Common.{◌≡◌, ℕ, Bool, true, false, List, [], ◌∷◌, Ok, Err, refl}
use Rattle.element_tree.specs.declared.token.Kind.{Kind}
use Rattle.element_tree.specs.declared.fault.MarkupFault.{MarkupFault}
use Rattle.element_tree.specs.Pieces.{pieces}
use Rattle.element_tree.specs.State.{State}
use Rattle.element_tree.specs.Tokens.{cut_token}
use Rattle.element_tree.specs.Documents.{step, finish, read_on}
use Rattle.reading.specs.Reading.{read_all}

pub on_more : (bytes rest : List ℕ) (token : Kind × List ℕ) (s t : State)
    → pieces cut_token bytes ≡ (token ∷ (pieces cut_token rest).0, (pieces cut_token rest).1) → step token s ≡ Ok t → read_on bytes s ≡ read_on rest t
unfolding read_on read_all
on_more bytes rest token s t e h = rw (e, h) refl

pub on_stop : (bytes rest : List ℕ) (token : Kind × List ℕ) (s : State) (f : MarkupFault)
    → pieces cut_token bytes ≡ (token ∷ (pieces cut_token rest).0, (pieces cut_token rest).1) → step token s ≡ Err f → read_on bytes s ≡ Err f
unfolding read_on read_all
on_stop bytes rest token s f e h = rw (e, h) refl

pub on_end : (bytes : List ℕ) (s : State) → pieces cut_token bytes ≡ ([], bytes) → read_on bytes s ≡ finish bytes s
unfolding read_on read_all
on_end bytes s e = rw e refl

-- a fault that is handed on
pub handed_on : {P Q : Type 0} (b : Bool) → (P → Q) → OnFalse b P → OnFalse b Q
handed_on true h p = tt
handed_on false h p = h p
