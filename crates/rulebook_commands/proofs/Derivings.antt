-- What is due to `accept` and `derive` over their inputs.
use Rattle.std.proofs.Common.{◌≡◌, ℕ, List, Bool, true, false, Option, None, Some, Result, Ok, Err, Vec, refl, sym, ap, subst, ◌∙◌, inl, inr}
use Rattle.std.specs.declared.alloc.Global.{Global}
use Rattle.outside_io.specs.Outside.{Files}
use Rattle.rule_language.specs.declared.book.Book.{Book}
use Rattle.rule_language.specs.Writing.{book_text}
use Rattle.std.specs.Bool.{OnFalse}
use Rattle.book_operations.specs.Kinds.{IsOfKind, IsStepFault, ShowsAs}
use Rattle.book_operations.specs.Scripts.{IsScriptFault, is_memory}
use Rattle.book_operations.specs.declared.fault.DeriveFault.{DeriveFault}
use Rattle.book_operations.specs.declared.fault.DeriveFault.TheVariants as fault
use Rattle.book_operations.specs.declared.kind.Accepted.{Accepted}
use Rattle.book_operations.proofs.OneFault.{one-kind, script-fault-once, step-fault-once}
use Rattle.book_operations.proofs.Outcomes.{no-fault, one-book, step-once}
use Rattle.command_outcome.specs.declared.outcome.Ending.TheVariants as ending
use Rattle.command_outcome.specs.declared.outcome.Role.TheVariants as role
use Rattle.command_outcome.specs.declared.outcome.Status.TheVariants as status
use Rattle.command_outcome.specs.declared.outcome.Stop.{Stop}
use Rattle.command_outcome.specs.declared.outcome.Stop.TheVariants as stop
use Rattle.command_outcome.specs.Ends.{Has, Serves, Shelf}
use Rattle.command_outcome.specs.Outcome.{Outcome, Refuses, refused_text}
use Rattle.command_outcome.specs.Tasks.{KeepsFiles}
use Rattle.command_outcome.proofs.DueOutcomes.{same_outcome}
use Rattle.command_outcome.proofs.Serving.{ends, made}
use Rattle.rulebook_commands.specs.Accept.{AcceptMakes, Accepts, AcceptStops, IsAcceptance, IsRefusal, accept_inputs, accept_task, kind_text}
use Rattle.rulebook_commands.specs.Derive.{DeriveMakes, DerivesText, DeriveStops, IsDerivedTo, IsScriptRefused, derive_inputs, derive_task}
use Rattle.rulebook_commands.specs.DeriveFaults.{derive_fault_text}
use Rattle.command_outcome.proofs.DueOutcomes.{IsLawful, lawful}

-- ---- before anything is written

module _ (parent_name child_name : List ℕ) (old mid : Shelf) (parent child : Book) (had : Has (accept_inputs parent_name child_name) old mid (parent, child)) where
  pub accept_serves : (result : Result (Vec ℕ Global) Stop) → Accepts parent child result → Serves (accept_task parent_name child_name) old mid result
  accept_serves (Ok text) h = made (accept_task parent_name child_name) old mid (parent, child) had status.Done text.items (λ before. inl (record { done = refl; stays = refl; taken = h }))
  accept_serves (Err stop.NoMemory) h = had.stands
  accept_serves (Err (stop.Ended e text)) h =
      ends (accept_task parent_name child_name) old mid (parent, child) had ending.Refused (refused_text role.Child h.0) (stop.Ended e text) h.2 (λ before. inr (record { said = h.0; no_step = h.1; is = refl }))
  accept_serves (Err (stop.Unread r)) h = absurd h
  accept_serves (Err stop.Unsaved) h = absurd h

module _ (parent_name script_name : List ℕ) (old mid : Shelf) (parent : Book) (script : List ℕ) (had : Has (derive_inputs parent_name script_name) old mid (parent, script)) where
  pub derive_serves : (result : Result (Vec ℕ Global) Stop) → DerivesText parent script result → Serves (derive_task parent_name script_name) old mid result
  derive_serves (Ok text) h = made (derive_task parent_name script_name) old mid (parent, script) had status.Done text.items (λ before. inl (record { done = refl; stays = refl; derives = h }))
  derive_serves (Err stop.NoMemory) h = had.stands
  derive_serves (Err (stop.Ended e text)) h =
      ends (derive_task parent_name script_name) old mid (parent, script) had ending.Refused (refused_text role.Script h.0) (stop.Ended e text) h.2 (λ before. inr (record { said = h.0; no_script = h.1; is = refl }))
  derive_serves (Err (stop.Unread r)) h = absurd h
  derive_serves (Err stop.Unsaved) h = absurd h

-- ---- a fault that is told

-- the end by what is said of a fault that a child has
pub no_step_stops : (parent child : Book) (kind : Accepted) (found : DeriveFault) (told : Option (List ℕ)) (end : Stop) → derive_fault_text found ≡ told → IsOfKind parent child kind → IsStepFault parent child kind found → ShowsAs parent child kind found
    → Refuses role.Child told end → AcceptStops parent child end
no_step_stops parent child kind found None end is of refused shows h = subst (AcceptStops parent child) (sym h) tt
no_step_stops parent child kind found (Some said) stop.NoMemory is of refused shows h = tt
no_step_stops parent child kind found (Some said) (stop.Ended e text) is of refused shows h = (said, record { kind_is = kind; of_kind = of; fault = found; refused = refused; shows = shows; told = is }, h)
no_step_stops parent child kind found (Some said) (stop.Unread r) is of refused shows h = absurd h
no_step_stops parent child kind found (Some said) stop.Unsaved is of refused shows h = absurd h

not_memory : (found : DeriveFault) (said : List ℕ) → derive_fault_text found ≡ Some said → is_memory found ≡ false
not_memory fault.NoMemory said e = absurd cc
not_memory _ said e = refl

-- the end by what is said of a fault that a script has
pub no_script_stops : (parent : Book) (script : List ℕ) (found : DeriveFault) (told : Option (List ℕ)) (end : Stop) → derive_fault_text found ≡ told → OnFalse (is_memory found) (IsScriptFault script parent found)
    → Refuses role.Script told end → DeriveStops parent script end
no_script_stops parent script found None end is refused h = subst (DeriveStops parent script) (sym h) tt
no_script_stops parent script found (Some said) stop.NoMemory is refused h = tt
no_script_stops parent script found (Some said) (stop.Ended e text) is refused h = (said, record { fault = found; refused = on_false (is_memory found) (not_memory found said is) refused; told = is }, h)
  where
    on_false : (b : Bool) → b ≡ false → OnFalse b (IsScriptFault script parent found) → IsScriptFault script parent found
    on_false true e g = absurd cc
    on_false false e g = g
no_script_stops parent script found (Some said) (stop.Unread r) is refused h = absurd h
no_script_stops parent script found (Some said) stop.Unsaved is refused h = absurd h

-- ---- one outcome

same_said : (found other : DeriveFault) (said again : List ℕ) → found ≡ other → derive_fault_text found ≡ Some said → derive_fault_text other ≡ Some again → said ≡ again
same_said found other said again same e f = some_same said again (sym e ∙ ap derive_fault_text same ∙ f)
  where
    some_same : (x y : List ℕ) → Some x ≡ Some y → x ≡ y
    some_same x y h = cc

module _ (before : Files) (parent child : Book) (o p : Outcome) where
  one_acceptance : IsAcceptance before parent child o → IsAcceptance before parent child p → o ≡ p
  one_acceptance h k =
      same_outcome o p (h.done ∙ sym k.done) (h.taken.says ∙ ap kind_text (one-kind parent child h.taken.kind_is k.taken.kind_is h.taken.of_kind k.taken.of_kind) ∙ sym k.taken.says) (h.stays ∙ sym k.stays)

  one_refusal : IsRefusal before parent child o → IsRefusal before parent child p → o ≡ p
  one_refusal h k =
      let f = h.no_step in
      let g = k.no_step in
      let kind = one-kind parent child f.kind_is g.kind_is f.of_kind g.of_kind in
      let same = step-fault-once parent child g.kind_is f.fault g.fault (not_memory f.fault h.said f.told) (not_memory g.fault k.said g.told) (subst (λ (a : Accepted). IsStepFault parent child a f.fault) kind f.refused) g.refused in
      h.is ∙ ap (λ (said : List ℕ). record { status = status.Refused; text = refused_text role.Child said; files = before }) (same_said f.fault g.fault h.said k.said same f.told g.told) ∙ sym k.is

  not_both : IsAcceptance before parent child o → IsRefusal before parent child p → ⊥
  not_both h k =
      let f = k.no_step in
      let kind = one-kind parent child f.kind_is h.taken.kind_is f.of_kind h.taken.of_kind in
      step-once parent child h.taken.kind_is h.taken.step f.fault (not_memory f.fault k.said f.told) (subst (λ (a : Accepted). IsStepFault parent child a f.fault) kind f.refused)

one_accept : (before : Files) (x : Book × Book) (o p : Outcome) → AcceptMakes before x o → AcceptMakes before x p → o ≡ p
one_accept before x o p (inl h) (inl k) = one_acceptance before x.0 x.1 o p h k
one_accept before x o p (inl h) (inr k) = absurd (not_both before x.0 x.1 o p h k)
one_accept before x o p (inr h) (inl k) = absurd (not_both before x.0 x.1 p o k h)
one_accept before x o p (inr h) (inr k) = one_refusal before x.0 x.1 o p h k

accept_keeps : (parent child : List ℕ) (before : Files) (x : Book × Book) (o : Outcome) → AcceptMakes before x o → KeepsFiles (accept_task parent child) before o
accept_keeps parent child before x o (inl h) = inl h.stays
accept_keeps parent child before x o (inr h) = inl (ap (λ (q : Outcome). q.files) h.is)

module _ (before : Files) (parent : Book) (script : List ℕ) (o p : Outcome) where
  one_derivation : IsDerivedTo before parent script o → IsDerivedTo before parent script p → o ≡ p
  one_derivation h k =
      same_outcome o p (h.done ∙ sym k.done) (h.derives.says ∙ ap book_text (one-book script parent h.derives.book k.derives.book h.derives.derived k.derives.derived) ∙ sym k.derives.says) (h.stays ∙ sym k.stays)

  one_script_refusal : IsScriptRefused before parent script o → IsScriptRefused before parent script p → o ≡ p
  one_script_refusal h k =
      let f = h.no_script in
      let g = k.no_script in
      let same = script-fault-once script parent f.fault g.fault (not_memory f.fault h.said f.told) (not_memory g.fault k.said g.told) f.refused g.refused in
      h.is ∙ ap (λ (said : List ℕ). record { status = status.Refused; text = refused_text role.Script said; files = before }) (same_said f.fault g.fault h.said k.said same f.told g.told) ∙ sym k.is

  not_both_scripts : IsDerivedTo before parent script o → IsScriptRefused before parent script p → ⊥
  not_both_scripts h k = no-fault script parent h.derives.book k.no_script.fault h.derives.derived (not_memory k.no_script.fault k.said k.no_script.told) k.no_script.refused

one_derive : (before : Files) (x : Book × List ℕ) (o p : Outcome) → DeriveMakes before x o → DeriveMakes before x p → o ≡ p
one_derive before x o p (inl h) (inl k) = one_derivation before x.0 x.1 o p h k
one_derive before x o p (inl h) (inr k) = absurd (not_both_scripts before x.0 x.1 o p h k)
one_derive before x o p (inr h) (inl k) = absurd (not_both_scripts before x.0 x.1 p o k h)
one_derive before x o p (inr h) (inr k) = one_script_refusal before x.0 x.1 o p h k

derive_keeps : (parent script : List ℕ) (before : Files) (x : Book × List ℕ) (o : Outcome) → DeriveMakes before x o → KeepsFiles (derive_task parent script) before o
derive_keeps parent script before x o (inl h) = inl h.stays
derive_keeps parent script before x o (inr h) = inl (ap (λ (q : Outcome). q.files) h.is)

-- ---- what their due outcomes have in common

pub accept_lawful : (parent child : List ℕ) → IsLawful (accept_task parent child)
accept_lawful parent child = lawful (accept_task parent child) one_accept (accept_keeps parent child)

pub derive_lawful : (parent script : List ℕ) → IsLawful (derive_task parent script)
derive_lawful parent script = lawful (derive_task parent script) one_derive (derive_keeps parent script)
