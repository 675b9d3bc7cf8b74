-- `check` accepts the certificate that `plan` saves.
use Rattle.std.proofs.Common.{◌≡◌, ℕ, ◌≤◌, Bool, true, false, ◌&&◌, List, [], ◌∷◌, ◌++◌, length, Option, None, Some, Result, Ok, Err, refl, sym, ap, subst, ◌∙◌, inl, inr, arith}
use Rattle.std.specs.Prelude.{◌⊎◌, not, nat_lt, cond, codes, if◌then◌else◌}
use Rattle.std.specs.FinMap.{get, insert, get-insert}
use Rattle.std.specs.List.{list_all}
use Rattle.std.specs.Str.{bytes_eq}
use Rattle.std.proofs.lemmas.Bool.{and_parts}
use Rattle.std.proofs.lemmas.Cmp.{nat_list_cmp_total}
use Rattle.std.proofs.lemmas.Map.Text.{is_eq-slice_cmp}
use Rattle.std.proofs.lemmas.Slice.Eq.{bytes_eq-Decides}
use Rattle.outside_io.specs.Outside.{Files}
use Rattle.outside_io.specs.declared.TheConstants.{MAX_FILE}
use Rattle.rule_language.specs.declared.book.Book.{Book}
use Rattle.scenario_model.specs.declared.scenario.Scenario.{Scenario}
use Rattle.certificate_text.specs.ReadText.{certificate_in}
use Rattle.certificate_text.specs.declared.certificate.Certificate.{Certificate}
use Rattle.certificate_text.specs.declared.fault.CertFault.{CertFault}
use Rattle.certificate_text.proofs.WrittenWhole.{read_again}
use Rattle.command_outcome.specs.declared.outcome.Role.{Role}
use Rattle.command_outcome.specs.declared.outcome.Role.TheVariants as role
use Rattle.command_outcome.specs.declared.outcome.Status.TheVariants as status
use Rattle.command_outcome.specs.Inputs.{Halt, absent, refusal, and_then, gives, held_as, in_role, told}
use Rattle.command_outcome.specs.Outcome.{Outcome, refused_text}
use Rattle.command_outcome.specs.Tasks.{IsDueTo, Settles, task_by}
use Rattle.command_outcome.proofs.Serving.{outcome}
use Rattle.rulebook_cli.specs.Asked.{task_of}
use Rattle.check_command.specs.Certificates.{certificate_fault_text, certificate_input, certificate_read}
use Rattle.check_command.specs.Check.{CheckMakes, check_inputs, check_task}
use Rattle.bound_scene.specs.Inputs.{book_read}
use Rattle.rulebook_cli.specs.Laws.{PlansAreAccepted}
use Rattle.rulebook_commands.specs.Plan.{IsPlanned, PlanMakes, plan_inputs, plan_task}
use Rattle.bound_scene.specs.ScenarioInput.{scenario_read}
use Rattle.bound_scene.specs.SceneInputs.{bound_scene, lattice_read, scene_files, with_book, with_lattice}
use Rattle.command_outcome.specs.FileWords.{is_another, is_word}
use Rattle.rulebook_cli.specs.Words.{Request, plan, check, reading, with_words}
use Rattle.bound_scene.specs.declared.scene_files.SceneFiles.{SceneFiles}
use Rattle.check_command.proofs.AscendingAnswers.{flips}

-- ---- files under other names

module _ (files : Files) (name bytes : List ℕ) where
  pub held_here : get (insert files name bytes) name ≡ Some bytes
  held_here = get-insert nat_list_cmp_total files name bytes name ∙ ap (λ (b : Bool). cond b (Some bytes) (get files name)) (is_eq-slice_cmp name name ∙ (bytes_eq-Decides name name).1 refl)

  held_there : (other : List ℕ) → bytes_eq name other ≡ false → get (insert files name bytes) other ≡ get files other
  held_there other apart =
      get-insert nat_list_cmp_total files name bytes other ∙ ap (λ (b : Bool). cond b (Some bytes) (get files other)) (is_eq-slice_cmp other name ∙ flips other name ∙ apart)

  read_there : {A : Type 0} (r : Role) (read : List ℕ → Result A (Option (List ℕ))) (other : List ℕ) → bytes_eq name other ≡ false → held_as r read (get (insert files name bytes) other) ≡ held_as r read (get files other)
  read_there r read other apart = ap (held_as r read) (held_there other apart)

then_same : {A B : Type 0} (r : Result A Halt) (f g : A → Result B Halt) → ((x : A) → f x ≡ g x) → and_then r f ≡ and_then r g
then_same (Ok x) f g same = same x
then_same (Err halt) f g same = refl

both_same : {A B : Type 0} (r s : Result A Halt) (f g : A → Result B Halt) → r ≡ s → ((x : A) → f x ≡ g x) → and_then r f ≡ and_then s g
both_same r s f g e same = ap (λ (q : Result _ Halt). and_then q f) e ∙ then_same s f g same

module _ (files : Files) (scenario book lattice name bytes : List ℕ) (no_scenario : bytes_eq name scenario ≡ false) (no_book : bytes_eq name book ≡ false) (no_lattice : bytes_eq name lattice ≡ false) where
  abbrev after : Files
  after = insert files name bytes

  lattice_same : (s : Scenario) (b : Book) → gives (with_lattice lattice s b) after ≡ gives (with_lattice lattice s b) files
  lattice_same s b = both_same _ _ _ _ (read_there files name bytes role.Lattice lattice_read lattice no_lattice) (λ l. refl)

  book_same : (s : Scenario) → gives (with_book book lattice s) after ≡ gives (with_book book lattice s) files
  book_same s = both_same _ _ _ _ (read_there files name bytes role.Book book_read book no_book) (λ b. lattice_same s b)

  files_same : gives (scene_files scenario book lattice) after ≡ gives (scene_files scenario book lattice) files
  files_same = both_same _ _ _ _ (read_there files name bytes role.Scenario scenario_read scenario no_scenario) (λ s. book_same s)

-- ---- a saved certificate is read again

not_long : (n : ℕ) → n ≤ MAX_FILE → nat_lt MAX_FILE n ≡ false
not_long n h = search (arith, h)

read_saved : (certificate : Certificate) (files : Files) (name bytes : List ℕ) → length bytes ≤ MAX_FILE → certificate_in bytes ≡ Ok certificate → gives (certificate_input name) (insert files name bytes) ≡ Ok certificate
read_saved certificate files name bytes fits is =
    ap (held_as role.Certificate certificate_read) (held_here files name bytes)
    ∙ ap (λ (b : Bool). if b then Err (refusal (refused_text role.Certificate (codes "too-long"))) else in_role role.Certificate (certificate_read bytes)) (not_long (length bytes) fits)
    ∙ ap (λ (r : Result Certificate CertFault). in_role role.Certificate (told certificate_fault_text r)) is

-- what stands under a result that is had
had_both : {A B : Type 0} (r : Result A Halt) (f : A → Result B Halt) (y : B) → and_then r f ≡ Ok y → (x : A) × (r ≡ Ok x) × (f x ≡ Ok y)
had_both (Ok x) f y e = (x, refl, e)
had_both (Err halt) f y e = absurd cc

abbrev given_both : SceneFiles → Certificate → Result (SceneFiles × Certificate) Halt
given_both files certificate = Ok (files, certificate)

-- ---- the certificate of a plan

module _ (scenario book lattice name : List ℕ) (apart : is_another scenario book lattice name ≡ true) where
  is_apart : (b : Bool) → not b ≡ true → b ≡ false
  is_apart true e = absurd cc
  is_apart false e = refl

  no_scenario : bytes_eq name scenario ≡ false
  no_scenario = is_apart (bytes_eq name scenario) (and_parts (not (bytes_eq name scenario)) (not (bytes_eq name book) && not (bytes_eq name lattice)) apart).0

  others : (not (bytes_eq name book) && not (bytes_eq name lattice)) ≡ true
  others = (and_parts (not (bytes_eq name scenario)) (not (bytes_eq name book) && not (bytes_eq name lattice)) apart).1

  no_book : bytes_eq name book ≡ false
  no_book = is_apart (bytes_eq name book) (and_parts (not (bytes_eq name book)) (not (bytes_eq name lattice)) others).0

  no_lattice : bytes_eq name lattice ≡ false
  no_lattice = is_apart (bytes_eq name lattice) (and_parts (not (bytes_eq name book)) (not (bytes_eq name lattice)) others).1

  abbrev accepted : Outcome → Outcome
  accepted planned = outcome status.Done (codes "accepted\n" ++ planned.text) planned.files

  module _ (files : Files) (planned : Outcome) where
    had_again : (x : SceneFiles) (h : IsPlanned name files x planned) → gives (plan_inputs scenario book lattice) files ≡ Ok x → gives (check_inputs scenario book lattice name) planned.files ≡ Ok (x, h.plans.certificate)
    had_again x h had =
        let certificate = h.plans.certificate in
        let first = had_both (gives (scene_files scenario book lattice) files) (λ y. gives (bound_scene y) files) x had in
        let again = files_same files scenario book lattice name h.bytes no_scenario no_book no_lattice ∙ first.1 in
        let read = read_saved certificate files name h.bytes h.plans.fits (read_again certificate h.bytes h.plans.saves h.plans.has_text) in
        ap (gives (check_inputs scenario book lattice name)) h.saves
        ∙ ap (λ (r : Result SceneFiles Halt). and_then r (λ y. and_then (gives (certificate_input name) (insert files name h.bytes)) (λ z. and_then (gives (bound_scene y) files) (λ w. given_both w z)))) again
        ∙ ap (λ (r : Result Certificate Halt). and_then r (λ z. and_then (gives (bound_scene first.0) files) (λ w. given_both w z))) read
        ∙ ap (λ (r : Result SceneFiles Halt). and_then r (λ w. given_both w certificate)) first.2

    due_again : (x : SceneFiles) → IsPlanned name files x planned → gives (plan_inputs scenario book lattice) files ≡ Ok x → IsDueTo (check_task scenario book lattice name) planned.files (accepted planned)
    due_again x h had =
        subst (λ (r : Result (SceneFiles × Certificate) Halt). Settles r (CheckMakes planned.files) planned.files (accepted planned)) (sym (had_again x h had))
        (inl (record { answers = h.plans.answers; shows = h.plans.shows; is = ap (λ (t : List ℕ). outcome status.Done (codes "accepted\n" ++ t) planned.files) h.plans.says }))

    by : (r : Result SceneFiles Halt) → gives (plan_inputs scenario book lattice) files ≡ r → Settles r (PlanMakes name files) files planned → planned.status ≡ status.Done → IsDueTo (check_task scenario book lattice name) planned.files (accepted planned)
    by (Ok x) is (inl h) done = due_again x h is
    by (Ok x) is (inr h) done = absurd (too_many (sym (ap (λ (o : Outcome). o.status) h.is) ∙ done))
      where
        too_many : status.TooManyLabels ≡ status.Done → ⊥
        too_many e = absurd cc
    by (Err (refusal text)) is h done = absurd (refused (sym (ap (λ (o : Outcome). o.status) h) ∙ done))
      where
        refused : status.Refused ≡ status.Done → ⊥
        refused e = absurd cc
    by (Err absent) is h done = absurd h

    pub plan_accepted : IsDueTo (plan_task scenario book lattice name) files planned → planned.status ≡ status.Done → IsDueTo (check_task scenario book lattice name) planned.files (accepted planned)
    plan_accepted due done = by (gives (plan_inputs scenario book lattice) files) refl due done

-- ---- the words

-- the words behind `plan` have no reading, or they have one behind `check` too
ReadAlike : Option Request → Option Request → Type 0
ReadAlike q r =
    (q ≡ None) ⊎ ((scenario : List ℕ) × (book : List ℕ) × (lattice : List ℕ) × (name : List ℕ) × (q ≡ Some (plan scenario book lattice name)) × (r ≡ Some (check scenario book lattice name)) × (is_another scenario book lattice name ≡ true))

abbrev if_apart : Bool → Request → Option Request
if_apart b request = if b then Some request else None

alike_apart : (s b l c : List ℕ) (t : Bool) → is_another s b l c ≡ t → ReadAlike (if_apart t (plan s b l c)) (if_apart t (check s b l c))
unfolding ReadAlike
alike_apart s b l c true is = inr (s, b, l, c, refl, refl, is)
alike_apart s b l c false is = inl refl

with_alike : (words : List (List ℕ)) → ReadAlike (with_words (codes "plan") words) (with_words (codes "check") words)
unfolding ReadAlike
with_alike [] = inl refl
with_alike (a ∷ []) = inl refl
with_alike (a ∷ b ∷ []) = inl refl
with_alike (a ∷ b ∷ c ∷ []) = inl refl
with_alike (a ∷ b ∷ c ∷ d ∷ []) = alike_apart a b c d (is_another a b c d) refl
with_alike (a ∷ b ∷ c ∷ d ∷ e ∷ words) = inl refl

if_words : (t : Bool) (q r : Option Request) → ReadAlike q r → ReadAlike (if t then q else None) (if t then r else None)
unfolding ReadAlike
if_words true q r h = h
if_words false q r h = inl refl

read_alike : (words : List (List ℕ)) → ReadAlike (reading (codes "plan" ∷ words)) (reading (codes "check" ∷ words))
read_alike words = if_words (list_all is_word words) (with_words (codes "plan") words) (with_words (codes "check") words) (with_alike words)

by_reading : (q r : Option Request) → ReadAlike q r → (files : Files) (planned : Outcome) → IsDueTo (task_by task_of q) files planned → planned.status ≡ status.Done
    → IsDueTo (task_by task_of r) planned.files (outcome status.Done (codes "accepted\n" ++ planned.text) planned.files)
unfolding ReadAlike
by_reading q r (inl none) files planned due done = absurd (used (sym (ap (λ (o : Outcome). o.status) (subst (λ (x : Option Request). IsDueTo (task_by task_of x) files planned) none due)) ∙ done))
  where
    used : status.Usage ≡ status.Done → ⊥
    used e = absurd cc
by_reading q r (inr (s, b, l, c, is, again, apart)) files planned due done =
    subst (λ (x : Option Request). IsDueTo (task_by task_of x) planned.files (outcome status.Done (codes "accepted\n" ++ planned.text) planned.files)) (sym again)
    (plan_accepted s b l c apart files planned (subst (λ (x : Option Request). IsDueTo (task_by task_of x) files planned) is due) done)

pub plans_accepted : PlansAreAccepted
plans_accepted words files planned = by_reading (reading (codes "plan" ∷ words)) (reading (codes "check" ∷ words)) (read_alike words) files planned
