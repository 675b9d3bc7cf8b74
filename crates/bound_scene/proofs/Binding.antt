-- What is told of the binding of a book is what was found of it.
use Rattle.std.proofs.Common.{◌≡◌, ℕ, zero, suc, ◌+◌, ◌≤◌, Bool, true, false, List, [], ◌∷◌, length, Option, Some, Result, Ok, Err, refl, sym, ap, ◌∙◌, subst, arith}
use Rattle.std.specs.Prelude.{All, ◌==◌, not, if◌then◌else◌, ⊤, codes}
use Rattle.std.proofs.lemmas.Bool.{eqb-true}
use Rattle.std.proofs.lemmas.List.Elements.{All-head, All-tail}
use Rattle.reading.specs.Reading.{◌>>=◌ as ◌then◌}
use Rattle.rule_language.specs.declared.book.Book.{Book}
use Rattle.rule_language.specs.declared.book.Rule.{Rule}
use Rattle.rule_language.specs.declared.part.Part.{Part}
use Rattle.violation_measures.specs.Binding.{MayBind, RuleMayBind, IsFirst, IsBare, NamesUnknown, IsTooLarge, HasFirst, IsFaultOf, IsBoundTo}
use Rattle.violation_measures.specs.Intervals.{all_known, all_keep}
use Rattle.violation_measures.specs.Sources.{Features, bounds_of}
use Rattle.violation_measures.specs.declared.bind_fault.BindFault.{BindFault}
use Rattle.violation_measures.specs.declared.bind_fault.BindFault.TheVariants as bind
use Rattle.violation_measures.specs.declared.bound.Bound.{Bound}
use Rattle.command_outcome.specs.declared.outcome.Ending.TheVariants as ending
use Rattle.command_outcome.specs.declared.outcome.Role.{Role}
use Rattle.command_outcome.specs.declared.outcome.Role.TheVariants as role
use Rattle.command_outcome.specs.declared.outcome.Stop.{Stop}
use Rattle.command_outcome.specs.declared.outcome.Stop.TheVariants as stop
use Rattle.command_outcome.specs.Ends.{TestStops}
use Rattle.command_outcome.specs.Inputs.{Halt, refusal, in_role, told}
use Rattle.command_outcome.specs.Outcome.{EndsAs, Refuses, fault_of, refused_text}
use Rattle.bound_scene.specs.Inputs.{rule_name}
use Rattle.bound_scene.specs.SceneInputs.{bind_part, bind_parts, bind_rule, bind_rules, bind_fault_text, binding_told, features}
use Rattle.bound_scene.specs.declared.scene_files.SceneFiles.{SceneFiles}

is_false : (b : Bool) → ¬ (b ≡ true) → b ≡ false
is_false true h = absurd (h refl)
is_false false h = refl

abbrev failed : BindFault → Result ⊤ BindFault
failed fault = Err fault

module _ (f : Features) where
  abbrev tested : ℕ → Bool → Bool → Result ⊤ BindFault
  tested i known keeps = if not known then Err (bind.UnknownFeature i) else if not keeps then Err (bind.RangeTooLarge i) else Ok tt

  part_bound : (i : ℕ) (part : Part) → MayBind f part → bind_part f i part ≡ Ok tt
  part_bound i part h =
      ap (λ (b : Bool). tested i b (all_keep (bounds_of f) part.expr)) h.known
      ∙ ap (λ (b : Bool). tested i true b) h.keeps

  part_unknown : (i : ℕ) (part : Part) → NamesUnknown f part → bind_part f i part ≡ Err (bind.UnknownFeature i)
  part_unknown i part h = ap (λ (b : Bool). tested i b (all_keep (bounds_of f) part.expr)) (is_false (all_known f.find part.expr) h)

  part_large : (i : ℕ) (part : Part) → IsTooLarge f part → bind_part f i part ≡ Err (bind.RangeTooLarge i)
  part_large i part h =
      ap (λ (b : Bool). tested i b (all_keep (bounds_of f) part.expr)) h.known
      ∙ ap (λ (b : Bool). tested i true b) (is_false (all_keep (bounds_of f) part.expr) h.passes)

  parts_bound : (i : ℕ) (parts : List Part) → All (MayBind f) parts → bind_parts f i parts ≡ Ok tt
  parts_bound i [] h = refl
  parts_bound i (part ∷ parts) h =
      ap (λ (r : Result ⊤ BindFault). ◌then◌ r (λ _. bind_parts f i parts)) (part_bound i part (All-head (MayBind f) part parts h))
      ∙ parts_bound i parts (All-tail (MayBind f) part parts h)

  first_part : (i : ℕ) (Bad : Part → Type 0) (fault : BindFault) → ((part : Part) → Bad part → bind_part f i part ≡ Err fault)
      → (parts : List Part) (j : ℕ) → IsFirst (MayBind f) Bad parts j → bind_parts f i parts ≡ Err fault
  first_part i Bad fault tells [] j first = absurd (omega (arith, first.here))
  first_part i Bad fault tells (part ∷ parts) zero first = ap (λ (r : Result ⊤ BindFault). ◌then◌ r (λ _. bind_parts f i parts)) (tells part (first.bad part))
  first_part i Bad fault tells (part ∷ parts) (suc j) first =
      ap (λ (r : Result ⊤ BindFault). ◌then◌ r (λ _. bind_parts f i parts)) (part_bound i part (first.before 0 part (omega arith)))
      ∙ first_part i Bad fault tells parts j (record {
        here = omega (arith, first.here);
        bad = first.bad;
        before = λ k d lt. first.before (suc k) d (omega (arith, lt));
      })

  with_parts : (i : ℕ) (parts : List Part) → 1 ≤ length parts → (if length parts == 0 then Err (bind.BareRule i) else bind_parts f i parts) ≡ bind_parts f i parts
  with_parts i parts h =
      let some : length parts == 0 ≡ false = is_false (length parts == 0) (λ e. (let none : length parts ≡ 0 = eqb-true (length parts) 0 e in omega (arith, h, none))) in
      ap (λ (b : Bool). if b then failed (bind.BareRule i) else bind_parts f i parts) some

  rule_bound : (i : ℕ) (rule : Rule) → RuleMayBind f rule → bind_rule f i rule ≡ Ok tt
  rule_bound i rule h = with_parts i rule.parts h.some ∙ parts_bound i rule.parts h.parts

  rule_bare : (i : ℕ) (rule : Rule) → IsBare rule → bind_rule f i rule ≡ Err (bind.BareRule i)
  rule_bare i rule bare = ap (λ (parts : List Part). if length parts == 0 then failed (bind.BareRule i) else bind_parts f i parts) bare

  rule_first : (i : ℕ) (Bad : Part → Type 0) (fault : BindFault) → ((part : Part) → Bad part → bind_part f i part ≡ Err fault)
      → (rule : Rule) → HasFirst f Bad rule → bind_rule f i rule ≡ Err fault
  rule_first i Bad fault tells rule h =
      let some : 1 ≤ length rule.parts = omega (arith, h.1.here) in
      with_parts i rule.parts some ∙ first_part i Bad fault tells rule.parts h.0 h.1

  pub rules_bound : (k : ℕ) (rules : List Rule) → All (RuleMayBind f) rules → bind_rules f k rules ≡ Ok tt
  rules_bound k [] h = refl
  rules_bound k (rule ∷ rules) h =
      ap (λ (r : Result ⊤ BindFault). ◌then◌ r (λ _. bind_rules f (k + 1) rules)) (rule_bound k rule (All-head (RuleMayBind f) rule rules h))
      ∙ rules_bound (k + 1) rules (All-tail (RuleMayBind f) rule rules h)

  first_rule : (Bad : Rule → Type 0) (fault : ℕ → BindFault) → ((i : ℕ) (rule : Rule) → Bad rule → bind_rule f i rule ≡ Err (fault i))
      → (k : ℕ) (rules : List Rule) (i : ℕ) → IsFirst (RuleMayBind f) Bad rules i → bind_rules f k rules ≡ Err (fault (i + k))
  first_rule Bad fault tells k [] i first = absurd (omega (arith, first.here))
  first_rule Bad fault tells k (rule ∷ rules) zero first =
      let same : k ≡ zero + k = omega arith in
      ap (λ (r : Result ⊤ BindFault). ◌then◌ r (λ _. bind_rules f (k + 1) rules)) (tells k rule (first.bad rule)) ∙ ap (λ (n : ℕ). failed (fault n)) same
  first_rule Bad fault tells k (rule ∷ rules) (suc i) first =
      let same : i + (k + 1) ≡ suc i + k = omega arith in
      ap (λ (r : Result ⊤ BindFault). ◌then◌ r (λ _. bind_rules f (k + 1) rules)) (rule_bound k rule (first.before 0 rule (omega arith)))
      ∙ first_rule Bad fault tells (k + 1) rules i (record {
        here = omega (arith, first.here);
        bad = first.bad;
        before = λ j d lt. first.before (suc j) d (omega (arith, lt));
      })
      ∙ ap (λ (n : ℕ). failed (fault n)) same

  first_of_all : (Bad : Rule → Type 0) (fault : ℕ → BindFault) → ((i : ℕ) (rule : Rule) → Bad rule → bind_rule f i rule ≡ Err (fault i))
      → (rules : List Rule) (i : ℕ) → IsFirst (RuleMayBind f) Bad rules i → bind_rules f 0 rules ≡ Err (fault i)
  first_of_all Bad fault tells rules i first = let same : i + 0 ≡ i = omega arith in first_rule Bad fault tells 0 rules i first ∙ ap (λ (n : ℕ). failed (fault n)) same

  may_bind : (bound : Bound) → IsBoundTo f bound → All (RuleMayBind f) bound.book.rules
  may_bind bound h = λ i rule within.
      let r = h.rules i rule within in
      record { some = r.some; parts = λ j part here. (let p = r.parts j part here in record { known = p.known; keeps = p.keeps }) }

  -- what was bound is told so
  pub told_bound : (files : SceneFiles) (bound : Bound) → f ≡ features files → bound.book ≡ files.book → IsBoundTo f bound → binding_told files ≡ Ok tt
  told_bound files bound same book h =
      ap (λ (g : Features). told (bind_fault_text files.book.rules) (bind_rules g 0 files.book.rules)) (sym same)
      ∙ ap (λ (b : Book). told (bind_fault_text files.book.rules) (bind_rules f 0 b.rules)) (sym book)
      ∙ ap (λ (r : Result ⊤ BindFault). told (bind_fault_text files.book.rules) r) (rules_bound 0 bound.book.rules (may_bind bound h))

  fault_found : (rules : List Rule) (fault : BindFault) → (fault ≡ bind.NoMemory → ⊥) → IsFaultOf f rules fault → bind_rules f 0 rules ≡ Err fault
  fault_found rules (bind.BareRule i) known h = first_of_all IsBare (λ k. bind.BareRule k) (λ k rule bare. rule_bare k rule bare) rules i h
  fault_found rules (bind.UnknownFeature i) known h =
      first_of_all (HasFirst f (NamesUnknown f)) (λ k. bind.UnknownFeature k) (λ k rule first. rule_first k (NamesUnknown f) (bind.UnknownFeature k) (λ part bad. part_unknown k part bad) rule first) rules i h
  fault_found rules (bind.RangeTooLarge i) known h =
      first_of_all (HasFirst f (IsTooLarge f)) (λ k. bind.RangeTooLarge k) (λ k rule first. rule_first k (IsTooLarge f) (bind.RangeTooLarge k) (λ part bad. part_large k part bad) rule first) rules i h
  fault_found rules bind.NoMemory known h = absurd (known refl)

  told_fault : (files : SceneFiles) (fault : BindFault) → f ≡ features files → (fault ≡ bind.NoMemory → ⊥) → IsFaultOf f files.book.rules fault → binding_told files ≡ Err (bind_fault_text files.book.rules fault)
  told_fault files fault same known h =
      ap (λ (g : Features). told (bind_fault_text files.book.rules) (bind_rules g 0 files.book.rules)) (sym same)
      ∙ ap (λ (r : Result ⊤ BindFault). told (bind_fault_text files.book.rules) r) (fault_found files.book.rules fault known h)

abbrev refused_as : (A : Type 0) → List ℕ → Result A Halt
refused_as A text = Err (refusal text)

-- what refuses by a fault stops the test that tells it
pub refusing_stops : {A : Type 0} (r : Role) (found : Result A (Option (List ℕ))) (fault : List ℕ) (end : Stop) → found ≡ Err (Some fault) → EndsAs ending.Refused (refused_text r fault) end → TestStops r found end
refusing_stops r found fault stop.NoMemory is h = tt
refusing_stops {A = A} r found fault (stop.Ended e text) is h = (h.0, ap (in_role r) is ∙ ap (refused_as A) (sym h.1))
refusing_stops r found fault (stop.Unread q) is h = absurd h
refusing_stops r found fault stop.Unsaved is h = absurd h

stops_by : (f : Features) (files : SceneFiles) (fault : BindFault) (end : Stop) → f ≡ features files → IsFaultOf f files.book.rules fault → Refuses role.Book (bind_fault_text files.book.rules fault) end → TestStops role.Book (binding_told files) end
stops_by f files (bind.BareRule i) end same h refuses =
    refusing_stops role.Book (binding_told files) (fault_of (codes "bare-rule") (rule_name files.book.rules i)) end (told_fault f files (bind.BareRule i) same (λ e. cc) h) refuses
stops_by f files (bind.UnknownFeature i) end same h refuses =
    refusing_stops role.Book (binding_told files) (fault_of (codes "unknown-feature") (rule_name files.book.rules i)) end (told_fault f files (bind.UnknownFeature i) same (λ e. cc) h) refuses
stops_by f files (bind.RangeTooLarge i) end same h refuses =
    refusing_stops role.Book (binding_told files) (fault_of (codes "range-too-large") (rule_name files.book.rules i)) end (told_fault f files (bind.RangeTooLarge i) same (λ e. cc) h) refuses
stops_by f files bind.NoMemory end same h refuses = subst (TestStops role.Book (binding_told files)) (sym refuses) tt

-- a fault of binding that is refused stops the test
pub binding_stops : (f : Features) (files : SceneFiles) (rules : List Rule) (fault : BindFault) (end : Stop) → f ≡ features files → rules ≡ files.book.rules → IsFaultOf f files.book.rules fault → Refuses role.Book (bind_fault_text rules fault) end → TestStops role.Book (binding_told files) end
binding_stops f files rules fault end same is h refuses =
    stops_by f files fault end same h (subst (λ (rs : List Rule). Refuses role.Book (bind_fault_text rs fault) end) is refuses)
