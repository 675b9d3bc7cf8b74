-- What is due to `plan` over its inputs.
use Rattle.std.proofs.Common.{◌≡◌, ◌↔◌, ℕ, List, refl, sym, subst, inl, inr}
use Rattle.std.specs.Prelude.{codes}
use Rattle.std.specs.FinMap.{insert}
use Rattle.outside_io.specs.Outside.{Files}
use Rattle.preorder.specs.declared.order.Preorder.{Preorder}
use Rattle.rulebook_order.specs.Answer.{AreUndominated, HasMoreUndominated}
use Rattle.rulebook_order.specs.Graph.{Graph}
use Rattle.rulebook_order.specs.NoWorseBy.{no_worse_by}
use Rattle.rulebook_order.specs.VectorOrder.{Holds}
use Rattle.label_search.specs.Found.{HaveParents, pairs_of as found_pairs}
use Rattle.label_search.specs.declared.label.Found.{Found}
use Rattle.certificate_text.specs.declared.TheConstants.{MAX_LABELS}
use Rattle.certificate_text.specs.declared.certificate.Certificate.{Certificate}
use Rattle.domination_proof.specs.Copies.{cert_of}
use Rattle.domination_proof.proofs.Copied.{same_pairs}
use Rattle.maneuver_lattice.specs.declared.state.LatticeState.{LatticeState}
use Rattle.command_outcome.specs.declared.outcome.Ending.TheVariants as ending
use Rattle.command_outcome.specs.declared.outcome.Status.TheVariants as status
use Rattle.command_outcome.specs.declared.outcome.Stop.{Stop}
use Rattle.command_outcome.specs.declared.outcome.Stop.TheVariants as stop
use Rattle.command_outcome.specs.Ends.{Has, Saved, SavingStops, Settled, Shelf, Stops}
use Rattle.command_outcome.specs.Outcome.{EndsAs}
use Rattle.command_outcome.proofs.Serving.{ends, outcome, saved, saving_stops}
use Rattle.check_command.specs.Answers.{NoWorseFor, graph_of}
use Rattle.check_command.specs.Certificates.{IsOrderOf}
use Rattle.rulebook_commands.specs.Plan.{HasTooMany, HasUndominated, IsPlan, PlanMakes, plan_inputs, plan_task}
use Rattle.rulebook_commands.specs.Planning.{StopsTooMuch}
use Rattle.bound_scene.specs.declared.scene_files.SceneFiles.{SceneFiles}
use Rattle.check_command.proofs.Ordered.{all_agree, more_agree, test_is}

-- ---- what was found, by the words of the book

module _ (files : SceneFiles) (order : Preorder) (is_order : IsOrderOf files.book order) (g : Graph LatticeState) (same : g ≡ graph_of files) where
  agree : (x y : List ℕ) → Holds (no_worse_by order) x y ↔ NoWorseFor files x y
  agree = test_is files.book order is_order

  back : (x y : List ℕ) → NoWorseFor files x y ↔ Holds (no_worse_by order) x y
  back x y = ((agree x y).1, (agree x y).0)

  abbrev ManyFrom : Graph LatticeState → Type 0
  ManyFrom h = HasMoreUndominated h (Holds (no_worse_by order)) MAX_LABELS → HasTooMany files

  pub too_many : ManyFrom g
  too_many = subst ManyFrom (sym same) (more_agree (graph_of files) (Holds (no_worse_by order)) (NoWorseFor files) agree MAX_LABELS)

  abbrev FewFrom : Graph LatticeState → Type 0
  FewFrom h = (HasMoreUndominated h (Holds (no_worse_by order)) MAX_LABELS → ⊥) → HasTooMany files → ⊥

  pub not_too_many : FewFrom g
  not_too_many = subst FewFrom (sym same) (λ few many. few (more_agree (graph_of files) (NoWorseFor files) (Holds (no_worse_by order)) back MAX_LABELS many))

  module _ (found : Found LatticeState) (certificate : Certificate) (copied : certificate ≡ cert_of found) where
    abbrev UndominatedFrom : Graph LatticeState → Type 0
    UndominatedFrom h = HaveParents h found.labels → AreUndominated h (Holds (no_worse_by order)) (found_pairs found.labels) → HasUndominated files certificate

    pub undominated : UndominatedFrom g
    undominated = subst UndominatedFrom (sym same) (λ parents are.
        subst (HasUndominated files) (sym copied)
        (subst (AreUndominated (graph_of files) (NoWorseFor files)) (sym (same_pairs (graph_of files) found.labels parents))
        (all_agree (graph_of files) (Holds (no_worse_by order)) (NoWorseFor files) agree (found_pairs found.labels) are)))

-- there are too many labels
pub many_stops : (files : SceneFiles) (end : Stop) → HasTooMany files → EndsAs ending.TooManyLabels (codes "too many labels\n") end → StopsTooMuch files end
many_stops files stop.NoMemory many h = tt
many_stops files (stop.Ended e text) many h = (many, h)
many_stops files (stop.Unread role) many h = absurd h
many_stops files stop.Unsaved many h = absurd h

-- ---- what is due

module _ (scenario book lattice name : List ℕ) (old mid : Shelf) (files : SceneFiles) (had : Has (plan_inputs scenario book lattice) old mid files) where
  pub plan_stops : (end : Stop) → StopsTooMuch files end → Stops (plan_task scenario book lattice name) old mid end
  plan_stops stop.NoMemory h = had.stands
  plan_stops (stop.Ended e text) h =
      ends (plan_task scenario book lattice name) old mid files had ending.TooManyLabels (codes "too many labels\n") (stop.Ended e text) h.1 (λ before. inr (record { many = h.0; is = refl }))
  plan_stops (stop.Unread role) h = absurd h
  plan_stops stop.Unsaved h = absurd h

  module _ (text bytes : List ℕ) (plan : IsPlan files text bytes) where
    makes : (before : Files) → PlanMakes name before files (outcome status.Done text (insert before name bytes))
    makes before = inl (record { bytes = bytes; plans = plan; done = refl; saves = refl })

    pub plan_saved : (new : Shelf) → Saved name bytes mid new → Settled (plan_task scenario book lattice name) old new status.Done text
    plan_saved new h = saved (plan_task scenario book lattice name) old mid files had name bytes text makes new h

    pub plan_unsaved : (new : Shelf) (end : Stop) → SavingStops name bytes mid new end → Stops (plan_task scenario book lattice name) old new end
    plan_unsaved new end h = saving_stops (plan_task scenario book lattice name) old mid files had name bytes text makes new end refl h
