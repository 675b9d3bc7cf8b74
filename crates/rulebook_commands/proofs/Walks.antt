-- A list of choices that is walked, one choice after the other.
use Rattle.std.proofs.Common.{◌≡◌, ℕ, suc, ◌+◌, ◌<◌, ◌≤◌, List, [], ◌∷◌, ◌++◌, length, drop, get_or, Option, Some, None, Result, Ok, Err, refl, sym, ap, ◌∙◌, subst, arith, append_assoc, append-nil}
use Rattle.std.proofs.Math.Seq.{drop-cons}
use Rattle.std.proofs.Math.ListN.{drop_of_length-le}
use Rattle.rulebook_order.specs.Graph.{Graph, Reaches, pair_by}
use Rattle.rulebook_order.specs.Sums.{sums}
use Rattle.rulebook_order.proofs.Reached.{LeadsTo-snoc}
use Rattle.violation_measures.specs.Binding.{IsBoundTo}
use Rattle.violation_measures.specs.Sources.{Features}
use Rattle.violation_measures.specs.declared.bound.Bound.{Bound}
use Rattle.maneuver_lattice.specs.SceneGraphs.{scene_graph}
use Rattle.maneuver_lattice.specs.Scenes.{Scene, start, choice_named, next, IsReached}
use Rattle.maneuver_lattice.proofs.GraphLaws.{reaches_its_steps}
use Rattle.maneuver_lattice.specs.declared.state.LatticeState.{LatticeState}
use Rattle.rulebook_commands.specs.MoveList.{before, taken, choices_of}

pub walk_on : (g : Graph LatticeState) (list longer : List ℕ) (state : LatticeState) (vector : List ℕ) (choice : ℕ) (pair : LatticeState × List ℕ)
    → Reaches g list state vector → choice < g.choices state → pair ≡ pair_by g (state, vector) choice → longer ≡ list ++ choice ∷ [] → Reaches g longer pair.0 pair.1
walk_on g list longer state vector choice pair reaches below is on =
    subst (λ (p : LatticeState × List ℕ). Reaches g longer p.0 p.1) (sym is)
    (subst (λ (cs : List ℕ). Reaches g cs (g.next state choice) (sums vector (g.cost state choice))) (sym on)
    (LeadsTo-snoc g g.start g.first list state vector choice reaches below))

-- a list of choices, and what is told after it
abbrev pub ahead : List ℕ → Result (List ℕ) ℕ → Result (List ℕ) ℕ
ahead list (Ok rest) = Ok (list ++ rest)
ahead list (Err k) = Err k

abbrev done : List ℕ → Result (List ℕ) ℕ
done list = Ok list

ahead_none : (r : Result (List ℕ) ℕ) → ahead [] r ≡ r
ahead_none (Ok rest) = refl
ahead_none (Err k) = refl

ahead_one : (list : List ℕ) (choice : ℕ) (r : Result (List ℕ) ℕ) → ahead list (before choice r) ≡ ahead (list ++ choice ∷ []) r
ahead_one list choice (Ok rest) = ap done (sym (append_assoc list (choice ∷ []) rest))
ahead_one list choice (Err k) = refl

module _ (scene : Scene) (names : List (List ℕ)) where
  -- what the names tell is the list so far, and what those after it tell of the state
  abbrev pub TellsSoFar : List ℕ → LatticeState → ℕ → Type 0
  TellsSoFar list state place = choices_of scene (start scene) 1 names ≡ ahead list (choices_of scene state (place + 1) (drop place names))

  pub tells_none : (list : List ℕ) (state : LatticeState) → list ≡ [] → state ≡ start scene → TellsSoFar list state 0
  tells_none list state none at =
      sym (ahead_none (choices_of scene (start scene) 1 names))
      ∙ ap (λ (l : List ℕ). ahead l (choices_of scene (start scene) 1 names)) (sym none)
      ∙ ap (λ (s : LatticeState). ahead list (choices_of scene s 1 names)) (sym at)

  module _ (list : List ℕ) (state : LatticeState) (place : ℕ) (name : List ℕ) (within : place < length names) (here : get_or names place [] ≡ name) (so_far : TellsSoFar list state place) where
    rest_is : drop place names ≡ name ∷ drop (place + 1) names
    rest_is =
        let one : suc place ≡ place + 1 = omega arith in
        drop-cons names place [] within ∙ ap (λ n. n ∷ drop (suc place) names) here ∙ ap (λ k. name ∷ drop k names) one

    told_here : (found : Option ℕ) → choice_named scene state name ≡ found
        → choices_of scene (start scene) 1 names ≡ ahead list (taken (place + 1) found (λ choice. choices_of scene (next scene state choice) (place + 1 + 1) (drop (place + 1) names)))
    told_here found is =
        so_far ∙ ap (λ rest. ahead list (choices_of scene state (place + 1) rest)) rest_is
        ∙ ap (λ (o : Option ℕ). ahead list (taken (place + 1) o (λ choice. choices_of scene (next scene state choice) (place + 1 + 1) (drop (place + 1) names)))) is

    pub tells_more : (choice : ℕ) (longer : List ℕ) (later : LatticeState) → choice_named scene state name ≡ Some choice → longer ≡ list ++ choice ∷ [] → later ≡ next scene state choice → TellsSoFar longer later (place + 1)
    tells_more choice longer later is on at =
        told_here (Some choice) is
        ∙ ahead_one list choice (choices_of scene (next scene state choice) (place + 1 + 1) (drop (place + 1) names))
        ∙ ap (λ (l : List ℕ). ahead l (choices_of scene (next scene state choice) (place + 1 + 1) (drop (place + 1) names))) (sym on)
        ∙ ap (λ (s : LatticeState). ahead longer (choices_of scene s (place + 1 + 1) (drop (place + 1) names))) (sym at)

    pub tells_where : choice_named scene state name ≡ None → choices_of scene (start scene) 1 names ≡ Err (place + 1)
    tells_where is = told_here None is

  pub tells_all : (list : List ℕ) (state : LatticeState) (place : ℕ) → length names ≤ place → TellsSoFar list state place → choices_of scene (start scene) 1 names ≡ Ok list
  tells_all list state place far so_far =
      so_far ∙ ap (λ rest. ahead list (choices_of scene state (place + 1) rest)) (drop_of_length-le names far) ∙ ap done (append-nil list)

-- what is walked leads to its state
pub walked_to : (scene : Scene) (f : Features) (bound : Bound) → IsBoundTo f bound → (list : List ℕ) (state : LatticeState) (vector : List ℕ) → Reaches (scene_graph scene f bound) list state vector → IsReached scene state
walked_to scene f bound bound_to list state vector reaches = record { list = list; leads = ((reaches_its_steps scene f bound bound_to list state vector).0 reaches).0 }
