-- A list of choices that is told by the names of its maneuvers, one choice after the other.
use Rattle.std.proofs.Common.{◌≡◌, Bor, ℕ, suc, ◌+◌, ◌<◌, ◌≤◌, List, ◌∷◌, ◌++◌, length, map, drop, get_or, sym, ap, ◌∙◌, subst, arith, append_assoc, append-nil}
use Rattle.std.proofs.Math.Seq.{drop-cons}
use Rattle.std.proofs.Math.ListN.{drop_of_length-le}
use Rattle.std.specs.Prelude.{All}
use Rattle.std.proofs.lemmas.List.{get_or-map, length-map}
use Rattle.text_lines.specs.Lines.{word}
use Rattle.certificate_checker.specs.declared.checked.Attained.{Attained}
use Rattle.maneuver_lattice.specs.Scenes.{Scene, chosen, choices, next}
use Rattle.maneuver_lattice.specs.declared.state.LatticeState.{LatticeState}
use Rattle.check_command.specs.Answers.{maneuver_words}
use Rattle.check_command.specs.Driven.{MayBeDriven}

module _ (scene : Scene) (state : LatticeState) (list : List ℕ) (place choice : ℕ) (within : place < length list) (here : get_or list place 0 ≡ choice) where
  rest_is : drop place list ≡ choice ∷ drop (place + 1) list
  rest_is =
      let one : suc place ≡ place + 1 = omega arith in
      drop-cons list place 0 within ∙ ap (λ (c : ℕ). c ∷ drop (suc place) list) here ∙ ap (λ (k : ℕ). choice ∷ drop k list) one

  pub choice_below : MayBeDriven scene state (drop place list) → choice < choices scene state
  choice_below driven = let d = subst (MayBeDriven scene state) rest_is driven in d.1.0

  pub driven_on : MayBeDriven scene state (drop place list) → MayBeDriven scene (next scene state choice) (drop (place + 1) list)
  driven_on driven = let d = subst (MayBeDriven scene state) rest_is driven in (d.0, d.1.1)

  pub words_on : (written new whole : List ℕ) → new ≡ written ++ word (chosen scene state choice).name → written ++ maneuver_words scene state (drop place list) ≡ whole
      → new ++ maneuver_words scene (next scene state choice) (drop (place + 1) list) ≡ whole
  words_on written new whole more so_far =
      ap (λ (w : List ℕ). w ++ maneuver_words scene (next scene state choice) (drop (place + 1) list)) more
      ∙ append_assoc written (word (chosen scene state choice).name) (maneuver_words scene (next scene state choice) (drop (place + 1) list))
      ∙ sym (ap (λ (l : List ℕ). written ++ maneuver_words scene state l) rest_is)
      ∙ so_far

-- what holds of each answer holds of each reference to one
pub each_now : (P : Attained → Type 0) (xs : List (Bor Attained)) → All P (map (λ (x : Bor Attained). x.now) xs) → All (λ (x : Bor Attained). P x.now) xs
each_now P xs h k d inside =
    let long = length-map xs (λ (x : Bor Attained). x.now) in
    subst P (get_or-map (λ (x : Bor Attained). x.now) xs k d d.now inside) (h k d.now (omega (arith, inside, long)))
