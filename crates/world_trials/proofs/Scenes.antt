-- The scenarios of the tests are well formed.
use Rattle.std.proofs.Common.{◌≡◌, List, [], ◌∷◌, ◌++◌, map, ap, ◌∙◌, arith}
use Rattle.std.specs.Prelude.{All}
use Rattle.std.proofs.lemmas.List.Elements.{All-nil, All-from_recursion}
use Rattle.scenario_model.specs.declared.lanelet.Lanelet.{Lanelet}
use Rattle.fixed_geometry.specs.declared.point.Point.{Point}
use Rattle.scenario_model.specs.Scenario.{IsRead, IsBound, IsLanelet}

pub all_of_none : {X : Type 0} (P : X → Type 0) (none : List X) → none ≡ [] → All P none
all_of_none P none e = rw e (All-nil P)

pub all_of_one : {X : Type 0} (P : X → Type 0) (x : X) (none one : List X) → none ≡ [] → one ≡ none ++ x ∷ [] → P x → All P one
all_of_one P x none one e f h =
    let whole : one ≡ x ∷ [] = f ∙ ap (λ xs. xs ++ x ∷ []) e in
    rw whole (All-from_recursion P (x ∷ []) (h, tt))

pub two_each : (a b : Lanelet) (none one two : List Lanelet) → none ≡ [] → one ≡ none ++ a ∷ [] → two ≡ one ++ b ∷ [] → IsLanelet (a.id ∷ b.id ∷ []) a → IsLanelet (a.id ∷ b.id ∷ []) b → All (IsLanelet (map (λ (l : Lanelet). l.id) two)) two
two_each a b none one two e f g p q =
    let whole : two ≡ a ∷ b ∷ [] = g ∙ ap (λ xs. xs ++ b ∷ []) (f ∙ ap (λ xs. xs ++ a ∷ []) e) in
    rw whole (All-from_recursion (IsLanelet (a.id ∷ b.id ∷ [])) (a ∷ b ∷ []) (p, (q, tt)))

pub two_read : (from to : Point) (none one two : List Point) → none ≡ [] → one ≡ none ++ from ∷ [] → two ≡ one ++ to ∷ [] → IsRead from → IsRead to → IsBound two
two_read from to none one two e f g p q =
    let whole : two ≡ from ∷ to ∷ [] = g ∙ ap (λ xs. xs ++ to ∷ []) (f ∙ ap (λ xs. xs ++ from ∷ []) e) in
    rw whole (omega arith, omega arith, All-from_recursion IsRead (from ∷ to ∷ []) (p, (q, tt)))
