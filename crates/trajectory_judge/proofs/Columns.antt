-- The nine fields of a row.
use Rattle.std.specs.Prelude.{◌≡◌, ◌≢◌, ℕ, zero, suc, false, List, [], ◌∷◌, length, drop, Some, Err}
use Rattle.std.proofs.Common.{refl, ap, ◌∙◌, arith}
use Rattle.std.proofs.lemmas.List.{drop_all}
use Rattle.csv.specs.Records.{field_at}
use Rattle.trajectory_judge.specs.Fields.{said}
use Rattle.trajectory_judge.specs.Rows.{Row, COLUMNS, is_header}
use Rattle.trajectory_judge.specs.declared.fault.RecordFault.TheVariants.{Csv}

-- the field at a place stands before the later ones
from_place : (row : Row) (i : ℕ) (f : List ℕ) → field_at row i ≡ Some f → drop i row ≡ f ∷ drop (suc i) row
unfolding field_at
from_place [] i f e = cc e
from_place (x ∷ row) zero f e = ap (λ (y : List ℕ). y ∷ row) (cc e)
from_place (x ∷ row) (suc i) f e = from_place row i f e

none_after : (row : Row) → length row ≡ 9 → drop 9 row ≡ []
none_after row e = drop_all 9 row (omega (arith, e))

pub nine_fields : (row : Row) (a b c d e f g h i : List ℕ) → length row ≡ COLUMNS
    → field_at row 0 ≡ Some a → field_at row 1 ≡ Some b → field_at row 2 ≡ Some c → field_at row 3 ≡ Some d → field_at row 4 ≡ Some e
    → field_at row 5 ≡ Some f → field_at row 6 ≡ Some g → field_at row 7 ≡ Some h → field_at row 8 ≡ Some i
    → row ≡ a ∷ b ∷ c ∷ d ∷ e ∷ f ∷ g ∷ h ∷ i ∷ []
nine_fields row a b c d e f g h i size ea eb ec ed ee ef eg eh ei =
    from_place row 0 a ea ∙ ap (λ (r : Row). a ∷ r) (
    from_place row 1 b eb ∙ ap (λ (r : Row). b ∷ r) (
    from_place row 2 c ec ∙ ap (λ (r : Row). c ∷ r) (
    from_place row 3 d ed ∙ ap (λ (r : Row). d ∷ r) (
    from_place row 4 e ee ∙ ap (λ (r : Row). e ∷ r) (
    from_place row 5 f ef ∙ ap (λ (r : Row). f ∷ r) (
    from_place row 6 g eg ∙ ap (λ (r : Row). g ∷ r) (
    from_place row 7 h eh ∙ ap (λ (r : Row). h ∷ r) (
    from_place row 8 i ei ∙ ap (λ (r : Row). i ∷ r) (none_after row size)))))))))

-- a row of another length says nothing
pub not_nine : (maneuvers : List (List ℕ)) (n : ℕ) (row : Row) → length row ≢ COLUMNS → said maneuvers n row ≡ Err (Csv n)
not_nine maneuvers n [] h = refl
not_nine maneuvers n (a ∷ []) h = refl
not_nine maneuvers n (a ∷ b ∷ []) h = refl
not_nine maneuvers n (a ∷ b ∷ c ∷ []) h = refl
not_nine maneuvers n (a ∷ b ∷ c ∷ d ∷ []) h = refl
not_nine maneuvers n (a ∷ b ∷ c ∷ d ∷ e ∷ []) h = refl
not_nine maneuvers n (a ∷ b ∷ c ∷ d ∷ e ∷ f ∷ []) h = refl
not_nine maneuvers n (a ∷ b ∷ c ∷ d ∷ e ∷ f ∷ g ∷ []) h = refl
not_nine maneuvers n (a ∷ b ∷ c ∷ d ∷ e ∷ f ∷ g ∷ i ∷ []) h = refl
not_nine maneuvers n (a ∷ b ∷ c ∷ d ∷ e ∷ f ∷ g ∷ i ∷ j ∷ []) h = absurd (h refl)
not_nine maneuvers n (a ∷ b ∷ c ∷ d ∷ e ∷ f ∷ g ∷ i ∷ j ∷ k ∷ row) h = refl

-- nor is it the header
pub no_header : (row : Row) → length row ≢ COLUMNS → is_header row ≡ false
unfolding is_header
no_header [] h = refl
no_header (a ∷ []) h = refl
no_header (a ∷ b ∷ []) h = refl
no_header (a ∷ b ∷ c ∷ []) h = refl
no_header (a ∷ b ∷ c ∷ d ∷ []) h = refl
no_header (a ∷ b ∷ c ∷ d ∷ e ∷ []) h = refl
no_header (a ∷ b ∷ c ∷ d ∷ e ∷ f ∷ []) h = refl
no_header (a ∷ b ∷ c ∷ d ∷ e ∷ f ∷ g ∷ []) h = refl
no_header (a ∷ b ∷ c ∷ d ∷ e ∷ f ∷ g ∷ i ∷ []) h = refl
no_header (a ∷ b ∷ c ∷ d ∷ e ∷ f ∷ g ∷ i ∷ j ∷ []) h = absurd (h refl)
no_header (a ∷ b ∷ c ∷ d ∷ e ∷ f ∷ g ∷ i ∷ j ∷ k ∷ row) h = refl
