-- The sample book: five rules, and what is above what. This project's own.
use Rattle.std.specs.Prelude.{ℕ, pos, false, List, [], ◌∷◌, map, Some, None, codes}
use Rattle.expressions.specs.declared.tree.Argument.TheVariants.{Named}
use Rattle.expressions.specs.declared.tree.Expr.{Expr}
use Rattle.expressions.specs.declared.tree.Expr.TheVariants.{Const, Feature, Sub, Max}
use Rattle.rule_language.specs.declared.book.Book.{Book}
use Rattle.rule_language.specs.declared.book.Rule.{Rule}
use Rattle.rule_language.specs.declared.part.Part.{Part}

-- a part of weight 1, at each step
abbrev pub part : Expr → Part
part expr = record { weight = 1; expr = expr; at_end = false }

abbrev pub feature : List ℕ → Expr
feature name = Feature name None

-- `maneuver(NAME)`
abbrev pub driven : List ℕ → Part
driven name = part (Feature (codes "maneuver") (Some (Named name)))

-- how far a gap is below 2 m, as `max(0, 20000 - gap)`
abbrev pub near : Expr
near = Max (Const (pos 0)) (Sub (Const (pos 20000)) (feature (codes "gap")))

-- the maneuvers to another speed
abbrev pub changing_names : List (List ℕ)
changing_names = codes "up_slow" ∷ codes "up_mid" ∷ codes "down_mid" ∷ codes "down_fast" ∷ []

-- the maneuvers to another lane
abbrev pub turning_names : List (List ℕ)
turning_names =
    codes "left_slow" ∷ codes "right_slow" ∷ codes "left_mid" ∷ codes "right_mid"
    ∷ codes "left_fast" ∷ codes "right_fast" ∷ []

abbrev pub rule : List ℕ → List Part → Rule
rule name parts = record { name = name; parts = parts }

abbrev pub rules : List Rule
rules =
    rule (codes "collision") (part (feature (codes "overlaps")) ∷ [])
    ∷ rule (codes "road") (part (feature (codes "off_road")) ∷ [])
    ∷ rule (codes "gap") (part near ∷ [])
    ∷ rule (codes "smooth") (map driven changing_names)
    ∷ rule (codes "lane") (map driven turning_names) ∷ []

-- collision above road, road above gap, and gap above smooth and above lane
unfoldable pub book : Book
book = record { rules = rules; statements = (0, 1) ∷ (1, 2) ∷ (2, 3) ∷ (2, 4) ∷ [] }
