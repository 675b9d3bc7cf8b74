-- Numbers and ids in texts. The units and the limits are this project's own.
use Rattle.std.specs.Prelude.{ℕ, Bool, ◌&&◌, List, length, ℤ, pos, neg_ℤ, unsigned_abs, int_le}
use Rattle.std.specs.Prelude.{nat_lt, Option, Some, None, Result, Ok, Err, if◌then◌else◌}
use Rattle.fixed_decimal.specs.declared.DecimalFault.{DecimalFault}
use Rattle.fixed_decimal.specs.Answers.{fixed}
use Rattle.fixed_decimal.specs.declared.limits.TheConstants.{MAX_VALUE}
use Rattle.reading.specs.Words.{number_of}
use Rattle.scenario_xml.specs.declared.fault.ScenarioFault.{ScenarioFault}
use Rattle.scenario_xml.specs.declared.fault.ScenarioFault.TheVariants.{BadNumber}
use Rattle.scenario_xml.specs.declared.quantity.Quantity.{Quantity}
use Rattle.scenario_xml.specs.declared.quantity.Quantity.TheVariants.{Coordinate, Side, Angle}
use Rattle.scenario_xml.specs.declared.quantity.Quantity.TheVariants.{Speed, Tick, Step}
use Rattle.scenario_model.specs.declared.limits.TheConstants.{MAX_COORDINATE, MAX_HEADING}
use Rattle.scenario_model.specs.declared.limits.TheConstants.{MAX_SPEED, MAX_TICK, MAX_STEP_MICROS}
use Rattle.scenario_xml.specs.declared.limits.TheConstants.{MAX_ID_DIGITS}

-- metres in 0.1 mm, radians and seconds in millionths, metres per second in mm/s, ticks
abbrev pub places : Quantity → ℕ
places Coordinate = 4
places Side = 4
places Angle = 6
places Speed = 3
places Tick = 0
places Step = 6

abbrev pub least : Quantity → ℤ
least Coordinate = neg_ℤ (pos MAX_COORDINATE)
least Side = neg_ℤ (pos MAX_VALUE)
least Angle = neg_ℤ (pos MAX_HEADING)
least Speed = neg_ℤ (pos MAX_SPEED)
least Tick = pos 0
least Step = pos 1

-- a side or radius may be all that a decimal may be: what is beyond the limit of a shape is a fault
-- of the shape
abbrev pub most : Quantity → ℤ
most Coordinate = pos MAX_COORDINATE
most Side = pos MAX_VALUE
most Angle = pos MAX_HEADING
most Speed = pos MAX_SPEED
most Tick = pos MAX_TICK
most Step = MAX_STEP_MICROS

-- how large a number may be, in size
abbrev pub limit : Quantity → ℕ
limit Coordinate = MAX_COORDINATE
limit Side = MAX_VALUE
limit Angle = MAX_HEADING
limit Speed = MAX_SPEED
limit Tick = MAX_TICK
limit Step = unsigned_abs MAX_STEP_MICROS

unfoldable pub is_in_range : Quantity → ℤ → Bool
is_in_range quantity n = int_le (least quantity) n && int_le n (most quantity)

abbrev pub in_range : ℕ → Quantity → Result ℤ DecimalFault → Result ℤ ScenarioFault
in_range at quantity (Err fault) = Err (BadNumber at)
in_range at quantity (Ok n) = if is_in_range quantity n then Ok n else Err (BadNumber at)

-- the number that a text is, of the element at a place
unfoldable pub number_in : ℕ → Quantity → List ℕ → Result ℤ ScenarioFault
number_in at quantity text = in_range at quantity (fixed text (places quantity))

abbrev pub or_bad : ℕ → Option ℕ → Result ℕ ScenarioFault
or_bad at None = Err (BadNumber at)
or_bad at (Some n) = Ok n

-- the id that a text of digits is, of the element at a place
unfoldable pub id_in : ℕ → List ℕ → Result ℕ ScenarioFault
id_in at text =
    if nat_lt MAX_ID_DIGITS (length text) then Err (BadNumber at) else or_bad at (number_of text)
