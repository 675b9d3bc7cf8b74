-- When signals are well formed. The limits are this project's own.
use Rattle.std.specs.Prelude.{◌≡◌, ℕ, ◌≤◌, ◌≤ℤ◌, List, length, map, All, pos}
use Rattle.scenario_model.specs.declared.limits.TheConstants.{MAX_SPEED, MAX_TICK}
use Rattle.signal_features.specs.declared.found.Found.{Found}
use Rattle.signal_features.specs.declared.limits.TheConstants.{MAX_SIGNS, MAX_LIGHTS, MAX_PHASES}
use Rattle.signal_features.specs.declared.limits.TheConstants.{MAX_PHASE_TICKS}
use Rattle.signal_features.specs.declared.signals.Light.{Light}
use Rattle.signal_features.specs.declared.signals.Phase.{Phase}
use Rattle.signal_features.specs.declared.signals.SignalUse.{SignalUse}
use Rattle.signal_features.specs.declared.signals.Signals.{Signals}
use Rattle.signal_features.specs.declared.signals.SpeedSign.{SpeedSign}

pub record IsSign (sign : SpeedSign) : Type 0 where
  pub low : pos 0 ≤ℤ sign.limit
  pub high : sign.limit ≤ℤ pos MAX_SPEED

pub record IsPhase (phase : Phase) : Type 0 where
  pub some : 1 ≤ phase.ticks
  pub short : phase.ticks ≤ MAX_PHASE_TICKS

pub record IsLight (light : Light) : Type 0 where
  pub some : 1 ≤ length light.phases
  pub few : length light.phases ≤ MAX_PHASES
  pub phases : All IsPhase light.phases
  pub offset : light.offset ≤ MAX_TICK

-- signals of lanelets with these ids, one use for each of them in their order
pub record AreSignals (ids : List ℕ) (s : Signals) : Type 0 where
  pub few_signs : length s.signs ≤ MAX_SIGNS
  pub signs : All IsSign s.signs
  pub few_lights : length s.lights ≤ MAX_LIGHTS
  pub lights : All IsLight s.lights
  pub uses : map (λ (u : SignalUse). u.lanelet) s.uses ≡ ids

-- signs and lights that were found
pub record AreFound (s : Found) : Type 0 where
  pub few_signs : length s.signs ≤ MAX_SIGNS
  pub signs : All IsSign s.signs
  pub few_lights : length s.lights ≤ MAX_LIGHTS
  pub lights : All IsLight s.lights
