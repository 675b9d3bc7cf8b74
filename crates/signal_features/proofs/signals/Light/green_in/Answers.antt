use Rattle.std.proofs.Common.{◌≡◌, ◌∙◌, ◌<◌, ◌≤◌, ◌-◌, ◌+◌, sym, ap, arith, Some, None}
use Rattle.signal_features.proofs.Waits.{green_soon, green_later, never}
use Rattle.signal_features.specs.Lights.{cycle, place_at, wait_from}
use Rattle.signal_features.proofs.signals.Light.green_in.Goals as goal

pub returns-in-Some : goal.returns-in-Some
returns-in-Some c =
    let l = c.args.self.now in
    let some : 0 < cycle l.phases = omega (arith, c.place_at-place.ensures.within) in
    let e : wait_from l.phases (place_at l c.args.tick) ≡ Some c.in-Some.ticks = sym (c.wait_from.ensures.value ∙ ap (λ ps. wait_from ps c.place_at-place.result) c.as_slice-phases.ensures ∙ ap (wait_from l.phases) c.place_at-place.ensures.value) ∙ c.in-Some.is in
    sym (green_soon l c.args.tick c.in-Some.ticks some e)

pub returns-in-Some-wait_from : goal.returns-in-Some-wait_from
returns-in-Some-wait_from c =
    let l = c.args.self.now in
    let some : 0 < cycle l.phases = omega (arith, c.place_at-place.ensures.within) in
    let none : wait_from l.phases (place_at l c.args.tick) ≡ None = sym (c.wait_from.ensures.value ∙ ap (λ ps. wait_from ps c.place_at-place.result) c.as_slice-phases.ensures ∙ ap (wait_from l.phases) c.place_at-place.ensures.value) ∙ c.in_default.is in
    let e : wait_from l.phases 0 ≡ Some c.in-Some-wait_from.ticks = sym (c.wait_from-2.ensures.value ∙ ap (λ ps. wait_from ps 0) c.as_slice-phases.ensures) ∙ c.in-Some-wait_from.is in
    rw (c.cycle.ensures.value, c.as_slice-phases.ensures, c.place_at-place.ensures.value) (sym (green_later l c.args.tick c.in-Some-wait_from.ticks some none e))

pub returns-in-None : goal.returns-in-None
returns-in-None c =
    let l = c.args.self.now in
    let some : 0 < cycle l.phases = omega (arith, c.place_at-place.ensures.within) in
    sym (never l c.args.tick some (sym (c.wait_from-2.ensures.value ∙ ap (λ ps. wait_from ps 0) c.as_slice-phases.ensures) ∙ c.in-None.is))
