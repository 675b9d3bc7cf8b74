use Rattle.std.proofs.Common.{◌∙◌, ◌+◌, ◌<◌, sym, subst, length, List, arith}
use Rattle.moving_obstacles.specs.declared.presence.Presence.{Presence}
use Rattle.moving_obstacles.proofs.Listing.{AreListed, none_listed, absent_kept, present_more}
use Rattle.moving_obstacles.proofs.moment.Moment.at.Goals as goal
use Rattle.moving_obstacles.proofs.moment.Moment.at.Goals.{in-Some+in_ok-push, in_default}

pub loop-place-init : goal.loop-place-init
loop-place-init c = none_listed c.args.tracks.now c.args.tick c.new-present.result c.new-present.ensures

pub loop-place-preserved : goal.loop-place-preserved
loop-place-preserved c =
    let tracks = c.args.tracks.now in
    let place = c.loop-place.place in
    let within : place < length tracks = omega (arith, c.loop-place-test.true, c.loop-place.auto.place-end) in
    let Listed : List Presence → Type 0 = λ present. AreListed tracks c.args.tick (place + 1) present in
    elim c.match-placement_at.branch [
      | in-Some+in_ok-push w ↦ subst Listed (sym (w.present-is ∙ w.in_ok-push.ensures.ok)) (present_more tracks c.args.tick place c.index-tracks-place.result w.in-Some.placement.now w.presence.result c.loop-place.present c.loop-place.invariant within c.index-tracks-place.is (sym w.in-Some.ensures) w.presence.ensures.place w.presence.ensures.placement)
      | in_default w ↦ subst Listed (sym w.present-is) (absent_kept tracks c.args.tick place c.index-tracks-place.result c.loop-place.present c.loop-place.invariant within c.index-tracks-place.is (sym w.in_default.ensures))
    ]
