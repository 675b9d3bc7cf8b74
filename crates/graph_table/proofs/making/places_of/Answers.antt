use Rattle.std.proofs.Common.{◌≡◌, ◌+◌, ◌<◌, ◌≤◌, ◌^◌, ◌++◌, ◌∷◌, [], ◌∙◌, ap, sym, subst, length, take, arith, rules}
use Rattle.std.specs.List.{AllZip}
use Rattle.std.specs.Prelude.{Contains}
use Rattle.std.proofs.lemmas.List.{take_more, take_all}
use Rattle.graph_table.specs.Tables.{IsAt}
use Rattle.graph_table.proofs.Zips.{zip_push, zip_length}
use Rattle.graph_table.proofs.making.places_of.Goals as goal

pub place_of-requires-clause-there : goal.place_of-requires-clause-there
place_of-requires-clause-there g c =
    let keys = c.args.states.now.keys in
    let within : c.loop-next.next-index < length c.args.nexts.now = search rules in
    subst (Contains keys) (sym c.next-item.is) (c.requires.there c.loop-next.next-index c.next-item.result within)

pub loop-next-preserved : goal.loop-next-preserved
loop-next-preserved g c =
    let keys = c.args.states.now.keys in
    let nexts = c.args.nexts.now in
    let i = c.loop-next.next-index in
    let next = c.next-item.result in
    let within : i < length nexts = search rules in
    let more : take (i + 1) nexts ≡ take i nexts ++ next ∷ [] = take_more nexts i next within ∙ ap (λ x. take i nexts ++ x ∷ []) (sym c.next-item.is) in
    let pushed = zip_push (IsAt keys) (take i nexts) c.loop-next.places next c.place_of.result c.loop-next.invariant c.place_of.ensures in
    subst (λ xs. AllZip (IsAt keys) xs c.push.new.self) (sym more) (subst (λ ys. AllZip (IsAt keys) (take i nexts ++ next ∷ []) ys) (sym c.in_ok-push.ensures.ok) pushed)

pub returns-clause-fits : goal.returns-clause-fits
returns-clause-fits g c =
    let nexts = c.args.nexts.now in
    let past : length nexts ≤ c.loop-next.next-index = search rules in
    let small : length nexts < 2 ^ 64 = search rules in
    let long = zip_length (IsAt c.args.states.now.keys) (take c.loop-next.next-index nexts) c.loop-next.places c.loop-next.invariant in
    let all : take c.loop-next.next-index nexts ≡ nexts = take_all c.loop-next.next-index nexts past in
    omega (arith, ap length all)
