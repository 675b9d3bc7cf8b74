use Rattle.std.proofs.Common.{◌≡◌, ◌+◌, ◌<◌, ◌∙◌, ap, sym, length, take, arith, rules}
use Rattle.std.proofs.lemmas.List.Sums.{fold_more}
use Rattle.indexmap.specs.IndexSet.{insert_key, insert_all}
use Rattle.graph_table.proofs.Inserted.{inserted_longer}
use Rattle.graph_table.proofs.visiting.admit.Goals as goal

pub returns-then-len-limit-clause-many : goal.returns-then-len-limit-clause-many
returns-then-len-limit-clause-many g c =
    λ _.
    let eq = g.S.PartialEq.eq in
    let old = c.args.states.now.keys in
    let arrived = c.args.arrived.now in
    let place = c.loop-state.state-index in
    let item = c.state-item.result in
    let within : place < length arrived = search rules in
    let keys : c.insert.new.self.keys ≡ insert_all eq old (take (place + 1) arrived) =
    c.in_ok-insert.ensures.keys ∙ (ap (λ ks. insert_key eq ks item) c.loop-state.invariant.keys ∙ (ap (insert_key eq (insert_all eq old (take place arrived))) c.state-item.is ∙ sym (fold_more (insert_key eq) old arrived place item within))) in
    let longer = inserted_longer eq old arrived (place + 1) in
    omega (arith, ap length keys)
