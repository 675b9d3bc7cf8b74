use Rattle.std.proofs.Common.{◌≡◌, ◌∙◌, List, sym, subst, refl}
use Rattle.std.specs.List.{AllZip}
use Rattle.std.specs.Prelude.{All, Contains}
use Rattle.graph_table.specs.Tables.{IsAt, IsTableOf}
use Rattle.graph_table.specs.Visits.{visited}
use Rattle.graph_table.specs.declared.entries.Entries.{Entries}
use Rattle.graph_table.proofs.Made.{nexts_there, entries_of}
use Rattle.graph_table.proofs.TableLaws.{is_table, is_inside, is_lawful}
use Rattle.graph_table.proofs.making.assembled.Goals as goal

pub places_of-requires-clause-there : goal.places_of-requires-clause-there
places_of-requires-clause-there g c =
    let eq = g.G.State.PartialEq.eq in
    let graph = g.G.StepGraph.graph c.args.graph.now in
    let keys = c.args.visited.states.keys in
    subst (λ nexts. All (Contains keys) nexts) (sym c.as_slice.ensures)
    (nexts_there eq graph (g.met.G.StepGraph.laws c.args.graph.now) g.met.G.State.Eq.laws g.met.G.StepGraph.same_states keys c.args.visited.visit c.requires.visited)

pub of-requires-clause-inside : goal.of-requires-clause-inside
of-requires-clause-inside g c =
    let eq = g.G.State.PartialEq.eq in
    let graph = g.G.StepGraph.graph c.args.graph.now in
    let made = entries_of eq graph c.args.visited.states.keys c.args.visited.visit c.requires.visited _ c.width.ensures c.last.ensures c.step_limit.ensures c.requires.first refl
    (subst (λ (nexts : List _). AllZip (IsAt c.args.visited.states.keys) nexts c.in_ok-nexts.nexts) c.as_slice.ensures c.in_ok-nexts.ensures.places) refl in
    is_inside eq graph (g.met.G.StepGraph.laws c.args.graph.now) g.met.G.State.Eq.laws g.met.G.StepGraph.same_states _ made c.in_ok-nexts.ensures.fits

pub of-requires-clause-lawful : goal.of-requires-clause-lawful
of-requires-clause-lawful g c =
    let eq = g.G.State.PartialEq.eq in
    let graph = g.G.StepGraph.graph c.args.graph.now in
    let made = entries_of eq graph c.args.visited.states.keys c.args.visited.visit c.requires.visited _ c.width.ensures c.last.ensures c.step_limit.ensures c.requires.first refl
    (subst (λ (nexts : List _). AllZip (IsAt c.args.visited.states.keys) nexts c.in_ok-nexts.nexts) c.as_slice.ensures c.in_ok-nexts.ensures.places) refl in
    is_lawful eq graph (g.met.G.StepGraph.laws c.args.graph.now) g.met.G.State.Eq.laws g.met.G.StepGraph.same_states _ made

pub returns-clause-table : goal.returns-clause-table
returns-clause-table g c =
    let eq = g.G.State.PartialEq.eq in
    let graph = g.G.StepGraph.graph c.args.graph.now in
    let keys = c.args.visited.states.keys in
    let entries : Entries = record { width = c.width.result; last = c.last.result; step_limit = c.step_limit.result; first = c.args.visited.first; rows = c.args.visited.visit.rows; nexts = c.in_ok-nexts.nexts; costs = c.args.visited.visit.costs } in
    let made = entries_of eq graph keys c.args.visited.visit c.requires.visited entries c.width.ensures c.last.ensures c.step_limit.ensures c.requires.first refl
    (subst (λ (nexts : List _). AllZip (IsAt keys) nexts c.in_ok-nexts.nexts) c.as_slice.ensures c.in_ok-nexts.ensures.places) refl in
    let table = is_table eq graph (g.met.G.StepGraph.laws c.args.graph.now) g.met.G.State.Eq.laws g.met.G.StepGraph.same_states entries made in
    let states : c.of.result.states ≡ visited eq graph graph.last = c.of.ensures.states ∙ (c.in_ok-states.ensures ∙ (c.as_slice-2.ensures.keys ∙ c.requires.visited.states_are)) in
    subst (λ all. IsTableOf graph all c.of.result.entries) (sym states) (subst (λ e. IsTableOf graph (visited eq graph graph.last) e) (sym c.of.ensures.entries) table)
