use Rattle.std.proofs.Common.{◌≡◌, ◌+◌, true, false, sym, ◌∙◌, rules, arith, length, ap}
use Rattle.std.proofs.lemmas.Result.{err_from_is_err_and}
use Rattle.reading.proofs.ReadingLaws.{handed_on, items_done, items_go_on, items_stop}
use Rattle.trajectory_judge.specs.Faults.{is_memory}
use Rattle.trajectory_judge.specs.Records.{IsCut, row_step}
use Rattle.trajectory_judge.specs.Rows.{GotRow, Row, row_of, rows_left}
use Rattle.trajectory_judge.proofs.RowLoop.{rows_cut}
use Rattle.trajectory_judge.proofs.records.Records.add_rows.Goals as goal

pub returns-in_err-next_row-clause-exact : goal.returns-in_err-next_row-clause-exact
returns-in_err-next_row-clause-exact c =
    let p = err_from_is_err_and c.from_residual.result c.from_residual.ensures.1 in
    let e = c.in_err-next_row.field-0.0 in
    rw (p.1, p.2) (handed_on (is_memory e) (λ (cut : IsCut c.loop-row.rows (c.loop-row.row + 1) e). sym c.loop-row.invariant.0 ∙ rows_cut c.args.maneuvers.now (c.loop-row.row + 1) c.loop-row.rows c.loop-row.self e cut) c.in_err-next_row.ensures.fault)

pub returns-in_err-add_row-clause-exact : goal.returns-in_err-add_row-clause-exact
returns-in_err-add_row-clause-exact c =
    let p = err_from_is_err_and c.from_residual-in_err-add_row.result c.from_residual-in_err-add_row.ensures.1 in
    let e = c.in_err-add_row.field-0.0 in
    let found : c.in_ok-next_row.field-0 ≡ true = search rules in
    let got : GotRow c.loop-row.rows c.next_row.new.rows = c.in_ok-next_row.ensures.some found in
    rw (p.1, p.2) (handed_on (is_memory e) (λ k. sym c.loop-row.invariant.0 ∙ items_stop (row_step c.args.maneuvers.now) (c.loop-row.row + 1) (rows_left c.loop-row.rows) c.loop-row.self (row_of c.next_row.new.rows) (rows_left c.next_row.new.rows) e got.row k) c.in_err-add_row.ensures.exact)

pub loop-row-preserved : goal.loop-row-preserved
loop-row-preserved c =
    let found : c.in_ok-next_row.field-0 ≡ true = search rules in
    let got : GotRow c.loop-row.rows c.next_row.new.rows = c.in_ok-next_row.ensures.some found in (
      sym (items_go_on (row_step c.args.maneuvers.now) (c.loop-row.row + 1) (rows_left c.loop-row.rows) c.loop-row.self (row_of c.next_row.new.rows) (rows_left c.next_row.new.rows) c.add_row.new.self got.row c.in_ok-add_row.ensures.exact) ∙ c.loop-row.invariant.0,
      omega (arith, c.loop-row.invariant.1, ap (length {A = Row}) got.row),
      got.stays,
      rw (← c.in_ok-next_row.ensures.width found) got.width,
      c.in_ok-add_row.ensures.sound,
    )

pub returns-clause-exact : goal.returns-clause-exact
returns-clause-exact c =
    let ended : c.in_ok-next_row.field-0 ≡ false = search rules in
    sym c.loop-row.invariant.0 ∙ items_done (row_step c.args.maneuvers.now) (c.loop-row.row + 1) (rows_left c.loop-row.rows) c.loop-row.self (c.in_ok-next_row.ensures.none ended)
