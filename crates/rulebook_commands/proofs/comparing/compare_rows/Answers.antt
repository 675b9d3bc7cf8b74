use Rattle.std.proofs.Common.{refl}
use Rattle.std.proofs.lemmas.Result.{err_from_is_err_and}
use Rattle.command_outcome.specs.declared.outcome.Status.TheVariants as status
use Rattle.command_outcome.proofs.Serving.{made, stops}
use Rattle.rulebook_commands.specs.Compare.{compare_task}
use Rattle.rulebook_commands.proofs.comparing.compare_rows.Goals as goal

pub returns-in_err-book : goal.returns-in_err-book
returns-in_err-book g c =
    let p = err_from_is_err_and c.from_residual.result c.from_residual.ensures.1 in
    rw (p.1, p.2) (stops (compare_task c.args.book.now c.args.table.now) _ _ c.in_err-book.field-0.0 c.in_err-book.ensures.loads)

pub returns : goal.returns
returns g c =
    let says = rw c.as_slice.ensures at c.in_ok-text.ensures in
    made (compare_task c.args.book.now c.args.table.now) _ _ (c.in_ok-book.book, c.in_ok-book.table) c.in_ok-book.ensures.loads status.Done c.in_ok-text.text.items
    (λ files. record { done = refl; stays = refl; says = says })
