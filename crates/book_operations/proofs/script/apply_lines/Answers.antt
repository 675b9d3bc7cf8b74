use Rattle.std.proofs.Common.{◌+◌, arith}
use Rattle.std.proofs.lemmas.Result.{err_from_is_err_and}
use Rattle.std.specs.Bool.{OnFalse}
use Rattle.reading.proofs.ReadingLaws.{handed_on}
use Rattle.reading.specs.Lines.{first_line, lines_of}
use Rattle.book_operations.proofs.Chain.{derives-on, refused-on, keeps-on, refused-here, derives-none, keeps-none}
use Rattle.book_operations.specs.Scripts.{is_memory, line_child, line_multiplier, Leaves, IsLineFault, KeepsOver}
use Rattle.book_operations.proofs.script.apply_lines.Goals as goal

pub returns-in_err-apply_line-clause-refuses : goal.returns-in_err-apply_line-clause-refuses
returns-in_err-apply_line-clause-refuses c =
    let p = err_from_is_err_and c.from_residual-in_err-apply_line.result c.from_residual-in_err-apply_line.ensures.1 in
    let line = first_line c.loop-text.rest.now in
    let n = c.loop-text.number + 1 in
    let book = c.loop-text.book in
    let e = c.in_err-apply_line.field-0.0 in
    let h : OnFalse (is_memory e) (IsLineFault book (line_child n line book) e) = rw (← c.in-Some.ensures.content, ← c.in-Some.ensures.len) c.in_err-apply_line.ensures.refuses in
    rw (p.1, p.2) (handed_on (is_memory e) (λ k. c.loop-text.invariant.refuses e (refused-here n (lines_of c.loop-text.rest.now) line (lines_of c.in-Some.after.now) c.in-Some.ensures.lines book e k)) h)

pub loop-text-preserved : goal.loop-text-preserved
loop-text-preserved c =
    let line = first_line c.loop-text.rest.now in
    let n = c.loop-text.number + 1 in
    let book = c.loop-text.book in
    let next = c.apply_line.new.book in
    let lines = lines_of c.loop-text.rest.now in
    let rest = lines_of c.in-Some.after.now in
    let left : Leaves book (line_child n line book) next = rw (← c.in-Some.ensures.content, ← c.in-Some.ensures.len) c.in_ok-apply_line.ensures.leaves in
    let over : KeepsOver book (line_multiplier line) (line_child n line book) next = rw (← c.in-Some.ensures.content, ← c.in-Some.ensures.len) c.in_ok-apply_line.ensures.keeps in
    record {
      sound = c.in_ok-apply_line.ensures.sound;
      few = omega (arith, c.in-Some.ensures.shorter, c.loop-text.invariant.few);
      derives = λ last h. c.loop-text.invariant.derives last (derives-on n lines line rest c.in-Some.ensures.lines book next left last h);
      keeps = λ last h. c.loop-text.invariant.keeps last (keeps-on n lines line rest c.in-Some.ensures.lines book next left over last h);
      refuses = λ fault h. c.loop-text.invariant.refuses fault (refused-on n lines line rest c.in-Some.ensures.lines book next left fault h);
    }

pub returns-clause-derives : goal.returns-clause-derives
returns-clause-derives c = c.loop-text.invariant.derives c.loop-text.book (derives-none (c.loop-text.number + 1) (lines_of c.loop-text.rest.now) c.loop-text.book c.in_default.ensures.lines)

pub returns-clause-keeps : goal.returns-clause-keeps
returns-clause-keeps c = c.loop-text.invariant.keeps c.loop-text.book (keeps-none (c.loop-text.number + 1) (lines_of c.loop-text.rest.now) c.loop-text.book c.in_default.ensures.lines)
