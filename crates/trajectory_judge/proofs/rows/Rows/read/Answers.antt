use Rattle.std.proofs.Common.{◌≡◌, ◌∙◌, Some, refl, sym, inl}
use Rattle.csv.specs.Records.{fields_of}
use Rattle.csv.specs.Reading.{pending_of, reader_state}
use Rattle.trajectory_judge.specs.Rows.{row_width, rows_from}
use Rattle.trajectory_judge.proofs.ReadOnce.{taken, ended, even, took}
use Rattle.trajectory_judge.proofs.rows.Rows.read.Goals as goal

pub returns-in-Ok-clause-some : goal.returns-in-Ok-clause-some
returns-in-Ok-clause-some c found =
    let old = c.args.self.now.reader in
    let new = c.read_byte_record.new.self in
    let row = fields_of c.read_byte_record.new.row in
    let r = rw found at (c.in-Ok.ensures.reads c.requires.untrimmed c.requires.ready) in
    let t = taken old new row c.requires.plain c.requires.told r in
    let e = r.5 refl c.requires.even in
    record {
      row = t.1;
      stays = record {
        plain = r.2 ∙ c.requires.plain;
        untrimmed = r.3 ∙ c.requires.untrimmed;
        even = c.in-Ok.ensures.flexible ∙ c.requires.even;
        ready = inl (c.in-Ok.ensures.ready c.requires.untrimmed);
        told = t.0;
      };
      width = e.1;
      even = even old.expected new.expected _ e.0 e.1;
    }

pub returns-in-Ok-clause-none : goal.returns-in-Ok-clause-none
returns-in-Ok-clause-none c found =
    ended c.args.self.now.reader c.read_byte_record.new.self _ c.requires.plain c.requires.told (rw found at (c.in-Ok.ensures.reads c.requires.untrimmed c.requires.ready))

pub returns-in-UnequalLengths-clause-uneven : goal.returns-in-UnequalLengths-clause-uneven
returns-in-UnequalLengths-clause-uneven c e =
    let old = c.args.self.now.reader in
    let why = rw (sym c.kind.ensures ∙ c.in-UnequalLengths.is) at (c.in-Err.ensures.why c.requires.ready) in
    let width : row_width c.args.self.now ≡ Some c.in-UnequalLengths.expected_len = why.1 in
    record {
      row = why.3;
      rest = rows_from (reader_state c.read_byte_record.new.self) (pending_of (Some c.read_byte_record.new.self.rdr.now) c.read_byte_record.new.self);
      next = took old c.read_byte_record.new.self why.3 c.requires.plain c.requires.told why.4;
      some = rw width refl;
      uneven = rw width (λ same. why.2 (sym same ∙ why.5));
    }
