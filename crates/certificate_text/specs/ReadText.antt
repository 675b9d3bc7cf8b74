-- The certificate of some bytes, or the first fault. This project's own text.
use Rattle.std.specs.Prelude.{ℕ, ◌+◌, ◌-◌, List, [], ◌∷◌, length, Result, Ok, Err, ◌==◌, nat_lt}
use Rattle.std.specs.Prelude.{if◌then◌else◌, codes}
use Rattle.reading.specs.Reading.{◌>>=◌}
use Rattle.certificate_text.specs.At.{At}
use Rattle.certificate_text.specs.Cursors.{needed, fixed}
use Rattle.certificate_text.specs.Numbers.{parts, numbers_on, pair_on, named_on, count_on}
use Rattle.certificate_text.specs.Times.{read_times, read_over, after_front}
use Rattle.certificate_text.specs.declared.certificate.CertLabel.{CertLabel}
use Rattle.certificate_text.specs.declared.certificate.Certificate.{Certificate}
use Rattle.certificate_text.specs.declared.fault.CertFault.{CertFault}
use Rattle.certificate_text.specs.declared.fault.CertFault.TheVariants.{TooManyLinks, TrailingBytes}
use Rattle.certificate_text.specs.declared.TheConstants.{MAX_LINKS}

-- `labels N`
unfoldable pub label_count : At → Result (ℕ × At) CertFault
label_count at = needed at >>= λ l. count_on at.number (parts l.0) >>= λ count. Ok (count, l.1)

-- `PARENT CHOICE`
unfoldable pub head : At → Result ((ℕ × ℕ) × At) CertFault
head at = needed at >>= λ l. pair_on at.number (parts l.0) >>= λ p. Ok (p, l.1)

-- the parents and choices of so many labels; label 0 has no line
unfoldable pub heads : ℕ → At → Result (List (ℕ × ℕ) × At) CertFault
heads count at =
    if count == 0 then Ok ([], at) else after_front ((0, 0) ∷ []) (read_times head (count - 1) at)

-- the links of the label with this parent and choice
unfoldable pub linked : (ℕ × ℕ) → At → Result (CertLabel × At) CertFault
linked h at = needed at >>= λ l. numbers_on at.number l.0 >>= λ links.
    if nat_lt MAX_LINKS (l.1.links + length links) then Err TooManyLinks
    else Ok (
      record { parent = h.0; choice = h.1; links = links },
      record l.1 { links = l.1.links + length links },
    )

-- all lines of labels
unfoldable pub labels : At → Result (List CertLabel × At) CertFault
labels at =
    label_count at >>= λ n. heads n.0 n.1 >>= λ hs. fixed (codes "links") hs.1
    >>= λ l. read_over linked hs.0 l.1

-- a word and numbers
unfoldable pub named : List ℕ → At → Result (List ℕ × At) CertFault
named name at =
    needed at >>= λ l. named_on name at.number (parts l.0) >>= λ numbers. Ok (numbers, l.1)

-- the finals and the goal links
unfoldable pub answers : At → Result ((List ℕ × List ℕ) × At) CertFault
answers at =
    named (codes "finals") at >>= λ fs. named (codes "goals") fs.1 >>= λ gs. Ok ((fs.0, gs.0), gs.1)

-- all lines between the first and the last
unfoldable pub contents : At → Result (Certificate × At) CertFault
contents at =
    labels at >>= λ ls. answers ls.1 >>= λ found. Ok
    (record { labels = ls.0; finals = found.0.0; goal_links = found.0.1 }, found.1)

-- the last line, and nothing after it
unfoldable pub ending : At → Result (Unit {0} × At) CertFault
ending at = fixed (codes "end") at >>= λ l. if length l.1.rest == 0 then Ok l else Err TrailingBytes

abbrev pub start : List ℕ → At
start bytes = record { rest = bytes; number = 1; links = 0 }

-- the certificate of the bytes, line by line
unfoldable pub certificate_in : List ℕ → Result Certificate CertFault
certificate_in bytes =
    fixed (codes "rulebook certificate 1") (start bytes) >>= λ first. contents first.1
    >>= λ cert. ending cert.1 >>= λ _. Ok cert.0
