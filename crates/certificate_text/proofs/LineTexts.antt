-- What is read line by line is what is written of it.
use Rattle.std.proofs.Common.{◌≡◌, ℕ, ◌<◌, ◌≤◌, true, List, [], ◌∷◌, ◌++◌, length, map, subst, Option, Some, None, Ok, refl, sym, ap, ◌∙◌, arith, append_assoc}
use Rattle.std.specs.Prelude.{is_some, nat_lt}
use Rattle.std.specs.List.{All, position, position_or_len, before_first, after_first}
use Rattle.std.specs.Str.{bytes_eq}
use Rattle.std.specs.Fmt.{decimal}
use Rattle.std.proofs.lemmas.Bool.{ltb-false, eqb-true}
use Rattle.std.proofs.lemmas.Slice.Eq.{bytes_eq-Decides}
use Rattle.std.proofs.lemmas.List.Sums.{split_at_first, passes_at_first}
use Rattle.reading.specs.Lines.{is_feed}
use Rattle.reading.specs.Reading.{read_each}
use Rattle.reading.proofs.Places.{position_is}
use Rattle.text_lines.specs.Lines.{cells}
use Rattle.certificate_text.specs.At.{At}
use Rattle.certificate_text.specs.Cursors.{needed, fixed}
use Rattle.certificate_text.specs.ReadText.{named}
use Rattle.certificate_text.specs.Numbers.{number_on, named_on, few, parts}
use Rattle.certificate_text.specs.Text.{ended, named_line, IsSmall}
use Rattle.certificate_text.specs.declared.fault.CertFault.{CertFault}
use Rattle.certificate_text.proofs.NumberLaws.{done_same, read_on, passed, held, numbers_read, parts_joined}
use Rattle.certificate_text.specs.declared.TheConstants.{MAX_LABELS}

-- from one place to a later one stand the bytes of this text, and no links are counted
pub record Passes (text : List ℕ) (from to : At) : Type 0 where
  pub bytes : from.rest ≡ text ++ to.rest
  pub links : to.links ≡ from.links

pub passes_then : (a b : List ℕ) (x y z : At) → Passes a x y → Passes b y z → Passes (a ++ b) x z
passes_then a b x y z p q = record {
  bytes = p.bytes ∙ ap (λ t. a ++ t) q.bytes ∙ sym (append_assoc a b z.rest);
  links = q.links ∙ p.links;
}

renamed : (a b : List ℕ) (from x y : At) → a ≡ b → x ≡ y → Passes (ended a) from x → Passes (ended b) from y
renamed a b from x y e f p = rw (← e, ← f) p

found_at : (o : Option ℕ) → is_some o ≡ true → (i : ℕ) × (o ≡ Some i)
found_at (Some i) h = (i, refl)
found_at None h = absurd cc

feed_is : (b : ℕ) → is_feed b ≡ true → b ≡ 10
feed_is b h = eqb-true b 10 h

pub needed_read : (from : At) (line : List ℕ) (to : At) → needed from ≡ Ok (line, to) → Passes (ended line) from to
unfolding needed
needed_read from line to h =
    let k = held (is_some (position is_feed from.rest)) _ _ (line, to) h in
    let f = found_at (position is_feed from.rest) k.0 in
    let p = position_is is_feed from.rest f.0 f.1 in
    let inside : position_or_len is_feed from.rest < length from.rest = omega (arith, p.0, p.1) in
    let feed = feed_is _ (passes_at_first is_feed from.rest 0 inside) in
    let same = done_same _ (line, to) k.1 in
    let l : before_first is_feed from.rest ≡ line = ap (λ x. x.0) same in
    let r : after_first is_feed from.rest ≡ to.rest = ap (λ x. x.1.rest) same in
    let n : from.links ≡ to.links = ap (λ x. x.1.links) same in
    record {
      bytes = split_at_first is_feed from.rest 0 inside ∙ rw (feed, l, r) (sym (append_assoc line (10 ∷ []) to.rest));
      links = sym n;
    }

pub fixed_read : (text : List ℕ) (from to : At) → fixed text from ≡ Ok (tt, to) → Passes (ended text) from to
unfolding fixed
fixed_read text from to h =
    read_on (needed from) _ (tt, to) (λ l e g.
    let b = held (bytes_eq l.0 text) _ _ (tt, to) g in
    renamed l.0 text from l.1 to ((bytes_eq-Decides l.0 text).0 b.0) (ap (λ x. x.1) (done_same {F = CertFault} _ (tt, to) b.1)) (needed_read from l.0 l.1 e)) h

few_read : (ns vs : List ℕ) → few ns ≡ Ok vs → (ns ≡ vs) × (length ns ≤ MAX_LABELS)
few_read ns vs h =
    let p = passed (nat_lt MAX_LABELS (length ns)) _ (Ok ns) vs h in
    (done_same {F = CertFault} ns vs p.1, ltb-false MAX_LABELS (length ns) p.0)

named_more : (word name : List ℕ) (words : List (List ℕ)) (ns vs : List ℕ) → word ≡ name → (words ≡ map decimal ns) × All IsSmall ns → (ns ≡ vs) × (length ns ≤ MAX_LABELS)
    → (word ∷ words ≡ name ∷ map decimal vs) × (length vs ≤ MAX_LABELS) × All IsSmall vs
named_more word name words ns vs e p q = rw (e, p.0, ← q.0) (refl, q.1, p.1)

named_words : (name : List ℕ) (n : ℕ) (words : List (List ℕ)) (vs : List ℕ) → named_on name n words ≡ Ok vs
    → (words ≡ name ∷ map decimal vs) × (length vs ≤ MAX_LABELS) × All IsSmall vs
unfolding named_on
named_words name n [] vs h = absurd cc
named_words name n (word ∷ words) vs h =
    let b = held (bytes_eq word name) _ _ vs h in
    read_on (read_each (number_on n) words) few vs (λ ns e g.
    named_more word name words ns vs ((bytes_eq-Decides word name).0 b.0) (numbers_read n words ns e) (few_read ns vs g)) b.1

pub renamed_to : (line name : List ℕ) (ns vs : List ℕ) (from x y : At) → line ≡ name ++ cells ns → ns ≡ vs → x ≡ y → Passes (ended line) from x → Passes (named_line name vs) from y
renamed_to line name ns vs from x y l e f p = rw (← e, ← f, ← l) p

-- a line of a word and numbers
pub named_read : (name : List ℕ) (from to : At) (numbers : List ℕ) → named name from ≡ Ok (numbers, to)
    → Passes (named_line name numbers) from to × (length numbers ≤ MAX_LABELS) × All IsSmall numbers
unfolding named named_on
named_read name from to numbers h =
    read_on (needed from) _ (numbers, to) (λ l e g.
    read_on (named_on name from.number (parts l.0)) _ (numbers, to) (λ ns f k.
    let same = done_same {F = CertFault} (ns, l.1) (numbers, to) k in
    let w = named_words name from.number (parts l.0) ns f in
    let line : l.0 ≡ name ++ cells ns = parts_joined l.0 name ns w.0 in (
      renamed_to l.0 name ns numbers from l.1 to line (ap (λ x. x.0) same) (ap (λ x. x.1) same) (needed_read from l.0 l.1 e),
      subst (λ (ms : List ℕ). length ms ≤ MAX_LABELS) (ap (λ x. x.0) same) w.1,
      subst (λ (ms : List ℕ). All IsSmall ms) (ap (λ x. x.0) same) w.2,
    )) g) h
