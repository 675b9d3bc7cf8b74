-- The text of a certificate within the limits is read as that certificate.
use Rattle.std.proofs.Common.{◌≡◌, ℕ, ◌+◌, ◌≤◌, List, [], ◌∷◌, ◌++◌, length, drop, map, Result, Ok, Err, refl, sym, ap, ◌∙◌, arith, append_assoc}
use Rattle.std.specs.Prelude.{codes}
use Rattle.std.specs.List.{All, flat_map, sum_by}
use Rattle.std.proofs.lemmas.List.{length-map}
use Rattle.std.proofs.lemmas.List.Elements.{All-nil, All-cons, All-head, All-tail}
use Rattle.std.specs.Prelude.{◌≢◌}
use Rattle.std.specs.Result.{IfErr}
use Rattle.std.specs.Bool.{OnFalse}
use Rattle.reading.specs.Reading.{Gives}
use Rattle.reading.proofs.ReadingLaws.{handed_on}
use Rattle.certificate_text.specs.Numbers.{is_memory}
use Rattle.certificate_text.proofs.NumberLaws.{done}
use Rattle.certificate_text.specs.At.{At}
use Rattle.certificate_text.specs.Cursors.{fixed}
use Rattle.certificate_text.specs.ReadText.{label_count, heads, linked, labels, named, answers, contents, ending, start, certificate_in}
use Rattle.certificate_text.specs.Text.{ended, pair_line, head_of, head_line, links_line, named_line, label_lines, text, HasSmallNumbers, StartsAtZero, HasText}
use Rattle.certificate_text.specs.Times.{read_over}
use Rattle.certificate_text.specs.declared.certificate.CertLabel.{CertLabel}
use Rattle.certificate_text.specs.declared.certificate.Certificate.{Certificate}
use Rattle.certificate_text.specs.declared.fault.CertFault.{CertFault}
use Rattle.certificate_text.proofs.LabelTexts.{IsSmallPair, FirstIsZero}
use Rattle.certificate_text.proofs.LinkTexts.{links_of, later_lines}
use Rattle.certificate_text.proofs.WrittenLines.{place, fixed_written, named_written}
use Rattle.certificate_text.proofs.WrittenLabels.{lacks_by, count_written, heads_written, links_written}
use Rattle.certificate_text.specs.declared.TheConstants.{MAX_LABELS, MAX_LINKS}

small_heads : (ls : List CertLabel) → All HasSmallNumbers ls → All IsSmallPair (map head_of ls)
small_heads [] h = All-nil IsSmallPair
small_heads (l ∷ ls) h =
    let k = All-head HasSmallNumbers l ls h in
    All-cons IsSmallPair (head_of l) (map head_of ls) (k.parent, k.choice) (small_heads ls (All-tail HasSmallNumbers l ls h))

zero_first : (ls : List CertLabel) → StartsAtZero ls → FirstIsZero (map head_of ls)
zero_first [] h = tt
zero_first (l ∷ ls) h = h

regrouped : (a b c d r : List ℕ) → (a ++ (b ++ (c ++ d))) ++ r ≡ a ++ (b ++ (c ++ (d ++ r)))
regrouped a b c d r =
    append_assoc a (b ++ (c ++ d)) r ∙ ap (λ t. a ++ t) (append_assoc b (c ++ d) r ∙ ap (λ t. b ++ t) (append_assoc c d r))

labels_step : (s t u v w : At) (n : ℕ) (hs : List (ℕ × ℕ)) (ls : List CertLabel) → label_count s ≡ Ok (n, t) → heads n t ≡ Ok (hs, u) → fixed (codes "links") u ≡ Ok (tt, v)
    → read_over linked hs v ≡ Ok (ls, w) → labels s ≡ Ok (ls, w)
unfolding labels
labels_step s t u v w n hs ls e f g h = rw (e, f, g, h) refl

labels_written : (ls : List CertLabel) (rest : List ℕ) (n : ℕ) → StartsAtZero ls → length ls ≤ MAX_LABELS → All HasSmallNumbers ls → sum_by links_of ls ≤ MAX_LINKS
    → (m : ℕ) × (j : ℕ) × (labels (place (label_lines ls ++ rest) n 0) ≡ Ok (ls, place rest m j))
unfolding label_lines
labels_written ls rest n first few small le =
    let a : List ℕ = named_line (codes "labels") (length ls ∷ []) in
    let b : List ℕ = flat_map head_line (drop 1 ls) in
    let c : List ℕ = ended (codes "links") in
    let d : List ℕ = flat_map links_line ls in
    let hs : List (ℕ × ℕ) = map head_of ls in
    let count = count_written (codes "labels") (b ++ (c ++ (d ++ rest))) n 0 (length ls) refl (lacks_by 10 (codes "labels") refl) (lacks_by 32 (codes "labels") refl) few in
    let hw = heads_written hs (c ++ (d ++ rest)) (n + 1) 0 (small_heads ls small) (zero_first ls first) in
    let hw_count : heads (length ls) (place (flat_map pair_line (drop 1 hs) ++ (c ++ (d ++ rest))) (n + 1) 0) ≡ Ok (hs, place (c ++ (d ++ rest)) hw.0 0) =
    ap (λ k. heads k (place (flat_map pair_line (drop 1 hs) ++ (c ++ (d ++ rest))) (n + 1) 0)) (sym (length-map ls head_of)) ∙ hw.1 in
    let hw_lines : heads (length ls) (place (b ++ (c ++ (d ++ rest))) (n + 1) 0) ≡ Ok (hs, place (c ++ (d ++ rest)) hw.0 0) =
    ap (λ t. heads (length ls) (place (t ++ (c ++ (d ++ rest))) (n + 1) 0)) (sym (later_lines ls)) ∙ hw_count in
    let fw = fixed_written (codes "links") (d ++ rest) hw.0 0 (lacks_by 10 (codes "links") refl) in
    let lw = links_written ls rest (hw.0 + 1) 0 small (omega (arith, le)) in (
      lw.0,
      lw.1,
      ap (λ t. labels (place t n 0)) (regrouped a b c d rest)
          ∙ labels_step (place (a ++ (b ++ (c ++ (d ++ rest)))) n 0) (place (b ++ (c ++ (d ++ rest))) (n + 1) 0) (place (c ++ (d ++ rest)) hw.0 0) (place (d ++ rest) (hw.0 + 1) 0) (place rest lw.0 lw.1) (length ls) hs ls count hw_lines fw lw.2,
    )

contents_step : (s t u v : At) (cert : Certificate) → labels s ≡ Ok (cert.labels, t) → named (codes "finals") t ≡ Ok (cert.finals, u) → named (codes "goals") u ≡ Ok (cert.goal_links, v)
    → contents s ≡ Ok (cert, v)
unfolding contents answers
contents_step s t u v cert e f g = rw (e, f, g) refl

ending_written : (n k : ℕ) → ending (place (ended (codes "end")) n k) ≡ Ok (tt, place [] (n + 1) k)
unfolding ending
ending_written n k =
    let e : fixed (codes "end") (place (ended (codes "end")) n k) ≡ Ok (tt, place [] (n + 1) k) = fixed_written (codes "end") [] n k (lacks_by 10 (codes "end") refl) in
    rw e refl

whole_step : (bytes : List ℕ) (t u : At) (v : Unit {0} × At) (cert : Certificate) → fixed (codes "rulebook certificate 1") (start bytes) ≡ Ok (tt, t) → contents t ≡ Ok (cert, u) → ending u ≡ Ok v
    → certificate_in bytes ≡ Ok cert
unfolding certificate_in
whole_step bytes t u v cert e f g = rw (e, f, g) refl

pub certificate_written : (cert : Certificate) → HasText cert → certificate_in (text cert) ≡ Ok cert
unfolding text
certificate_written cert h =
    let last : List ℕ = ended (codes "end") in
    let goals : List ℕ = named_line (codes "goals") cert.goal_links in
    let finals : List ℕ = named_line (codes "finals") cert.finals in
    let first = fixed_written (codes "rulebook certificate 1") (label_lines cert.labels ++ (finals ++ (goals ++ last))) 1 0 (lacks_by 10 (codes "rulebook certificate 1") refl) in
    let lw = labels_written cert.labels (finals ++ (goals ++ last)) 2 h.start h.few_labels h.small_labels h.few_links in
    let fw = named_written (codes "finals") (goals ++ last) lw.0 lw.1 cert.finals (lacks_by 10 (codes "finals") refl) (lacks_by 32 (codes "finals") refl) h.small_finals h.few_finals in
    let gw = named_written (codes "goals") last (lw.0 + 1) lw.1 cert.goal_links (lacks_by 10 (codes "goals") refl) (lacks_by 32 (codes "goals") refl) h.small_goal_links h.few_goal_links in
    let c = contents_step (place (label_lines cert.labels ++ (finals ++ (goals ++ last))) 2 0) (place (finals ++ (goals ++ last)) lw.0 lw.1) (place (goals ++ last) (lw.0 + 1) lw.1) (place last (lw.0 + 1 + 1) lw.1) cert lw.2 fw gw in
    whole_step (ended (codes "rulebook certificate 1") ++ (label_lines cert.labels ++ (finals ++ (goals ++ last)))) (place (label_lines cert.labels ++ (finals ++ (goals ++ last))) 2 0) (place last (lw.0 + 1 + 1) lw.1) (tt, place [] (lw.0 + 1 + 1 + 1) lw.1) cert first c (ending_written (lw.0 + 1 + 1) lw.1)

-- a certificate within the limits is read from its text
pub read_again : (cert : Certificate) (bytes : List ℕ) → bytes ≡ text cert → HasText cert → certificate_in bytes ≡ Ok cert
read_again cert bytes e h = ap certificate_in e ∙ certificate_written cert h

-- bytes that are refused are the text of no certificate within the limits
pub no_text : (r : Result Certificate CertFault) (bytes : List ℕ) → Gives is_memory (λ (cert : Certificate). cert) r (certificate_in bytes)
    → IfErr r (λ e. OnFalse (is_memory e) ((cert : Certificate) → HasText cert → text cert ≢ bytes))
no_text (Ok x) bytes h = tt
no_text (Err e) bytes h = handed_on (is_memory e) (λ k cert within same. absurd (apart cert e (sym (read_again cert bytes (sym same) within) ∙ k))) h
  where
    apart : (cert : Certificate) (e : CertFault) → done {F = CertFault} {A = Certificate} cert ≡ Err e → ⊥
    apart cert e k = absurd cc
