use Rattle.std.proofs.Common.{◌≡◌, ℕ, ◌+◌, [], ◌∷◌, ◌++◌, length, take, get_or, refl, sym, ap, ◌∙◌, arith}
use Rattle.std.specs.Prelude.{reverse, slice_index_or}
use Rattle.std.proofs.lemmas.List.{take_more, take_all}
use Rattle.std.proofs.lemmas.Option.{slice_get_read, get_or_from_slice_get}
use Rattle.certificate_checker.specs.GoodCertificate.{LeadsToLabel}
use Rattle.certificate_checker.proofs.ListsOf.{AreListsOf-none, AreListsOf-push}
use Rattle.certificate_checker.proofs.answers.final_answers.Goals as goal

pub loop-number-init : goal.loop-number-init
loop-number-init c = rw c.new-answers.ensures (AreListsOf-none c.args.labels.now c.args.ends.now)

pub choices_back-requires-clause-number : goal.choices_back-requires-clause-number
choices_back-requires-clause-number c = c.requires.finals c.loop-number.number-index 0 c.loop-number-test.true

pub loop-number-preserved : goal.loop-number-preserved
loop-number-preserved c =
    let labels = c.args.labels.now in
    let ends = c.args.ends.now in
    let finals = c.args.finals.now in
    let i = c.loop-number.number-index in
    let final = get_or finals i 0 in
    let within = c.requires.finals i 0 c.loop-number-test.true in
    let more : take (i + 1) finals ≡ take i finals ++ final ∷ [] = take_more finals i 0 c.loop-number-test.true in
    let end_at = slice_get_read ends (length ends) final c.index-ends-number.result refl (omega (arith, c.requires.length)) c.index-ends-number.is in
    let vector : c.in_ok-copy_of.field-0 ≡ slice_index_or ends final [] = (c.in_ok-copy_of.ensures {u = tt}).ok ∙ (c.as_slice.ensures.value ∙ sym (get_or_from_slice_get ends final c.index-ends-number.result [] end_at)) in
    let list : c.in_ok-reversed.field-0 ≡ reverse c.in_ok-back.back.items = c.in_ok-reversed.ensures {u = tt} ∙ ap (reverse {A = ℕ}) c.as_slice-in-loop-number.ensures.value in
    let choices : LeadsToLabel labels final c.in_ok-reversed.field-0 = rw list (c.in_ok-back.ensures {u = tt}) in
    rw ((c.in_ok-push.ensures {u = tt}).ok, more) (AreListsOf-push labels ends (take i finals) c.loop-number.answers final (record { vector = c.in_ok-copy_of.field-0; choices = c.in_ok-reversed.field-0 }) c.loop-number.invariant vector choices)

pub returns : goal.returns
returns c = let all = take_all c.loop-number.number-index c.args.finals.now c.loop-number-test.false in rw all at c.loop-number.invariant
