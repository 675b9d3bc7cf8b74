-- Answers with their lists of choices, one more.
use Rattle.std.proofs.Common.{◌≡◌, ℕ, List, [], ◌∷◌, ◌++◌, length, refl, ap, sym, subst, ◌∙◌, arith, inl, inr}
use Rattle.std.specs.Prelude.{slice_index_or, map}
use Rattle.std.proofs.lemmas.Option.{slice_get_within}
use Rattle.std.proofs.lemmas.List.{length-map, map-append}
use Rattle.rulebook_order.proofs.Lists.{slice_get-push-cases}
use Rattle.certificate_text.specs.declared.certificate.CertLabel.{CertLabel}
use Rattle.certificate_checker.specs.GoodCertificate.{LeadsToLabel}
use Rattle.certificate_checker.specs.declared.checked.Attained.{Attained}
use Rattle.certificate_checker.specs.Answers.{AreListsOf}

pub AreListsOf-none : (labels : List CertLabel) (ends : List (List ℕ)) → AreListsOf labels ends [] []
AreListsOf-none labels ends = record { vectors = refl; choices = λ j final answer at. absurd (let h = slice_get_within [] j final at in omega arith) }

pub AreListsOf-push : (labels : List CertLabel) (ends : List (List ℕ)) (finals : List ℕ) (answers : List Attained) (final : ℕ) (answer : Attained) → AreListsOf labels ends finals answers → answer.vector ≡ slice_index_or ends final [] → LeadsToLabel labels final answer.choices → AreListsOf labels ends (finals ++ final ∷ []) (answers ++ answer ∷ [])
AreListsOf-push labels ends finals answers final answer were vector choices =
    let size : length answers ≡ length finals = omega (arith, ap (length {A = List ℕ}) were.vectors, length-map answers (λ (a : Attained). a.vector), length-map finals (λ f. slice_index_or ends f [])) in
    record {
      vectors = map-append (λ (a : Attained). a.vector) answers (answer ∷ []) ∙ (ap (λ vs. vs ++ answer.vector ∷ []) were.vectors ∙ (ap (λ v. map (λ f. slice_index_or ends f []) finals ++ v ∷ []) vector ∙ sym (map-append (λ f. slice_index_or ends f []) finals (final ∷ []))));
      choices = λ j f a at_f at_a. elim (slice_get-push-cases finals final j f at_f) [
        | inl old_f ↦ elim (slice_get-push-cases answers answer j a at_a) [
          | inl old_a ↦ were.choices j f a old_f old_a
          | inr new_a ↦ absurd (let h = slice_get_within finals j f old_f in omega (arith, new_a.0))
        ]
        | inr new_f ↦ elim (slice_get-push-cases answers answer j a at_a) [
          | inl old_a ↦ absurd (let h = slice_get_within answers j a old_a in omega (arith, new_f.0))
          | inr new_a ↦ subst (λ n. LeadsToLabel labels n a.choices) new_f.1 (subst (λ (b : Attained). LeadsToLabel labels final b.choices) new_a.1 choices)
        ]
      ];
    }
