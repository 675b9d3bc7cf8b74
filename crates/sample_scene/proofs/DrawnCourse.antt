-- Three draws, one after the other.
use Rattle.std.proofs.Common.{◌≡◌, ℕ, ◌+◌, ◌*◌, sym, ap, ◌∙◌, arith, add-one}
use Rattle.sample_scene.specs.Draws.{following, given_by, state_after}
use Rattle.sample_scene.specs.Motorway.{course, drawn_course}

-- the state that follows the one after i draws
one_draw : (number i s t : ℕ) → s ≡ state_after number i → t ≡ following s → t ≡ state_after number (i + 1)
unfolding state_after
one_draw number i s t e f = f ∙ (ap following e ∙ sym (ap (state_after number) (add-one i)))

at_last : (number place t : ℕ) → t ≡ state_after number (3 * place + 1 + 1 + 1) → t ≡ state_after number (3 * place + 2 + 1)
at_last number place t e = e ∙ ap (state_after number) (omega arith)

pub drawn_course_is : (number place s a b d : ℕ) → s ≡ state_after number (3 * place) → a ≡ following s → b ≡ following a → d ≡ following b → course (given_by a) (given_by b) (given_by d) ≡ drawn_course number place
drawn_course_is number place s a b d e f g h =
    let first : a ≡ state_after number (3 * place + 1) = one_draw number (3 * place) s a e f in
    let second : b ≡ state_after number (3 * place + 1 + 1) = one_draw number (3 * place + 1) a b first g in
    let third : d ≡ state_after number (3 * place + 2 + 1) = at_last number place d (one_draw number (3 * place + 1 + 1) b d second h) in
    λ i. course (given_by (first i)) (given_by (second i)) (given_by (third i))

pub three_draws : (number place s a b d : ℕ) → s ≡ state_after number (3 * place) → a ≡ following s → b ≡ following a → d ≡ following b → d ≡ state_after number (3 * (place + 1))
three_draws number place s a b d e f g h =
    one_draw number (3 * place + 1 + 1) b d (one_draw number (3 * place + 1) a b (one_draw number (3 * place) s a e f) g) h ∙ ap (state_after number) (omega arith)
