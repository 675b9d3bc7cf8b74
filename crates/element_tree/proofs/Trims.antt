-- White space at an end.
use Rattle.std.proofs.Common.{◌≡◌, ℕ, suc, ◌+◌, ◌-◌, ◌≤◌, ◌<◌, true, false, List, [], ◌∷◌, ◌++◌, length, take, get_or, refl, ap, sym, ◌∙◌, arith}
use Rattle.std.specs.Prelude.{reverse}
use Rattle.std.specs.List.{position_or_len}
use Rattle.std.proofs.lemmas.List.{reverse-append, reverse-reverse, take_all}
use Rattle.std.proofs.Math.Seq.{take-suc}
use Rattle.element_tree.specs.Bytes.{is_space, is_ink, skip_space}
use Rattle.element_tree.specs.Trees.{trim_end}

skip_more : (b : ℕ) (bs : List ℕ) → is_space b ≡ true → skip_space (b ∷ bs) ≡ skip_space bs
skip_more b bs h = let e : 1 + position_or_len is_ink bs ≡ suc (position_or_len is_ink bs) = omega arith in rw (h, e) refl

skip_stop : (b : ℕ) (bs : List ℕ) → is_space b ≡ false → skip_space (b ∷ bs) ≡ b ∷ bs
skip_stop b bs h = rw h refl

end_more : (front : List ℕ) (b : ℕ) → is_space b ≡ true → trim_end (front ++ b ∷ []) ≡ trim_end front
end_more front b h = rw (reverse-append front (b ∷ [])) (ap (λ (x : List ℕ). reverse x) (skip_more b (reverse front) h))

end_stop : (front : List ℕ) (b : ℕ) → is_space b ≡ false → trim_end (front ++ b ∷ []) ≡ front ++ b ∷ []
end_stop front b h =
    ap (λ (x : List ℕ). reverse (skip_space x)) (reverse-append front (b ∷ [])) ∙ ap (λ (x : List ℕ). reverse x) (skip_stop b (reverse front) h)
    ∙ ap (λ (x : List ℕ). reverse x) (sym (reverse-append front (b ∷ []))) ∙ reverse-reverse (front ++ b ∷ [])

split_last : (xs : List ℕ) → 1 ≤ length xs → xs ≡ take (length xs - 1) xs ++ get_or xs (length xs - 1) 0 ∷ []
split_last xs h =
    let e : length xs ≡ suc (length xs - 1) = omega arith in
    sym (take_all (length xs) xs (omega arith)) ∙ ap (λ (n : ℕ). take n xs) e ∙ take-suc xs (length xs - 1) 0 (omega arith)

pub trim_more : (xs : List ℕ) → 1 ≤ length xs → is_space (get_or xs (length xs - 1) 0) ≡ true → trim_end xs ≡ trim_end (take (length xs - 1) xs)
trim_more xs h k = ap (λ (x : List ℕ). trim_end x) (split_last xs h) ∙ end_more (take (length xs - 1) xs) (get_or xs (length xs - 1) 0) k

pub trim_stop : (xs : List ℕ) → 1 ≤ length xs → is_space (get_or xs (length xs - 1) 0) ≡ false → trim_end xs ≡ xs
trim_stop xs h k =
    ap (λ (x : List ℕ). trim_end x) (split_last xs h) ∙ end_stop (take (length xs - 1) xs) (get_or xs (length xs - 1) 0) k ∙ sym (split_last xs h)

pub trim_none : (xs : List ℕ) → length xs < 1 → trim_end xs ≡ xs
trim_none [] h = refl
trim_none (x ∷ xs) h = absurd (omega arith)
