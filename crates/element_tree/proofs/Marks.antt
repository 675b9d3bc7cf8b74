-- Loops that look for a mark.
use Rattle.std.proofs.Common.{◌≡◌, ℕ, ◌+◌, ◌-◌, ◌≤◌, ◌<◌, true, false, List, [], ◌∷◌, length, take, drop, get_or, Option, Some, None, nat_eq, refl, ap, arith}
use Rattle.std.specs.Prelude.{option_map}
use Rattle.std.specs.List.{starts_with}
use Rattle.std.proofs.lemmas.List.{take_rest}
use Rattle.element_tree.specs.Bytes.{len_to, len_to_close, is_close, quote_after}

shift : (len : ℕ) (x : Option ℕ) → option_map (λ n. len + n) (option_map (λ n. n + 1) x) ≡ option_map (λ n. len + 1 + n) x
shift len None = refl
shift len (Some n) = let e : len + (n + 1) ≡ len + 1 + n = omega arith in ap (λ (k : ℕ). Some k) e

pub to_goes_on : (mark rest : List ℕ) (len : ℕ) → 1 ≤ length rest → starts_with nat_eq rest mark ≡ false
    → option_map (λ n. len + n) (len_to mark rest) ≡ option_map (λ n. len + 1 + n) (len_to mark (take (length rest - 1) (drop 1 rest)))
unfolding len_to
to_goes_on mark [] len h e = absurd (omega arith)
to_goes_on mark (b ∷ bs) len h e = rw (e, take_rest (b ∷ bs) 1) (shift len (len_to mark bs))

pub to_stops : (mark rest : List ℕ) (len : ℕ) → 1 ≤ length rest → starts_with nat_eq rest mark ≡ true
    → option_map (λ n. len + n) (len_to mark rest) ≡ Some (len + length mark)
unfolding len_to
to_stops mark [] len h e = absurd (omega arith)
to_stops mark (b ∷ bs) len h e = rw e refl

pub to_ends : (mark rest : List ℕ) (len : ℕ) → length rest < 1 → option_map (λ n. len + n) (len_to mark rest) ≡ None
unfolding len_to
to_ends mark [] len h = refl
to_ends mark (b ∷ bs) len h = absurd (omega arith)

pub close_goes_on : (quote : Option ℕ) (rest : List ℕ) (len : ℕ) → 1 ≤ length rest → is_close quote (get_or rest 0 0) ≡ false
    → option_map (λ n. len + n) (len_to_close quote rest) ≡ option_map (λ n. len + 1 + n) (len_to_close (quote_after quote (get_or rest 0 0)) (take (length rest - 1) (drop 1 rest)))
unfolding len_to_close
close_goes_on quote [] len h e = absurd (omega arith)
close_goes_on quote (b ∷ bs) len h e = rw (e, take_rest (b ∷ bs) 1) (shift len (len_to_close (quote_after quote b) bs))

pub close_stops : (quote : Option ℕ) (rest : List ℕ) (len : ℕ) → 1 ≤ length rest → is_close quote (get_or rest 0 0) ≡ true
    → option_map (λ n. len + n) (len_to_close quote rest) ≡ Some (len + 1)
unfolding len_to_close
close_stops quote [] len h e = absurd (omega arith)
close_stops quote (b ∷ bs) len h e = rw e refl

pub close_ends : (quote : Option ℕ) (rest : List ℕ) (len : ℕ) → length rest < 1 → option_map (λ n. len + n) (len_to_close quote rest) ≡ None
unfolding len_to_close
close_ends quote [] len h = refl
close_ends quote (b ∷ bs) len h = absurd (omega arith)
