-- What is read to an end, and what is written piece by piece.
use Rattle.std.proofs.Common.{◌≡◌, ℕ, ◌-◌, ◌<◌, List, [], ◌∷◌, ◌++◌, length, take, drop, Option, None, Some, IfSome, refl, sym, ◌∙◌, ap, subst, append_assoc, arith}
use Rattle.std.specs.Option.{option_map}
use Rattle.std.specs.Io.KnownBytes.{Appends}
use Rattle.std.proofs.lemmas.List.{take_all, length-take, length-drop, append-nil, take-append-drop}

short : (limit : ℕ) (xs : List ℕ) → length (take limit xs) < limit → take limit xs ≡ xs
short limit xs h = take_all limit xs (omega (arith, length-take limit xs))

-- fewer bytes than the limit are all that were left
pub all_left : (left : Option (List ℕ)) (limit : ℕ) (bytes : List ℕ) → IfSome (option_map (take limit) left) (λ xs. bytes ≡ xs) → length bytes < limit → IfSome left (λ xs. bytes ≡ xs)
all_left None limit bytes h few = tt
all_left (Some xs) limit bytes h few = h ∙ short limit xs (subst (λ b. length b < limit) h few)

appends_none : (known : Option (List ℕ)) → Appends known known []
appends_none None = tt
appends_none (Some xs) = sym (append-nil xs)

appends_more : (a b c : Option (List ℕ)) (x y : List ℕ) → Appends a b x → Appends b c y → Appends a c (x ++ y)
appends_more None b c x y h k = tt
appends_more (Some xs) None c x y h k = absurd h
appends_more (Some xs) (Some ys) None x y h k = absurd k
appends_more (Some xs) (Some ys) (Some zs) x y h k = k ∙ ap (λ l. l ++ y) h ∙ append_assoc xs x y

-- what stands before the rest is written
pub record IsWrittenTo (first now : Option (List ℕ)) (bytes rest : List ℕ) : Type 0 where
  pub before : List ℕ
  pub whole : before ++ rest ≡ bytes
  pub written : Appends first now before

pub written_none : (known : Option (List ℕ)) (bytes : List ℕ) → IsWrittenTo known known bytes bytes
written_none known bytes = record { before = []; whole = refl; written = appends_none known }

pub written_more : (first mid now : Option (List ℕ)) (bytes rest : List ℕ) (k : ℕ) → IsWrittenTo first mid bytes rest → Appends mid now (take k rest) → IsWrittenTo first now bytes (take (length rest - k) (drop k rest))
written_more first mid now bytes rest k so_far more = record {
  before = so_far.before ++ take k rest;
  whole =
      append_assoc so_far.before (take k rest) (take (length rest - k) (drop k rest))
      ∙ ap (λ l. so_far.before ++ (take k rest ++ l)) (take_all (length rest - k) (drop k rest) (omega (arith, length-drop k rest)))
      ∙ ap (λ l. so_far.before ++ l) (take-append-drop k rest)
      ∙ so_far.whole;
  written = appends_more first mid now so_far.before (take k rest) so_far.written more;
}

pub written_all : (first now : Option (List ℕ)) (bytes rest : List ℕ) → IsWrittenTo first now bytes rest → length rest ≡ 0 → Appends first now bytes
written_all first now bytes [] h none = subst (λ b. Appends first now b) (sym (append-nil h.before) ∙ h.whole) h.written
written_all first now bytes (x ∷ xs) h none = absurd (omega arith)
