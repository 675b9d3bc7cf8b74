-- What one token says of all.
use Rattle.std.proofs.Common.{◌≡◌, ℕ, ◌+◌, ◌<◌, ◌≤◌, Bool, true, false, not, cond, eqb, List, [], ◌∷◌, length, take, drop, Option, Some, None, refl, ap, ◌∙◌, arith, length-drop}
use Rattle.std.specs.Prelude.{option_map, codes}
use Rattle.std.specs.List.{position_or_len}
use Rattle.element_tree.specs.declared.token.Kind.{Kind}
use Rattle.element_tree.specs.declared.token.Kind.TheVariants.{Text, Aside, End, Start}
use Rattle.element_tree.specs.Bytes.{is_open, len_to, len_to_close}
use Rattle.element_tree.specs.Pieces.{pieces}
use Rattle.element_tree.specs.Tokens.{begins, ended, token_at, cut_token}
use Rattle.element_tree.proofs.PieceLaws.{Shrinks, pieces_unroll}
use Rattle.element_tree.proofs.Shrinks.{text_len}

-- a token that was found has a byte at least
record IsLong (o : Option (Kind × ℕ)) : Type 0 where
  long : (t : Kind × ℕ) → o ≡ Some t → 1 ≤ t.1

none_long : IsLong None
none_long = record { long = λ t e. absurd cc }

some_long : (kind : Kind) (n : ℕ) → 1 ≤ n → IsLong (Some (kind, n))
some_long kind n h = record { long = λ t e. let same : (kind, n) ≡ t = cc in subst_long n t.1 (ap (λ (x : Kind × ℕ). x.1) same) h }
  where
    subst_long : (n m : ℕ) → n ≡ m → 1 ≤ n → 1 ≤ m
    subst_long n m e h = omega arith

map_long : (kind : Kind) (f : ℕ → ℕ) → ((n : ℕ) → 1 ≤ f n) → (o : Option ℕ) → IsLong (option_map (λ len. (kind, f len)) o)
map_long kind f h None = none_long
map_long kind f h (Some n) = some_long kind (f n) (h n)

ended_long : (kind : Kind) (n : ℕ) (mark bytes : List ℕ) → 1 ≤ n → IsLong (ended kind n mark bytes)
unfolding ended
ended_long kind n mark bytes h = map_long kind (λ len. n + len) (λ k. omega arith) (len_to mark (drop n bytes))

chain_long : (b0 b1 b2 b3 b4 b5 : Bool) (text aside remark closing opening : Option (Kind × ℕ)) → (b1 ≡ true → IsLong text) → IsLong aside → IsLong remark → IsLong closing → IsLong opening
    → IsLong (cond b0 None (cond b1 text (cond b2 aside (cond b3 None (cond b4 remark (cond b5 closing opening))))))
chain_long true b1 b2 b3 b4 b5 text aside remark closing opening h1 h2 h3 h4 h5 = none_long
chain_long false true b2 b3 b4 b5 text aside remark closing opening h1 h2 h3 h4 h5 = h1 refl
chain_long false false true b3 b4 b5 text aside remark closing opening h1 h2 h3 h4 h5 = h2
chain_long false false false true b4 b5 text aside remark closing opening h1 h2 h3 h4 h5 = none_long
chain_long false false false false true b5 text aside remark closing opening h1 h2 h3 h4 h5 = h3
chain_long false false false false false true text aside remark closing opening h1 h2 h3 h4 h5 = h4
chain_long false false false false false false text aside remark closing opening h1 h2 h3 h4 h5 = h5

of_not : (b : Bool) → not b ≡ true → b ≡ false
of_not true e = absurd cc
of_not false e = refl

all_long : (bytes : List ℕ) → IsLong (token_at bytes)
unfolding token_at
all_long [] = none_long
all_long (b ∷ bytes) =
    let all = b ∷ bytes in
    chain_long (eqb (length all) 0) (not (is_open b)) (begins all (codes "<!--")) (begins all (codes "<!")) (begins all (codes "<?")) (begins all (codes "</"))
    (Some (Text, position_or_len is_open all)) (ended Aside 4 (codes "-->") all) (ended Aside 2 (codes "?>") all) (ended End 2 (codes ">") all) (option_map (λ len. (Start, 1 + len)) (len_to_close None bytes))
    (λ h. some_long Text (position_or_len is_open all) (text_len b bytes (of_not (is_open b) h)))
    (ended_long Aside 4 (codes "-->") all (omega arith)) (ended_long Aside 2 (codes "?>") all (omega arith)) (ended_long End 2 (codes ">") all (omega arith))
    (map_long Start (λ len. 1 + len) (λ k. omega arith) (len_to_close None bytes))

pub token_long : (bytes : List ℕ) (t : Kind × ℕ) → token_at bytes ≡ Some t → 1 ≤ t.1
token_long bytes t e = (all_long bytes).long t e

none_empty : (t : Kind × ℕ) → token_at [] ≡ Some t → ⊥
unfolding token_at
none_empty t e = absurd cc

cut_of : (bytes : List ℕ) (o : Option (Kind × ℕ)) (x : (Kind × List ℕ) × List ℕ) → token_at bytes ≡ o
    → option_map (λ t. ((t.0, take t.1 bytes), drop t.1 bytes)) o ≡ Some x → length x.1 < length bytes
cut_of bytes None x e h = absurd cc
cut_of [] (Some t) x e h = absurd (none_empty t e)
cut_of (b ∷ bytes) (Some t) x e h =
    let same : drop t.1 (b ∷ bytes) ≡ x.1 = cc in
    let r = ap (λ (xs : List ℕ). length xs) same in
    omega (arith, r, token_long (b ∷ bytes) t e, length-drop t.1 (b ∷ bytes))

pub token_shrinks : Shrinks cut_token
unfolding cut_token
token_shrinks bytes x e = cut_of bytes (token_at bytes) x refl e

pub cut_none : (bytes : List ℕ) → token_at bytes ≡ None → pieces cut_token bytes ≡ ([], bytes)
unfolding cut_token
cut_none bytes e = pieces_unroll cut_token token_shrinks bytes ∙ rw e refl

pub cut_at : (bytes : List ℕ) (kind : Kind) (len : ℕ) → token_at bytes ≡ Some (kind, len)
    → pieces cut_token bytes ≡ ((kind, take len bytes) ∷ (pieces cut_token (drop len bytes)).0, (pieces cut_token (drop len bytes)).1)
unfolding cut_token
cut_at bytes kind len e = pieces_unroll cut_token token_shrinks bytes ∙ rw e refl
