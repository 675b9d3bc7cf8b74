-- The first token, and how it begins.
use Rattle.std.proofs.Common.{◌≡◌, ℕ, ◌+◌, Bool, true, false, not, cond, eqb, ◌&&◌, List, [], ◌∷◌, length, take, drop, Option, Some, None, refl, ap, sym, ◌∙◌, subst}
use Rattle.std.specs.Prelude.{option_map, codes}
use Rattle.std.specs.List.{position_or_len}
use Rattle.std.proofs.Math.Seq.{drop-append_seam, take-append_seam}
use Rattle.std.proofs.lemmas.Bool.{eqb-true}
use Rattle.element_tree.specs.declared.token.Kind.{Kind}
use Rattle.element_tree.specs.declared.token.Kind.TheVariants.{Text, Aside, End, Start}
use Rattle.element_tree.specs.Bytes.{is_open, len_to, len_to_close}
use Rattle.element_tree.specs.Pieces.{or_end, pieces}
use Rattle.element_tree.specs.Tokens.{begins, ended, token_at, cut_token}
use Rattle.element_tree.proofs.PieceLaws.{pieces_unroll}
use Rattle.element_tree.proofs.Tokens.{token_shrinks}
use Rattle.element_tree.proofs.Wholes.{token_whole}

abbrev Token : Type 0
Token = Kind × List ℕ

-- the first token, and what follows it
pub record IsFirst (bytes : List ℕ) (t : Token) (ts : List Token) : Type 0 where
  pub cut : cut_token bytes ≡ Some (t, drop (length t.1) bytes)
  pub here : take (length t.1) bytes ≡ t.1
  pub next : pieces cut_token (drop (length t.1) bytes) ≡ (ts, [])

first_of_cut : (bytes : List ℕ) (t : Token) (ts : List Token) (r : Option (Token × List ℕ)) → cut_token bytes ≡ r → or_end bytes (pieces cut_token) r ≡ (t ∷ ts, []) → IsFirst bytes t ts
first_of_cut bytes t ts None e h = let k = ap (λ (p : List Token × List ℕ). p.0) h in absurd (cc k)
first_of_cut bytes t ts (Some x) e h =
    let whole = token_whole bytes x e in
    let all = ap (λ (p : List Token × List ℕ). p.0) h in
    let same : x.0 ≡ t = cc all in
    let more : (pieces cut_token x.1).0 ≡ ts = cc all in
    let end : (pieces cut_token x.1).1 ≡ [] = ap (λ (p : List Token × List ℕ). p.1) h in
    let rest : drop (length x.0.1) bytes ≡ x.1 = ap (λ (b : List ℕ). drop (length x.0.1) b) (sym whole) ∙ drop-append_seam x.0.1 x.1 in
    let front : take (length x.0.1) bytes ≡ x.0.1 = ap (λ (b : List ℕ). take (length x.0.1) b) (sym whole) ∙ take-append_seam x.0.1 x.1 in
    let P : Token → Type 0 = λ u. IsFirst bytes u ts in
    subst P same (record {
      cut = e ∙ ap (λ (b : List ℕ). Some (x.0, b)) (sym rest);
      here = front;
      next = ap (λ (b : List ℕ). pieces cut_token b) rest ∙ pair_of (pieces cut_token x.1) more end;
    })
  where
    pair_of : (p : List Token × List ℕ) → p.0 ≡ ts → p.1 ≡ [] → p ≡ (ts, [])
    pair_of p e h = rw (e, h) refl

pub first_token : (bytes : List ℕ) (t : Token) (ts : List Token) → pieces cut_token bytes ≡ (t ∷ ts, []) → IsFirst bytes t ts
first_token bytes t ts h = first_of_cut bytes t ts (cut_token bytes) refl (sym (pieces_unroll cut_token token_shrinks bytes) ∙ h)

-- what the kind and the length of the first token say of the bytes
abbrev pub Begins : List ℕ → Kind → ℕ → Type 0
Begins bytes Text n = n ≡ position_or_len is_open bytes
Begins bytes Aside n = (position_or_len is_open bytes ≡ 0) × (begins bytes (codes "</") ≡ false)
Begins bytes End n = (position_or_len is_open bytes ≡ 0) × (begins bytes (codes "</") ≡ true)
Begins bytes Start n = (position_or_len is_open bytes ≡ 0) × (begins bytes (codes "</") ≡ false)

-- all that a chain of tests may answer has some property
chain_has : (P : Kind × ℕ → Type 0) (x : Kind × ℕ) (b0 b1 b2 b3 b4 b5 : Bool) (text aside remark closing opening : Option (Kind × ℕ))
    → (b1 ≡ true → text ≡ Some x → P x) → (b1 ≡ false → b2 ≡ true → aside ≡ Some x → P x) → (b1 ≡ false → b4 ≡ true → remark ≡ Some x → P x)
    → (b1 ≡ false → b5 ≡ true → closing ≡ Some x → P x) → (b1 ≡ false → b5 ≡ false → opening ≡ Some x → P x)
    → cond b0 None (cond b1 text (cond b2 aside (cond b3 None (cond b4 remark (cond b5 closing opening))))) ≡ Some x → P x
chain_has P x true b1 b2 b3 b4 b5 text aside remark closing opening h1 h2 h3 h4 h5 e = absurd (cc e)
chain_has P x false true b2 b3 b4 b5 text aside remark closing opening h1 h2 h3 h4 h5 e = h1 refl e
chain_has P x false false true b3 b4 b5 text aside remark closing opening h1 h2 h3 h4 h5 e = h2 refl refl e
chain_has P x false false false true b4 b5 text aside remark closing opening h1 h2 h3 h4 h5 e = absurd (cc e)
chain_has P x false false false false true b5 text aside remark closing opening h1 h2 h3 h4 h5 e = h3 refl refl e
chain_has P x false false false false false true text aside remark closing opening h1 h2 h3 h4 h5 e = h4 refl refl e
chain_has P x false false false false false false text aside remark closing opening h1 h2 h3 h4 h5 e = h5 refl refl e

of_some : (P : Kind × ℕ → Type 0) (y x : Kind × ℕ) → P y → Some y ≡ Some x → P x
of_some P y x h e = let same : y ≡ x = cc in subst P same h

of_map : (P : Kind × ℕ → Type 0) (kind : Kind) (f : ℕ → ℕ) → ((n : ℕ) → P (kind, n)) → (o : Option ℕ) (x : Kind × ℕ) → option_map (λ len. (kind, f len)) o ≡ Some x → P x
of_map P kind f h None x e = absurd (cc e)
of_map P kind f h (Some n) x e = of_some P (kind, f n) x (h (f n)) e

of_ended : (P : Kind × ℕ → Type 0) (kind : Kind) (n : ℕ) (mark bytes : List ℕ) → ((k : ℕ) → P (kind, k)) → (x : Kind × ℕ) → ended kind n mark bytes ≡ Some x → P x
unfolding ended
of_ended P kind n mark bytes h x e = of_map P kind (λ len. n + len) h (len_to mark (drop n bytes)) x e

opens_at : (b : ℕ) (bytes : List ℕ) → not (is_open b) ≡ false → position_or_len is_open (b ∷ bytes) ≡ 0
opens_at b bytes h = rw h refl

and_off : (a b : Bool) → b ≡ false → a && b ≡ false
and_off true b h = h
and_off false b h = refl

middle : (a b c : Bool) → a && (b && c) ≡ true → b ≡ true
middle true true c h = refl
middle true false c h = absurd cc
middle false b c h = absurd cc

other_second : (b c d : ℕ) (bytes : List ℕ) → d ≡ c → eqb 47 d ≡ false → begins (b ∷ c ∷ bytes) (codes "</") ≡ false
other_second b c d bytes e h = and_off (eqb 60 b) (eqb 47 c && true) (rw (sym e, h) refl)

comment_no_end : (bytes : List ℕ) → begins bytes (codes "<!--") ≡ true → begins bytes (codes "</") ≡ false
comment_no_end [] h = absurd cc
comment_no_end (b ∷ []) h = and_off (eqb 60 b) false refl
comment_no_end (b ∷ c ∷ bytes) h = other_second b c 33 bytes (eqb-true 33 c (middle (eqb 60 b) (eqb 33 c) (begins bytes (codes "--")) h)) refl

instruction_no_end : (bytes : List ℕ) → begins bytes (codes "<?") ≡ true → begins bytes (codes "</") ≡ false
instruction_no_end [] h = absurd cc
instruction_no_end (b ∷ []) h = and_off (eqb 60 b) false refl
instruction_no_end (b ∷ c ∷ bytes) h = other_second b c 63 bytes (eqb-true 63 c (middle (eqb 60 b) (eqb 63 c) true h)) refl

none_in_none : (x : Kind × ℕ) → token_at [] ≡ Some x → ⊥
unfolding token_at
none_in_none x e = absurd cc

found_begins : (bytes : List ℕ) (x : Kind × ℕ) → token_at bytes ≡ Some x → Begins bytes x.0 x.1
unfolding token_at
found_begins [] x e = absurd (none_in_none x e)
found_begins (b ∷ bytes) x e =
    let all = b ∷ bytes in
    let P : Kind × ℕ → Type 0 = λ y. Begins all y.0 y.1 in
    chain_has P x (eqb (length all) 0) (not (is_open b)) (begins all (codes "<!--")) (begins all (codes "<!")) (begins all (codes "<?")) (begins all (codes "</"))
    (Some (Text, position_or_len is_open all)) (ended Aside 4 (codes "-->") all) (ended Aside 2 (codes "?>") all) (ended End 2 (codes ">") all) (option_map (λ len. (Start, 1 + len)) (len_to_close None bytes))
    (λ h k. of_some P (Text, position_or_len is_open all) x refl k)
    (λ h j k. of_ended P Aside 4 (codes "-->") all (λ n. (opens_at b bytes h, comment_no_end all j)) x k)
    (λ h j k. of_ended P Aside 2 (codes "?>") all (λ n. (opens_at b bytes h, instruction_no_end all j)) x k)
    (λ h j k. of_ended P End 2 (codes ">") all (λ n. (opens_at b bytes h, j)) x k)
    (λ h j k. of_map P Start (λ len. 1 + len) (λ n. (opens_at b bytes h, j)) (len_to_close None bytes) x k)
    e

found_in : (bytes : List ℕ) (o : Option (Kind × ℕ)) (x : Token × List ℕ) → token_at bytes ≡ o
    → option_map (λ u. ((u.0, take u.1 bytes), drop u.1 bytes)) o ≡ Some x → (n : ℕ) × Begins bytes x.0.0 n × (x.0.1 ≡ take n bytes) × (x.1 ≡ drop n bytes)
found_in bytes None x e h = absurd (cc h)
found_in bytes (Some u) x e h =
    let same : ((u.0, take u.1 bytes), drop u.1 bytes) ≡ x = cc h in
    let P : Token × List ℕ → Type 0 = λ y. (n : ℕ) × Begins bytes y.0.0 n × (y.0.1 ≡ take n bytes) × (y.1 ≡ drop n bytes) in
    subst P same (u.1, found_begins bytes u e, refl, refl)

-- what a token that was cut off says of the bytes
pub cut_begins : (bytes : List ℕ) (x : Token × List ℕ) → cut_token bytes ≡ Some x → (n : ℕ) × Begins bytes x.0.0 n × (x.0.1 ≡ take n bytes) × (x.1 ≡ drop n bytes)
unfolding cut_token
cut_begins bytes x e = found_in bytes (token_at bytes) x refl e
