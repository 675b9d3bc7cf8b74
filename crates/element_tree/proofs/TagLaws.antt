-- The parts of a start tag, and its end.
use Rattle.std.proofs.Common.{◌≡◌, ℕ, zero, suc, ◌+◌, ◌-◌, ◌<◌, ◌≤◌, Bool, true, false, not, cond, eqb, ltb, ◌&&◌, List, [], ◌∷◌, length, take, drop, get_or, Option, Some, None, refl, ap, sym, ◌∙◌, subst, arith, length-drop}
use Rattle.std.specs.Prelude.{codes, nat_eq}
use Rattle.std.specs.List.{position_or_len, list_any, ends_with}
use Rattle.std.specs.Str.{bytes_eq}
use Rattle.std.proofs.lemmas.Bool.{eqb-true, not-false, ltb-true}
use Rattle.std.proofs.lemmas.List.{get_or-drop, drop-drop, drop_more}
use Rattle.std.proofs.lemmas.List.Sums.{fails_before_first, passes_at_first}
use Rattle.std.proofs.lemmas.Slice.Eq.{bytes_eq-Decides}
use Rattle.element_tree.specs.Bytes.{is_start, is_name_end, is_quote, is_space, is_open, is_ink, skip_space}
use Rattle.element_tree.specs.Pieces.{◌>>?◌, or_end, pieces_within, pieces}
use Rattle.element_tree.specs.Tags.{name_at, after_byte, value_in, value_at, attribute_at, are_distinct, is_empty_at, start_tag}
use Rattle.element_tree.specs.Shown.{HasParts}
use Rattle.element_tree.proofs.Places.{position_within}
use Rattle.element_tree.proofs.Shrinks.{bound, then_some, else_some}

-- The rest stands in the bytes right after a byte that isn't `/`.
pub record Follows (bytes rest : List ℕ) : Type 0 where
  pub place : ℕ
  pub cut : drop (place + 1) bytes ≡ rest
  pub within : place < length bytes
  pub other : eqb 47 (get_or bytes place 0) ≡ false

-- the rest is an end of the bytes
abbrev pub Ends : List ℕ → List ℕ → Type 0
Ends bytes rest = (n : ℕ) × (drop n bytes ≡ rest)

ends_on : (a b c : List ℕ) → Ends a b → Ends b c → Ends a c
ends_on a b c x y = (x.0 + y.0, sym (drop-drop y.0 x.0 a) ∙ ap (λ (l : List ℕ). drop y.0 l) x.1 ∙ y.1)

ends_follow : (a b c : List ℕ) → Ends a b → Follows b c → Follows a c
ends_follow a b c x f =
    let n = x.0 in
    let len = ap (λ (l : List ℕ). length l) x.1 in
    let lt = f.within in
    record {
      place = n + f.place;
      cut = ap (λ (k : ℕ). drop k a) (let e : n + f.place + 1 ≡ n + (f.place + 1) = omega arith in e) ∙ sym (drop-drop (f.place + 1) n a) ∙ ap (λ (l : List ℕ). drop (f.place + 1) l) x.1 ∙ f.cut;
      within = omega (arith, len, lt, length-drop x.0 a);
      other = ap (λ (b : ℕ). eqb 47 b) (sym (get_or-drop n a f.place 0) ∙ ap (λ (l : List ℕ). get_or l f.place 0) x.1) ∙ f.other;
    }

follow_on : (a b c : List ℕ) → Follows a b → Follows b c → Follows a c
follow_on a b c f g = ends_follow a b c (f.place + 1, f.cut) g

-- a byte is not `/` where it has a property that `/` has not
not_slash : (p : ℕ → Bool) (b : ℕ) (t here : Bool) → p b ≡ t → p 47 ≡ not t → eqb 47 b ≡ here → here ≡ false
not_slash p b t true h k e = absurd (differs t (sym h ∙ ap p (sym (eqb-true 47 b e)) ∙ k))
  where
    differs : (t : Bool) → t ≡ not t → ⊥
    differs true e = absurd cc
    differs false e = absurd cc
not_slash p b t false h k e = refl

-- where the first n bytes have a property that `/` has not
after_run : (p : ℕ → Bool) (bytes : List ℕ) → p 47 ≡ true → 1 ≤ position_or_len p bytes → Follows bytes (drop (position_or_len p bytes) bytes)
after_run p bytes slash h =
    let n = position_or_len p bytes in
    record {
      place = n - 1;
      cut = ap (λ (k : ℕ). drop k bytes) (let e : n - 1 + 1 ≡ n = omega arith in e);
      within = omega (arith, position_within p bytes);
      other = not_slash p (get_or bytes (n - 1) 0) false (eqb 47 (get_or bytes (n - 1) 0)) (fails_before_first p bytes (n - 1) 0 (omega arith)) slash refl;
    }

parts_of : {A : Type 0} (a : A) (rest : List ℕ) (x : A × List ℕ) → Some (a, rest) ≡ Some x → (a, rest) ≡ x
parts_of a rest x e = cc

rest_of : {A : Type 0} (a : A) (rest : List ℕ) (x : A × List ℕ) → Some (a, rest) ≡ Some x → rest ≡ x.1
rest_of {A} a rest x e = ap (λ (y : A × List ℕ). y.1) (parts_of a rest x e)

name_first : (b : ℕ) (bytes : List ℕ) → is_start b ≡ true → 1 ≤ position_or_len is_name_end (b ∷ bytes)
name_first b bytes h = rw h (omega arith)

-- a name, and what follows it
pub name_parts : (bytes : List ℕ) (x : List ℕ × List ℕ) → name_at bytes ≡ Some x
    → (x.0 ≡ take (position_or_len is_name_end bytes) bytes) × (x.1 ≡ drop (position_or_len is_name_end bytes) bytes) × (1 ≤ position_or_len is_name_end bytes)
unfolding name_at
name_parts [] x e = absurd (cc e)
name_parts (b ∷ bytes) x e =
    let n = position_or_len is_name_end (b ∷ bytes) in
    let k = then_some (is_start b) (Some (take n (b ∷ bytes), drop n (b ∷ bytes))) x e in
    let same = parts_of (take n (b ∷ bytes)) (drop n (b ∷ bytes)) x k.1 in
    (ap (λ (y : List ℕ × List ℕ). y.0) (sym same), ap (λ (y : List ℕ × List ℕ). y.1) (sym same), name_first b bytes k.0)

after_name : (bytes : List ℕ) (x : List ℕ × List ℕ) → name_at bytes ≡ Some x → Follows bytes x.1
after_name bytes x e = let k = name_parts bytes x e in let P : List ℕ → Type 0 = λ r. Follows bytes r in subst P (sym k.1) (after_run is_name_end bytes refl k.2)

skip_ends : (bytes : List ℕ) → Ends bytes (skip_space bytes)
skip_ends bytes = (position_or_len is_ink bytes, refl)

byte_ends : (b : ℕ) (bytes : List ℕ) (x : List ℕ) → after_byte b bytes ≡ Some x → Ends bytes x
unfolding after_byte
byte_ends b [] x e = absurd cc
byte_ends b (c ∷ bytes) x e =
    let j = else_some (eqb (length (c ∷ bytes)) 0) (cond (eqb c b) (Some bytes) None) x e in
    let k = then_some (eqb c b) (Some bytes) x j.1 in
    let last : Some bytes ≡ Some x = k.1 in
    let same : bytes ≡ x = cc in
    (1, same)

value_follows : (q : ℕ) (bytes : List ℕ) (x : List ℕ × List ℕ) → is_quote q ≡ true → value_in q bytes ≡ Some x → Follows bytes x.1
unfolding value_in
value_follows q bytes x h e =
    let n = position_or_len (λ b. eqb b q) bytes in
    let found : Option (List ℕ × List ℕ) = Some (take n bytes, drop 1 (drop n bytes)) in
    let k = else_some (not (ltb n (length bytes))) (cond (list_any is_open (take n bytes)) None found) x e in
    let j = else_some (list_any is_open (take n bytes)) found x k.1 in
    let same = parts_of (take n bytes) (drop 1 (drop n bytes)) x j.1 in
    let lt = ltb-true n (length bytes) (not-false (ltb n (length bytes)) k.0) in
    let at = eqb-true (get_or bytes n 0) q (passes_at_first (λ b. eqb b q) bytes 0 lt) in
    record {
      place = n;
      cut = sym (drop-drop 1 n bytes) ∙ ap (λ (y : List ℕ × List ℕ). y.1) same;
      within = lt;
      other = not_slash is_quote (get_or bytes n 0) true (eqb 47 (get_or bytes n 0)) (ap is_quote at ∙ h) refl refl;
    }

value_at_follows : (bytes : List ℕ) (x : List ℕ × List ℕ) → value_at bytes ≡ Some x → Follows bytes x.1
unfolding value_at
value_at_follows bytes x e =
    let q = get_or bytes 0 0 in
    let k = then_some (is_quote q) (value_in q (drop 1 bytes)) x e in
    ends_follow bytes (drop 1 bytes) x.1 (1, refl) (value_follows q (drop 1 bytes) x k.0 k.1)

moved : (bytes a b : List ℕ) → a ≡ b → Follows bytes a → Follows bytes b
moved bytes a b e f = let P : List ℕ → Type 0 = λ r. Follows bytes r in subst P e f

attribute_follows : (bytes : List ℕ) (x : (List ℕ × List ℕ) × List ℕ) → attribute_at bytes ≡ Some x → Follows bytes x.1
unfolding attribute_at
attribute_follows bytes x e =
    let ending : List ℕ × List ℕ → List ℕ × List ℕ → Option ((List ℕ × List ℕ) × List ℕ) = λ name value. Some ((name.0, value.0), value.1) in
    let valued = λ (name : List ℕ × List ℕ) (rest : List ℕ). value_at (skip_space rest) >>? ending name in
    let named = λ (name : List ℕ × List ℕ). after_byte 61 (skip_space name.1) >>? valued name in
    let k = else_some (not (is_space (get_or bytes 0 0))) (name_at (skip_space bytes) >>? named) x e in
    let a = bound (name_at (skip_space bytes)) named x k.1 in
    let b = bound (after_byte 61 (skip_space a.0.1)) (valued a.0) x a.2 in
    let v = bound (value_at (skip_space b.0)) (ending a.0) x b.2 in
    let same = rest_of (a.0.0, v.0.0) v.0.1 x v.2 in
    let to_name : Ends bytes a.0.1 = ends_on bytes (skip_space bytes) a.0.1 (skip_ends bytes) (position_or_len is_name_end (skip_space bytes), sym (name_parts (skip_space bytes) a.0 a.1).1) in
    let to_sign : Ends bytes b.0 = ends_on bytes a.0.1 b.0 to_name (ends_on a.0.1 (skip_space a.0.1) b.0 (skip_ends a.0.1) (byte_ends 61 (skip_space a.0.1) b.0 b.1)) in
    let to_value : Follows bytes v.0.1 = ends_follow bytes (skip_space b.0) v.0.1 (ends_on bytes b.0 (skip_space b.0) to_sign (skip_ends b.0)) (value_at_follows (skip_space b.0) v.0 v.1) in
    moved bytes v.0.1 x.1 same to_value

end_follows : (tag bytes : List ℕ) (again : List ℕ → List (List ℕ × List ℕ) × List ℕ) → ((rest : List ℕ) → Follows tag rest → Follows tag (again rest).1)
    → Follows tag bytes → (r : Option ((List ℕ × List ℕ) × List ℕ)) → attribute_at bytes ≡ r → Follows tag (or_end bytes again r).1
end_follows tag bytes again h f None e = f
end_follows tag bytes again h f (Some x) e = h x.1 (follow_on tag bytes x.1 f (attribute_follows bytes x e))

within_follows : (n : ℕ) (tag bytes : List ℕ) → Follows tag bytes → Follows tag (pieces_within attribute_at n bytes).1
unfolding pieces_within
within_follows zero tag bytes f = f
within_follows (suc n) tag bytes f = end_follows tag bytes (pieces_within attribute_at n) (within_follows n tag) f (attribute_at bytes) refl

attributes_follow : (tag bytes : List ℕ) → Follows tag bytes → Follows tag (pieces attribute_at bytes).1
unfolding pieces
attributes_follow tag bytes f = within_follows (length bytes) tag bytes f

skipped : (tag bytes : List ℕ) (n : ℕ) → position_or_len is_ink bytes ≡ n → Follows tag bytes → Follows tag (skip_space bytes)
skipped tag bytes zero e f = let P : ℕ → Type 0 = λ k. Follows tag (drop k bytes) in subst P (sym e) f
skipped tag bytes (suc n) e f = follow_on tag bytes (skip_space bytes) f (after_run is_ink bytes refl (omega (arith, e)))

-- what a start tag is made of
pub record IsMade (tag name : List ℕ) (is_empty : Bool) : Type 0 where
  pub named : List ℕ × List ℕ
  pub found : name_at (drop 1 tag) ≡ Some named
  pub same : named.0 ≡ name
  pub closes : is_empty_at (pieces attribute_at named.1).1 ≡ Some is_empty

pub tag_made : (tag name : List ℕ) (is_empty : Bool) → start_tag tag ≡ Some (name, is_empty) → IsMade tag name is_empty
unfolding start_tag
tag_made tag name is_empty e =
    let closing : List ℕ × List ℕ → Bool → Option (List ℕ × Bool) = λ named empty. cond (are_distinct (pieces attribute_at named.1).0) (Some (named.0, empty)) None in
    let opening : List ℕ × List ℕ → Option (List ℕ × Bool) = λ named. is_empty_at (pieces attribute_at named.1).1 >>? closing named in
    let a = bound (name_at (drop 1 tag)) opening (name, is_empty) e in
    let b = bound (is_empty_at (pieces attribute_at a.0.1).1) (closing a.0) (name, is_empty) a.2 in
    let c = then_some (are_distinct (pieces attribute_at a.0.1).0) (Some (a.0.0, b.0)) (name, is_empty) b.2 in
    let same = some_pair (a.0.0, b.0) (name, is_empty) c.1 in
    record { named = a.0; found = a.1; same = ap (λ (x : List ℕ × Bool). x.0) same; closes = b.1 ∙ ap (λ (x : List ℕ × Bool). Some x.1) same }
  where
    some_pair : (x y : List ℕ × Bool) → Some x ≡ Some y → x ≡ y
    some_pair x y e = cc

-- which of its two ends a tag has
end_is : (one two t : Bool) → cond one (Some false) (cond two (Some true) None) ≡ Some t → cond t two one ≡ true
end_is true two true e = absurd cc
end_is true two false e = refl
end_is false true true e = refl
end_is false true false e = absurd cc
end_is false false t e = absurd cc

slash_of : (tag rest : List ℕ) (t : Bool) → Follows tag rest → cond t (bytes_eq rest (codes "/>")) (bytes_eq rest (codes ">")) ≡ true → ends_with nat_eq tag (codes "/>") ≡ t
slash_of tag rest true f h =
    let all = f.cut ∙ (bytes_eq-Decides rest (codes "/>")).0 h in
    let len = ap (λ (l : List ℕ). length l) all in
    let lt = f.within in
    let place : length tag - 2 ≡ f.place + 1 = omega (arith, len, lt, length-drop (f.place + 1) tag) in
    ap (λ (l : List ℕ). bytes_eq (codes "/>") l) (ap (λ (k : ℕ). drop k tag) place ∙ all)
slash_of tag rest false f h =
    let all = f.cut ∙ (bytes_eq-Decides rest (codes ">")).0 h in
    let len = ap (λ (l : List ℕ). length l) all in
    let lt = f.within in
    let place : length tag - 2 ≡ f.place = omega (arith, len, lt, length-drop (f.place + 1) tag) in
    let byte = get_or tag f.place 0 in
    ap (λ (l : List ℕ). bytes_eq (codes "/>") l) (ap (λ (k : ℕ). drop k tag) place ∙ drop_more tag f.place 0 lt ∙ ap (λ (l : List ℕ). byte ∷ l) all) ∙ off (eqb 47 byte) f.other
  where
    off : (b : Bool) → b ≡ false → b && true ≡ false
    off true h = h
    off false h = refl

slash_end : (tag ending : List ℕ) (is_empty : Bool) → Follows tag ending → is_empty_at ending ≡ Some is_empty → ends_with nat_eq tag (codes "/>") ≡ is_empty
unfolding is_empty_at
slash_end tag ending is_empty f e =
    let rest = skip_space ending in
    slash_of tag rest is_empty (skipped tag ending (position_or_len is_ink ending) refl f) (end_is (bytes_eq rest (codes ">")) (bytes_eq rest (codes "/>")) is_empty e)

-- a start tag ends with `/>` just where its element is empty
pub slash_is_empty : (tag name : List ℕ) (is_empty : Bool) → start_tag tag ≡ Some (name, is_empty) → ends_with nat_eq tag (codes "/>") ≡ is_empty
slash_is_empty tag name is_empty e =
    let made = tag_made tag name is_empty e in
    let from_name = after_name (drop 1 tag) made.named made.found in
    let from_tag : Follows tag made.named.1 = ends_follow tag (drop 1 tag) made.named.1 (1, refl) from_name in
    slash_end tag (pieces attribute_at made.named.1).1 is_empty (attributes_follow tag made.named.1 from_tag) made.closes

-- the name that a start tag has, and the bytes after it
abbrev pub name_in : List ℕ → List ℕ
name_in tag = take (position_or_len is_name_end (drop 1 tag)) (drop 1 tag)

abbrev pub past_name : List ℕ → List ℕ
past_name tag = drop (position_or_len is_name_end (drop 1 tag)) (drop 1 tag)

pub tag_name : (tag name : List ℕ) (is_empty : Bool) → start_tag tag ≡ Some (name, is_empty) → name ≡ name_in tag
tag_name tag name is_empty e = let made = tag_made tag name is_empty e in sym made.same ∙ (name_parts (drop 1 tag) made.named made.found).0

pub tag_parts : (tag name : List ℕ) (is_empty : Bool) → start_tag tag ≡ Some (name, is_empty) → HasParts tag (name_in tag) (pieces attribute_at (past_name tag)).0 is_empty
tag_parts tag name is_empty e =
    let made = tag_made tag name is_empty e in
    let k = name_parts (drop 1 tag) made.named made.found in
    let P : List ℕ → Type 0 = λ x. HasParts tag x (pieces attribute_at (past_name tag)).0 is_empty in
    let Q : List ℕ → Type 0 = λ x. HasParts tag made.named.0 (pieces attribute_at x).0 is_empty in
    subst P k.0 (subst Q k.1 (made.named.1, (pieces attribute_at made.named.1).1, made.found, refl, made.closes))
