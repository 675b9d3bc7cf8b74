-- Attributes and tokens are not empty.
use Rattle.std.proofs.Common.{◌≡◌, ℕ, ◌<◌, ◌≤◌, Bool, true, false, not, cond, eqb, List, [], ◌∷◌, length, take, drop, get_or, Option, Some, None, refl, ap, arith, length-drop, ltb}
use Rattle.std.specs.List.{position_or_len, list_any}
use Rattle.element_tree.specs.Bytes.{is_start, is_name_end, is_quote, is_space, is_open, is_ink, skip_space}
use Rattle.element_tree.specs.Pieces.{◌>>?◌}
use Rattle.element_tree.specs.Tags.{name_at, after_byte, value_in, value_at, attribute_at}
use Rattle.element_tree.proofs.PieceLaws.{Shrinks}

pub bound : {A B : Type 0} (o : Option A) (f : A → Option B) (y : B) → (o >>? f) ≡ Some y → (x : A) × (o ≡ Some x) × (f x ≡ Some y)
bound (Some x) f y e = (x, refl, e)
bound None f y e = absurd cc

pub then_some : {B : Type 0} (b : Bool) (x : Option B) (y : B) → cond b x None ≡ Some y → (b ≡ true) × (x ≡ Some y)
then_some true x y e = (refl, e)
then_some false x y e = absurd cc

pub else_some : {B : Type 0} (b : Bool) (x : Option B) (y : B) → cond b None x ≡ Some y → (b ≡ false) × (x ≡ Some y)
else_some true x y e = absurd cc
else_some false x y e = (refl, e)

rest_of : {A : Type 0} (a : A) (rest : List ℕ) (x : A × List ℕ) → Some (a, rest) ≡ Some x → length rest ≡ length x.1
rest_of a rest x e = let same : rest ≡ x.1 = cc in ap (λ (xs : List ℕ). length xs) same

pub name_shrinks : (bytes : List ℕ) (x : List ℕ × List ℕ) → name_at bytes ≡ Some x → length x.1 ≤ length bytes
unfolding name_at
name_shrinks bytes x e =
    let n = position_or_len is_name_end bytes in
    let k = then_some (is_start (get_or bytes 0 0)) (Some (take n bytes, drop n bytes)) x e in
    let r = rest_of (take n bytes) (drop n bytes) x k.1 in
    omega (arith, r, length-drop (position_or_len is_name_end bytes) bytes)

byte_shrinks : (b : ℕ) (bytes : List ℕ) (x : List ℕ) → after_byte b bytes ≡ Some x → length x < length bytes
unfolding after_byte
byte_shrinks b [] x e = absurd cc
byte_shrinks b (c ∷ bytes) x e =
    let j = else_some (eqb (length (c ∷ bytes)) 0) (cond (eqb c b) (Some bytes) None) x e in
    let k = then_some (eqb c b) (Some bytes) x j.1 in
    let last : Some bytes ≡ Some x = k.1 in
    let same : bytes ≡ x = cc in
    let r = ap (λ (xs : List ℕ). length xs) same in omega (arith, r)

value_in_shrinks : (q : ℕ) (bytes : List ℕ) (x : List ℕ × List ℕ) → value_in q bytes ≡ Some x → length x.1 ≤ length bytes
unfolding value_in
value_in_shrinks q bytes x e =
    let n = position_or_len (λ b. eqb b q) bytes in
    let found : Option (List ℕ × List ℕ) = Some (take n bytes, drop 1 (drop n bytes)) in
    let k = else_some (not (ltb n (length bytes))) (cond (list_any is_open (take n bytes)) None found) x e in
    let j = else_some (list_any is_open (take n bytes)) found x k.1 in
    let r = rest_of (take n bytes) (drop 1 (drop n bytes)) x j.1 in
    omega (arith, r, length-drop (position_or_len (λ b. eqb b q) bytes) bytes, length-drop 1 (drop (position_or_len (λ b. eqb b q) bytes) bytes))

value_shrinks : (bytes : List ℕ) (x : List ℕ × List ℕ) → value_at bytes ≡ Some x → length x.1 ≤ length bytes
unfolding value_at
value_shrinks bytes x e =
    let q = get_or bytes 0 0 in
    let k = then_some (is_quote q) (value_in q (drop 1 bytes)) x e in
    let v = value_in_shrinks q (drop 1 bytes) x k.1 in
    omega (arith, v, length-drop 1 bytes)

skip_le : (bytes : List ℕ) → length (skip_space bytes) ≤ length bytes
skip_le bytes = omega (arith, length-drop (position_or_len is_ink bytes) bytes)

pub attribute_shrinks : Shrinks attribute_at
unfolding attribute_at
attribute_shrinks bytes x e =
    let ending : List ℕ × List ℕ → List ℕ × List ℕ → Option ((List ℕ × List ℕ) × List ℕ) = λ name value. Some ((name.0, value.0), value.1) in
    let valued = λ (name : List ℕ × List ℕ) (rest : List ℕ). value_at (skip_space rest) >>? ending name in
    let named = λ (name : List ℕ × List ℕ). after_byte 61 (skip_space name.1) >>? valued name in
    let k = else_some (not (is_space (get_or bytes 0 0))) (name_at (skip_space bytes) >>? named) x e in
    let a = bound (name_at (skip_space bytes)) named x k.1 in
    let b = bound (after_byte 61 (skip_space a.0.1)) (valued a.0) x a.2 in
    let v = bound (value_at (skip_space b.0)) (ending a.0) x b.2 in
    let r = rest_of (a.0.0, v.0.0) v.0.1 x v.2 in
    let l1 = name_shrinks (skip_space bytes) a.0 a.1 in
    let l2 = byte_shrinks 61 (skip_space a.0.1) b.0 b.1 in
    let l3 = value_shrinks (skip_space b.0) v.0 v.1 in
    omega (arith, r, l1, l2, l3, skip_le bytes, skip_le a.0.1, skip_le b.0)

-- what stands before a byte that doesn't begin the bytes
pub text_len : (b : ℕ) (bytes : List ℕ) → is_open b ≡ false → 1 ≤ position_or_len is_open (b ∷ bytes)
text_len b bytes e = rw e (omega arith)
