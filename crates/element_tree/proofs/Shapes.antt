-- What each element that was read has: its depth, and that it lies in the root.
use Rattle.std.proofs.Common.{◌≡◌, ℕ, zero, suc, ◌+◌, ◌<◌, ◌≤◌, Bool, false, cond, not, eqb, leb, ◌&&◌, List, [], ◌∷◌, ◌++◌, length, length-append, drop, Option, Some, None, Result, Ok, Err, refl, ap, subst, arith}
use Rattle.std.specs.List.{All, list_all}
use Rattle.std.proofs.lemmas.Bool.{leb-false, ne_eqb}
use Rattle.std.proofs.lemmas.List.Elements.{All-nil, All-push, All-head, All-tail}
use Rattle.element_tree.specs.declared.node.Node.{Node}
use Rattle.element_tree.specs.declared.fault.MarkupFault.{MarkupFault}
use Rattle.element_tree.specs.declared.fault.MarkupFault.TheVariants.{Malformed, TooDeep, TooMany}
use Rattle.element_tree.specs.declared.token.Kind.{Kind}
use Rattle.element_tree.specs.declared.token.Kind.TheVariants.{Text, Aside, End, Start}
use Rattle.element_tree.specs.Bytes.{is_space}
use Rattle.element_tree.specs.Tags.{start_tag, is_end_tag}
use Rattle.element_tree.specs.State.{State}
use Rattle.element_tree.specs.Documents.{text_step, end_step, start_step, closed, opened, step_of, step}
use Rattle.element_tree.specs.Contents.{Content, nothing, text, aside, empty, element, size, nodes, roots}
use Rattle.element_tree.proofs.ContentLaws.{bind_ok, else_ok, then_ok}
use Rattle.element_tree.specs.declared.limits.TheConstants.{MAX_ELEMENTS, MAX_DEPTH}
use Rattle.reading.specs.Reading.{read_all}

abbrev is_shallow : Node → Type 0
is_shallow n = n.depth < MAX_DEPTH

abbrev is_inner : Node → Type 0
is_inner n = 1 ≤ n.depth

-- no element is too deep, all but the first lie in another, and they are not too many
pub record IsGood (ns : List Node) : Type 0 where
  pub shallow : All (λ n. n.depth < MAX_DEPTH) ns
  pub inner : All (λ n. 1 ≤ n.depth) (drop 1 ns)
  pub few : length ns ≤ MAX_ELEMENTS

pub good_start : (at : ℕ) → IsGood []
good_start at = record { shallow = All-nil is_shallow; inner = All-nil is_inner; few = omega arith }

inner_push : (ns : List Node) (n : Node) (depth : ℕ) → n.depth ≡ depth → eqb depth 0 && not (eqb (length ns) 0) ≡ false → All is_inner (drop 1 ns) → All is_inner (drop 1 (ns ++ n ∷ []))
inner_push [] n depth e h w = All-nil is_inner
inner_push (m ∷ ns) n zero e h w = let k = ne_eqb (length (m ∷ ns)) 0 (omega arith) in absurd (cc k)
inner_push (m ∷ ns) n (suc depth) e h w = All-push is_inner ns n w (omega (arith, e))

good_push : (ns : List Node) (n : Node) (depth : ℕ) → n.depth ≡ depth → eqb depth 0 && not (eqb (length ns) 0) ≡ false → leb MAX_DEPTH depth ≡ false → leb MAX_ELEMENTS (length ns) ≡ false
    → IsGood ns → IsGood (ns ++ n ∷ [])
good_push ns n depth e h k m w = record {
  shallow = All-push is_shallow ns n w.shallow (let lt = leb-false MAX_DEPTH depth k in omega (arith, e, lt));
  inner = inner_push ns n depth e h w.inner;
  few = (let lt = leb-false MAX_ELEMENTS (length ns) m in omega (arith, lt, length-append ns (n ∷ [])));
}

kept : (r : Result State MarkupFault) (v u : State) → r ≡ Ok v → r ≡ Ok u → IsGood v.nodes → IsGood u.nodes
kept r v u e h w = let same : v ≡ u = cc in subst (λ x. IsGood x.nodes) same w

good_opened : (b : List ℕ) (s u : State) (o : Option (List ℕ × Bool)) → opened b s o ≡ Ok u → IsGood s.nodes → IsGood u.nodes
good_opened b s u None e w = absurd cc
good_opened b s u (Some tag) e w =
    let n : Node = record { place = s.at; len = length b; depth = length s.unended } in
    let next : State = record s { nodes = s.nodes ++ n ∷ []; unended = cond tag.1 s.unended (tag.0 ∷ s.unended) } in
    let last : Result State MarkupFault = cond (leb MAX_ELEMENTS (length s.nodes)) (Err (TooMany s.at)) (Ok next) in
    let k = else_ok (eqb (length s.unended) 0 && not (eqb (length s.nodes) 0)) (Malformed s.at) (cond (leb MAX_DEPTH (length s.unended)) (Err (TooDeep s.at)) last) u e in
    let j = else_ok (leb MAX_DEPTH (length s.unended)) (TooDeep s.at) last u k.1 in
    let i = else_ok (leb MAX_ELEMENTS (length s.nodes)) (TooMany s.at) (Ok next) u j.1 in
    kept (Ok next) next u refl i.1 (good_push s.nodes n (length s.unended) refl k.0 j.0 i.0 w)

good_closed : (b : List ℕ) (s u : State) (names : List (List ℕ)) → closed b s names ≡ Ok u → IsGood s.nodes → IsGood u.nodes
good_closed b s u [] e w = absurd cc
good_closed b s u (name ∷ others) e w =
    let next : State = record s { unended = others } in
    let k = then_ok (is_end_tag name b) (Malformed s.at) (Ok next) u e in
    kept (Ok next) next u refl k.1 w

good_kind : (kind : Kind) (b : List ℕ) (s u : State) → step_of kind b s ≡ Ok u → IsGood s.nodes → IsGood u.nodes
unfolding text_step end_step start_step
good_kind Text b s u e w =
    let k = else_ok (eqb (length s.unended) 0 && not (list_all is_space b)) (Malformed s.at) (Ok s) u e in
    kept (Ok s) s u refl k.1 w
good_kind Aside b s u e w = kept (Ok s) s u refl e w
good_kind End b s u e w = good_closed b s u s.unended e w
good_kind Start b s u e w = good_opened b s u (start_tag b) e w

good_step : (t : Kind × List ℕ) (s u : State) → step t s ≡ Ok u → IsGood s.nodes → IsGood u.nodes
good_step t s u e w =
    let k = bind_ok (step_of t.0 t.1 s) (λ v. Ok (record v { at = s.at + length t.1 })) u e in
    let next : State = record k.0 { at = s.at + length t.1 } in
    kept (Ok next) next u refl k.2 (good_kind t.0 t.1 s k.0 k.1 w)

pub good_all : (ts : List (Kind × List ℕ)) (s u : State) → read_all step ts s ≡ Ok u → IsGood s.nodes → IsGood u.nodes
unfolding read_all
good_all [] s u e w = kept (Ok s) s u refl e w
good_all (t ∷ ts) s u e w =
    let k = bind_ok (step t s) (read_all step ts) u e in
    good_all ts k.0 u k.2 (good_step t s k.0 k.1 w)

right_part : (xs ys : List Node) → All is_inner (xs ++ ys) → All is_inner ys
right_part [] ys h = h
right_part (x ∷ xs) ys h = right_part xs ys (All-tail is_inner x (xs ++ ys) h)

no_root : (c : Content) (at : ℕ) → All is_inner (nodes at 0 c) → roots c ≡ 0
no_root nothing at h = refl
no_root (text b c) at h = no_root c (at + length b) h
no_root (aside b c) at h = no_root c (at + length b) h
no_root (empty t c) at h =
    let lt = All-head is_inner (record { place = at; len = length t; depth = 0 }) (nodes (at + length t) 0 c) h in absurd (omega (arith, lt))
no_root (element t inside e c) at h =
    let lt = All-head is_inner (record { place = at; len = length t; depth = 0 }) (nodes (at + length t) 1 inside ++ nodes (at + length t + size inside + length e) 0 c) h in
    absurd (omega (arith, lt))

pub one_root : (c : Content) (at : ℕ) → All (λ n. 1 ≤ n.depth) (drop 1 (nodes at 0 c)) → (nodes at 0 c ≡ [] → ⊥) → roots c ≡ 1
one_root nothing at h k = absurd (k refl)
one_root (text b c) at h k = one_root c (at + length b) h k
one_root (aside b c) at h k = one_root c (at + length b) h k
one_root (empty t c) at h k = ap (λ (n : ℕ). 1 + n) (no_root c (at + length t) h)
one_root (element t inside e c) at h k =
    let place = at + length t + size inside + length e in
    ap (λ (n : ℕ). 1 + n) (no_root c place (right_part (nodes (at + length t) 1 inside) (nodes place 0 c) h))
