-- The bytes are their tokens, joined.
use Rattle.std.proofs.Common.{◌≡◌, ℕ, zero, suc, ◌<◌, ◌≤◌, Bool, true, false, cond, not, eqb, ◌&&◌, List, [], ◌∷◌, ◌++◌, length, take, drop, Option, Some, None, Result, Ok, Err, refl, ap, sym, ◌∙◌, append_assoc, subst, arith}
use Rattle.std.specs.Prelude.{option_map}
use Rattle.std.proofs.lemmas.Bool.{ne_eqb}
use Rattle.std.proofs.lemmas.List.{append-nil, take-append-drop}
use Rattle.element_tree.specs.declared.node.Node.{Node}
use Rattle.element_tree.specs.declared.fault.MarkupFault.{MarkupFault}
use Rattle.element_tree.specs.declared.fault.MarkupFault.TheVariants.{Truncated}
use Rattle.element_tree.specs.declared.token.Kind.{Kind}
use Rattle.element_tree.specs.Pieces.{or_end, pieces_within, pieces}
use Rattle.element_tree.specs.State.{State}
use Rattle.element_tree.specs.Tokens.{begins, token_at, cut_token}
use Rattle.element_tree.specs.Documents.{cut_fault, step, finish, read_on, markup}
use Rattle.element_tree.specs.Contents.{tokens, spelling, mark_len, after_mark, IsDocument}
use Rattle.element_tree.specs.Contents.{nodes as nodes_of}
use Rattle.std.specs.List.{All}
use Rattle.element_tree.proofs.Shapes.{good_start, good_all, one_root}
use Rattle.element_tree.proofs.ContentLaws.{all_back, bind_ok, else_ok, then_ok}
use Rattle.element_tree.specs.declared.limits.TheConstants.{MAX_ELEMENTS, MAX_DEPTH}
use Rattle.reading.specs.Reading.{read_all}
use Rattle.element_tree.specs.Bytes.{byte_order_mark}

whole_of : (bytes : List ℕ) (o : Option (Kind × ℕ)) (x : (Kind × List ℕ) × List ℕ) → option_map (λ t. ((t.0, take t.1 bytes), drop t.1 bytes)) o ≡ Some x → x.0.1 ++ x.1 ≡ bytes
whole_of bytes None x e = absurd cc
whole_of bytes (Some t) x e =
    let same : ((t.0, take t.1 bytes), drop t.1 bytes) ≡ x = cc in
    ap (λ (y : (Kind × List ℕ) × List ℕ). y.0.1 ++ y.1) (sym same) ∙ take-append-drop t.1 bytes

pub token_whole : (bytes : List ℕ) (x : (Kind × List ℕ) × List ℕ) → cut_token bytes ≡ Some x → x.0.1 ++ x.1 ≡ bytes
unfolding cut_token
token_whole bytes x e = whole_of bytes (token_at bytes) x e

joined : (bytes : List ℕ) (again : List ℕ → List (Kind × List ℕ) × List ℕ) → ((rest : List ℕ) → spelling (again rest).0 ++ (again rest).1 ≡ rest)
    → (r : Option ((Kind × List ℕ) × List ℕ)) → cut_token bytes ≡ r → spelling (or_end bytes again r).0 ++ (or_end bytes again r).1 ≡ bytes
joined bytes again h None e = refl
joined bytes again h (Some x) e =
    append_assoc x.0.1 (spelling (again x.1).0) (again x.1).1 ∙ ap (λ (y : List ℕ). x.0.1 ++ y) (h x.1) ∙ token_whole bytes x e

within_whole : (n : ℕ) (bytes : List ℕ) → spelling (pieces_within cut_token n bytes).0 ++ (pieces_within cut_token n bytes).1 ≡ bytes
unfolding pieces_within
within_whole zero bytes = refl
within_whole (suc n) bytes = joined bytes (pieces_within cut_token n) (within_whole n) (cut_token bytes) refl

pub tokens_whole : (bytes : List ℕ) → spelling (pieces cut_token bytes).0 ++ (pieces cut_token bytes).1 ≡ bytes
unfolding pieces
tokens_whole bytes = within_whole (length bytes) bytes

nothing_left : {X : Type 0} (xs : List X) → not (eqb (length xs) 0) ≡ false → xs ≡ []
nothing_left [] e = refl
nothing_left (x ∷ xs) e = let k = ne_eqb (length (x ∷ xs)) 0 (omega arith) in absurd (cc k)

none_left : {X : Type 0} (xs : List X) (b : Bool) → eqb (length xs) 0 && b ≡ true → xs ≡ []
none_left [] b e = refl
none_left (x ∷ xs) b e = let k = ne_eqb (length (x ∷ xs)) 0 (omega arith) in absurd (cc k)

some_left : {X : Type 0} (xs : List X) (b : Bool) → b && not (eqb (length xs) 0) ≡ true → xs ≡ [] → ⊥
some_left [] true e z = absurd cc
some_left [] false e z = absurd cc
some_left (x ∷ xs) b e z = absurd cc

finished : (rest : List ℕ) (u : State) (nodes : List Node) → finish rest u ≡ Ok nodes → (rest ≡ []) × (u.unended ≡ []) × (u.nodes ≡ nodes) × (u.nodes ≡ [] → ⊥)
unfolding finish
finished rest u nodes e =
    let last : Result (List Node) MarkupFault = cond (eqb (length u.unended) 0 && not (eqb (length u.nodes) 0)) (Ok u.nodes) (Err (Truncated u.at)) in
    let k = else_ok (not (eqb (length rest) 0)) (cut_fault u.at rest) last nodes e in
    let j = then_ok (eqb (length u.unended) 0 && not (eqb (length u.nodes) 0)) (Truncated u.at) (Ok u.nodes) nodes k.1 in
    (nothing_left rest k.0, none_left u.unended (not (eqb (length u.nodes) 0)) j.0, same_nodes (Ok u.nodes) u.nodes nodes refl j.1, some_left u.nodes (eqb (length u.unended) 0) j.0)
  where
    same_nodes : (r : Result (List Node) MarkupFault) (x y : List Node) → r ≡ Ok x → r ≡ Ok y → x ≡ y
    same_nodes r x y e f = cc

read_whole : (bytes : List ℕ) (at : ℕ) (nodes : List Node) → read_on bytes (record { at = at; nodes = []; unended = [] }) ≡ Ok nodes → IsDocument at bytes nodes
unfolding read_on
read_whole bytes at nodes e =
    let start : State = record { at = at; nodes = []; unended = [] } in
    let k = bind_ok (read_all step (pieces cut_token bytes).0 start) (finish (pieces cut_token bytes).1) nodes e in
    let f = finished (pieces cut_token bytes).1 k.0 nodes k.2 in
    let v = all_back (pieces cut_token bytes).0 start k.0 k.1 f.1 in
    let w = v.2 in
    let good = good_all (pieces cut_token bytes).0 start k.0 k.1 (good_start at) in
    let shown : nodes ≡ nodes_of at 0 w.0 = sym f.2 ∙ v.1 ∙ w.3 in
    record {
      content = w.0;
      proper = w.1;
      cut = pair_of (pieces cut_token bytes) (tokens w.0) w.2 f.0;
      whole = ap (λ (ts : List (Kind × List ℕ)). spelling ts) (sym w.2) ∙ sym (append-nil (spelling (pieces cut_token bytes).0))
          ∙ ap (λ (r : List ℕ). spelling (pieces cut_token bytes).0 ++ r) (sym f.0) ∙ tokens_whole bytes;
      shown = shown;
      blank = w.4;
      root = one_root w.0 at (subst (λ ns. All (λ n. 1 ≤ n.depth) (drop 1 ns)) (v.1 ∙ w.3) good.inner) (λ e. f.3 (v.1 ∙ w.3 ∙ e));
      shallow = subst (λ ns. All (λ n. n.depth < MAX_DEPTH) ns) f.2 good.shallow;
      few = subst (λ ns. length ns ≤ MAX_ELEMENTS) f.2 good.few;
    }
  where
    pair_of : (p : List (Kind × List ℕ) × List ℕ) (ts : List (Kind × List ℕ)) → p.0 ≡ ts → p.1 ≡ [] → p ≡ (ts, [])
    pair_of p ts e h = rw (e, h) refl

marked : (b : Bool) (bytes rest : List ℕ) (nodes : List Node)
    → cond b (read_on rest (record { at = 3; nodes = []; unended = [] })) (read_on bytes (record { at = 0; nodes = []; unended = [] })) ≡ Ok nodes → IsDocument (cond b 3 0) (cond b rest bytes) nodes
marked true bytes rest nodes e = read_whole rest 3 nodes e
marked false bytes rest nodes e = read_whole bytes 0 nodes e

-- an accepted document is the tokens of some content, joined, and the elements are its elements
pub markup_whole : (bytes : List ℕ) (nodes : List Node) → markup bytes ≡ Ok nodes → IsDocument (mark_len bytes) (after_mark bytes) nodes
unfolding markup
markup_whole bytes nodes e = marked (begins bytes byte_order_mark) bytes (drop 3 bytes) nodes e
