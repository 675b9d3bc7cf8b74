-- The calls on a tree tell what its content says.
use Rattle.std.proofs.Common.{◌≡◌, ℕ, suc, ◌+◌, Bool, true, false, cond, List, [], ◌∷◌, ◌++◌, length, take, drop, get_or, Some, Ok, refl, ap, sym, ◌∙◌, append_assoc, subst, arith}
use Rattle.std.specs.Prelude.{option_map, codes, nat_eq}
use Rattle.std.specs.List.{ends_with}
use Rattle.std.proofs.Math.Seq.{drop-append_seam}
use Rattle.std.proofs.lemmas.List.{append-nil, get_or-drop, drop-drop}
use Rattle.element_tree.specs.declared.node.Node.{Node}
use Rattle.element_tree.specs.declared.token.Kind.{Kind}
use Rattle.element_tree.specs.declared.token.Kind.TheVariants.{Text, Aside, End, Start}
use Rattle.element_tree.specs.Pieces.{pieces}
use Rattle.element_tree.specs.Tokens.{begins, cut_token}
use Rattle.element_tree.specs.Tags.{attribute_at, start_tag}
use Rattle.element_tree.specs.Document.{Document}
use Rattle.element_tree.specs.Trees.{no_node, node_of, tag_of, after_tag, trim, text_before_end, text_of, siblings, children, younger}
use Rattle.element_tree.specs.Contents.{Content, nothing, text, aside, empty, element, tokens, IsProper, size, nodes, mark_len, after_mark, IsDocument}
use Rattle.element_tree.specs.Shown.{count, outer, text_alone, HasParts, Tells, IsShown, ShowsContent}
use Rattle.element_tree.proofs.Heads.{first_token}
use Rattle.element_tree.proofs.Outer.{AreLess, less_in, deeper, outer_all, nodes_count}
use Rattle.element_tree.proofs.TagLaws.{name_in, past_name, tag_name, tag_parts, slash_is_empty}
use Rattle.element_tree.proofs.TextLaws.{text_is_alone}
use Rattle.element_tree.proofs.Listings.{same_nodes}
use Rattle.element_tree.proofs.Wholes.{markup_whole}
use Rattle.element_tree.specs.Documents.{markup}
use Rattle.element_tree.specs.Bytes.{byte_order_mark}

abbrev Token : Type 0
Token = Kind × List ℕ

abbrev node : ℕ → List ℕ → ℕ → Node
node at tag depth = record { place = at; len = length tag; depth = depth }

-- the bytes are these tokens, and nothing else
abbrev Cuts : List ℕ → List Token → Type 0
Cuts bytes ts = pieces cut_token bytes ≡ (ts, [])

regroup : (bytes : List ℕ) (ts us : List Token) → ts ≡ us → Cuts bytes ts → Cuts bytes us
regroup bytes ts us e h = let P : List Token → Type 0 = λ x. Cuts bytes x in subst P e h

later : (source : List ℕ) (a b c : ℕ) (ts : List Token) → a + b ≡ c → Cuts (drop b (drop a source)) ts → Cuts (drop c source) ts
later source a b c ts e h = let P : List ℕ → Type 0 = λ x. Cuts x ts in subst P (drop-drop b a source ∙ ap (λ (k : ℕ). drop k source) e) h

next_cuts : (source : List ℕ) (at : ℕ) (t : Token) (ts : List Token) → Cuts (drop at source) (t ∷ ts) → Cuts (drop (at + length t.1) source) ts
next_cuts source at t ts h = let first = first_token (drop at source) t ts h in later source at (length t.1) (at + length t.1) ts refl first.next

same_place : (source : List ℕ) (a b : ℕ) (ts : List Token) → a ≡ b → Cuts (drop a source) ts → Cuts (drop b source) ts
same_place source a b ts e h = let P : ℕ → Type 0 = λ k. Cuts (drop k source) ts in subst P e h

-- past the bytes of some content
past : (c : Content) (source : List ℕ) (at : ℕ) (more : List Token) → Cuts (drop at source) (tokens c ++ more) → Cuts (drop (at + size c) source) more
past nothing source at more h = same_place source at (at + 0) more (omega arith) h
past (text b c) source at more h =
    same_place source (at + length b + size c) (at + (length b + size c)) more (omega arith) (past c source (at + length b) more (next_cuts source at (Text, b) (tokens c ++ more) h))
past (aside b c) source at more h =
    same_place source (at + length b + size c) (at + (length b + size c)) more (omega arith) (past c source (at + length b) more (next_cuts source at (Aside, b) (tokens c ++ more) h))
past (empty t c) source at more h =
    same_place source (at + length t + size c) (at + (length t + size c)) more (omega arith) (past c source (at + length t) more (next_cuts source at (Start, t) (tokens c ++ more) h))
past (element t inside e c) source at more h =
    let start = at + length t in
    let all = regroup (drop start source) ((tokens inside ++ (End, e) ∷ tokens c) ++ more) (tokens inside ++ (End, e) ∷ (tokens c ++ more)) (append_assoc (tokens inside) ((End, e) ∷ tokens c) more)
    (next_cuts source at (Start, t) ((tokens inside ++ (End, e) ∷ tokens c) ++ more) h) in
    let ended = next_cuts source (start + size inside) (End, e) (tokens c ++ more) (past inside source start ((End, e) ∷ (tokens c ++ more)) all) in
    same_place source (start + size inside + length e + size c) (at + (length t + size inside + length e + size c)) more (omega arith) (past c source (start + size inside + length e) more ended)

first_node : (ns : List Node) (k : ℕ) (n : Node) (more : List Node) (d : Node) → drop k ns ≡ n ∷ more → get_or ns k d ≡ n
first_node ns k n more d h =
    ap (λ (j : ℕ). get_or ns j d) (let e : k ≡ k + 0 = omega arith in e) ∙ sym (get_or-drop k ns 0 d) ∙ ap (λ (l : List Node). get_or l 0 d) h

next_nodes : (ns : List Node) (k : ℕ) (n : Node) (more : List Node) → drop k ns ≡ n ∷ more → drop (k + 1) ns ≡ more
next_nodes ns k n more h = sym (drop-drop 1 k ns) ∙ ap (λ (l : List Node). drop 1 l) h

children_are : (document : Document) (k : ℕ) (n : Node) (more : List Node) → node_of document k ≡ n → drop (k + 1) document.nodes ≡ more → children document k ≡ siblings (suc n.depth) (k + 1) more
unfolding children
children_are document k n more e h =
    ap (λ (m : Node). siblings (m.depth + 1) (k + 1) (drop (k + 1) document.nodes)) e ∙ ap (λ (l : List Node). siblings (n.depth + 1) (k + 1) l) h
    ∙ ap (λ (d : ℕ). siblings d (k + 1) more) (let q : n.depth + 1 ≡ suc n.depth = omega arith in q)

younger_are : (document : Document) (k : ℕ) (n : Node) (more : List Node) → node_of document k ≡ n → drop (k + 1) document.nodes ≡ more → younger document k ≡ siblings n.depth (k + 1) more
unfolding younger
younger_are document k n more e h = ap (λ (m : Node). siblings m.depth (k + 1) (drop (k + 1) document.nodes)) e ∙ ap (λ (l : List Node). siblings n.depth (k + 1) l) h

text_is : (document : Document) (k : ℕ) (tag rest : List ℕ) (is_empty : Bool) → tag_of document k ≡ tag → after_tag document k ≡ rest → ends_with nat_eq tag (codes "/>") ≡ is_empty
    → text_of document k ≡ cond is_empty (Some []) (text_before_end rest)
unfolding text_of
text_is document k tag rest is_empty e h s =
    ap (λ (t : List ℕ). cond (ends_with nat_eq t (codes "/>")) (Some []) (text_before_end (after_tag document k))) e
    ∙ ap (λ (b : Bool). cond b (Some []) (text_before_end (after_tag document k))) s ∙ ap (λ (r : List ℕ). cond is_empty (Some []) (text_before_end r)) h

-- what the calls tell of an element whose start tag, text, and elements are these
tells : (document : Document) (k at depth : ℕ) (tag name : List ℕ) (is_empty : Bool) (inside after : Content) (more : List Node)
    → drop k document.nodes ≡ node at tag depth ∷ more → take (length tag) (drop at document.source) ≡ tag → start_tag tag ≡ Some (name, is_empty)
    → cond is_empty (Some []) (text_before_end (drop (length tag) (drop at document.source))) ≡ option_map trim (text_alone inside)
    → siblings (suc depth) (k + 1) more ≡ outer (k + 1) inside → siblings depth (k + 1) more ≡ outer (k + 1 + count inside) after
    → Tells document k tag is_empty inside after
tells document k at depth tag name is_empty inside after more shown here form words inner outside =
    let n = node at tag depth in
    let is : node_of document k ≡ n = first_node document.nodes k n more no_node shown in
    let next = next_nodes document.nodes k n more shown in
    let tag_is : tag_of document k ≡ tag = ap (λ (m : Node). take m.len (drop m.place document.source)) is ∙ here in
    let rest_is : after_tag document k ≡ drop (length tag) (drop at document.source) = ap (λ (m : Node). drop m.len (drop m.place document.source)) is in
    let P : List ℕ → Type 0 = λ t. HasParts tag (name_in t) (pieces attribute_at (past_name t)).0 is_empty in
    record {
      tag_is = tag_is;
      name_is = form ∙ ap (λ (x : List ℕ). Some (x, is_empty)) (tag_name tag name is_empty form ∙ ap (λ (t : List ℕ). name_in t) (sym tag_is));
      attributes_are = subst P (sym tag_is) (tag_parts tag name is_empty form);
      text_is = text_is document k tag (drop (length tag) (drop at document.source)) is_empty tag_is rest_is (slash_is_empty tag name is_empty form) ∙ words;
      children_are = children_are document k n more is next ∙ inner;
      younger_are = younger_are document k n more is next ∙ outside;
    }

-- In the document this content stands: its elements from number k on, its tokens from this place on, and then nothing that lies deeper.
record Stands (document : Document) (k at depth : ℕ) (c : Content) (rest : List Node) (more : List Token) : Type 0 where
  listed : drop k document.nodes ≡ nodes at depth c ++ rest
  cut : Cuts (drop at document.source) (tokens c ++ more)
  proper : IsProper c
  less : AreLess depth rest

after_empty : (document : Document) (k at depth : ℕ) (t : List ℕ) (c : Content) (rest : List Node) (more : List Token) → Stands document k at depth (empty t c) rest more
    → Stands document (k + 1) (at + length t) depth c rest more
after_empty document k at depth t c rest more w = record {
  listed = next_nodes document.nodes k (node at t depth) (nodes (at + length t) depth c ++ rest) w.listed;
  cut = next_cuts document.source at (Start, t) (tokens c ++ more) w.cut;
  proper = w.proper.1;
  less = w.less;
}

tells_empty : (document : Document) (k at depth : ℕ) (t : List ℕ) (c : Content) (rest : List Node) (more : List Token) → Stands document k at depth (empty t c) rest more → Tells document k t true nothing c
tells_empty document k at depth t c rest more w =
    let form = w.proper.0 in
    let first = first_token (drop at document.source) (Start, t) (tokens c ++ more) w.cut in
    let following = nodes (at + length t) depth c ++ rest in
    tells document k at depth t form.0 true nothing c following w.listed first.here form.1 refl
    (outer_all nothing (suc depth) at (k + 1) following (less_in c (at + length t) depth rest w.less))
    (outer_all c depth (at + length t) (k + 1) rest w.less ∙ ap (λ (n : ℕ). outer n c) (let e : k + 1 ≡ k + 1 + 0 = omega arith in e))

-- an element with its start tag, what stands in it, and its end tag
module _ (document : Document) (k at depth : ℕ) (t : List ℕ) (inside : Content) (e : List ℕ) (c : Content) (rest : List Node) (more : List Token)
    (w : Stands document k at depth (element t inside e c) rest more) where
  abbrev place : ℕ
  place = at + length t + size inside + length e

  abbrev inner : List Node
  inner = nodes (at + length t) (suc depth) inside

  abbrev following : List Node
  following = nodes place depth c

  cut_in : (bytes : List ℕ) → Cuts bytes ((tokens inside ++ (End, e) ∷ tokens c) ++ more) → Cuts bytes (tokens inside ++ (End, e) ∷ (tokens c ++ more))
  cut_in bytes h = regroup bytes ((tokens inside ++ (End, e) ∷ tokens c) ++ more) (tokens inside ++ (End, e) ∷ (tokens c ++ more)) (append_assoc (tokens inside) ((End, e) ∷ tokens c) more) h

  inner_cuts : Cuts (drop (at + length t) document.source) (tokens inside ++ (End, e) ∷ (tokens c ++ more))
  inner_cuts = cut_in (drop (at + length t) document.source) (next_cuts document.source at (Start, t) ((tokens inside ++ (End, e) ∷ tokens c) ++ more) w.cut)

  inner_listed : drop (k + 1) document.nodes ≡ inner ++ (following ++ rest)
  inner_listed = next_nodes document.nodes k (node at t depth) ((inner ++ following) ++ rest) w.listed ∙ append_assoc inner following rest

  stands_in : Stands document (k + 1) (at + length t) (suc depth) inside (following ++ rest) ((End, e) ∷ (tokens c ++ more))
  stands_in = record { listed = inner_listed; cut = inner_cuts; proper = w.proper.1; less = less_in c place depth rest w.less }

  stands_after : Stands document (k + 1 + count inside) place depth c rest more
  stands_after = record {
    listed = sym (drop-drop (count inside) (k + 1) document.nodes) ∙ ap (λ (l : List Node). drop (count inside) l) inner_listed
        ∙ ap (λ (n : ℕ). drop n (inner ++ (following ++ rest))) (sym (nodes_count inside (at + length t) (suc depth))) ∙ drop-append_seam inner (following ++ rest);
    cut = next_cuts document.source (at + length t + size inside) (End, e) (tokens c ++ more) (past inside document.source (at + length t) ((End, e) ∷ (tokens c ++ more)) inner_cuts);
    proper = w.proper.2;
    less = w.less;
  }

  tells_element : Tells document k t false inside c
  tells_element =
      let form = w.proper.0 in
      let first = first_token (drop at document.source) (Start, t) ((tokens inside ++ (End, e) ∷ tokens c) ++ more) w.cut in
      let rest_of = drop (length t) (drop at document.source) in
      let grouped = append_assoc inner following rest in
      tells document k at depth t form.0 false inside c ((inner ++ following) ++ rest) w.listed first.here form.1
      (text_is_alone inside rest_of e (tokens c ++ more) (cut_in rest_of first.next))
      (ap (λ (l : List Node). siblings (suc depth) (k + 1) l) grouped ∙ outer_all inside (suc depth) (at + length t) (k + 1) (following ++ rest) (less_in c place depth rest w.less))
      (ap (λ (l : List Node). siblings depth (k + 1) l) grouped ∙ deeper inside depth (at + length t) (suc depth) (k + 1) (following ++ rest) (omega arith)
      ∙ outer_all c depth place (k + 1 + count inside) rest w.less)

shows : (c : Content) (document : Document) (k at depth : ℕ) (rest : List Node) (more : List Token) → Stands document k at depth c rest more → IsShown document k c
shows nothing document k at depth rest more w = tt
shows (text b c) document k at depth rest more w =
    shows c document k (at + length b) depth rest more (record { listed = w.listed; cut = next_cuts document.source at (Text, b) (tokens c ++ more) w.cut; proper = w.proper; less = w.less })
shows (aside b c) document k at depth rest more w =
    shows c document k (at + length b) depth rest more (record { listed = w.listed; cut = next_cuts document.source at (Aside, b) (tokens c ++ more) w.cut; proper = w.proper; less = w.less })
shows (empty t c) document k at depth rest more w =
    (tells_empty document k at depth t c rest more w, shows c document (k + 1) (at + length t) depth rest more (after_empty document k at depth t c rest more w))
shows (element t inside e c) document k at depth rest more w =
    let place = at + length t + size inside + length e in (
      tells_element document k at depth t inside e c rest more w,
      shows inside document (k + 1) (at + length t) (suc depth) (nodes place depth c ++ rest) ((End, e) ∷ (tokens c ++ more)) (stands_in document k at depth t inside e c rest more w),
      shows c document (k + 1 + count inside) place depth rest more (stands_after document k at depth t inside e c rest more w),
    )

unmarked : (b : Bool) (bytes : List ℕ) → drop (cond b 3 0) bytes ≡ cond b (drop 3 bytes) bytes
unmarked true bytes = refl
unmarked false bytes = refl

shown_all : (document : Document) → IsDocument (mark_len document.source) (after_mark document.source) document.nodes → ShowsContent document
unfolding ShowsContent
shown_all document d c p cut =
    let at = mark_len document.source in
    let listed : document.nodes ≡ nodes at 0 c = d.shown ∙ same_nodes d.content c d.proper p (ap (λ (x : List Token × List ℕ). x.0) (sym d.cut ∙ cut)) at in (
      ap (λ (l : List Node). length l) listed ∙ nodes_count c at 0,
      shows c document 0 at 0 [] [] (record {
        listed = listed ∙ sym (append-nil (nodes at 0 c));
        cut = regroup (drop at document.source) (tokens c) (tokens c ++ []) (sym (append-nil (tokens c)))
            (ap (λ (b : List ℕ). pieces cut_token b) (unmarked (begins document.source byte_order_mark) document.source) ∙ cut);
        proper = p;
        less = tt;
      }),
    )

-- of each document that is read the calls tell what its content says
pub document_shown : (bytes : List ℕ) (nodes : List Node) → markup bytes ≡ Ok nodes → ShowsContent (record { source = bytes; nodes = nodes })
document_shown bytes nodes e = shown_all (record { source = bytes; nodes = nodes }) (markup_whole bytes nodes e)
