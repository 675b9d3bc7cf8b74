-- A document is read without a fault.
use Rattle.std.specs.Bool.{OnFalse}
use Rattle.std.proofs.Common.{◌≡◌, ℕ, suc, ◌+◌, ◌<◌, ◌≤◌, Bool, true, false, cond, not, eqb, leb, ◌&&◌, List, [], ◌∷◌, ◌++◌, length, length-append, drop, Some, Result, Ok, Err, refl, ap, sym, ◌∙◌, append_assoc, subst, arith}
use Rattle.std.specs.List.{All, list_all}
use Rattle.std.proofs.lemmas.Bool.{lt-leb, ne_eqb}
use Rattle.std.proofs.lemmas.List.{append-nil}
use Rattle.std.proofs.lemmas.List.Elements.{All-nil, All-cons, All-head, All-tail}
use Rattle.element_tree.specs.declared.node.Node.{Node}
use Rattle.element_tree.specs.declared.fault.MarkupFault.{MarkupFault}
use Rattle.element_tree.specs.declared.token.Kind.{Kind}
use Rattle.element_tree.specs.declared.token.Kind.TheVariants.{Text, Aside, End, Start}
use Rattle.element_tree.specs.Bytes.{is_space, byte_order_mark}
use Rattle.reading.specs.Reading.{◌>>=◌, read_all}
use Rattle.element_tree.specs.State.{State}
use Rattle.element_tree.specs.Tags.{start_tag, is_end_tag}
use Rattle.element_tree.specs.Tokens.{begins}
use Rattle.element_tree.specs.Documents.{text_step, end_step, start_step, step, finish, read_on, markup}
use Rattle.element_tree.specs.Contents.{Content, nothing, text, aside, empty, element, tokens, size, nodes, IsProper, IsBlank, roots, mark_len, after_mark, IsDocument, IsNoDocument}
use Rattle.element_tree.specs.declared.limits.TheConstants.{MAX_ELEMENTS, MAX_DEPTH}
use Rattle.element_tree.proofs.ContentLaws.{not_both}

abbrev Token : Type 0
Token = Kind × List ℕ

abbrev is_shallow : Node → Type 0
is_shallow n = n.depth < MAX_DEPTH

abbrev read : ℕ → List Node → List (List ℕ) → State
read at ns names = record { at = at; nodes = ns; unended = names }

abbrev node : ℕ → List ℕ → ℕ → Node
node at tag depth = record { place = at; len = length tag; depth = depth }

text_on : (b : List ℕ) (at : ℕ) (ns : List Node) (names : List (List ℕ)) → eqb (length names) 0 && not (list_all is_space b) ≡ false
    → step (Text, b) (read at ns names) ≡ Ok (read (at + length b) ns names)
unfolding text_step
text_on b at ns names h = rw h refl

end_on : (e name : List ℕ) (at : ℕ) (ns : List Node) (names : List (List ℕ)) → is_end_tag name e ≡ true
    → step (End, e) (read at ns (name ∷ names)) ≡ Ok (read (at + length e) ns names)
unfolding end_step
end_on e name at ns names h = rw h refl

start_on : (tag name : List ℕ) (v : Bool) (at : ℕ) (ns : List Node) (names : List (List ℕ)) → start_tag tag ≡ Some (name, v)
    → eqb (length names) 0 && not (eqb (length ns) 0) ≡ false → leb MAX_DEPTH (length names) ≡ false → leb MAX_ELEMENTS (length ns) ≡ false
    → step (Start, tag) (read at ns names) ≡ Ok (read (at + length tag) (ns ++ node at tag (length names) ∷ []) (cond v names (name ∷ names)))
unfolding start_step
start_on tag name v at ns names h k j i = rw (h, k, j, i) refl

run_on : (t : Token) (ts : List Token) (s u : State) → step t s ≡ Ok u → read_all step (t ∷ ts) s ≡ read_all step ts u
unfolding read_all
run_on t ts s u e = rw e refl

blank_test : (names : List (List ℕ)) (p : Bool) → (names ≡ [] → p ≡ true) → eqb (length names) 0 && not p ≡ false
blank_test [] p h = rw (h refl) refl
blank_test (m ∷ names) p h = rw (ne_eqb (length (m ∷ names)) 0 (omega arith)) refl

root_test : (names : List (List ℕ)) (ns : List Node) (r : ℕ) → (names ≡ [] → (1 ≤ length ns → 1 + r ≡ 0) × (1 + r ≤ 1)) → eqb (length names) 0 && not (eqb (length ns) 0) ≡ false
root_test [] [] r h = refl
root_test [] (n ∷ ns) r h = let k = (h refl).0 (omega arith) in absurd (omega (arith, k))
root_test (m ∷ names) ns r h = rw (ne_eqb (length (m ∷ names)) 0 (omega arith)) refl

left_part : (xs ys : List Node) → All is_shallow (xs ++ ys) → All is_shallow xs
left_part [] ys h = All-nil is_shallow
left_part (x ∷ xs) ys h = All-cons is_shallow x xs (All-head is_shallow x (xs ++ ys) h) (left_part xs ys (All-tail is_shallow x (xs ++ ys) h))

right_part : (xs ys : List Node) → All is_shallow (xs ++ ys) → All is_shallow ys
right_part [] ys h = h
right_part (x ∷ xs) ys h = right_part xs ys (All-tail is_shallow x (xs ++ ys) h)

-- content that may follow what was read
record Fits (at : ℕ) (ns : List Node) (names : List (List ℕ)) (c : Content) : Type 0 where
  proper : IsProper c
  shallow : All is_shallow (nodes at (length names) c)
  few : length ns + length (nodes at (length names) c) ≤ MAX_ELEMENTS
  blank : names ≡ [] → IsBlank c
  root : names ≡ [] → (1 ≤ length ns → roots c ≡ 0) × (roots c ≤ 1)

abbrev Reads : ℕ → List Node → List (List ℕ) → Content → Type 0
Reads at ns names c = (more : List Token) → read_all step (tokens c ++ more) (read at ns names) ≡ read_all step more (read (at + size c) (ns ++ nodes at (length names) c) names)

arrive : (more : List Token) (a b : ℕ) (ns ms : List Node) (names : List (List ℕ)) → a ≡ b → ns ≡ ms → read_all step more (read a ns names) ≡ read_all step more (read b ms names)
arrive more a b ns ms names e h = rw (e, h) refl

-- one element's node before those of what follows
step_in : (tag : List ℕ) (at : ℕ) (ns : List Node) (names : List (List ℕ)) (r : ℕ) (rest : List Node)
    → All is_shallow (node at tag (length names) ∷ rest) → length ns + length (node at tag (length names) ∷ rest) ≤ MAX_ELEMENTS
    → (names ≡ [] → (1 ≤ length ns → 1 + r ≡ 0) × (1 + r ≤ 1))
    → (name : List ℕ) (v : Bool) → start_tag tag ≡ Some (name, v)
    → step (Start, tag) (read at ns names) ≡ Ok (read (at + length tag) (ns ++ node at tag (length names) ∷ []) (cond v names (name ∷ names)))
step_in tag at ns names r rest h k g name v e =
    let n = node at tag (length names) in
    let lt : length names < MAX_DEPTH = All-head is_shallow n rest h in
    start_on tag name v at ns names e (root_test names ns r g) (lt-leb MAX_DEPTH (length names) lt) (lt-leb MAX_ELEMENTS (length ns) (omega (arith, k)))

after_root : (ns : List Node) (n : Node) (more : List Node) (names : List (List ℕ)) (r : ℕ)
    → (names ≡ [] → (1 ≤ length ns → 1 + r ≡ 0) × (1 + r ≤ 1)) → names ≡ [] → (1 ≤ length more → r ≡ 0) × (r ≤ 1)
after_root ns n more names r g z = let k = (g z).1 in (λ h. omega (arith, k), omega (arith, k))

reads : (c : Content) (at : ℕ) (ns : List Node) (names : List (List ℕ)) → Fits at ns names c → Reads at ns names c
reads nothing at ns names w more = arrive more at (at + 0) ns (ns ++ []) names (omega arith) (sym (append-nil ns))
reads (text b c) at ns names w more =
    let test = blank_test names (list_all is_space b) (λ z. (w.blank z).0) in
    let fits : Fits (at + length b) ns names c = record { proper = w.proper; shallow = w.shallow; few = w.few; blank = λ z. (w.blank z).1; root = w.root } in
    run_on (Text, b) (tokens c ++ more) (read at ns names) (read (at + length b) ns names) (text_on b at ns names test)
    ∙ reads c (at + length b) ns names fits more
    ∙ arrive more (at + length b + size c) (at + (length b + size c)) (ns ++ nodes (at + length b) (length names) c) (ns ++ nodes (at + length b) (length names) c) names (omega arith) refl
reads (aside b c) at ns names w more =
    let fits : Fits (at + length b) ns names c = record { proper = w.proper; shallow = w.shallow; few = w.few; blank = w.blank; root = w.root } in
    run_on (Aside, b) (tokens c ++ more) (read at ns names) (read (at + length b) ns names) refl
    ∙ reads c (at + length b) ns names fits more
    ∙ arrive more (at + length b + size c) (at + (length b + size c)) (ns ++ nodes (at + length b) (length names) c) (ns ++ nodes (at + length b) (length names) c) names (omega arith) refl
reads (empty tag c) at ns names w more =
    let n = node at tag (length names) in
    let rest = nodes (at + length tag) (length names) c in
    let p = w.proper in
    let fits : Fits (at + length tag) (ns ++ n ∷ []) names c = record {
      proper = p.1;
      shallow = All-tail is_shallow n rest w.shallow;
      few = (let k = w.few in omega (arith, k, length-append ns (n ∷ [])));
      blank = w.blank;
      root = after_root ns n (ns ++ n ∷ []) names (roots c) w.root;
    } in
    run_on (Start, tag) (tokens c ++ more) (read at ns names) (read (at + length tag) (ns ++ n ∷ []) names) (step_in tag at ns names (roots c) rest w.shallow w.few w.root p.0.0 true p.0.1)
    ∙ reads c (at + length tag) (ns ++ n ∷ []) names fits more
    ∙ arrive more (at + length tag + size c) (at + (length tag + size c)) ((ns ++ n ∷ []) ++ rest) (ns ++ n ∷ rest) names (omega arith) (append_assoc ns (n ∷ []) rest)
reads (element tag inside e c) at ns names w more =
    let n = node at tag (length names) in
    let p = w.proper in
    let name = p.0.0 in
    let place = at + length tag + size inside + length e in
    let inner = nodes (at + length tag) (suc (length names)) inside in
    let rest = nodes place (length names) c in
    let all = All-tail is_shallow n (inner ++ rest) w.shallow in
    let ms = ns ++ n ∷ [] in
    let k = w.few in
    let inward : Fits (at + length tag) ms (name ∷ names) inside = record {
      proper = p.1;
      shallow = left_part inner rest all;
      few = omega (arith, k, length-append ns (n ∷ []), length-append inner rest);
      blank = λ z. absurd cc;
      root = λ z. absurd cc;
    } in
    let onward : Fits place (ms ++ inner) names c = record {
      proper = p.2;
      shallow = right_part inner rest all;
      few = omega (arith, k, length-append ns (n ∷ []), length-append inner rest, length-append ms inner);
      blank = w.blank;
      root = after_root ns n (ms ++ inner) names (roots c) w.root;
    } in
    run_on (Start, tag) ((tokens inside ++ (End, e) ∷ tokens c) ++ more) (read at ns names) (read (at + length tag) ms (name ∷ names))
    (step_in tag at ns names (roots c) (inner ++ rest) w.shallow w.few w.root name false p.0.1)
    ∙ ap (λ (ts : List Token). read_all step ts (read (at + length tag) ms (name ∷ names))) (append_assoc (tokens inside) ((End, e) ∷ tokens c) more)
    ∙ reads inside (at + length tag) ms (name ∷ names) inward ((End, e) ∷ (tokens c ++ more))
    ∙ run_on (End, e) (tokens c ++ more) (read (at + length tag + size inside) (ms ++ inner) (name ∷ names)) (read place (ms ++ inner) names) (end_on e name (at + length tag + size inside) (ms ++ inner) names p.0.2)
    ∙ reads c place (ms ++ inner) names onward more
    ∙ arrive more (place + size c) (at + (length tag + size inside + length e + size c)) ((ms ++ inner) ++ rest) (ns ++ n ∷ (inner ++ rest)) names (omega arith)
    (append_assoc ms inner rest ∙ append_assoc ns (n ∷ []) (inner ++ rest))

has_node : (c : Content) (at : ℕ) → roots c ≡ 1 → eqb (length (nodes at 0 c)) 0 ≡ false
has_node nothing at e = absurd (omega (arith, e))
has_node (text b c) at e = has_node c (at + length b) e
has_node (aside b c) at e = has_node c (at + length b) e
has_node (empty tag c) at e = ne_eqb (length (nodes at 0 (empty tag c))) 0 (omega arith)
has_node (element tag inside ending c) at e = ne_eqb (length (nodes at 0 (element tag inside ending c))) 0 (omega arith)

finish_on : (at : ℕ) (ns : List Node) → eqb (length ns) 0 ≡ false → finish [] (read at ns []) ≡ Ok ns
unfolding finish
finish_on at ns e = rw e refl

to_end : (c : Content) (at : ℕ) → read_all step (tokens c ++ []) (read at [] []) ≡ read_all step [] (read (at + size c) (nodes at 0 c) []) → roots c ≡ 1
    → (read_all step (tokens c) (read at [] []) >>= finish []) ≡ Ok (nodes at 0 c)
unfolding read_all
to_end c at e h =
    ap (λ (ts : List Token). read_all step ts (read at [] []) >>= finish []) (sym (append-nil (tokens c))) ∙ rw e (finish_on (at + size c) (nodes at 0 c) (has_node c at h))

accepted : (at : ℕ) (bytes : List ℕ) (elements : List Node) → IsDocument at bytes elements → read_on bytes (read at [] []) ≡ Ok elements
unfolding read_on
accepted at bytes elements w =
    let c = w.content in
    let ok : List Node → Result (List Node) MarkupFault = λ ns. Ok ns in
    let fits : Fits at [] [] c = record {
      proper = w.proper;
      shallow = subst (λ ns. All is_shallow ns) w.shown w.shallow;
      few = (let k : length (nodes at 0 c) ≤ MAX_ELEMENTS = subst (λ ns. length ns ≤ MAX_ELEMENTS) w.shown w.few in omega (arith, k));
      blank = λ z. w.blank;
      root = λ z. (λ h. absurd (omega (arith, h)), (let k = w.root in omega (arith, k)));
    } in
    ap (λ (p : List Token × List ℕ). read_all step p.0 (read at [] []) >>= finish p.1) w.cut
    ∙ to_end c at (reads c at [] [] fits []) w.root ∙ ap ok (sym w.shown)

marked : (b : Bool) (bytes rest : List ℕ) (elements : List Node) → IsDocument (cond b 3 0) (cond b rest bytes) elements
    → cond b (read_on rest (read 3 [] [])) (read_on bytes (read 0 [] [])) ≡ Ok elements
marked true bytes rest elements w = accepted 3 rest elements w
marked false bytes rest elements w = accepted 0 bytes elements w

-- each document is read, with its elements
pub document_read : (bytes : List ℕ) (elements : List Node) → IsDocument (mark_len bytes) (after_mark bytes) elements → markup bytes ≡ Ok elements
unfolding markup
document_read bytes elements w = marked (begins bytes byte_order_mark) bytes (drop 3 bytes) elements w

-- no document is refused
pub none_refused : (bytes : List ℕ) (f : MarkupFault) (b : Bool) → OnFalse b (markup bytes ≡ Err f) → OnFalse b (IsNoDocument (mark_len bytes) (after_mark bytes))
none_refused bytes f true h = tt
none_refused bytes f false h = λ elements w. not_both (markup bytes) elements f (document_read bytes elements w) h
