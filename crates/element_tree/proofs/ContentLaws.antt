-- Tokens that are read without a fault are those of some content.
use Rattle.std.proofs.Common.{◌≡◌, ℕ, ◌+◌, Bool, true, false, cond, ◌&&◌, List, [], ◌∷◌, ◌++◌, length, Option, Some, None, Result, Ok, Err, refl, ap, sym, ◌∙◌, append_assoc, subst, not, eqb, leb, suc, arith}
use Rattle.std.proofs.lemmas.List.{append-nil}
use Rattle.std.specs.List.{list_all}
use Rattle.element_tree.specs.declared.node.Node.{Node}
use Rattle.element_tree.specs.declared.fault.MarkupFault.{MarkupFault}
use Rattle.element_tree.specs.declared.fault.MarkupFault.TheVariants.{Malformed, TooDeep, TooMany}
use Rattle.element_tree.specs.declared.token.Kind.{Kind}
use Rattle.element_tree.specs.declared.token.Kind.TheVariants.{Text, Aside, End, Start}
use Rattle.element_tree.specs.Bytes.{is_space}
use Rattle.reading.specs.Reading.{◌>>=◌, read_all}
use Rattle.element_tree.specs.Tags.{start_tag, is_end_tag}
use Rattle.element_tree.specs.State.{State}
use Rattle.element_tree.specs.Documents.{text_step, end_step, start_step, closed, opened, step_of, step}
use Rattle.element_tree.specs.Contents.{Content, nothing, text, aside, empty, element, tokens, size, nodes, IsProper, IsBlank}
use Rattle.element_tree.specs.declared.limits.TheConstants.{MAX_ELEMENTS, MAX_DEPTH}

abbrev Token : Type 0
Token = Kind × List ℕ

-- The rest of a document inside these elements: what is left of each, its end tag, and what follows. The elements that are still to come are these.
abbrev pub Closes : ℕ → List (List ℕ) → List Token → List Node → Type 0
Closes at [] ts ns = (c : Content) × IsProper c × (ts ≡ tokens c) × (ns ≡ nodes at 0 c) × IsBlank c
Closes at (name ∷ names) ts ns =
    (c : Content) × (e : List ℕ) × (rest : List Token) × (more : List Node) × IsProper c × (is_end_tag name e ≡ true)
    × (ts ≡ tokens c ++ (End, e) ∷ rest) × (ns ≡ nodes at (suc (length names)) c ++ more) × Closes (at + size c + length e) names rest more

moved : (a b : ℕ) (names : List (List ℕ)) (ts : List Token) (ns : List Node) → a ≡ b → Closes a names ts ns → Closes b names ts ns
moved a b names ts ns e w = let P : ℕ → Type 0 = λ n. Closes n names ts ns in subst P e w

front : (f : Content → Content) (t : Token) (fs : List Node) (at : ℕ) → ((c : Content) → IsProper c → IsProper (f c)) → ((c : Content) → tokens (f c) ≡ t ∷ tokens c)
    → ((c : Content) → size (f c) ≡ length t.1 + size c)
    → (names : List (List ℕ)) → ((c : Content) → nodes at (length names) (f c) ≡ fs ++ nodes (at + length t.1) (length names) c)
    → (names ≡ [] → (c : Content) → IsBlank c → IsBlank (f c))
    → (ts : List Token) (ns : List Node) → Closes (at + length t.1) names ts ns → Closes at names (t ∷ ts) (fs ++ ns)
front f t fs at h k z [] g b ts ns w =
    (f w.0, h w.0 w.1, ap (λ (x : List Token). t ∷ x) w.2 ∙ sym (k w.0), ap (λ (x : List Node). fs ++ x) w.3 ∙ sym (g w.0), b refl w.0 w.4)
front f t fs at h k z (n ∷ names) g b ts ns w = (
  f w.0,
  w.1,
  w.2,
  w.3,
  h w.0 w.4,
  w.5,
  ap (λ (x : List Token). t ∷ x) w.6 ∙ ap (λ (x : List Token). x ++ (End, w.1) ∷ w.2) (sym (k w.0)),
  ap (λ (x : List Node). fs ++ x) w.7 ∙ sym (append_assoc fs (nodes (at + length t.1) (suc (length names)) w.0) w.3) ∙ ap (λ (x : List Node). x ++ w.3) (sym (g w.0)),
  moved (at + length t.1 + size w.0 + length w.1) (at + size (f w.0) + length w.1) names w.2 w.3 (let q = z w.0 in omega (arith, q)) w.8,
)

abbrev node : ℕ → List ℕ → ℕ → Node
node at tag depth = record { place = at; len = length tag; depth = depth }

nest : (tag name : List ℕ) → start_tag tag ≡ Some (name, false) → (at : ℕ) (names : List (List ℕ)) (ts : List Token) (ns : List Node)
    → Closes (at + length tag) (name ∷ names) ts ns → Closes at names ((Start, tag) ∷ ts) (node at tag (length names) ∷ ns)
nest tag name h at [] ts ns w =
    let v = w.8 in (
      element tag w.0 w.1 v.0,
      ((name, h, w.5), w.4, v.1),
      ap (λ (x : List Token). (Start, tag) ∷ x) (w.6 ∙ ap (λ (x : List Token). tokens w.0 ++ (End, w.1) ∷ x) v.2),
      ap (λ (x : List Node). node at tag 0 ∷ x) (w.7 ∙ ap (λ (x : List Node). nodes (at + length tag) 1 w.0 ++ x) v.3),
      v.4,
    )
nest tag name h at (n ∷ names) ts ns w =
    let v = w.8 in
    let depth = suc (length names) in (
      element tag w.0 w.1 v.0,
      v.1,
      v.2,
      v.3,
      ((name, h, w.5), w.4, v.4),
      v.5,
      ap (λ (x : List Token). (Start, tag) ∷ x) (w.6 ∙ ap (λ (x : List Token). tokens w.0 ++ (End, w.1) ∷ x) v.6 ∙ sym (append_assoc (tokens w.0) ((End, w.1) ∷ tokens v.0) ((End, v.1) ∷ v.2))),
      ap (λ (x : List Node). node at tag depth ∷ x) (w.7 ∙ ap (λ (x : List Node). nodes (at + length tag) (suc depth) w.0 ++ x) v.7
          ∙ sym (append_assoc (nodes (at + length tag) (suc depth) w.0) (nodes (at + length tag + size w.0 + length w.1) depth v.0) v.3)),
      moved (at + length tag + size w.0 + length w.1 + size v.0 + length v.1) (at + (length tag + size w.0 + length w.1 + size v.0) + length v.1) names v.2 v.3 (omega arith) v.8,
    )

pub bind_ok : {F A B : Type 0} (r : Result A F) (f : A → Result B F) (y : B) → (r >>= f) ≡ Ok y → (x : A) × (r ≡ Ok x) × (f x ≡ Ok y)
bind_ok (Ok x) f y e = (x, refl, e)
bind_ok (Err d) f y e = absurd cc

pub else_ok : {F A : Type 0} (b : Bool) (d : F) (x : Result A F) (y : A) → cond b (Err d) x ≡ Ok y → (b ≡ false) × (x ≡ Ok y)
else_ok true d x y e = absurd cc
else_ok false d x y e = (refl, e)

pub then_ok : {F A : Type 0} (b : Bool) (d : F) (x : Result A F) (y : A) → cond b x (Err d) ≡ Ok y → (b ≡ true) × (x ≡ Ok y)
then_ok true d x y e = (refl, e)
then_ok false d x y e = absurd cc

-- one result has one value, and no fault beside it
pub same_value : {A F : Type 0} (r : Result A F) (x y : A) → r ≡ Ok x → r ≡ Ok y → x ≡ y
same_value r x y e h = cc

pub not_both : {A F : Type 0} (r : Result A F) (x : A) (f : F) → r ≡ Ok x → r ≡ Err f → ⊥
not_both (Ok y) x f e h = absurd cc
not_both (Err d) x f e h = absurd cc

-- a step backwards: from what follows the token to what begins with it
abbrev Back : State → State → Token → Type 0
Back s u t = (ts : List Token) (ns : List Node) → Closes u.at u.unended ts ns → (ms : List Node) × (u.nodes ++ ns ≡ s.nodes ++ ms) × Closes s.at s.unended (t ∷ ts) ms

-- after the token's bytes
abbrev past : State → Token → State → State
past s t u = record u { at = s.at + length t.1 }

along : (s v u : State) (t : Token) → v ≡ u → Back s (past s t v) t → Back s (past s t u) t
along s v u t e h = let P : State → Type 0 = λ x. Back s (past s t x) t in subst P e h

blank_outside : (names : List (List ℕ)) (p : Bool) → eqb (length names) 0 && not p ≡ false → names ≡ [] → p ≡ true
blank_outside [] true e z = refl
blank_outside [] false e z = absurd cc
blank_outside (n ∷ names) p e z = absurd cc

text_back : (b : List ℕ) (s u : State) → text_step b s ≡ Ok u → Back s (past s (Text, b) u) (Text, b)
unfolding text_step
text_back b s u e =
    let k = else_ok (eqb (length s.unended) 0 && not (list_all is_space b)) (Malformed s.at) (Ok s) u e in
    along s s u (Text, b) (same_value (Ok s) s u refl k.1)
    (λ ts ns w. (ns, refl, front (text b) (Text, b) [] s.at (λ c p. p) (λ c. refl) (λ c. refl) s.unended (λ c. refl) (λ z c p. (blank_outside s.unended (list_all is_space b) k.0 z, p)) ts ns w))

aside_back : (b : List ℕ) (s u : State) → step_of Aside b s ≡ Ok u → Back s (past s (Aside, b) u) (Aside, b)
aside_back b s u e =
    along s s u (Aside, b) (same_value (Ok s) s u refl e)
    (λ ts ns w. (ns, refl, front (aside b) (Aside, b) [] s.at (λ c p. p) (λ c. refl) (λ c. refl) s.unended (λ c. refl) (λ z c p. p) ts ns w))

end_case : (b : List ℕ) (s u : State) (names : List (List ℕ)) → names ≡ s.unended → closed b s names ≡ Ok u → Back s (past s (End, b) u) (End, b)
end_case b s u [] same e = absurd cc
end_case b s u (name ∷ others) same e =
    let next : State = record s { unended = others } in
    let k = then_ok (is_end_tag name b) (Malformed s.at) (Ok next) u e in
    along s next u (End, b) (same_value (Ok next) next u refl k.1)
    (λ ts ns w. (
      ns,
      refl,
      (let P : List (List ℕ) → Type 0 = λ x. Closes s.at x ((End, b) ∷ ts) ns in
          subst P same (nothing, b, ts, ns, tt, k.0, refl, refl, moved (s.at + length b) (s.at + 0 + length b) others ts ns (omega arith) w)),
    ))

start_end : (b name : List ℕ) (v : Bool) (s : State) → start_tag b ≡ Some (name, v)
    → Back s (past s (Start, b) (record s { nodes = s.nodes ++ node s.at b (length s.unended) ∷ []; unended = cond v s.unended (name ∷ s.unended) })) (Start, b)
start_end b name true s h = λ ts ns w.
    let n = node s.at b (length s.unended) in
    (n ∷ ns, append_assoc s.nodes (n ∷ []) ns, front (empty b) (Start, b) (n ∷ []) s.at (λ c p. ((name, h), p)) (λ c. refl) (λ c. refl) s.unended (λ c. refl) (λ z c p. p) ts ns w)
start_end b name false s h = λ ts ns w.
    let n = node s.at b (length s.unended) in
    (n ∷ ns, append_assoc s.nodes (n ∷ []) ns, nest b name h s.at s.unended ts ns w)

start_case : (b : List ℕ) (s u : State) (o : Option (List ℕ × Bool)) → start_tag b ≡ o → opened b s o ≡ Ok u → Back s (past s (Start, b) u) (Start, b)
start_case b s u None h e = absurd cc
start_case b s u (Some tag) h e =
    let next : State = record s { nodes = s.nodes ++ node s.at b (length s.unended) ∷ []; unended = cond tag.1 s.unended (tag.0 ∷ s.unended) } in
    let last : Result State MarkupFault = cond (leb MAX_ELEMENTS (length s.nodes)) (Err (TooMany s.at)) (Ok next) in
    let k = else_ok (eqb (length s.unended) 0 && not (eqb (length s.nodes) 0)) (Malformed s.at) (cond (leb MAX_DEPTH (length s.unended)) (Err (TooDeep s.at)) last) u e in
    let j = else_ok (leb MAX_DEPTH (length s.unended)) (TooDeep s.at) last u k.1 in
    let i = else_ok (leb MAX_ELEMENTS (length s.nodes)) (TooMany s.at) (Ok next) u j.1 in
    along s next u (Start, b) (same_value (Ok next) next u refl i.1) (start_end b tag.0 tag.1 s h)

kind_back : (kind : Kind) (b : List ℕ) (s u : State) → step_of kind b s ≡ Ok u → Back s (past s (kind, b) u) (kind, b)
unfolding end_step start_step
kind_back Text b s u e = text_back b s u e
kind_back Aside b s u e = aside_back b s u e
kind_back End b s u e = end_case b s u s.unended refl e
kind_back Start b s u e = start_case b s u (start_tag b) refl e

step_back : (t : Token) (s u : State) → step t s ≡ Ok u → Back s u t
step_back t s u e =
    let k = bind_ok (step_of t.0 t.1 s) (λ v. Ok (record v { at = s.at + length t.1 })) u e in
    let next : State = past s t k.0 in
    let P : State → Type 0 = λ x. Back s x t in
    subst P (same_value (Ok next) next u refl k.2) (kind_back t.0 t.1 s k.0 k.1)

pub all_back : (ts : List Token) (s u : State) → read_all step ts s ≡ Ok u → u.unended ≡ [] → (ns : List Node) × (u.nodes ≡ s.nodes ++ ns) × Closes s.at s.unended ts ns
unfolding read_all
all_back [] s u e h =
    let same = same_value (Ok s) s u refl e in
    let P : List (List ℕ) → Type 0 = λ names. Closes s.at names [] [] in
    ([], ap (λ (x : State). x.nodes) (sym same) ∙ sym (append-nil s.nodes), subst P (sym (ap (λ (x : State). x.unended) same ∙ h)) (nothing, tt, refl, refl, tt))
all_back (t ∷ ts) s u e h =
    let k = bind_ok (step t s) (read_all step ts) u e in
    let w = all_back ts k.0 u k.2 h in
    let v = step_back t s k.0 k.1 ts w.0 w.2 in
    (v.0, w.1 ∙ v.1, v.2)
