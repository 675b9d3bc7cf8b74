-- A fault that is answered is the first.
use Rattle.std.specs.Bool.{OnFalse}
use Rattle.std.proofs.Common.{◌≡◌, ℕ, zero, suc, ◌+◌, ◌<◌, ◌≤◌, Bool, true, false, cond, not, eqb, leb, ◌&&◌, List, [], ◌∷◌, ◌++◌, length, length-append, drop, Option, Some, None, Result, Ok, Err, refl, ap, ◌∙◌, append_assoc, subst, arith}
use Rattle.std.specs.Prelude.{codes}
use Rattle.std.specs.List.{list_all}
use Rattle.element_tree.specs.declared.node.Node.{Node}
use Rattle.element_tree.specs.declared.fault.MarkupFault.{MarkupFault}
use Rattle.element_tree.specs.declared.fault.MarkupFault.TheVariants.{Malformed, Truncated, TooDeep, TooMany, Unsupported}
use Rattle.element_tree.specs.declared.token.Kind.{Kind}
use Rattle.element_tree.specs.declared.token.Kind.TheVariants.{Text, Aside, End, Start}
use Rattle.element_tree.specs.Bytes.{is_space, byte_order_mark}
use Rattle.element_tree.specs.Pieces.{or_end, pieces}
use Rattle.reading.specs.Reading.{◌>>=◌, read_all}
use Rattle.element_tree.specs.State.{State}
use Rattle.element_tree.specs.Tags.{start_tag, is_end_tag}
use Rattle.element_tree.specs.Tokens.{begins, cut_token}
use Rattle.element_tree.specs.Documents.{text_step, end_step, start_step, closed, opened, step_of, step, cut_fault, finish, read_on, markup}
use Rattle.element_tree.specs.Contents.{spelling, after_mark}
use Rattle.element_tree.specs.Faults.{IsAt, IsNext, IsFirstFault, at_front}
use Rattle.element_tree.proofs.PieceLaws.{pieces_unroll}
use Rattle.element_tree.proofs.Tokens.{token_shrinks}
use Rattle.element_tree.proofs.Wholes.{token_whole}
use Rattle.element_tree.proofs.ContentLaws.{bind_ok}
use Rattle.element_tree.specs.declared.limits.TheConstants.{MAX_ELEMENTS, MAX_DEPTH}

abbrev Token : Type 0
Token = Kind × List ℕ

-- where there is a fault, it names this place
abbrev FaultsAt : {X : Type 0} → ℕ → Result X MarkupFault → Type 0
FaultsAt place (Ok x) = Unit {0}
FaultsAt place (Err f) = IsAt place f

either_at : {X : Type 0} (place : ℕ) (b : Bool) (x y : Result X MarkupFault) → FaultsAt place x → FaultsAt place y → FaultsAt place (cond b x y)
either_at place true x y h k = h
either_at place false x y h k = k

closed_at : (token : List ℕ) (s : State) (names : List (List ℕ)) → FaultsAt s.at (closed token s names)
closed_at token s [] = refl
closed_at token s (name ∷ others) = either_at s.at (is_end_tag name token) (Ok (record s { unended = others })) (Err (Malformed s.at)) tt refl

opened_at : (token : List ℕ) (s : State) (o : Option (List ℕ × Bool)) → FaultsAt s.at (opened token s o)
opened_at token s None = refl
opened_at token s (Some tag) =
    let next : State = record s { nodes = s.nodes ++ (record { place = s.at; len = length token; depth = length s.unended }) ∷ []; unended = cond tag.1 s.unended (tag.0 ∷ s.unended) } in
    let last : Result State MarkupFault = cond (leb MAX_ELEMENTS (length s.nodes)) (Err (TooMany s.at)) (Ok next) in
    let deep : Result State MarkupFault = cond (leb MAX_DEPTH (length s.unended)) (Err (TooDeep s.at)) last in
    either_at s.at (eqb (length s.unended) 0 && not (eqb (length s.nodes) 0)) (Err (Malformed s.at)) deep refl
    (either_at s.at (leb MAX_DEPTH (length s.unended)) (Err (TooDeep s.at)) last refl (either_at s.at (leb MAX_ELEMENTS (length s.nodes)) (Err (TooMany s.at)) (Ok next) refl tt))

kind_at : (kind : Kind) (token : List ℕ) (s : State) → FaultsAt s.at (step_of kind token s)
unfolding text_step end_step start_step
kind_at Text token s = either_at s.at (eqb (length s.unended) 0 && not (list_all is_space token)) (Err (Malformed s.at)) (Ok s) refl tt
kind_at Aside token s = tt
kind_at End token s = closed_at token s s.unended
kind_at Start token s = opened_at token s (start_tag token)

then_at : (place : ℕ) (r : Result State MarkupFault) (f : State → State) → FaultsAt place r → FaultsAt place (r >>= λ t. Ok (f t))
then_at place (Ok t) f h = tt
then_at place (Err e) f h = h

step_faults : (t : Token) (s : State) → FaultsAt s.at (step t s)
step_faults t s = then_at s.at (step_of t.0 t.1 s) (λ u. record u { at = s.at + length t.1 }) (kind_at t.0 t.1 s)

cut_at : (place : ℕ) (bytes : List ℕ) → IsAt place (cut_fault place bytes)
unfolding cut_fault
cut_at place bytes = either (begins bytes (codes "<!") && not (begins bytes (codes "<!--")) && not (begins (codes "<!--") bytes))
  where
    either : (b : Bool) → IsAt place (cond b (Unsupported place) (Truncated place))
    either true = refl
    either false = refl

finish_faults : (rest : List ℕ) (s : State) → FaultsAt s.at (finish rest s)
unfolding finish
finish_faults rest s =
    let ended = eqb (length s.unended) 0 && not (eqb (length s.nodes) 0) in
    either_at s.at (not (eqb (length rest) 0)) (Err (cut_fault s.at rest)) (cond ended (Ok s.nodes) (Err (Truncated s.at))) (cut_at s.at rest)
    (either_at s.at ended (Ok s.nodes) (Err (Truncated s.at)) tt refl)

fault_of : {X : Type 0} (place : ℕ) (r : Result X MarkupFault) (f : MarkupFault) → r ≡ Err f → FaultsAt place r → IsAt place f
fault_of place (Ok x) f e h = absurd cc
fault_of place (Err d) f e h = let same : d ≡ f = cc in subst (λ g. IsAt place g) same h

step_place : (t : Token) (s u : State) → step t s ≡ Ok u → u.at ≡ s.at + length t.1
step_place t s u e =
    let k = bind_ok (step_of t.0 t.1 s) (λ v. Ok (record v { at = s.at + length t.1 })) u e in
    ap (λ (x : State). x.at) (same (Ok (record k.0 { at = s.at + length t.1 })) u (record k.0 { at = s.at + length t.1 }) k.2 refl)
  where
    same : (r : Result State MarkupFault) (x y : State) → r ≡ Ok x → r ≡ Ok y → x ≡ y
    same r x y e f = cc

-- reading from the first token on, by the token that is cut off
abbrev read_from : List ℕ → State → Option (Token × List ℕ) → Result (List Node) MarkupFault
read_from bytes s o = read_all step (or_end bytes (pieces cut_token) o).0 s >>= finish (or_end bytes (pieces cut_token) o).1

here : (s : State) (bytes : List ℕ) (f : MarkupFault) → IsNext (cut_token bytes) bytes s f → IsAt s.at f → IsFirstFault s bytes f
unfolding read_all
here s bytes f next at = record {
  before = [];
  rest = bytes;
  state = s;
  whole = refl;
  cut = refl;
  fine = refl;
  next = next;
  place = (let e : s.at ≡ s.at + length {A = ℕ} [] = omega arith in subst (λ n. IsAt n f) e at);
}

later : (s u : State) (bytes : List ℕ) (x : Token × List ℕ) (f : MarkupFault) → cut_token bytes ≡ Some x → step x.0 s ≡ Ok u → IsFirstFault u x.1 f → IsFirstFault s bytes f
unfolding read_all
later s u bytes x f e h w = record {
  before = x.0 ∷ w.before;
  rest = w.rest;
  state = w.state;
  whole = append_assoc x.0.1 (spelling w.before) w.rest ∙ ap (λ (y : List ℕ). x.0.1 ++ y) w.whole ∙ token_whole bytes x e;
  cut = pieces_unroll cut_token token_shrinks bytes ∙ rw (e, w.cut) refl;
  fine = rw h w.fine;
  next = w.next;
  place = (let k : u.at + length (spelling w.before) ≡ s.at + length (spelling (x.0 ∷ w.before)) = omega (arith, step_place x.0 s u h, length-append x.0.1 (spelling w.before)) in
      subst (λ n. IsAt n f) k w.place);
}

by_step : (bytes : List ℕ) (s : State) (x : Token × List ℕ) (f : MarkupFault)
    → ((u : State) → read_on x.1 u ≡ Err f → IsFirstFault u x.1 f) → cut_token bytes ≡ Some x
    → (r : Result State MarkupFault) → step x.0 s ≡ r → ((r >>= read_all step (pieces cut_token x.1).0) >>= finish (pieces cut_token x.1).1) ≡ Err f → IsFirstFault s bytes f
unfolding read_on
by_step bytes s x f again e (Ok u) h k = later s u bytes x f e h (again u k)
by_step bytes s x f again e (Err d) h k =
    let fault : MarkupFault → Result State MarkupFault = λ g. Err g in
    let is : step x.0 s ≡ Err f = h ∙ ap fault (same (Err d) d f refl k) in
    here s bytes f (rw e is) (fault_of s.at (step x.0 s) f is (step_faults x.0 s))
  where
    same : (r : Result (List Node) MarkupFault) (d f : MarkupFault) → r ≡ Err d → r ≡ Err f → d ≡ f
    same r d f e k = cc

by_token : (bytes : List ℕ) (s : State) (f : MarkupFault)
    → ((rest : List ℕ) (u : State) → length rest < length bytes → read_on rest u ≡ Err f → IsFirstFault u rest f)
    → (o : Option (Token × List ℕ)) → cut_token bytes ≡ o → read_from bytes s o ≡ Err f → IsFirstFault s bytes f
unfolding read_all
by_token bytes s f again None e h = here s bytes f (rw e h) (fault_of s.at (finish bytes s) f h (finish_faults bytes s))
by_token bytes s f again (Some x) e h = by_step bytes s x f (λ u k. again x.1 u (token_shrinks bytes x e) k) e (step x.0 s) refl h

unrolled : (bytes : List ℕ) (s : State) (f : MarkupFault) → read_on bytes s ≡ Err f → read_from bytes s (cut_token bytes) ≡ Err f
unfolding read_on
unrolled bytes s f e =
    let P : List Token × List ℕ → Type 0 = λ p. (read_all step p.0 s >>= finish p.1) ≡ Err f in
    subst P (pieces_unroll cut_token token_shrinks bytes) e

first_within : (n : ℕ) (bytes : List ℕ) (s : State) (f : MarkupFault) → length bytes ≤ n → read_on bytes s ≡ Err f → IsFirstFault s bytes f
first_within zero bytes s f h e = by_token bytes s f (λ rest u lt k. absurd (omega (arith, lt, h))) (cut_token bytes) refl (unrolled bytes s f e)
first_within (suc n) bytes s f h e = by_token bytes s f (λ rest u lt k. first_within n rest u f (omega (arith, lt, h)) k) (cut_token bytes) refl (unrolled bytes s f e)

marked : (b : Bool) (bytes rest : List ℕ) (f : MarkupFault)
    → cond b (read_on rest (record { at = 3; nodes = []; unended = [] })) (read_on bytes (record { at = 0; nodes = []; unended = [] })) ≡ Err f
    → IsFirstFault (record { at = cond b 3 0; nodes = []; unended = [] }) (cond b rest bytes) f
marked true bytes rest f e = first_within (length rest) rest (record { at = 3; nodes = []; unended = [] }) f (omega arith) e
marked false bytes rest f e = first_within (length bytes) bytes (record { at = 0; nodes = []; unended = [] }) f (omega arith) e

markup_first : (bytes : List ℕ) (f : MarkupFault) → markup bytes ≡ Err f → IsFirstFault (at_front bytes) (after_mark bytes) f
unfolding markup
markup_first bytes f e = marked (begins bytes byte_order_mark) bytes (drop 3 bytes) f e

-- a fault that is answered is the first of the document
pub first_answered : (bytes : List ℕ) (f : MarkupFault) (b : Bool) → OnFalse b (markup bytes ≡ Err f) → OnFalse b (IsFirstFault (at_front bytes) (after_mark bytes) f)
first_answered bytes f true h = tt
first_answered bytes f false h = markup_first bytes f h
