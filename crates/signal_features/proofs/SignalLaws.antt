-- What is read child by child is what all children of the root say at once.
use Rattle.std.proofs.Common.{◌≡◌, ◌∙◌, ℕ, ◌+◌, ◌<◌, ◌≤◌, Bool, true, false, cond, List, [], ◌∷◌, ◌++◌, length, map, Option, Some, None, Result, Ok, Err, refl, sym, ap, subst, arith, append_assoc, inl, inr, ◌⊎◌}
use Rattle.std.specs.Prelude.{codes, nat_le, IfOk, IfErr, All}
use Rattle.std.specs.Bool.{OnFalse}
use Rattle.std.specs.List.{filter, filter_map, cons_option, AllZip}
use Rattle.std.specs.Option.{option_map}
use Rattle.std.specs.Result.{result_ok}
use Rattle.std.specs.Str.{bytes_eq}
use Rattle.std.proofs.lemmas.Bool.Decides.{nat_tests}
use Rattle.std.proofs.lemmas.List.{append-nil, length-append}
use Rattle.std.proofs.lemmas.List.Elements.{filter_map-append}
use Rattle.std.proofs.lemmas.Slice.Eq.{bytes_eq-Decides}
use Rattle.element_tree.specs.Document.{Document}
use Rattle.element_tree.specs.Trees.{name_of, children}
use Rattle.reading.specs.Reading.{◌>>=◌, read_all, read_numbered, IsFirstFault}
use Rattle.reading.proofs.FirstFault.{first_fault, all_numbered}
use Rattle.signal_features.specs.Forms.{is_named, id_at, sign, light, sign_at, light_at}
use Rattle.signal_features.specs.Signals.{with_sign, with_light, signal_step, signs_among, lights_among, AreFew, count, limit_of, IsFirstOver, IsSignalFaultOf}
use Rattle.signal_features.specs.declared.fault.SignalFault.{SignalFault}
use Rattle.signal_features.specs.declared.fault.SignalFault.TheVariants.{TooMany, NoMemory}
use Rattle.signal_features.specs.declared.fault.SignalKind.TheVariants as kind
use Rattle.signal_features.specs.declared.found.Found.{Found}
use Rattle.signal_features.specs.declared.limits.TheConstants.{MAX_SIGNS, MAX_LIGHTS}
use Rattle.signal_features.specs.declared.signals.Light.{Light}
use Rattle.signal_features.specs.declared.signals.SpeedSign.{SpeedSign}

-- ---- one child

-- the step by what the child is, of which it is one at most
abbrev step_by : Found → Option SpeedSign → Option Light → Result Found SignalFault
step_by s (Some sign) other = with_sign s (Some sign)
step_by s None other = with_light s other

record IsOne (document : Document) (k : ℕ) (s : Found) : Type 0 where
  step : signal_step document k s ≡ step_by s (sign_at document k) (light_at document k)
  one : (x : SpeedSign) → sign_at document k ≡ Some x → light_at document k ≡ None

no_light : (s : Found) (o : Option SpeedSign) → with_sign s o ≡ step_by s o None
no_light s (Some x) = refl
no_light s None = refl

both_names : (name : List ℕ) → bytes_eq name (codes "trafficSign") ≡ true → bytes_eq name (codes "trafficLight") ≡ true → ⊥
both_names name a b =
    let one = (bytes_eq-Decides name (codes "trafficSign")).0 a in
    let two = (bytes_eq-Decides name (codes "trafficLight")).0 b in
    let same : codes "trafficSign" ≡ codes "trafficLight" = sym one ∙ two in
    absurd (cc)

only_sign : (document : Document) (k : ℕ) → is_named document (codes "trafficSign") k ≡ true → (b : Bool) → is_named document (codes "trafficLight") k ≡ b
    → cond b (light document k) None ≡ None
only_sign document k a true e = absurd (both_names (name_of document k) a e)
only_sign document k a false e = refl

no_sign : (b : Bool) → b ≡ false → (o : Option SpeedSign) (x : SpeedSign) → cond b o None ≡ Some x → ⊥
no_sign true e o x h = absurd (cc)
no_sign false e o x h = absurd (cc)

one_by : (document : Document) (k : ℕ) (s : Found) (a b : Bool) → is_named document (codes "trafficSign") k ≡ a → is_named document (codes "trafficLight") k ≡ b
    → IsOne document k s
unfolding signal_step sign_at light_at
one_by document k s true b e f =
    let none = only_sign document k e b f in
    record {
      step = rw (e, f) (no_light s (sign document k) ∙ ap (step_by s (sign document k)) (sym none));
      one = λ x h. rw f none;
    }
one_by document k s false true e f = record { step = rw (e, f) refl; one = λ x h. absurd (no_sign (is_named document (codes "trafficSign") k) e (sign document k) x h) }
one_by document k s false false e f = record { step = rw (e, f) refl; one = λ x h. rw f refl }

is_one : (document : Document) (k : ℕ) (s : Found) → IsOne document k s
is_one document k s = one_by document k s (is_named document (codes "trafficSign") k) (is_named document (codes "trafficLight") k) refl refl

-- a child more
record IsMore (s : Found) (sign : Option SpeedSign) (light : Option Light) (t : Found) : Type 0 where
  signs : t.signs ≡ s.signs ++ cons_option sign []
  lights : t.lights ≡ s.lights ++ cons_option light []
  few : AreFew s.signs s.lights → AreFew t.signs t.lights

le_false : (m n : ℕ) → nat_le m n ≡ false → n < m
le_false m n h = grind (arith, nat_tests, h)

le_true : (m n : ℕ) → nat_le m n ≡ true → m ≤ n
le_true m n h = grind (arith, nat_tests, h)

one_longer : {X : Type 0} (xs : List X) (x : X) (n : ℕ) → length xs < n → length (xs ++ x ∷ []) ≤ n
one_longer xs x n h = omega (arith, length-append xs (x ∷ []), h)

sign_added : (s t : Found) (x : SpeedSign) (b : Bool) → nat_le MAX_SIGNS (length s.signs) ≡ b
    → cond b (Err (TooMany kind.Sign)) (Ok (record s { signs = s.signs ++ x ∷ [] })) ≡ Ok t → IsMore s (Some x) None t
sign_added s t x true e h = absurd (cc)
sign_added s t x false e h =
    let same : record s { signs = s.signs ++ x ∷ [] } ≡ t = cc in
    subst (λ (u : Found). IsMore s (Some x) None u) same (record {
      signs = refl;
      lights = sym (append-nil s.lights);
      few = λ few. record { few_signs = one_longer s.signs x MAX_SIGNS (le_false MAX_SIGNS (length s.signs) e); few_lights = few.few_lights };
    })

light_added : (s t : Found) (x : Light) (b : Bool) → nat_le MAX_LIGHTS (length s.lights) ≡ b
    → cond b (Err (TooMany kind.Light)) (Ok (record s { lights = s.lights ++ x ∷ [] })) ≡ Ok t → IsMore s None (Some x) t
light_added s t x true e h = absurd (cc)
light_added s t x false e h =
    let same : record s { lights = s.lights ++ x ∷ [] } ≡ t = cc in
    subst (λ (u : Found). IsMore s None (Some x) u) same (record {
      signs = sym (append-nil s.signs);
      lights = refl;
      few = λ few. record { few_signs = few.few_signs; few_lights = one_longer s.lights x MAX_LIGHTS (le_false MAX_LIGHTS (length s.lights) e) };
    })

none_added : (s t : Found) → step_by s None None ≡ Ok t → IsMore s None None t
none_added s t h =
    let same : s ≡ t = cc in
    subst (λ (u : Found). IsMore s None None u) same (record { signs = sym (append-nil s.signs); lights = sym (append-nil s.lights); few = λ few. few })

one_more : (s t : Found) (sign : Option SpeedSign) (light : Option Light) → ((x : SpeedSign) → sign ≡ Some x → light ≡ None) → step_by s sign light ≡ Ok t → IsMore s sign light t
one_more s t (Some x) light one h = rw (one x refl) (sign_added s t x (nat_le MAX_SIGNS (length s.signs)) refl h)
one_more s t None (Some y) one h = light_added s t y (nat_le MAX_LIGHTS (length s.lights)) refl h
one_more s t None None one h = none_added s t h

child_more : (document : Document) (k : ℕ) (s t : Found) → signal_step document k s ≡ Ok t → IsMore s (sign_at document k) (light_at document k) t
child_more document k s t h =
    let is = is_one document k s in
    one_more s t (sign_at document k) (light_at document k) is.one (sym is.step ∙ h)

-- ---- all children

record AreMore (document : Document) (nodes : List ℕ) (s t : Found) : Type 0 where
  signs : t.signs ≡ s.signs ++ signs_among document nodes
  lights : t.lights ≡ s.lights ++ lights_among document nodes
  few : AreFew s.signs s.lights → AreFew t.signs t.lights

consed : {X : Type 0} (o : Option X) (xs : List X) → cons_option o [] ++ xs ≡ cons_option o xs
consed None xs = refl
consed (Some x) xs = refl

joined : {X : Type 0} (us ss ts : List X) (o : Option X) (xs : List X) → us ≡ ss ++ cons_option o [] → ts ≡ us ++ xs → ts ≡ ss ++ cons_option o xs
joined us ss ts o xs e f = f ∙ ap (λ ws. ws ++ xs) e ∙ append_assoc ss (cons_option o []) xs ∙ ap (λ ws. ss ++ ws) (consed o xs)

after_one : (document : Document) (k : ℕ) (nodes : List ℕ) (s t : Found) (r : Result Found SignalFault) → signal_step document k s ≡ r
    → ((u : Found) → read_all (signal_step document) nodes u ≡ Ok t → AreMore document nodes u t)
    → (r >>= read_all (signal_step document) nodes) ≡ Ok t → AreMore document (k ∷ nodes) s t
after_one document k nodes s t (Err f) e more h = absurd (cc)
after_one document k nodes s t (Ok u) e more h =
    let one = child_more document k s u e in
    let rest = more u h in
    record {
      signs = joined u.signs s.signs t.signs (sign_at document k) (signs_among document nodes) one.signs rest.signs;
      lights = joined u.lights s.lights t.lights (light_at document k) (lights_among document nodes) one.lights rest.lights;
      few = λ few. rest.few (one.few few);
    }

all_more : (document : Document) (nodes : List ℕ) (s t : Found) → read_all (signal_step document) nodes s ≡ Ok t → AreMore document nodes s t
unfolding read_all
all_more document [] s t h =
    let same : s ≡ t = cc in
    subst (λ (u : Found). AreMore document [] s u) same (record { signs = sym (append-nil s.signs); lights = sym (append-nil s.lights); few = λ few. few })
all_more document (k ∷ nodes) s t h =
    after_one document k nodes s t (signal_step document k s) refl (λ u e. all_more document nodes u t e) h

-- those that were found among some children, where no more were found than may be
pub record AreAmong (document : Document) (nodes : List ℕ) (t : Found) : Type 0 where
  pub signs : t.signs ≡ signs_among document nodes
  pub lights : t.lights ≡ lights_among document nodes
  pub few : AreFew t.signs t.lights

pub are_among : (document : Document) (nodes : List ℕ) (t : Found) → read_all (signal_step document) nodes (record { signs = []; lights = [] }) ≡ Ok t → AreAmong document nodes t
are_among document nodes t h =
    let more = all_more document nodes (record { signs = []; lights = [] }) t h in
    record {
      signs = more.signs;
      lights = more.lights;
      few = more.few (record { few_signs = omega arith; few_lights = omega arith });
    }

-- ---- one too many

record IsOver (s : Found) (sign : Option SpeedSign) (light : Option Light) (f : SignalFault) : Type 0 where
  any : ((x : SpeedSign) × (sign ≡ Some x) × (MAX_SIGNS ≤ length s.signs) × (f ≡ TooMany kind.Sign)) ⊎ ((y : Light) × (light ≡ Some y) × (MAX_LIGHTS ≤ length s.lights) × (f ≡ TooMany kind.Light))

sign_over : (s : Found) (x : SpeedSign) (light : Option Light) (f : SignalFault) (b : Bool) → nat_le MAX_SIGNS (length s.signs) ≡ b
    → cond b (Err (TooMany kind.Sign)) (Ok (record s { signs = s.signs ++ x ∷ [] })) ≡ Err f → IsOver s (Some x) light f
sign_over s x light f true e h = record { any = inl (x, refl, le_true MAX_SIGNS (length s.signs) e, (cc)) }
sign_over s x light f false e h = absurd (cc)

light_over : (s : Found) (y : Light) (f : SignalFault) (b : Bool) → nat_le MAX_LIGHTS (length s.lights) ≡ b
    → cond b (Err (TooMany kind.Light)) (Ok (record s { lights = s.lights ++ y ∷ [] })) ≡ Err f → IsOver s None (Some y) f
light_over s y f true e h = record { any = inr (y, refl, le_true MAX_LIGHTS (length s.lights) e, (cc)) }
light_over s y f false e h = absurd (cc)

one_over : (s : Found) (sign : Option SpeedSign) (light : Option Light) (f : SignalFault) → step_by s sign light ≡ Err f → IsOver s sign light f
one_over s (Some x) light f h = sign_over s x light f (nat_le MAX_SIGNS (length s.signs)) refl h
one_over s None (Some y) f h = light_over s y f (nat_le MAX_LIGHTS (length s.lights)) refl h
one_over s None None f h = absurd (cc)

longer_by : {X : Type 0} (h : ℕ → Option X) (before : List ℕ) (k : ℕ) (x : X) (n : ℕ) → h k ≡ Some x → n ≤ length (filter_map h before) → n < length (filter_map h (before ++ k ∷ []))
longer_by h before k x n e le =
    let cut : filter_map h (before ++ k ∷ []) ≡ filter_map h before ++ x ∷ [] = filter_map-append h before (k ∷ []) ∙ rw e refl in
    omega (arith, ap length cut, length-append (filter_map h before) (x ∷ []), le)

at_first : (document : Document) (before : List ℕ) (node : ℕ) (after : List ℕ) (s : Found) (f : SignalFault) → children document 0 ≡ before ++ node ∷ after
    → AreAmong document before s → IsOver s (sign_at document node) (light_at document node) f → IsSignalFaultOf document f
at_first document before node after s f cut among over =
    let few : AreFew (signs_among document before) (lights_among document before) = rw (sym among.signs, sym among.lights) among.few in
    elim over.any [
      | inl h ↦ subst (IsSignalFaultOf document) (sym h.3) (record {
        before = before;
        node = node;
        after = after;
        cut = cut;
        few = few;
        over = longer_by (sign_at document) before node h.0 MAX_SIGNS h.1 (omega (arith, h.2, ap length among.signs));
      })
      | inr h ↦ subst (IsSignalFaultOf document) (sym h.3) (record {
        before = before;
        node = node;
        after = after;
        cut = cut;
        few = few;
        over = longer_by (light_at document) before node h.0 MAX_LIGHTS h.1 (omega (arith, h.2, ap length among.lights));
      })
    ]

pub first_over : (document : Document) (f : SignalFault) → read_all (signal_step document) (children document 0) (record { signs = []; lights = [] }) ≡ Err f → IsSignalFaultOf document f
first_over document f h =
    let step = signal_step document in
    let first = first_fault (λ (_ : ℕ). step) 0 (children document 0) (record { signs = []; lights = [] }) f (all_numbered step 0 (children document 0) (record { signs = []; lights = [] }) ∙ h) in
    let among = are_among document first.before first.state (sym (all_numbered step 0 first.before (record { signs = []; lights = [] })) ∙ first.fine) in
    let is = is_one document first.item first.state in
    at_first document first.before first.item first.after first.state f first.cut among (one_over first.state (sign_at document first.item) (light_at document first.item) f (sym is.step ∙ first.refused))
