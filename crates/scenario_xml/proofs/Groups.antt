-- One more item of a group, and the next of those that are still to come.
use Rattle.std.proofs.Common.{◌≡◌, ◌≢◌, ℕ, ◌<◌, ◌≤◌, Bool, true, false, cond, eqb, List, [], ◌∷◌, ◌++◌, length, get_or, refl, sym, ap, ◌∙◌, subst, arith, append_assoc, length-append}
use Rattle.std.specs.List.{All, AllZip, AllPairs, filter, list_any}
use Rattle.std.proofs.Math.Seq.{get_or-append_seam}
use Rattle.std.proofs.lemmas.Bool.{ne_eqb, eq-eqb, both_ways}
use Rattle.std.proofs.lemmas.List.{append-nil, get_or_append_left}
use Rattle.std.proofs.lemmas.List.Elements.{filter-append}
use Rattle.std.proofs.lemmas.List.Folds.{list_any_at, list_any_none}
use Rattle.std.proofs.lemmas.List.Quantifiers.{all_pairs_push}
use Rattle.scenario_xml.specs.ScenarioOf.{AreItems}

-- there is room for the item, and none before it has its id
pub record IsNext {X : Type 0} (id_of : X → ℕ) (limit : ℕ) (items : List X) (x : X) : Type 0 where
  pub few : length items < limit
  pub new : All (λ y. id_of y ≢ id_of x) items

pub found_none : {X : Type 0} (id_of : X → ℕ) (id : ℕ) (items : List X) → list_any (λ y. eqb (id_of y) id) items ≡ false → All (λ y. id_of y ≢ id) items
found_none id_of id items e = λ k d lt same. both_ways (list_any (λ y. eqb (id_of y) id) items) e (list_any_at (λ y. eqb (id_of y) id) items k d lt (eq-eqb (id_of (get_or items k d)) id same))

pub none_found : {X : Type 0} (id_of : X → ℕ) (id : ℕ) (items : List X) → All (λ y. id_of y ≢ id) items → list_any (λ y. eqb (id_of y) id) items ≡ false
none_found id_of id items h = list_any_none (λ y. eqb (id_of y) id) items (λ k d lt. ne_eqb (id_of (get_or items k d)) id (h k d lt))

zip_push : {X : Type 0} (R : ℕ → X → Type 0) (nodes : List ℕ) (items : List X) (k : ℕ) (x : X) → AllZip R nodes items → R k x → AllZip R (nodes ++ k ∷ []) (items ++ x ∷ [])
zip_push R [] [] k x h r = (r, tt)
zip_push R [] (y ∷ items) k x h r = absurd h
zip_push R (n ∷ nodes) [] k x h r = absurd h
zip_push R (n ∷ nodes) (y ∷ items) k x h r = (h.0, zip_push R nodes items k x h.1 r)

-- a node that is kept, and one that is left out
kept : (p : ℕ → Bool) (nodes : List ℕ) (k : ℕ) → p k ≡ true → filter p (nodes ++ k ∷ []) ≡ filter p nodes ++ k ∷ []
kept p nodes k e = filter-append p nodes (k ∷ []) ∙ ap (λ (b : Bool). filter p nodes ++ cond b (k ∷ []) []) e

left_out : (p : ℕ → Bool) (nodes : List ℕ) (k : ℕ) → p k ≡ false → filter p (nodes ++ k ∷ []) ≡ filter p nodes
left_out p nodes k e = filter-append p nodes (k ∷ []) ∙ ap (λ (b : Bool). filter p nodes ++ cond b (k ∷ []) []) e ∙ append-nil (filter p nodes)

module _ {X : Type 0} (IsItemAt : ℕ → X → Type 0) (id_of : X → ℕ) (limit : ℕ) (p : ℕ → Bool) where
  pub none_yet : AreItems IsItemAt id_of limit (filter p []) []
  none_yet = record { read = tt; few = omega arith; different = λ i j d lt below. absurd (omega arith) }

  pub one_more : (nodes : List ℕ) (items : List X) (k : ℕ) (x : X) → AreItems IsItemAt id_of limit (filter p nodes) items → p k ≡ true → IsItemAt k x → IsNext id_of limit items x
      → AreItems IsItemAt id_of limit (filter p (nodes ++ k ∷ [])) (items ++ x ∷ [])
  one_more nodes items k x h e read next = record {
    read = subst (λ (ks : List ℕ). AllZip IsItemAt ks (items ++ x ∷ [])) (sym (kept p nodes k e)) (zip_push IsItemAt (filter p nodes) items k x h.read read);
    few = omega (arith, next.few, length-append items (x ∷ []));
    different = all_pairs_push (λ y z. id_of y ≢ id_of z) items x h.different next.new;
  }

  pub no_more : (nodes : List ℕ) (items : List X) (k : ℕ) → AreItems IsItemAt id_of limit (filter p nodes) items → p k ≡ false → AreItems IsItemAt id_of limit (filter p (nodes ++ k ∷ [])) items
  no_more nodes items k h e = subst (λ (ks : List ℕ). AreItems IsItemAt id_of limit ks items) (sym (left_out p nodes k e)) h

-- After these items the rest is still to come, read off these nodes.
pub record AreToCome {X : Type 0} (IsItemAt : ℕ → X → Type 0) (id_of : X → ℕ) (limit : ℕ) (nodes : List ℕ) (items rest : List X) : Type 0 where
  pub read : AllZip IsItemAt nodes rest
  pub few : length (items ++ rest) ≤ limit
  pub different : AllPairs (λ x y. id_of x ≢ id_of y) (items ++ rest)

-- the next of them
pub record IsFirst {X : Type 0} (IsItemAt : ℕ → X → Type 0) (id_of : X → ℕ) (limit : ℕ) (k : ℕ) (nodes : List ℕ) (items rest : List X) : Type 0 where
  pub item : X
  pub others : List X
  pub cut : rest ≡ item ∷ others
  pub read : IsItemAt k item
  pub next : IsNext id_of limit items item
  pub after : AreToCome IsItemAt id_of limit nodes (items ++ item ∷ []) others

module _ {X : Type 0} (IsItemAt : ℕ → X → Type 0) (id_of : X → ℕ) (limit : ℕ) where
  before_it : (items : List X) (x : X) (xs : List X) → AllPairs (λ y z. id_of y ≢ id_of z) (items ++ x ∷ xs) → All (λ y. id_of y ≢ id_of x) items
  before_it items x xs h = λ k d lt.
      let inside : length items < length (items ++ x ∷ xs) = omega (arith, length-append items (x ∷ xs)) in
      let apart = h k (length items) d lt inside in
      rw (get_or_append_left items (x ∷ xs) d k lt, get_or-append_seam items x xs d) at apart

  first_of : (k : ℕ) (nodes : List ℕ) (items rest : List X) → AreToCome IsItemAt id_of limit (k ∷ nodes) items rest → IsFirst IsItemAt id_of limit k nodes items rest
  first_of k nodes items [] h = absurd h.read
  first_of k nodes items (x ∷ xs) h = record {
    item = x;
    others = xs;
    cut = refl;
    read = h.read.0;
    next = record { few = omega (arith, h.few, length-append items (x ∷ xs)); new = before_it items x xs h.different };
    after = record {
      read = h.read.1;
      few = subst (λ (ys : List X). length ys ≤ limit) (sym (append_assoc items (x ∷ []) xs)) h.few;
      different = subst (λ (ys : List X). AllPairs (λ y z. id_of y ≢ id_of z) ys) (sym (append_assoc items (x ∷ []) xs)) h.different;
    };
  }

  pub comes_first : (p : ℕ → Bool) (k : ℕ) (nodes : List ℕ) (items rest : List X) → AreToCome IsItemAt id_of limit (filter p (k ∷ nodes)) items rest → p k ≡ true
      → IsFirst IsItemAt id_of limit k (filter p nodes) items rest
  comes_first p k nodes items rest h e =
      first_of k (filter p nodes) items rest (subst (λ (b : Bool). AreToCome IsItemAt id_of limit (cond b (k ∷ filter p nodes) (filter p nodes)) items rest) e h)

  pub comes_later : (p : ℕ → Bool) (k : ℕ) (nodes : List ℕ) (items rest : List X) → AreToCome IsItemAt id_of limit (filter p (k ∷ nodes)) items rest → p k ≡ false
      → AreToCome IsItemAt id_of limit (filter p nodes) items rest
  comes_later p k nodes items rest h e = subst (λ (b : Bool). AreToCome IsItemAt id_of limit (cond b (k ∷ filter p nodes) (filter p nodes)) items rest) e h

  pub none_comes : (items rest : List X) → AreToCome IsItemAt id_of limit [] items rest → rest ≡ []
  none_comes items [] h = refl
  none_comes items (x ∷ xs) h = absurd h.read

  pub all_come : (nodes : List ℕ) (rest : List X) → AreItems IsItemAt id_of limit nodes rest → AreToCome IsItemAt id_of limit nodes [] rest
  all_come nodes rest h = record { read = h.read; few = h.few; different = h.different }
