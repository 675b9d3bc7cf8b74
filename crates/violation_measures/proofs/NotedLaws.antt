-- What is noted: each number of a list once, up to the most.
use Rattle.std.proofs.Common.{◌≡◌, ◌≢◌, ℕ, ◌<◌, ◌≤◌, ◌==◌, Bool, true, false, cond, List, [], ◌∷◌, ◌++◌, length, get_or, length-append, refl, subst, arith}
use Rattle.std.specs.Prelude.{All, nat_le, ◌||◌}
use Rattle.std.specs.List.{fold, list_any, AllPairs, Contains}
use Rattle.std.proofs.lemmas.Bool.Decides.{nat_tests, Decides-eqb}
use Rattle.std.proofs.lemmas.List.Elements.{All-nil, All-cons, All-head, All-tail, All-append, Contains-append_left, Contains-append_right, Contains-push}
use Rattle.std.proofs.lemmas.List.Folds.{list_any_at}
use Rattle.std.proofs.lemmas.List.Quantifiers.{all_pairs_push}
use Rattle.violation_measures.specs.Measured.{noted}
use Rattle.violation_measures.specs.declared.used.TheConstants.{MAX_MEASURED}

-- ---- they are few

few_noted : (b : Bool) (used : List ℕ) (n : ℕ) → nat_le MAX_MEASURED (length used) ≡ b → (c : Bool) → length used ≤ MAX_MEASURED → length (cond (b || c) used (used ++ n ∷ [])) ≤ MAX_MEASURED
few_noted true used n e c few = few
few_noted false used n e true few = few
few_noted false used n e false few =
    let less : length used < MAX_MEASURED = grind (arith, nat_tests, e) in
    omega (arith, length-append used (n ∷ []), less)

pub few_folded : (ns used : List ℕ) → length used ≤ MAX_MEASURED → length (fold noted used ns) ≤ MAX_MEASURED
few_folded [] used few = few
few_folded (n ∷ ns) used few = few_folded ns (noted used n) (few_noted (nat_le MAX_MEASURED (length used)) used n refl (list_any (λ m. m == n) used) few)

-- ---- what is so of the numbers of the list is so of those that are noted

all_noted : (P : ℕ → Type 0) (b : Bool) (used : List ℕ) (n : ℕ) → All P used → P n → All P (cond b used (used ++ n ∷ []))
all_noted P true used n h k = h
all_noted P false used n h k = All-append P used (n ∷ []) h (All-cons P n [] k (All-nil P))

pub all_folded : (P : ℕ → Type 0) (ns used : List ℕ) → All P used → All P ns → All P (fold noted used ns)
all_folded P [] used h k = h
all_folded P (n ∷ ns) used h k =
    all_folded P ns (noted used n) (all_noted P (nat_le MAX_MEASURED (length used) || list_any (λ m. m == n) used) used n h (All-head P n ns k)) (All-tail P n ns k)

holds_all : (ns : List ℕ) → All (Contains ns) ns
holds_all [] = All-nil (Contains [])
holds_all (n ∷ ns) =
    All-cons (Contains (n ∷ ns)) n ns (Contains-append_left (n ∷ []) ns n (Contains-push [] n)) (λ k d within. Contains-append_right (n ∷ []) ns _ (holds_all ns k d within))

pub only_those : (ns : List ℕ) → All (Contains ns) (fold noted [] ns)
only_those ns = all_folded (Contains ns) ns [] (All-nil (Contains ns)) (holds_all ns)

-- ---- each is noted once

not_there : (used : List ℕ) (n : ℕ) → list_any (λ m. m == n) used ≡ false → (k d : ℕ) → k < length used → get_or used k d ≢ n
not_there used n e k d within = λ same.
    let found : list_any (λ m. m == n) used ≡ true = list_any_at (λ m. m == n) used k d within ((Decides-eqb (get_or used k d) n).1 same) in
    cc

once_noted : (b c : Bool) (used : List ℕ) (n : ℕ) → list_any (λ m. m == n) used ≡ c → AllPairs (λ x y. x ≢ y) used → AllPairs (λ x y. x ≢ y) (cond (b || c) used (used ++ n ∷ []))
once_noted true c used n e h = h
once_noted false true used n e h = h
once_noted false false used n e h = all_pairs_push (λ x y. x ≢ y) used n h (not_there used n e)

once_folded : (ns used : List ℕ) → AllPairs (λ x y. x ≢ y) used → AllPairs (λ x y. x ≢ y) (fold noted used ns)
once_folded [] used h = h
once_folded (n ∷ ns) used h = once_folded ns (noted used n) (once_noted (nat_le MAX_MEASURED (length used)) (list_any (λ m. m == n) used) used n refl h)

pub each_once : (ns : List ℕ) → AllPairs (λ x y. x ≢ y) (fold noted [] ns)
each_once ns = once_folded ns [] (λ i j d lt within same. omega (arith, within))

-- ---- all are noted where there is room

stays_noted : (b : Bool) (used : List ℕ) (n x : ℕ) → Contains used x → Contains (cond b used (used ++ n ∷ [])) x
stays_noted true used n x h = h
stays_noted false used n x h = Contains-append_left used (n ∷ []) x h

stays : (ns used : List ℕ) (x : ℕ) → Contains used x → Contains (fold noted used ns) x
stays [] used x h = h
stays (n ∷ ns) used x h = stays ns (noted used n) x (stays_noted (nat_le MAX_MEASURED (length used) || list_any (λ m. m == n) used) used n x h)

longer_noted : (b : Bool) (used : List ℕ) (n : ℕ) → length used ≤ length (cond b used (used ++ n ∷ []))
longer_noted true used n = omega arith
longer_noted false used n = omega (arith, length-append used (n ∷ []))

longer : (ns used : List ℕ) → length used ≤ length (fold noted used ns)
longer [] used = omega arith
longer (n ∷ ns) used = omega (arith, longer ns (noted used n), longer_noted (nat_le MAX_MEASURED (length used) || list_any (λ m. m == n) used) used n)

there_from : (m n : ℕ) (ms : List ℕ) (b c : Bool) → (m == n) ≡ b → (c ≡ true → Contains ms n) → (b || c) ≡ true → Contains (m ∷ ms) n
there_from m n ms true c same h e = subst (λ (k : ℕ). Contains (m ∷ ms) k) ((Decides-eqb m n).0 same) (Contains-append_left (m ∷ []) ms m (Contains-push [] m))
there_from m n ms false c same h e = Contains-append_right (m ∷ []) ms n (h e)

there : (used : List ℕ) (n : ℕ) → list_any (λ m. m == n) used ≡ true → Contains used n
there [] n e = absurd cc
there (m ∷ ms) n e = there_from m n ms (m == n) (list_any (λ k. k == n) ms) refl (there ms n) e

named_noted : (b c : Bool) (used : List ℕ) (n : ℕ) → nat_le MAX_MEASURED (length used) ≡ b → list_any (λ m. m == n) used ≡ c → length used < MAX_MEASURED → Contains (cond (b || c) used (used ++ n ∷ [])) n
named_noted true c used n full e room = absurd (let far : MAX_MEASURED ≤ length used = grind (arith, nat_tests, full) in omega (arith, far, room))
named_noted false true used n full e room = there used n e
named_noted false false used n full e room = Contains-push used n

pub all_named : (ns used : List ℕ) → length (fold noted used ns) < MAX_MEASURED → All (Contains (fold noted used ns)) ns
all_named [] used room = All-nil (Contains used)
all_named (n ∷ ns) used room =
    let next = noted used n in
    let few : length used < MAX_MEASURED = omega (arith, room, longer ns next, longer_noted (nat_le MAX_MEASURED (length used) || list_any (λ m. m == n) used) used n) in
    All-cons (Contains (fold noted next ns)) n ns (stays ns next n (named_noted (nat_le MAX_MEASURED (length used)) (list_any (λ m. m == n) used) used n refl refl few)) (all_named ns next room)
