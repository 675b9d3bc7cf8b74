-- What is told of recordings, and what is due to `judge`.
use Rattle.std.proofs.Common.{◌≡◌, ◌↔◌, ℕ, suc, ◌<◌, ◌≤◌, List, [], ◌∷◌, ◌++◌, length, map, get_or, refl, sym, ap, subst, ◌∙◌, arith}
use Rattle.std.specs.Prelude.{All, slice_index}
use Rattle.std.specs.List.{flat_map, range_with_len}
use Rattle.std.proofs.Math.ListN.{get_or-map as get_or-map-default}
use Rattle.std.proofs.lemmas.List.{get_or-map, length-map, map-append}
use Rattle.std.proofs.lemmas.List.Elements.{All-append, All-head, All-map, All-nil, All-tail}
use Rattle.std.proofs.lemmas.List.FromFn.{get_or-map-range_with_len, get_or-range_with_len, length-map-range_with_len, length-range_with_len}
use Rattle.preorder.specs.Preorder.{at_least, rules_of}
use Rattle.preorder.specs.Statements.{IsClosure}
use Rattle.preorder.specs.declared.order.Preorder.{Preorder}
use Rattle.preorder.specs.declared.row.Row.{Row}
use Rattle.rule_language.specs.declared.book.Rule.{Rule}
use Rattle.rulebook_order.specs.NoWorseBy.{IsVerdictBy, NoWorseBy}
use Rattle.rulebook_order.specs.NoWorseUnder.{IsVerdictUnder, NoWorseUnder}
use Rattle.rulebook_order.specs.Verdict.{IsVerdict}
use Rattle.rulebook_order.specs.declared.verdict.Verdict.{Verdict}
use Rattle.rulebook_order.specs.declared.verdict.Verdict.TheVariants.{Equal, First, Second, Neither}
use Rattle.rulebook_order.proofs.Agree.{Beats-agree, IsVerdictBy-statements, NoWorseBy-statements}
use Rattle.trajectory_judge.specs.Judgements.{HasVerdict, HaveLayers, place_pairs, places}
use Rattle.rulebook_order.specs.Pairs.{later_pairs}
use Rattle.trajectory_judge.specs.Layers.{BeatsAt, EndsChain, IsLayerOf, alone, after}
use Rattle.trajectory_judge.specs.Peeling.{layers_of, names_of, vectors_of}
use Rattle.trajectory_judge.specs.Records.{name_of}
use Rattle.trajectory_judge.specs.declared.judged.Judged.{Judged}
use Rattle.trajectory_judge.specs.declared.records.Records.{Records}
use Rattle.rulebook_commands.specs.Compare.{AreLines, AreNamed, IsPairLine}
use Rattle.rulebook_commands.specs.Judge.{nobody, row_at, row_of, told_pair}
use Rattle.rulebook_commands.specs.Judgeable.{IsPlaced}

-- ---- lists

-- two lists of one length with the same items are one
pub same_items : {X : Type 0} (xs ys : List X) → length xs ≡ length ys → ((i : ℕ) (d : X) → i < length xs → get_or xs i d ≡ get_or ys i d) → xs ≡ ys
same_items [] [] e h = refl
same_items [] (y ∷ ys) e h = absurd (omega (arith, e))
same_items (x ∷ xs) [] e h = absurd (omega (arith, e))
same_items (x ∷ xs) (y ∷ ys) e h =
    ap (λ z. z ∷ xs) (h 0 x (omega arith)) ∙ ap (λ zs. y ∷ zs) (same_items xs ys (omega (arith, e)) (λ i d lt. h (suc i) d (omega (arith, lt))))

module _ {X Y : Type 0} (f : X → Y) where
  abbrev both : X × X → Y × Y
  both p = (f p.0, f p.1)

  paired : (x : X) (xs : List X) → map both (map (λ y. (x, y)) xs) ≡ map (λ y. (f x, y)) (map f xs)
  paired x [] = refl
  paired x (y ∷ ys) = ap (λ (l : List (Y × Y)). (f x, f y) ∷ l) (paired x ys)

  -- pairs of what is made of items are what is made of pairs
  later_map : (xs : List X) → map both (later_pairs xs) ≡ later_pairs (map f xs)
  later_map [] = refl
  later_map (x ∷ xs) =
      map-append both (map (λ y. (x, y)) xs) (later_pairs xs)
      ∙ ap (λ (l : List (Y × Y)). l ++ map both (later_pairs xs)) (paired x xs)
      ∙ ap (λ (l : List (Y × Y)). map (λ y. (f x, y)) (map f xs) ++ l) (later_map xs)

module _ {X : Type 0} (P : X → Type 0) where
  with_first : (x : X) (xs : List X) → P x → All P xs → All (λ (q : X × X). P q.0 × P q.1) (map (λ y. (x, y)) xs)
  with_first x xs h each = All-map (λ (q : X × X). P q.0 × P q.1) (λ y. (x, y)) xs (λ k d inside. (h, each k d inside))

  -- what holds of each item holds of both of a pair
  later_all : (xs : List X) → All P xs → All (λ (q : X × X). P q.0 × P q.1) (later_pairs xs)
  later_all [] each = All-nil (λ (q : X × X). P q.0 × P q.1)
  later_all (x ∷ xs) each =
      All-append (λ (q : X × X). P q.0 × P q.1) (map (λ y. (x, y)) xs) (later_pairs xs) (with_first x xs (All-head P x xs each) (All-tail P x xs each)) (later_all xs (All-tail P x xs each))

-- as many entries as recordings
pub as_many : (records : Records) (runs : List Judged) → names_of runs ≡ map name_of records.runs → length records.runs ≡ length runs
as_many records runs names = sym (length-map records.runs name_of) ∙ ap length (sym names) ∙ length-map runs (λ (run : Judged). run.name)

-- ---- places

abbrev IsBelow : ℕ → ℕ × ℕ → Type 0
IsBelow n q = (q.0 < n) × (q.1 < n)

below_all : (n : ℕ) → All (IsBelow n) (place_pairs n)
below_all n = later_all (λ (i : ℕ). i < n) (range_with_len 0 n) (λ k d inside. below k d inside)
  where
    below : (k d : ℕ) → k < length (range_with_len 0 n) → get_or (range_with_len 0 n) k d < n
    below k d inside =
        let long = length-range_with_len 0 n in
        let within : k < n = omega (arith, inside, long) in
        let is = get_or-range_with_len 0 n k d within in
        omega (arith, within, is)

rows_are : (runs : List Judged) → map (row_at runs) (range_with_len 0 (length runs)) ≡ map row_of runs
rows_are runs = same_items (map (row_at runs) (range_with_len 0 (length runs))) (map row_of runs) (length-map-range_with_len (row_at runs) 0 (length runs) ∙ sym (length-map runs row_of)) (λ i d inside. same i d inside)
  where
    same : (i : ℕ) (d : Row) → i < length (map (row_at runs) (range_with_len 0 (length runs))) → get_or (map (row_at runs) (range_with_len 0 (length runs))) i d ≡ get_or (map row_of runs) i d
    same i d inside =
        let long = length-map-range_with_len (row_at runs) 0 (length runs) in
        let within : i < length runs = omega (arith, inside, long) in
        get_or-map-range_with_len (row_at runs) 0 (length runs) i i d within (omega arith) ∙ sym (get_or-map row_of runs i nobody d within)

-- ---- verdicts

named : (size : ℕ) (Above : ℕ → ℕ → Type 0) (x y : List ℕ) (verdict : Verdict) → IsVerdict size Above x y verdict → AreNamed size verdict
named size Above x y Equal h = tt
named size Above x y (First r) h = h.1.inside
named size Above x y (Second r) h = h.1.inside
named size Above x y (Neither r q) h = (h.0.inside, h.1.inside)

module _ (order : Preorder) (runs : List Judged) (told : List (ℕ × ℕ × Verdict)) (are : map places told ≡ place_pairs (length runs)) (verdicts : All (HasVerdict (IsVerdictBy order) (vectors_of runs)) told) where
  below_at : (k : ℕ) (d : ℕ × ℕ × Verdict) → k < length told → IsBelow (length runs) (places (get_or told k d))
  below_at k d inside =
      let long = length-map told places in
      let here = subst (λ (l : List (ℕ × ℕ)). All (IsBelow (length runs)) l) (sym are) (below_all (length runs)) k (places d) (omega (arith, inside, long)) in
      subst (IsBelow (length runs)) (get_or-map places told k d (places d) inside) here

  -- both recordings of a pair are there, and the rules that its verdict names
  pub all_placed : (rules : ℕ) → rules_of order ≡ rules → All (IsPlaced (length runs) rules) told
  all_placed rules is k d inside =
      let below = below_at k d inside in
      record { first = below.0; second = below.1; named = subst (λ (n : ℕ). AreNamed n (get_or told k d).2) is (named (rules_of order) _ _ _ (get_or told k d).2 (verdicts k d inside)) }

-- ---- lines of pairs

values_at : (runs : List Judged) (i : ℕ) → get_or (vectors_of runs) i [] ≡ (row_at runs i).values
values_at runs i = get_or-map-default (λ (run : Judged). run.vector) runs i nobody

module _ (statements : List (ℕ × ℕ)) (rules : List Rule) (runs : List Judged) (order : Preorder) (size : rules_of order ≡ length rules) (closure : IsClosure statements (length rules) (at_least order)) where
  abbrev pub PairLine : Row × Row → List ℕ → Type 0
  PairLine = IsPairLine (IsVerdictUnder statements (length rules)) rules

  abbrev rows_at : ℕ × ℕ → Row × Row
  rows_at q = (row_at runs q.0, row_at runs q.1)

  line_is : (p : ℕ × ℕ × Verdict) → HasVerdict (IsVerdictBy order) (vectors_of runs) p → PairLine (rows_at (places p)) (told_pair rules runs p)
  line_is p h =
      let under = (IsVerdictBy-statements order statements (length rules) size closure (get_or (vectors_of runs) p.0 []) (get_or (vectors_of runs) p.1 []) p.2).0 h in
      let first = subst (λ (x : List ℕ). IsVerdictUnder statements (length rules) x (get_or (vectors_of runs) p.1 []) p.2) (values_at runs p.0) under in
      (p.2, subst (λ (y : List ℕ). IsVerdictUnder statements (length rules) (row_at runs p.0).values y p.2) (values_at runs p.1) first, refl)

  lines_are : (told : List (ℕ × ℕ × Verdict)) → All (HasVerdict (IsVerdictBy order) (vectors_of runs)) told → AreLines PairLine (map rows_at (map places told)) (flat_map (told_pair rules runs) told)
  lines_are [] each = refl
  lines_are (p ∷ told) each =
      (told_pair rules runs p, flat_map (told_pair rules runs) told, line_is p (All-head (HasVerdict (IsVerdictBy order) (vectors_of runs)) p told each), lines_are told (All-tail (HasVerdict (IsVerdictBy order) (vectors_of runs)) p told each), refl)

  -- the lines of each recording against each later one
  pub told_lines : (told : List (ℕ × ℕ × Verdict)) → map places told ≡ place_pairs (length runs) → All (HasVerdict (IsVerdictBy order) (vectors_of runs)) told → AreLines PairLine (later_pairs (map row_of runs)) (flat_map (told_pair rules runs) told)
  told_lines told are each =
      subst (λ (l : List (Row × Row)). AreLines PairLine l (flat_map (told_pair rules runs) told))
      (ap (map rows_at) are ∙ later_map (row_at runs) (range_with_len 0 (length runs)) ∙ ap later_pairs (rows_are runs)) (lines_are told each)

-- ---- layers

module _ (P Q : List ℕ → List ℕ → Type 0) (agree : (x y : List ℕ) → P x y ↔ Q x y) (vectors : List (List ℕ)) where
  chain_there : (m i : ℕ) → EndsChain (length vectors) (BeatsAt P vectors) m i → EndsChain (length vectors) (BeatsAt Q vectors) m i
  chain_there m j (alone i inside) = alone i inside
  chain_there m j (after k i l chain inside beats) = after k i l (chain_there k i chain) inside ((Beats-agree P Q _ _ (agree _ _) (agree _ _)).0 beats)

pub layers_agree : (P Q : List ℕ → List ℕ → Type 0) → ((x y : List ℕ) → P x y ↔ Q x y) → (runs : List Judged) → HaveLayers P runs → HaveLayers Q runs
layers_agree P Q agree runs have i inside =
    let is = have i inside in
    record {
      chain = chain_there P Q agree (vectors_of runs) _ i is.chain;
      longest = λ k chain. is.longest k (chain_there Q P (λ x y. ((agree x y).1, (agree x y).0)) (vectors_of runs) k i chain);
    }

-- by the statements of a book
pub layers_under : (statements : List (ℕ × ℕ)) (size : ℕ) (order : Preorder) → rules_of order ≡ size → IsClosure statements size (at_least order) → (runs : List Judged) → HaveLayers (NoWorseBy order) runs → HaveLayers (NoWorseUnder statements size) runs
layers_under statements size order is closure runs have = layers_agree (NoWorseBy order) (NoWorseUnder statements size) (NoWorseBy-statements order statements size is closure) runs have

-- ---- one judgement

as_low : (m k : ℕ) → m ≤ k → k ≤ m → m ≡ k
as_low m k h g = omega (arith, h, g)

-- recordings with the same names and vectors have the same layers
module _ (IsNoWorse : List ℕ → List ℕ → Type 0) (xs ys : List Judged) (names : names_of xs ≡ names_of ys) (vectors : vectors_of xs ≡ vectors_of ys) (have : HaveLayers IsNoWorse xs) (got : HaveLayers IsNoWorse ys) where
  as_long : length xs ≡ length ys
  as_long = sym (length-map xs (λ (run : Judged). run.name)) ∙ ap length names ∙ length-map ys (λ (run : Judged). run.name)

  same_layer : (i : ℕ) → i < length xs → slice_index (layers_of xs) i ≡ slice_index (layers_of ys) i
  same_layer i inside =
      let one = have i inside in
      let other = subst (λ (vs : List (List ℕ)). IsLayerOf IsNoWorse vs i (slice_index (layers_of ys) i)) (sym vectors) (got i (omega (arith, inside, as_long))) in
      as_low (slice_index (layers_of xs) i) (slice_index (layers_of ys) i) (other.longest (slice_index (layers_of xs) i) one.chain) (one.longest (slice_index (layers_of ys) i) other.chain)

  abbrev with_parts : List ℕ → ℕ → List ℕ → Judged
  with_parts name layer vector = record { name = name; layer = layer; vector = vector }

  same_run : (i : ℕ) (d : Judged) → i < length xs → get_or xs i d ≡ get_or ys i d
  same_run i d inside =
      let within : i < length ys = omega (arith, inside, as_long) in
      let name : (get_or xs i d).name ≡ (get_or ys i d).name = sym (get_or-map (λ (run : Judged). run.name) xs i d [] inside) ∙ ap (λ (l : List (List ℕ)). get_or l i []) names ∙ get_or-map (λ (run : Judged). run.name) ys i d [] within in
      let vector : (get_or xs i d).vector ≡ (get_or ys i d).vector = sym (get_or-map (λ (run : Judged). run.vector) xs i d [] inside) ∙ ap (λ (l : List (List ℕ)). get_or l i []) vectors ∙ get_or-map (λ (run : Judged). run.vector) ys i d [] within in
      let layer : (get_or xs i d).layer ≡ (get_or ys i d).layer = sym (get_or-map (λ (run : Judged). run.layer) xs i d 0 inside) ∙ same_layer i inside ∙ get_or-map (λ (run : Judged). run.layer) ys i d 0 within in
      ap (λ (n : List ℕ). with_parts n (get_or xs i d).layer (get_or xs i d).vector) name ∙ ap (λ (l : ℕ). with_parts (get_or ys i d).name l (get_or xs i d).vector) layer ∙ ap (with_parts (get_or ys i d).name (get_or ys i d).layer) vector

  pub one_judging : xs ≡ ys
  one_judging = same_items xs ys as_long same_run
