-- What is visited after one more state.
use Rattle.std.proofs.Common.{◌≡◌, ℕ, zero, suc, ◌≤◌, ◌+◌, List, [], ◌∷◌, ◌++◌, length, take, sym, ap, ◌∙◌, subst, arith}
use Rattle.rulebook_order.specs.Graph.{Graph}
use Rattle.graph_table.specs.Visits.{each_below, row_for, choices_of}
use Rattle.graph_table.specs.Waiting.{HasVisited}
use Rattle.graph_table.specs.declared.visit.Visit.{Visit}
use Rattle.graph_table.proofs.Choices.{each-snoc, rows-snoc, length_each, choices-append}
use Rattle.graph_table.proofs.Inserted.{BeginsWith}

module _ {S : Type 0} (g : Graph S) where
  pub visited_more : (states more : List S) (s : S) (old new : Visit S) → more ≡ states ++ s ∷ [] → HasVisited g states old
      → new.rows ≡ old.rows ++ row_for g s (length old.nexts) ∷ [] → new.nexts ≡ old.nexts ++ each_below g.next s (g.choices s) → new.costs ≡ old.costs ++ each_below g.cost s (g.choices s)
      → HasVisited g more new
  visited_more states more s old new is was rows nexts costs =
      let long : length old.nexts ≡ 0 + choices_of g states = ap length was.nexts ∙ (length_each g.next g states ∙ (omega arith)) in
      subst (λ all. HasVisited g all new) (sym is) (record {
        rows = rows ∙ (ap (λ n. old.rows ++ row_for g s n ∷ []) long ∙ (ap (λ xs. xs ++ row_for g s (0 + choices_of g states) ∷ []) was.rows ∙ sym (rows-snoc g 0 states s)));
        nexts = nexts ∙ (ap (λ xs. xs ++ each_below g.next s (g.choices s)) was.nexts ∙ sym (each-snoc g.next g states s));
        costs = costs ∙ (ap (λ xs. xs ++ each_below g.cost s (g.choices s)) was.costs ∙ sym (each-snoc g.cost g states s));
      })

  pub choices_more : (states more : List S) (s : S) → more ≡ states ++ s ∷ [] → choices_of g more ≡ choices_of g states + g.choices s
  choices_more states more s is = ap (choices_of g) is ∙ (choices-append g states (s ∷ []) ∙ (omega arith))

  -- the first states of a list of which these are the beginning
  take_begun : (limit : ℕ) (xs rest : List S) → length xs ≤ limit → choices_of g xs ≤ choices_of g (take limit (xs ++ rest))
  take_begun limit [] rest h = omega arith
  take_begun zero (x ∷ xs) rest h = absurd (omega arith)
  take_begun (suc limit) (x ∷ xs) rest h = (let more = take_begun limit xs rest (omega arith) in omega arith)

  pub choices_within : (limit : ℕ) (xs ys : List S) → BeginsWith ys xs → length xs ≤ limit → choices_of g xs ≤ choices_of g (take limit ys)
  choices_within limit xs ys b h = subst (λ all. choices_of g xs ≤ choices_of g (take limit all)) (sym b.is) (take_begun limit xs b.rest h)
