-- A source that finds what the one bound finds, with the same bounds, is one that the book is bound to.
use Rattle.std.proofs.Common.{◌≡◌, ℕ, List, Option, Some, None, refl, sym, ap, subst, ◌∙◌}
use Rattle.std.specs.Prelude.{IsTrue}
use Rattle.expressions.specs.declared.tree.Argument.{Argument}
use Rattle.rule_language.specs.declared.book.Rule.{Rule}
use Rattle.rule_language.specs.declared.part.Part.{Part}
use Rattle.violation_measures.specs.Amounts.{IsBoundPart}
use Rattle.violation_measures.specs.Binding.{IsBoundRule, IsBoundTo}
use Rattle.violation_measures.specs.Formulas.{Find}
use Rattle.violation_measures.specs.Intervals.{Bounds, all_known, all_keep}
use Rattle.violation_measures.specs.Resolved.{resolved_book}
use Rattle.violation_measures.specs.Sources.{Features, AreAlike, bounds_of, bounds_found}
use Rattle.violation_measures.specs.declared.bound.Bound.{Bound}

found_same : (a b : Features) → AreAlike a b → (name : List ℕ) (argument : Option Argument) (found : Option ℕ) → a.find name argument ≡ found → bounds_found b.bounds found ≡ bounds_found a.bounds found
found_same a b h name argument None e = refl
found_same a b h name argument (Some n) e = h.bounds n (name, argument, e)

bounds_same : (a b : Features) → AreAlike a b → bounds_of b ≡ bounds_of a
bounds_same a b h = λ i name argument.
    (ap (bounds_found b.bounds) (h.find name argument) ∙ found_same a b h name argument (a.find name argument) refl) i

find_same : (a b : Features) → AreAlike a b → b.find ≡ a.find
find_same a b h = λ i name argument. h.find name argument i

part_bound : (a b : Features) → AreAlike a b → (part : Part) → IsBoundPart a part → IsBoundPart b part
part_bound a b h part p = record {
  weight = p.weight;
  well_formed = p.well_formed;
  known = subst (λ (find : List ℕ → Option Argument → Option ℕ). IsTrue (all_known find part.expr)) (sym (find_same a b h)) p.known;
  keeps = subst (λ (bounds : Bounds). IsTrue (all_keep bounds part.expr)) (sym (bounds_same a b h)) p.keeps;
}

rule_bound : (a b : Features) → AreAlike a b → (rule : Rule) → IsBoundRule a rule → IsBoundRule b rule
rule_bound a b h rule r = record { some = r.some; few = r.few; parts = λ i part within. part_bound a b h _ (r.parts i part within) }

pub bound_alike : (a b : Features) (bound : Bound) → AreAlike a b → IsBoundTo a bound → IsBoundTo b bound
bound_alike a b bound h k = record {
  some = k.some;
  few = k.few;
  rules = λ i rule within. rule_bound a b h _ (k.rules i rule within);
  resolved = k.resolved ∙ ap (λ (find : Find). resolved_book find bound.book) (sym (find_same a b h));
}
