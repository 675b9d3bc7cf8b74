use Rattle.std.proofs.Common.{◌++◌, List, ℕ, IsTrue, length, drop, replicate, sym, ◌∙◌, subst}
use Rattle.preorder.specs.Name.{is_name}
use Rattle.preorder.specs.NameInside.{IsWhole, made, whole_from_text}
use Rattle.preorder.proofs.name.Name.new.Goals as goal

pub invariant_of-result : goal.invariant_of-result
invariant_of-result c =
    let name : IsTrue (is_name c.args.text.now) = sym c.is_name.ensures.exact ∙ c.if-not-is_name.false in
    subst (λ (front : List ℕ). IsWhole (made (front ++ drop (length c.args.text.now) (replicate 24 0)) (length c.args.text.now))) (sym c.copy_from_slice.ensures.after)
    (whole_from_text c.args.text.now name (c.is_name.ensures.short c.if-not-is_name.false))
