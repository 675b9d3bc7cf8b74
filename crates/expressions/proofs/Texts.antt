-- What is read is the tree whose text it is, both ways.
use Rattle.std.proofs.Common.{◌≡◌, ℕ, List, [], ◌∷◌, ◌++◌, Result, Ok, Err, refl, sym, ap, subst, ◌∙◌}
use Rattle.std.specs.Prelude.{IfOk, IfErr}
use Rattle.std.specs.Bool.{OnFalse}
use Rattle.std.proofs.lemmas.List.{append-nil}
use Rattle.reading.specs.Reading.{Gives}
use Rattle.expressions.specs.declared.limits.TheConstants.{MAX_BRACKETS}
use Rattle.expressions.specs.declared.fault.ExprFault.{ExprFault}
use Rattle.expressions.specs.declared.fault.ExprFault.TheVariants.{Syntax, NoMemory}
use Rattle.expressions.specs.declared.token.Token.{Token}
use Rattle.expressions.specs.declared.tree.Expr.{Expr}
use Rattle.expressions.specs.Tokens.{is_memory, tokens_of}
use Rattle.expressions.specs.Grammar.{expr, Is, IsSpelled}
use Rattle.expressions.specs.Reading.{expr_at, inside, tree_of, expr_of, nothing_left}
use Rattle.expressions.proofs.Complete.{complete, expr_ends}
use Rattle.expressions.proofs.Sound.{Front, bound, sound}

record Done (x : Expr × List Token) (e : Expr) : Type 0 where
  none : x.1 ≡ []
  tree : x.0 ≡ e

done : (x : Expr × List Token) (e : Expr) → nothing_left x ≡ Ok e → Done x e
done (a, []) e h = record { none = refl; tree = cc }
done (a, t ∷ ts) e h = absurd cc

all_of : (ts : List Token) (x : Expr × List Token) (e : Expr) → Front expr MAX_BRACKETS ts x → Done x e → Is expr MAX_BRACKETS ts e
all_of ts x e f d =
    let cut : ts ≡ f.front = f.cut ∙ ap (λ (us : List Token). f.front ++ us) d.none ∙ append-nil f.front in
    subst (λ (us : List Token). Is expr MAX_BRACKETS us e) (sym cut) (subst (λ (a : Expr). Is expr MAX_BRACKETS f.front a) d.tree f.is)

pub spelled : (ws : List (List ℕ)) (e : Expr) → expr_of ws ≡ Ok e → IsSpelled ws e
unfolding expr_of tree_of
spelled ws e h =
    let t = bound (tokens_of ws) tree_of e h in
    let x = bound (expr_at MAX_BRACKETS (inside MAX_BRACKETS) t.value) nothing_left e t.then in
    (t.value, t.was, all_of t.value x.value e (sound MAX_BRACKETS t.value x.value x.was) (done x.value e x.then))

pub is_read : (ws : List (List ℕ)) (e : Expr) → IsSpelled ws e → expr_of ws ≡ Ok e
unfolding expr_of tree_of
is_read ws e (ts, cut, is) =
    let read : expr_at MAX_BRACKETS (inside MAX_BRACKETS) ts ≡ Ok (e, []) = ap (expr_at MAX_BRACKETS (inside MAX_BRACKETS)) (sym (append-nil ts)) ∙ expr_ends MAX_BRACKETS ts e [] (complete expr MAX_BRACKETS ts e is []) tt in
    rw (cut, read) refl

pub text_of : (ws : List (List ℕ)) (r : Result Expr ExprFault) → Gives is_memory (λ e. e) r (expr_of ws) → IfOk r (IsSpelled ws)
text_of ws (Ok e) h = spelled ws e h
text_of ws (Err f) h = tt

pub each_text : (ws : List (List ℕ)) (r : Result Expr ExprFault) → Gives is_memory (λ e. e) r (expr_of ws) → (e : Expr) → IsSpelled ws e → Gives is_memory (λ x. x) r (Ok e)
each_text ws (Ok a) h e k = sym (is_read ws e k) ∙ h
each_text ws (Err NoMemory) h e k = tt
each_text ws (Err Syntax) h e k = sym (is_read ws e k) ∙ h

pub refused : (ws : List (List ℕ)) (r : Result Expr ExprFault) → ((e : Expr) → IsSpelled ws e → Gives is_memory (λ x. x) r (Ok e)) → IfErr r (λ f. OnFalse (is_memory f) ((e : Expr) → ¬ IsSpelled ws e))
refused ws (Ok a) h = tt
refused ws (Err NoMemory) h = tt
refused ws (Err Syntax) h = λ e k. let no : ◌≡◌ {A = Result Expr ExprFault} (Ok e) (Err Syntax) = h e k in cc

pub one_tree : (ws : List (List ℕ)) (a b : Expr) → IsSpelled ws a → IsSpelled ws b → a ≡ b
one_tree ws a b h k = let same : ◌≡◌ {A = Result Expr ExprFault} (Ok a) (Ok b) = sym (is_read ws a h) ∙ is_read ws b k in cc
