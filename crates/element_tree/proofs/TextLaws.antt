-- The text before an end tag is that of the content there.
use Rattle.std.proofs.Common.{◌≡◌, ℕ, suc, ◌+◌, Bool, true, false, cond, List, [], ◌∷◌, ◌++◌, length, take, drop, Option, Some, None, refl, ap, sym, ◌∙◌, arith}
use Rattle.std.specs.Prelude.{option_map, codes}
use Rattle.std.specs.List.{position_or_len}
use Rattle.std.proofs.lemmas.List.{append-nil}
use Rattle.element_tree.specs.declared.token.Kind.{Kind}
use Rattle.element_tree.specs.declared.token.Kind.TheVariants.{Text, Aside, End, Start}
use Rattle.element_tree.specs.Bytes.{is_open}
use Rattle.element_tree.specs.Pieces.{pieces}
use Rattle.element_tree.specs.Tokens.{begins, cut_token}
use Rattle.element_tree.specs.Trees.{trim, text_before_end}
use Rattle.element_tree.specs.Contents.{Content, nothing, text, aside, empty, element, tokens}
use Rattle.element_tree.specs.Shown.{text_alone}
use Rattle.element_tree.proofs.Heads.{first_token, cut_begins}

abbrev Token : Type 0
Token = Kind × List ℕ

-- what stands before the first `<`, if that begins an end tag
abbrev lead : List ℕ → Option (List ℕ)
lead bytes = cond (begins (drop (position_or_len is_open bytes) bytes) (codes "</")) (Some (take (position_or_len is_open bytes) bytes)) None

lead_at : (bytes : List ℕ) (b : Bool) → position_or_len is_open bytes ≡ 0 → begins bytes (codes "</") ≡ b → lead bytes ≡ cond b (Some []) None
lead_at bytes b e h = rw (e, h) refl

at_open_by : (b : ℕ) (bytes : List ℕ) (open_here : Bool) → is_open b ≡ open_here → position_or_len is_open (drop (position_or_len is_open bytes) bytes) ≡ 0
    → position_or_len is_open (drop (position_or_len is_open (b ∷ bytes)) (b ∷ bytes)) ≡ 0
at_open_by b bytes true h k = rw h (rw h refl)
at_open_by b bytes false h k = let e : 1 + position_or_len is_open bytes ≡ suc (position_or_len is_open bytes) = omega arith in rw (h, e) k

at_open : (bytes : List ℕ) → position_or_len is_open (drop (position_or_len is_open bytes) bytes) ≡ 0
at_open [] = refl
at_open (b ∷ bytes) = at_open_by b bytes (is_open b) refl (at_open bytes)

joined : (b : Bool) (xs : List ℕ) → cond b (Some xs) None ≡ option_map (λ more. xs ++ more) (cond b (Some []) None)
joined true xs = ap (λ (x : List ℕ). Some x) (sym (append-nil xs))
joined false xs = refl

lead_more : (bytes : List ℕ) → lead bytes ≡ option_map (λ more. take (position_or_len is_open bytes) bytes ++ more) (lead (drop (position_or_len is_open bytes) bytes))
lead_more bytes =
    let n = position_or_len is_open bytes in
    joined (begins (drop n bytes) (codes "</")) (take n bytes)
    ∙ ap (λ (x : Option (List ℕ)). option_map (λ more. take n bytes ++ more) x) (sym (lead_at (drop n bytes) (begins (drop n bytes) (codes "</")) (at_open bytes) refl))

lead_is : (c : Content) (bytes e : List ℕ) (more : List Token) → pieces cut_token bytes ≡ (tokens c ++ (End, e) ∷ more, []) → lead bytes ≡ text_alone c
lead_is nothing bytes e more h =
    let first = first_token bytes (End, e) more h in
    let k = cut_begins bytes ((End, e), drop (length e) bytes) first.cut in
    lead_at bytes true k.1.0 k.1.1
lead_is (text b c) bytes e more h =
    let first = first_token bytes (Text, b) (tokens c ++ (End, e) ∷ more) h in
    let k = cut_begins bytes ((Text, b), drop (length b) bytes) first.cut in
    let n = position_or_len is_open bytes in
    let front : take n bytes ≡ b = ap (λ (m : ℕ). take m bytes) (sym k.1) ∙ sym k.2 in
    let rest : drop n bytes ≡ drop (length b) bytes = ap (λ (m : ℕ). drop m bytes) (sym k.1) ∙ sym k.3 in
    lead_more bytes ∙ ap (λ (x : List ℕ). option_map (λ m. x ++ m) (lead (drop n bytes))) front ∙ ap (λ (x : List ℕ). option_map (λ m. b ++ m) (lead x)) rest
    ∙ ap (λ (x : Option (List ℕ)). option_map (λ m. b ++ m) x) (lead_is c (drop (length b) bytes) e more first.next)
lead_is (aside b c) bytes e more h =
    let first = first_token bytes (Aside, b) (tokens c ++ (End, e) ∷ more) h in
    let k = cut_begins bytes ((Aside, b), drop (length b) bytes) first.cut in
    lead_at bytes false k.1.0 k.1.1
lead_is (empty t c) bytes e more h =
    let first = first_token bytes (Start, t) (tokens c ++ (End, e) ∷ more) h in
    let k = cut_begins bytes ((Start, t), drop (length t) bytes) first.cut in
    lead_at bytes false k.1.0 k.1.1
lead_is (element t inside f c) bytes e more h =
    let first = first_token bytes (Start, t) ((tokens inside ++ (End, f) ∷ tokens c) ++ (End, e) ∷ more) h in
    let k = cut_begins bytes ((Start, t), drop (length t) bytes) first.cut in
    lead_at bytes false k.1.0 k.1.1

trimmed : (b : Bool) (xs : List ℕ) → cond b (Some (trim xs)) None ≡ option_map trim (cond b (Some xs) None)
trimmed true xs = refl
trimmed false xs = refl

pub text_is_alone : (c : Content) (bytes e : List ℕ) (more : List Token) → pieces cut_token bytes ≡ (tokens c ++ (End, e) ∷ more, []) → text_before_end bytes ≡ option_map trim (text_alone c)
unfolding text_before_end
text_is_alone c bytes e more h =
    let n = position_or_len is_open bytes in
    trimmed (begins (drop n bytes) (codes "</")) (take n bytes) ∙ ap (λ (x : Option (List ℕ)). option_map trim x) (lead_is c bytes e more h)
