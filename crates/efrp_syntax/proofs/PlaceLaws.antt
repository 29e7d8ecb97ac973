-- A token has one place in a text, and what is one too many is one token.
use Rattle.std.proofs.Common.{◌≡◌, ℕ, ◌+◌, ◌≤◌, Bool, List, [], ◌∷◌, ◌++◌, length, inl, inr, refl, sym, ap, ◌∙◌, arith}
use Rattle.std.proofs.lemmas.List.{length-append}
use Rattle.frp_tree.specs.declared.kinds.Kind.{Kind}
use Rattle.frp_tree.specs.declared.tokens.Token.{Token}
use Rattle.frp_tree.specs.Breaks.{IsTooMany}
use Rattle.frp_tree.specs.Prefixes.{IsFirstToken}
use Rattle.frp_tree.specs.Tokens.{Cuts}
use Rattle.frp_tree.proofs.BreakLaws.{many, past_once}
use Rattle.frp_tree.proofs.LexemeLaws.{lexeme_some}
use Rattle.frp_tree.proofs.TokenLaws.{Opened, stays, skips, takes, opened, skip_apart, Joined, joined, follow}
use Rattle.efrp_syntax.specs.Places.{BeginsAt, EndsAt, IsTokenPlace}

-- Where no token is taken, and one begins, nothing is skipped.
stays_at : (after last : Bool) (rest other more : List ℕ) (ts : List Token) (t : Token) → IsFirstToken after rest t more → ts ≡ [] → Cuts after rest ts last other → rest ≡ other
stays_at after last rest other more ts t f none c = go (opened c)
  where
    go : Opened after rest ts last other → rest ≡ other
    go (stays e n a) = e
    go (skips next s d) = absurd (skip_apart after rest next more t s f)
    go (takes u us next g e d) = cc (e, none)

none_left : (ts us vs : List Token) → length us ≤ length ts → us ≡ ts ++ vs → vs ≡ []
none_left ts us [] few e = refl
none_left ts us (v ∷ vs) few e = absurd (omega (arith, few, ap length e, length-append ts (v ∷ vs)))

one_begin : (text : List ℕ) (n p q : ℕ) → BeginsAt text n p → BeginsAt text n q → p ≡ q
one_begin text n p q h k = go (joined h.reached.cut k.reached.cut)
  where
    same : h.rest ≡ k.rest → p ≡ q
    same e = omega (arith, ap length e, h.reached.«at», k.reached.«at»)

    go : Joined h.after h.rest h.reached.tokens k.after k.rest k.reached.tokens → p ≡ q
    go (inl j) = same (stays_at h.after k.after h.rest k.rest h.more j.0 h.token h.first (none_left h.reached.tokens k.reached.tokens j.0 (omega (arith, h.number, k.number)) j.2) j.1)
    go (inr j) = same (sym (stays_at k.after h.after k.rest h.rest k.more j.0 k.token k.first (none_left k.reached.tokens h.reached.tokens j.0 (omega (arith, h.number, k.number)) j.2) j.1))

-- No token begins behind the last one.
begins_not_ends : (text : List ℕ) (n p q : ℕ) → BeginsAt text n p → EndsAt text n q → ⊥
begins_not_ends text n p q h k =
    let (vs, c, e) = follow h.reached.cut k.cut.2 in
    let over : h.rest ≡ [] = stays_at h.after k.cut.1 h.rest [] h.more vs h.token h.first (none_left h.reached.tokens k.tokens vs (omega (arith, h.number, k.few)) e) c in
    lexeme_some h.token h.first.w h.more h.first.lexeme (sym h.first.spelled ∙ over)

pub one_token_place : (text : List ℕ) (n p q : ℕ) → IsTokenPlace text n p → IsTokenPlace text n q → p ≡ q
one_token_place text n p q (inl h) (inl k) = one_begin text n p q h k
one_token_place text n p q (inl h) (inr k) = absurd (begins_not_ends text n p q h k)
one_token_place text n p q (inr h) (inl k) = absurd (begins_not_ends text n q p k h)
one_token_place text n p q (inr h) (inr k) = h.«at» ∙ sym k.«at»

pub token_within : (text : List ℕ) (n p : ℕ) → IsTokenPlace text n p → p ≤ length text
token_within text n p (inl h) = omega (arith, h.reached.«at»)
token_within text n p (inr h) = omega (arith, h.«at»)

pub one_many : (ts : List Token) (k j : Kind) → (a : IsTooMany ts k) → (b : IsTooMany ts j) → a.n ≡ b.n
one_many ts k j a b = let both = past_once ts a.n b.n a.first b.first (many k a.many) (many j b.many) in both.0
