-- The loop over a text: tokens that lead up to a place, and a fault there.
use Rattle.std.proofs.Common.{◌≡◌, ◌≢◌, ℕ, ◌+◌, ◌<◌, ◌≤◌, Bool, true, false, List, [], ◌∷◌, ◌++◌, length, None, Result, Ok, Err, IfOk, IfErr, ◌==◌, ◌⊎◌, inl, inr, refl, sym, ap, subst, ◌∙◌, arith}
use Rattle.std.specs.List.{AllByRecursion}
use Rattle.std.proofs.lemmas.Bool.{eqb-true, false≢true}
use Rattle.std.proofs.lemmas.List.{append-nil, append_assoc, length-append}
use Rattle.frp_tree.specs.Tokens.{IsLexeme, starts_comment, is_number_token, Cuts, here, IsWithin, Reaches, IsBadByte, IsTooBig, HasTokens}
use Rattle.frp_tree.specs.Prefixes.{Skips, IsFirstToken}
use Rattle.frp_tree.specs.declared.tokens.Token.{Token}
use Rattle.frp_tree.proofs.LexemeLaws.{lexeme_some}
use Rattle.frp_tree.proofs.TokenLaws.{skip, take_token, one_list, bad_none, big_none, one_bad, one_big, bad_no_big}
use Rattle.efrp_syntax.specs.Pieces.{Skipped, Taken}
use Rattle.efrp_syntax.specs.Lexed.{Lexed, OnlyMemory, IsRefused}
use Rattle.efrp_syntax.specs.declared.faults.SyntaxFault.{SyntaxFault}
use Rattle.efrp_syntax.specs.declared.faults.SyntaxFault.TheVariants.{BadByte, TooBig, Unexpected, TooDeep, TooMany, Memory}

-- How far a text has been cut: what comes of the rest comes of the whole.
pub record HasCut (text rest : List ℕ) (after : Bool) (found : List Token) : Type 0 where
  pub goes_on : (ts : List Token) (last : Bool) (end : List ℕ) → Cuts after rest ts last end → Cuts false text (found ++ ts) last end
  pub within : AllByRecursion IsWithin found
  pub shorter : length rest ≤ length text

pub skip_shorter : (text more : List ℕ) → Skips text more → length more < length text
skip_shorter text more (inl s) = omega (arith, ap length s.spelled)
skip_shorter text more (inr s) = omega (arith, ap length s.spelled, length-append s.body more)

pub prefix_shorter : (after : Bool) (text more : List ℕ) (t : Token) → IsFirstToken after text t more → length more < length text
prefix_shorter after text more t f = go f.w f.lexeme f.spelled
  where
    go : (w : List ℕ) → IsLexeme w t → text ≡ w ++ more → length more < length text
    go [] l e = absurd (lexeme_some t [] [] l refl)
    go (b ∷ w) l e = omega (arith, ap length e, length-append (b ∷ w) more)

pub cut_skip : (text rest more : List ℕ) (after : Bool) (found : List Token) → HasCut text rest after found → Skips rest more → HasCut text more false found
cut_skip text rest more after found h s = record {
  goes_on = λ ts last end c. h.goes_on ts last end (skip after rest more s c);
  within = h.within;
  shorter = omega (arith, skip_shorter rest more s, h.shorter);
}

all_push : (P : Token → Type 0) (ts : List Token) (t : Token) → AllByRecursion P ts → P t → AllByRecursion P (ts ++ t ∷ [])
all_push P [] t h p = (p, tt)
all_push P (x ∷ ts) t h p = (h.0, all_push P ts t h.1 p)

pub cut_prefix : (text rest more : List ℕ) (after : Bool) (found : List Token) (t : Token) → HasCut text rest after found → IsFirstToken after rest t more → IsWithin t → HasCut text more (is_number_token t) (found ++ t ∷ [])
cut_prefix text rest more after found t h f w = record {
  goes_on = λ ts last end c. subst (λ xs. Cuts false text xs last end) (sym (append_assoc found (t ∷ []) ts)) (h.goes_on (t ∷ ts) last end (take_token after rest more t f c));
  within = all_push IsWithin found t h.within w;
  shorter = omega (arith, prefix_shorter after rest more t f, h.shorter);
}

-- How far it has been cut.
unfoldable pub reaches : (text rest : List ℕ) (place : ℕ) (after : Bool) (found : List Token) → HasCut text rest after found → length text ≡ place + length rest → Reaches text place after rest
reaches text rest place after found h e = record {
  tokens = found;
  cut = subst (λ xs. Cuts false text xs after rest) (append-nil found) (h.goes_on [] after rest here);
  within = h.within;
  «at» = e;
}

empty_is : (b : ℕ) (rest : List ℕ) → true ≡ (length (b ∷ rest) == 0) → ⊥
empty_is b rest e = omega (arith, eqb-true (length (b ∷ rest)) 0 (sym e))

pub cut_end : (text rest : List ℕ) (after : Bool) (found : List Token) → length text ≤ 65536 → HasCut text rest after found → true ≡ (length rest == 0) → HasTokens text found
cut_end text [] after found l h e = (l, after, subst (λ xs. Cuts false text xs after []) (append-nil found) (h.goes_on [] after [] here), h.within)
cut_end text (b ∷ rest) after found l h e = absurd (empty_is b rest e)

some : (rest : List ℕ) → false ≡ (length rest == 0) → rest ≢ []
some rest e h = false≢true (e ∙ ap (λ xs. length xs == 0) h)

-- What refuses a token refuses the text.
pub cut_fault : (text rest : List ℕ) (place : ℕ) (after : Bool) (found : List Token) (fault : SyntaxFault) → length text ≤ 65536 → HasCut text rest after found → length text ≡ place + length rest → false ≡ (length rest == 0) → Skipped rest None → Taken after rest place (Err fault) → Lexed text (Err fault)
cut_fault text rest place after found (BadByte p) l h e n s t =
    (l, subst (IsBadByte text) (sym t.0) (record { after = after; rest = rest; reached = reaches text rest place after found h e; some = some rest n; no_blank = s.0; no_comment = s.1; no_token = t.1 }))
cut_fault text rest place after found (TooBig p) l h e n s t =
    let b = t.1 in
    let f = b.prefix in
    inr (
      l,
      subst (IsTooBig text) (sym t.0) (record {
        after = after;
        t = b.t;
        w = f.w;
        more = b.more;
        reached = subst (Reaches text place after) f.spelled (reaches text rest place after found h e);
        lexeme = f.lexeme;
        longest = f.longest;
        no_comment = ap starts_comment (sym f.spelled) ∙ f.no_comment;
        allowed = f.allowed;
        past = b.past;
      }),
    )
cut_fault text rest place after found Memory l h e n s t = tt
cut_fault text rest place after found (Unexpected k) l h e n s t = t
cut_fault text rest place after found (TooDeep k) l h e n s t = t
cut_fault text rest place after found (TooMany k) l h e n s t = t

-- What a list of tokens says of the answer.

pub lexed_only : (text : List ℕ) (result : Result (List Token) SyntaxFault) → Lexed text result → IfOk result (λ tokens. (others : List Token) → HasTokens text others → others ≡ tokens)
lexed_only text (Ok tokens) h = λ others k. one_list text tokens others h k
lexed_only text (Err fault) h = tt

pub fault_none : (text : List ℕ) (fault : SyntaxFault) (others : List Token) → Lexed text (Err fault) → HasTokens text others → fault ≡ Memory
fault_none text (BadByte p) others h k = absurd (bad_none text p others h.1 k)
fault_none text (TooBig p) others (inl h) k = absurd (omega (arith, h.0, k.0))
fault_none text (TooBig p) others (inr h) k = absurd (big_none text p others h.1 k)
fault_none text Memory others h k = refl
fault_none text (Unexpected n) others h k = absurd h
fault_none text (TooDeep n) others h k = absurd h
fault_none text (TooMany n) others h k = absurd h

pub lexed_none : (text : List ℕ) (result : Result (List Token) SyntaxFault) → Lexed text result → (others : List Token) → HasTokens text others → IfErr result OnlyMemory
lexed_none text (Ok tokens) h others k = tt
lexed_none text (Err fault) h others k = fault_none text fault others h k

-- A text has at most one fault.

pub one_fault : (text : List ℕ) (fault told : SyntaxFault) → fault ≢ Memory → Lexed text (Err fault) → Lexed text (Err told) → (told ≡ fault) ⊎ (told ≡ Memory)
one_fault text fault Memory m h k = inr refl
one_fault text Memory told m h k = absurd (m refl)
one_fault text (BadByte p) (BadByte q) m h k = inl (ap BadByte (one_bad text q p k.1 h.1))
one_fault text (BadByte p) (TooBig q) m h (inl k) = absurd (omega (arith, h.0, k.0))
one_fault text (BadByte p) (TooBig q) m h (inr k) = absurd (bad_no_big text p q h.1 k.1)
one_fault text (TooBig p) (BadByte q) m (inl h) k = absurd (omega (arith, h.0, k.0))
one_fault text (TooBig p) (BadByte q) m (inr h) k = absurd (bad_no_big text q p k.1 h.1)
one_fault text (TooBig p) (TooBig q) m (inl h) (inl k) = inl (ap TooBig (k.1 ∙ sym h.1))
one_fault text (TooBig p) (TooBig q) m (inl h) (inr k) = absurd (omega (arith, h.0, k.0))
one_fault text (TooBig p) (TooBig q) m (inr h) (inl k) = absurd (omega (arith, h.0, k.0))
one_fault text (TooBig p) (TooBig q) m (inr h) (inr k) = inl (ap TooBig (one_big text q p k.1 h.1))
one_fault text (Unexpected n) told m h k = absurd h
one_fault text (TooDeep n) told m h k = absurd h
one_fault text (TooMany n) told m h k = absurd h
one_fault text fault (Unexpected n) m h k = absurd k
one_fault text fault (TooDeep n) m h k = absurd k
one_fault text fault (TooMany n) m h k = absurd k

pub lexed_fault : (text : List ℕ) (result : Result (List Token) SyntaxFault) → Lexed text result → (fault : SyntaxFault) → fault ≢ Memory → Lexed text (Err fault) → IsRefused fault result
lexed_fault text (Ok tokens) h fault m k = m (fault_none text fault tokens k h)
lexed_fault text (Err told) h fault m k = one_fault text fault told m k h
