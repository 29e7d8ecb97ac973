-- Steps in a row, as a loop reads them: what comes of the rest comes of the whole. The things of a row are such steps.
use Rattle.std.proofs.Common.{◌≡◌, ◌≢◌, List, [], ◌∷◌, ◌++◌, refl, sym, ap, subst, ◌∙◌}
use Rattle.frp_tree.specs.declared.tokens.Token.{Token}
use Rattle.frp_tree.specs.Cells.{Cell, tokens_of}
use Rattle.frp_tree.specs.Grammar.{none, next}
use Rattle.efrp_syntax.specs.declared.begun.Begun.{Begun}
use Rattle.efrp_syntax.specs.declared.begun.Stop.{Stop}
use Rattle.efrp_syntax.specs.Answers.{head, Found, Fails, Done, Seq, Fits, Like}
use Rattle.efrp_syntax.proofs.PhraseLaws.{tokens_append, found_next, fails_first, fails_next, found_like, fails_like, found_done}

-- From one value to another by steps.
pub data Steps {A : Type 0} (Step : A → A → List Cell → Type 0) : A → A → List Cell → Type 0 where
  ends : {a : A} → Steps Step a a []
  goes : {a b e : A} (us vs : List Cell) → Step a b us → Steps Step b e vs → Steps Step a e (us ++ vs)

-- A phrase of the whole has been read up to a value, where the rest begins: what comes of the steps from there, comes of it.
pub record IsUpTo {A : Type 0} (Step : A → A → List Cell → Type 0) (H : A → List Cell → Type 0) (T : List Token → Type 0) (ts rest : List Token) (a : A) (before now : List Begun) : Type 0 where
  pub failing : (after : List Begun) (stop : Stop) → Fails (Steps Step a) T rest now after stop → Fails H T ts before after stop
  pub finding : (end : List Token) (e : A) (after : List Begun) → Found (Steps Step a) T rest e end now after → Found H T ts e end before after

-- Where the next token begins a step, and ends no phrase; and where it begins none.
next_like : {A : Type 0} (Step : A → A → List Cell → Type 0) (T : List Token → Type 0) (rest : List Token) (a : A) → ((c : List Token) → T c → head c ≢ head rest) → Like (Seq (Step a) (Steps Step)) T (Steps Step a) T rest
next_like Step T rest a bar = record {
  into = λ e w s. subst (Steps Step a e) (sym s.whole) (goes s.front s.back s.spelled s.then_spelled);
  from = from;
  stops = λ c t. t;
}
  where
    from : (e : _) (w : List Cell) (c : List Token) → Steps Step a e w → T c → head (tokens_of w ++ c) ≡ head rest → Seq (Step a) (Steps Step) e w
    from e w c ends t h = absurd (bar c t h)
    from e w c (goes us vs s g) t h = record { first = _; front = us; back = vs; spelled = s; then_spelled = g; whole = refl }

end_like : {A : Type 0} (Step : A → A → List Cell → Type 0) (T : List Token → Type 0) (rest : List Token) (a : A) → ((b : A) (us : List Cell) (c : List Token) → Step a b us → head (tokens_of us ++ c) ≢ head rest) → Like (Done a) T (Steps Step a) T rest
end_like Step T rest a bar = record {
  into = into;
  from = from;
  stops = λ c t. t;
}
  where
    into : (e : _) (w : List Cell) → Done a e w → Steps Step a e w
    into e w d = subst (Steps Step a e) (sym d.whole) (subst (λ x. Steps Step a x []) (sym d.value) ends)

    from : (e : _) (w : List Cell) (c : List Token) → Steps Step a e w → T c → head (tokens_of w ++ c) ≡ head rest → Done a e w
    from e w c ends t h = record { value = refl; whole = refl }
    from e w c (goes us vs s g) t h = absurd (bar _ us (tokens_of vs ++ c) s (ap head (sym (tokens_append us vs c)) ∙ h))

-- The loop begins where the first part of the whole has been read.
pub loop_starts : {A : Type 0} {Step : A → A → List Cell → Type 0} {G H : A → List Cell → Type 0} {S T : List Token → Type 0} {ts rest : List Token} {a : A} {before now : List Begun}
    → Like (Seq G (Steps Step)) T H T ts → Fits G S (Steps Step) T → Found G S ts a rest before now → IsUpTo Step H T ts rest a before now
loop_starts like fits f = record {
  failing = λ after stop g. fails_like like (fails_next fits f g);
  finding = λ end e after g. found_like like (found_next fits f g);
}

pub loop_goes : {A : Type 0} {Step : A → A → List Cell → Type 0} {H : A → List Cell → Type 0} {S T : List Token → Type 0} {ts rest more : List Token} {a b : A} {before now mid : List Begun}
    → ((c : List Token) → T c → head c ≢ head rest) → Fits (Step a) S (Steps Step) T → IsUpTo Step H T ts rest a before now → Found (Step a) S rest b more now mid → IsUpTo Step H T ts more b before mid
loop_goes {Step = Step} {T = T} {rest = rest} {a = a} bar fits loop f = record {
  failing = λ after stop g. loop.failing after stop (fails_like (next_like Step T rest a bar) (fails_next fits f g));
  finding = λ end e after g. loop.finding end e after (found_like (next_like Step T rest a bar) (found_next fits f g));
}

-- A step that fails ends the whole.
pub loop_fails : {A : Type 0} {Step : A → A → List Cell → Type 0} {H : A → List Cell → Type 0} {S T : List Token → Type 0} {ts rest : List Token} {a : A} {before now after : List Begun} {stop : Stop}
    → ((c : List Token) → T c → head c ≢ head rest) → Fits (Step a) S (Steps Step) T → IsUpTo Step H T ts rest a before now → Fails (Step a) S rest now after stop → Fails H T ts before after stop
loop_fails {Step = Step} {T = T} {rest = rest} {a = a} {after = after} {stop = stop} bar fits loop f = loop.failing after stop (fails_like (next_like Step T rest a bar) (fails_first fits f))

pub loop_ends : {A : Type 0} {Step : A → A → List Cell → Type 0} {H : A → List Cell → Type 0} {T : List Token → Type 0} {ts rest : List Token} {a : A} {before now : List Begun}
    → ((b : A) (us : List Cell) (c : List Token) → Step a b us → head (tokens_of us ++ c) ≢ head rest) → IsUpTo Step H T ts rest a before now → Found H T ts a rest before now
loop_ends {Step = Step} {T = T} {rest = rest} {a = a} {now = now} bar loop = loop.finding rest a now (found_like (end_like Step T rest a bar) (found_done T rest a now))

-- The things of a row: each step adds one at the end.
pub record Adds {A : Type 0} (Item : A → List Cell → Type 0) (xs ys : List A) (w : List Cell) : Type 0 where
  pub item : A
  pub spelled : Item item w
  pub added : ys ≡ xs ++ item ∷ []
