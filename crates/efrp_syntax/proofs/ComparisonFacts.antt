-- A comparison: what is compared, and at most one operator with its right operand.
use Rattle.std.proofs.Common.{◌≡◌, ◌≢◌, ℕ, true, false, List, [], ◌∷◌, ◌++◌, Some, refl, sym, ap, subst, ◌∙◌}
use Rattle.std.proofs.lemmas.List.{append-nil}
use Rattle.frp_tree.specs.declared.syntax.BinOp.{BinOp}
use Rattle.frp_tree.specs.declared.levels.Level.{Level}
use Rattle.frp_tree.specs.declared.levels.Level.TheVariants as level
use Rattle.frp_tree.specs.declared.tokens.Token.{Token}
use Rattle.frp_tree.specs.declared.tokens.Token.TheVariants.{Mark}
use Rattle.frp_tree.specs.Levels.{tighter, level_of, mark_of, repeats}
use Rattle.frp_tree.specs.Tree.{Tree, Binary}
use Rattle.frp_tree.specs.Cells.{Cell, node, tokens_of}
use Rattle.frp_tree.specs.Grammar.{SpellsExpr, joined, compared, alone}
use Rattle.efrp_syntax.specs.declared.begun.Begun.{Begun}
use Rattle.efrp_syntax.specs.declared.begun.Stop.{Stop}
use Rattle.efrp_syntax.specs.declared.begun.TheConstants.{NODE}
use Rattle.efrp_syntax.specs.Answers.{head, Found, Fails, Done, Seq, Fits, Like}
use Rattle.efrp_syntax.specs.Expressions.{Stops}
use Rattle.efrp_syntax.proofs.PhraseLaws.{found_next, fails_first, fails_next, found_like, fails_like, found_done}
use Rattle.efrp_syntax.proofs.EndFacts.{stops_tighter, operator_goes_on}
use Rattle.efrp_syntax.proofs.RowFacts.{RowStep, row_step, row_step_of, step_stops, found_step, fails_step, no_step}

-- No step, or one.
data AtMostOne (d : ℕ) (a : Tree) : Tree → List Cell → Type 0 where
  stays : AtMostOne d a a []
  steps : {e : Tree} {w : List Cell} → RowStep level.Comparison d a e w → AtMostOne d a e w

chain : {l : Level} {d : ℕ} {e : Tree} {w : List Cell} → SpellsExpr l d e w → l ≡ level.Comparison → Seq (SpellsExpr level.BitOr d) (AtMostOne d) e w
chain (joined ts us k r s t) h = absurd (false_true (sym (ap repeats h) ∙ r))
  where
    false_true : false ≡ true → ⊥
    false_true e = cc
chain {l = l} {d = d} (compared {op = op} {a = a} {b = b} ts us k r s t) h = record {
  first = a;
  front = ts;
  back = node (Mark (mark_of op)) ∷ us;
  spelled = subst (λ m. SpellsExpr (tighter m) d a ts) h s;
  then_spelled = steps (row_step_of op a b us (k ∙ h) (subst (λ m. SpellsExpr (tighter m) d b us) h t));
  whole = refl;
}
chain {l = l} {d = d} {e = e} {w = w} (alone k s) h = record { first = e; front = w; back = []; spelled = subst (λ m. SpellsExpr (tighter m) d e w) h s; then_spelled = stays; whole = sym (append-nil w) }
chain _ h = cc

unchain : {d : ℕ} {a e : Tree} {ts v : List Cell} → SpellsExpr level.BitOr d a ts → AtMostOne d a e v → SpellsExpr level.Comparison d e (ts ++ v)
unchain {d = d} {e = e} {ts = ts} s stays = subst (SpellsExpr level.Comparison d e) (sym (append-nil ts)) (alone refl s)
unchain {d = d} {a = a} {e = e} {ts = ts} {v = v} s (steps t) =
    let k = row_step t in
    let more : SpellsExpr level.Comparison d (Binary k.op a k.right) (ts ++ node (Mark (mark_of k.op)) ∷ k.us) = compared ts k.us k.at_level refl s k.spelled in
    subst (λ x. SpellsExpr level.Comparison d x (ts ++ v)) (sym k.value) (subst (λ cs. SpellsExpr level.Comparison d (Binary k.op a k.right) (ts ++ cs)) (sym k.whole) more)

comparison_like : (d : ℕ) (ts : List Token) → Like (Seq (SpellsExpr level.BitOr d) (AtMostOne d)) (Stops level.Comparison) (SpellsExpr level.Comparison d) (Stops level.Comparison) ts
comparison_like d ts = record {
  into = λ e w s. subst (SpellsExpr level.Comparison d e) (sym s.whole) (unchain s.spelled s.then_spelled);
  from = λ e w c s t k. chain s refl;
  stops = λ c t. t;
}

follows : {d : ℕ} (a e : Tree) (v : List Cell) (c : List Token) → AtMostOne d a e v → Stops level.Comparison c → Stops level.BitOr (tokens_of v ++ c)
follows a e v c stays t = stops_tighter level.Comparison c t
follows a e v c (steps s) t = step_stops v c s

comparison_fits : (d : ℕ) → Fits (SpellsExpr level.BitOr d) (Stops level.BitOr) (AtMostOne d) (Stops level.Comparison)
comparison_fits d = record { follows = follows; goes_on = λ a. record { value = a; cells = []; spelled = stays } }

-- Behind what is compared an operator follows, or none.

goes_like : (d : ℕ) (a : Tree) (op : BinOp) (rest behind : List Token) → rest ≡ Mark (mark_of op) ∷ behind → level_of op ≡ level.Comparison → Like (RowStep level.Comparison d a) (Stops level.BitOr) (AtMostOne d a) (Stops level.Comparison) rest
goes_like d a op rest behind h k = record { into = λ e w s. steps s; from = from; stops = λ c t. stops_tighter level.Comparison c t }
  where
    from : (e : Tree) (w : List Cell) (c : List Token) → AtMostOne d a e w → Stops level.Comparison c → head (tokens_of w ++ c) ≡ head rest → RowStep level.Comparison d a e w
    from e w c stays t i = absurd (operator_goes_on level.Comparison op c rest behind k h t i)
    from e w c (steps s) t i = s

stays_like : (d : ℕ) (a : Tree) (rest : List Token) → ((op : BinOp) → level_of op ≡ level.Comparison → head rest ≢ Some (Mark (mark_of op))) → Like (Done a) (Stops level.Comparison) (AtMostOne d a) (Stops level.Comparison) rest
stays_like d a rest h = record { into = into; from = from; stops = λ c t. t }
  where
    into : (e : Tree) (w : List Cell) → Done a e w → AtMostOne d a e w
    into e w k = subst (AtMostOne d a e) (sym k.whole) (subst (λ x. AtMostOne d a x []) (sym k.value) stays)

    from : (e : Tree) (w : List Cell) (c : List Token) → AtMostOne d a e w → Stops level.Comparison c → head (tokens_of w ++ c) ≡ head rest → Done a e w
    from e w c stays t i = record { value = refl; whole = refl }
    from e w c (steps s) t i = absurd (no_step level.Comparison d rest a e w c h s i)

pub comparison_first : (d : ℕ) (ts : List Token) (before after : List Begun) (stop : Stop) → Fails (SpellsExpr level.BitOr d) (Stops level.BitOr) ts before after stop → Fails (SpellsExpr level.Comparison d) (Stops level.Comparison) ts before after stop
comparison_first d ts before after stop f = fails_like (comparison_like d ts) (fails_first (comparison_fits d) f)

pub comparison_none : (d : ℕ) (ts rest : List Token) (a : Tree) (before now : List Begun) → Found (SpellsExpr level.BitOr d) (Stops level.BitOr) ts a rest before now → ((op : BinOp) → level_of op ≡ level.Comparison → head rest ≢ Some (Mark (mark_of op)))
    → Found (SpellsExpr level.Comparison d) (Stops level.Comparison) ts a rest before now
comparison_none d ts rest a before now f h = found_like (comparison_like d ts) (found_next (comparison_fits d) f (found_like (stays_like d a rest h) (found_done (Stops level.Comparison) rest a now)))

pub comparison_one : (d : ℕ) (ts rest behind more : List Token) (a b : Tree) (op : BinOp) (before now mid after : List Begun)
    → rest ≡ Mark (mark_of op) ∷ behind → level_of op ≡ level.Comparison → mid ≡ now ++ NODE ∷ [] → Found (SpellsExpr level.BitOr d) (Stops level.BitOr) ts a rest before now → Found (SpellsExpr level.BitOr d) (Stops level.BitOr) behind b more mid after
    → Found (SpellsExpr level.Comparison d) (Stops level.Comparison) ts (Binary op a b) more before after
comparison_one d ts rest behind more a b op before now mid after h k n f g =
    found_like (comparison_like d ts) (found_next (comparison_fits d) f (found_like (goes_like d a op rest behind h k) (found_step level.Comparison d a b op rest behind more now mid after h k n g)))

pub comparison_fails : (d : ℕ) (ts rest behind : List Token) (a : Tree) (op : BinOp) (before now mid after : List Begun) (stop : Stop)
    → rest ≡ Mark (mark_of op) ∷ behind → level_of op ≡ level.Comparison → mid ≡ now ++ NODE ∷ [] → Found (SpellsExpr level.BitOr d) (Stops level.BitOr) ts a rest before now → Fails (SpellsExpr level.BitOr d) (Stops level.BitOr) behind mid after stop
    → Fails (SpellsExpr level.Comparison d) (Stops level.Comparison) ts before after stop
comparison_fails d ts rest behind a op before now mid after stop h k n f g =
    fails_like (comparison_like d ts) (fails_next (comparison_fits d) f (fails_like (goes_like d a op rest behind h k) (fails_step level.Comparison d a op rest behind now mid after stop h k n g)))
