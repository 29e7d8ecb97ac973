-- Shifts in a row: an expression and then steps, each a shift with its amount.
use Rattle.std.proofs.Common.{◌≡◌, ◌≢◌, ℕ, List, [], ◌∷◌, ◌++◌, Some, refl, sym, ap, subst, ◌∙◌, arith}
use Rattle.std.proofs.lemmas.List.{append-nil, append_assoc}
use Rattle.frp_tree.specs.declared.syntax.BinOp.{BinOp}
use Rattle.frp_tree.specs.declared.syntax.BinOp.TheVariants as binary
use Rattle.frp_tree.specs.declared.syntax.Side.{Side}
use Rattle.frp_tree.specs.declared.levels.Level.{Level}
use Rattle.frp_tree.specs.declared.levels.Level.TheVariants as level
use Rattle.frp_tree.specs.declared.tokens.Token.{Token}
use Rattle.frp_tree.specs.declared.tokens.Token.TheVariants.{Num, Mark}
use Rattle.frp_tree.specs.Levels.{tighter, level_of, mark_of_shift}
use Rattle.frp_tree.specs.Tree.{Tree, Shift}
use Rattle.frp_tree.specs.Cells.{Cell, plain, node, tokens_of}
use Rattle.frp_tree.specs.Grammar.{SpellsExpr, shifted, joined, compared, alone}
use Rattle.efrp_syntax.specs.declared.begun.Begun.{Begun}
use Rattle.efrp_syntax.specs.declared.begun.Stop.{Stop}
use Rattle.efrp_syntax.specs.declared.begun.TheConstants.{NODE}
use Rattle.efrp_syntax.specs.Answers.{head, Found, Fails, Anything, Done, Seq, Fits, Like}
use Rattle.efrp_syntax.specs.Expressions.{Stops}
use Rattle.efrp_syntax.proofs.PhraseLaws.{found_next, fails_first, fails_next, found_done, found_one, fails_like}
use Rattle.efrp_syntax.proofs.LoopLaws.{Steps, ends, goes, IsUpTo, loop_starts, loop_goes, loop_fails, loop_ends}
use Rattle.efrp_syntax.proofs.EndFacts.{same_shift, stops_tighter, stops_shift, shift_goes_on}
use Rattle.efrp_syntax.proofs.RowFacts.{SideOf, Amount, ShiftStep, shift_step, shift_step_of, seq_more, nothing_more, stops_append}

no_operator : (op : BinOp) → level_of op ≡ level.Shift → ⊥
no_operator binary.Or h = cc
no_operator _ h = cc

chain : {l : Level} {d : ℕ} {e : Tree} {w : List Cell} → SpellsExpr l d e w → l ≡ level.Shift → Seq (SpellsExpr level.Sum d) (Steps ShiftStep) e w
chain (shifted {side = side} {e = e} {n = n} ts s) h = seq_more (chain s h) (shift_step_of side e n)
chain (joined {op = op} ts us k r s t) h = absurd (no_operator op (k ∙ h))
chain (compared {op = op} ts us k r s t) h = absurd (no_operator op (k ∙ h))
chain {d = d} {e = e} {w = w} (alone k s) h = nothing_more (subst (λ m. SpellsExpr (tighter m) d e w) h s)
chain _ h = cc

unchain : {d : ℕ} {a e : Tree} {ts v : List Cell} → SpellsExpr level.Shift d a ts → Steps ShiftStep a e v → SpellsExpr level.Shift d e (ts ++ v)
unchain {d = d} {e = e} {ts = ts} s ends = subst (SpellsExpr level.Shift d e) (sym (append-nil ts)) s
unchain {d = d} {a = a} {e = e} {ts = ts} s (goes {b = b} us vs t g) =
    let k = shift_step t in
    let more : SpellsExpr level.Shift d (Shift k.side a k.amount) (ts ++ node (Mark (mark_of_shift k.side)) ∷ plain (Num k.amount) ∷ []) = shifted ts s in
    let left : SpellsExpr level.Shift d b (ts ++ us) = subst (λ x. SpellsExpr level.Shift d x (ts ++ us)) (sym k.value) (subst (λ cs. SpellsExpr level.Shift d (Shift k.side a k.amount) (ts ++ cs)) (sym k.whole) more) in
    subst (SpellsExpr level.Shift d e) (append_assoc ts us vs) (unchain left g)

shifts_like : (d : ℕ) (ts : List Token) → Like (Seq (SpellsExpr level.Sum d) (Steps ShiftStep)) (Stops level.Shift) (SpellsExpr level.Shift d) (Stops level.Shift) ts
shifts_like d ts = record {
  into = λ e w s. subst (SpellsExpr level.Shift d e) (sym s.whole) (unchain (alone refl s.spelled) s.then_spelled);
  from = λ e w c s t k. chain s refl;
  stops = λ c t. t;
}

step_stops : {a e : Tree} (v : List Cell) (c : List Token) → ShiftStep a e v → Stops level.Sum (tokens_of v ++ c)
step_stops v c s = let k = shift_step s in subst (λ cs. Stops level.Sum (tokens_of cs ++ c)) (sym k.whole) (stops_shift k.side (Num k.amount ∷ c))

shifts_follow : (a e : Tree) (v : List Cell) (c : List Token) → Steps ShiftStep a e v → Stops level.Shift c → Stops level.Sum (tokens_of v ++ c)
shifts_follow a e v c ends t = stops_tighter level.Shift c t
shifts_follow a e v c (goes us vs s g) t = stops_append level.Sum us vs c (λ more. step_stops us more s)

shifts_fit : (d : ℕ) → Fits (SpellsExpr level.Sum d) (Stops level.Sum) (Steps ShiftStep) (Stops level.Shift)
shifts_fit d = record { follows = shifts_follow; goes_on = λ a. record { value = a; cells = []; spelled = ends } }

-- What follows a whole step: a shift's amount is no expression, so anything.
step_fits : (a : Tree) → Fits (ShiftStep a) Anything (Steps ShiftStep) (Stops level.Shift)
step_fits a = record { follows = λ b e v c s t. tt; goes_on = λ b. record { value = b; cells = []; spelled = ends } }

amount_fits : (side : Side) (a : Tree) → Fits Amount Anything (λ (n : ℕ). Done (Shift side a n)) Anything
amount_fits side a = record { follows = λ n e v c s t. tt; goes_on = λ n. record { value = Shift side a n; cells = []; spelled = record { value = refl; whole = refl } } }

side_fits : (a : Tree) → Fits SideOf Anything (λ (side : Side). Seq Amount (λ (n : ℕ). Done (Shift side a n))) Anything
side_fits a = record {
  follows = λ side e v c s t. tt;
  goes_on = λ side. record {
    value = Shift side a 0;
    cells = plain (Num 0) ∷ [];
    spelled = record { first = 0; front = plain (Num 0) ∷ []; back = []; spelled = record { is = tt; whole = refl }; then_spelled = record { value = refl; whole = refl }; whole = refl };
  };
}

found_side : (side : Side) (rest behind : List Token) (now mid : List Begun) → rest ≡ Mark (mark_of_shift side) ∷ behind → mid ≡ now ++ NODE ∷ [] → Found SideOf Anything rest side behind now mid
found_side side rest behind now mid e n =
    found_one (λ (o : Side). node (Mark (mark_of_shift o))) (λ (o : Side). Unit {0}) Anything rest behind side now mid e tt (omega arith) n (λ other is p. same_shift other side (ap Some p))

abbrev pub ShiftsUpTo : ℕ → List Token → List Token → Tree → List Begun → List Begun → Type 0
ShiftsUpTo d ts rest a before now = IsUpTo ShiftStep (SpellsExpr level.Shift d) (Stops level.Shift) ts rest a before now

pub shifts_first : (d : ℕ) (ts : List Token) (before after : List Begun) (stop : Stop) → Fails (SpellsExpr level.Sum d) (Stops level.Sum) ts before after stop → Fails (SpellsExpr level.Shift d) (Stops level.Shift) ts before after stop
shifts_first d ts before after stop f = fails_like (shifts_like d ts) (fails_first (shifts_fit d) f)

pub shifts_start : (d : ℕ) (ts rest : List Token) (a : Tree) (before now : List Begun) → Found (SpellsExpr level.Sum d) (Stops level.Sum) ts a rest before now → ShiftsUpTo d ts rest a before now
shifts_start d ts rest a before now f = loop_starts (shifts_like d ts) (shifts_fit d) f

pub shifts_go : (d : ℕ) (ts rest behind more : List Token) (a : Tree) (side : Side) (n : ℕ) (before now mid after : List Begun)
    → rest ≡ Mark (mark_of_shift side) ∷ behind → mid ≡ now ++ NODE ∷ [] → ShiftsUpTo d ts rest a before now → Found Amount Anything behind n more mid after → ShiftsUpTo d ts more (Shift side a n) before after
shifts_go d ts rest behind more a side n before now mid after e h loop f =
    loop_goes (λ c s. shift_goes_on side c rest behind e s) (step_fits a) loop (found_next (side_fits a) (found_side side rest behind now mid e h) (found_next (amount_fits side a) f (found_done Anything more (Shift side a n) after)))

pub shifts_fail : (d : ℕ) (ts rest behind : List Token) (a : Tree) (side : Side) (before now mid after : List Begun) (stop : Stop)
    → rest ≡ Mark (mark_of_shift side) ∷ behind → mid ≡ now ++ NODE ∷ [] → ShiftsUpTo d ts rest a before now → Fails Amount Anything behind mid after stop → Fails (SpellsExpr level.Shift d) (Stops level.Shift) ts before after stop
shifts_fail d ts rest behind a side before now mid after stop e h loop f =
    loop_fails (λ c s. shift_goes_on side c rest behind e s) (step_fits a) loop (fails_next (side_fits a) (found_side side rest behind now mid e h) (fails_first (amount_fits side a) f))

pub shifts_end : (d : ℕ) (ts rest : List Token) (a : Tree) (before now : List Begun) → ((side : Side) → head rest ≢ Some (Mark (mark_of_shift side))) → ShiftsUpTo d ts rest a before now → Found (SpellsExpr level.Shift d) (Stops level.Shift) ts a rest before now
shifts_end d ts rest a before now h loop = loop_ends none loop
  where
    none : (b : Tree) (us : List Cell) (c : List Token) → ShiftStep a b us → head (tokens_of us ++ c) ≢ head rest
    none b us c s e = let k = shift_step s in h k.side (sym e ∙ ap (λ cs. head (tokens_of cs ++ c)) k.whole)
