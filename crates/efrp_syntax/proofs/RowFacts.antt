-- Operators in a row: an expression of a level is one of the next tighter and then steps, each an operator with its right operand.
use Rattle.std.proofs.Common.{◌≡◌, ◌≢◌, ℕ, true, List, [], ◌∷◌, ◌++◌, Some, refl, sym, ap, subst, ◌∙◌, arith}
use Rattle.std.proofs.lemmas.Bool.{false≢true}
use Rattle.std.proofs.lemmas.List.{append-nil, append_assoc}
use Rattle.frp_tree.specs.declared.syntax.Lit.TheVariants as lit
use Rattle.frp_tree.specs.declared.syntax.BinOp.{BinOp}
use Rattle.frp_tree.specs.declared.syntax.Side.{Side}
use Rattle.frp_tree.specs.declared.levels.Level.{Level}
use Rattle.frp_tree.specs.declared.levels.Level.TheVariants as level
use Rattle.frp_tree.specs.declared.tokens.Token.{Token}
use Rattle.frp_tree.specs.declared.tokens.Token.TheVariants.{Num, Mark}
use Rattle.frp_tree.specs.Levels.{tighter, repeats, level_of, mark_of, mark_of_shift}
use Rattle.frp_tree.specs.Tree.{Tree, Const, Binary, Shift}
use Rattle.frp_tree.specs.Cells.{Cell, plain, node, tokens_of}
use Rattle.frp_tree.specs.Grammar.{SpellsExpr, literal, joined, compared, alone}
use Rattle.efrp_syntax.specs.declared.begun.Begun.{Begun}
use Rattle.efrp_syntax.specs.declared.begun.Stop.{Stop}
use Rattle.efrp_syntax.specs.declared.begun.TheConstants.{NODE}
use Rattle.efrp_syntax.specs.Answers.{head, Found, Fails, Anything, One, Done, Seq, Fits, Like}
use Rattle.efrp_syntax.specs.Expressions.{Stops, is_row}
use Rattle.efrp_syntax.proofs.PhraseLaws.{tokens_append, found_next, fails_first, fails_next, fails_like, found_done, found_one}
use Rattle.efrp_syntax.proofs.LoopLaws.{Steps, ends, goes, IsUpTo, loop_starts, loop_goes, loop_fails, loop_ends}
use Rattle.efrp_syntax.proofs.EndFacts.{same_operator, stops_tighter, stops_operator, operator_goes_on, row_repeats, row_no_operand}

-- Some expression of each level.
pub example : (l : Level) (d : ℕ) → SpellsExpr l d (Const (lit.Plain 0)) (node (Num 0) ∷ [])
example level.Operand d = literal {l = lit.Plain 0}
example level.Term d = alone refl (literal {l = lit.Plain 0})
example level.Sum d = alone refl (alone refl (literal {l = lit.Plain 0}))
example level.Shift d = alone refl (alone refl (alone refl (literal {l = lit.Plain 0})))
example level.BitAnd d = alone refl (alone refl (alone refl (alone refl (literal {l = lit.Plain 0}))))
example level.BitXor d = alone refl (alone refl (alone refl (alone refl (alone refl (literal {l = lit.Plain 0})))))
example level.BitOr d = alone refl (alone refl (alone refl (alone refl (alone refl (alone refl (literal {l = lit.Plain 0}))))))
example level.Comparison d = alone refl (alone refl (alone refl (alone refl (alone refl (alone refl (alone refl (literal {l = lit.Plain 0})))))))
example level.And d = alone refl (alone refl (alone refl (alone refl (alone refl (alone refl (alone refl (alone refl (literal {l = lit.Plain 0}))))))))
example level.Or d = alone refl (alone refl (alone refl (alone refl (alone refl (alone refl (alone refl (alone refl (alone refl (literal {l = lit.Plain 0})))))))))
example level.Whole d = alone refl (alone refl (alone refl (alone refl (alone refl (alone refl (alone refl (alone refl (alone refl (alone refl (literal {l = lit.Plain 0}))))))))))

-- An operator of the level with its right operand; a shift with its amount.
abbrev pub OperatorOf : Level → BinOp → List Cell → Type 0
OperatorOf l = One (λ (op : BinOp). node (Mark (mark_of op))) (λ (op : BinOp). level_of op ≡ l)

abbrev pub RowStep : Level → ℕ → Tree → Tree → List Cell → Type 0
RowStep l d a = Seq (OperatorOf l) (λ (op : BinOp). Seq (SpellsExpr (tighter l) d) (λ (b : Tree). Done (Binary op a b)))

abbrev pub SideOf : Side → List Cell → Type 0
SideOf = One (λ (side : Side). node (Mark (mark_of_shift side))) (λ (side : Side). Unit {0})

abbrev pub Amount : ℕ → List Cell → Type 0
Amount = One (λ (n : ℕ). plain (Num n)) (λ (n : ℕ). Unit {0})

abbrev pub ShiftStep : Tree → Tree → List Cell → Type 0
ShiftStep a = Seq SideOf (λ (side : Side). Seq Amount (λ (n : ℕ). Done (Shift side a n)))

-- The same, unfolded.
pub record IsRowStep (l : Level) (d : ℕ) (a e : Tree) (w : List Cell) : Type 0 where
  pub op : BinOp
  pub right : Tree
  pub us : List Cell
  pub at_level : level_of op ≡ l
  pub spelled : SpellsExpr (tighter l) d right us
  pub value : e ≡ Binary op a right
  pub whole : w ≡ node (Mark (mark_of op)) ∷ us

pub row_step : {l : Level} {d : ℕ} {a e : Tree} {w : List Cell} → RowStep l d a e w → IsRowStep l d a e w
row_step s = let t = s.then_spelled in record {
  op = s.first;
  right = t.first;
  us = t.front;
  at_level = s.spelled.is;
  spelled = t.spelled;
  value = t.then_spelled.value;
  whole = s.whole ∙ ap (λ cs. cs ++ s.back) s.spelled.whole ∙ ap (λ cs. node (Mark (mark_of s.first)) ∷ cs) (t.whole ∙ ap (λ cs. t.front ++ cs) t.then_spelled.whole ∙ append-nil t.front);
}

pub row_step_of : {l : Level} {d : ℕ} (op : BinOp) (a b : Tree) (us : List Cell) → level_of op ≡ l → SpellsExpr (tighter l) d b us → RowStep l d a (Binary op a b) (node (Mark (mark_of op)) ∷ us)
row_step_of op a b us h s = record {
  first = op;
  front = node (Mark (mark_of op)) ∷ [];
  back = us;
  spelled = record { is = h; whole = refl };
  then_spelled = record { first = b; front = us; back = []; spelled = s; then_spelled = record { value = refl; whole = refl }; whole = sym (append-nil us) };
  whole = refl;
}

pub record IsShiftStep (a e : Tree) (w : List Cell) : Type 0 where
  pub side : Side
  pub amount : ℕ
  pub value : e ≡ Shift side a amount
  pub whole : w ≡ node (Mark (mark_of_shift side)) ∷ plain (Num amount) ∷ []

pub shift_step : {a e : Tree} {w : List Cell} → ShiftStep a e w → IsShiftStep a e w
shift_step s = let t = s.then_spelled in record {
  side = s.first;
  amount = t.first;
  value = t.then_spelled.value;
  whole = s.whole ∙ ap (λ cs. cs ++ s.back) s.spelled.whole ∙ ap (λ cs. node (Mark (mark_of_shift s.first)) ∷ cs) (t.whole ∙ ap (λ cs. cs ++ t.back) t.spelled.whole ∙ ap (λ cs. plain (Num t.first) ∷ cs) t.then_spelled.whole);
}

pub shift_step_of : (side : Side) (a : Tree) (n : ℕ) → ShiftStep a (Shift side a n) (node (Mark (mark_of_shift side)) ∷ plain (Num n) ∷ [])
shift_step_of side a n = record {
  first = side;
  front = node (Mark (mark_of_shift side)) ∷ [];
  back = plain (Num n) ∷ [];
  spelled = record { is = tt; whole = refl };
  then_spelled = record { first = n; front = plain (Num n) ∷ []; back = []; spelled = record { is = tt; whole = refl }; then_spelled = record { value = refl; whole = refl }; whole = refl };
  whole = refl;
}

-- Left recursion, told from the left and back.

one_more : {A : Type 0} {Step : A → A → List Cell → Type 0} {a x y : A} {v us : List Cell} → Steps Step a x v → Step x y us → Steps Step a y (v ++ us)
one_more {Step = Step} {a = a} {y = y} {us = us} ends s = subst (Steps Step a y) (append-nil us) (goes us [] s ends)
one_more {Step = Step} {a = a} {y = y} {us = us} (goes ws vs t g) s = subst (Steps Step a y) (sym (append_assoc ws vs us)) (goes ws (vs ++ us) t (one_more g s))

pub nothing_more : {A : Type 0} {G : A → List Cell → Type 0} {Step : A → A → List Cell → Type 0} {e : A} {w : List Cell} → G e w → Seq G (Steps Step) e w
nothing_more {e = e} {w = w} s = record { first = e; front = w; back = []; spelled = s; then_spelled = ends; whole = sym (append-nil w) }

pub seq_more : {A : Type 0} {G : A → List Cell → Type 0} {Step : A → A → List Cell → Type 0} {a b : A} {ts us : List Cell} → Seq G (Steps Step) a ts → Step a b us → Seq G (Steps Step) b (ts ++ us)
seq_more {us = us} s t = record {
  first = s.first;
  front = s.front;
  back = s.back ++ us;
  spelled = s.spelled;
  then_spelled = one_more s.then_spelled t;
  whole = ap (λ cs. cs ++ us) s.whole ∙ append_assoc s.front s.back us;
}

chain : {l : Level} {d : ℕ} {e : Tree} {w : List Cell} → SpellsExpr l d e w → is_row l ≡ true → Seq (SpellsExpr (tighter l) d) (Steps (RowStep l d)) e w
chain (joined {op = op} {a = a} {b = b} ts us k r s t) h = seq_more (chain s h) (row_step_of op a b us k t)
chain (compared {l = l} ts us k r s t) h = absurd (false≢true (sym r ∙ row_repeats l h))
chain (alone k s) h = nothing_more s
chain _ h = absurd (false≢true h)

unchain : {l : Level} {d : ℕ} {a e : Tree} {ts v : List Cell} → repeats l ≡ true → SpellsExpr l d a ts → Steps (RowStep l d) a e v → SpellsExpr l d e (ts ++ v)
unchain {l = l} {d = d} {e = e} {ts = ts} r s ends = subst (SpellsExpr l d e) (sym (append-nil ts)) s
unchain {l = l} {d = d} {a = a} {e = e} {ts = ts} r s (goes {b = b} us vs t g) =
    let k = row_step t in
    let more : SpellsExpr l d (Binary k.op a k.right) (ts ++ node (Mark (mark_of k.op)) ∷ k.us) = joined ts k.us k.at_level r s k.spelled in
    let left : SpellsExpr l d b (ts ++ us) = subst (λ x. SpellsExpr l d x (ts ++ us)) (sym k.value) (subst (λ cs. SpellsExpr l d (Binary k.op a k.right) (ts ++ cs)) (sym k.whole) more) in
    subst (SpellsExpr l d e) (append_assoc ts us vs) (unchain r left g)

pub row_like : (l : Level) (d : ℕ) (ts : List Token) → is_row l ≡ true → Like (Seq (SpellsExpr (tighter l) d) (Steps (RowStep l d))) (Stops l) (SpellsExpr l d) (Stops l) ts
row_like l d ts h = record {
  into = λ e w s. subst (SpellsExpr l d e) (sym s.whole) (unchain (row_repeats l h) (alone (row_no_operand l h) s.spelled) s.then_spelled);
  from = λ e w c s t k. chain s h;
  stops = λ c t. t;
}

-- What may follow a step, or what stands before one.

pub step_stops : {l : Level} {d : ℕ} {a e : Tree} (v : List Cell) (c : List Token) → RowStep l d a e v → Stops (tighter l) (tokens_of v ++ c)
step_stops {l = l} v c s =
    let k = row_step s in
    subst (λ m. Stops (tighter m) (tokens_of v ++ c)) k.at_level (subst (λ cs. Stops (tighter (level_of k.op)) (tokens_of cs ++ c)) (sym k.whole) (stops_operator k.op (tokens_of k.us ++ c)))

pub stops_append : (l : Level) (us vs : List Cell) (c : List Token) → ((more : List Token) → Stops l (tokens_of us ++ more)) → Stops l (tokens_of (us ++ vs) ++ c)
stops_append l us vs c h = subst (Stops l) (sym (tokens_append us vs c)) (h (tokens_of vs ++ c))

row_follows : {l : Level} {d : ℕ} (a e : Tree) (v : List Cell) (c : List Token) → Steps (RowStep l d) a e v → Stops l c → Stops (tighter l) (tokens_of v ++ c)
row_follows {l = l} a e v c ends t = stops_tighter l c t
row_follows {l = l} a e v c (goes us vs s g) t = stops_append (tighter l) us vs c (λ more. step_stops us more s)

pub row_fits : (l : Level) (d : ℕ) → Fits (SpellsExpr (tighter l) d) (Stops (tighter l)) (Steps (RowStep l d)) (Stops l)
row_fits l d = record { follows = row_follows; goes_on = λ a. record { value = a; cells = []; spelled = ends } }

pub step_fits : (l : Level) (d : ℕ) (a : Tree) → Fits (RowStep l d a) (Stops (tighter l)) (Steps (RowStep l d)) (Stops l)
step_fits l d a = record { follows = row_follows; goes_on = λ b. record { value = b; cells = []; spelled = ends } }

-- The reading of one step.

right_fits : (l : Level) (d : ℕ) (op : BinOp) (a : Tree) → Fits (SpellsExpr (tighter l) d) (Stops (tighter l)) (λ (b : Tree). Done (Binary op a b)) (Stops (tighter l))
right_fits l d op a = record {
  follows = λ b e v c k t. subst (λ cs. Stops (tighter l) (tokens_of cs ++ c)) (sym k.whole) t;
  goes_on = λ b. record { value = Binary op a b; cells = []; spelled = record { value = refl; whole = refl } };
}

operator_fits : (l : Level) (d : ℕ) (a : Tree) → Fits (OperatorOf l) Anything (λ (op : BinOp). Seq (SpellsExpr (tighter l) d) (λ (b : Tree). Done (Binary op a b))) (Stops (tighter l))
operator_fits l d a = record {
  follows = λ op e v c k t. tt;
  goes_on = λ op. record {
    value = Binary op a (Const (lit.Plain 0));
    cells = node (Num 0) ∷ [];
    spelled = record { first = Const (lit.Plain 0); front = node (Num 0) ∷ []; back = []; spelled = example (tighter l) d; then_spelled = record { value = refl; whole = refl }; whole = refl };
  };
}

found_operator : (l : Level) (op : BinOp) (rest behind : List Token) (now mid : List Begun) → rest ≡ Mark (mark_of op) ∷ behind → level_of op ≡ l → mid ≡ now ++ NODE ∷ [] → Found (OperatorOf l) Anything rest op behind now mid
found_operator l op rest behind now mid e h n =
    found_one (λ (o : BinOp). node (Mark (mark_of o))) (λ (o : BinOp). level_of o ≡ l) Anything rest behind op now mid e h (omega arith) n (λ other is p. same_operator other op (ap Some p))

pub found_step : (l : Level) (d : ℕ) (a b : Tree) (op : BinOp) (rest behind more : List Token) (now mid after : List Begun)
    → rest ≡ Mark (mark_of op) ∷ behind → level_of op ≡ l → mid ≡ now ++ NODE ∷ [] → Found (SpellsExpr (tighter l) d) (Stops (tighter l)) behind b more mid after → Found (RowStep l d a) (Stops (tighter l)) rest (Binary op a b) more now after
found_step l d a b op rest behind more now mid after e h n f =
    found_next (operator_fits l d a) (found_operator l op rest behind now mid e h n) (found_next (right_fits l d op a) f (found_done (Stops (tighter l)) more (Binary op a b) after))

pub fails_step : (l : Level) (d : ℕ) (a : Tree) (op : BinOp) (rest behind : List Token) (now mid after : List Begun) (stop : Stop)
    → rest ≡ Mark (mark_of op) ∷ behind → level_of op ≡ l → mid ≡ now ++ NODE ∷ [] → Fails (SpellsExpr (tighter l) d) (Stops (tighter l)) behind mid after stop → Fails (RowStep l d a) (Stops (tighter l)) rest now after stop
fails_step l d a op rest behind now mid after stop e h n f =
    fails_next (operator_fits l d a) (found_operator l op rest behind now mid e h n) (fails_first (right_fits l d op a) f)

-- The loop over a row.

abbrev pub RowUpTo : Level → ℕ → List Token → List Token → Tree → List Begun → List Begun → Type 0
RowUpTo l d ts rest a before now = IsUpTo (RowStep l d) (SpellsExpr l d) (Stops l) ts rest a before now

pub row_first : (l : Level) (d : ℕ) (ts : List Token) (before after : List Begun) (stop : Stop) → is_row l ≡ true → Fails (SpellsExpr (tighter l) d) (Stops (tighter l)) ts before after stop → Fails (SpellsExpr l d) (Stops l) ts before after stop
row_first l d ts before after stop h f = fails_like (row_like l d ts h) (fails_first (row_fits l d) f)

pub row_starts : (l : Level) (d : ℕ) (ts rest : List Token) (a : Tree) (before now : List Begun) → is_row l ≡ true → Found (SpellsExpr (tighter l) d) (Stops (tighter l)) ts a rest before now → RowUpTo l d ts rest a before now
row_starts l d ts rest a before now h f = loop_starts (row_like l d ts h) (row_fits l d) f

pub row_goes : (l : Level) (d : ℕ) (ts rest behind more : List Token) (a b : Tree) (op : BinOp) (before now mid after : List Begun)
    → rest ≡ Mark (mark_of op) ∷ behind → level_of op ≡ l → mid ≡ now ++ NODE ∷ [] → RowUpTo l d ts rest a before now → Found (SpellsExpr (tighter l) d) (Stops (tighter l)) behind b more mid after → RowUpTo l d ts more (Binary op a b) before after
row_goes l d ts rest behind more a b op before now mid after e h n loop f =
    loop_goes (λ c s. operator_goes_on l op c rest behind h e s) (step_fits l d a) loop (found_step l d a b op rest behind more now mid after e h n f)

pub row_fails : (l : Level) (d : ℕ) (ts rest behind : List Token) (a : Tree) (op : BinOp) (before now mid after : List Begun) (stop : Stop)
    → rest ≡ Mark (mark_of op) ∷ behind → level_of op ≡ l → mid ≡ now ++ NODE ∷ [] → RowUpTo l d ts rest a before now → Fails (SpellsExpr (tighter l) d) (Stops (tighter l)) behind mid after stop → Fails (SpellsExpr l d) (Stops l) ts before after stop
row_fails l d ts rest behind a op before now mid after stop e h n loop f =
    loop_fails (λ c s. operator_goes_on l op c rest behind h e s) (step_fits l d a) loop (fails_step l d a op rest behind now mid after stop e h n f)

pub no_step : (l : Level) (d : ℕ) (rest : List Token) (a b : Tree) (us : List Cell) (c : List Token) → ((op : BinOp) → level_of op ≡ l → head rest ≢ Some (Mark (mark_of op))) → RowStep l d a b us → head (tokens_of us ++ c) ≢ head rest
no_step l d rest a b us c h s e = let k = row_step s in h k.op k.at_level (sym e ∙ ap (λ cs. head (tokens_of cs ++ c)) k.whole)

pub row_ends : (l : Level) (d : ℕ) (ts rest : List Token) (a : Tree) (before now : List Begun) → ((op : BinOp) → level_of op ≡ l → head rest ≢ Some (Mark (mark_of op))) → RowUpTo l d ts rest a before now → Found (SpellsExpr l d) (Stops l) ts a rest before now
row_ends l d ts rest a before now h loop = loop_ends (λ b us c s. no_step l d rest a b us c h s) loop
