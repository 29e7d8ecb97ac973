-- Marks of operators, and what may follow an expression.
use Rattle.std.proofs.Common.{◌≡◌, ◌≢◌, ℕ, ◌<◌, ◌≤◌, true, false, ◌==◌, List, [], ◌∷◌, Option, Some, None, ◌⊎◌, inl, inr, get_or, refl, sym, ap, subst, ◌∙◌, arith}
use Rattle.std.proofs.lemmas.Bool.{false≢true}
use Rattle.frp_tree.specs.declared.syntax.BinOp.{BinOp}
use Rattle.frp_tree.specs.declared.syntax.BinOp.TheVariants as binary
use Rattle.frp_tree.specs.declared.syntax.Side.{Side}
use Rattle.frp_tree.specs.declared.syntax.Side.TheVariants.{Left, Right}
use Rattle.frp_tree.specs.declared.levels.Level.{Level}
use Rattle.frp_tree.specs.declared.levels.Level.TheVariants as level
use Rattle.frp_tree.specs.declared.marks.TheConstants as mark
use Rattle.frp_tree.specs.declared.tokens.Token.{Token}
use Rattle.frp_tree.specs.declared.tokens.Token.TheVariants.{Word, Mark}
use Rattle.frp_tree.specs.Levels.{tighter, is_operand, repeats, level_of, mark_of, mark_of_shift}
use Rattle.efrp_syntax.specs.Answers.{head}
use Rattle.efrp_syntax.specs.Expressions.{looseness, Stops, is_row}

abbrev pub of_binary : BinOp → Option (BinOp ⊎ Side)
of_binary op = Some (inl op)

abbrev pub of_shift : Side → Option (BinOp ⊎ Side)
of_shift side = Some (inr side)

abbrev pub of_none : Option (BinOp ⊎ Side)
of_none = None

-- The operators by the numbers of their marks.
abbrev pub operators : List (Option (BinOp ⊎ Side))
operators =
    None ∷ None ∷ None ∷ None ∷ None ∷ None ∷ None ∷ None
    ∷ Some (inl binary.Or) ∷ Some (inl binary.And) ∷ Some (inl binary.Eq) ∷ Some (inl binary.Ne) ∷ Some (inl binary.Lt) ∷ Some (inl binary.Le) ∷ Some (inl binary.Gt) ∷ Some (inl binary.Ge)
    ∷ Some (inl binary.BitOr) ∷ Some (inl binary.BitXor) ∷ Some (inl binary.BitAnd) ∷ Some (inr Left) ∷ Some (inr Right)
    ∷ Some (inl binary.Add) ∷ Some (inl binary.Sub) ∷ Some (inl binary.Mul) ∷ Some (inl binary.Div) ∷ Some (inl binary.Rem) ∷ []

abbrev pub operator_at : ℕ → Option (BinOp ⊎ Side)
operator_at k = get_or operators k None

at_operator : (op : BinOp) → operator_at (mark_of op) ≡ Some (inl op)
at_operator binary.Or = refl
at_operator _ = refl

at_shift : (side : Side) → operator_at (mark_of_shift side) ≡ Some (inr side)
at_shift Left = refl
at_shift Right = refl

number_of : {k n : ℕ} → Some (Mark k) ≡ Some (Mark n) → k ≡ n
number_of e = cc

same_binary : {a b : BinOp} → of_binary a ≡ of_binary b → a ≡ b
same_binary e = cc

same_side : {a b : Side} → of_shift a ≡ of_shift b → a ≡ b
same_side e = cc

not_both : {a : BinOp} {b : Side} → of_binary a ≡ of_shift b → ⊥
not_both e = cc

no_binary : {a : BinOp} → of_none ≡ of_binary a → ⊥
no_binary e = cc

no_side : {a : Side} → of_none ≡ of_shift a → ⊥
no_side e = cc

pub same_operator : (a b : BinOp) → Some (Mark (mark_of a)) ≡ Some (Mark (mark_of b)) → a ≡ b
same_operator a b e = same_binary (sym (at_operator a) ∙ ap operator_at (number_of e) ∙ at_operator b)

pub same_shift : (a b : Side) → Some (Mark (mark_of_shift a)) ≡ Some (Mark (mark_of_shift b)) → a ≡ b
same_shift a b e = same_side (sym (at_shift a) ∙ ap operator_at (number_of e) ∙ at_shift b)

pub operator_no_shift : (op : BinOp) (side : Side) → Some (Mark (mark_of op)) ≡ Some (Mark (mark_of_shift side)) → ⊥
operator_no_shift op side e = not_both (sym (at_operator op) ∙ ap operator_at (number_of e) ∙ at_shift side)

no_operator_at : (k : ℕ) (op : BinOp) → operator_at k ≡ None → Some (Mark k) ≡ Some (Mark (mark_of op)) → ⊥
no_operator_at k op h e = no_binary (sym h ∙ ap operator_at (number_of e) ∙ at_operator op)

no_shift_at : (k : ℕ) (side : Side) → operator_at k ≡ None → Some (Mark k) ≡ Some (Mark (mark_of_shift side)) → ⊥
no_shift_at k side h e = no_side (sym h ∙ ap operator_at (number_of e) ∙ at_shift side)

-- What may follow an expression of any level: a mark that is no operator and no `[`, a word, a number, or nothing.

pub stops_mark : (l : Level) (k : ℕ) (c : List Token) → operator_at k ≡ None → (k == mark.OPENING_BRACKET) ≡ false → Stops l (Mark k ∷ c)
stops_mark l k c h n = record {
  no_index = λ e. false≢true (sym n ∙ ap (λ i. i == mark.OPENING_BRACKET) (number_of e));
  looser = λ op e. absurd (no_operator_at k op h e);
  looser_shift = λ side e. absurd (no_shift_at k side h e);
}

word_no_mark : {x : List ℕ} {k : ℕ} → Some (Word x) ≡ Some (Mark k) → ⊥
word_no_mark e = cc

pub stops_word : (l : Level) (x : List ℕ) (c : List Token) → Stops l (Word x ∷ c)
stops_word l x c = record { no_index = word_no_mark; looser = λ op e. absurd (word_no_mark e); looser_shift = λ side e. absurd (word_no_mark e) }

-- An operator ends what binds more tightly.

tighter_less : (l : Level) → looseness (tighter l) ≤ looseness l
tighter_less level.Whole = omega arith
tighter_less _ = omega arith

operator_less : (op : BinOp) → looseness (tighter (level_of op)) < looseness (level_of op)
operator_less binary.Or = omega arith
operator_less _ = omega arith

pub stops_tighter : (l : Level) (c : List Token) → Stops l c → Stops (tighter l) c
stops_tighter l c s = record {
  no_index = s.no_index;
  looser = λ op e. omega (arith, tighter_less l, s.looser op e);
  looser_shift = λ side e. omega (arith, tighter_less l, s.looser_shift side e);
}

pub stops_operator : (op : BinOp) (c : List Token) → Stops (tighter (level_of op)) (Mark (mark_of op) ∷ c)
stops_operator op c = record {
  no_index = λ e. no_operator_at mark.OPENING_BRACKET op refl (sym e);
  looser = λ other e. subst (λ o. looseness (tighter (level_of op)) < looseness (level_of o)) (same_operator op other e) (operator_less op);
  looser_shift = λ side e. absurd (operator_no_shift op side e);
}

pub stops_shift : (side : Side) (c : List Token) → Stops level.Sum (Mark (mark_of_shift side) ∷ c)
stops_shift side c = record {
  no_index = λ e. no_shift_at mark.OPENING_BRACKET side refl (sym e);
  looser = λ op e. absurd (operator_no_shift op side (sym e));
  looser_shift = λ other e. omega arith;
}

-- Where an operator of the level follows, no expression of the level ends.

pub operator_goes_on : (l : Level) (op : BinOp) (c rest more : List Token) → level_of op ≡ l → rest ≡ Mark (mark_of op) ∷ more → Stops l c → head c ≢ head rest
operator_goes_on l op c rest more h e s k =
    let less : looseness l < looseness (level_of op) = s.looser op (k ∙ ap head e) in
    let same : looseness (level_of op) ≡ looseness l = ap looseness h in
    omega arith

pub shift_goes_on : (side : Side) (c rest more : List Token) → rest ≡ Mark (mark_of_shift side) ∷ more → Stops level.Shift c → head c ≢ head rest
shift_goes_on side c rest more e s k =
    let less : looseness level.Shift < looseness level.Shift = s.looser_shift side (k ∙ ap head e) in
    omega arith

pub row_repeats : (l : Level) → is_row l ≡ true → repeats l ≡ true
row_repeats level.Comparison h = h
row_repeats _ h = refl

pub row_no_operand : (l : Level) → is_row l ≡ true → is_operand l ≡ false
row_no_operand level.Operand h = sym h
row_no_operand _ h = refl
