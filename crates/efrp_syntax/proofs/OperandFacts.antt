-- The rules of operands and of `if`: each as a kind of phrase that its first token chooses.
use Rattle.std.proofs.Common.{◌≡◌, ◌≢◌, ℕ, suc, true, false, ◌==◌, List, [], ◌∷◌, ◌++◌, length, get_or, codes, Some, None, refl, sym, ap, subst, ◌∙◌, eq-eqb}
use Rattle.std.proofs.lemmas.Bool.{false≢true}
use Rattle.std.proofs.lemmas.List.{append-nil}
use Rattle.frp_tree.specs.declared.syntax.Ty.{Ty}
use Rattle.frp_tree.specs.declared.syntax.Ty.TheVariants as ty
use Rattle.frp_tree.specs.declared.syntax.Lit.{Lit}
use Rattle.frp_tree.specs.declared.syntax.Lit.TheVariants as lit
use Rattle.frp_tree.specs.declared.syntax.UnOp.{UnOp}
use Rattle.frp_tree.specs.declared.syntax.UnOp.TheVariants.{Com, Not}
use Rattle.frp_tree.specs.declared.syntax.BinOp.{BinOp}
use Rattle.frp_tree.specs.declared.syntax.BinOp.TheVariants as binary
use Rattle.frp_tree.specs.declared.levels.Level.{Level}
use Rattle.frp_tree.specs.declared.levels.Level.TheVariants as level
use Rattle.frp_tree.specs.declared.marks.TheConstants as mark
use Rattle.frp_tree.specs.declared.tokens.Token.{Token}
use Rattle.frp_tree.specs.declared.tokens.Token.TheVariants.{Word, Num, Wide, Mark}
use Rattle.frp_tree.specs.Names.{type_name, is_keyword}
use Rattle.frp_tree.specs.Limits.{is_number_type}
use Rattle.frp_tree.specs.Levels.{tighter, level_of, mark_of, mark_of_shift, mark_of_sign}
use Rattle.frp_tree.specs.Tree.{Tree, Const, Name, Unary, If, Convert, Look}
use Rattle.frp_tree.specs.Cells.{Cell, plain, node, opening_node, opening, tokens_of, literal_token}
use Rattle.frp_tree.specs.Grammar.{SpellsExpr, literal, named, looked, brackets, signed, converted, chosen, shifted, joined, compared, alone, word, sign}
use Rattle.frp_tree.proofs.OneExpressionLaws.{same_type as same_name}
use Rattle.efrp_syntax.specs.declared.begun.Begun.{Begun}
use Rattle.efrp_syntax.specs.declared.begun.Stop.TheVariants.{Unexpected}
use Rattle.efrp_syntax.specs.Answers.{head, Fails, odd, One, Tok, Done, Seq, Like}
use Rattle.efrp_syntax.specs.Expressions.{Stops, NameEnd, alone as no_index, index, IsNoOperand}
use Rattle.efrp_syntax.proofs.PhraseLaws.{tokens_append, seq, stuck_here}
use Rattle.efrp_syntax.proofs.EndFacts.{stops_tighter}
use Rattle.efrp_syntax.proofs.RowFacts.{example}

-- Tokens that differ.

word_of : {x y : List ℕ} → Some (Word x) ≡ Some (Word y) → x ≡ y
word_of e = cc

number_of : {k n : ℕ} → Some (Mark k) ≡ Some (Mark n) → k ≡ n
number_of e = cc

word_mark : {x : List ℕ} {k : ℕ} → Some (Word x) ≡ Some (Mark k) → ⊥
word_mark e = cc

num_mark : {n k : ℕ} → Some (Num n) ≡ Some (Mark k) → ⊥
num_mark e = cc

wide_mark : {n k : ℕ} → Some (Wide n) ≡ Some (Mark k) → ⊥
wide_mark e = cc

num_word : {n : ℕ} {x : List ℕ} → Some (Num n) ≡ Some (Word x) → ⊥
num_word e = cc

wide_word : {n : ℕ} {x : List ℕ} → Some (Wide n) ≡ Some (Word x) → ⊥
wide_word e = cc

keyword_name : (k x : List ℕ) → is_keyword k ≡ true → is_keyword x ≡ false → Some (Word k) ≡ Some (Word x) → ⊥
keyword_name k x h n e = false≢true (sym n ∙ ap is_keyword (sym (word_of e)) ∙ h)

type_keyword : (to : Ty) → is_keyword (type_name to) ≡ true
type_keyword ty.Bool = refl
type_keyword ty.U8 = refl
type_keyword ty.U16 = refl

-- The first byte tells `if` from the names of types, and both from `true` and `false`.
words_differ : (x y : List ℕ) (a b : ℕ) → get_or x 0 0 ≡ a → get_or y 0 0 ≡ b → (a == b) ≡ false → Some (Word x) ≡ Some (Word y) → ⊥
words_differ x y a b p q n e =
    let same : a ≡ b = sym p ∙ ap (λ z. get_or z 0 0) (word_of e) ∙ q in
    false≢true (sym n ∙ ap (λ i. i == b) same ∙ self b)
  where
    self : (i : ℕ) → (i == i) ≡ true
    self i = eq-eqb i i refl

literal_no_mark : (l : Lit) (k : ℕ) → Some (literal_token l) ≡ Some (Mark k) → ⊥
literal_no_mark (lit.Plain n) k e = num_mark e
literal_no_mark (lit.Wide n) k e = wide_mark e
literal_no_mark (lit.Truth true) k e = word_mark e
literal_no_mark (lit.Truth false) k e = word_mark e

literal_no_name : (l : Lit) (x : List ℕ) → is_keyword x ≡ false → Some (literal_token l) ≡ Some (Word x) → ⊥
literal_no_name (lit.Plain n) x h e = num_word e
literal_no_name (lit.Wide n) x h e = wide_word e
literal_no_name (lit.Truth true) x h e = keyword_name (codes "true") x refl h e
literal_no_name (lit.Truth false) x h e = keyword_name (codes "false") x refl h e

literal_no_type : (l : Lit) (to : Ty) → is_number_type to ≡ true → Some (literal_token l) ≡ Some (Word (type_name to)) → ⊥
literal_no_type (lit.Plain n) to h e = num_word e
literal_no_type (lit.Wide n) to h e = wide_word e
literal_no_type l ty.Bool h e = false≢true h
literal_no_type (lit.Truth true) ty.U8 h e = words_differ (codes "true") (codes "u8") 116 117 refl refl refl e
literal_no_type (lit.Truth false) ty.U8 h e = words_differ (codes "false") (codes "u8") 102 117 refl refl refl e
literal_no_type (lit.Truth true) ty.U16 h e = words_differ (codes "true") (codes "u16") 116 117 refl refl refl e
literal_no_type (lit.Truth false) ty.U16 h e = words_differ (codes "false") (codes "u16") 102 117 refl refl refl e

literal_no_if : (l : Lit) → Some (literal_token l) ≡ Some (Word (codes "if")) → ⊥
literal_no_if (lit.Plain n) e = num_word e
literal_no_if (lit.Wide n) e = wide_word e
literal_no_if (lit.Truth true) e = words_differ (codes "true") (codes "if") 116 105 refl refl refl e
literal_no_if (lit.Truth false) e = words_differ (codes "false") (codes "if") 102 105 refl refl refl e

type_no_if : (to : Ty) → Some (Word (type_name to)) ≡ Some (Word (codes "if")) → ⊥
type_no_if ty.Bool e = words_differ (codes "bool") (codes "if") 98 105 refl refl refl e
type_no_if ty.U8 e = words_differ (codes "u8") (codes "if") 117 105 refl refl refl e
type_no_if ty.U16 e = words_differ (codes "u16") (codes "if") 117 105 refl refl refl e

numbers_differ : (a b : ℕ) → (a == b) ≡ false → Some (Mark a) ≡ Some (Mark b) → ⊥
numbers_differ a b n e = false≢true (sym n ∙ eq-eqb a b (number_of e))

bracket_no_sign : (op : UnOp) → Some (Mark mark.OPENING_PARENTHESIS) ≡ Some (Mark (mark_of_sign op)) → ⊥
bracket_no_sign Com e = numbers_differ mark.OPENING_PARENTHESIS mark.BIT_NOT refl e
bracket_no_sign Not e = numbers_differ mark.OPENING_PARENTHESIS mark.NOT refl e

same_sign : (a b : UnOp) → Some (Mark (mark_of_sign a)) ≡ Some (Mark (mark_of_sign b)) → a ≡ b
same_sign Com Com e = refl
same_sign Not Not e = refl
same_sign Com Not e = absurd (numbers_differ mark.BIT_NOT mark.NOT refl e)
same_sign Not Com e = absurd (numbers_differ mark.NOT mark.BIT_NOT refl e)

same_type : (a b : Ty) → Some (Word (type_name a)) ≡ Some (Word (type_name b)) → a ≡ b
same_type a b e = same_name a b (word_of e)

no_operand_operator : (op : BinOp) → level_of op ≡ level.Operand → ⊥
no_operand_operator binary.Or h = cc
no_operand_operator _ h = cc

head_split : (ts : List Token) (t : Token) → head ts ≡ Some t → (rest : List Token) × (ts ≡ t ∷ rest)
head_split [] t h = absurd (none_some h)
  where
    none_some : {u : Token} → None ≡ Some u → ⊥
    none_some e = cc
head_split (u ∷ ts) t h = (ts, ap (λ v. v ∷ ts) (same h))
  where
    same : {a b : Token} → Some a ≡ Some b → a ≡ b
    same e = cc

-- What holds of any first token holds of this one.
pub at_head : {P : Token → Type 0} (ts : List Token) (t : Token) → head ts ≡ Some t → ((u : Token) (rest : List Token) → ts ≡ u ∷ rest → P u) → P t
at_head ts t h f = let s = head_split ts t h in f t s.0 s.1

-- The kinds.

abbrev pub Literals : Tree → List Cell → Type 0
Literals = Seq (One (λ (l : Lit). node (literal_token l)) (λ (l : Lit). Unit {0})) (λ (l : Lit). Done (Const l))

abbrev pub Named : ℕ → Tree → List Cell → Type 0
Named d = Seq (One (λ (x : List ℕ). node (Word x)) (λ (x : List ℕ). is_keyword x ≡ false)) (NameEnd d)

-- An expression and then a closing mark.
abbrev pub Closed : ℕ → ℕ → (Tree → Tree) → Tree → List Cell → Type 0
Closed closing d make = Seq (SpellsExpr level.Whole (suc d)) (λ (e : Tree). Seq (Tok (sign closing)) (λ (u : Unit {0}). Done (make e)))

abbrev pub Bracketed : ℕ → Tree → List Cell → Type 0
Bracketed d = Seq (Tok (opening (suc d) (Mark mark.OPENING_PARENTHESIS))) (λ (u : Unit {0}). Closed mark.CLOSING_PARENTHESIS d (λ e. e))

abbrev pub Signed : UnOp → ℕ → Tree → List Cell → Type 0
Signed op d = Seq (Tok (opening_node (suc d) (Mark (mark_of_sign op)))) (λ (u : Unit {0}). Seq (SpellsExpr level.Operand (suc d)) (λ (e : Tree). Done (Unary op e)))

abbrev pub Converted : Ty → ℕ → Tree → List Cell → Type 0
Converted to d = Seq (Tok (opening_node (suc d) (Word (type_name to)))) (λ (u : Unit {0}). Seq (Tok (sign mark.OPENING_PARENTHESIS)) (λ (v : Unit {0}). Closed mark.CLOSING_PARENTHESIS d (Convert to)))

abbrev pub Indexed : List ℕ → ℕ → Tree → List Cell → Type 0
Indexed x d = Seq (Tok (opening (suc d) (Mark mark.OPENING_BRACKET))) (λ (u : Unit {0}). Closed mark.CLOSING_BRACKET d (Look x))

abbrev pub Else : ℕ → Tree → Tree → Tree → List Cell → Type 0
Else d c a = Seq (Tok (word (codes "else"))) (λ (u : Unit {0}). Seq (SpellsExpr level.Whole (suc d)) (λ (b : Tree). Done (If c a b)))

abbrev pub Then : ℕ → Tree → Tree → List Cell → Type 0
Then d c = Seq (Tok (word (codes "then"))) (λ (u : Unit {0}). Seq (SpellsExpr level.Whole (suc d)) (Else d c))

abbrev pub Chosen : ℕ → Tree → List Cell → Type 0
Chosen d = Seq (Tok (opening_node (suc d) (Word (codes "if")))) (λ (u : Unit {0}). Seq (SpellsExpr level.Whole (suc d)) (Then d))

data OperandCase (d : ℕ) (e : Tree) (w : List Cell) : Type 0 where
  is_literal : Literals e w → OperandCase d e w
  is_named : Named d e w → OperandCase d e w
  is_bracketed : Bracketed d e w → OperandCase d e w
  is_signed : (op : UnOp) → Signed op d e w → OperandCase d e w
  is_converted : (to : Ty) → is_number_type to ≡ true → Converted to d e w → OperandCase d e w

-- How phrases are put together.

pub tok : (cell : Cell) → Tok cell tt (cell ∷ [])
tok cell = record { is = tt; whole = refl }

pub finished : {A : Type 0} (x : A) → Done x x []
finished x = record { value = refl; whole = refl }

closed : (closing d : ℕ) (make : Tree → Tree) (e : Tree) (ts : List Cell) → SpellsExpr level.Whole (suc d) e ts → Closed closing d make (make e) (ts ++ sign closing ∷ [])
closed closing d make e ts s = seq e ts (sign closing ∷ []) s (seq tt (sign closing ∷ []) [] (tok (sign closing)) (finished (make e)))

pub ended : {A B : Type 0} {G : A → List Cell → Type 0} {make : A → B} (a : A) (ts : List Cell) → G a ts → Seq G (λ (x : A). Done (make x)) (make a) ts
ended {make = make} a ts s = record { first = a; front = ts; back = []; spelled = s; then_spelled = finished (make a); whole = sym (append-nil ts) }

operand_case : {d : ℕ} {e : Tree} {w : List Cell} → SpellsExpr level.Operand d e w → OperandCase d e w
operand_case (literal {l = l}) = is_literal (ended l (node (literal_token l) ∷ []) (record { is = tt; whole = refl }))
operand_case (named {x = x} k) = is_named (seq x (node (Word x) ∷ []) [] (record { is = k; whole = refl }) no_index)
operand_case {d = d} (looked {x = x} ts k s) = is_named (seq x (node (Word x) ∷ []) (opening (suc d) (Mark mark.OPENING_BRACKET) ∷ (ts ++ sign mark.CLOSING_BRACKET ∷ [])) (record { is = k; whole = refl }) (index ts s))
operand_case {d = d} (brackets {e = e} ts s) = is_bracketed (seq tt (opening (suc d) (Mark mark.OPENING_PARENTHESIS) ∷ []) (ts ++ sign mark.CLOSING_PARENTHESIS ∷ []) (tok (opening (suc d) (Mark mark.OPENING_PARENTHESIS))) (closed mark.CLOSING_PARENTHESIS d (λ x. x) e ts s))
operand_case {d = d} (signed {op = op} {e = e} ts s) = is_signed op (seq tt (opening_node (suc d) (Mark (mark_of_sign op)) ∷ []) ts (tok (opening_node (suc d) (Mark (mark_of_sign op)))) (ended e ts s))
operand_case {d = d} (converted {to = to} {e = e} ts k s) =
    is_converted to k (seq tt (opening_node (suc d) (Word (type_name to)) ∷ []) (sign mark.OPENING_PARENTHESIS ∷ (ts ++ sign mark.CLOSING_PARENTHESIS ∷ [])) (tok (opening_node (suc d) (Word (type_name to))))
    (seq tt (sign mark.OPENING_PARENTHESIS ∷ []) (ts ++ sign mark.CLOSING_PARENTHESIS ∷ []) (tok (sign mark.OPENING_PARENTHESIS)) (closed mark.CLOSING_PARENTHESIS d (Convert to) e ts s)))
operand_case (joined {op = op} ts us k r s t) = absurd (no_operand_operator op k)
operand_case (compared {op = op} ts us k r s t) = absurd (no_operand_operator op k)
operand_case (alone k s) = absurd (false≢true (sym k))

-- And back: what the parts of a phrase are.

closed_whole : {closing d : ℕ} {make : Tree → Tree} {e : Tree} {w : List Cell} → (s : Closed closing d make e w) → (e ≡ make s.first) × (w ≡ s.front ++ sign closing ∷ [])
closed_whole {closing = closing} s = let t = s.then_spelled in
    (t.then_spelled.value, s.whole ∙ ap (λ cs. s.front ++ cs) (t.whole ∙ ap (λ cs. cs ++ t.back) t.spelled.whole ∙ ap (λ cs. sign closing ∷ cs) t.then_spelled.whole))

behind_tok : {B : Type 0} {cell : Cell} {K : Unit {0} → B → List Cell → Type 0} {e : B} {w : List Cell} → (s : Seq (Tok cell) K e w) → w ≡ cell ∷ s.back
behind_tok s = s.whole ∙ ap (λ cs. cs ++ s.back) s.spelled.whole

ended_whole : {A B : Type 0} {G : A → List Cell → Type 0} {make : A → B} {e : B} {w : List Cell} → (s : Seq G (λ (x : A). Done (make x)) e w) → (e ≡ make s.first) × (w ≡ s.front)
ended_whole s = (s.then_spelled.value, s.whole ∙ ap (λ cs. s.front ++ cs) s.then_spelled.whole ∙ append-nil s.front)

spells_by : {l : Level} {d : ℕ} {e x : Tree} {w v : List Cell} → e ≡ x → w ≡ v → SpellsExpr l d x v → SpellsExpr l d e w
spells_by {l = l} {d = d} {x = x} {w = w} p q s = subst (λ y. SpellsExpr l d y w) (sym p) (subst (SpellsExpr l d x) (sym q) s)

literal_into : {d : ℕ} (e : Tree) (w : List Cell) → Literals e w → SpellsExpr level.Operand d e w
literal_into e w s = let k = ended_whole s in spells_by k.0 (k.1 ∙ s.spelled.whole) (literal {l = s.first})

named_into : {d : ℕ} (e : Tree) (w : List Cell) → Named d e w → SpellsExpr level.Operand d e w
named_into {d = d} e w s = subst (SpellsExpr level.Operand d e) (sym (s.whole ∙ ap (λ cs. cs ++ s.back) s.spelled.whole)) (go s.first s.back s.spelled.is s.then_spelled)
  where
    go : (x : List ℕ) {t : Tree} (v : List Cell) → is_keyword x ≡ false → NameEnd d x t v → SpellsExpr level.Operand d t (node (Word x) ∷ v)
    go x v k no_index = named k
    go x v k (index ts i) = looked ts k i

bracketed_into : {d : ℕ} (e : Tree) (w : List Cell) → Bracketed d e w → SpellsExpr level.Operand d e w
bracketed_into {d = d} e w s = let k = closed_whole s.then_spelled in spells_by k.0 (behind_tok s ∙ ap (λ cs. opening (suc d) (Mark mark.OPENING_PARENTHESIS) ∷ cs) k.1) (brackets s.then_spelled.front s.then_spelled.spelled)

signed_into : {op : UnOp} {d : ℕ} (e : Tree) (w : List Cell) → Signed op d e w → SpellsExpr level.Operand d e w
signed_into {op = op} {d = d} e w s = let k = ended_whole s.then_spelled in spells_by k.0 (behind_tok s ∙ ap (λ cs. opening_node (suc d) (Mark (mark_of_sign op)) ∷ cs) k.1) (signed s.then_spelled.front s.then_spelled.spelled)

converted_into : {to : Ty} {d : ℕ} → is_number_type to ≡ true → (e : Tree) (w : List Cell) → Converted to d e w → SpellsExpr level.Operand d e w
converted_into {to = to} {d = d} h e w s =
    let t = s.then_spelled in
    let k = closed_whole t.then_spelled in
    spells_by k.0 (behind_tok s ∙ ap (λ cs. opening_node (suc d) (Word (type_name to)) ∷ cs) (behind_tok t ∙ ap (λ cs. sign mark.OPENING_PARENTHESIS ∷ cs) k.1)) (converted t.then_spelled.front h t.then_spelled.spelled)

-- The first token of a phrase.

first_of : {A B : Type 0} {cell : A → Cell} {Is : A → Type 0} {K : A → B → List Cell → Type 0} {e : B} {w : List Cell} → (s : Seq (One cell Is) K e w) → (c : List Token) → head (tokens_of w ++ c) ≡ Some (cell s.first).token
first_of s c = ap (λ cs. head (tokens_of cs ++ c)) (s.whole ∙ ap (λ cs. cs ++ s.back) s.spelled.whole)

pub literal_like : (d : ℕ) (ts : List Token) (l : Lit) → head ts ≡ Some (literal_token l) → Like Literals (Stops level.Operand) (SpellsExpr level.Operand d) (Stops level.Operand) ts
literal_like d ts l h = record { into = literal_into; from = λ e w c s t k. go e w c (operand_case s) (k ∙ h); stops = λ c t. t }
  where
    go : (e : Tree) (w : List Cell) (c : List Token) → OperandCase d e w → head (tokens_of w ++ c) ≡ Some (literal_token l) → Literals e w
    go e w c (is_literal s) k = s
    go e w c (is_named s) k = absurd (literal_no_name l s.first s.spelled.is (sym k ∙ first_of s c))
    go e w c (is_bracketed s) k = absurd (literal_no_mark l mark.OPENING_PARENTHESIS (sym k ∙ first_of s c))
    go e w c (is_signed op s) k = absurd (literal_no_mark l (mark_of_sign op) (sym k ∙ first_of s c))
    go e w c (is_converted to n s) k = absurd (literal_no_type l to n (sym k ∙ first_of s c))

pub named_like : (d : ℕ) (ts : List Token) (x : List ℕ) → is_keyword x ≡ false → head ts ≡ Some (Word x) → Like (Named d) (Stops level.Operand) (SpellsExpr level.Operand d) (Stops level.Operand) ts
named_like d ts x n h = record { into = named_into; from = λ e w c s t k. go e w c (operand_case s) (k ∙ h); stops = λ c t. t }
  where
    go : (e : Tree) (w : List Cell) (c : List Token) → OperandCase d e w → head (tokens_of w ++ c) ≡ Some (Word x) → Named d e w
    go e w c (is_literal s) k = absurd (literal_no_name s.first x n (sym (first_of s c) ∙ k))
    go e w c (is_named s) k = s
    go e w c (is_bracketed s) k = absurd (word_mark (sym k ∙ first_of s c))
    go e w c (is_signed op s) k = absurd (word_mark (sym k ∙ first_of s c))
    go e w c (is_converted to m s) k = absurd (keyword_name (type_name to) x (type_keyword to) n (sym (first_of s c) ∙ k))

pub bracketed_like : (d : ℕ) (ts : List Token) → head ts ≡ Some (Mark mark.OPENING_PARENTHESIS) → Like (Bracketed d) (Stops level.Operand) (SpellsExpr level.Operand d) (Stops level.Operand) ts
bracketed_like d ts h = record { into = bracketed_into; from = λ e w c s t k. go e w c (operand_case s) (k ∙ h); stops = λ c t. t }
  where
    go : (e : Tree) (w : List Cell) (c : List Token) → OperandCase d e w → head (tokens_of w ++ c) ≡ Some (Mark mark.OPENING_PARENTHESIS) → Bracketed d e w
    go e w c (is_literal s) k = absurd (literal_no_mark s.first mark.OPENING_PARENTHESIS (sym (first_of s c) ∙ k))
    go e w c (is_named s) k = absurd (word_mark (sym (first_of s c) ∙ k))
    go e w c (is_bracketed s) k = s
    go e w c (is_signed op s) k = absurd (bracket_no_sign op (sym k ∙ first_of s c))
    go e w c (is_converted to m s) k = absurd (word_mark (sym (first_of s c) ∙ k))

pub signed_like : (op : UnOp) (d : ℕ) (ts : List Token) → head ts ≡ Some (Mark (mark_of_sign op)) → Like (Signed op d) (Stops level.Operand) (SpellsExpr level.Operand d) (Stops level.Operand) ts
signed_like op d ts h = record { into = signed_into; from = λ e w c s t k. go e w c (operand_case s) (k ∙ h); stops = λ c t. t }
  where
    go : (e : Tree) (w : List Cell) (c : List Token) → OperandCase d e w → head (tokens_of w ++ c) ≡ Some (Mark (mark_of_sign op)) → Signed op d e w
    go e w c (is_literal s) k = absurd (literal_no_mark s.first (mark_of_sign op) (sym (first_of s c) ∙ k))
    go e w c (is_named s) k = absurd (word_mark (sym (first_of s c) ∙ k))
    go e w c (is_bracketed s) k = absurd (bracket_no_sign op (sym (first_of s c) ∙ k))
    go e w c (is_signed other s) k = subst (λ o. Signed o d e w) (same_sign other op (sym (first_of s c) ∙ k)) s
    go e w c (is_converted to m s) k = absurd (word_mark (sym (first_of s c) ∙ k))

pub converted_like : (to : Ty) (d : ℕ) (ts : List Token) → is_number_type to ≡ true → head ts ≡ Some (Word (type_name to)) → Like (Converted to d) (Stops level.Operand) (SpellsExpr level.Operand d) (Stops level.Operand) ts
converted_like to d ts n h = record { into = converted_into n; from = λ e w c s t k. go e w c (operand_case s) (k ∙ h); stops = λ c t. t }
  where
    go : (e : Tree) (w : List Cell) (c : List Token) → OperandCase d e w → head (tokens_of w ++ c) ≡ Some (Word (type_name to)) → Converted to d e w
    go e w c (is_literal s) k = absurd (literal_no_type s.first to n (sym (first_of s c) ∙ k))
    go e w c (is_named s) k = absurd (keyword_name (type_name to) s.first (type_keyword to) s.spelled.is (sym k ∙ first_of s c))
    go e w c (is_bracketed s) k = absurd (word_mark (sym k ∙ first_of s c))
    go e w c (is_signed op s) k = absurd (word_mark (sym k ∙ first_of s c))
    go e w c (is_converted other m s) k = subst (λ o. Converted o d e w) (same_type other to (sym (first_of s c) ∙ k)) s

-- Where nothing begins an operand.
pub no_operand : (d : ℕ) (ts : List Token) (before : List Begun) → IsNoOperand ts → Fails (SpellsExpr level.Operand d) (Stops level.Operand) ts before before (Unexpected (length ts))
no_operand d ts before n = odd (stuck_here before (Const (lit.Plain 0)) (node (Num 0) ∷ []) (example level.Operand d) tt (λ e w c more s t h p. go w c (operand_case s) (ap head p ∙ h)))
  where
    go : {e : Tree} (w : List Cell) (c : List Token) → OperandCase d e w → head (tokens_of w ++ c) ≡ head ts → ⊥
    go w c (is_literal s) k = n.no_literal s.first (sym k ∙ first_of s c)
    go w c (is_named s) k = n.no_name s.first s.spelled.is (sym k ∙ first_of s c)
    go w c (is_bracketed s) k = n.no_bracket (sym k ∙ first_of s c)
    go w c (is_signed op s) k = n.no_sign op (sym k ∙ first_of s c)
    go w c (is_converted to m s) k = n.no_conversion to m (sym k ∙ first_of s c)

-- Behind a name an index follows, or none.

indexed_into : {x : List ℕ} {d : ℕ} (e : Tree) (w : List Cell) → Indexed x d e w → NameEnd d x e w
indexed_into {x = x} {d = d} e w s =
    let t = s.then_spelled in
    let k = closed_whole t in
    subst (λ y. NameEnd d x y w) (sym k.0) (subst (NameEnd d x (Look x t.first)) (sym (behind_tok s ∙ ap (λ cs. opening (suc d) (Mark mark.OPENING_BRACKET) ∷ cs) k.1)) (index t.front t.spelled))

pub indexed_like : (x : List ℕ) (d : ℕ) (ts : List Token) → head ts ≡ Some (Mark mark.OPENING_BRACKET) → Like (Indexed x d) (Stops level.Operand) (NameEnd d x) (Stops level.Operand) ts
indexed_like x d ts h = record { into = indexed_into; from = from; stops = λ c t. t }
  where
    from : (e : Tree) (w : List Cell) (c : List Token) → NameEnd d x e w → Stops level.Operand c → head (tokens_of w ++ c) ≡ head ts → Indexed x d e w
    from e w c no_index t k = absurd (t.no_index (k ∙ h))
    from e w c (index {e = i} ts s) t k = seq tt (opening (suc d) (Mark mark.OPENING_BRACKET) ∷ []) (ts ++ sign mark.CLOSING_BRACKET ∷ []) (tok (opening (suc d) (Mark mark.OPENING_BRACKET))) (closed mark.CLOSING_BRACKET d (Look x) i ts s)

pub plain_like : (x : List ℕ) (d : ℕ) (ts : List Token) → head ts ≢ Some (Mark mark.OPENING_BRACKET) → Like (Done (Name x)) (Stops level.Operand) (NameEnd d x) (Stops level.Operand) ts
plain_like x d ts h = record { into = into; from = from; stops = λ c t. t }
  where
    into : (e : Tree) (w : List Cell) → Done (Name x) e w → NameEnd d x e w
    into e w k = subst (NameEnd d x e) (sym k.whole) (subst (λ y. NameEnd d x y []) (sym k.value) no_index)

    from : (e : Tree) (w : List Cell) (c : List Token) → NameEnd d x e w → Stops level.Operand c → head (tokens_of w ++ c) ≡ head ts → Done (Name x) e w
    from e w c no_index t k = finished (Name x)
    from e w c (index us s) t k = absurd (h (sym k))

-- `if`.

choice_into : {d : ℕ} (e : Tree) (w : List Cell) → Chosen d e w → SpellsExpr level.Whole d e w
choice_into {d = d} e w s =
    let c = s.then_spelled in
    let t = c.then_spelled in
    let a = t.then_spelled in
    let u = a.then_spelled in
    let b = u.then_spelled in
    let k = ended_whole b in
    spells_by k.0 (behind_tok s ∙ ap (λ cs. opening_node (suc d) (Word (codes "if")) ∷ cs) (c.whole ∙ ap (λ cs. c.front ++ cs) (behind_tok t ∙ ap (λ cs. word (codes "then") ∷ cs) (a.whole ∙ ap (λ cs. a.front ++ cs) (behind_tok u ∙ ap (λ cs. word (codes "else") ∷ cs) k.1)))))
    (chosen c.front a.front b.front c.spelled a.spelled b.spelled)

data WholeCase (d : ℕ) (e : Tree) (w : List Cell) : Type 0 where
  is_chosen : Chosen d e w → WholeCase d e w
  is_looser : SpellsExpr level.Or d e w → WholeCase d e w

no_whole_operator : (op : BinOp) → level_of op ≡ level.Whole → ⊥
no_whole_operator binary.Or h = cc
no_whole_operator _ h = cc

whole_case : {d : ℕ} {e : Tree} {w : List Cell} → SpellsExpr level.Whole d e w → WholeCase d e w
whole_case {d = d} (chosen {c = c} {a = a} {b = b} ts us vs s t u) =
    is_chosen (seq tt (opening_node (suc d) (Word (codes "if")) ∷ []) (ts ++ word (codes "then") ∷ (us ++ word (codes "else") ∷ vs)) (tok (opening_node (suc d) (Word (codes "if"))))
    (seq c ts (word (codes "then") ∷ (us ++ word (codes "else") ∷ vs)) s
    (seq tt (word (codes "then") ∷ []) (us ++ word (codes "else") ∷ vs) (tok (word (codes "then")))
    (seq a us (word (codes "else") ∷ vs) t
    (seq tt (word (codes "else") ∷ []) vs (tok (word (codes "else"))) (ended b vs u))))))
whole_case (joined {op = op} ts us k r s t) = absurd (no_whole_operator op k)
whole_case (compared {op = op} ts us k r s t) = absurd (no_whole_operator op k)
whole_case (alone k s) = is_looser s

tighter_no_whole : (l : Level) → tighter l ≡ level.Whole → ⊥
tighter_no_whole level.Whole h = cc
tighter_no_whole _ h = cc

-- No expression but a choice begins with `if`.
begins_no_if : {l : Level} {d : ℕ} {e : Tree} {w : List Cell} (c : List Token) → SpellsExpr l d e w → (l ≡ level.Whole → ⊥) → head (tokens_of w ++ c) ≡ Some (Word (codes "if")) → ⊥
begins_no_if c (literal {l = l}) n k = literal_no_if l k
begins_no_if c (named {x = x} h) n k = keyword_name (codes "if") x refl h (sym k)
begins_no_if c (looked {x = x} ts h s) n k = keyword_name (codes "if") x refl h (sym k)
begins_no_if c (brackets ts s) n k = word_mark (sym k)
begins_no_if c (signed ts s) n k = word_mark (sym k)
begins_no_if c (converted {to = to} ts h s) n k = type_no_if to k
begins_no_if c (chosen ts us vs s t u) n k = n refl
begins_no_if c (shifted {side = side} {n = amount} ts s) n k = begins_no_if (tokens_of (node (Mark (mark_of_shift side)) ∷ plain (Num amount) ∷ []) ++ c) s n (ap head (sym (tokens_append ts (node (Mark (mark_of_shift side)) ∷ plain (Num amount) ∷ []) c)) ∙ k)
begins_no_if c (joined {op = op} ts us h r s t) n k = begins_no_if (tokens_of (node (Mark (mark_of op)) ∷ us) ++ c) s n (ap head (sym (tokens_append ts (node (Mark (mark_of op)) ∷ us) c)) ∙ k)
begins_no_if c (compared {l = l} {op = op} ts us h r s t) n k = begins_no_if (tokens_of (node (Mark (mark_of op)) ∷ us) ++ c) s (tighter_no_whole l) (ap head (sym (tokens_append ts (node (Mark (mark_of op)) ∷ us) c)) ∙ k)
begins_no_if c (alone {l = l} h s) n k = begins_no_if c s (tighter_no_whole l) k

pub choice_like : (d : ℕ) (ts : List Token) → head ts ≡ Some (Word (codes "if")) → Like (Chosen d) (Stops level.Whole) (SpellsExpr level.Whole d) (Stops level.Whole) ts
choice_like d ts h = record { into = choice_into; from = λ e w c s t k. go e w c (whole_case s) (k ∙ h); stops = λ c t. t }
  where
    or_no_whole : level.Or ≡ level.Whole → ⊥
    or_no_whole e = cc

    go : (e : Tree) (w : List Cell) (c : List Token) → WholeCase d e w → head (tokens_of w ++ c) ≡ Some (Word (codes "if")) → Chosen d e w
    go e w c (is_chosen s) k = s
    go e w c (is_looser s) k = absurd (begins_no_if c s or_no_whole k)

pub looser_like : (d : ℕ) (ts : List Token) → head ts ≢ Some (Word (codes "if")) → Like (SpellsExpr level.Or d) (Stops level.Or) (SpellsExpr level.Whole d) (Stops level.Whole) ts
looser_like d ts h = record { into = λ e w s. alone refl s; from = λ e w c s t k. go e w c (whole_case s) k; stops = λ c t. stops_tighter level.Whole c t }
  where
    go : (e : Tree) (w : List Cell) (c : List Token) → WholeCase d e w → head (tokens_of w ++ c) ≡ head ts → SpellsExpr level.Or d e w
    go e w c (is_chosen s) k = absurd (h (sym k ∙ first_of s c))
    go e w c (is_looser s) k = s
