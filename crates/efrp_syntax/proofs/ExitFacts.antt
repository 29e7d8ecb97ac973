-- What the exits of the readers of operands and of `if` answer.
use Rattle.std.proofs.Common.{◌≡◌, ℕ, suc, false, List, [], ◌∷◌, ◌++◌, codes, refl, sym, ap, subst, ◌∙◌}
use Rattle.frp_tree.specs.declared.syntax.Ty.{Ty}
use Rattle.frp_tree.specs.declared.syntax.Lit.{Lit}
use Rattle.frp_tree.specs.declared.syntax.Lit.TheVariants as lit
use Rattle.frp_tree.specs.declared.syntax.UnOp.{UnOp}
use Rattle.frp_tree.specs.declared.levels.Level.{Level}
use Rattle.frp_tree.specs.declared.levels.Level.TheVariants as level
use Rattle.frp_tree.specs.declared.marks.TheConstants as mark
use Rattle.frp_tree.specs.declared.tokens.Token.{Token}
use Rattle.frp_tree.specs.declared.tokens.Token.TheVariants.{Word, Num, Mark}
use Rattle.frp_tree.specs.Names.{type_name, is_keyword}
use Rattle.frp_tree.specs.Levels.{mark_of_sign}
use Rattle.frp_tree.specs.Tree.{Tree, Const, Name, Unary, If, Convert, Look}
use Rattle.frp_tree.specs.Cells.{Cell, node, opening_node, opening, tokens_of, literal_token}
use Rattle.frp_tree.specs.Grammar.{SpellsExpr, word, sign}
use Rattle.efrp_syntax.specs.declared.begun.Begun.{Begun}
use Rattle.efrp_syntax.specs.declared.begun.Stop.{Stop}
use Rattle.efrp_syntax.specs.Answers.{Found, Fails, Anything, One, Tok, Done, Seq, Example, Fits}
use Rattle.efrp_syntax.specs.Expressions.{Stops, NameEnd, alone as no_index}
use Rattle.efrp_syntax.proofs.PhraseLaws.{found_next, fails_first, fails_next, found_done, seq}
use Rattle.efrp_syntax.proofs.EndFacts.{stops_mark, stops_word}
use Rattle.efrp_syntax.proofs.RowFacts.{example}
use Rattle.efrp_syntax.proofs.OperandFacts.{Closed, Else, Then, tok, finished}

-- What fits behind what.

-- Behind a phrase that anything may follow.
pub any_fits : {A B : Type 0} {G : A → List Cell → Type 0} {K : A → B → List Cell → Type 0} {T : List Token → Type 0} → ((a : A) → Example (K a)) → Fits G Anything K T
any_fits x = record { follows = λ a e v c s t. tt; goes_on = x }

-- Behind a phrase that is all.
pub done_fits : {A B : Type 0} {G : A → List Cell → Type 0} (S : List Token → Type 0) (make : A → B) → Fits G S (λ (a : A). Done (make a)) S
done_fits S make = record {
  follows = λ a e v c k t. subst (λ cs. S (tokens_of cs ++ c)) (sym k.whole) t;
  goes_on = λ a. record { value = make a; cells = []; spelled = finished (make a) };
}

-- Behind an expression a token that ends it.
pub tok_fits : {A B : Type 0} {G : A → List Cell → Type 0} {L : A → Unit {0} → B → List Cell → Type 0} {T : List Token → Type 0} (S : List Token → Type 0) (cell : Cell) → ((c : List Token) → S (cell.token ∷ c)) → ((a : A) → Example (Seq (Tok cell) (L a)))
    → Fits G S (λ (a : A). Seq (Tok cell) (L a)) T
tok_fits {L = L} S cell h x = record { follows = λ a e v c s t. subst (λ cs. S (tokens_of cs ++ c)) (sym (s.whole ∙ ap (λ cs. cs ++ s.back) s.spelled.whole)) (h (tokens_of s.back ++ c)); goes_on = x }

-- Some phrase of each kind.

then_tok : {B : Type 0} {K : Unit {0} → B → List Cell → Type 0} (cell : Cell) → Example (K tt) → Example (Seq (Tok cell) K)
then_tok cell x = record { value = x.value; cells = cell ∷ x.cells; spelled = seq tt (cell ∷ []) x.cells (tok cell) x.spelled }

done_example : {A : Type 0} (x : A) → Example (Done x)
done_example x = record { value = x; cells = []; spelled = finished x }

expr_then : {B : Type 0} {K : Tree → B → List Cell → Type 0} (l : Level) (d : ℕ) → Example (K (Const (lit.Plain 0))) → Example (Seq (SpellsExpr l d) K)
expr_then l d x = record { value = x.value; cells = node (Num 0) ∷ x.cells; spelled = seq (Const (lit.Plain 0)) (node (Num 0) ∷ []) x.cells (example l d) x.spelled }

close_example : (closing : ℕ) (make : Tree → Tree) (e : Tree) → Example (Seq (Tok (sign closing)) (λ (u : Unit {0}). Done (make e)))
close_example closing make e = then_tok (sign closing) (done_example (make e))

closed_example : (closing d : ℕ) (make : Tree → Tree) → Example (Closed closing d make)
closed_example closing d make = expr_then level.Whole (suc d) (close_example closing make (Const (lit.Plain 0)))

-- An expression and its closing mark.

pub closed_fits : (closing d : ℕ) (make : Tree → Tree) (T : List Token → Type 0) → ((c : List Token) → Stops level.Whole (Mark closing ∷ c)) → Fits (SpellsExpr level.Whole (suc d)) (Stops level.Whole) (λ (e : Tree). Seq (Tok (sign closing)) (λ (u : Unit {0}). Done (make e))) T
closed_fits closing d make T h = tok_fits (Stops level.Whole) (sign closing) h (close_example closing make)

pub close_fits : (closing : ℕ) (make : Tree → Tree) (e : Tree) (T : List Token → Type 0) → Fits (Tok (sign closing)) Anything (λ (u : Unit {0}). Done (make e)) T
close_fits closing make e T = any_fits (λ u. done_example (make e))

pub parenthesis_stops : (c : List Token) → Stops level.Whole (Mark mark.CLOSING_PARENTHESIS ∷ c)
parenthesis_stops c = stops_mark level.Whole mark.CLOSING_PARENTHESIS c refl refl

pub bracket_stops : (c : List Token) → Stops level.Whole (Mark mark.CLOSING_BRACKET ∷ c)
bracket_stops c = stops_mark level.Whole mark.CLOSING_BRACKET c refl refl

pub closed_first : (closing d : ℕ) (make : Tree → Tree) (T : List Token → Type 0) {ts : List Token} {before after : List Begun} {stop : Stop} → ((c : List Token) → Stops level.Whole (Mark closing ∷ c))
    → Fails (SpellsExpr level.Whole (suc d)) (Stops level.Whole) ts before after stop → Fails (Closed closing d make) T ts before after stop
closed_first closing d make T h f = fails_first (closed_fits closing d make T h) f

pub closed_last : (closing d : ℕ) (make : Tree → Tree) (T : List Token → Type 0) {ts rest : List Token} {e : Tree} {before mid after : List Begun} {stop : Stop} → ((c : List Token) → Stops level.Whole (Mark closing ∷ c))
    → Found (SpellsExpr level.Whole (suc d)) (Stops level.Whole) ts e rest before mid → Fails (Tok (sign closing)) Anything rest mid after stop → Fails (Closed closing d make) T ts before after stop
closed_last closing d make T {e = e} h f g = fails_next (closed_fits closing d make T h) f (fails_first (close_fits closing make e T) g)

pub closed_found : (closing d : ℕ) (make : Tree → Tree) (T : List Token → Type 0) {ts rest end : List Token} {e : Tree} {before mid after : List Begun} → ((c : List Token) → Stops level.Whole (Mark closing ∷ c))
    → Found (SpellsExpr level.Whole (suc d)) (Stops level.Whole) ts e rest before mid → Found (Tok (sign closing)) Anything rest tt end mid after → Found (Closed closing d make) T ts (make e) end before after
closed_found closing d make T {end = end} {e = e} {after = after} h f g = found_next (closed_fits closing d make T h) f (found_next (close_fits closing make e T) g (found_done T end (make e) after))

-- Behind one token a phrase of which there is an example.
pub tok_then : (cell : Cell) {B : Type 0} {K : Unit {0} → B → List Cell → Type 0} (T : List Token → Type 0) → Example (K tt) → Fits (Tok cell) Anything K T
tok_then cell T x = any_fits (λ u. x)

pub bracketed_fits : (d : ℕ) → Fits (Tok (opening (suc d) (Mark mark.OPENING_PARENTHESIS))) Anything (λ (u : Unit {0}). Closed mark.CLOSING_PARENTHESIS d (λ e. e)) (Stops level.Operand)
bracketed_fits d = tok_then (opening (suc d) (Mark mark.OPENING_PARENTHESIS)) (Stops level.Operand) (closed_example mark.CLOSING_PARENTHESIS d (λ e. e))

pub indexed_fits : (x : List ℕ) (d : ℕ) → Fits (Tok (opening (suc d) (Mark mark.OPENING_BRACKET))) Anything (λ (u : Unit {0}). Closed mark.CLOSING_BRACKET d (Look x)) (Stops level.Operand)
indexed_fits x d = tok_then (opening (suc d) (Mark mark.OPENING_BRACKET)) (Stops level.Operand) (closed_example mark.CLOSING_BRACKET d (Look x))

pub signed_fits : (op : UnOp) (d : ℕ) → Fits (Tok (opening_node (suc d) (Mark (mark_of_sign op)))) Anything (λ (u : Unit {0}). Seq (SpellsExpr level.Operand (suc d)) (λ (e : Tree). Done (Unary op e))) (Stops level.Operand)
signed_fits op d = tok_then (opening_node (suc d) (Mark (mark_of_sign op))) (Stops level.Operand) (expr_then level.Operand (suc d) (done_example (Unary op (Const (lit.Plain 0)))))

pub converted_fits : (to : Ty) (d : ℕ) → Fits (Tok (opening_node (suc d) (Word (type_name to)))) Anything (λ (u : Unit {0}). Seq (Tok (sign mark.OPENING_PARENTHESIS)) (λ (v : Unit {0}). Closed mark.CLOSING_PARENTHESIS d (Convert to))) (Stops level.Operand)
converted_fits to d = tok_then (opening_node (suc d) (Word (type_name to))) (Stops level.Operand) (then_tok (sign mark.OPENING_PARENTHESIS) (closed_example mark.CLOSING_PARENTHESIS d (Convert to)))

pub inside_fits : (to : Ty) (d : ℕ) → Fits (Tok (sign mark.OPENING_PARENTHESIS)) Anything (λ (v : Unit {0}). Closed mark.CLOSING_PARENTHESIS d (Convert to)) (Stops level.Operand)
inside_fits to d = tok_then (sign mark.OPENING_PARENTHESIS) (Stops level.Operand) (closed_example mark.CLOSING_PARENTHESIS d (Convert to))

-- `if`.

else_example : (d : ℕ) (c a : Tree) → Example (Else d c a)
else_example d c a = then_tok (word (codes "else")) (expr_then level.Whole (suc d) (done_example (If c a (Const (lit.Plain 0)))))

then_example : (d : ℕ) (c : Tree) → Example (Then d c)
then_example d c = then_tok (word (codes "then")) (expr_then level.Whole (suc d) (else_example d c (Const (lit.Plain 0))))

pub if_fits : (d : ℕ) → Fits (Tok (opening_node (suc d) (Word (codes "if")))) Anything (λ (u : Unit {0}). Seq (SpellsExpr level.Whole (suc d)) (Then d)) (Stops level.Whole)
if_fits d = tok_then (opening_node (suc d) (Word (codes "if"))) (Stops level.Whole) (expr_then level.Whole (suc d) (then_example d (Const (lit.Plain 0))))

pub condition_fits : (d : ℕ) → Fits (SpellsExpr level.Whole (suc d)) (Stops level.Whole) (Then d) (Stops level.Whole)
condition_fits d = tok_fits (Stops level.Whole) (word (codes "then")) (λ c. stops_word level.Whole (codes "then") c) (then_example d)

pub then_fits : (d : ℕ) (c : Tree) → Fits (Tok (word (codes "then"))) Anything (λ (u : Unit {0}). Seq (SpellsExpr level.Whole (suc d)) (Else d c)) (Stops level.Whole)
then_fits d c = tok_then (word (codes "then")) (Stops level.Whole) (expr_then level.Whole (suc d) (else_example d c (Const (lit.Plain 0))))

pub yes_fits : (d : ℕ) (c : Tree) → Fits (SpellsExpr level.Whole (suc d)) (Stops level.Whole) (Else d c) (Stops level.Whole)
yes_fits d c = tok_fits (Stops level.Whole) (word (codes "else")) (λ k. stops_word level.Whole (codes "else") k) (else_example d c)

pub else_fits : (d : ℕ) (c a : Tree) → Fits (Tok (word (codes "else"))) Anything (λ (u : Unit {0}). Seq (SpellsExpr level.Whole (suc d)) (λ (b : Tree). Done (If c a b))) (Stops level.Whole)
else_fits d c a = tok_then (word (codes "else")) (Stops level.Whole) (expr_then level.Whole (suc d) (done_example (If c a (Const (lit.Plain 0)))))

pub no_fits : (d : ℕ) (c a : Tree) → Fits (SpellsExpr level.Whole (suc d)) (Stops level.Whole) (λ (b : Tree). Done (If c a b)) (Stops level.Whole)
no_fits d c a = done_fits (Stops level.Whole) (If c a)

-- A literal, and a name.

pub literal_fits : Fits (One (λ (l : Lit). node (literal_token l)) (λ (l : Lit). Unit {0})) Anything (λ (l : Lit). Done (Const l)) (Stops level.Operand)
literal_fits = any_fits (λ l. done_example (Const l))

pub name_fits : (d : ℕ) → Fits (One (λ (x : List ℕ). node (Word x)) (λ (x : List ℕ). is_keyword x ≡ false)) Anything (NameEnd d) (Stops level.Operand)
name_fits d = any_fits (λ x. record { value = Name x; cells = []; spelled = no_index })

-- The same level, or nesting, told otherwise.

pub found_at : {m l : Level} {d : ℕ} {ts rest : List Token} {e : Tree} {before after : List Begun} → m ≡ l → Found (SpellsExpr m d) (Stops m) ts e rest before after → Found (SpellsExpr l d) (Stops l) ts e rest before after
found_at {d = d} {ts = ts} {rest = rest} {e = e} {before = before} {after = after} h f = subst (λ k. Found (SpellsExpr k d) (Stops k) ts e rest before after) h f

pub fails_at : {m l : Level} {d : ℕ} {ts : List Token} {before after : List Begun} {stop : Stop} → m ≡ l → Fails (SpellsExpr m d) (Stops m) ts before after stop → Fails (SpellsExpr l d) (Stops l) ts before after stop
fails_at {d = d} {ts = ts} {before = before} {after = after} {stop = stop} h f = subst (λ k. Fails (SpellsExpr k d) (Stops k) ts before after stop) h f

pub found_in : {l : Level} {m d : ℕ} {ts rest : List Token} {e : Tree} {before after : List Begun} → m ≡ d → Found (SpellsExpr l m) (Stops l) ts e rest before after → Found (SpellsExpr l d) (Stops l) ts e rest before after
found_in {l = l} {ts = ts} {rest = rest} {e = e} {before = before} {after = after} h f = subst (λ k. Found (SpellsExpr l k) (Stops l) ts e rest before after) h f

pub fails_in : {l : Level} {m d : ℕ} {ts : List Token} {before after : List Begun} {stop : Stop} → m ≡ d → Fails (SpellsExpr l m) (Stops l) ts before after stop → Fails (SpellsExpr l d) (Stops l) ts before after stop
fails_in {l = l} {ts = ts} {before = before} {after = after} {stop = stop} h f = subst (λ k. Fails (SpellsExpr l k) (Stops l) ts before after stop) h f
