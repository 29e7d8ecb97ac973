-- The parts of which definitions and clauses are made, and what they begin with.
use Rattle.std.proofs.Common.{◌==◌, ◌<◌, ◌≤◌, ◌≡◌, ℕ, suc, ◌+◌, Bool, true, false, ◌||◌, cond, List, [], ◌∷◌, ◌++◌, length, codes, Option, Some, None, Result, Ok, Err, refl, sym, ap, subst, ◌∙◌, arith}
use Rattle.std.specs.Borrow.{Bor}
use Rattle.std.specs.Str.{bytes_eq}
use Rattle.std.proofs.lemmas.Bool.{false≢true}
use Rattle.std.proofs.lemmas.List.{append-nil, append_assoc, length-append}
use Rattle.frp_tree.specs.declared.kinds.Kind.TheVariants.{Definitions}
use Rattle.frp_tree.specs.declared.levels.Level.{Level}
use Rattle.frp_tree.specs.declared.levels.Level.TheVariants as level
use Rattle.frp_tree.specs.declared.marks.TheConstants as mark
use Rattle.frp_tree.specs.declared.syntax.Lit.{Lit}
use Rattle.frp_tree.specs.declared.syntax.Lit.TheVariants as lit
use Rattle.frp_tree.specs.declared.syntax.Ty.{Ty}
use Rattle.frp_tree.specs.declared.syntax.Ty.TheVariants as ty
use Rattle.frp_tree.specs.declared.tokens.Token.{Token}
use Rattle.frp_tree.specs.declared.tokens.Token.TheVariants.{Word, Num, Wide, Mark}
use Rattle.frp_tree.specs.Names.{type_name, is_keyword}
use Rattle.frp_tree.specs.Limits.{is_number_type}
use Rattle.frp_tree.specs.Tree.{Tree, ClauseTree, BehaviourTree, Plain, Input, Table, Reactive, DeclTree}
use Rattle.frp_tree.specs.Cells.{Cell, tokens_of, plain, starting, entry_cell, literal_token}
use Rattle.frp_tree.specs.Grammar.{word, sign, SpellsExpr, literal, named, looked, brackets, signed, converted, chosen, shifted, joined, compared, alone, Row, later_cells, SpellsClause, more_entries, SpellsBehaviour, plainly, input, table, reactive, SpellsDecl}
use Rattle.efrp_syntax.specs.declared.begun.Begun.{Begun}
use Rattle.efrp_syntax.specs.declared.begun.Stop.{Stop}
use Rattle.efrp_syntax.specs.Answers.{head, Answers, Anything, Found, Fails, One, Tok, Done, Seq, Example, Fits, Like}
use Rattle.efrp_syntax.specs.Expressions.{Stops}
use Rattle.efrp_syntax.specs.Items.{StartsWord, StartsMark, StartsName, Ends, EndsItem, NameOf, LiteralOf, TypeOf, Later, EntryOf, EntriesBehind, PlainForm, InputForm, FirstEntry, TableForm, ReactiveForm}
use Rattle.efrp_syntax.proofs.PhraseLaws.{found_like, found_next, found_done, fails_like, fails_first, fails_next, seq}
use Rattle.efrp_syntax.proofs.EndFacts.{stops_word}
use Rattle.efrp_syntax.proofs.ItemKindFacts.{some_one, some_tok, some_done, some_seq, some_row, fits_any, opened, opening, closing, AllBegin, tokens_then}
use Rattle.efrp_syntax.proofs.ItemFacts.{some_name, some_expr, whole_stops, join}

abbrev pub is_mark : ℕ → Option Token → Bool
is_mark k None = false
is_mark k (Some (Word x)) = false
is_mark k (Some (Num n)) = false
is_mark k (Some (Wide n)) = false
is_mark k (Some (Mark m)) = m == k

-- What may follow an expression in a clause.
pub later_stops : (c : List Token) → head c ≡ Some (Word (codes "later")) → Stops level.Whole c
later_stops [] e = cc
later_stops (t ∷ c) e = let same : t ≡ Word (codes "later") = cc in subst (λ x. Stops level.Whole (x ∷ c)) (sym same) (stops_word level.Whole (codes "later") c)

-- A word that is another one.
abbrev pub is_word : List ℕ → Option Token → Bool
is_word w None = false
is_word w (Some (Word x)) = bytes_eq x w
is_word w (Some (Num n)) = false
is_word w (Some (Wide n)) = false
is_word w (Some (Mark k)) = false

-- What an expression begins with.
abbrev pub begins_expr : Option Token → Bool
begins_expr None = false
begins_expr (Some (Word w)) = cond (is_keyword w) (bytes_eq w (codes "if") || bytes_eq w (codes "true") || bytes_eq w (codes "false") || bytes_eq w (codes "u8") || bytes_eq w (codes "u16")) true
begins_expr (Some (Num n)) = true
begins_expr (Some (Wide n)) = true
begins_expr (Some (Mark k)) = true

literal_begins : (l : Lit) → begins_expr (Some (literal_token l)) ≡ true
literal_begins (lit.Plain n) = refl
literal_begins (lit.Wide n) = refl
literal_begins (lit.Truth true) = refl
literal_begins (lit.Truth false) = refl

name_begins : (x : List ℕ) → is_keyword x ≡ false → begins_expr (Some (Word x)) ≡ true
name_begins x k = ap (λ b. cond b (bytes_eq x (codes "if") || bytes_eq x (codes "true") || bytes_eq x (codes "false") || bytes_eq x (codes "u8") || bytes_eq x (codes "u16")) true) k

type_begins : (t : Ty) → is_number_type t ≡ true → begins_expr (Some (Word (type_name t))) ≡ true
type_begins ty.Bool k = cc
type_begins ty.U8 k = refl
type_begins ty.U16 k = refl

-- The first token of what goes on with more.
first_of_more : (u v : List Cell) (c : List Token) → begins_expr (head (tokens_of u ++ (tokens_of v ++ c))) ≡ true → begins_expr (head (tokens_of (u ++ v) ++ c)) ≡ true
first_of_more u v c h = ap (λ ts. begins_expr (head ts)) (tokens_then u v c) ∙ h

pub expr_begins : {l : Level} {d : ℕ} {e : Tree} {w : List Cell} → SpellsExpr l d e w → (c : List Token) → begins_expr (head (tokens_of w ++ c)) ≡ true
expr_begins (literal {l = l}) c = literal_begins l
expr_begins (named {x = x} k) c = name_begins x k
expr_begins (looked {x = x} ts k e) c = name_begins x k
expr_begins (brackets ts e) c = refl
expr_begins (signed ts e) c = refl
expr_begins (converted {to = to} ts k e) c = type_begins to k
expr_begins (chosen ts us vs x y z) c = refl
expr_begins (shifted ts e) c = first_of_more ts _ c (expr_begins e _)
expr_begins (joined ts us o r x y) c = first_of_more ts _ c (expr_begins x _)
expr_begins (compared ts us o r x y) c = first_of_more ts _ c (expr_begins x _)
expr_begins (alone o x) c = expr_begins x c

-- The answer of one form is that of all.
pub answers_like : {A T : Type 0} {G H : A → List Cell → Type 0} {S U : List Token → Type 0} {ts : List Token} (before after : List Begun) (view : T → A) (result : Result (T × Bor (List Token)) Stop)
    → Like G S H U ts → Answers G S view ts before after result → Answers H U view ts before after result
answers_like before after view (Ok found) like a = found_like like a
answers_like before after view (Err stop) like a = fails_like like a

-- Types.

one_type : (s t : Ty) → type_name s ≡ type_name t → s ≡ t
one_type ty.Bool ty.Bool e = refl
one_type ty.U8 ty.U8 e = refl
one_type ty.U16 ty.U16 e = refl
one_type ty.Bool ty.U8 e = absurd (false≢true (ap (λ w. bytes_eq w (codes "u8")) e))
one_type ty.Bool ty.U16 e = absurd (false≢true (ap (λ w. bytes_eq w (codes "u16")) e))
one_type ty.U8 ty.Bool e = absurd (false≢true (ap (λ w. bytes_eq w (codes "bool")) e))
one_type ty.U8 ty.U16 e = absurd (false≢true (ap (λ w. bytes_eq w (codes "u16")) e))
one_type ty.U16 ty.Bool e = absurd (false≢true (ap (λ w. bytes_eq w (codes "bool")) e))
one_type ty.U16 ty.U8 e = absurd (false≢true (ap (λ w. bytes_eq w (codes "u8")) e))

-- Another type's word.
some_word : (x y : List ℕ) → Some (Word x) ≡ Some (Word y) → x ≡ y
some_word x y e = cc

pub type_like : {ts : List Token} (t : Ty) → head ts ≡ Some (Word (type_name t)) → Like (Seq (Tok (word (type_name t))) (λ u. Done t)) Anything TypeOf Anything ts
type_like {ts = ts} t here = record { into = into; from = from; stops = λ c h. h }
  where
    into : (e : Ty) (w : List Cell) → Seq (Tok (word (type_name t))) (λ u. Done t) e w → TypeOf e w
    into e w s = let o = opened s in record { is = tt; whole = o.whole ∙ ap (λ cs. word (type_name t) ∷ cs) o.spelled.whole ∙ ap (λ x. word (type_name x) ∷ []) (sym o.spelled.value) }

    from : (e : Ty) (w : List Cell) (c : List Token) → TypeOf e w → Anything c → head (tokens_of w ++ c) ≡ head ts → Seq (Tok (word (type_name t))) (λ u. Done t) e w
    from e w c o a h =
        let same : type_name e ≡ type_name t = some_word (type_name e) (type_name t) (sym (ap (λ cs. head (tokens_of cs ++ c)) o.whole) ∙ h ∙ here) in
        let one : e ≡ t = one_type e t same in
        subst (Seq (Tok (word (type_name t))) (λ u. Done t) e) (sym (o.whole ∙ ap (λ x. word (type_name x) ∷ []) one)) (opening tt tt (record { value = one; whole = refl }))

pub type_failed : {ts : List Token} {w : List ℕ} {before after : List Begun} {stop : Stop} (t : Ty) → head ts ≡ Some (Word (type_name t)) → w ≡ type_name t → Fails (Tok (word w)) Anything ts before after stop → Fails TypeOf Anything ts before after stop
type_failed {ts = ts} {before = before} {after = after} {stop = stop} t here e f =
    fails_like (type_like t here) (fails_first (fits_any (λ u. some_done t)) (subst (λ x. Fails (Tok (word x)) Anything ts before after stop) e f))

-- `later`.

pub later_like : {ts : List Token} → head ts ≡ Some (Word (codes "later")) → Like (Seq (Tok (word (codes "later"))) (λ u. Done true)) Anything Later (Ends (StartsWord (codes "later"))) ts
later_like {ts = ts} here = record { into = into; from = from; stops = λ c h. tt }
  where
    into : (e : Bool) (w : List Cell) → Seq (Tok (word (codes "later"))) (λ u. Done true) e w → Later e w
    into e w s = let o = opened s in o.whole ∙ ap (λ cs. word (codes "later") ∷ cs) o.spelled.whole ∙ ap later_cells (sym o.spelled.value)

    from : (e : Bool) (w : List Cell) (c : List Token) → Later e w → Ends (StartsWord (codes "later")) c → head (tokens_of w ++ c) ≡ head ts → Seq (Tok (word (codes "later"))) (λ u. Done true) e w
    from true w c o a h = subst (Seq (Tok (word (codes "later"))) (λ u. Done true) true) (sym o) (opening tt tt (closing true))
    from false w c o a h = absurd (a (sym (ap (λ cs. head (tokens_of cs ++ c)) o) ∙ h ∙ here))

-- Clauses.

abbrev pub a_clause : List ℕ → Tree → Bool → ClauseTree
a_clause event e later = record { event = event; expr = e; later = later }

abbrev pub ClauseEnd : List ℕ → Tree → ClauseTree → List Cell → Type 0
ClauseEnd event e = Seq Later (λ later. Seq (Tok (sign mark.SEMICOLON)) (λ u. Done (a_clause event e later)))

abbrev pub ClauseBack : List ℕ → ClauseTree → List Cell → Type 0
ClauseBack event = Seq (Tok (sign mark.ARROW)) (λ u. Seq (SpellsExpr level.Whole 0) (ClauseEnd event))

abbrev pub ClauseParts : ClauseTree → List Cell → Type 0
ClauseParts = Seq NameOf ClauseBack

some_later : Example Later
some_later = record { value = false; cells = []; spelled = refl }

pub some_clause_end : (event : List ℕ) (e : Tree) → Example (ClauseEnd event e)
some_clause_end event e = some_seq some_later (λ later. some_seq (some_tok _) (λ u. some_done (a_clause event e later)))

pub some_clause_back : (event : List ℕ) → Example (ClauseBack event)
some_clause_back event = some_seq (some_tok _) (λ u. some_seq some_expr (some_clause_end event))

pub clause_fits_1 : {T : List Token → Type 0} → Fits NameOf Anything ClauseBack T
clause_fits_1 = fits_any some_clause_back

pub clause_fits_2 : {T : List Token → Type 0} (event : List ℕ) → Fits (Tok (sign mark.ARROW)) Anything (λ u. Seq (SpellsExpr level.Whole 0) (ClauseEnd event)) T
clause_fits_2 event = fits_any (λ u. some_seq some_expr (some_clause_end event))

clause_end_stops : (later : Bool) (w v : List Cell) (c : List Token) → w ≡ later_cells later ++ sign mark.SEMICOLON ∷ v → Stops level.Whole (tokens_of w ++ c)
clause_end_stops true w v c e = later_stops (tokens_of w ++ c) (ap (λ cs. head (tokens_of cs ++ c)) e)
clause_end_stops false w v c e = whole_stops (tokens_of w ++ c) (ap (λ cs. head (tokens_of cs ++ c)) e)

pub clause_fits_3 : {T : List Token → Type 0} (event : List ℕ) → Fits (SpellsExpr level.Whole 0) (Stops level.Whole) (ClauseEnd event) T
clause_fits_3 event = record {
  follows = λ a e v c k t. let o = opened k.then_spelled in clause_end_stops k.first v o.rest c (join k.whole k.spelled o.whole);
  goes_on = some_clause_end event;
}

semicolon_not_word : (w : List ℕ) → Some (Mark mark.SEMICOLON) ≡ Some (Word w) → ⊥
semicolon_not_word w e = cc

pub clause_fits_4 : {T : List Token → Type 0} (event : List ℕ) (e : Tree) → Fits Later (Ends (StartsWord (codes "later"))) (λ later. Seq (Tok (sign mark.SEMICOLON)) (λ u. Done (a_clause event e later))) T
clause_fits_4 event e = record {
  follows = λ a x v c k t h. let o = opened k in semicolon_not_word (codes "later") (sym (ap (λ cs. head (tokens_of cs ++ c)) o.whole) ∙ h);
  goes_on = λ later. some_seq (some_tok _) (λ u. some_done (a_clause event e later));
}

pub clause_fits_5 : {T : List Token → Type 0} (event : List ℕ) (e : Tree) (later : Bool) → Fits (Tok (sign mark.SEMICOLON)) Anything (λ u. Done (a_clause event e later)) T
clause_fits_5 event e later = fits_any (λ u. some_done (a_clause event e later))

pub clause_like : {ts : List Token} → Like ClauseParts Anything SpellsClause Anything ts
clause_like {ts = ts} = record { into = into; from = from; stops = λ c t. t }
  where
    into : (e : ClauseTree) (w : List Cell) → ClauseParts e w → SpellsClause e w
    into e w s =
        let a = opened s in
        let b = opened a.spelled in
        let x = b.spelled in
        let l = x.then_spelled in
        let o = opened l.then_spelled in
        subst (λ y. SpellsClause y w) (sym o.spelled.value) (record {
          value = x.front;
          event = a.is;
          spelled = x.spelled;
          whole = a.whole ∙ ap (λ cs. word a.value ∷ cs) (b.whole ∙ ap (λ cs. sign mark.ARROW ∷ cs) (join x.whole refl (join l.whole l.spelled (o.whole ∙ ap (λ cs. sign mark.SEMICOLON ∷ cs) o.spelled.whole))));
        })

    from : (e : ClauseTree) (w : List Cell) (c : List Token) → SpellsClause e w → Anything c → head (tokens_of w ++ c) ≡ head ts → ClauseParts e w
    from e w c s t h = subst (ClauseParts e) (sym s.whole) (opening e.event s.event (opening tt tt
        (seq e.expr s.value (later_cells e.later ++ sign mark.SEMICOLON ∷ []) s.spelled (seq e.later (later_cells e.later) (sign mark.SEMICOLON ∷ []) refl (opening tt tt (closing e))))))

pub clauses_begin : AllBegin SpellsClause StartsName
clauses_begin e w c s = (e.event, s.event, ap (λ cs. head (tokens_of cs ++ c)) s.whole)

pub no_name_here : StartsName None → ⊥
no_name_here h = let e = h.2 in cc

-- The entries of a table.

pub entry_fits : {T : List Token → Type 0} (number : ℕ) → Fits (Tok (sign mark.COMMA)) Anything (λ u. One (λ l. entry_cell number (literal_token l)) (λ l. Unit {0})) T
entry_fits number = fits_any (λ u. some_one (λ l. entry_cell number (literal_token l)) (λ l. Unit {0}) (lit.Plain 0) tt)

length_more : (front : List Lit) (l : Lit) → length (front ++ l ∷ []) ≡ suc (length front)
length_more front l = omega (arith, length-append front (l ∷ []))

entries_like_next : {ts : List Token} (front : List Lit) (number : ℕ) → number ≡ suc (length front) → head ts ≡ Some (Mark mark.COMMA)
    → Like (Seq (EntryOf number) (λ l. EntriesBehind (front ++ l ∷ []))) (Ends (StartsMark mark.COMMA)) (EntriesBehind front) (Ends (StartsMark mark.COMMA)) ts
entries_like_next {ts = ts} front number n here = record { into = into; from = from; stops = λ c t. t }
  where
    into : (e : List Lit) (w : List Cell) → Seq (EntryOf number) (λ l. EntriesBehind (front ++ l ∷ [])) e w → EntriesBehind front e w
    into e w s =
        let a = opened s.spelled in
        let b = a.spelled in
        let r = s.then_spelled in
        record {
          more = s.first ∷ r.more;
          whole = r.whole ∙ append_assoc front (s.first ∷ []) r.more;
          cells = join s.whole (a.whole ∙ ap (λ cs. sign mark.COMMA ∷ cs) b.whole ∙ ap (λ k. sign mark.COMMA ∷ entry_cell k (literal_token s.first) ∷ []) n) (r.cells ∙ ap (λ k. more_entries k r.more) (length_more front s.first));
        }

    go : (e more : List Lit) (w : List Cell) (c : List Token) → e ≡ front ++ more → w ≡ more_entries (length front) more → Ends (StartsMark mark.COMMA) c → head (tokens_of w ++ c) ≡ head ts → Seq (EntryOf number) (λ l. EntriesBehind (front ++ l ∷ [])) e w
    go e [] w c p q t h = absurd (t (sym (ap (λ cs. head (tokens_of cs ++ c)) q) ∙ h ∙ here))
    go e (l ∷ more) w c p q t h = subst (Seq (EntryOf number) (λ x. EntriesBehind (front ++ x ∷ [])) e) (sym q)
        (seq l (sign mark.COMMA ∷ entry_cell (suc (length front)) (literal_token l) ∷ []) (more_entries (suc (length front)) more)
        (subst (λ k. EntryOf k l (sign mark.COMMA ∷ entry_cell (suc (length front)) (literal_token l) ∷ [])) (sym n) (opening tt tt (record { is = tt; whole = refl })))
        (record { more = more; whole = p ∙ sym (append_assoc front (l ∷ []) more); cells = ap (λ k. more_entries k more) (sym (length_more front l)) }))

    from : (e : List Lit) (w : List Cell) (c : List Token) → EntriesBehind front e w → Ends (StartsMark mark.COMMA) c → head (tokens_of w ++ c) ≡ head ts → Seq (EntryOf number) (λ l. EntriesBehind (front ++ l ∷ [])) e w
    from e w c s t h = go e s.more w c s.whole s.cells t h

entries_like_done : {ts : List Token} (front : List Lit) → (head ts ≡ Some (Mark mark.COMMA) → ⊥) → Like (Done front) (Ends (StartsMark mark.COMMA)) (EntriesBehind front) (Ends (StartsMark mark.COMMA)) ts
entries_like_done {ts = ts} front here = record { into = into; from = from; stops = λ c t. t }
  where
    into : (e : List Lit) (w : List Cell) → Done front e w → EntriesBehind front e w
    into e w d = record { more = []; whole = d.value ∙ sym (append-nil front); cells = d.whole }

    go : (e more : List Lit) (w : List Cell) (c : List Token) → e ≡ front ++ more → w ≡ more_entries (length front) more → head (tokens_of w ++ c) ≡ head ts → Done front e w
    go e [] w c p q h = record { value = p ∙ append-nil front; whole = q }
    go e (l ∷ more) w c p q h = absurd (here (sym h ∙ ap (λ cs. head (tokens_of cs ++ c)) q))

    from : (e : List Lit) (w : List Cell) (c : List Token) → EntriesBehind front e w → Ends (StartsMark mark.COMMA) c → head (tokens_of w ++ c) ≡ head ts → Done front e w
    from e w c s t h = go e s.more w c s.whole s.cells h

-- How far they have been read.
pub record HasEntries (start : List Lit) (ts rest : List Token) (before mid : List Begun) (found : List Lit) : Type 0 where
  pub failing : (stop : Stop) (after : List Begun) → Fails (EntriesBehind found) (Ends (StartsMark mark.COMMA)) rest mid after stop → Fails (EntriesBehind start) (Ends (StartsMark mark.COMMA)) ts before after stop
  pub finding : (xs : List Lit) (more : List Token) (after : List Begun) → Found (EntriesBehind found) (Ends (StartsMark mark.COMMA)) rest xs more mid after → Found (EntriesBehind start) (Ends (StartsMark mark.COMMA)) ts xs more before after
  pub room : length found + length rest ≤ length start + length ts

pub entries_start : (start : List Lit) (ts : List Token) (before : List Begun) → HasEntries start ts ts before before start
entries_start start ts before = record { failing = λ stop after f. f; finding = λ xs more after f. f; room = omega arith }

entries_fits : {T : List Token → Type 0} (number : ℕ) (front : List Lit) → Fits (EntryOf number) Anything (λ l. EntriesBehind (front ++ l ∷ [])) T
entries_fits number front = fits_any (λ l. record { value = front ++ l ∷ []; cells = []; spelled = record { more = []; whole = sym (append-nil (front ++ l ∷ [])); cells = refl } })

pub entry_shorter : {number : ℕ} {l : Lit} {ts rest : List Token} {before after : List Begun} → Found (EntryOf number) Anything ts l rest before after → length rest < length ts
entry_shorter {ts = ts} {rest = rest} f =
    let a = opened f.spelled in
    let e : ts ≡ Mark mark.COMMA ∷ (tokens_of a.rest ++ rest) = f.split ∙ ap (λ cs. tokens_of cs ++ rest) a.whole in
    omega (arith, ap length e, length-append (tokens_of a.rest) rest)

pub entries_next : {start found : List Lit} {ts rest more : List Token} {before mid last : List Begun} (number : ℕ) (l : Lit) → number ≡ length found + 1
    → HasEntries start ts rest before mid found → head rest ≡ Some (Mark mark.COMMA) → Found (EntryOf number) Anything rest l more mid last → HasEntries start ts more before last (found ++ l ∷ [])
entries_next {found = found} number l n h p f =
    let n' : number ≡ suc (length found) = omega (arith, n) in
    record {
      failing = λ stop after g. h.failing stop after (fails_like (entries_like_next found number n' p) (fails_next (entries_fits number found) f g));
      finding = λ xs rest after g. h.finding xs rest after (found_like (entries_like_next found number n' p) (found_next (entries_fits number found) f g));
      room = omega (arith, h.room, entry_shorter f, length_more found l);
    }

pub entries_stop : {start found : List Lit} {ts rest : List Token} {before mid after : List Begun} (stop : Stop) (number : ℕ) → number ≡ length found + 1
    → HasEntries start ts rest before mid found → head rest ≡ Some (Mark mark.COMMA) → Fails (EntryOf number) Anything rest mid after stop → Fails (EntriesBehind start) (Ends (StartsMark mark.COMMA)) ts before after stop
entries_stop {found = found} {after = after} stop number n h p f =
    let n' : number ≡ suc (length found) = omega (arith, n) in
    h.failing stop after (fails_like (entries_like_next found number n' p) (fails_first (entries_fits number found) f))

pub entries_all : {start found : List Lit} {ts rest : List Token} {before mid : List Begun}
    → HasEntries start ts rest before mid found → (head rest ≡ Some (Mark mark.COMMA) → ⊥) → Found (EntriesBehind start) (Ends (StartsMark mark.COMMA)) ts found rest before mid
entries_all {found = found} {rest = rest} {mid = mid} h n = h.finding found rest mid (found_like (entries_like_done found n) (found_done (Ends (StartsMark mark.COMMA)) rest found mid))

-- The forms.

abbrev pub TableEnd : List Lit → BehaviourTree → List Cell → Type 0
TableEnd ls = Seq (Tok (sign mark.CLOSING_BRACE)) (λ x. Done (Table ls))

abbrev pub TableMid : Lit → BehaviourTree → List Cell → Type 0
TableMid l = Seq (EntriesBehind (l ∷ [])) TableEnd

pub some_table_mid : (l : Lit) → Example (TableMid l)
some_table_mid l = some_seq (record { value = l ∷ []; cells = []; spelled = record { more = []; whole = refl; cells = refl } }) (λ ls. some_seq (some_tok _) (λ x. some_done (Table ls)))

some_first : Example FirstEntry
some_first = some_one (λ l. entry_cell 1 (literal_token l)) (λ l. Unit {0}) (lit.Plain 0) tt

pub table_fits_1 : {T : List Token → Type 0} → Fits (Tok (word (codes "table"))) Anything (λ u. Seq (Tok (sign mark.OPENING_BRACE)) (λ v. Seq FirstEntry TableMid)) T
table_fits_1 = fits_any (λ u. some_seq (some_tok _) (λ v. some_seq some_first some_table_mid))

pub table_fits_2 : {T : List Token → Type 0} → Fits (Tok (sign mark.OPENING_BRACE)) Anything (λ v. Seq FirstEntry TableMid) T
table_fits_2 = fits_any (λ v. some_seq some_first some_table_mid)

pub table_fits_3 : {T : List Token → Type 0} → Fits FirstEntry Anything TableMid T
table_fits_3 = fits_any some_table_mid

brace_not_comma : Some (Mark mark.CLOSING_BRACE) ≡ Some (Mark mark.COMMA) → ⊥
brace_not_comma e = false≢true (ap (is_mark mark.COMMA) e)

pub table_fits_4 : {T : List Token → Type 0} (l : Lit) → Fits (EntriesBehind (l ∷ [])) (Ends (StartsMark mark.COMMA)) TableEnd T
table_fits_4 l = record {
  follows = λ a e v c k t h. let o = opened k in brace_not_comma (sym (ap (λ cs. head (tokens_of cs ++ c)) o.whole) ∙ h);
  goes_on = λ ls. some_seq (some_tok _) (λ x. some_done (Table ls));
}

pub table_fits_5 : {T : List Token → Type 0} (ls : List Lit) → Fits (Tok (sign mark.CLOSING_BRACE)) Anything (λ x. Done (Table ls)) T
table_fits_5 ls = fits_any (λ x. some_done (Table ls))

abbrev pub ReactiveEnd : Lit → List ClauseTree → BehaviourTree → List Cell → Type 0
ReactiveEnd l cs = Seq (Tok (sign mark.CLOSING_BRACE)) (λ y. Done (Reactive l cs))

abbrev pub ReactiveMid : Lit → BehaviourTree → List Cell → Type 0
ReactiveMid l = Seq (Tok (sign mark.OPENING_BRACE)) (λ x. Seq (Row SpellsClause) (ReactiveEnd l))

pub some_reactive_end : (l : Lit) (cs : List ClauseTree) → Example (ReactiveEnd l cs)
some_reactive_end l cs = some_seq (some_tok _) (λ y. some_done (Reactive l cs))

pub some_reactive_mid : (l : Lit) → Example (ReactiveMid l)
some_reactive_mid l = some_seq (some_tok _) (λ x. some_seq (some_row SpellsClause) (some_reactive_end l))

some_literal : Example LiteralOf
some_literal = some_one (λ l. plain (literal_token l)) (λ l. Unit {0}) (lit.Plain 0) tt

pub reactive_fits_1 : {T : List Token → Type 0} → Fits (Tok (word (codes "init"))) Anything (λ u. Seq LiteralOf (λ l. Seq (Tok (word (codes "in"))) (λ v. ReactiveMid l))) T
reactive_fits_1 = fits_any (λ u. some_seq some_literal (λ l. some_seq (some_tok _) (λ v. some_reactive_mid l)))

pub reactive_fits_2 : {T : List Token → Type 0} → Fits LiteralOf Anything (λ l. Seq (Tok (word (codes "in"))) (λ v. ReactiveMid l)) T
reactive_fits_2 = fits_any (λ l. some_seq (some_tok _) (λ v. some_reactive_mid l))

pub reactive_fits_3 : {T : List Token → Type 0} (l : Lit) → Fits (Tok (word (codes "in"))) Anything (λ v. ReactiveMid l) T
reactive_fits_3 l = fits_any (λ v. some_reactive_mid l)

pub reactive_fits_4 : {T : List Token → Type 0} (l : Lit) → Fits (Tok (sign mark.OPENING_BRACE)) Anything (λ x. Seq (Row SpellsClause) (ReactiveEnd l)) T
reactive_fits_4 l = fits_any (λ x. some_seq (some_row SpellsClause) (some_reactive_end l))

brace_no_name : StartsName (Some (Mark mark.CLOSING_BRACE)) → ⊥
brace_no_name h = let e = h.2 in cc

pub reactive_fits_5 : {T : List Token → Type 0} (l : Lit) → Fits (Row SpellsClause) (Ends StartsName) (ReactiveEnd l) T
reactive_fits_5 l = record {
  follows = λ a e v c k t h. let o = opened k in brace_no_name (subst StartsName (ap (λ cs. head (tokens_of cs ++ c)) o.whole) h);
  goes_on = some_reactive_end l;
}

pub reactive_fits_6 : {T : List Token → Type 0} (l : Lit) (cs : List ClauseTree) → Fits (Tok (sign mark.CLOSING_BRACE)) Anything (λ y. Done (Reactive l cs)) T
reactive_fits_6 l cs = fits_any (λ y. some_done (Reactive l cs))

pub plain_fits : Fits (SpellsExpr level.Whole 0) (Stops level.Whole) (λ e. Done (Plain e)) (Stops level.Whole)
plain_fits = record { follows = λ a e v c k t. subst (λ cs. Stops level.Whole (tokens_of cs ++ c)) (sym k.whole) t; goes_on = λ e. some_done (Plain e) }

-- A behaviour, by the word that it begins with.

not_expr : (o : Option Token) (w : List ℕ) → begins_expr o ≡ true → o ≡ Some (Word w) → begins_expr (Some (Word w)) ≡ false → ⊥
not_expr o w h e f = false≢true (sym f ∙ ap begins_expr (sym e) ∙ h)

pub apart : (v w : List ℕ) → bytes_eq v w ≡ false → bytes_eq w w ≡ true → Some (Word v) ≡ Some (Word w) → ⊥
apart v w f t e = false≢true (sym f ∙ ap (is_word w) e ∙ t)

pub input_like : {ts : List Token} → head ts ≡ Some (Word (codes "input")) → Like InputForm Anything SpellsBehaviour EndsItem ts
input_like {ts = ts} here = record { into = into; from = from; stops = λ c t. tt }
  where
    into : (e : BehaviourTree) (w : List Cell) → InputForm e w → SpellsBehaviour e w
    into e w s =
        let a = opened s in
        let b = opened a.spelled in
        subst (λ x. SpellsBehaviour x w) (sym b.spelled.value) (subst (SpellsBehaviour (Input b.value)) (sym (a.whole ∙ ap (λ cs. word (codes "input") ∷ cs) (b.whole ∙ ap (λ cs. word b.value ∷ cs) b.spelled.whole))) (input b.is))

    from : (e : BehaviourTree) (w : List Cell) (c : List Token) → SpellsBehaviour e w → EndsItem c → head (tokens_of w ++ c) ≡ head ts → InputForm e w
    from e w c (plainly x) t h = absurd (not_expr (head (tokens_of w ++ c)) (codes "input") (expr_begins x c) (h ∙ here) refl)
    from e w c (input {port = port} k) t h = opening tt tt (opening port k (closing (Input port)))
    from e w c table t h = absurd (apart (codes "table") (codes "input") refl refl (h ∙ here))
    from e w c (reactive ts r) t h = absurd (apart (codes "init") (codes "input") refl refl (h ∙ here))

pub table_like : {ts : List Token} → head ts ≡ Some (Word (codes "table")) → Like TableForm Anything SpellsBehaviour EndsItem ts
table_like {ts = ts} here = record { into = into; from = from; stops = λ c t. tt }
  where
    into : (e : BehaviourTree) (w : List Cell) → TableForm e w → SpellsBehaviour e w
    into e w s =
        let a = opened s in
        let b = opened a.spelled in
        let l = opened b.spelled in
        let m = l.spelled in
        let r = m.spelled in
        let z = opened m.then_spelled in
        let ls : m.first ≡ l.value ∷ r.more = r.whole in
        subst (λ x. SpellsBehaviour x w) (sym (z.spelled.value ∙ ap Table ls)) (subst (SpellsBehaviour (Table (l.value ∷ r.more))) (sym (a.whole ∙ ap (λ cs. word (codes "table") ∷ cs) (b.whole ∙ ap (λ cs. sign mark.OPENING_BRACE ∷ cs) (l.whole ∙ ap (λ cs. entry_cell 1 (literal_token l.value) ∷ cs) (join m.whole r.cells (z.whole ∙ ap (λ cs. sign mark.CLOSING_BRACE ∷ cs) z.spelled.whole)))))) table)

    from : (e : BehaviourTree) (w : List Cell) (c : List Token) → SpellsBehaviour e w → EndsItem c → head (tokens_of w ++ c) ≡ head ts → TableForm e w
    from e w c (plainly x) t h = absurd (not_expr (head (tokens_of w ++ c)) (codes "table") (expr_begins x c) (h ∙ here) refl)
    from e w c (input {port = port} k) t h = absurd (apart (codes "input") (codes "table") refl refl (h ∙ here))
    from e w c (table {l = l} {ls = ls}) t h = opening tt tt (opening tt tt (opening l tt (seq (l ∷ ls) (more_entries 1 ls) (sign mark.CLOSING_BRACE ∷ []) (record { more = ls; whole = refl; cells = refl }) (opening tt tt (closing (Table (l ∷ ls)))))))
    from e w c (reactive ts r) t h = absurd (apart (codes "init") (codes "table") refl refl (h ∙ here))

pub reactive_like : {ts : List Token} → head ts ≡ Some (Word (codes "init")) → Like ReactiveForm Anything SpellsBehaviour EndsItem ts
reactive_like {ts = ts} here = record { into = into; from = from; stops = λ c t. tt }
  where
    into : (e : BehaviourTree) (w : List Cell) → ReactiveForm e w → SpellsBehaviour e w
    into e w s =
        let a = opened s in
        let l = opened a.spelled in
        let b = opened l.spelled in
        let d = opened b.spelled in
        let r = d.spelled in
        let z = opened r.then_spelled in
        subst (λ x. SpellsBehaviour x w) (sym z.spelled.value) (subst (SpellsBehaviour (Reactive l.value r.first)) (sym (a.whole ∙ ap (λ cs. word (codes "init") ∷ cs) (l.whole ∙ ap (λ cs. plain (literal_token l.value) ∷ cs) (b.whole ∙ ap (λ cs. word (codes "in") ∷ cs) (d.whole ∙ ap (λ cs. sign mark.OPENING_BRACE ∷ cs) (join r.whole refl (z.whole ∙ ap (λ cs. sign mark.CLOSING_BRACE ∷ cs) z.spelled.whole))))))) (reactive r.front r.spelled))

    from : (e : BehaviourTree) (w : List Cell) (c : List Token) → SpellsBehaviour e w → EndsItem c → head (tokens_of w ++ c) ≡ head ts → ReactiveForm e w
    from e w c (plainly x) t h = absurd (not_expr (head (tokens_of w ++ c)) (codes "init") (expr_begins x c) (h ∙ here) refl)
    from e w c (input {port = port} k) t h = absurd (apart (codes "input") (codes "init") refl refl (h ∙ here))
    from e w c table t h = absurd (apart (codes "table") (codes "init") refl refl (h ∙ here))
    from e w c (reactive {l = l} {clauses = clauses} ts r) t h = opening tt tt (opening l tt (opening tt tt (opening tt tt (seq clauses ts (sign mark.CLOSING_BRACE ∷ []) r (opening tt tt (closing (Reactive l clauses)))))))

pub plain_like : {ts : List Token} → (head ts ≡ Some (Word (codes "input")) → ⊥) → (head ts ≡ Some (Word (codes "table")) → ⊥) → (head ts ≡ Some (Word (codes "init")) → ⊥) → Like PlainForm (Stops level.Whole) SpellsBehaviour EndsItem ts
plain_like {ts = ts} p q r = record { into = into; from = from; stops = whole_stops }
  where
    into : (e : BehaviourTree) (w : List Cell) → PlainForm e w → SpellsBehaviour e w
    into e w s =
        let d = s.then_spelled in
        subst (λ x. SpellsBehaviour x w) (sym d.value) (subst (SpellsBehaviour (Plain s.first)) (sym (join s.whole refl d.whole ∙ append-nil s.front)) (plainly s.spelled))

    from : (e : BehaviourTree) (w : List Cell) (c : List Token) → SpellsBehaviour e w → EndsItem c → head (tokens_of w ++ c) ≡ head ts → PlainForm e w
    from e w c (plainly {e = x} s) t h = record { first = x; front = w; back = []; spelled = s; then_spelled = closing (Plain x); whole = sym (append-nil w) }
    from e w c (input k) t h = absurd (p (sym h))
    from e w c table t h = absurd (q (sym h))
    from e w c (reactive ts s) t h = absurd (r (sym h))

-- Definitions.

abbrev pub a_decl : List ℕ → Ty → BehaviourTree → DeclTree
a_decl name type behaviour = record { name = name; ty = type; behaviour = behaviour }

abbrev pub DeclEnd : List ℕ → Ty → BehaviourTree → DeclTree → List Cell → Type 0
DeclEnd name type behaviour = Seq (Tok (sign mark.SEMICOLON)) (λ u. Done (a_decl name type behaviour))

abbrev pub DeclMid : List ℕ → Ty → DeclTree → List Cell → Type 0
DeclMid name type = Seq (Tok (sign mark.EQUALS)) (λ u. Seq SpellsBehaviour (DeclEnd name type))

abbrev pub DeclBack : List ℕ → DeclTree → List Cell → Type 0
DeclBack name = Seq (Tok (sign mark.COLON)) (λ u. Seq TypeOf (DeclMid name))

abbrev pub DeclParts : DeclTree → List Cell → Type 0
DeclParts = Seq (Tok (starting Definitions (Word (codes "let")))) (λ u. Seq NameOf DeclBack)

some_behaviour : Example SpellsBehaviour
some_behaviour = record { value = Plain some_expr.value; cells = some_expr.cells; spelled = plainly some_expr.spelled }

some_type : Example TypeOf
some_type = some_one (λ t. word (type_name t)) (λ t. Unit {0}) ty.U8 tt

pub some_decl_end : (name : List ℕ) (type : Ty) (behaviour : BehaviourTree) → Example (DeclEnd name type behaviour)
some_decl_end name type behaviour = some_seq (some_tok _) (λ u. some_done (a_decl name type behaviour))

pub some_decl_mid : (name : List ℕ) (type : Ty) → Example (DeclMid name type)
some_decl_mid name type = some_seq (some_tok _) (λ u. some_seq some_behaviour (some_decl_end name type))

pub some_decl_back : (name : List ℕ) → Example (DeclBack name)
some_decl_back name = some_seq (some_tok _) (λ u. some_seq some_type (some_decl_mid name))

pub decl_fits_1 : {T : List Token → Type 0} → Fits (Tok (starting Definitions (Word (codes "let")))) Anything (λ u. Seq NameOf DeclBack) T
decl_fits_1 = fits_any (λ u. some_seq some_name some_decl_back)

pub decl_fits_2 : {T : List Token → Type 0} → Fits NameOf Anything DeclBack T
decl_fits_2 = fits_any some_decl_back

pub decl_fits_3 : {T : List Token → Type 0} (name : List ℕ) → Fits (Tok (sign mark.COLON)) Anything (λ u. Seq TypeOf (DeclMid name)) T
decl_fits_3 name = fits_any (λ u. some_seq some_type (some_decl_mid name))

pub decl_fits_4 : {T : List Token → Type 0} (name : List ℕ) → Fits TypeOf Anything (DeclMid name) T
decl_fits_4 name = fits_any (some_decl_mid name)

pub decl_fits_5 : {T : List Token → Type 0} (name : List ℕ) (type : Ty) → Fits (Tok (sign mark.EQUALS)) Anything (λ u. Seq SpellsBehaviour (DeclEnd name type)) T
decl_fits_5 name type = fits_any (λ u. some_seq some_behaviour (some_decl_end name type))

pub decl_fits_6 : {T : List Token → Type 0} (name : List ℕ) (type : Ty) → Fits SpellsBehaviour EndsItem (DeclEnd name type) T
decl_fits_6 name type = record { follows = λ a e v c k t. let o = opened k in ap (λ cs. head (tokens_of cs ++ c)) o.whole; goes_on = some_decl_end name type }

pub decl_fits_7 : {T : List Token → Type 0} (name : List ℕ) (type : Ty) (behaviour : BehaviourTree) → Fits (Tok (sign mark.SEMICOLON)) Anything (λ u. Done (a_decl name type behaviour)) T
decl_fits_7 name type behaviour = fits_any (λ u. some_done (a_decl name type behaviour))

pub decl_like : {ts : List Token} → Like DeclParts Anything SpellsDecl Anything ts
decl_like {ts = ts} = record { into = into; from = from; stops = λ c t. t }
  where
    into : (e : DeclTree) (w : List Cell) → DeclParts e w → SpellsDecl e w
    into e w s =
        let a = opened s in
        let n = opened a.spelled in
        let b = opened n.spelled in
        let t = opened b.spelled in
        let q = opened t.spelled in
        let x = q.spelled in
        let o = opened x.then_spelled in
        subst (λ y. SpellsDecl y w) (sym o.spelled.value) (record {
          value = x.front;
          name = n.is;
          spelled = x.spelled;
          whole = a.whole ∙ ap (λ cs. starting Definitions (Word (codes "let")) ∷ cs) (n.whole ∙ ap (λ cs. word n.value ∷ cs) (b.whole ∙ ap (λ cs. sign mark.COLON ∷ cs) (t.whole ∙ ap (λ cs. word (type_name t.value) ∷ cs) (q.whole ∙ ap (λ cs. sign mark.EQUALS ∷ cs) (join x.whole refl (o.whole ∙ ap (λ cs. sign mark.SEMICOLON ∷ cs) o.spelled.whole))))));
        })

    from : (e : DeclTree) (w : List Cell) (c : List Token) → SpellsDecl e w → Anything c → head (tokens_of w ++ c) ≡ head ts → DeclParts e w
    from e w c s t h = subst (DeclParts e) (sym s.whole) (opening tt tt (opening e.name s.name (opening tt tt (opening e.ty tt (opening tt tt (seq e.behaviour s.value (sign mark.SEMICOLON ∷ []) s.spelled (opening tt tt (closing e))))))))

pub decls_begin : AllBegin SpellsDecl (StartsWord (codes "let"))
decls_begin e w c s = ap (λ cs. head (tokens_of cs ++ c)) s.whole
