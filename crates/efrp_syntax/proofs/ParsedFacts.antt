-- What the reader of a program and the pass over its notes say of the tokens.
use Rattle.std.proofs.Common.{◌≡◌, ◌≢◌, ℕ, ◌+◌, ◌-◌, suc, zero, ◌<◌, ◌≤◌, Bool, cond, List, [], ◌∷◌, ◌++◌, length, take, map, Option, Some, None, Result, Ok, Err, ◌⊎◌, inl, inr, refl, sym, ap, subst, ◌∙◌, arith}
use Rattle.std.specs.List.{AllByRecursion}
use Rattle.std.specs.Result.{IsErrAnd}
use Rattle.std.proofs.lemmas.Result.{err_from_is_err_and}
use Rattle.std.proofs.Math.Seq.{take-append_seam, take-append-add}
use Rattle.std.proofs.lemmas.List.{append-nil, append_assoc, length-append, length-map}
use Rattle.std.proofs.lemmas.List.Sums.{sum_by-append}
use Rattle.frp_tree.specs.declared.kinds.Kind.{Kind}
use Rattle.frp_tree.specs.declared.limits.TheConstants.{DEEPEST_NESTING, MOST_ENTRIES_OF_A_TABLE}
use Rattle.frp_tree.specs.declared.syntax.Program.{Program}
use Rattle.frp_tree.specs.declared.tokens.Token.{Token}
use Rattle.frp_tree.specs.Tree.{ProgramTree, program_tree_of}
use Rattle.frp_tree.specs.Limits.{most}
use Rattle.frp_tree.specs.Tokens.{HasTokens, IsLexeme, Cuts, here, blank, comment, lexeme}
use Rattle.frp_tree.proofs.LexemeLaws.{lexeme_some}
use Rattle.frp_tree.proofs.TokenLaws.{one_list}
use Rattle.frp_tree.specs.Cells.{Cell, tokens_of, is_of, count_of, IsWithinLimits}
use Rattle.frp_tree.specs.Grammar.{SpellsProgram, HasTreeWithin, Spells}
use Rattle.frp_tree.specs.Breaks.{Begins, IsViable, IsUnexpected, IsTooDeep, IsOneTooMany, in_program, in_table, IsTooMany}
use Rattle.frp_tree.proofs.MarkLaws.{IsNumbered, program_numbered}
use Rattle.frp_tree.proofs.BreakLaws.{begins_front, all_front, all_at, deep, many, tree_not_past, tree_not_unexpected, unexpected_once, unexpected_not_past, deep_once, many_once, deep_not_many}
use Rattle.efrp_syntax.specs.declared.begun.Begun.{Begun}
use Rattle.efrp_syntax.specs.declared.begun.Stop.{Stop}
use Rattle.efrp_syntax.specs.declared.begun.Stop.TheVariants as stop
use Rattle.efrp_syntax.specs.declared.faults.SyntaxFault.{SyntaxFault}
use Rattle.efrp_syntax.specs.declared.faults.SyntaxFault.TheVariants.{BadByte, TooBig, Unexpected, TooDeep, TooMany, Memory}
use Rattle.efrp_syntax.specs.Answers.{head, begun, IsShallow, Found, Odd, Deep, Stuck, Fails, odd, deep as deep_stop}
use Rattle.efrp_syntax.specs.Items.{IsEnd}
use Rattle.efrp_syntax.specs.Programs.{noted_of, HasFew, IsFirstTooMany, Told}
use Rattle.efrp_syntax.specs.Parsed.{HasFault, Parsed, IsProgram, IsSyntaxFault}
use Rattle.efrp_syntax.specs.Lexed.{Lexed}
use Rattle.efrp_syntax.proofs.CuttingFacts.{fault_none, one_fault as one_lexed}
use Rattle.efrp_syntax.proofs.PhraseLaws.{map_append}
use Rattle.efrp_syntax.proofs.ItemKindFacts.{tokens_then}

-- Notes of cells.

noted_map : (kind : Kind) (cells : List Cell) → noted_of kind (map begun cells) ≡ count_of kind cells
noted_map kind [] = refl
noted_map kind (c ∷ cells) =
    omega (arith, sum_by-append (λ (n : Begun). cond (is_of kind n.kind) 1 0) (begun c ∷ []) (map begun cells), sum_by-append (λ (x : Cell). cond (is_of kind x.begins) 1 0) (c ∷ []) cells, noted_map kind cells)

-- A cell with a number that is no longer than a table may be.
short_cell : (c : Cell) (o : Option Kind) → c.begins ≡ o → IsNumbered c → ((kind : Kind) → c.begins ≡ Some kind → c.entry ≤ MOST_ENTRIES_OF_A_TABLE) → c.entry ≤ MOST_ENTRIES_OF_A_TABLE
short_cell c None e n h = omega (arith, n.number e)
short_cell c (Some kind) e n h = h kind e

short_cells : (cells : List Cell) → AllByRecursion IsNumbered cells → AllByRecursion (λ (n : Begun). (kind : Kind) → n.kind ≡ Some kind → n.entry ≤ MOST_ENTRIES_OF_A_TABLE) (map begun cells) → AllByRecursion (λ (c : Cell). c.entry ≤ MOST_ENTRIES_OF_A_TABLE) cells
short_cells [] n h = tt
short_cells (c ∷ cells) n h = (short_cell c c.begins refl n.0 h.0, short_cells cells n.1 h.1)

few_within : (cells : List Cell) → IsShallow cells → AllByRecursion IsNumbered cells → HasFew (map begun cells) → IsWithinLimits cells
few_within cells s n f = record { shallow = s; few = λ kind. subst (λ k. k ≤ most kind) (noted_map kind cells) (f.few kind); short = short_cells cells n f.short }

begins_numbered : (cells : List Cell) → Begins cells → AllByRecursion IsNumbered cells
begins_numbered cells b = all_front IsNumbered cells b.ahead (program_numbered b.program (cells ++ b.ahead) b.spelled)

-- What stands for a note within notes.
pub record Around (cells : List Cell) (front rest : List Begun) (note : Begun) : Type 0 where
  pub before : List Cell
  pub cell : Cell
  pub after : List Cell
  pub whole : cells ≡ before ++ cell ∷ after
  pub fronts : map begun before ≡ front
  pub noted : begun cell ≡ note

around : (cells : List Cell) (front rest : List Begun) (note : Begun) → map begun cells ≡ front ++ note ∷ rest → Around cells front rest note
around [] [] rest note e = cc
around [] (x ∷ front) rest note e = cc
around (c ∷ cells) [] rest note e = record { before = []; cell = c; after = cells; whole = refl; fronts = refl; noted = cc }
around (c ∷ cells) (x ∷ front) rest note e =
    let here : begun c ≡ x = cc in
    let more : map begun cells ≡ front ++ note ∷ rest = cc in
    let a = around cells front rest note more in
    record { before = c ∷ a.before; cell = a.cell; after = a.after; whole = ap (λ cs. c ∷ cs) a.whole; fronts = cc (a.fronts, here); noted = a.noted }

-- The first tokens are those of the first cells.
first_tokens : (ts tail : List Token) (cells more : List Cell) → ts ≡ tokens_of (cells ++ more) ++ tail → take (length cells) ts ≡ tokens_of cells
first_tokens ts tail cells more e =
    ap (take (length cells)) (e ∙ tokens_then cells more tail) ∙ ap (λ n. take n (tokens_of cells ++ (tokens_of more ++ tail))) (sym (length-map cells (λ (c : Cell). c.token))) ∙ take-append_seam (tokens_of cells) (tokens_of more ++ tail)

cells_inside : (ts tail : List Token) (cells more : List Cell) → ts ≡ tokens_of (cells ++ more) ++ tail → length cells + length more ≤ length ts
cells_inside ts tail cells more e =
    omega (arith, ap length e, length-append (tokens_of (cells ++ more)) tail, length-map (cells ++ more) (λ (c : Cell). c.token), length-append cells more)

-- One too many is the first past a limit.
pub many_told : (ts tail : List Token) (used : List Cell) (notes : List Begun) (kind : Kind) → ts ≡ tokens_of used ++ tail → Begins used → IsShallow used → notes ≡ map begun used → IsFirstTooMany notes kind → IsTooMany ts kind
many_told ts tail used notes kind split b shallow e f =
    record {
      n = length a.before;
      first = record {
        front = a.before;
        cell = a.cell;
        inside = omega (arith, cells_inside ts tail a.before (a.cell ∷ a.after) whole);
        tokens = sym (ap (λ n. take n ts) (sym (length-append a.before (a.cell ∷ []))) ∙ first_tokens ts tail (a.before ++ a.cell ∷ []) a.after longer);
        begins = here;
        within = few_within a.before (all_front (λ c. c.opens ≤ DEEPEST_NESTING) a.before (a.cell ∷ a.after) shallows) (begins_numbered a.before (begins_front a.before (a.cell ∷ []) here)) (subst HasFew (sym a.fronts) f.before);
      };
      shallow = all_at (λ c. c.opens ≤ DEEPEST_NESTING) a.before a.after a.cell shallows;
      begun = ap (λ (n : Begun). n.kind) a.noted ∙ f.begun;
      many = past f.many;
    }
  where
    a : Around used f.front f.rest f.note
    a = around used f.front f.rest f.note (sym e ∙ f.whole)

    whole : ts ≡ tokens_of (a.before ++ a.cell ∷ a.after) ++ tail
    whole = split ∙ ap (λ cs. tokens_of cs ++ tail) a.whole

    longer : ts ≡ tokens_of ((a.before ++ a.cell ∷ []) ++ a.after) ++ tail
    longer = whole ∙ ap (λ cs. tokens_of cs ++ tail) (sym (append_assoc a.before (a.cell ∷ []) a.after))

    here : Begins (a.before ++ a.cell ∷ [])
    here = begins_front (a.before ++ a.cell ∷ []) a.after (subst Begins (a.whole ∙ sym (append_assoc a.before (a.cell ∷ []) a.after)) b)

    shallows : IsShallow (a.before ++ a.cell ∷ a.after)
    shallows = subst IsShallow a.whole shallow

    notes_to : f.front ++ f.note ∷ [] ≡ map begun (a.before ++ a.cell ∷ [])
    notes_to = ap (λ ns. ns ++ f.note ∷ []) (sym a.fronts) ∙ ap (λ n. map begun a.before ++ n ∷ []) (sym a.noted) ∙ sym (map_append begun a.before (a.cell ∷ []))

    past : (most kind < noted_of kind (f.front ++ f.note ∷ [])) ⊎ (MOST_ENTRIES_OF_A_TABLE < f.note.entry) → IsOneTooMany kind a.before a.cell
    past (inl x) = in_program (subst (λ k. most kind < k) (ap (noted_of kind) notes_to ∙ noted_map kind (a.before ++ a.cell ∷ [])) x)
    past (inr x) = in_table (subst (λ (n : Begun). MOST_ENTRIES_OF_A_TABLE < n.entry) (sym a.noted) x)

-- Its place is that of its note.
pub many_placed : (ts tail : List Token) (used : List Cell) (notes : List Begun) (kind : Kind) (split : ts ≡ tokens_of used ++ tail) (b : Begins used) (shallow : IsShallow used) (e : notes ≡ map begun used) (f : IsFirstTooMany notes kind)
    → (many_told ts tail used notes kind split b shallow e f).n ≡ length f.front
unfolding many_told
many_placed ts tail used notes kind split b shallow e f =
    let a = around used f.front f.rest f.note (sym e ∙ f.whole) in sym (length-map a.before begun) ∙ ap length a.fronts

-- The answers of the reader.

pub found_begins : {ts : List Token} {p : ProgramTree} {notes : List Begun} → (f : Found SpellsProgram IsEnd ts p [] [] notes) → Begins f.used
found_begins {p = p} f = record { program = p; ahead = []; spelled = subst (SpellsProgram p) (sym (append-nil f.used)) f.spelled }

pub found_many : {ts : List Token} {p : ProgramTree} {notes : List Begun} (kind : Kind) → Found SpellsProgram IsEnd ts p [] [] notes → IsFirstTooMany notes kind → IsTooMany ts kind
found_many {ts = ts} {notes = notes} kind f m = many_told ts [] f.used notes kind f.split (found_begins f) f.shallow f.noted m

pub found_tree : {ts : List Token} {p : ProgramTree} {notes : List Begun} → Found SpellsProgram IsEnd ts p [] [] notes → HasFew notes → HasTreeWithin p ts
found_tree {p = p} f few = record {
  cells = f.used;
  spelled = f.spelled;
  tokens = sym (f.split ∙ append-nil (tokens_of f.used));
  within = few_within f.used f.shallow (program_numbered p f.used f.spelled) (subst HasFew f.noted few);
}

pub found_only : {ts : List Token} {p : ProgramTree} {notes : List Begun} (q : ProgramTree) → Found SpellsProgram IsEnd ts p [] [] notes → HasTreeWithin q ts → p ≡ q
found_only q f t = let both = f.only q t.cells [] [] t.spelled refl refl (append-nil (tokens_of t.cells) ∙ t.tokens ∙ f.split) in sym both.0

stuck_many : (ts tail : List Token) (used ahead : List Cell) (p : ProgramTree) (notes : List Begun) (kind : Kind) → ts ≡ tokens_of used ++ tail → SpellsProgram p (used ++ ahead) → IsShallow used → notes ≡ map begun used → IsFirstTooMany notes kind → IsTooMany ts kind
stuck_many ts tail used ahead p notes kind split v s e m = many_told ts tail used notes kind split (record { program = p; ahead = ahead; spelled = v }) s e m

pub odd_many : {ts : List Token} {n : ℕ} {notes : List Begun} (kind : Kind) → Stuck Odd SpellsProgram IsEnd ts n [] notes → IsFirstTooMany notes kind → IsTooMany ts kind
odd_many kind s m = stuck_many _ s.tail s.used s.ahead s.example _ kind s.split s.viable s.shallow s.noted m

pub deep_many : {ts : List Token} {n : ℕ} {notes : List Begun} (kind : Kind) → Stuck Deep SpellsProgram IsEnd ts n [] notes → IsFirstTooMany notes kind → IsTooMany ts kind
deep_many kind s m = stuck_many _ s.tail s.used s.ahead s.example _ kind s.split s.viable s.shallow s.noted m

-- How many tokens stand before the place.
used_long : (ts tail : List Token) (used : List Cell) (n : ℕ) → ts ≡ tokens_of used ++ tail → length tail ≡ n → (length ts - n ≡ length used) × (n + length used ≡ length ts)
used_long ts tail used n e l =
    let h : length ts ≡ length used + length tail = ap length e ∙ length-append (tokens_of used) tail ∙ ap (λ k. k + length tail) (length-map used (λ (c : Cell). c.token)) in
    (omega (arith, h, l), omega (arith, h, l))

used_tokens : (ts tail : List Token) (used : List Cell) → ts ≡ tokens_of used ++ tail → take (length used) ts ≡ tokens_of used
used_tokens ts tail used e = first_tokens ts tail used [] (e ∙ ap (λ cs. tokens_of cs ++ tail) (sym (append-nil used)))

-- A longer prefix goes on with the next token.
first_of_take : (k : ℕ) (tail : List Token) (more : List Token) → 0 < k → k ≤ length tail → head (take k tail ++ more) ≡ head tail
first_of_take (suc k) (t ∷ tail) more h l = refl
first_of_take zero tail more h l = absurd (omega (arith, h))
first_of_take (suc k) [] more h l = absurd (omega (arith, l))

behind_used : (ts tail : List Token) (used front : List Cell) (rest : List Token) (k : ℕ) → ts ≡ tokens_of used ++ tail → tokens_of front ≡ take k ts → length used < k → k ≤ length ts
    → tokens_of front ++ rest ≡ tokens_of used ++ (take (k - length used) tail ++ rest)
behind_used ts tail used front rest k e f h l =
    let sum : length (tokens_of used) + (k - length used) ≡ k = omega (arith, length-map used (λ (c : Cell). c.token)) in
    let taken : take k ts ≡ tokens_of used ++ take (k - length used) tail = ap (take k) e ∙ ap (λ n. take n (tokens_of used ++ tail)) (sym sum) ∙ take-append-add (tokens_of used) tail (k - length used) in
    ap (λ us. us ++ rest) (f ∙ taken) ∙ append_assoc (tokens_of used) (take (k - length used) tail) rest

pub odd_told : {ts : List Token} {n : ℕ} {notes : List Begun} → Stuck Odd SpellsProgram IsEnd ts n [] notes → HasFew notes → IsUnexpected ts (length ts - n)
odd_told {ts = ts} {n = n} s few =
    let (long, sum) = used_long ts s.tail s.used n s.split s.left in
    subst (IsUnexpected ts) (sym long) (record {
      inside = omega (arith, sum);
      viable = record {
        front = s.used;
        begins = begins;
        tokens = sym (used_tokens ts s.tail s.used s.split);
        within = few_within s.used s.shallow (begins_numbered s.used begins) (subst HasFew s.noted few);
      };
      longest = longest;
      no_tree = λ p t. s.dead p t.cells [] s.tail t.spelled refl refl (append-nil (tokens_of t.cells) ∙ t.tokens ∙ s.split);
    })
  where
    begins : Begins s.used
    begins = record { program = s.example; ahead = s.ahead; spelled = s.viable }

    longest : (k : ℕ) → length s.used < k → k ≤ length ts → IsViable (take k ts) → ⊥
    longest k h l v =
        let more = take (k - length s.used) s.tail ++ (tokens_of v.begins.ahead ++ []) in
        let both = used_long ts s.tail s.used n s.split s.left in
        let next : head more ≡ head s.tail = first_of_take (k - length s.used) s.tail (tokens_of v.begins.ahead ++ []) (omega arith) (omega (arith, both.1, s.left)) in
        s.dead v.begins.program (v.front ++ v.begins.ahead) [] more v.begins.spelled refl next (tokens_then v.front v.begins.ahead [] ∙ behind_used ts s.tail s.used v.front (tokens_of v.begins.ahead ++ []) k s.split v.tokens h l)

-- The next token is the first of the tail.
tail_first : (tail : List Token) (t : Token) → head tail ≡ Some t → (rest : List Token) × (tail ≡ t ∷ rest)
tail_first [] t e = cc
tail_first (x ∷ tail) t e = (tail, ap (λ y. y ∷ tail) (cc))

pub deep_told : {ts : List Token} {n : ℕ} {notes : List Begun} → Stuck Deep SpellsProgram IsEnd ts n [] notes → HasFew notes → IsTooDeep ts (length ts - n)
deep_told {ts = ts} {n = n} s few =
    let (long, sum) = used_long ts s.tail s.used n s.split s.left in
    subst (IsTooDeep ts) (sym long) (record {
      first = record {
        front = s.used;
        cell = s.next.cell;
        inside = omega (arith, cells_inside ts split_tail.0 s.used (s.next.cell ∷ []) whole);
        tokens = sym (ap (λ k. take k ts) (sym (length-append s.used (s.next.cell ∷ []))) ∙ used_tokens ts split_tail.0 (s.used ++ s.next.cell ∷ []) whole);
        begins = begins;
        within = few_within s.used s.shallow (begins_numbered s.used (begins_front s.used (s.next.cell ∷ []) begins)) (subst HasFew s.noted few);
      };
      deep = s.next.deep;
    })
  where
    split_tail : (rest : List Token) × (s.tail ≡ s.next.cell.token ∷ rest)
    split_tail = tail_first s.tail s.next.cell.token s.next.token

    whole : ts ≡ tokens_of (s.used ++ s.next.cell ∷ []) ++ split_tail.0
    whole = s.split ∙ ap (λ us. tokens_of s.used ++ us) split_tail.1 ∙ sym (tokens_then s.used (s.next.cell ∷ []) split_tail.0)

    begins : Begins (s.used ++ s.next.cell ∷ [])
    begins = record { program = s.example; ahead = s.next.after; spelled = subst (SpellsProgram s.example) (ap (λ cs. s.used ++ cs) s.next.whole ∙ sym (append_assoc s.used (s.next.cell ∷ []) s.next.after)) s.viable }

-- Tokens with a tree within the limits are answered with it.
pub told_only : (ts : List Token) (q : ProgramTree) (fault : SyntaxFault) → Told ts (Err fault) → HasTreeWithin q ts → fault ≡ Memory
told_only ts q (Unexpected n) t h = absurd (tree_not_unexpected ts q n h t)
told_only ts q (TooDeep n) t h = absurd (tree_not_past ts q n h t.first (deep t.deep))
told_only ts q (TooMany kind) t h = absurd (tree_not_past ts q t.n h t.first (many kind t.many))
told_only ts q Memory t h = refl
told_only ts q (BadByte n) t h = absurd t
told_only ts q (TooBig n) t h = absurd t

-- The answer of the reader with the pass.

abbrev pub Many : List Begun → SyntaxFault → Type 0
Many notes fault = (kind : Kind) × (fault ≡ TooMany kind) × IsFirstTooMany notes kind

pub told_exits : (ts : List Token) (result : Result Program SyntaxFault) (fault : SyntaxFault) → IsErrAnd result (λ f. f ≡ fault) → Told ts (Err fault) → Told ts result
told_exits ts result fault h t = let p = err_from_is_err_and result h in rw (p.1) (subst (λ f. Told ts (Err f)) (sym p.2) t)

pub only_exits : (ts : List Token) (result : Result Program SyntaxFault) (fault : SyntaxFault) → IsErrAnd result (λ f. f ≡ fault) → Told ts (Err fault) → (q : ProgramTree) → HasTreeWithin q ts → IsProgram q result
only_exits ts result fault h t q w = let p = err_from_is_err_and result h in rw (p.1) (p.2 ∙ told_only ts q fault t w)

same_notes : (start notes slice : List Begun) (P : List Begun → List Begun → Type 0) → start ≡ [] → slice ≡ notes → P start notes → P [] slice
same_notes start notes slice P e f p = subst (λ x. P x slice) e (subst (P start) (sym f) p)

pub ok_many : {ts : List Token} {p : ProgramTree} {start notes slice : List Begun} {fault : SyntaxFault} → start ≡ [] → slice ≡ notes → Found SpellsProgram IsEnd ts p [] start notes → Many slice fault → Told ts (Err fault)
ok_many {ts = ts} {p = p} {start = start} {notes = notes} {slice = slice} e f g m =
    subst (λ x. Told ts (Err x)) (sym m.1) (found_many m.0 (same_notes start notes slice (λ x y. Found SpellsProgram IsEnd ts p [] x y) e f g) m.2)

pub ok_told : {ts : List Token} {p : ProgramTree} {start notes slice : List Begun} → start ≡ [] → slice ≡ notes → Found SpellsProgram IsEnd ts p [] start notes → HasFew slice → HasTreeWithin p ts
ok_told {ts = ts} {p = p} {start = start} {notes = notes} {slice = slice} e f g h = found_tree (same_notes start notes slice (λ x y. Found SpellsProgram IsEnd ts p [] x y) e f g) h

pub ok_only : {ts : List Token} {p : ProgramTree} {start notes : List Begun} → start ≡ [] → Found SpellsProgram IsEnd ts p [] start notes → (q : ProgramTree) → HasTreeWithin q ts → p ≡ q
ok_only {ts = ts} {p = p} {start = start} {notes = notes} e g q t = found_only q (subst (λ x. Found SpellsProgram IsEnd ts p [] x notes) e g) t

pub stop_at : {ts : List Token} {start notes : List Begun} {s t : Stop} → s ≡ t → Fails SpellsProgram IsEnd ts start notes s → Fails SpellsProgram IsEnd ts start notes t
stop_at {ts = ts} {start = start} {notes = notes} e f = subst (Fails SpellsProgram IsEnd ts start notes) e f

stuck_odd : {ts : List Token} {n : ℕ} {start notes : List Begun} → Fails SpellsProgram IsEnd ts start notes (stop.Unexpected n) → Stuck Odd SpellsProgram IsEnd ts n start notes
stuck_odd (odd s) = s

stuck_deep : {ts : List Token} {n : ℕ} {start notes : List Begun} → Fails SpellsProgram IsEnd ts start notes (stop.TooDeep n) → Stuck Deep SpellsProgram IsEnd ts n start notes
stuck_deep (deep_stop s) = s

pub unexpected_many : {ts : List Token} {n : ℕ} {start notes slice : List Begun} {fault : SyntaxFault} → start ≡ [] → slice ≡ notes → Fails SpellsProgram IsEnd ts start notes (stop.Unexpected n) → Many slice fault → Told ts (Err fault)
unexpected_many {ts = ts} {n = n} {start = start} {notes = notes} {slice = slice} e f g m =
    subst (λ x. Told ts (Err x)) (sym m.1) (odd_many m.0 (same_notes start notes slice (λ x y. Stuck Odd SpellsProgram IsEnd ts n x y) e f (stuck_odd g)) m.2)

pub too_deep_many : {ts : List Token} {n : ℕ} {start notes slice : List Begun} {fault : SyntaxFault} → start ≡ [] → slice ≡ notes → Fails SpellsProgram IsEnd ts start notes (stop.TooDeep n) → Many slice fault → Told ts (Err fault)
too_deep_many {ts = ts} {n = n} {start = start} {notes = notes} {slice = slice} e f g m =
    subst (λ x. Told ts (Err x)) (sym m.1) (deep_many m.0 (same_notes start notes slice (λ x y. Stuck Deep SpellsProgram IsEnd ts n x y) e f (stuck_deep g)) m.2)

pub unexpected_told : {ts : List Token} {n : ℕ} {start notes slice : List Begun} → start ≡ [] → slice ≡ notes → Fails SpellsProgram IsEnd ts start notes (stop.Unexpected n) → HasFew slice → IsUnexpected ts (length ts - n)
unexpected_told {ts = ts} {n = n} {start = start} {notes = notes} {slice = slice} e f g h = odd_told (same_notes start notes slice (λ x y. Stuck Odd SpellsProgram IsEnd ts n x y) e f (stuck_odd g)) h

pub too_deep_told : {ts : List Token} {n : ℕ} {start notes slice : List Begun} → start ≡ [] → slice ≡ notes → Fails SpellsProgram IsEnd ts start notes (stop.TooDeep n) → HasFew slice → IsTooDeep ts (length ts - n)
too_deep_told {ts = ts} {n = n} {start = start} {notes = notes} {slice = slice} e f g h = deep_told (same_notes start notes slice (λ x y. Stuck Deep SpellsProgram IsEnd ts n x y) e f (stuck_deep g)) h

-- A text of tokens.

-- It has no more tokens than bytes.
pub cuts_few : {after last : Bool} {text rest : List ℕ} {ts : List Token} → Cuts after text ts last rest → length ts ≤ length text
cuts_few here = omega arith
cuts_few (blank e c) = omega (arith, cuts_few c)
cuts_few (comment body more a n c) = omega (arith, cuts_few c, length-append body more)
cuts_few (lexeme {t = t} w more l n s a c) = omega (arith, cuts_few c, length-append w more, some_bytes w t l)
  where
    some_bytes : (v : List ℕ) (u : Token) → IsLexeme v u → 1 ≤ length v
    some_bytes [] u k = absurd (lexeme_some u [] [] k refl)
    some_bytes (b ∷ v) u k = omega arith

pub tokens_few : (text : List ℕ) (ts : List Token) → HasTokens text ts → length ts ≤ 65536
tokens_few text ts h = let few = cuts_few h.2 in omega (arith, few, h.0)

pub spells_tree : (text : List ℕ) (ts : List Token) (q : ProgramTree) → HasTokens text ts → Spells text q → HasTreeWithin q ts
spells_tree text ts q h s = subst (HasTreeWithin q) (one_list text ts s.tokens h s.cut) s.tree

-- What tokens have comes of the answer.
pub told_parsed : (text : List ℕ) (ts : List Token) (result : Result Program SyntaxFault) → HasTokens text ts → Told ts result → Parsed text result
told_parsed text ts (Ok p) h t = record { tokens = ts; cut = h; tree = t }
told_parsed text ts (Err (Unexpected n)) h t = inl (ts, h, t)
told_parsed text ts (Err (TooDeep n)) h t = inl (ts, h, t)
told_parsed text ts (Err (TooMany kind)) h t = inl (ts, h, t)
told_parsed text ts (Err Memory) h t = inr refl
told_parsed text ts (Err (BadByte n)) h t = absurd t
told_parsed text ts (Err (TooBig n)) h t = absurd t

-- The fault of tokens.
abbrev pub TokenFault : List Token → SyntaxFault → Type 0
TokenFault ts fault = Told ts (Err fault) × (fault ≢ Memory)

token_fault : (text : List ℕ) (ts : List Token) (fault : SyntaxFault) → HasTokens text ts → HasFault text fault → TokenFault ts fault
token_fault text ts (Unexpected n) h f = (subst (λ us. IsUnexpected us n) (one_list text ts f.0 h f.1) f.2, λ e. cc)
token_fault text ts (TooDeep n) h f = (subst (λ us. IsTooDeep us n) (one_list text ts f.0 h f.1) f.2, λ e. cc)
token_fault text ts (TooMany kind) h f = (subst (λ us. IsTooMany us kind) (one_list text ts f.0 h f.1) f.2, λ e. cc)
token_fault text ts Memory h f = absurd f
token_fault text ts (BadByte n) h f = let e : BadByte n ≡ Memory = fault_none text (BadByte n) ts f h in cc
token_fault text ts (TooBig n) h f = let e : TooBig n ≡ Memory = fault_none text (TooBig n) ts f h in cc

one_fault : (ts : List Token) (fault told : SyntaxFault) → fault ≢ Memory → Told ts (Err fault) → Told ts (Err told) → (told ≡ fault) ⊎ (told ≡ Memory)
one_fault ts fault Memory m f t = inr refl
one_fault ts Memory told m f t = absurd (m refl)
one_fault ts (Unexpected n) (Unexpected k) m f t = inl (ap Unexpected (unexpected_once ts k n t f))
one_fault ts (Unexpected n) (TooDeep k) m f t = absurd (unexpected_not_past ts n k f t.first (deep t.deep))
one_fault ts (Unexpected n) (TooMany kind) m f t = absurd (unexpected_not_past ts n t.n f t.first (many kind t.many))
one_fault ts (TooDeep n) (Unexpected k) m f t = absurd (unexpected_not_past ts k n t f.first (deep f.deep))
one_fault ts (TooDeep n) (TooDeep k) m f t = inl (ap TooDeep (deep_once ts k n t f))
one_fault ts (TooDeep n) (TooMany kind) m f t = absurd (deep_not_many ts n kind f t)
one_fault ts (TooMany kind) (Unexpected k) m f t = absurd (unexpected_not_past ts k f.n t f.first (many kind f.many))
one_fault ts (TooMany kind) (TooDeep k) m f t = absurd (deep_not_many ts k kind t f)
one_fault ts (TooMany kind) (TooMany other) m f t = inl (ap TooMany (many_once ts other kind t f))
one_fault ts (BadByte n) told m f t = absurd f
one_fault ts (TooBig n) told m f t = absurd f
one_fault ts fault (BadByte n) m f t = absurd t
one_fault ts fault (TooBig n) m f t = absurd t

pub told_fault : (text : List ℕ) (ts : List Token) (result : Result Program SyntaxFault) → HasTokens text ts → Told ts result → (fault : SyntaxFault) → HasFault text fault → IsSyntaxFault fault result
told_fault text ts (Ok p) h t fault f =
    let k = token_fault text ts fault h f in k.1 (told_only ts (program_tree_of p) fault k.0 t)
told_fault text ts (Err told) h t fault f = let k = token_fault text ts fault h f in one_fault ts fault told k.1 k.0 t

-- A text without tokens.

pub lexed_parsed : (text : List ℕ) (fault : SyntaxFault) → Lexed text (Err fault) → HasFault text fault ⊎ (fault ≡ Memory)
lexed_parsed text (BadByte n) l = inl l
lexed_parsed text (TooBig n) l = inl l
lexed_parsed text Memory l = inr refl
lexed_parsed text (Unexpected n) l = absurd l
lexed_parsed text (TooDeep n) l = absurd l
lexed_parsed text (TooMany n) l = absurd l

pub lexed_spells : (text : List ℕ) (fault : SyntaxFault) → Lexed text (Err fault) → (q : ProgramTree) → Spells text q → fault ≡ Memory
lexed_spells text fault l q s = fault_none text fault s.tokens l s.cut

pub lexed_one : (text : List ℕ) (told : SyntaxFault) → Lexed text (Err told) → (fault : SyntaxFault) → HasFault text fault → (told ≡ fault) ⊎ (told ≡ Memory)
lexed_one text told l (BadByte n) f = one_lexed text (BadByte n) told (λ e. cc) f l
lexed_one text told l (TooBig n) f = one_lexed text (TooBig n) told (λ e. cc) f l
lexed_one text told l (Unexpected n) f = inr (fault_none text told f.0 l f.1)
lexed_one text told l (TooDeep n) f = inr (fault_none text told f.0 l f.1)
lexed_one text told l (TooMany n) f = inr (fault_none text told f.0 l f.1)
lexed_one text told l Memory f = absurd f

pub parsed_exits : (text : List ℕ) (result : Result Program SyntaxFault) (fault : SyntaxFault) → IsErrAnd result (λ f. f ≡ fault) → Lexed text (Err fault) → Parsed text result
parsed_exits text result fault h l = let p = err_from_is_err_and result h in rw (p.1, p.2) (lexed_parsed text fault l)

pub spelled_exits : (text : List ℕ) (result : Result Program SyntaxFault) (fault : SyntaxFault) → IsErrAnd result (λ f. f ≡ fault) → Lexed text (Err fault) → (q : ProgramTree) → Spells text q → IsProgram q result
spelled_exits text result fault h l q s = let p = err_from_is_err_and result h in rw (p.1, p.2) (lexed_spells text fault l q s)

pub fault_exits : (text : List ℕ) (result : Result Program SyntaxFault) (told : SyntaxFault) → IsErrAnd result (λ f. f ≡ told) → Lexed text (Err told) → (fault : SyntaxFault) → HasFault text fault → IsSyntaxFault fault result
fault_exits text result told h l fault f = let p = err_from_is_err_and result h in rw (p.1, p.2) (lexed_one text told l fault f)

-- A text has at most one fault, and none where it spells a program.

fault_told : (text : List ℕ) (told : SyntaxFault) → HasFault text told → (fault : SyntaxFault) → HasFault text fault → (told ≡ fault) ⊎ (told ≡ Memory)
fault_told text (BadByte n) t fault f = lexed_one text (BadByte n) t fault f
fault_told text (TooBig n) t fault f = lexed_one text (TooBig n) t fault f
fault_told text (Unexpected n) t fault f = told_fault text t.0 (Err (Unexpected n)) t.1 t.2 fault f
fault_told text (TooDeep n) t fault f = told_fault text t.0 (Err (TooDeep n)) t.1 t.2 fault f
fault_told text (TooMany kind) t fault f = told_fault text t.0 (Err (TooMany kind)) t.1 t.2 fault f
fault_told text Memory t fault f = absurd t

pub fault_once : (text : List ℕ) (fault other : SyntaxFault) → HasFault text fault → HasFault text other → fault ≡ other
fault_once text fault other f g = elim (fault_told text fault f other g) [
  | inl e ↦ e
  | inr e ↦ absurd (subst (HasFault text) e f)
]

pub spells_no_fault : (text : List ℕ) (p : ProgramTree) (fault : SyntaxFault) → Spells text p → HasFault text fault → ⊥
spells_no_fault text p fault s f = let k = token_fault text s.tokens fault s.cut f in k.1 (told_only s.tokens p fault k.0 s.tree)
