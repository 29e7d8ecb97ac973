-- Tokens have one tree at most.
use Rattle.std.proofs.Common.{◌≡◌, ℕ, suc, ◌<◌, Bool, true, false, if◌then◌else◌, List, [], ◌∷◌, ◌++◌, codes, refl, sym, ap, ◌∙◌, arith}
use Rattle.std.specs.Str.{bytes_eq}
use Rattle.std.proofs.lemmas.Bool.{false≢true}
use Rattle.std.proofs.lemmas.List.{append-nil}
use Rattle.frp_tree.specs.declared.kinds.Kind.TheVariants.{Definitions, Outputs}
use Rattle.frp_tree.specs.declared.levels.Level.TheVariants as level
use Rattle.frp_tree.specs.declared.marks.TheConstants as mark
use Rattle.frp_tree.specs.declared.syntax.Ty.{Ty}
use Rattle.frp_tree.specs.declared.syntax.Lit.{Lit}
use Rattle.frp_tree.specs.declared.syntax.Event.{Event}
use Rattle.frp_tree.specs.declared.syntax.Setup.{Setup}
use Rattle.frp_tree.specs.declared.tokens.Token.{Token}
use Rattle.frp_tree.specs.declared.tokens.Token.TheVariants.{Word, Num, Wide, Mark}
use Rattle.frp_tree.specs.Names.{type_name}
use Rattle.frp_tree.specs.Tree.{ClauseTree, BehaviourTree, Plain, Input, Table, Reactive, DeclTree, OutputTree, ProgramTree}
use Rattle.frp_tree.specs.Cells.{Cell, plain, starting, entry_cell, tokens_of, literal_token}
use Rattle.frp_tree.specs.Grammar.{word, sign, Row, none, next, SpellsEvent, SpellsSetup, later_cells, SpellsClause, more_entries, SpellsBehaviour, plainly, input, table, reactive, SpellsDecl, SpellsOutput, SpellsProgram, HasTree, Spells}
use Rattle.frp_tree.proofs.TokenLaws.{one_list}
use Rattle.frp_tree.proofs.PrintedProgramLaws.{event_cells, setup_cells}
use Rattle.frp_tree.proofs.OneExpressionLaws.{same_literal, same_type, firsts, begins_something, split, Stops, one_expression}

-- One item of these is spelled by the tokens, and one row of them.
abbrev OneOf : {A : Type 0} → (A → List Cell → Type 0) → Type 0
OneOf {A = A} Item = (x y : A) (w v : List Cell) (b c : List Token) → Item x w → Item y v → tokens_of v ++ c ≡ tokens_of w ++ b → (y ≡ x) × (v ≡ w) × (c ≡ b)

abbrev leads : (Token → Bool) → List Token → Bool
leads p [] = false
leads p (t ∷ ts) = p t

abbrev Leads : {A : Type 0} → (Token → Bool) → Bool → (A → List Cell → Type 0) → Type 0
Leads {A = A} p b Item = (x : A) (w : List Cell) (c : List Token) → Item x w → leads p (tokens_of w ++ c) ≡ b

-- A row of other items, or none, lets what follows lead.
row_leads : {A : Type 0} {Item : A → List Cell → Type 0} {xs : List A} {w : List Cell} (p : Token → Bool) (c : List Token) → Leads p false Item → leads p c ≡ false → Row Item xs w → leads p (tokens_of w ++ c) ≡ false
row_leads p c i h none = h
row_leads p c i h (next {x = x} first rest s r) = ap (leads p) (split first rest c) ∙ i x first (tokens_of rest ++ c) s

one_row : {A : Type 0} {Item : A → List Cell → Type 0} {xs ys : List A} {w v : List Cell} (p : Token → Bool) (b c : List Token) → Leads p true Item → OneOf Item → leads p b ≡ false → leads p c ≡ false → Row Item xs w → Row Item ys v
    → tokens_of v ++ c ≡ tokens_of w ++ b → (ys ≡ xs) × (v ≡ w) × (c ≡ b)
one_row p b c i one s t none none e = (refl, refl, e)
one_row p b c i one s t none (next {x = y} first rest j r) e = absurd (false≢true (sym s ∙ ap (leads p) (sym e ∙ split first rest c) ∙ i y first (tokens_of rest ++ c) j))
one_row p b c i one s t (next {x = x} first rest j r) none e = absurd (false≢true (sym t ∙ ap (leads p) (e ∙ split first rest b) ∙ i x first (tokens_of rest ++ b) j))
one_row p b c i one s t (next {x = x} {xs = xs} f g j r) (next {x = y} {xs = ys} m n k q) e =
    let h = one x y f m (tokens_of g ++ b) (tokens_of n ++ c) j k (sym (split m n c) ∙ e ∙ split f g b) in
    let o = one_row p b c i one s t r q h.2 in
    (ap (λ z. z ∷ ys) h.0 ∙ ap (λ z. x ∷ z) o.0, ap (λ z. z ++ n) h.1 ∙ ap (λ z. f ++ z) o.1, o.2)

-- The keyword of an item.
abbrev is_word : List ℕ → Token → Bool
is_word w (Word other) = bytes_eq other w
is_word w (Num n) = false
is_word w (Wide n) = false
is_word w (Mark k) = false

-- Events and setups.

same_event : (e f : Event) → f.name ≡ e.name → f.source ≡ e.source → f.priority ≡ e.priority → f ≡ e
same_event e f n s p = let h : Event = record { name = e.name; source = f.source; priority = f.priority } in
    ap (λ x. let g : Event = record { name = x; source = f.source; priority = f.priority } in g) n ∙ ap (λ x. let g : Event = record { name = e.name; source = x; priority = f.priority } in g) s ∙ ap (λ x. let g : Event = record { name = e.name; source = e.source; priority = x } in g) p

one_event : OneOf SpellsEvent
one_event e f w v b c s t h =
    let k : tokens_of (event_cells f) ++ c ≡ tokens_of (event_cells e) ++ b = sym (ap (λ x. tokens_of x ++ c) t.whole) ∙ h ∙ ap (λ x. tokens_of x ++ b) s.whole in
    let n : f.name ≡ e.name = cc k in
    let o : f.source ≡ e.source = cc k in
    let p : f.priority ≡ e.priority = cc k in
    let r : c ≡ b = cc k in
    let same = same_event e f n o p in
    (same, t.whole ∙ ap event_cells same ∙ sym s.whole, r)

same_setup : (e f : Setup) → f.register ≡ e.register → f.byte ≡ e.byte → f ≡ e
same_setup e f n s = ap (λ x. let g : Setup = record { register = x; byte = f.byte } in g) n ∙ ap (λ x. let g : Setup = record { register = e.register; byte = x } in g) s

one_setup : OneOf SpellsSetup
one_setup e f w v b c s t h =
    let k : tokens_of (setup_cells f) ++ c ≡ tokens_of (setup_cells e) ++ b = sym (ap (λ x. tokens_of x ++ c) t.whole) ∙ h ∙ ap (λ x. tokens_of x ++ b) s.whole in
    let n : f.register ≡ e.register = cc k in
    let o : f.byte ≡ e.byte = cc k in
    let r : c ≡ b = cc k in
    let same = same_setup e f n o in
    (same, t.whole ∙ ap setup_cells same ∙ sym s.whole, r)

-- Clauses.

later_stops : (x : Bool) (c : List Token) → Stops level.Whole (tokens_of (later_cells x ++ sign mark.SEMICOLON ∷ []) ++ c)
later_stops true c = omega arith
later_stops false c = omega arith

one_later : (x y : Bool) (b c : List Token) → tokens_of (later_cells y ++ sign mark.SEMICOLON ∷ []) ++ c ≡ tokens_of (later_cells x ++ sign mark.SEMICOLON ∷ []) ++ b → (y ≡ x) × (c ≡ b)
one_later true true b c e = (refl, cc)
one_later false false b c e = (refl, cc)
one_later true false b c e = cc
one_later false true b c e = cc

abbrev clause_with : List ℕ → List Cell → Bool → List Cell
clause_with event value later = word event ∷ sign mark.ARROW ∷ (value ++ (later_cells later ++ sign mark.SEMICOLON ∷ []))

same_clause : (x y : ClauseTree) → y.event ≡ x.event → y.expr ≡ x.expr → y.later ≡ x.later → y ≡ x
same_clause x y e f l = ap (λ z. let g : ClauseTree = record { event = z; expr = y.expr; later = y.later } in g) e ∙ ap (λ z. let g : ClauseTree = record { event = x.event; expr = z; later = y.later } in g) f ∙ ap (λ z. let g : ClauseTree = record { event = x.event; expr = x.expr; later = z } in g) l

one_clause : OneOf SpellsClause
one_clause x y w v b c s t h =
    let k : tokens_of (clause_with y.event t.value y.later) ++ c ≡ tokens_of (clause_with x.event s.value x.later) ++ b = sym (ap (λ z. tokens_of z ++ c) t.whole) ∙ h ∙ ap (λ z. tokens_of z ++ b) s.whole in
    let n : y.event ≡ x.event = cc k in
    let rest : tokens_of (t.value ++ (later_cells y.later ++ sign mark.SEMICOLON ∷ [])) ++ c ≡ tokens_of (s.value ++ (later_cells x.later ++ sign mark.SEMICOLON ∷ [])) ++ b = cc k in
    let m = one_expression (tokens_of (later_cells x.later ++ sign mark.SEMICOLON ∷ []) ++ b) (tokens_of (later_cells y.later ++ sign mark.SEMICOLON ∷ []) ++ c) s.spelled t.spelled (later_stops x.later b) (later_stops y.later c)
    (sym (split t.value (later_cells y.later ++ sign mark.SEMICOLON ∷ []) c) ∙ rest ∙ split s.value (later_cells x.later ++ sign mark.SEMICOLON ∷ []) b) in
    let l = one_later x.later y.later b c m.2 in
    (same_clause x y n m.0 l.0, t.whole ∙ ap (λ z. clause_with z t.value y.later) n ∙ ap (λ z. clause_with x.event z y.later) m.1 ∙ ap (clause_with x.event s.value) l.0 ∙ sym s.whole, l.1)

-- What a definition is.

abbrev is_any_word : Token → Bool
is_any_word (Word w) = true
is_any_word (Num n) = false
is_any_word (Wide n) = false
is_any_word (Mark k) = false

clause_leads : Leads is_any_word true SpellsClause
clause_leads x w c s = ap (λ z. leads is_any_word (tokens_of z ++ c)) s.whole

abbrev mark_number : List Token → ℕ
mark_number (Mark k ∷ ts) = k
mark_number _ = 0

apart : (f : List Token → ℕ) (ts us : List Token) → us ≡ ts → f ts < f us → ⊥
apart f ts us e h = omega (arith, ap f e)

one_entries : (n : ℕ) (ls ms : List Lit) (b c : List Token) → tokens_of (more_entries n ms ++ sign mark.CLOSING_BRACE ∷ []) ++ c ≡ tokens_of (more_entries n ls ++ sign mark.CLOSING_BRACE ∷ []) ++ b → (ms ≡ ls) × (c ≡ b)
one_entries n [] [] b c e = (refl, cc)
one_entries n [] (m ∷ ms) b c e = absurd (apart mark_number _ _ e (omega arith))
one_entries n (l ∷ ls) [] b c e = absurd (apart mark_number _ _ (sym e) (omega arith))
one_entries n (l ∷ ls) (m ∷ ms) b c e =
    let h : literal_token m ≡ literal_token l = cc in
    let rest : tokens_of (more_entries (suc n) ms ++ sign mark.CLOSING_BRACE ∷ []) ++ c ≡ tokens_of (more_entries (suc n) ls ++ sign mark.CLOSING_BRACE ∷ []) ++ b = cc in
    let r = one_entries (suc n) ls ms b c rest in
    (ap (λ z. z ∷ ms) (same_literal m l h) ∙ ap (λ z. l ∷ z) r.0, r.1)

abbrev word_number : List Token → ℕ
word_number (Word w ∷ ts) = if bytes_eq w (codes "input") then 1 else (if bytes_eq w (codes "table") then 2 else 3)
word_number _ = 0

abbrev Ended : List Token → List Token
Ended c = Mark mark.SEMICOLON ∷ c

abbrev table_with : Lit → List Lit → List Cell
table_with l ls = word (codes "table") ∷ sign mark.OPENING_BRACE ∷ entry_cell 1 (literal_token l) ∷ (more_entries 1 ls ++ sign mark.CLOSING_BRACE ∷ [])

abbrev reactive_with : Lit → List Cell → List Cell
reactive_with l ts = word (codes "init") ∷ plain (literal_token l) ∷ word (codes "in") ∷ sign mark.OPENING_BRACE ∷ (ts ++ sign mark.CLOSING_BRACE ∷ [])

one_table : (l m : Lit) (ls ms : List Lit) (b c : List Token) → tokens_of (table_with m ms) ++ c ≡ tokens_of (table_with l ls) ++ b → (m ≡ l) × (ms ≡ ls) × (c ≡ b)
one_table l m ls ms b c e =
    let h : literal_token m ≡ literal_token l = cc in
    let rest : tokens_of (more_entries 1 ms ++ sign mark.CLOSING_BRACE ∷ []) ++ c ≡ tokens_of (more_entries 1 ls ++ sign mark.CLOSING_BRACE ∷ []) ++ b = cc in
    let r = one_entries 1 ls ms b c rest in
    (same_literal m l h, r.0, r.1)

one_reactive : {xs ys : List ClauseTree} (l m : Lit) (ts us : List Cell) (b c : List Token) → Row SpellsClause xs ts → Row SpellsClause ys us → tokens_of (reactive_with m us) ++ c ≡ tokens_of (reactive_with l ts) ++ b → (m ≡ l) × (ys ≡ xs) × (us ≡ ts) × (c ≡ b)
one_reactive {xs = xs} {ys = ys} l m ts us b c r q e =
    let h : literal_token m ≡ literal_token l = cc in
    let rest : tokens_of (us ++ sign mark.CLOSING_BRACE ∷ []) ++ c ≡ tokens_of (ts ++ sign mark.CLOSING_BRACE ∷ []) ++ b = cc in
    let k = row (sym (split us (sign mark.CLOSING_BRACE ∷ []) c) ∙ rest ∙ split ts (sign mark.CLOSING_BRACE ∷ []) b) in
    let end : c ≡ b = cc k.2 in
    (same_literal m l h, k.0, k.1, end)
  where
    row : tokens_of us ++ Mark mark.CLOSING_BRACE ∷ c ≡ tokens_of ts ++ Mark mark.CLOSING_BRACE ∷ b → (ys ≡ xs) × (us ≡ ts) × (Mark mark.CLOSING_BRACE ∷ c ≡ Mark mark.CLOSING_BRACE ∷ b)
    row f = one_row is_any_word (Mark mark.CLOSING_BRACE ∷ b) (Mark mark.CLOSING_BRACE ∷ c) clause_leads one_clause refl refl r q f

abbrev SameBehaviour : BehaviourTree → BehaviourTree → List Cell → List Cell → List Token → List Token → Type 0
SameBehaviour x y w v b c = (y ≡ x) × (v ≡ w) × (c ≡ b)

one_behaviour : (x y : BehaviourTree) (w v : List Cell) (b c : List Token) → SpellsBehaviour x w → SpellsBehaviour y v → tokens_of v ++ Ended c ≡ tokens_of w ++ Ended b → SameBehaviour x y w v b c
one_behaviour (Plain e) (Plain f) w v b c (plainly s) (plainly t) h = let m = one_expression (Ended b) (Ended c) s t (omega arith) (omega arith) h in let end : c ≡ b = cc m.2 in (ap Plain m.0, m.1, end)
one_behaviour (Plain e) (Input q) w v b c (plainly s) (input k) h = absurd (begins_something s (Ended b) (ap firsts (sym h)))
one_behaviour (Plain e) (Table q) w v b c (plainly s) table h = absurd (begins_something s (Ended b) (ap firsts (sym h)))
one_behaviour (Plain e) (Reactive l q) w v b c (plainly s) (reactive ts r) h = absurd (begins_something s (Ended b) (ap firsts (sym h)))
one_behaviour (Input p) (Plain f) w v b c (input k) (plainly t) h = absurd (begins_something t (Ended c) (ap firsts h))
one_behaviour (Table p) (Plain f) w v b c table (plainly t) h = absurd (begins_something t (Ended c) (ap firsts h))
one_behaviour (Reactive l p) (Plain f) w v b c (reactive ts r) (plainly t) h = absurd (begins_something t (Ended c) (ap firsts h))
one_behaviour (Input p) (Input q) w v b c (input k) (input j) h = let n : q ≡ p = cc in let end : c ≡ b = cc in (ap Input n, ap (λ z. word (codes "input") ∷ word z ∷ []) n, end)
one_behaviour (Input p) (Table q) w v b c (input k) table h = absurd (apart word_number _ _ h (omega arith))
one_behaviour (Input p) (Reactive l q) w v b c (input k) (reactive ts r) h = absurd (apart word_number _ _ h (omega arith))
one_behaviour (Table p) (Input q) w v b c table (input k) h = absurd (apart word_number _ _ (sym h) (omega arith))
one_behaviour (Table p) (Reactive l q) w v b c table (reactive ts r) h = absurd (apart word_number _ _ h (omega arith))
one_behaviour (Reactive l p) (Input q) w v b c (reactive ts r) (input k) h = absurd (apart word_number _ _ (sym h) (omega arith))
one_behaviour (Reactive l p) (Table q) w v b c (reactive ts r) table h = absurd (apart word_number _ _ (sym h) (omega arith))
one_behaviour (Table []) (Table q) w v b c s t h = elim s [ ]
one_behaviour (Table (l ∷ ls)) (Table []) w v b c s t h = elim t [ ]
one_behaviour (Table (l ∷ ls)) (Table (m ∷ ms)) w v b c table table h = let k = one_table l m ls ms (Ended b) (Ended c) h in let end : c ≡ b = cc k.2 in
    (ap (λ z. Table (z ∷ ms)) k.0 ∙ ap (λ z. Table (l ∷ z)) k.1, ap (λ z. table_with z ms) k.0 ∙ ap (table_with l) k.1, end)
one_behaviour (Reactive l p) (Reactive m q) w v b c (reactive ts r) (reactive us o) h = let k = one_reactive l m ts us (Ended b) (Ended c) r o h in let end : c ≡ b = cc k.3 in
    (ap (λ z. Reactive z q) k.0 ∙ ap (Reactive l) k.1, ap (λ z. reactive_with z us) k.0 ∙ ap (reactive_with l) k.2, end)

-- Definitions and outputs.

abbrev decl_with : List ℕ → Ty → List Cell → List Cell
decl_with name ty value = starting Definitions (Word (codes "let")) ∷ word name ∷ sign mark.COLON ∷ word (type_name ty) ∷ sign mark.EQUALS ∷ (value ++ sign mark.SEMICOLON ∷ [])

same_decl : (x y : DeclTree) → y.name ≡ x.name → y.ty ≡ x.ty → y.behaviour ≡ x.behaviour → y ≡ x
same_decl x y n t h = ap (λ z. let g : DeclTree = record { name = z; ty = y.ty; behaviour = y.behaviour } in g) n ∙ ap (λ z. let g : DeclTree = record { name = x.name; ty = z; behaviour = y.behaviour } in g) t ∙ ap (λ z. let g : DeclTree = record { name = x.name; ty = x.ty; behaviour = z } in g) h

one_decl : OneOf SpellsDecl
one_decl x y w v b c s t h =
    let k : tokens_of (decl_with y.name y.ty t.value) ++ c ≡ tokens_of (decl_with x.name x.ty s.value) ++ b = sym (ap (λ z. tokens_of z ++ c) t.whole) ∙ h ∙ ap (λ z. tokens_of z ++ b) s.whole in
    let n : y.name ≡ x.name = cc k in
    let o : type_name y.ty ≡ type_name x.ty = cc k in
    let rest : tokens_of (t.value ++ sign mark.SEMICOLON ∷ []) ++ c ≡ tokens_of (s.value ++ sign mark.SEMICOLON ∷ []) ++ b = cc k in
    let m = one_behaviour x.behaviour y.behaviour s.value t.value b c s.spelled t.spelled (sym (split t.value (sign mark.SEMICOLON ∷ []) c) ∙ rest ∙ split s.value (sign mark.SEMICOLON ∷ []) b) in
    let u = same_type y.ty x.ty o in
    (same_decl x y n u m.0, t.whole ∙ ap (λ z. decl_with z y.ty t.value) n ∙ ap (λ z. decl_with x.name z t.value) u ∙ ap (decl_with x.name x.ty) m.1 ∙ sym s.whole, m.2)

abbrev output_with : List ℕ → List Cell → List Cell
output_with port value = starting Outputs (Word (codes "output")) ∷ word port ∷ sign mark.EQUALS ∷ (value ++ sign mark.SEMICOLON ∷ [])

same_output : (x y : OutputTree) → y.port ≡ x.port → y.expr ≡ x.expr → y ≡ x
same_output x y n h = ap (λ z. let g : OutputTree = record { port = z; expr = y.expr } in g) n ∙ ap (λ z. let g : OutputTree = record { port = x.port; expr = z } in g) h

one_output : OneOf SpellsOutput
one_output x y w v b c s t h =
    let k : tokens_of (output_with y.port t.value) ++ c ≡ tokens_of (output_with x.port s.value) ++ b = sym (ap (λ z. tokens_of z ++ c) t.whole) ∙ h ∙ ap (λ z. tokens_of z ++ b) s.whole in
    let n : y.port ≡ x.port = cc k in
    let rest : tokens_of (t.value ++ sign mark.SEMICOLON ∷ []) ++ c ≡ tokens_of (s.value ++ sign mark.SEMICOLON ∷ []) ++ b = cc k in
    let m = one_expression (Ended b) (Ended c) s.spelled t.spelled (omega arith) (omega arith) (sym (split t.value (sign mark.SEMICOLON ∷ []) c) ∙ rest ∙ split s.value (sign mark.SEMICOLON ∷ []) b) in
    let end : c ≡ b = cc m.2 in
    (same_output x y n m.0, t.whole ∙ ap (λ z. output_with z t.value) n ∙ ap (output_with x.port) m.1 ∙ sym s.whole, end)

-- Programs.

event_leads : (k : List ℕ) → Leads (is_word k) (bytes_eq (codes "event") k) SpellsEvent
event_leads k x w c s = ap (λ z. leads (is_word k) (tokens_of z ++ c)) s.whole

setup_leads : (k : List ℕ) → Leads (is_word k) (bytes_eq (codes "setup") k) SpellsSetup
setup_leads k x w c s = ap (λ z. leads (is_word k) (tokens_of z ++ c)) s.whole

decl_leads : (k : List ℕ) → Leads (is_word k) (bytes_eq (codes "let") k) SpellsDecl
decl_leads k x w c s = ap (λ z. leads (is_word k) (tokens_of z ++ c)) s.whole

output_leads : (k : List ℕ) → Leads (is_word k) (bytes_eq (codes "output") k) SpellsOutput
output_leads k x w c s = ap (λ z. leads (is_word k) (tokens_of z ++ c)) s.whole

same_program : (x y : ProgramTree) → y.events ≡ x.events → y.setups ≡ x.setups → y.decls ≡ x.decls → y.outputs ≡ x.outputs → y ≡ x
same_program x y e s d o =
    ap (λ z. let g : ProgramTree = record { events = z; setups = y.setups; decls = y.decls; outputs = y.outputs } in g) e ∙ ap (λ z. let g : ProgramTree = record { events = x.events; setups = z; decls = y.decls; outputs = y.outputs } in g) s
    ∙ ap (λ z. let g : ProgramTree = record { events = x.events; setups = x.setups; decls = z; outputs = y.outputs } in g) d ∙ ap (λ z. let g : ProgramTree = record { events = x.events; setups = x.setups; decls = x.decls; outputs = z } in g) o

-- What stands behind the events, and behind the setups, by its tokens.
abbrev after_decls : List Cell → List Token
after_decls outputs = tokens_of outputs ++ []

abbrev after_setups : List Cell → List Cell → List Token
after_setups decls outputs = tokens_of decls ++ after_decls outputs

abbrev after_events : List Cell → List Cell → List Cell → List Token
after_events setups decls outputs = tokens_of setups ++ after_setups decls outputs

program_split : (e s d o : List Cell) → tokens_of (e ++ (s ++ (d ++ o))) ≡ tokens_of e ++ after_events s d o
program_split e s d o =
    sym (append-nil (tokens_of (e ++ (s ++ (d ++ o))))) ∙ split e (s ++ (d ++ o)) [] ∙ ap (λ z. tokens_of e ++ z) (split s (d ++ o) [] ∙ ap (λ z. tokens_of s ++ z) (split d o []))

one_program_tree : (x y : ProgramTree) (w v : List Cell) → SpellsProgram x w → SpellsProgram y v → tokens_of v ≡ tokens_of w → (y ≡ x) × (v ≡ w)
one_program_tree x y w v s t h =
    let k : tokens_of t.events ++ after_events t.setups t.decls t.outputs ≡ tokens_of s.events ++ after_events s.setups s.decls s.outputs =
    sym (program_split t.events t.setups t.decls t.outputs) ∙ sym (ap tokens_of t.whole) ∙ h ∙ ap tokens_of s.whole ∙ program_split s.events s.setups s.decls s.outputs in
    let e = one_row (is_word (codes "event")) (after_events s.setups s.decls s.outputs) (after_events t.setups t.decls t.outputs) (event_leads (codes "event")) one_event
    (row_leads (is_word (codes "event")) (after_setups s.decls s.outputs) (setup_leads (codes "event")) (row_leads (is_word (codes "event")) (after_decls s.outputs) (decl_leads (codes "event")) (row_leads (is_word (codes "event")) [] (output_leads (codes "event")) refl s.spelled_outputs) s.spelled_decls) s.spelled_setups)
    (row_leads (is_word (codes "event")) (after_setups t.decls t.outputs) (setup_leads (codes "event")) (row_leads (is_word (codes "event")) (after_decls t.outputs) (decl_leads (codes "event")) (row_leads (is_word (codes "event")) [] (output_leads (codes "event")) refl t.spelled_outputs) t.spelled_decls) t.spelled_setups)
    s.spelled_events t.spelled_events k in
    let p = one_row (is_word (codes "setup")) (after_setups s.decls s.outputs) (after_setups t.decls t.outputs) (setup_leads (codes "setup")) one_setup
    (row_leads (is_word (codes "setup")) (after_decls s.outputs) (decl_leads (codes "setup")) (row_leads (is_word (codes "setup")) [] (output_leads (codes "setup")) refl s.spelled_outputs) s.spelled_decls)
    (row_leads (is_word (codes "setup")) (after_decls t.outputs) (decl_leads (codes "setup")) (row_leads (is_word (codes "setup")) [] (output_leads (codes "setup")) refl t.spelled_outputs) t.spelled_decls)
    s.spelled_setups t.spelled_setups e.2 in
    let d = one_row (is_word (codes "let")) (after_decls s.outputs) (after_decls t.outputs) (decl_leads (codes "let")) one_decl
    (row_leads (is_word (codes "let")) [] (output_leads (codes "let")) refl s.spelled_outputs) (row_leads (is_word (codes "let")) [] (output_leads (codes "let")) refl t.spelled_outputs) s.spelled_decls t.spelled_decls p.2 in
    let o = one_row (is_word (codes "output")) [] [] (output_leads (codes "output")) one_output refl refl s.spelled_outputs t.spelled_outputs d.2 in (
      same_program x y e.0 p.0 d.0 o.0,
      t.whole ∙ ap (λ z. z ++ (t.setups ++ (t.decls ++ t.outputs))) e.1 ∙ ap (λ z. s.events ++ (z ++ (t.decls ++ t.outputs))) p.1 ∙ ap (λ z. s.events ++ (s.setups ++ (z ++ t.outputs))) d.1 ∙ ap (λ z. s.events ++ (s.setups ++ (s.decls ++ z))) o.1 ∙ sym s.whole,
    )

pub one_tree : (ts : List Token) (p q : ProgramTree) → HasTree p ts → HasTree q ts → p ≡ q
one_tree ts p q h k = (one_program_tree q p k.cells h.cells k.spelled h.spelled (h.tokens ∙ sym k.tokens)).0

-- A text spells one program at most.
pub one_program : (text : List ℕ) (p q : ProgramTree) → Spells text p → Spells text q → p ≡ q
one_program text p q h k =
    let e : k.tokens ≡ h.tokens = one_list text h.tokens k.tokens h.cut k.cut in
    (one_program_tree q p k.tree.cells h.tree.cells k.tree.spelled h.tree.spelled (h.tree.tokens ∙ sym e ∙ sym k.tree.tokens)).0
