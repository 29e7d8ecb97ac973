-- Laws on what is printed of a program: it spells the program, and is no worse than anything else that does.
use Rattle.std.proofs.Common.{◌≡◌, ℕ, suc, ◌≤◌, Bool, true, false, List, [], ◌∷◌, ◌++◌, length, map, codes, refl, sym, ap, subst, ◌∙◌, arith}
use Rattle.std.specs.List.{flat_map}
use Rattle.std.proofs.lemmas.List.Folds.{flat_map-map}
use Rattle.std.proofs.lemmas.Grind.{flat_map-append}
use Rattle.frp_tree.specs.declared.kinds.Kind.TheVariants.{Events, Setups, Definitions, Outputs}
use Rattle.frp_tree.specs.declared.limits.TheConstants.{DEEPEST_NESTING, MOST_ENTRIES_OF_A_TABLE}
use Rattle.frp_tree.specs.declared.marks.TheConstants as mark
use Rattle.frp_tree.specs.declared.syntax.Lit.{Lit}
use Rattle.frp_tree.specs.declared.syntax.Event.{Event}
use Rattle.frp_tree.specs.declared.syntax.Setup.{Setup}
use Rattle.frp_tree.specs.declared.tokens.Token.{Token}
use Rattle.frp_tree.specs.declared.tokens.Token.TheVariants.{Word, Num, Mark}
use Rattle.frp_tree.specs.Names.{type_name}
use Rattle.frp_tree.specs.Limits.{most}
use Rattle.frp_tree.specs.Tree.{ClauseTree, BehaviourTree, Plain, Input, Table, Reactive, DeclTree, OutputTree, ProgramTree}
use Rattle.frp_tree.specs.Cells.{Cell, plain, starting, entry_cell, tokens_of, literal_token}
use Rattle.frp_tree.specs.Grammar.{word, sign, Row, none, next, SpellsEvent, SpellsSetup, later_cells, SpellsClause, more_entries, SpellsBehaviour, plainly, input, table, reactive, SpellsDecl, SpellsOutput, SpellsProgram, HasTree, HasTreeWithin}
use Rattle.frp_tree.specs.Printed.{bare, event_item, setup_item, later_tokens, clause_tokens, more_entry_tokens, entry_tokens, behaviour_tokens, decl_item, output_item, printed_tokens}
use Rattle.frp_tree.proofs.PrintedLaws.{bare_cells, tokens_join, bare_tokens, bare_spelled, whole_spelled, NoWorse, same_cells, no_worse_append, no_worse_behind, no_worse_before, whole_bare, no_worse}

-- The cells of what is printed.

abbrev pub semicolon : List Cell
semicolon = sign mark.SEMICOLON ∷ []

abbrev pub event_cells : Event → List Cell
event_cells e = starting Events (Word (codes "event")) ∷ word e.name ∷ sign mark.EQUALS ∷ word e.source ∷ word (codes "priority") ∷ plain (Num e.priority) ∷ semicolon

abbrev pub setup_cells : Setup → List Cell
setup_cells s = starting Setups (Word (codes "setup")) ∷ word s.register ∷ sign mark.EQUALS ∷ plain (Num s.byte) ∷ semicolon

abbrev clause_cells : ClauseTree → List Cell
clause_cells c = word c.event ∷ sign mark.ARROW ∷ (bare_cells c.expr 0 ++ (later_cells c.later ++ semicolon))

abbrev entry_cells : List Lit → List Cell
entry_cells [] = []
entry_cells (l ∷ ls) = entry_cell 1 (literal_token l) ∷ more_entries 1 ls

abbrev behaviour_cells : BehaviourTree → List Cell
behaviour_cells (Plain e) = bare_cells e 0
behaviour_cells (Input port) = word (codes "input") ∷ word port ∷ []
behaviour_cells (Table ls) = word (codes "table") ∷ sign mark.OPENING_BRACE ∷ (entry_cells ls ++ sign mark.CLOSING_BRACE ∷ [])
behaviour_cells (Reactive l clauses) = word (codes "init") ∷ plain (literal_token l) ∷ word (codes "in") ∷ sign mark.OPENING_BRACE ∷ (flat_map clause_cells clauses ++ sign mark.CLOSING_BRACE ∷ [])

abbrev decl_cells : DeclTree → List Cell
decl_cells d = starting Definitions (Word (codes "let")) ∷ word d.name ∷ sign mark.COLON ∷ word (type_name d.ty) ∷ sign mark.EQUALS ∷ (behaviour_cells d.behaviour ++ semicolon)

abbrev output_cells : OutputTree → List Cell
output_cells o = starting Outputs (Word (codes "output")) ∷ word o.port ∷ sign mark.EQUALS ∷ (bare_cells o.expr 0 ++ semicolon)

abbrev pub program_cells : ProgramTree → List Cell
program_cells p = flat_map event_cells p.events ++ (flat_map setup_cells p.setups ++ (flat_map decl_cells p.decls ++ flat_map output_cells p.outputs))

-- Their tokens are those printed.

row_tokens : {A : Type 0} (cells : A → List Cell) (ts : A → List Token) → ((x : A) → tokens_of (cells x) ≡ ts x) → (xs : List A) → tokens_of (flat_map cells xs) ≡ flat_map ts xs
row_tokens cells ts h [] = refl
row_tokens cells ts h (x ∷ xs) = tokens_join (cells x) (flat_map cells xs) (ts x) (flat_map ts xs) (h x) (row_tokens cells ts h xs)

later_same : (b : Bool) → tokens_of (later_cells b) ≡ later_tokens b
later_same true = refl
later_same false = refl

clause_same : (c : ClauseTree) → tokens_of (clause_cells c) ≡ clause_tokens c
clause_same c = ap (λ x. Word c.event ∷ Mark mark.ARROW ∷ x) (tokens_join _ _ _ _ (bare_tokens c.expr 0) (tokens_join _ semicolon _ (Mark mark.SEMICOLON ∷ []) (later_same c.later) refl))

more_entries_same : (n : ℕ) (ls : List Lit) → tokens_of (more_entries n ls) ≡ flat_map more_entry_tokens ls
more_entries_same n [] = refl
more_entries_same n (l ∷ ls) = ap (λ x. Mark mark.COMMA ∷ literal_token l ∷ x) (more_entries_same (suc n) ls)

entries_same : (ls : List Lit) → tokens_of (entry_cells ls) ≡ entry_tokens ls
entries_same [] = refl
entries_same (l ∷ ls) = ap (λ x. literal_token l ∷ x) (more_entries_same 1 ls)

behaviour_same : (b : BehaviourTree) → tokens_of (behaviour_cells b) ≡ behaviour_tokens b
behaviour_same (Plain e) = bare_tokens e 0
behaviour_same (Input port) = refl
behaviour_same (Table ls) = ap (λ x. Word (codes "table") ∷ Mark mark.OPENING_BRACE ∷ x) (tokens_join (entry_cells ls) (sign mark.CLOSING_BRACE ∷ []) (entry_tokens ls) (Mark mark.CLOSING_BRACE ∷ []) (entries_same ls) refl)
behaviour_same (Reactive l clauses) = ap (λ x. Word (codes "init") ∷ literal_token l ∷ Word (codes "in") ∷ Mark mark.OPENING_BRACE ∷ x)
    (tokens_join (flat_map clause_cells clauses) (sign mark.CLOSING_BRACE ∷ []) (flat_map clause_tokens clauses) (Mark mark.CLOSING_BRACE ∷ []) (row_tokens clause_cells clause_tokens clause_same clauses) refl)

abbrev ended : List Token → List Token
ended item = item ++ Mark mark.SEMICOLON ∷ []

decl_same : (d : DeclTree) → tokens_of (decl_cells d) ≡ ended (decl_item d)
decl_same d = ap (λ x. Word (codes "let") ∷ Word d.name ∷ Mark mark.COLON ∷ Word (type_name d.ty) ∷ Mark mark.EQUALS ∷ x) (tokens_join (behaviour_cells d.behaviour) semicolon (behaviour_tokens d.behaviour) (Mark mark.SEMICOLON ∷ []) (behaviour_same d.behaviour) refl)

output_same : (o : OutputTree) → tokens_of (output_cells o) ≡ ended (output_item o)
output_same o = ap (λ x. Word (codes "output") ∷ Word o.port ∷ Mark mark.EQUALS ∷ x) (tokens_join (bare_cells o.expr 0) semicolon (bare o.expr) (Mark mark.SEMICOLON ∷ []) (bare_tokens o.expr 0) refl)

items_tokens : {A : Type 0} (cells : A → List Cell) (item : A → List Token) → ((x : A) → tokens_of (cells x) ≡ ended (item x)) → (xs : List A) → tokens_of (flat_map cells xs) ≡ flat_map ended (map item xs)
items_tokens cells item h xs = row_tokens cells (λ x. ended (item x)) h xs ∙ sym (flat_map-map ended item xs)

pub program_same : (p : ProgramTree) → tokens_of (program_cells p) ≡ printed_tokens p
program_same p =
    tokens_join _ _ _ _ (items_tokens event_cells event_item (λ e. refl) p.events) (tokens_join _ _ _ _ (items_tokens setup_cells setup_item (λ s. refl) p.setups)
    (tokens_join _ _ _ _ (items_tokens decl_cells decl_item decl_same p.decls) (items_tokens output_cells output_item output_same p.outputs)))
    ∙ sym (four (map event_item p.events) (map setup_item p.setups) (map decl_item p.decls) (map output_item p.outputs))
  where
    four : (a b c d : List (List Token)) → flat_map ended (a ++ (b ++ (c ++ d))) ≡ flat_map ended a ++ (flat_map ended b ++ (flat_map ended c ++ flat_map ended d))
    four a b c d = flat_map-append ended a (b ++ (c ++ d)) ∙ ap (λ x. flat_map ended a ++ x) (flat_map-append ended b (c ++ d) ∙ ap (λ x. flat_map ended b ++ x) (flat_map-append ended c d))

-- They spell the program, if anything does, and are no worse than what does.

pub record Better {A : Type 0} (Item : A → List Cell → Type 0) (x : A) (w v : List Cell) : Type 0 where
  pub spelled : Item x v
  pub no_worse : NoWorse w v

better_row : {A : Type 0} {Item : A → List Cell → Type 0} {xs : List A} {w : List Cell} (cells : A → List Cell) → ((x : A) (v : List Cell) → Item x v → Better Item x v (cells x)) → Row Item xs w → Better (Row Item) xs w (flat_map cells xs)
better_row cells h none = record { spelled = none; no_worse = same_cells _ }
better_row cells h (next {x = x} {xs = xs} first rest i r) = let b = h x first i in let c = better_row cells h r in
    record { spelled = next (cells x) (flat_map cells xs) b.spelled c.spelled; no_worse = no_worse_append b.no_worse c.no_worse }

better_event : (e : Event) (w : List Cell) → SpellsEvent e w → Better SpellsEvent e w (event_cells e)
better_event e w s = record { spelled = record { name = s.name; source = s.source; whole = refl }; no_worse = subst (λ x. NoWorse x (event_cells e)) (sym s.whole) (same_cells (event_cells e)) }

better_setup : (e : Setup) (w : List Cell) → SpellsSetup e w → Better SpellsSetup e w (setup_cells e)
better_setup e w s = record { spelled = record { register = s.register; whole = refl }; no_worse = subst (λ x. NoWorse x (setup_cells e)) (sym s.whole) (same_cells (setup_cells e)) }

better_clause : (c : ClauseTree) (w : List Cell) → SpellsClause c w → Better SpellsClause c w (clause_cells c)
better_clause c w s = record {
  spelled = record { value = bare_cells c.expr 0; event = s.event; spelled = whole_spelled c.expr 0 (bare_spelled s.spelled); whole = refl };
  no_worse = subst (λ x. NoWorse x (clause_cells c)) (sym s.whole) (no_worse_behind (word c.event ∷ sign mark.ARROW ∷ []) (no_worse_before (later_cells c.later ++ semicolon) (whole_bare s.value c.expr 0 (no_worse s.spelled))));
}

better_behaviour : (b : BehaviourTree) (w : List Cell) → SpellsBehaviour b w → Better SpellsBehaviour b w (behaviour_cells b)
better_behaviour (Plain e) w (plainly s) = record { spelled = plainly (whole_spelled e 0 (bare_spelled s)); no_worse = whole_bare w e 0 (no_worse s) }
better_behaviour (Input port) w (input k) = record { spelled = input k; no_worse = same_cells _ }
better_behaviour (Table []) w s = elim s [ ]
better_behaviour (Table (l ∷ ls)) w table = record { spelled = table; no_worse = same_cells _ }
better_behaviour (Reactive l clauses) w (reactive ts r) = let b = better_row clause_cells better_clause r in record {
  spelled = reactive (flat_map clause_cells clauses) b.spelled;
  no_worse = no_worse_behind (word (codes "init") ∷ plain (literal_token l) ∷ word (codes "in") ∷ sign mark.OPENING_BRACE ∷ []) (no_worse_before (sign mark.CLOSING_BRACE ∷ []) b.no_worse);
}

better_decl : (d : DeclTree) (w : List Cell) → SpellsDecl d w → Better SpellsDecl d w (decl_cells d)
better_decl d w s = let b = better_behaviour d.behaviour s.value s.spelled in record {
  spelled = record { value = behaviour_cells d.behaviour; name = s.name; spelled = b.spelled; whole = refl };
  no_worse = subst (λ x. NoWorse x (decl_cells d)) (sym s.whole) (no_worse_behind (starting Definitions (Word (codes "let")) ∷ word d.name ∷ sign mark.COLON ∷ word (type_name d.ty) ∷ sign mark.EQUALS ∷ []) (no_worse_before semicolon b.no_worse));
}

better_output : (o : OutputTree) (w : List Cell) → SpellsOutput o w → Better SpellsOutput o w (output_cells o)
better_output o w s = record {
  spelled = record { value = bare_cells o.expr 0; port = s.port; spelled = whole_spelled o.expr 0 (bare_spelled s.spelled); whole = refl };
  no_worse = subst (λ x. NoWorse x (output_cells o)) (sym s.whole) (no_worse_behind (starting Outputs (Word (codes "output")) ∷ word o.port ∷ sign mark.EQUALS ∷ []) (no_worse_before semicolon (whole_bare s.value o.expr 0 (no_worse s.spelled))));
}

pub better_program : (p : ProgramTree) (w : List Cell) → SpellsProgram p w → Better SpellsProgram p w (program_cells p)
better_program p w s =
    let e = better_row event_cells better_event s.spelled_events in
    let t = better_row setup_cells better_setup s.spelled_setups in
    let d = better_row decl_cells better_decl s.spelled_decls in
    let o = better_row output_cells better_output s.spelled_outputs in
    record {
      spelled = record {
        events = flat_map event_cells p.events;
        setups = flat_map setup_cells p.setups;
        decls = flat_map decl_cells p.decls;
        outputs = flat_map output_cells p.outputs;
        spelled_events = e.spelled;
        spelled_setups = t.spelled;
        spelled_decls = d.spelled;
        spelled_outputs = o.spelled;
        whole = refl;
      };
      no_worse = subst (λ x. NoWorse x (program_cells p)) (sym s.whole) (no_worse_append e.no_worse (no_worse_append t.no_worse (no_worse_append d.no_worse o.no_worse)));
    }

-- The tokens that are printed have the tree within the limits, if some tokens have.
pub printed_has_tree : (p : ProgramTree) (ts : List Token) → HasTreeWithin p ts → HasTreeWithin p (printed_tokens p)
printed_has_tree p ts h = let b = better_program p h.cells h.spelled in record {
  cells = program_cells p;
  spelled = b.spelled;
  tokens = program_same p;
  within = record {
    shallow = b.no_worse.shallow DEEPEST_NESTING h.within.shallow;
    few = λ kind. subst (λ n. n ≤ most kind) (sym (b.no_worse.counts kind)) (h.within.few kind);
    short = b.no_worse.short MOST_ENTRIES_OF_A_TABLE h.within.short;
  };
}

-- They are no more than any that have it.
pub printed_fewest : (p : ProgramTree) (ts : List Token) → HasTree p ts → length (printed_tokens p) ≤ length ts
printed_fewest p ts h = let b = better_program p h.cells h.spelled in
    omega (arith, b.no_worse.fewer, length_tokens (program_cells p), length_tokens h.cells, ap length (program_same p), ap length h.tokens)
  where
    length_tokens : (w : List Cell) → length (tokens_of w) ≡ length w
    length_tokens [] = refl
    length_tokens (c ∷ w) = ap suc (length_tokens w)
