-- Some tokens have the tree of a large program, within the limits of each kind.
use Rattle.std.proofs.Common.{◌≡◌, ℕ, zero, suc, ◌+◌, ◌*◌, ◌<◌, ◌≤◌, nat_le, Bool, true, false, not, ◌&&◌, List, [], ◌∷◌, ◌++◌, map, codes, refl, arith}
use Rattle.std.specs.Fmt.{digits}
use Rattle.std.specs.List.{AllByRecursion, flat_map, list_all, range_with_len}
use Rattle.std.proofs.lemmas.Bool.{agree_below_at, and_from, and_parts, leb-true, not-true}
use Rattle.frp_tree.specs.declared.kinds.Kind.{Kind}
use Rattle.frp_tree.specs.declared.kinds.Kind.TheVariants.{Events, Setups, Definitions, Outputs, Nodes, Entries}
use Rattle.frp_tree.specs.declared.levels.Level.TheVariants as level
use Rattle.frp_tree.specs.declared.marks.TheConstants as mark
use Rattle.frp_tree.specs.declared.syntax.Event.{Event}
use Rattle.frp_tree.specs.declared.syntax.BinOp.TheVariants.{Add, BitXor, Lt, Sub}
use Rattle.frp_tree.specs.declared.tokens.Token.TheVariants.{Word, Mark}
use Rattle.frp_tree.specs.Names.{is_keyword, type_name}
use Rattle.frp_tree.specs.Tree.{Tree, Binary, If}
use Rattle.frp_tree.specs.Cells.{Cell, plain, starting, node, tokens_of, literal_token, count_of}
use Rattle.frp_tree.specs.Limits.{most}
use Rattle.frp_tree.specs.Grammar.{word, sign, SpellsExpr, literal, named, joined, compared, chosen, Row, none, next, SpellsEvent, later_cells, SpellsClause, reactive, SpellsDecl, SpellsOutput, HasTreeWithin}
use Rattle.frp_tree.specs.Printed.{printed_tokens}
use Rattle.frp_tree.proofs.LevelLaws.{loosen}
use Rattle.frp_tree.proofs.PrintedLaws.{bare_cells, bare_spelled, whole_spelled, count_append}
use Rattle.frp_tree.proofs.PrintedProgramLaws.{event_cells, printed_has_tree}
use Rattle.pic_isa.specs.Sources.{sources}
use Rattle.large_program.specs.Draws.{after_draws, draw}
use Rattle.large_program.specs.LargePrograms.{event_name, definition_name, event_on, type_of, literal_for, partner, expression, clause, first_event, second_event, definition, nth_definition, port_shown, large_program}
use Rattle.large_program.proofs.PassFacts.{own_tree, other_tree, number_tree, by_form, partner_below, first_below, second_below}

-- Cells within the limits of nesting and entries; and so many of each kind.
abbrev is_small : Cell → Bool
is_small c = nat_le c.opens 64 && nat_le c.entry 256

record Piece (bound : Kind → ℕ) (w : List Cell) : Type 0 where
  pub small : list_all is_small w ≡ true
  pub few : (kind : Kind) → count_of kind w ≤ bound kind

small_append : (v w : List Cell) → list_all is_small v ≡ true → list_all is_small w ≡ true → list_all is_small (v ++ w) ≡ true
small_append [] w h k = k
small_append (c ∷ v) w h k = let parts = and_parts (is_small c) (list_all is_small v) h in and_from (is_small c) (list_all is_small (v ++ w)) parts.0 (small_append v w parts.1 k)

piece_append : {a b : Kind → ℕ} {v w : List Cell} → Piece a v → Piece b w → Piece (λ kind. a kind + b kind) (v ++ w)
piece_append {v = v} {w = w} h k = record {
  small = small_append v w h.small k.small;
  few = λ kind. omega (arith, count_append kind v w, h.few kind, k.few kind);
}

-- Expressions have at most 8 nodes.
abbrev nodes_alone : ℕ → Kind → ℕ
nodes_alone n Nodes = n
nodes_alone n _ = 0

own_word : (i : ℕ) → i < 12 → is_keyword (definition_name i) ≡ false
unfolding digits
own_word i below = agree_below_at (λ k. is_keyword (definition_name k)) (λ k. false) 12 i refl below

event_word : (a : ℕ) → a < 11 → is_keyword (event_name a) ≡ false
unfolding digits
event_word a below = agree_below_at (λ k. is_keyword (event_name k)) (λ k. false) 11 a refl below

record SpelledTree (e : Tree) : Type 0 where
  pub spelled : SpellsExpr level.Whole 0 e (bare_cells e 0)
  pub piece : Piece (nodes_alone 8) (bare_cells e 0)

kinds : (w : List Cell) (bound : Kind → ℕ) → nat_le (count_of Events w) (bound Events) ≡ true → nat_le (count_of Setups w) (bound Setups) ≡ true → nat_le (count_of Definitions w) (bound Definitions) ≡ true
    → nat_le (count_of Outputs w) (bound Outputs) ≡ true → nat_le (count_of Nodes w) (bound Nodes) ≡ true → nat_le (count_of Entries w) (bound Entries) ≡ true → (kind : Kind) → count_of kind w ≤ bound kind
kinds w bound a b c d e f Events = leb-true (count_of Events w) (bound Events) a
kinds w bound a b c d e f Setups = leb-true (count_of Setups w) (bound Setups) b
kinds w bound a b c d e f Definitions = leb-true (count_of Definitions w) (bound Definitions) c
kinds w bound a b c d e f Outputs = leb-true (count_of Outputs w) (bound Outputs) d
kinds w bound a b c d e f Nodes = leb-true (count_of Nodes w) (bound Nodes) e
kinds w bound a b c d e f Entries = leb-true (count_of Entries w) (bound Entries) f

spelled_tree : (i form k : ℕ) → i < 12 → SpelledTree (expression i form k)
spelled_tree i form k below =
    let own = own_word i below in
    let other = own_word (partner i) (partner_below i below) in
    let v = node (Word (definition_name i)) ∷ [] in
    let u = node (Word (definition_name (partner i))) ∷ [] in
    let l = node (literal_token (literal_for i k)) ∷ [] in
    by_form SpelledTree i form k
    (record {
      spelled = whole_spelled (Binary Add (own_tree i) (number_tree i k)) 0 (bare_spelled (joined {l = level.Sum} {d = 0} v l refl refl (loosen level.Sum level.Operand (omega arith) (named own)) (loosen level.Term level.Operand (omega arith) literal)));
      piece = record { small = refl; few = kinds (bare_cells (Binary Add (own_tree i) (number_tree i k)) 0) (nodes_alone 8) refl refl refl refl refl refl };
    })
    (record {
      spelled = whole_spelled (Binary BitXor (own_tree i) (other_tree i)) 0 (bare_spelled (joined {l = level.BitXor} {d = 0} v u refl refl (loosen level.BitXor level.Operand (omega arith) (named own)) (loosen level.BitAnd level.Operand (omega arith) (named other))));
      piece = record { small = refl; few = kinds (bare_cells (Binary BitXor (own_tree i) (other_tree i)) 0) (nodes_alone 8) refl refl refl refl refl refl };
    })
    (record {
      spelled = whole_spelled (Binary Sub (own_tree i) (number_tree i k)) 0 (bare_spelled (joined {l = level.Sum} {d = 0} v l refl refl (loosen level.Sum level.Operand (omega arith) (named own)) (loosen level.Term level.Operand (omega arith) literal)));
      piece = record { small = refl; few = kinds (bare_cells (Binary Sub (own_tree i) (number_tree i k)) 0) (nodes_alone 8) refl refl refl refl refl refl };
    })
    (record {
      spelled = whole_spelled (If (Binary Lt (own_tree i) (number_tree i k)) (other_tree i) (number_tree i k)) 0
          (bare_spelled (chosen {d = 0} (v ++ node (Mark mark.LESS) ∷ l) u l
          (loosen level.Whole level.Comparison (omega arith) (compared {l = level.Comparison} {d = 1} v l refl refl (loosen level.BitOr level.Operand (omega arith) (named own)) (loosen level.BitOr level.Operand (omega arith) literal)))
          (loosen level.Whole level.Operand (omega arith) (named other)) (loosen level.Whole level.Operand (omega arith) literal)));
      piece = record { small = refl; few = kinds (bare_cells (If (Binary Lt (own_tree i) (number_tree i k)) (other_tree i) (number_tree i k)) 0) (nodes_alone 8) refl refl refl refl refl refl };
    })

-- Clauses, definitions and rows of them.
record Cells {A : Type 0} (Item : A → List Cell → Type 0) (bound : Kind → ℕ) (x : A) : Type 0 where
  pub cells : List Cell
  pub spelled : Item x cells
  pub piece : Piece bound cells

abbrev none_of : Kind → ℕ
none_of kind = 0

spelled_clause : (i event s : ℕ) → i < 12 → event < 11 → Cells SpellsClause (nodes_alone 8) (clause i event s)
spelled_clause i event s below few =
    let c = clause i event s in
    let e = spelled_tree i (draw s 1 4) (draw s 2 200) below in
    record {
      cells = word c.event ∷ sign mark.ARROW ∷ (bare_cells c.expr 0 ++ (later_cells c.later ++ sign mark.SEMICOLON ∷ []));
      spelled = record { value = bare_cells c.expr 0; event = event_word event few; spelled = e.spelled; whole = refl };
      piece = record {
        small = small_append (bare_cells c.expr 0) (later_cells c.later ++ sign mark.SEMICOLON ∷ []) e.piece.small (ended_small c.later);
        few = λ kind. omega (arith, e.piece.few kind, count_append kind (bare_cells c.expr 0) (later_cells c.later ++ sign mark.SEMICOLON ∷ []), ended_few kind c.later);
      };
    }
  where
    ended_small : (b : Bool) → list_all is_small (later_cells b ++ sign mark.SEMICOLON ∷ []) ≡ true
    ended_small true = refl
    ended_small false = refl

    ended_few : (kind : Kind) (b : Bool) → count_of kind (later_cells b ++ sign mark.SEMICOLON ∷ []) ≡ 0
    ended_few kind true = refl
    ended_few kind false = refl

abbrev of_decls : ℕ → Kind → ℕ
of_decls n Definitions = n
of_decls n Nodes = 16 * n
of_decls n _ = 0

looser : {a b : Kind → ℕ} {w : List Cell} → ((kind : Kind) → a kind ≤ b kind) → Piece a w → Piece b w
looser h piece = record { small = piece.small; few = λ kind. omega (arith, piece.few kind, h kind) }

abbrev begun : ℕ → List Cell
begun i = starting Definitions (Word (codes "let")) ∷ word (definition_name i) ∷ sign mark.COLON ∷ word (type_name (type_of i)) ∷ sign mark.EQUALS
    ∷ word (codes "init") ∷ plain (literal_token (literal_for i i)) ∷ word (codes "in") ∷ sign mark.OPENING_BRACE ∷ []

sign_piece : (number : ℕ) → Piece none_of (sign number ∷ [])
sign_piece number = record { small = refl; few = kinds (sign number ∷ []) none_of refl refl refl refl refl refl }

empty_piece : Piece none_of []
empty_piece = record { small = refl; few = kinds [] none_of refl refl refl refl refl refl }

-- The beginning has one definition, and each clause at most 8 nodes.
abbrev begins_one : Kind → ℕ
begins_one Definitions = 1
begins_one _ = 0

begun_alone : (i : ℕ) → Piece begins_one (begun i)
begun_alone i = record { small = refl; few = kinds (begun i) begins_one refl refl refl refl refl refl }

together : (kind : Kind) → begins_one kind + (((nodes_alone 8 kind + (nodes_alone 8 kind + none_of kind)) + none_of kind) + none_of kind) ≤ of_decls 1 kind
together Events = omega arith
together Setups = omega arith
together Definitions = omega arith
together Outputs = omega arith
together Nodes = omega arith
together Entries = omega arith

spelled_decl : (i s : ℕ) → i < 12 → Cells SpellsDecl (of_decls 1) (definition i s)
spelled_decl i s below =
    let c = spelled_clause i (first_event s) (after_draws 2 s) below (first_below s) in
    let d = spelled_clause i (second_event s) (after_draws 5 s) below (second_below s) in
    let row = c.cells ++ (d.cells ++ []) in
    let value = word (codes "init") ∷ plain (literal_token (literal_for i i)) ∷ word (codes "in") ∷ sign mark.OPENING_BRACE ∷ (row ++ sign mark.CLOSING_BRACE ∷ []) in
    record {
      cells = starting Definitions (Word (codes "let")) ∷ word (definition_name i) ∷ sign mark.COLON ∷ word (type_name (type_of i)) ∷ sign mark.EQUALS ∷ (value ++ sign mark.SEMICOLON ∷ []);
      spelled = record { value = value; name = own_word i below; spelled = reactive row (next c.cells (d.cells ++ []) c.spelled (next d.cells [] d.spelled none)); whole = refl };
      piece = looser together (piece_append (begun_alone i) (piece_append (piece_append (piece_append c.piece (piece_append d.piece empty_piece)) (sign_piece mark.CLOSING_BRACE)) (sign_piece mark.SEMICOLON)));
    }

one_more : (n : ℕ) (kind : Kind) → of_decls 1 kind + of_decls n kind ≤ of_decls (suc n) kind
one_more n Events = omega arith
one_more n Setups = omega arith
one_more n Definitions = omega arith
one_more n Outputs = omega arith
one_more n Nodes = omega arith
one_more n Entries = omega arith

none_yet : (kind : Kind) → none_of kind ≤ of_decls 0 kind
none_yet kind = omega arith

spelled_decls : (n a count : ℕ) → a + count ≤ 12 → Cells (Row SpellsDecl) (of_decls count) (map (nth_definition n) (range_with_len a count))
spelled_decls n a zero below = record { cells = []; spelled = none; piece = looser none_yet empty_piece }
spelled_decls n a (suc count) below =
    let first = spelled_decl a (after_draws (8 * a) n) (omega (arith, below)) in
    let others = spelled_decls n (a + 1) count (omega (arith, below)) in
    record { cells = first.cells ++ others.cells; spelled = next first.cells others.cells first.spelled others.spelled; piece = looser (one_more count) (piece_append first.piece others.piece) }

-- Events, whose cells are closed.
abbrev are_words : Event → Bool
are_words e = not (is_keyword e.name) && not (is_keyword e.source)

spelled_events : (es : List Event) → list_all are_words es ≡ true → Row SpellsEvent es (flat_map event_cells es)
spelled_events [] h = none
spelled_events (e ∷ es) h =
    let parts = and_parts (are_words e) (list_all are_words es) h in
    let names = and_parts (not (is_keyword e.name)) (not (is_keyword e.source)) parts.0 in
    next (event_cells e) (flat_map event_cells es) (record { name = not-true (is_keyword e.name) names.0; source = not-true (is_keyword e.source) names.1; whole = refl }) (spelled_events es parts.1)

abbrev large_events : List Event
large_events = map event_on sources

abbrev of_events : Kind → ℕ
of_events Events = 11
of_events _ = 0

event_piece : Piece of_events (flat_map event_cells large_events)
unfolding digits
event_piece = record { small = refl; few = kinds (flat_map event_cells large_events) of_events refl refl refl refl refl refl }

events_are_words : list_all are_words large_events ≡ true
unfolding digits
events_are_words = refl

-- The output.
abbrev of_output : Kind → ℕ
of_output Outputs = 1
of_output Nodes = 1
of_output _ = 0

abbrev shown_cells : List Cell
shown_cells = starting Outputs (Word (codes "output")) ∷ word (codes "PORTB") ∷ sign mark.EQUALS ∷ node (Word (definition_name 0)) ∷ sign mark.SEMICOLON ∷ []

spelled_output : Cells (Row SpellsOutput) of_output (port_shown ∷ [])
spelled_output = record {
  cells = shown_cells ++ [];
  spelled = next shown_cells [] (record { value = node (Word (definition_name 0)) ∷ []; port = refl; spelled = loosen level.Whole level.Operand (omega arith) (named (own_word 0 (omega arith))); whole = refl }) none;
  piece = record { small = refl; few = kinds (shown_cells ++ []) of_output refl refl refl refl refl refl };
}

all_small : (w : List Cell) → list_all is_small w ≡ true → AllByRecursion (λ (c : Cell). c.opens ≤ 64) w × AllByRecursion (λ (c : Cell). c.entry ≤ 256) w
all_small [] h = (tt, tt)
all_small (c ∷ w) h =
    let parts = and_parts (is_small c) (list_all is_small w) h in
    let both = and_parts (nat_le c.opens 64) (nat_le c.entry 256) parts.0 in
    let others = all_small w parts.1 in
    ((leb-true c.opens 64 both.0, others.0), (leb-true c.entry 256 both.1, others.1))

in_limits : (kind : Kind) → of_events kind + (of_decls 12 kind + of_output kind) ≤ most kind
in_limits Events = omega arith
in_limits Setups = omega arith
in_limits Definitions = omega arith
in_limits Outputs = omega arith
in_limits Nodes = omega arith
in_limits Entries = omega arith

pub has_tree : (n : ℕ) → HasTreeWithin (large_program n) (printed_tokens (large_program n))
has_tree n =
    let decls = spelled_decls n 0 12 (omega arith) in
    let w = flat_map event_cells large_events ++ (decls.cells ++ spelled_output.cells) in
    let piece = looser in_limits (piece_append event_piece (piece_append decls.piece spelled_output.piece)) in
    let small = all_small w piece.small in
    printed_has_tree (large_program n) (tokens_of w) (record {
      cells = w;
      spelled = record {
        events = flat_map event_cells large_events;
        setups = [];
        decls = decls.cells;
        outputs = spelled_output.cells;
        spelled_events = spelled_events large_events events_are_words;
        spelled_setups = none;
        spelled_decls = decls.spelled;
        spelled_outputs = spelled_output.spelled;
        whole = refl;
      };
      tokens = refl;
      within = record { shallow = small.0; few = piece.few; short = small.1 };
    })
