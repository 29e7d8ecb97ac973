-- The bounds of programs at the limits of the chip, as numbers.
use Rattle.std.specs.Prelude.{◌≡◌, ℕ, zero, suc, List, [], ◌∷◌, ◌++◌, codes, refl, map}
use Rattle.frp_tree.specs.declared.syntax.Ty.TheVariants.{U8, U16}
use Rattle.frp_tree.specs.declared.syntax.Lit.TheVariants as lit
use Rattle.frp_tree.specs.declared.syntax.BinOp.TheVariants.{Add}
use Rattle.frp_tree.specs.declared.syntax.Event.{Event}
use Rattle.text_parts.specs.Digits.{hex2}
use Rattle.frp_tree.specs.Tree.{Tree, Name, Binary, ClauseTree, DeclTree, ProgramTree}
use Rattle.efrp_meaning.specs.Bounds.{levels, off, boot, body, words_bound, ram_bound, settle_bound}
use Rattle.efrp_meaning.proofs.Examples.Programs.{event, clause, reactive, one_more, wide, small, on_go, go, divided_by}

-- Eleven events, one on each source, with these priorities.
abbrev pub eleven_events : ℕ → ℕ → ℕ → ℕ → ℕ → ℕ → ℕ → ℕ → ℕ → ℕ → ℕ → List Event
eleven_events p0 p1 p2 p3 p4 p5 p6 p7 p8 p9 p10 =
    event (codes "A0") (codes "T0") p0 ∷ event (codes "A1") (codes "INT") p1 ∷ event (codes "A2") (codes "PSP") p2
    ∷ event (codes "A3") (codes "AD") p3 ∷ event (codes "A4") (codes "SSP") p4 ∷ event (codes "A5") (codes "CCP1") p5
    ∷ event (codes "A6") (codes "TMR2") p6 ∷ event (codes "A7") (codes "TMR1") p7 ∷ event (codes "A8") (codes "EE") p8
    ∷ event (codes "A9") (codes "BCL") p9 ∷ event (codes "A10") (codes "CCP2") p10 ∷ []

-- The same clause for each of the events.
abbrev pub for_each : List Event → Tree → List ClauseTree
for_each events e = map (λ event. clause event.name e) events

abbrev rising_events : List Event
rising_events = eleven_events 1 2 3 4 5 6 7 8 8 8 8

-- One counter of all eleven events, on eight levels.
abbrev pub all_sources : ProgramTree
all_sources = record { events = rising_events; setups = []; decls = reactive (codes "n") U8 (lit.Plain 0) (for_each rising_events (one_more (codes "n"))) ∷ []; outputs = [] }

pub all_sources_levels : levels all_sources ≡ 8
all_sources_levels = refl

pub all_sources_settle : settle_bound all_sources ≡ 12440
all_sources_settle = refl

-- A name divided by itself so many times.
abbrev pub divisions : ℕ → Tree
divisions zero = Name (codes "x")
divisions (suc n) = divided_by (divisions n) (codes "x")

abbrev alike_events : List Event
alike_events = eleven_events 1 1 1 1 1 1 1 1 1 1 1

-- Each of eleven events divides 40 times.
abbrev many_divisions : ProgramTree
many_divisions = record { events = alike_events; setups = []; decls = reactive (codes "x") U16 (lit.Wide 7) (for_each alike_events (divisions 40)) ∷ []; outputs = [] }

pub many_divisions_ram : ram_bound many_divisions ≡ 170
many_divisions_ram = refl

pub many_divisions_words : words_bound many_divisions ≡ 359248
many_divisions_words = refl

-- So many states of two bytes, `v01` to `v56` where there are 86, that each become 1.
abbrev wide_states : ℕ → List DeclTree
wide_states zero = []
wide_states (suc n) = reactive (codes "v" ++ hex2 (suc n)) U16 (lit.Wide 0) (clause go (wide 1) ∷ []) ∷ wide_states n

-- All of the RAM: 86 states of two bytes and one of one byte, one level, and as much scratch as states.
abbrev pub full_ram : ProgramTree
full_ram = on_go (wide_states 86 ++ reactive (codes "w") U8 (lit.Plain 0) (clause go (small 1) ∷ []) ∷ [])

pub full_ram_bound : ram_bound full_ram ≡ 352
full_ram_bound = refl

pub full_ram_words : words_bound full_ram ≡ 2678
full_ram_words = refl

-- One more state of one byte, with no clause.
abbrev pub past_ram : ProgramTree
past_ram = on_go (wide_states 86 ++ reactive (codes "w") U8 (lit.Plain 0) (clause go (small 1) ∷ []) ∷ reactive (codes "z") U8 (lit.Plain 0) [] ∷ [])

pub past_ram_bound : ram_bound past_ram ≡ 353
past_ram_bound = refl

-- Eight divisions on one event.
abbrev nine_names : ProgramTree
nine_names = record { events = event go (codes "T0") 1 ∷ []; setups = []; decls = reactive (codes "x") U16 (lit.Wide 7) (clause go (divisions 8) ∷ []) ∷ []; outputs = [] }

pub nine_names_off : off nine_names ≡ 108
nine_names_off = refl

pub nine_names_body : body nine_names go ≡ 6508
nine_names_body = refl

pub nine_names_boot : boot nine_names ≡ 56
nine_names_boot = refl

pub nine_names_words : words_bound nine_names ≡ 6784
nine_names_words = refl

pub nine_names_ram : ram_bound nine_names ≡ 42
nine_names_ram = refl

pub nine_names_settle : settle_bound nine_names ≡ 20014
nine_names_settle = refl

-- A sum of two hundred literals.
abbrev ones : ℕ → Tree
ones zero = small 1
ones (suc n) = Binary Add (ones n) (small 1)

abbrev long_sum : ProgramTree
long_sum = record { events = event go (codes "T0") 1 ∷ []; setups = []; decls = reactive (codes "s") U8 (lit.Plain 0) (clause go (ones 199) ∷ []) ∷ []; outputs = [] }

pub long_sum_ram : ram_bound long_sum ≡ 406
long_sum_ram = refl

pub long_sum_words : words_bound long_sum ≡ 4250
long_sum_words = refl

pub long_sum_settle : settle_bound long_sum ≡ 12414
long_sum_settle = refl

-- Three events that divide 40 times each.
abbrev three_events : List Event
three_events = event (codes "A0") (codes "T0") 1 ∷ event (codes "A1") (codes "INT") 1 ∷ event (codes "A2") (codes "PSP") 1 ∷ []

abbrev three_divide : ProgramTree
three_divide = record { events = three_events; setups = []; decls = reactive (codes "x") U16 (lit.Wide 7) (for_each three_events (divisions 40)) ∷ []; outputs = [] }

pub three_divide_off : off three_divide ≡ 140
three_divide_off = refl

pub three_divide_body : body three_divide (codes "A0") ≡ 32492
three_divide_body = refl

pub three_divide_words : words_bound three_divide ≡ 98064
three_divide_words = refl

pub three_divide_ram : ram_bound three_divide ≡ 170
three_divide_ram = refl

pub three_divide_settle : settle_bound three_divide ≡ 294166
three_divide_settle = refl
