-- Entries of tables: by their number, and the last one past the end.
use Rattle.std.specs.Prelude.{◌≡◌, ℕ, ◌+◌, List, [], ◌∷◌, Some, None, codes, refl, true, false}
use Rattle.frp_tree.specs.declared.syntax.Ty.TheVariants.{U8, U16}
use Rattle.frp_tree.specs.declared.syntax.Ty.TheVariants as ty
use Rattle.frp_tree.specs.declared.syntax.Lit.TheVariants as lit
use Rattle.frp_tree.specs.Tree.{Name, Look, ProgramTree}
use Rattle.efrp_meaning.specs.Types.{type_of}
use Rattle.efrp_meaning.specs.Values.{entry_at, number_at}
use Rattle.efrp_meaning.specs.Meaning.{Occurrence, value_on, expression_on, initial_state, serial}
use Rattle.efrp_meaning.specs.Bounds.{state_bytes, table_words}
use Rattle.efrp_meaning.proofs.Examples.Programs.{wave, table, small, wide, tick, on_go}

abbrev three : List ℕ
three = 7 ∷ 8 ∷ 9 ∷ []

pub first_entry : entry_at three 0 ≡ Some 7
first_entry = refl

pub last_by_number : entry_at three 2 ≡ Some 9
last_by_number = refl

-- Past the end the last one is given, and not 0.
pub just_past_the_end : entry_at three 3 ≡ Some 9
just_past_the_end = refl

pub far_past_the_end : entry_at three 255 ≡ Some 9
far_past_the_end = refl

pub only_entry : entry_at {A = ℕ} (7 ∷ []) 1 ≡ Some 7
only_entry = refl

pub no_entry : entry_at {A = ℕ} [] 0 ≡ None
no_entry = refl

pub true_entry : number_at (lit.Truth false ∷ lit.Truth true ∷ []) 1 ≡ Some 1
true_entry = refl

pub wide_entry : number_at (lit.Wide 1000 ∷ lit.Wide 65535 ∷ []) 9 ≡ Some 65535
wide_entry = refl

-- An entry that has no value gives none, and the others theirs.
pub too_great_an_entry : number_at (lit.Plain 255 ∷ lit.Plain 256 ∷ []) 1 ≡ None
too_great_an_entry = refl

pub entry_beside_it : number_at (lit.Plain 255 ∷ lit.Plain 256 ∷ []) 0 ≡ Some 255
entry_beside_it = refl

-- The index is a u8, and the entry is of the table's type.
abbrev tables : ProgramTree
tables = on_go (table (codes "flags") ty.Bool (lit.Truth true ∷ []) ∷ table (codes "steps") U16 (lit.Wide 1 ∷ []) ∷ table (codes "bytes") U8 (lit.Plain 1 ∷ []) ∷ [])

pub bool_entry : type_of tables (Look (codes "flags") (small 0)) ≡ Some ty.Bool
bool_entry = refl

pub u8_entry : type_of tables (Look (codes "bytes") (small 0)) ≡ Some U8
u8_entry = refl

pub u16_entry : type_of tables (Look (codes "steps") (small 0)) ≡ Some U16
u16_entry = refl

pub entry_as_index : type_of tables (Look (codes "steps") (Look (codes "bytes") (small 0))) ≡ Some U16
entry_as_index = refl

pub wide_index : type_of tables (Look (codes "steps") (wide 0)) ≡ None
wide_index = refl

pub bool_index : type_of tables (Look (codes "steps") (Look (codes "flags") (small 0))) ≡ None
bool_index = refl

pub no_such_table : type_of tables (Look (codes "stairs") (small 0)) ≡ None
no_such_table = refl

-- In words of the program: one for each byte of an entry, and 16 for each byte of the type.
pub words_of_tables : table_words tables ≡ 17 + (34 + 17)
words_of_tables = refl

-- A table is no state.
pub no_state_bytes : state_bytes tables ≡ 0
no_state_bytes = refl

-- A table's name alone has no type and no value, and a definition that is no table isn't indexed.
pub table_alone : type_of wave (Name (codes "wave")) ≡ None
table_alone = refl

pub no_value_of_a_table : value_on wave (0 ∷ []) [] tick (codes "wave") 2 ≡ None
no_value_of_a_table = refl

pub no_table : type_of wave (Look (codes "i") (Name (codes "i"))) ≡ None
no_table = refl

pub no_entry_of_a_state : expression_on wave (0 ∷ []) [] tick (Look (codes "i") (small 0)) None 2 ≡ None
no_entry_of_a_state = refl

-- The wave: entry 3, and then the last one, twice.
abbrev ticks : List Occurrence
ticks = record { event = tick; samples = [] } ∷ record { event = tick; samples = [] } ∷ record { event = tick; samples = [] } ∷ []

pub wave_begins : initial_state wave ≡ Some (0 ∷ [])
wave_begins = refl

pub wave_ports : serial wave ticks ≡ Some (record { state = 9 ∷ []; ports = (60 ∷ []) ∷ (100 ∷ []) ∷ (100 ∷ []) ∷ [] })
wave_ports = refl
