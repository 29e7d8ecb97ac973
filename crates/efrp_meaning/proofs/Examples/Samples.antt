-- Reactions with samples.
use Rattle.std.specs.Prelude.{◌≡◌, ℕ, List, [], ◌∷◌, Some, None, codes, refl}
use Rattle.frp_tree.specs.declared.syntax.Ty.TheVariants.{U8}
use Rattle.frp_tree.specs.Tree.{Name}
use Rattle.efrp_meaning.specs.Types.{type_of}
use Rattle.efrp_meaning.specs.Needs.{inputs_needed}
use Rattle.efrp_meaning.specs.Meaning.{Occurrence, value_on, react, initial_state, serial}
use Rattle.efrp_meaning.proofs.Examples.Programs.{greatest_level, sampled_division, counter, tick, low, high}

abbrev at : List ℕ → ℕ → Occurrence
at its_event byte = record { event = its_event; samples = byte ∷ [] }

-- The greatest of three levels, after each.
pub levels_begin : initial_state greatest_level ≡ Some (0 ∷ [])
levels_begin = refl

pub levels_rise : serial greatest_level (at tick 0x10 ∷ at tick 0x05 ∷ at tick 0x20 ∷ []) ≡ Some (record { state = 32 ∷ []; ports = (0x10 ∷ []) ∷ (0x10 ∷ []) ∷ (0x20 ∷ []) ∷ [] })
levels_rise = refl

-- An input is what its port reads on this event, whatever the state.
pub level_is_sampled : (s byte : ℕ) → value_on greatest_level (s ∷ []) (byte ∷ []) tick (codes "level") 1 ≡ Some byte
level_is_sampled s byte = refl

pub level_is_a_u8 : type_of greatest_level (Name (codes "level")) ≡ Some U8
level_is_a_u8 = refl

-- Without a byte for each input there is no reaction.
pub no_samples : react greatest_level (0 ∷ []) [] tick ≡ None
no_samples = refl

-- An event needs the inputs that stand in what it needs.
pub tick_needs_level : inputs_needed greatest_level tick ≡ codes "level" ∷ []
tick_needs_level = refl

pub low_needs_level : inputs_needed sampled_division low ≡ codes "level" ∷ []
low_needs_level = refl

pub high_needs_none : inputs_needed sampled_division high ≡ []
high_needs_none = refl

pub counter_needs_none : inputs_needed counter tick ≡ []
counter_needs_none = refl

-- The two serial orders of the division, where the level is 4 from High on.
pub division_after_change : serial sampled_division (at high 4 ∷ at low 4 ∷ []) ≡ Some (record { state = 5 ∷ 6666 ∷ []; ports = [] ∷ [] ∷ [] })
division_after_change = refl

pub division_before_change : serial sampled_division (at low 0 ∷ at high 4 ∷ []) ≡ Some (record { state = 5 ∷ 20000 ∷ []; ports = [] ∷ [] ∷ [] })
division_before_change = refl
