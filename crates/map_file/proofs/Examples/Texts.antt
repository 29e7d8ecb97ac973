-- Texts written out by hand from the form of a map, line by line.
use Rattle.std.specs.Prelude.{◌≡◌, ℕ, List, [], ◌∷◌, ◌++◌, codes, refl}
use Rattle.std.specs.Fmt.{digits}
use Rattle.frp_tree.specs.declared.syntax.Ty.{Ty}
use Rattle.frp_tree.specs.declared.syntax.Ty.TheVariants as ty
use Rattle.pic_isa.specs.declared.sources.Source.TheVariants as source
use Rattle.map_file.specs.declared.maps.MapState.{MapState}
use Rattle.map_file.specs.declared.maps.MapSample.{MapSample}
use Rattle.map_file.specs.declared.maps.Range.{Range}
use Rattle.map_file.specs.declared.maps.Map.{Map}
use Rattle.map_file.specs.MapText.{map_text}

abbrev pub range : ℕ → ℕ → Range
range first last = record { from = first; to = last }

abbrev pub state : List ℕ → Ty → ℕ → ℕ → MapState
state name ty low high = record { name = name; ty = ty; low = low; high = high }

abbrev pub sample : List ℕ → List ℕ → ℕ → MapSample
sample event input at = record { event = event; input = input; at = at }

-- A counter on a port.
abbrev pub counter : Map
counter = record {
  events = record { name = codes "Tick"; source = source.Int; priority = 1; «open» = 0x41; commit = 0x1A47 } ∷ [];
  states = state (codes "n") ty.U8 0x20 0x20 ∷ [];
  outputs = 1 ∷ [];
  samples = [];
  ready = 0x2F;
  regs = range 6 0xB ∷ range 0x20 0x7F ∷ [];
  depth = 1;
  ram = 11;
  words = 72;
  settle = 586;
}

pub one_event_one_byte_state_one_port_two_ranges : map_text counter
    ≡ codes "efrp map 1\n"
    ++ codes "event Tick INT 1 open 0041 commit 1A47\n"
    ++ codes "state n u8 020\n"
    ++ codes "output PORTB\n"
    ++ codes "ready 002F\n"
    ++ codes "regs 006-00B\n"
    ++ codes "regs 020-07F\n"
    ++ codes "report depth 1 ram 11 words 72 settle 586\n"
unfolding digits
one_event_one_byte_state_one_port_two_ranges = refl

-- No event, state, output or range.
abbrev pub empty : Map
empty = record { events = []; states = []; outputs = []; samples = []; ready = 0; regs = []; depth = 0; ram = 0; words = 0; settle = 0 }

pub empty_lists_have_no_line : map_text empty
    ≡ codes "efrp map 1\n"
    ++ codes "ready 0000\n"
    ++ codes "report depth 0 ram 0 words 0 settle 0\n"
unfolding digits
empty_lists_have_no_line = refl

-- The high byte stands below the low byte, in another bank.
abbrev pub wide : Map
wide = record empty { states = state (codes "q") ty.U16 0x1EF 0xA0 ∷ [] }

pub wide_state_has_its_low_and_then_its_high_address : map_text wide
    ≡ codes "efrp map 1\n"
    ++ codes "state q u16 1EF 0A0\n"
    ++ codes "ready 0000\n"
    ++ codes "report depth 0 ram 0 words 0 settle 0\n"
unfolding digits
wide_state_has_its_low_and_then_its_high_address = refl

abbrev pub flag : Map
flag = record empty { states = state (codes "on") ty.Bool 0x16F 0x16F ∷ [] }

pub bool_state_has_one_address : map_text flag
    ≡ codes "efrp map 1\n"
    ++ codes "state on bool 16F\n"
    ++ codes "ready 0000\n"
    ++ codes "report depth 0 ram 0 words 0 settle 0\n"
unfolding digits
bool_state_has_one_address = refl

-- An event that samples an input.
abbrev pub sampling : Map
sampling = record counter { samples = sample (codes "Tick") (codes "level") 0x12 ∷ [] }

pub sample_stands_between_outputs_and_ready : map_text sampling
    ≡ codes "efrp map 1\n"
    ++ codes "event Tick INT 1 open 0041 commit 1A47\n"
    ++ codes "state n u8 020\n"
    ++ codes "output PORTB\n"
    ++ codes "sample Tick level 0012\n"
    ++ codes "ready 002F\n"
    ++ codes "regs 006-00B\n"
    ++ codes "regs 020-07F\n"
    ++ codes "report depth 1 ram 11 words 72 settle 586\n"
unfolding digits
sample_stands_between_outputs_and_ready = refl

-- Each number as great as it may be, and lists of several items.
abbrev pub full : Map
full = record {
  events = record { name = codes "Last"; source = source.Ccp2; priority = 11; «open» = 0x1FFE; commit = 0x1FFF }
      ∷ record { name = codes "_0"; source = source.T0; priority = 10; «open» = 0xABC; commit = 0xDEF } ∷ [];
  states = state (codes "state") ty.U16 0x1FF 0x1FF ∷ state (codes "a_B9") ty.U8 0 0 ∷ [];
  outputs = 4 ∷ 0 ∷ 4 ∷ [];
  samples = sample (codes "_0") (codes "u8") 0x1FFF ∷ sample (codes "Last") (codes "u8") 0 ∷ sample (codes "_0") (codes "Last") 0x1FFF ∷ [];
  ready = 0x1FFF;
  regs = range 0 0x1FD ∷ range 0x1FF 0x1FF ∷ [];
  depth = 8;
  ram = 352;
  words = 8192;
  settle = 4294967295;
}

pub greatest_numbers_and_several_items : map_text full
    ≡ codes "efrp map 1\n"
    ++ codes "event Last CCP2 11 open 1FFE commit 1FFF\n"
    ++ codes "event _0 T0 10 open 0ABC commit 0DEF\n"
    ++ codes "state state u16 1FF 1FF\n"
    ++ codes "state a_B9 u8 000\n"
    ++ codes "output PORTE\n"
    ++ codes "output PORTA\n"
    ++ codes "output PORTE\n"
    ++ codes "sample _0 u8 1FFF\n"
    ++ codes "sample Last u8 0000\n"
    ++ codes "sample _0 Last 1FFF\n"
    ++ codes "ready 1FFF\n"
    ++ codes "regs 000-1FD\n"
    ++ codes "regs 1FF-1FF\n"
    ++ codes "report depth 8 ram 352 words 8192 settle 4294967295\n"
unfolding digits
greatest_numbers_and_several_items = refl
