-- The enables at a level of a program, computed.
use Rattle.std.specs.Prelude.{ℕ, Bool, ◌&&◌, ◌==◌, not, nat_lt, length}
use Rattle.std.specs.List.{list_any, range_with_len}
use Rattle.std.specs.Str.{bytes_eq}
use Rattle.frp_tree.specs.Tree.{ProgramTree}
use Rattle.efrp_types.specs.Numbers.{event_source}
use Rattle.pic_isa.specs.declared.sources.Source.{Source}
use Rattle.pic_isa.specs.Sources.{enable_of, source_name, sources}
use Rattle.pic_regs.specs.Bytes.{Byte, num}
use Rattle.priority_masks.specs.declared.tables.Enables.{Enables}
use Rattle.priority_masks.specs.Levels.{level_of}

-- An event of this source has a level above this one.
unfoldable pub is_above : ProgramTree → (level : ℕ) → Source → Bool
is_above p level source =
    list_any (λ event. bytes_eq (event_source p event) (source_name source) && nat_lt level (level_of p event)) (range_with_len 0 (length p.events))

-- The enable of a source stands in this bit of the register at this address; and one of a source that is above the level.
abbrev pub is_enable : (register bit : ℕ) → Source → Bool
is_enable register bit source = (enable_of source).address == register && (enable_of source).bit == bit

abbrev pub is_enabled : ProgramTree → (level register bit : ℕ) → Bool
is_enabled p level register bit = list_any (λ source. is_enable register bit source && is_above p level source) sources

-- The enables of a register.
abbrev pub enables_in : ProgramTree → (level register : ℕ) → Byte
enables_in p level register = record {
  b7 = is_enabled p level register 7;
  b6 = is_enabled p level register 6;
  b5 = is_enabled p level register 5;
  b4 = is_enabled p level register 4;
  b3 = is_enabled p level register 3;
  b2 = is_enabled p level register 2;
  b1 = is_enabled p level register 1;
  b0 = is_enabled p level register 0;
}

-- A source above the level has its enable outside INTCON.
abbrev pub needs_peie : ProgramTree → (level : ℕ) → Bool
needs_peie p level = list_any (λ source. not ((enable_of source).address == 0x00B) && is_above p level source) sources

-- The enables of the sources with an event above the level, and PEIE where one of them needs it.
unfoldable pub heard : ProgramTree → (level : ℕ) → Enables
heard p level = record {
  intcon = num (record (enables_in p level 0x00B) { b6 = needs_peie p level });
  pie1 = num (enables_in p level 0x08C);
  pie2 = num (enables_in p level 0x08D);
}
