-- Which registers the firmware of a program may write.
use Rattle.std.specs.Prelude.{ℕ, zero, suc, Bool, false, ◌&&◌, ◌||◌, ◌==◌, List}
use Rattle.std.specs.List.{list_any}
use Rattle.std.specs.Str.{bytes_eq}
use Rattle.frp_tree.specs.declared.syntax.Event.{Event}
use Rattle.frp_tree.specs.declared.syntax.Setup.{Setup}
use Rattle.frp_tree.specs.Tree.{OutputTree, ProgramTree, program_tree_of}
use Rattle.pic_isa.specs.declared.sources.Source.{Source}
use Rattle.pic_isa.specs.Names.{port_at, register_at}
use Rattle.pic_isa.specs.Sources.{enable_of, flag_of, source_name, sources}
use Rattle.pic_regs.specs.Map.{within}
use Rattle.bank_alloc.specs.declared.needs.Needs.{Needs}
use Rattle.bank_alloc.specs.Addresses.{address_of}
use Rattle.firmware_promises.specs.Firmware.{is_at, is_port_at}
use Rattle.scratch_commit.specs.declared.frames.Frame.{Frame}
use Rattle.scratch_commit.specs.Frames.{is_in_frame}
use Rattle.firmware_map.specs.declared.uses.Uses.{Uses}

-- What firmware uses beside what its program names: the bytes that are placed, the frames of its runs, how many of the cells are
-- those of states or of some work, and whether it has page settings.
pub record Used : Type 0 where
  pub need : Needs
  pub frames : List Frame
  pub cells : ℕ
  pub pages : Bool

-- The program, and what its firmware uses.
abbrev pub program_of : Uses → ProgramTree
program_of u = program_tree_of u.c.now.typed.program

abbrev pub used_by : Uses → Used
used_by u = record { need = u.places.now.need; frames = u.frames.now; cells = u.cells; pages = u.pages }

-- STATUS and INTCON; PCLATH where there are page settings; and the bytes 71h to 7Fh.
abbrev pub is_common : (pages : Bool) → ℕ → Bool
is_common pages a = a == 0x003 || a == 0x00B || (pages && a == 0x00A) || within 0x071 0x07F a

-- The register of a setup; the port of an output.
abbrev pub is_set_up : ProgramTree → ℕ → Bool
is_set_up p a = list_any (λ (s : Setup). is_at a (register_at s.register)) p.setups

abbrev pub is_output : ProgramTree → ℕ → Bool
is_output p a = list_any (λ (o : OutputTree). is_port_at a (port_at o.port)) p.outputs

-- The register of a source's flag, or that of its enable; of the source of this name; of an event's source.
abbrev pub is_of_source : ℕ → Source → Bool
is_of_source a source = a == (flag_of source).address || a == (enable_of source).address

abbrev pub is_of_name : ℕ → List ℕ → Bool
is_of_name a name = list_any (λ source. bytes_eq name (source_name source) && is_of_source a source) sources

abbrev pub is_of_event : ProgramTree → ℕ → Bool
is_of_event p a = list_any (λ (e : Event). is_of_name a e.source) p.events

-- A byte of one of the runs' frames.
abbrev pub is_of_run : Used → ℕ → Bool
is_of_run u a = list_any (λ (f : Frame). is_in_frame f a) u.frames

-- One of the numbers below a bound passes a test.
unfoldable pub some_below : ℕ → (ℕ → Bool) → Bool
some_below zero test = false
some_below (suc n) test = test n || some_below n test

-- A cell that is used.
abbrev pub is_cell : Used → ℕ → Bool
is_cell u a = some_below u.cells (λ cell. a == address_of u.need cell)

-- A register that firmware may write whatever its code, by its lowest address: a common one; one that the program sets up, an
-- output's port, or that of the flag or the enable of an event's source.
abbrev pub is_named : ProgramTree → (pages : Bool) → ℕ → Bool
is_named p pages a = is_common pages a || is_set_up p a || is_output p a || is_of_event p a

-- A register that the firmware of a program may write: one of these, a byte of a run's frame, or a cell.
abbrev pub is_written : ProgramTree → Used → ℕ → Bool
is_written p u a = is_named p u.pages a || is_of_run u a || is_cell u a
