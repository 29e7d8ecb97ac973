-- Where the vector of firmware stands, and what is to be known of the layout for it.
use Rattle.std.specs.Prelude.{◌≡◌, ℕ, ◌+◌, ◌<◌, ◌≤◌, true, false, List, [], ◌∷◌, ◌++◌, length, drop, get_or}
use Rattle.std.specs.List.{AllByRecursion}
use Rattle.frp_tree.specs.Tree.{ProgramTree}
use Rattle.efrp_meaning.specs.Bounds.{state_bytes}
use Rattle.efrp_meaning.specs.Types.{IsTyped}
use Rattle.efrp_types.specs.Laws.{HasSetupBytes}
use Rattle.pic_regs.specs.Bytes.{Byte, bits, is_zero}
use Rattle.pic_regs.specs.Places.{reg_of}
use Rattle.bank_alloc.specs.declared.needs.Needs.{Needs}
use Rattle.bank_alloc.specs.Needs.{bytes_of}
use Rattle.bank_alloc.specs.Addresses.{address_of}
use Rattle.priority_masks.specs.Levels.{level_of}
use Rattle.code_items.specs.declared.items.Item.{Item}
use Rattle.code_items.specs.Items.{words_in}
use Rattle.code_items.specs.Lines.{Stands}
use Rattle.glue_steps.specs.declared.lines.Line.{Line}
use Rattle.glue_steps.specs.Still.{MayWrite}
use Rattle.glue_parts.specs.declared.spread.Spread.{Spread}
use Rattle.glue_parts.specs.Marks.{Entry, mark}
use Rattle.isr_vector.specs.Booting.{Write, boot_lines, boot_writes, first_bytes}
use Rattle.isr_vector.specs.Taking.{AreSources, context_of, taking_items}
use Rattle.isr_vector.specs.Urgency.{by_urgency}
use Rattle.isr_vector.specs.Vector.{boot_items, boot_place, head_items}
use Rattle.firmware_parts.specs.Layout.{Layout}
use Rattle.firmware_parts.specs.Layout.Part.{Boot, Taking}

-- The lines of the boot, those behind the first three, and the items from a taking on, of the vector for a layout.
abbrev pub lines_for : ProgramTree → Needs → Layout → List Line
lines_for p need l = boot_lines p need (l.enables 0)

abbrev pub rest_for : ProgramTree → Needs → Layout → List Line
rest_for p need l = drop 3 (lines_for p need l)

abbrev pub taking_for : ProgramTree → Spread → Layout → List Item
taking_for p spread l = taking_items l.source (context_of p spread) spread.pages (by_urgency p)

-- The bytes of the initial state stand in the cells.
abbrev pub HoldsFirst : ProgramTree → Needs → (ℕ → Byte) → Type 0
HoldsFirst p need plain = (k : ℕ) → k < length (first_bytes p) → plain (address_of need k) ≡ bits (get_or (first_bytes p) k 0)

-- The vector of a program stands in program memory, and the layout tells where, and what it is made for.
pub record HasVector (p : ProgramTree) (need : Needs) (spread : Spread) (l : Layout) (initial : List ℕ) : Type 0 where
  -- The program is typed and has events enough for the chip; the bytes of its states are placed; the layout reads the state off them.
  pub typed : IsTyped p
  pub setups : HasSetupBytes p
  pub few : length p.events ≤ 11
  pub fits : bytes_of need ≤ 352
  pub placed : state_bytes p ≤ need.states
  pub states : (plain : ℕ → Byte) → HoldsFirst p need plain → l.states plain ≡ initial
  -- Page settings, what a taking saves, levels and sources are the program's.
  pub paged : l.paged ≡ spread.pages
  pub status : l.saves_status ≡ (context_of p spread).status
  pub pclath : l.saves_pclath ≡ (context_of p spread).pclath
  pub levels : (e : ℕ) → e < length p.events → l.level e ≡ level_of p e
  pub no_level : (e : ℕ) → length p.events ≤ e → l.level e ≡ 0
  pub sources : AreSources p l.source
  -- The two pieces stand, `head` at address 0. In code of several pages `boot` stands where the goto of `head` leads.
  pub marks : ℕ → ℕ
  pub boot_at : ℕ
  pub head_end : ℕ
  pub boot_stop : ℕ
  pub head : Stands spread.pages l.program marks 0 (head_items spread.pages (lines_for p need l) (taking_for p spread l)) head_end
  pub boot : Stands spread.pages l.program marks boot_at (boot_items spread.pages (lines_for p need l) (taking_for p spread l)) boot_stop
  pub at : spread.pages ≡ true → boot_at ≡ boot_place (taking_for p spread l)
  -- The places that the layout tells. The ready address lies in the first page, and so do all entries in code of one page, where the
  -- least urgent event's run stands directly behind `head`.
  pub boot_end : l.boot_end ≡ boot_at + length (rest_for p need l)
  pub ready : l.ready ≡ boot_at + length (rest_for p need l) + 1
  pub near : l.ready < 2048
  pub entry : (e : ℕ) → e < length p.events → l.entry e ≡ marks (mark (Entry e))
  pub short : spread.pages ≡ false → (e : ℕ) → e < length p.events → l.entry e < 2048
  pub last : spread.pages ≡ false → (tested : List ℕ) (least : ℕ) → by_urgency p ≡ tested ++ least ∷ [] → l.entry least ≡ head_end
  -- The parts, and what they may write.
  pub in_first : (x : ℕ) → x < 4 → l.inside Boot x ≡ true
  pub in_rest : (x : ℕ) → boot_at ≤ x → x < l.boot_end → l.inside Boot x ≡ true
  pub in_taking : (x : ℕ) → 4 ≤ x → x < 4 + words_in spread.pages (taking_for p spread l) → l.inside Taking x ≡ true
  pub may_write : AllByRecursion (λ (w : Write). MayWrite (λ a. l.may Boot a ≡ true) (reg_of w.place)) (boot_writes p need)
  pub may_pie1 : is_zero (bits (l.enables 0).pie1) ≡ false → l.may Boot 0x08C ≡ true
  pub may_pie2 : is_zero (bits (l.enables 0).pie2) ≡ false → l.may Boot 0x08D ≡ true
  pub may_intcon : l.may Boot 0x00B ≡ true
  pub may_status : l.saves_status ≡ true → l.may Taking 0x071 ≡ true
  pub may_pclath : l.saves_pclath ≡ true → l.may Taking 0x072 ≡ true
  pub may_page : l.paged ≡ true → l.may Taking 0x00A ≡ true
