-- What the laws of `laws.rt` promise.
use Rattle.std.specs.Prelude.{◌≡◌, ℕ, ◌+◌, ◌<◌, ◌≤◌, Bool, true, false, List, [], ◌∷◌, ◌++◌}
use Rattle.pic_isa.specs.declared.sources.Source.{Source}
use Rattle.pic_regs.specs.declared.places.Place.{Place}
use Rattle.pic_regs.specs.Bytes.{bits, bit}
use Rattle.pic_regs.specs.Map.{Pie1, Pie2}
use Rattle.pic_regs.specs.Places.{reg_of}
use Rattle.pic_regs.specs.Registers.{Registers}
use Rattle.bank_alloc.specs.declared.needs.Needs.{Needs}
use Rattle.bank_alloc.specs.Needs.{bytes_of}
use Rattle.bank_alloc.specs.Addresses.{address_of, is_general}
use Rattle.code_steps.specs.declared.banks.Bank.{Bank}
use Rattle.code_steps.specs.declared.banks.Bank.TheVariants.{Known}
use Rattle.code_acts.specs.Codes.{moved}
use Rattle.glue_steps.specs.declared.lines.Line.{Line}
use Rattle.glue_steps.specs.declared.lines.Line.TheVariants.{Bit, Nothing}
use Rattle.glue_steps.specs.Lines.{is_steady}
use Rattle.glue_steps.specs.Stretches.{BankBits, bits_of_bank, Reached}
use Rattle.std.specs.Prelude.{Some}
use Rattle.glue_parts.specs.Marks.{Spot, IsSpot, mark}
use Rattle.glue_parts.specs.Kept.{frame_cell}
use Rattle.glue_parts.specs.Places.{bank_of, IsNumbered, may_be_written, may_be_changed, may_be_read}
use Rattle.glue_parts.specs.Pieces.{lines_to_choose, lines_to_write, lines_to_copy, lines_to_change, lines_to_lower, bank_changed, bank_of_flag}
use Rattle.glue_parts.specs.Effects.{Effect, none, after, byte_written, copied, bit_made, flag_cleared, changed_to, Blind, Makes}

-- Two places of the firmware with one mark are one place.
abbrev pub MarksDiffer : Spot → Spot → Type 0
MarksDiffer a b = IsSpot a → IsSpot b → mark a ≡ mark b → a ≡ b

-- A byte of a frame is a byte that is placed, in bank 0 where the level is at most 8.
abbrev pub FrameLies : Needs → (level byte : ℕ) → Type 0
FrameLies need level byte =
    bytes_of need ≤ 352 → 1 ≤ level → level ≤ need.levels → byte < 6
    → (is_general (address_of need (frame_cell need level byte)) ≡ true) × (level ≤ 8 → address_of need (frame_cell need level byte) < 0x70)

-- Two bytes of frames at one address are one byte; and none has the address of a cell of states or scratch.
abbrev pub FramesDiffer : Needs → (level other byte more : ℕ) → Type 0
FramesDiffer need level other byte more =
    bytes_of need ≤ 352 → 1 ≤ level → level ≤ need.levels → 1 ≤ other → other ≤ need.levels → byte < 6 → more < 6
    → address_of need (frame_cell need level byte) ≡ address_of need (frame_cell need other more) → (level ≡ other) × (byte ≡ more)

abbrev pub FrameIsNoCell : Needs → (level byte cell : ℕ) → Type 0
FrameIsNoCell need level byte cell =
    bytes_of need ≤ 352 → 1 ≤ level → level ≤ need.levels → byte < 6 → cell < need.states + need.scratch
    → address_of need (frame_cell need level byte) ≡ address_of need cell → ⊥

-- Lines one after another have one effect after the other.
abbrev pub MakesBoth : (known middle behind : BankBits) → (e f : Effect) → (xs ys : List Line) → Type 0
MakesBoth known middle behind e f xs ys = Blind f → Makes known middle e xs → Makes middle behind f ys → Makes known behind (after e f) (xs ++ ys)

abbrev pub BlindBoth : (e f : Effect) → Type 0
BlindBoth e f = Blind e → Blind f → Blind (after e f)

-- The choice of a bank leaves nothing but the bank.
abbrev pub Chooses : Bank → ℕ → Type 0
Chooses bank k = Makes (bits_of_bank bank) (bits_of_bank (Known k)) none (lines_to_choose bank k)

-- A register is made a byte, in its bank.
abbrev pub Writes : Bank → Place → ℕ → Type 0
Writes bank p byte =
    IsNumbered (reg_of p) → may_be_written (reg_of p) ≡ true
    → Makes (bits_of_bank bank) (bits_of_bank (moved bank (bank_of (reg_of p)))) (byte_written (reg_of p) (bits byte)) (lines_to_write bank p byte)
    × Blind (byte_written (reg_of p) (bits byte))

-- One register is copied to another, each in its bank.
abbrev pub Copies : Bank → (from to : Place) → Type 0
Copies bank from to =
    IsNumbered (reg_of from) → IsNumbered (reg_of to) → may_be_read (reg_of from) ≡ true → may_be_written (reg_of to) ≡ true
    → Makes (bits_of_bank bank) (bits_of_bank (moved (moved bank (bank_of (reg_of from))) (bank_of (reg_of to)))) (copied (reg_of from) (reg_of to)) (lines_to_copy bank from to)
    × Blind (copied (reg_of from) (reg_of to))

-- A bit of a register is made what is given, where the register is reached.
abbrev pub MakesBit : BankBits → Place → ℕ → Bool → Type 0
MakesBit known p b v =
    may_be_changed (reg_of p) b ≡ true → Reached known (Some (reg_of p))
    → Makes known known (bit_made (reg_of p) b v) (Bit v p b ∷ []) × Blind (bit_made (reg_of p) b v)

-- A register is changed in its bank. PIE1 or PIE2 is then the byte, where the two differ at most in the bits that change.
abbrev pub Changes : Bank → Place → (changing byte : ℕ) → Type 0
Changes bank p changing byte =
    IsNumbered (reg_of p) → ((b : ℕ) → may_be_changed (reg_of p) b ≡ true) → is_steady (reg_of p) ≡ true
    → Makes (bits_of_bank bank) (bits_of_bank (bank_changed bank p changing)) (changed_to (reg_of p) changing byte) (lines_to_change bank p changing byte)
    × Blind (changed_to (reg_of p) changing byte)

-- A source's flag is cleared in its bank.
abbrev pub Lowers : Bank → Source → Type 0
Lowers bank source =
    Makes (bits_of_bank bank) (bits_of_bank (moved bank (bank_of_flag source))) (flag_cleared source) (lines_to_lower bank source)
    × Blind (flag_cleared source)
