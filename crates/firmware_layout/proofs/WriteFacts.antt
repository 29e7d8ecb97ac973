-- What a part may write, by kinds of addresses: frames, cells, operand bytes, enables, PCLATH, ports.
use Rattle.std.proofs.Common.{◌≡◌, ℕ, ◌+◌, ◌-◌, ◌<◌, ◌≤◌, ◌==◌, ◌&&◌, ◌||◌, Bool, true, false, not, if◌then◌else◌, cond, nat_le, Some, List, [], ◌∷◌, length, refl, sym, ap, subst, ◌∙◌, arith, inl, inr, lit<}
use Rattle.std.specs.Prelude.{◌⊎◌, slice_get}
use Rattle.std.specs.List.{AllByRecursion}
use Rattle.std.specs.Map.{lookup}
use Rattle.std.specs.Str.{bytes_eq}
use Rattle.std.proofs.lemmas.Option.{none-some, same_Some}
use Rattle.std.proofs.lemmas.Bool.{agree_below_at, and_parts, eqb-true, leb-true, or_cases}
use Rattle.frp_tree.specs.Tree.{OutputTree}
use Rattle.efrp_meaning.specs.Bounds.{levels, state_bytes}
use Rattle.pic_isa.specs.Names.{port_at, ports}
use Rattle.pic_regs.specs.declared.places.Place.TheVariants.{Plain}
use Rattle.pic_regs.specs.Map.{lowest, within}
use Rattle.pic_regs.specs.Places.{reg_of}
use Rattle.bank_alloc.specs.Addresses.{address_of, is_general}
use Rattle.bank_alloc.specs.Needs.{bytes_of}
use Rattle.bank_alloc.proofs.AddressLaws.{addresses-differ, addresses-general}
use Rattle.priority_masks.specs.Levels.{level_of}
use Rattle.priority_masks.proofs.LevelLaws.{levels-rise}
use Rattle.glue_parts.specs.declared.moves.Move.{Move}
use Rattle.glue_parts.specs.Kept.{frame_cell}
use Rattle.glue_parts.proofs.FrameLaws.{frame-lies, frame-no_cell, frames-differ}
use Rattle.firmware_promises.specs.Firmware.{is_at}
use Rattle.scratch_commit.specs.declared.frames.Frame.{Frame}
use Rattle.scratch_commit.specs.declared.kinds.Kind.{Kind}
use Rattle.scratch_commit.specs.declared.kinds.Kind.TheVariants.{Short, Long, Bottom, Middle}
use Rattle.scratch_commit.specs.Frames.{is_between, is_byte, is_in_frame, is_over_runs, wanted}
use Rattle.scratch_commit.specs.Masks.{saved_of}
use Rattle.scratch_commit.specs.Plans.{Plan, context_in, frame_in, is_short, masks_in}
use Rattle.run_steps.specs.Spots.{is_locked}
use Rattle.firmware_layout.specs.Layouts.{is_changed, is_masked, is_of_work, is_page, is_scratch, is_target}
use Rattle.firmware_layout.specs.Pieces.{Makings, kind_of, plan_in}
use Rattle.firmware_layout.specs.Sound.{AreMakings, IsMoveIn, IsOutput}
use Rattle.firmware_layout.proofs.LevelLaws.{short_is_highest, unlocked_is_highest}
use Rattle.firmware_layout.proofs.RangeLaws.{found_in_range}

-- The class of an address: general bytes, 71h and 72h, 73h, operand bytes, registers of enables, PCLATH, ports; and all else.
abbrev pub class_of : ℕ → ℕ
class_of a =
    if is_general a then 1
    else if within 0x071 0x072 a then 2
    else if a == 0x073 then 3
    else if within 0x074 0x07F a then 4
    else if a == 0x00B || a == 0x08C || a == 0x08D then 5
    else if a == 0x00A then 6
    else if within 5 9 a then 7
    else 8

pub class_general : (a : ℕ) → is_general a ≡ true → class_of a ≡ 1
class_general a general =
    ap (λ b. if b then 1 else if within 0x071 0x072 a then 2 else if a == 0x073 then 3 else if within 0x074 0x07F a then 4
    else if a == 0x00B || a == 0x08C || a == 0x08D then 5 else if a == 0x00A then 6 else if within 5 9 a then 7 else 8) general

-- Of what lies between 74h and 7Fh, or 5 and 9, the class is computed.
abbrev fits_class : (low high class : ℕ) → ℕ → Bool
fits_class low high class a = not (within low high a) || class_of a == class

by_class : (low high class a : ℕ) → (not (within low high a) || class_of a == class) ≡ true → within low high a ≡ true → class_of a ≡ class
by_class low high class a test inside = eqb-true (class_of a) class (without (within low high a) inside test)
  where
    without : (b : Bool) → b ≡ true → (not b || class_of a == class) ≡ true → (class_of a == class) ≡ true
    without true is test = test
    without false is test = absurd (cc)

pub class_operand : (a : ℕ) → within 0x074 0x07F a ≡ true → class_of a ≡ 4
class_operand a inside =
    let both = and_parts (nat_le 0x074 a) (nat_le a 0x07F) inside in
    let high = leb-true a 0x07F both.1 in
    by_class 0x074 0x07F 4 a (agree_below_at (fits_class 0x074 0x07F 4) (λ k. true) 128 a refl (omega (arith, high))) inside

pub class_port : (n : ℕ) → n < 5 → class_of (5 + n) ≡ 7
class_port n few = eqb-true (class_of (5 + n)) 7 (agree_below_at (λ n. class_of (5 + n) == 7) (λ k. true) 5 n refl few)

-- Kinds of addresses that are general bytes: of a frame, of scratch, of states.
abbrev pub IsFrameByte : Makings → (event : ℕ) → ℕ → Type 0
IsFrameByte f event a = (byte : ℕ) × (byte < 6) × (a ≡ address_of f.need (frame_cell f.need (level_of f.p event) byte))

abbrev pub IsScratchByte : Makings → (event : ℕ) → ℕ → Type 0
IsScratchByte f event a = (cell : ℕ) × (state_bytes f.p ≤ cell) × (cell < f.cells event) × (a ≡ address_of f.need cell)

abbrev pub IsStateByte : Makings → ℕ → Type 0
IsStateByte f a = (cell : ℕ) × (cell < state_bytes f.p) × (a ≡ address_of f.need cell)

module _ (f : Makings) (made : AreMakings f) where
  -- They are general, and differ.
  cell_fits : (cell : ℕ) → cell < f.need.states + f.need.scratch → cell < bytes_of f.need
  cell_fits cell below = omega (arith, below)

  pub cell_class : (cell : ℕ) → cell < f.need.states + f.need.scratch → class_of (address_of f.need cell) ≡ 1
  cell_class cell below = class_general (address_of f.need cell) (addresses-general f.need made.bytes cell (cell_fits cell below))

  pub state_class : (a : ℕ) → IsStateByte f a → class_of a ≡ 1
  state_class a its = let below = its.1 in let placed = made.states in ap class_of its.2 ∙ cell_class its.0 (omega (arith, below, placed))

  pub scratch_below : (event : ℕ) → event < length f.p.events → (a : ℕ) → (its : IsScratchByte f event a) → its.0 < f.need.states + f.need.scratch
  scratch_below event real a its = let below = its.2 in let placed = (made.works event real).cells in omega (arith, below, placed)

  pub scratch_class : (event : ℕ) → event < length f.p.events → (a : ℕ) → IsScratchByte f event a → class_of a ≡ 1
  scratch_class event real a its = ap class_of its.3 ∙ cell_class its.0 (scratch_below event real a its)

  level_placed : (event : ℕ) → event < length f.p.events → level_of f.p event ≤ f.need.levels
  level_placed event real = let most = (levels-rise f.p).to_all event real in let placed = made.frames in omega (arith, most, placed)

  pub frame_class : (event : ℕ) → event < length f.p.events → (a : ℕ) → IsFrameByte f event a → class_of a ≡ 1
  frame_class event real a its =
      ap class_of its.2
      ∙ class_general (address_of f.need (frame_cell f.need (level_of f.p event) its.0))
      (frame-lies f.need (level_of f.p event) its.0 made.bytes ((levels-rise f.p).from_one event real) (level_placed event real) its.1).0

  pub frame_no_cell : (event cell : ℕ) → event < length f.p.events → (a : ℕ) → IsFrameByte f event a → cell < f.need.states + f.need.scratch → a ≡ address_of f.need cell → ⊥
  frame_no_cell event cell real a its below same =
      frame-no_cell f.need (level_of f.p event) its.0 cell made.bytes ((levels-rise f.p).from_one event real) (level_placed event real) its.1 below (sym its.2 ∙ same)

  pub frames_differ : (event other : ℕ) → event < length f.p.events → other < length f.p.events → (a : ℕ) → IsFrameByte f event a → IsFrameByte f other a → level_of f.p event ≡ level_of f.p other
  frames_differ event other real also a its others =
      (frames-differ f.need (level_of f.p event) (level_of f.p other) its.0 others.0 made.bytes ((levels-rise f.p).from_one event real) (level_placed event real)
      ((levels-rise f.p).from_one other also) (level_placed other also) its.1 others.1 (sym its.2 ∙ others.2)).0

  pub states_no_scratch : (event : ℕ) → event < length f.p.events → (a : ℕ) → IsStateByte f a → IsScratchByte f event a → ⊥
  states_no_scratch event real a its others =
      let below = its.1 in
      let from = others.1 in
      let placed = made.states in
      let state_below : its.0 < f.need.states + f.need.scratch = omega (arith, below, placed) in
      let same = addresses-differ f.need made.bytes its.0 others.0 (cell_fits its.0 state_below) (cell_fits others.0 (scratch_below event real a others)) (sym its.2 ∙ others.3) in
      omega (arith, same, below, from)

-- The frame of a run: 71h and 72h are in it only where it is of the highest level.
abbrev pub IsCommonSaved : ℕ → Type 0
IsCommonSaved a = (a ≡ 0x071) ⊎ (a ≡ 0x072)

byte_wanted : (b : Bool) (x a : ℕ) → is_byte a (wanted b (Plain x)) ≡ true → x ≡ a
byte_wanted true x a is = eqb-true x a is
byte_wanted false x a is = absurd (cc)

context_byte : (kind : Kind) (b : Bool) (x saved a : ℕ) → is_byte a (wanted (is_over_runs kind && b)
    (if is_between kind then Plain x else Plain saved)) ≡ true
    → ((saved ≡ a) × ((kind ≡ Short) ⊎ (kind ≡ Long))) ⊎ (x ≡ a)
context_byte Short b x saved a is = inl (byte_wanted b saved a is, inl refl)
context_byte Long b x saved a is = inl (byte_wanted b saved a is, inr refl)
context_byte Bottom b x saved a is = absurd (cc)
context_byte Middle b x saved a is = inr (byte_wanted b x a is)

module _ (f : Makings) (event : ℕ) where
  abbrev level : ℕ
  level = level_of f.p event

  abbrev FrameTells : ℕ → Type 0
  FrameTells a = (IsCommonSaved a × (levels f.p ≤ level_of f.p event)) ⊎ IsFrameByte f event a

  top : (kind_of f event ≡ Short) ⊎ (kind_of f event ≡ Long) → levels f.p ≤ level_of f.p event
  top (inl short) = short_is_highest f event (ap is_short short)
  top (inr long) = unlocked_is_highest f event (ap is_locked long)

  of_context : (saved a byte : ℕ) → byte < 6 → IsCommonSaved saved
      → ((saved ≡ a) × ((kind_of f event ≡ Short) ⊎ (kind_of f event ≡ Long))) ⊎ (address_of f.need (frame_cell f.need (level_of f.p event) byte) ≡ a) → FrameTells a
  of_context saved a byte six common (inl its) = inl (subst IsCommonSaved its.0 common, top its.1)
  of_context saved a byte six common (inr its) = inr (byte, six, sym its)

  abbrev frame : Frame
  frame = frame_in (plan_in f event)

  pub frame_tells : (a : ℕ) → is_in_frame (frame_in (plan_in f event)) a ≡ true → FrameTells a
  frame_tells a inside =
      first (or_cases (is_byte a frame.status || is_byte a frame.pclath || is_byte a frame.intcon || is_byte a frame.pie1) (is_byte a frame.pie2) inside)
    where
      fourth : (is_byte a frame.status ≡ true) ⊎ (is_byte a frame.pclath ≡ true) → FrameTells a
      fourth (inl is) =
          of_context 0x071 a 1 (lit< tt) (inl refl)
          (context_byte (kind_of f event) (context_in (plan_in f event)).status (address_of f.need (frame_cell f.need (level_of f.p event) 1)) 0x071 a is)
      fourth (inr is) =
          of_context 0x072 a 2 (lit< tt) (inr refl)
          (context_byte (kind_of f event) (context_in (plan_in f event)).pclath (address_of f.need (frame_cell f.need (level_of f.p event) 2)) 0x072 a is)

      third : ((is_byte a frame.status || is_byte a frame.pclath) ≡ true) ⊎ (is_byte a frame.intcon ≡ true) → FrameTells a
      third (inl is) = fourth (or_cases (is_byte a frame.status) (is_byte a frame.pclath) is)
      third (inr is) =
          inr (3, lit< tt, sym (byte_wanted (saved_of (masks_in (plan_in f event))).intcon (address_of f.need (frame_cell f.need (level_of f.p event) 3)) a is))

      second : ((is_byte a frame.status || is_byte a frame.pclath || is_byte a frame.intcon) ≡ true) ⊎ (is_byte a frame.pie1 ≡ true) → FrameTells a
      second (inl is) = third (or_cases (is_byte a frame.status || is_byte a frame.pclath) (is_byte a frame.intcon) is)
      second (inr is) =
          inr (4, lit< tt, sym (byte_wanted (saved_of (masks_in (plan_in f event))).pie1 (address_of f.need (frame_cell f.need (level_of f.p event) 4)) a is))

      first : ((is_byte a frame.status || is_byte a frame.pclath || is_byte a frame.intcon || is_byte a frame.pie1) ≡ true) ⊎ (is_byte a frame.pie2 ≡ true) → FrameTells a
      first (inl is) = second (or_cases (is_byte a frame.status || is_byte a frame.pclath || is_byte a frame.intcon) (is_byte a frame.pie1) is)
      first (inr is) =
          inr (5, lit< tt, sym (byte_wanted (saved_of (masks_in (plan_in f event))).pie2 (address_of f.need (frame_cell f.need (level_of f.p event) 5)) a is))

-- A register of enables of which a bit is cleared.
abbrev pub MaskedTells : Plan → ℕ → Type 0
MaskedTells plan a =
    ((a ≡ 0x00B) × (is_changed (masks_in plan).intcon.cleared ≡ true))
    ⊎ (((a ≡ 0x08C) × (is_changed (masks_in plan).pie1.cleared ≡ true)) ⊎ ((a ≡ 0x08D) × (is_changed (masks_in plan).pie2.cleared ≡ true)))

masked_by : (first second third : Bool) (a : ℕ) → (first && a == 0x00B || second && a == 0x08C || third && a == 0x08D) ≡ true
    → ((a ≡ 0x00B) × (first ≡ true)) ⊎ (((a ≡ 0x08C) × (second ≡ true)) ⊎ ((a ≡ 0x08D) × (third ≡ true)))
masked_by first second third a is = last (or_cases (first && a == 0x00B || second && a == 0x08C) (third && a == 0x08D) is)
  where
    middle : ((first && a == 0x00B) ≡ true) ⊎ ((second && a == 0x08C) ≡ true) → ((a ≡ 0x00B) × (first ≡ true)) ⊎ (((a ≡ 0x08C) × (second ≡ true)) ⊎ ((a ≡ 0x08D) × (third ≡ true)))
    middle (inl its) = let both = and_parts first (a == 0x00B) its in inl (eqb-true a 0x00B both.1, both.0)
    middle (inr its) = let both = and_parts second (a == 0x08C) its in inr (inl (eqb-true a 0x08C both.1, both.0))

    last : ((first && a == 0x00B || second && a == 0x08C) ≡ true) ⊎ ((third && a == 0x08D) ≡ true) → ((a ≡ 0x00B) × (first ≡ true)) ⊎ (((a ≡ 0x08C) × (second ≡ true)) ⊎ ((a ≡ 0x08D) × (third ≡ true)))
    last (inl its) = middle (or_cases (first && a == 0x00B) (second && a == 0x08C) its)
    last (inr its) = let both = and_parts third (a == 0x08D) its in inr (inr (eqb-true a 0x08D both.1, both.0))

pub masked_tells : (plan : Plan) (a : ℕ) → is_masked plan a ≡ true → MaskedTells plan a
masked_tells plan a is =
    masked_by (is_changed (masks_in plan).intcon.cleared) (is_changed (masks_in plan).pie1.cleared) (is_changed (masks_in plan).pie2.cleared) a is

pub masked_class : (plan : Plan) (a : ℕ) → MaskedTells plan a → class_of a ≡ 5
masked_class plan a (inl its) = ap class_of its.0
masked_class plan a (inr (inl its)) = ap class_of its.0
masked_class plan a (inr (inr its)) = ap class_of its.0

-- PCLATH; the cells of a work; what a window moves to.
pub page_tells : (f : Makings) (a : ℕ) → is_page f a ≡ true → (f.spread.pages ≡ true) × (a ≡ 0x00A)
page_tells f a is = let both = and_parts f.spread.pages (a == 0x00A) is in (both.0, eqb-true a 0x00A both.1)

pub scratch_tells : (f : Makings) (event a : ℕ) → is_scratch f event a ≡ true → IsScratchByte f event a
scratch_tells f event a is =
    let found = found_in_range (λ cell. address_of f.need cell == a) (state_bytes f.p) (f.cells event - state_bytes f.p) is in
    let from = found.1 in
    let to = found.2 in
    (found.0, from, omega (arith, from, to), sym (eqb-true (address_of f.need found.0) a found.3))

pub work_tells : (f : Makings) (event a : ℕ) → is_of_work f event a ≡ true → (within 0x074 0x07F a ≡ true) ⊎ IsScratchByte f event a
work_tells f event a is = by (or_cases (within 0x074 0x07F a) (is_scratch f event a) is)
  where
    by : (within 0x074 0x07F a ≡ true) ⊎ (is_scratch f event a ≡ true) → (within 0x074 0x07F a ≡ true) ⊎ IsScratchByte f event a
    by (inl operand) = inl operand
    by (inr scratch) = inr (scratch_tells f event a scratch)

-- An output's port.
pub record IsOutputPort (f : Makings) (a : ℕ) : Type 0 where
  pub number : ℕ
  pub output : OutputTree
  pub port : ℕ
  pub stands : slice_get f.p.outputs number ≡ Some output
  pub named : port_at output.port ≡ Some port
  pub below : port < 5
  pub is : a ≡ 5 + port

found_all : (P : ℕ → Type 0) (test : List ℕ → Bool) (table : List (List ℕ × ℕ)) → AllByRecursion (λ entry. P entry.1) table → (n : ℕ) → lookup test table ≡ Some n → P n
found_all P test [] all n is = absurd (none-some n is)
found_all P test (entry ∷ table) all n is = by (test entry.0) (found_all P test table all.1 n) is
  where
    by : (b : Bool) → (lookup test table ≡ Some n → P n) → cond b (Some entry.1) (lookup test table) ≡ Some n → P n
    by true rest here = subst P (same_Some entry.1 n here) all.0
    by false rest later = rest later

port_below : (name : List ℕ) (n : ℕ) → port_at name ≡ Some n → n < 5
port_below name n is = found_all (λ k. k < 5) (bytes_eq name) ports (lit< tt, (lit< tt, (lit< tt, (lit< tt, (lit< tt, tt))))) n is

abbrev pub TargetTells : Makings → ℕ → Type 0
TargetTells f a = IsStateByte f a ⊎ IsOutputPort f a

move_tells : (f : Makings) (move : Move) (a : ℕ) → IsMoveIn f move → is_at a (lowest (reg_of move.to)) ≡ true → TargetTells f a
move_tells f move a its is = by its.to
  where
    by : ((cell : ℕ) × (cell < state_bytes f.p) × (move.to ≡ Plain (address_of f.need cell))) ⊎ IsOutput f move.to → TargetTells f a
    by (inl state) = inl (state.0, state.1, eqb-true a (address_of f.need state.0) (sym (ap (λ p. is_at a (lowest (reg_of p))) state.2) ∙ is))
    by (inr out) =
        inr (record {
          number = out.0;
          output = out.1;
          port = out.2;
          stands = out.3;
          named = out.4;
          below = port_below out.1.port out.2 out.4;
          is = eqb-true a (5 + out.2) (sym (ap (λ p. is_at a (lowest (reg_of p))) out.5) ∙ is);
        })

pub target_tells : (f : Makings) (moves : List Move) (a : ℕ) → AllByRecursion (IsMoveIn f) moves → is_target moves a ≡ true → TargetTells f a
target_tells f [] a all is = absurd (cc)
target_tells f (move ∷ moves) a all is =
    elim (or_cases (is_at a (lowest (reg_of move.to))) (is_target moves a) is) [
      | inl here ↦ move_tells f move a all.0 here
      | inr later ↦ target_tells f moves a all.1 later
    ]
