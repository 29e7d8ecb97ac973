-- What parts may write: states in windows alone, frames of their own, enables and PCLATH where they have to, and listed registers.
use Rattle.std.proofs.Common.{◌≡◌, ℕ, ◌+◌, ◌-◌, ◌<◌, ◌≤◌, ◌==◌, ◌&&◌, ◌||◌, Bool, true, false, not, if◌then◌else◌, nat_le, Option, Some, None, List, [], ◌∷◌, ◌++◌, length, refl, sym, ap, ap₂, subst, ◌∙◌, arith, inl, inr}
use Rattle.std.specs.Prelude.{◌⊎◌, IfSome}
use Rattle.std.specs.List.{AllByRecursion, list_all}
use Rattle.std.proofs.lemmas.Bool.{and_from, and_parts, eq-eqb, eqb-true, le-leb, leb-true, or_cases}
use Rattle.std.proofs.lemmas.Option.{none-some}
use Rattle.frp_tree.specs.declared.syntax.Setup.{Setup}
use Rattle.efrp_meaning.specs.Bounds.{levels, state_bytes}
use Rattle.efrp_types.proofs.TypedLaws.{each-true}
use Rattle.pic_isa.specs.Names.{register_at, setup_registers}
use Rattle.pic_isa.proofs.NameLaws.{register_all}
use Rattle.pic_regs.specs.declared.places.Place.{Place}
use Rattle.pic_regs.specs.declared.places.Place.TheVariants as place
use Rattle.pic_regs.specs.Bytes.{Byte, bit, bit_by_bit, bits, num, zeros}
use Rattle.pic_regs.specs.Map.{within}
use Rattle.map_file.specs.declared.maps.Map.{Map}
use Rattle.bank_alloc.specs.Addresses.{address_of}
use Rattle.priority_masks.specs.declared.tables.Enables.{Enables}
use Rattle.priority_masks.specs.Levels.{level_of}
use Rattle.glue_parts.specs.declared.moves.Move.{Move}
use Rattle.glue_parts.specs.Moves.{after_move, after_moves, byte_from, put_to, puts_by, shown_at}
use Rattle.firmware_promises.specs.MapNames.{is_listed}
use Rattle.firmware_promises.specs.Setups.{last_setup, setup_byte}
use Rattle.scratch_commit.specs.Frames.{is_in_frame}
use Rattle.scratch_commit.specs.Masks.{masks_of}
use Rattle.scratch_commit.specs.Plans.{frame_in, is_short, masks_in}
use Rattle.firmware_parts.specs.Layout.{Layout, Part}
use Rattle.firmware_parts.specs.Layout.Part.{Boot, Taking, Start, Begin, Work, Lock, Open, Copying, Commit, Exit}
use Rattle.event_code.proofs.StateLaws.{state_in-same}
use Rattle.code_story.specs.Arranged.{IsPart, Spares, WrittenBy, is_boot_part, leaves_enables, leaves_page, leaves_states, leaves_told}
use Rattle.firmware_layout.specs.Heard.{heard}
use Rattle.firmware_layout.specs.Laws.{LayoutWrites, layout_with}
use Rattle.firmware_layout.specs.Layouts.{event_level, has_lock, is_changed, is_masked, is_of_work, is_page, is_target, writes_in}
use Rattle.firmware_layout.specs.Pieces.{Makings, kind_of, plan_in}
use Rattle.firmware_layout.specs.Sound.{AreMakings, IsMoveIn, ListsWritten}
use Rattle.firmware_layout.proofs.EventLaws.{is_event, level_few, level_inside}
use Rattle.firmware_layout.proofs.HeardLaws.{is_heard}
use Rattle.firmware_layout.proofs.WriteFacts.{IsCommonSaved, IsFrameByte, IsOutputPort, IsScratchByte, IsStateByte, MaskedTells, cell_class, class_of, class_operand, class_port, frame_class, frame_no_cell, frame_tells, frames_differ, masked_class, masked_tells, page_tells, scratch_below, scratch_class, state_class, states_no_scratch, target_tells, work_tells}

-- A test that can't be true is false; and an address has one class.
never : (b : Bool) → (b ≡ true → ⊥) → b ≡ false
never true denied = absurd (denied refl)
never false denied = refl

clash : (a m n : ℕ) → class_of a ≡ m → class_of a ≡ n → (m == n) ≡ false → ⊥
clash a m n first second differ = let test = eq-eqb m n (sym first ∙ second) in absurd (cc)

-- What a part may write, part by part.
abbrev IsPageOf : Makings → ℕ → Type 0
IsPageOf f a = (f.spread.pages ≡ true) × (a ≡ 0x00A)

abbrev IsWorkByte : Makings → (event : ℕ) → ℕ → Type 0
IsWorkByte f event a = (within 0x074 0x07F a ≡ true) ⊎ IsScratchByte f event a

abbrev IsTarget : Makings → ℕ → Type 0
IsTarget f a = IsStateByte f a ⊎ IsOutputPort f a

abbrev PartTells : Makings → Part → ℕ → Type 0
PartTells f Boot a = Unit {0}
PartTells f Taking a = IsCommonSaved a ⊎ IsPageOf f a
PartTells f (Start e) a = (is_in_frame (frame_in (plan_in f e)) a ≡ true) ⊎ (MaskedTells (plan_in f e) a ⊎ IsWorkByte f e a)
PartTells f (Begin e) a = (a ≡ 0x073) ⊎ IsPageOf f a
PartTells f (Work e) a = IsWorkByte f e a ⊎ IsPageOf f a
PartTells f (Lock e) a = IsPageOf f a
PartTells f (Open e) a = IsTarget f a
PartTells f (Copying e) a = IsTarget f a
PartTells f (Commit e) a = IsTarget f a ⊎ (a ≡ 0x073)
PartTells f (Exit e) a = MaskedTells (plan_in f e) a ⊎ IsPageOf f a

-- The classes that a part may write.
abbrev allowed : Part → ℕ → Bool
allowed Boot n = true
allowed Taking n = n == 2 || n == 6
allowed (Start e) n = n == 1 || n == 2 || n == 4 || n == 5
allowed (Begin e) n = n == 3 || n == 6
allowed (Work e) n = n == 1 || n == 4 || n == 6
allowed (Lock e) n = n == 6
allowed (Open e) n = n == 1 || n == 7
allowed (Copying e) n = n == 1 || n == 7
allowed (Commit e) n = n == 1 || n == 7 || n == 3
allowed (Exit e) n = n == 5 || n == 6

module _ (f : Makings) (program marks : ℕ → ℕ) (m : Map) (made : AreMakings f) where
  abbrev l : Layout
  l = layout_with f program marks m

  abbrev may : Part → ℕ → Bool
  may part a = writes_in f (is_listed m) part a

  -- Where an event's part may write.
  part_tells : (part : Part) (a : ℕ) → IsPart l part → may part a ≡ true → PartTells f part a
  part_tells Boot a is allows = tt
  part_tells Taking a is allows = first (or_cases (a == 0x071 || a == 0x072) (is_page f a) allows)
    where
      second : ((a == 0x071) ≡ true) ⊎ ((a == 0x072) ≡ true) → PartTells f Taking a
      second (inl its) = inl (inl (eqb-true a 0x071 its))
      second (inr its) = inl (inr (eqb-true a 0x072 its))

      first : ((a == 0x071 || a == 0x072) ≡ true) ⊎ (is_page f a ≡ true) → PartTells f Taking a
      first (inl its) = second (or_cases (a == 0x071) (a == 0x072) its)
      first (inr its) = inr (page_tells f a its)
  part_tells (Start e) a is allows =
      first (or_cases (is_in_frame (frame_in (plan_in f e)) a || is_masked (plan_in f e) a) (is_short (kind_of f e) && is_of_work f e a) allows)
    where
      second : (is_in_frame (frame_in (plan_in f e)) a ≡ true) ⊎ (is_masked (plan_in f e) a ≡ true) → PartTells f (Start e) a
      second (inl its) = inl its
      second (inr its) = inr (inl (masked_tells (plan_in f e) a its))

      first : ((is_in_frame (frame_in (plan_in f e)) a || is_masked (plan_in f e) a) ≡ true) ⊎ ((is_short (kind_of f e) && is_of_work f e a) ≡ true) → PartTells f (Start e) a
      first (inl its) = second (or_cases (is_in_frame (frame_in (plan_in f e)) a) (is_masked (plan_in f e) a) its)
      first (inr its) = inr (inr (work_tells f e a (and_parts (is_short (kind_of f e)) (is_of_work f e a) its).1))
  part_tells (Begin e) a is allows = by (or_cases (a == 0x073) (is_page f a) allows)
    where
      by : ((a == 0x073) ≡ true) ⊎ (is_page f a ≡ true) → PartTells f (Begin e) a
      by (inl its) = inl (eqb-true a 0x073 its)
      by (inr its) = inr (page_tells f a its)
  part_tells (Work e) a is allows = by (or_cases (is_of_work f e a) (has_lock f e && is_page f a) allows)
    where
      by : (is_of_work f e a ≡ true) ⊎ ((has_lock f e && is_page f a) ≡ true) → PartTells f (Work e) a
      by (inl its) = inl (work_tells f e a its)
      by (inr its) = inr (page_tells f a (and_parts (has_lock f e) (is_page f a) its).1)
  part_tells (Lock e) a is allows = page_tells f a allows
  part_tells (Open e) a is allows = target_tells f (f.moves e) a (made.works e (is_event f e is)).moves allows
  part_tells (Copying e) a is allows = target_tells f (f.moves e) a (made.works e (is_event f e is)).moves allows
  part_tells (Commit e) a is allows = by (or_cases (is_target (f.moves e) a) (a == 0x073) allows)
    where
      by : (is_target (f.moves e) a ≡ true) ⊎ ((a == 0x073) ≡ true) → PartTells f (Commit e) a
      by (inl its) = inl (target_tells f (f.moves e) a (made.works e (is_event f e is)).moves its)
      by (inr its) = inr (eqb-true a 0x073 its)
  part_tells (Exit e) a is allows = by (or_cases (is_masked (plan_in f e) a) (is_page f a) allows)
    where
      by : (is_masked (plan_in f e) a ≡ true) ⊎ (is_page f a ≡ true) → PartTells f (Exit e) a
      by (inl its) = inl (masked_tells (plan_in f e) a its)
      by (inr its) = inr (page_tells f a its)

  -- The classes of what it may write.
  common_class : (a : ℕ) → IsCommonSaved a → class_of a ≡ 2
  common_class a (inl same) = ap class_of same
  common_class a (inr same) = ap class_of same

  page_class : (a : ℕ) → IsPageOf f a → class_of a ≡ 6
  page_class a its = ap class_of its.1

  port_class : (a : ℕ) → IsOutputPort f a → class_of a ≡ 7
  port_class a its = ap class_of its.is ∙ class_port its.port its.below

  frame_allowed : (e a : ℕ) → e < length f.p.events → (IsCommonSaved a × (levels f.p ≤ level_of f.p e)) ⊎ IsFrameByte f e a → allowed (Start e) (class_of a) ≡ true
  frame_allowed e a real (inl its) = ap (allowed (Start e)) (common_class a its.0)
  frame_allowed e a real (inr its) = ap (allowed (Start e)) (frame_class f made e real a its)

  class_allowed : (part : Part) (a : ℕ) → IsPart l part → PartTells f part a → allowed part (class_of a) ≡ true
  class_allowed Boot a is tells = refl
  class_allowed Taking a is (inl its) = ap (allowed Taking) (common_class a its)
  class_allowed Taking a is (inr its) = ap (allowed Taking) (page_class a its)
  class_allowed (Start e) a is (inl its) = frame_allowed e a (is_event f e is) (frame_tells f e a its)
  class_allowed (Start e) a is (inr (inl its)) = ap (allowed (Start e)) (masked_class (plan_in f e) a its)
  class_allowed (Start e) a is (inr (inr (inl its))) = ap (allowed (Start e)) (class_operand a its)
  class_allowed (Start e) a is (inr (inr (inr its))) = ap (allowed (Start e)) (scratch_class f made e (is_event f e is) a its)
  class_allowed (Begin e) a is (inl its) = ap (λ k. allowed (Begin e) (class_of k)) its
  class_allowed (Begin e) a is (inr its) = ap (allowed (Begin e)) (page_class a its)
  class_allowed (Work e) a is (inl (inl its)) = ap (allowed (Work e)) (class_operand a its)
  class_allowed (Work e) a is (inl (inr its)) = ap (allowed (Work e)) (scratch_class f made e (is_event f e is.0) a its)
  class_allowed (Work e) a is (inr its) = ap (allowed (Work e)) (page_class a its)
  class_allowed (Lock e) a is its = ap (allowed (Lock e)) (page_class a its)
  class_allowed (Open e) a is (inl its) = ap (allowed (Open e)) (state_class f made a its)
  class_allowed (Open e) a is (inr its) = ap (allowed (Open e)) (port_class a its)
  class_allowed (Copying e) a is (inl its) = ap (allowed (Copying e)) (state_class f made a its)
  class_allowed (Copying e) a is (inr its) = ap (allowed (Copying e)) (port_class a its)
  class_allowed (Commit e) a is (inl (inl its)) = ap (allowed (Commit e)) (state_class f made a its)
  class_allowed (Commit e) a is (inl (inr its)) = ap (allowed (Commit e)) (port_class a its)
  class_allowed (Commit e) a is (inr its) = ap (λ k. allowed (Commit e) (class_of k)) its
  class_allowed (Exit e) a is (inl its) = ap (allowed (Exit e)) (masked_class (plan_in f e) a its)
  class_allowed (Exit e) a is (inr its) = ap (allowed (Exit e)) (page_class a its)

  -- So it writes no address of another class.
  bars : (part : Part) (a n : ℕ) → IsPart l part → class_of a ≡ n → allowed part n ≡ false → may part a ≡ false
  bars part a n is class other =
      never (may part a) (λ allows. let ok = sym (ap (allowed part) class) ∙ class_allowed part a is (part_tells part a is allows) in absurd (cc))

  -- States.
  state_barred : (part : Part) (a : ℕ) → IsPart l part → leaves_states part ≡ true → IsStateByte f a → may part a ≡ false
  state_barred Boot a is leaves its = absurd (cc)
  state_barred Taking a is leaves its = bars Taking a 1 is (state_class f made a its) refl
  state_barred (Start e) a is leaves its = never (may (Start e) a) (λ allows. by (part_tells (Start e) a is allows))
    where
      real : e < length f.p.events
      real = is_event f e is

      class : class_of a ≡ 1
      class = state_class f made a its

      of_frame : (IsCommonSaved a × (levels f.p ≤ level_of f.p e)) ⊎ IsFrameByte f e a → ⊥
      of_frame (inl common) = clash a 1 2 class (common_class a common.0) refl
      of_frame (inr own) = let below = its.1 in let placed = made.states in frame_no_cell f made e its.0 real a own (omega (arith, below, placed)) its.2

      by : PartTells f (Start e) a → ⊥
      by (inl own) = of_frame (frame_tells f e a own)
      by (inr (inl masks)) = clash a 1 5 class (masked_class (plan_in f e) a masks) refl
      by (inr (inr (inl operand))) = clash a 1 4 class (class_operand a operand) refl
      by (inr (inr (inr scratch))) = states_no_scratch f made e real a its scratch
  state_barred (Begin e) a is leaves its = bars (Begin e) a 1 is (state_class f made a its) refl
  state_barred (Work e) a is leaves its = never (may (Work e) a) (λ allows. by (part_tells (Work e) a is allows))
    where
      by : PartTells f (Work e) a → ⊥
      by (inl (inl operand)) = clash a 1 4 (state_class f made a its) (class_operand a operand) refl
      by (inl (inr scratch)) = states_no_scratch f made e (is_event f e is.0) a its scratch
      by (inr page) = clash a 1 6 (state_class f made a its) (page_class a page) refl
  state_barred (Lock e) a is leaves its = bars (Lock e) a 1 is (state_class f made a its) refl
  state_barred (Open e) a is leaves its = absurd (cc)
  state_barred (Copying e) a is leaves its = absurd (cc)
  state_barred (Commit e) a is leaves its = absurd (cc)
  state_barred (Exit e) a is leaves its = bars (Exit e) a 1 is (state_class f made a its) refl

  states_stay : (part : Part) → IsPart l part → leaves_states part ≡ true → (before after : ℕ → Byte) → WrittenBy l part before after → l.states after ≡ l.states before
  states_stay part is leaves before after written =
      state_in-same f.p f.need after before (λ cell below. by cell below (written (address_of f.need cell)))
    where
      by : (cell : ℕ) → cell < state_bytes f.p → (after (address_of f.need cell) ≡ before (address_of f.need cell)) ⊎ (may part (address_of f.need cell) ≡ true)
          → after (address_of f.need cell) ≡ before (address_of f.need cell)
      by cell below (inl same) = same
      by cell below (inr allows) = let barred = state_barred part (address_of f.need cell) is leaves (cell, below, refl) in absurd (cc)

  -- What a window would make depends on no byte at PCLATH's address.
  abbrev Agree : (p q : ℕ → Byte) → Type 0
  Agree p q = (a : ℕ) → (a ≡ 0x00A → ⊥) → p a ≡ q a

  no_page : (cell : ℕ) → cell < f.need.states + f.need.scratch → address_of f.need cell ≡ 0x00A → ⊥
  no_page cell below same = clash (address_of f.need cell) 1 6 (cell_class f made cell below) (ap class_of same) refl

  put_same : (to : Place) (x y : Byte) (p q : ℕ → Byte) (a : ℕ) → x ≡ y → p a ≡ q a → put_to to x p a ≡ put_to to y q a
  put_same (place.Plain t) x y p q a same rest = ap₂ (λ b r. if a == t then b else r) same rest
  put_same _ x y p q a same rest = rest

  from_same : (move : Move) (p q : ℕ → Byte) → IsMoveIn f move → Agree p q → byte_from move.from p ≡ byte_from move.from q
  from_same move p q its agree =
      let cell = its.from in
      ap (λ at. byte_from at p) cell.2 ∙ agree (address_of f.need cell.0) (no_page cell.0 cell.1) ∙ sym (ap (λ at. byte_from at q) cell.2)

  move_agrees : (move : Move) (p q : ℕ → Byte) → IsMoveIn f move → Agree p q → Agree (after_move move p) (after_move move q)
  move_agrees move p q its agree a other =
      put_same move.to (byte_from move.from p) (byte_from move.from q) p q a (from_same move p q its agree) (agree a other)

  moves_agree : (moves : List Move) (p q : ℕ → Byte) → AllByRecursion (IsMoveIn f) moves → Agree p q → Agree (after_moves moves p) (after_moves moves q)
  moves_agree [] p q all agree = agree
  moves_agree (move ∷ moves) p q all agree = moves_agree moves (after_move move p) (after_move move q) all.1 (move_agrees move p q all.0 agree)

  puts_agree : (moves : List Move) (p q : ℕ → Byte) → AllByRecursion (IsMoveIn f) moves → Agree p q → puts_by moves p ≡ puts_by moves q
  puts_agree [] p q all agree = refl
  puts_agree (move ∷ moves) p q all agree =
      ap₂ (λ first rest. first ++ rest) (ap (shown_at move.to) (from_same move p q all.0 agree))
      (puts_agree moves (after_move move p) (after_move move q) all.1 (move_agrees move p q all.0 agree))

  lock_agrees : (e : ℕ) (before after : ℕ → Byte) → WrittenBy l (Lock e) before after → Agree after before
  lock_agrees e before after written a other = by (written a)
    where
      by : (after a ≡ before a) ⊎ (is_page f a ≡ true) → after a ≡ before a
      by (inl same) = same
      by (inr page) = absurd (other (page_tells f a page).1)

  next_stays : (e : ℕ) → IsPart l (Lock e) → (before after : ℕ → Byte) → WrittenBy l (Lock e) before after → l.next_of e after ≡ l.next_of e before
  next_stays e is before after written =
      let moves = (made.works e (is_event f e is.0)).moves in
      state_in-same f.p f.need (after_moves (f.moves e) after) (after_moves (f.moves e) before)
      (λ cell below.
      let placed = made.states in
      moves_agree (f.moves e) after before moves (lock_agrees e before after written) (address_of f.need cell) (no_page cell (omega (arith, below, placed))))

  puts_stay : (e : ℕ) → IsPart l (Lock e) → (before after : ℕ → Byte) → WrittenBy l (Lock e) before after → l.puts_of e after ≡ l.puts_of e before
  puts_stay e is before after written = puts_agree (f.moves e) after before (made.works e (is_event f e is.0)).moves (lock_agrees e before after written)

  -- Frames.
  low_level : (x e : ℕ) → 0 < event_level f x → event_level f x < event_level f e → levels f.p ≤ level_of f.p x → ⊥
  low_level x e real above top =
      let own = level_inside f x (is_event f x real) in
      let most = level_few f e in
      omega (arith, own, most, above, top)

  common_barred : (part : Part) (x a : ℕ) → IsPart l part → 0 < event_level f x → Spares l part x → IsCommonSaved a → levels f.p ≤ level_of f.p x → may part a ≡ false
  common_barred Boot x a is real spares common top = absurd spares
  common_barred Taking x a is real spares common top = absurd (low_level x spares.0 real spares.1 top)
  common_barred (Start e) x a is real spares common top = absurd (low_level x e real spares top)
  common_barred (Begin e) x a is real spares common top = bars (Begin e) a 2 is (common_class a common) refl
  common_barred (Work e) x a is real spares common top = bars (Work e) a 2 is (common_class a common) refl
  common_barred (Lock e) x a is real spares common top = bars (Lock e) a 2 is (common_class a common) refl
  common_barred (Open e) x a is real spares common top = bars (Open e) a 2 is (common_class a common) refl
  common_barred (Copying e) x a is real spares common top = bars (Copying e) a 2 is (common_class a common) refl
  common_barred (Commit e) x a is real spares common top = bars (Commit e) a 2 is (common_class a common) refl
  common_barred (Exit e) x a is real spares common top = absurd (low_level x e real spares top)

  module _ (x a : ℕ) (real : 0 < event_level f x) (its : IsFrameByte f x a) where
    class : class_of a ≡ 1
    class = frame_class f made x (is_event f x real) a its

    no_scratch : (e : ℕ) → e < length f.p.events → IsScratchByte f e a → ⊥
    no_scratch e event scratch = frame_no_cell f made x scratch.0 (is_event f x real) a its (scratch_below f made e event a scratch) scratch.3

    no_target : IsTarget f a → ⊥
    no_target (inl state) =
        let below = state.1 in
        let placed = made.states in
        frame_no_cell f made x state.0 (is_event f x real) a its (omega (arith, below, placed)) state.2
    no_target (inr port) = clash a 1 7 class (port_class a port) refl

    no_frame : (e : ℕ) → e < length f.p.events → event_level f x < event_level f e → (IsCommonSaved a × (levels f.p ≤ level_of f.p e)) ⊎ IsFrameByte f e a → ⊥
    no_frame e event above (inl common) = clash a 1 2 class (common_class a common.0) refl
    no_frame e event above (inr own) =
        let same = frames_differ f made x e (is_event f x real) event a its own in
        let first = level_inside f x (is_event f x real) in
        let second = level_inside f e event in
        omega (arith, same, first, second, above)

    no_start : (e : ℕ) → e < length f.p.events → event_level f x < event_level f e → PartTells f (Start e) a → ⊥
    no_start e event above (inl own) = no_frame e event above (frame_tells f e a own)
    no_start e event above (inr (inl masks)) = clash a 1 5 class (masked_class (plan_in f e) a masks) refl
    no_start e event above (inr (inr (inl operand))) = clash a 1 4 class (class_operand a operand) refl
    no_start e event above (inr (inr (inr scratch))) = no_scratch e event scratch

    no_work : (e : ℕ) → e < length f.p.events → PartTells f (Work e) a → ⊥
    no_work e event (inl (inl operand)) = clash a 1 4 class (class_operand a operand) refl
    no_work e event (inl (inr scratch)) = no_scratch e event scratch
    no_work e event (inr page) = clash a 1 6 class (page_class a page) refl

    no_commit : (e : ℕ) → PartTells f (Commit e) a → ⊥
    no_commit e (inl target) = no_target target
    no_commit e (inr told) = clash a 1 3 class (ap class_of told) refl

    frame_barred : (part : Part) → IsPart l part → Spares l part x → may part a ≡ false
    frame_barred Boot is spares = absurd spares
    frame_barred Taking is spares = bars Taking a 1 is class refl
    frame_barred (Start e) is spares = never (may (Start e) a) (λ allows. no_start e (is_event f e is) spares (part_tells (Start e) a is allows))
    frame_barred (Begin e) is spares = bars (Begin e) a 1 is class refl
    frame_barred (Work e) is spares = never (may (Work e) a) (λ allows. no_work e (is_event f e is.0) (part_tells (Work e) a is allows))
    frame_barred (Lock e) is spares = bars (Lock e) a 1 is class refl
    frame_barred (Open e) is spares = never (may (Open e) a) (λ allows. no_target (part_tells (Open e) a is allows))
    frame_barred (Copying e) is spares = never (may (Copying e) a) (λ allows. no_target (part_tells (Copying e) a is allows))
    frame_barred (Commit e) is spares = never (may (Commit e) a) (λ allows. no_commit e (part_tells (Commit e) a is allows))
    frame_barred (Exit e) is spares = bars (Exit e) a 1 is class refl

  frames_stay : (part : Part) (x a : ℕ) → IsPart l part → 0 < event_level f x → Spares l part x → is_in_frame (frame_in (plan_in f x)) a ≡ true → may part a ≡ false
  frames_stay part x a is real spares inside = by (frame_tells f x a inside)
    where
      by : (IsCommonSaved a × (levels f.p ≤ level_of f.p x)) ⊎ IsFrameByte f x a → may part a ≡ false
      by (inl common) = common_barred part x a is real spares common.0 common.1
      by (inr own) = frame_barred x a real own part is spares

  -- Enables, 73h and PCLATH.
  no_enables : (part : Part) → leaves_enables part ≡ true → allowed part 5 ≡ false
  no_enables Boot leaves = absurd (cc)
  no_enables (Start e) leaves = absurd (cc)
  no_enables (Exit e) leaves = absurd (cc)
  no_enables Taking leaves = refl
  no_enables (Begin e) leaves = refl
  no_enables (Work e) leaves = refl
  no_enables (Lock e) leaves = refl
  no_enables (Open e) leaves = refl
  no_enables (Copying e) leaves = refl
  no_enables (Commit e) leaves = refl

  no_told : (part : Part) → leaves_told part ≡ true → allowed part 3 ≡ false
  no_told Boot leaves = absurd (cc)
  no_told (Begin e) leaves = absurd (cc)
  no_told (Commit e) leaves = absurd (cc)
  no_told Taking leaves = refl
  no_told (Start e) leaves = refl
  no_told (Work e) leaves = refl
  no_told (Lock e) leaves = refl
  no_told (Open e) leaves = refl
  no_told (Copying e) leaves = refl
  no_told (Exit e) leaves = refl

  no_pages : (part : Part) → leaves_page part ≡ true → allowed part 6 ≡ false
  no_pages (Open e) leaves = refl
  no_pages (Copying e) leaves = refl
  no_pages (Commit e) leaves = refl
  no_pages Boot leaves = absurd (cc)
  no_pages Taking leaves = absurd (cc)
  no_pages (Start e) leaves = absurd (cc)
  no_pages (Begin e) leaves = absurd (cc)
  no_pages (Work e) leaves = absurd (cc)
  no_pages (Lock e) leaves = absurd (cc)
  no_pages (Exit e) leaves = absurd (cc)

  -- Registers that are set up, but for ports.
  no_setups : (part : Part) → is_boot_part part ≡ false → allowed part 8 ≡ false
  no_setups Boot other = absurd (cc)
  no_setups Taking other = refl
  no_setups (Start e) other = refl
  no_setups (Begin e) other = refl
  no_setups (Work e) other = refl
  no_setups (Lock e) other = refl
  no_setups (Open e) other = refl
  no_setups (Copying e) other = refl
  no_setups (Commit e) other = refl
  no_setups (Exit e) other = refl

-- What can be set up, but for ports, is of no class that parts write.
abbrev port_or_other : ℕ → Bool
port_or_other a = within 5 9 a || class_of a == 8

all_other : list_all (λ (entry : List ℕ × ℕ). port_or_other entry.1) setup_registers ≡ true
all_other = refl

other_of : (a : ℕ) (name : List ℕ) → register_at name ≡ Some a → within 5 9 a ≡ false → class_of a ≡ 8
other_of a name is no_port =
    let each = register_all (λ k. port_or_other k ≡ true) name (each-true (λ (entry : List ℕ × ℕ). port_or_other entry.1) setup_registers all_other) in
    let own : port_or_other a ≡ true = subst (λ o. IfSome o (λ k. port_or_other k ≡ true)) is each in
    eqb-true (class_of a) 8 (by (or_cases (within 5 9 a) (class_of a == 8) own))
  where
    by : (within 5 9 a ≡ true) ⊎ ((class_of a == 8) ≡ true) → (class_of a == 8) ≡ true
    by (inl port) = absurd (cc)
    by (inr other) = other

named_by : (a byte : ℕ) (s : Setup) → setup_byte s a ≡ Some byte → register_at s.register ≡ Some a
named_by a byte s is = by (register_at s.register) refl is
  where
    at_place : (k : ℕ) (b : Bool) → (k == a) ≡ b → (if b then Some s.byte else None) ≡ Some byte → k ≡ a
    at_place k true same here = eqb-true k a same
    at_place k false other here = absurd (none-some byte here)

    by : (o : Option ℕ) → register_at s.register ≡ o → elim o [ Some k ↦ (if k == a then Some s.byte else None) | None ↦ None ] ≡ Some byte → register_at s.register ≡ Some a
    by None at here = absurd (none-some byte here)
    by (Some k) at here = at ∙ ap (λ (n : ℕ). Some n) (at_place k (k == a) refl here)

set_up_named : (ss : List Setup) (a byte : ℕ) → last_setup ss a ≡ Some byte → (name : List ℕ) × (register_at name ≡ Some a)
set_up_named [] a byte is = absurd (none-some byte is)
set_up_named (s ∷ ss) a byte is = by (last_setup ss a) refl (set_up_named ss a) is
  where
    by : (o : Option ℕ) → last_setup ss a ≡ o → ((k : ℕ) → last_setup ss a ≡ Some k → (name : List ℕ) × (register_at name ≡ Some a))
        → elim o [ Some k ↦ Some k | None ↦ setup_byte s a ] ≡ Some byte → (name : List ℕ) × (register_at name ≡ Some a)
    by (Some k) at rest here = rest k at
    by None at rest here = (s.register, named_by a byte s here)

pub setup_class : (ss : List Setup) (a byte : ℕ) → within 5 9 a ≡ false → last_setup ss a ≡ Some byte → class_of a ≡ 8
setup_class ss a byte no_port is = let its = set_up_named ss a byte is in other_of a its.0 its.1 no_port

-- A register of enables that isn't listed has no enable, so that no bit of it is cleared.
no_change : (idle own : ℕ) → bits idle ≡ zeros → bits own ≡ zeros → is_changed (num (bit_by_bit (λ p q. if p then not q else q) (bits idle) (bits own))) ≡ false
no_change idle own first second =
    ap (λ x. is_changed (num (bit_by_bit (λ p q. if p then not q else q) x (bits own)))) first
    ∙ ap (λ x. is_changed (num (bit_by_bit (λ p q. if p then not q else q) zeros x))) second

pie1_of : (i o b : Enables) → bits i.pie1 ≡ zeros → bits o.pie1 ≡ zeros → is_changed (masks_of (record { idle = i; own = o; beneath = b })).pie1.cleared ≡ false
pie1_of i o b first second = by (bit 6 (bits o.intcon)) refl
  where
    by : (c : Bool) → bit 6 (bits o.intcon) ≡ c → is_changed (masks_of (record { idle = i; own = o; beneath = b })).pie1.cleared ≡ false
    by true is = rw is (no_change i.pie1 o.pie1 first second)
    by false is = rw is refl

pie2_of : (i o b : Enables) → bits i.pie2 ≡ zeros → bits o.pie2 ≡ zeros → is_changed (masks_of (record { idle = i; own = o; beneath = b })).pie2.cleared ≡ false
pie2_of i o b first second = by (bit 6 (bits o.intcon)) refl
  where
    by : (c : Bool) → bit 6 (bits o.intcon) ≡ c → is_changed (masks_of (record { idle = i; own = o; beneath = b })).pie2.cleared ≡ false
    by true is = rw is (no_change i.pie2 o.pie2 first second)
    by false is = rw is refl

module _ (f : Makings) (program marks : ℕ → ℕ) (m : Map) (made : AreMakings f) (lists : ListsWritten f m) where
  pie1_in : (e : ℕ) → is_listed m 0x08C ≡ false → is_changed (masks_in (plan_in f e)).pie1.cleared ≡ false
  pie1_in e none = by (is_short (kind_of f e)) refl
    where
      idle_none : bits (heard f.p 0).pie1 ≡ zeros
      idle_none = lists.pie1 none 0 (heard f.p 0).pie1 (is_heard f.p 0).pie1

      own_none : bits (heard f.p (level_of f.p e)).pie1 ≡ zeros
      own_none = lists.pie1 none (level_of f.p e) (heard f.p (level_of f.p e)).pie1 (is_heard f.p (level_of f.p e)).pie1

      by : (c : Bool) → is_short (kind_of f e) ≡ c → is_changed (masks_in (plan_in f e)).pie1.cleared ≡ false
      by true is = rw is refl
      by false is = rw is (pie1_of (heard f.p 0) (heard f.p (level_of f.p e)) (heard f.p (level_of f.p e - 1)) idle_none own_none)

  pie2_in : (e : ℕ) → is_listed m 0x08D ≡ false → is_changed (masks_in (plan_in f e)).pie2.cleared ≡ false
  pie2_in e none = by (is_short (kind_of f e)) refl
    where
      idle_none : bits (heard f.p 0).pie2 ≡ zeros
      idle_none = lists.pie2 none 0 (heard f.p 0).pie2 (is_heard f.p 0).pie2

      own_none : bits (heard f.p (level_of f.p e)).pie2 ≡ zeros
      own_none = lists.pie2 none (level_of f.p e) (heard f.p (level_of f.p e)).pie2 (is_heard f.p (level_of f.p e)).pie2

      by : (c : Bool) → is_short (kind_of f e) ≡ c → is_changed (masks_in (plan_in f e)).pie2.cleared ≡ false
      by true is = rw is refl
      by false is = rw is (pie2_of (heard f.p 0) (heard f.p (level_of f.p e)) (heard f.p (level_of f.p e - 1)) idle_none own_none)

  -- What parts write is listed.
  at_place : (a b : ℕ) → a ≡ b → is_listed m b ≡ true → is_listed m a ≡ true
  at_place a b same listed = ap (λ k. is_listed m k) same ∙ listed

  common_listed : (a : ℕ) → IsCommonSaved a → is_listed m a ≡ true
  common_listed a (inl same) = at_place a 0x071 same (lists.common 0x071 refl)
  common_listed a (inr same) = at_place a 0x072 same (lists.common 0x072 refl)

  told_listed : (a : ℕ) → a ≡ 0x073 → is_listed m a ≡ true
  told_listed a same = at_place a 0x073 same (lists.common 0x073 refl)

  page_listed : (a : ℕ) → IsPageOf f a → is_listed m a ≡ true
  page_listed a its = at_place a 0x00A its.1 (lists.pclath its.0)

  unless : (b : Bool) (c : Bool) → (b ≡ false → c ≡ false) → c ≡ true → b ≡ true
  unless true c never set = refl
  unless false c never set = absurd (let off = never refl in cc)

  masked_listed : (e a : ℕ) → MaskedTells (plan_in f e) a → is_listed m a ≡ true
  masked_listed e a (inl its) = at_place a 0x00B its.0 lists.intcon
  masked_listed e a (inr (inl its)) = at_place a 0x08C its.0 (unless (is_listed m 0x08C) (is_changed (masks_in (plan_in f e)).pie1.cleared) (pie1_in e) its.1)
  masked_listed e a (inr (inr its)) = at_place a 0x08D its.0 (unless (is_listed m 0x08D) (is_changed (masks_in (plan_in f e)).pie2.cleared) (pie2_in e) its.1)

  operand_listed : (a : ℕ) → within 0x074 0x07F a ≡ true → is_listed m a ≡ true
  operand_listed a inside =
      let both = and_parts (nat_le 0x074 a) (nat_le a 0x07F) inside in
      let low = leb-true 0x074 a both.0 in
      lists.common a (and_from (nat_le 0x071 a) (nat_le a 0x07F) (le-leb 0x071 a (omega (arith, low))) both.1)

  work_listed : (e a : ℕ) → e < length f.p.events → IsWorkByte f e a → is_listed m a ≡ true
  work_listed e a real (inl operand) = operand_listed a operand
  work_listed e a real (inr scratch) = at_place a (address_of f.need scratch.0) scratch.3 (lists.cells e scratch.0 real scratch.2)

  target_listed : (a : ℕ) → IsTarget f a → is_listed m a ≡ true
  target_listed a (inl state) = at_place a (address_of f.need state.0) state.2 (lists.states state.0 state.1)
  target_listed a (inr out) = at_place a (5 + out.port) out.is (lists.outputs out.number out.output out.port out.stands out.named)

  part_listed : (part : Part) (a : ℕ) → IsPart (layout_with f program marks m) part → writes_in f (is_listed m) part a ≡ true → PartTells f part a → is_listed m a ≡ true
  part_listed Boot a is allows tells = allows
  part_listed Taking a is allows (inl its) = common_listed a its
  part_listed Taking a is allows (inr its) = page_listed a its
  part_listed (Start e) a is allows (inl its) = lists.frames e a (is_event f e is) its
  part_listed (Start e) a is allows (inr (inl its)) = masked_listed e a its
  part_listed (Start e) a is allows (inr (inr its)) = work_listed e a (is_event f e is) its
  part_listed (Begin e) a is allows (inl its) = told_listed a its
  part_listed (Begin e) a is allows (inr its) = page_listed a its
  part_listed (Work e) a is allows (inl its) = work_listed e a (is_event f e is.0) its
  part_listed (Work e) a is allows (inr its) = page_listed a its
  part_listed (Lock e) a is allows its = page_listed a its
  part_listed (Open e) a is allows its = target_listed a its
  part_listed (Copying e) a is allows its = target_listed a its
  part_listed (Commit e) a is allows (inl its) = target_listed a its
  part_listed (Commit e) a is allows (inr its) = told_listed a its
  part_listed (Exit e) a is allows (inl its) = masked_listed e a its
  part_listed (Exit e) a is allows (inr its) = page_listed a its

pub layout-writes : (f : Makings) (program marks : ℕ → ℕ) (m : Map) → LayoutWrites f program marks m
layout-writes f program marks m made named =
    let lists = named.lists in
    record {
      states = states_stay f program marks m made;
      next = next_stays f program marks m made;
      puts = puts_stay f program marks m made;
      frames = frames_stay f program marks m made;
      enables = λ part is leaves. (
        bars f program marks m made part 0x00B 5 is refl (no_enables f program marks m made part leaves),
        bars f program marks m made part 0x08C 5 is refl (no_enables f program marks m made part leaves),
        bars f program marks m made part 0x08D 5 is refl (no_enables f program marks m made part leaves),
      );
      told = λ part is leaves. bars f program marks m made part 0x073 3 is refl (no_told f program marks m made part leaves);
      page = λ part is leaves. bars f program marks m made part 0x00A 6 is refl (no_pages f program marks m made part leaves);
      set_up = λ a byte no_port set part is other. bars f program marks m made part a 8 is (setup_class f.p.setups a byte no_port set) (no_setups f program marks m made part other);
      listed = λ part a is allows. part_listed f program marks m made lists part a is allows (part_tells f program marks m made part a is allows);
      status_listed = lists.status;
      intcon_listed = lists.intcon;
      flags_listed = λ e real. lists.flags e (is_event f e real);
    }
