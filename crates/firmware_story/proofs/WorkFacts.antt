-- The work of each event does what is asked of it, in the layout.
use Rattle.std.proofs.Common.{◌≡◌, ℕ, ◌+◌, ◌-◌, ◌*◌, ◌<◌, ◌≤◌, ◌==◌, ◌&&◌, true, false, nat_le, nat_lt, if◌then◌else◌, length, refl, sym, ap, subst, ◌∙◌, arith}
use Rattle.std.proofs.lemmas.Bool.{and_from, eq-eqb, le-leb, lt-ltb, ltb-false, or_left, or_right}
use Rattle.efrp_meaning.specs.Bounds.{body, levels, state_bytes}
use Rattle.efrp_types.specs.Numbers.{event_name}
use Rattle.efrp_types.proofs.GoodLaws.{no-fault-is-good}
use Rattle.pic_regs.specs.Map.{within}
use Rattle.map_file.specs.declared.maps.Map.{Map}
use Rattle.bank_alloc.specs.Addresses.{address_of, place_of}
use Rattle.bank_alloc.specs.Needs.{bytes_of}
use Rattle.priority_masks.proofs.LevelLaws.{levels-rise}
use Rattle.core_story.specs.Values.{name_at}
use Rattle.event_ops.specs.Works.{Works}
use Rattle.glue_parts.specs.Moves.{puts_by}
use Rattle.firmware_parts.specs.Layout.{Layout}
use Rattle.firmware_parts.specs.Work.{DoesWork}
use Rattle.event_code.specs.Laws.{KeepsCells}
use Rattle.event_code.specs.Moves.{next_by}
use Rattle.event_code.proofs.WorkLaws.{does_event_work}
use Rattle.firmware_layout.specs.Laws.{layout_with}
use Rattle.firmware_layout.specs.Layouts.{has_lock, is_of_work, is_page, is_scratch}
use Rattle.firmware_layout.specs.Made.{DoesEvent, IsMade}
use Rattle.firmware_layout.specs.Pieces.{Makings}
use Rattle.firmware_layout.specs.Sound.{AreMakings, IsMapIn}
use Rattle.firmware_layout.proofs.RangeLaws.{some_in_range}
use Rattle.firmware_layout.proofs.StateLaws.{name_is}
use Rattle.firmware_story.proofs.PlanFacts.{locked_is_below}

-- The first 80 bytes lie in bank 0.
low_address : (f : Makings) → bytes_of f.need ≤ 80 → (cell : ℕ) → cell < f.need.states + f.need.scratch → address_of f.need cell < 128
low_address f few cell below =
    let before : nat_lt cell (f.need.states + f.need.scratch) ≡ true = lt-ltb cell (f.need.states + f.need.scratch) below in
    let at : place_of f.need cell ≡ 6 * f.need.levels + cell =
    ap (λ b. if b then 6 * f.need.levels + cell else cell - (f.need.states + f.need.scratch)) before in
    let near : nat_lt (place_of f.need cell) 80 ≡ true = lt-ltb (place_of f.need cell) 80 (omega (arith, at, few, below)) in
    let there : address_of f.need cell ≡ 0x020 + place_of f.need cell =
    ap (λ b. if b then 0x020 + place_of f.need cell
    else if nat_lt (place_of f.need cell) 160 then 0x0A0 + (place_of f.need cell - 80)
    else if nat_lt (place_of f.need cell) 256 then 0x110 + (place_of f.need cell - 160)
    else 0x190 + (place_of f.need cell - 256)) near in
    omega (arith, there, at, few, below)

module _ (f : Makings) (program marks : ℕ → ℕ) (m : Map) (made : IsMade f) (making : AreMakings f) (map_in : IsMapIn f marks m) (e : ℕ) (real : e < length f.p.events) where
  abbrev l : Layout
  l = layout_with f program marks m

  does : DoesEvent f e
  does = made.events e real

  named : name_at m e ≡ event_name f.p e
  named = name_is f m map_in.events e

  placed : does.ops.cells ≤ f.need.states + f.need.scratch
  placed = let own = (making.works e real).cells in let same = does.cells in omega (arith, own, same)

  -- Where the work has a lock there are several levels; where no taking saves the bank bits then, all bytes lie in bank 0.
  low : has_lock f e ≡ true → (nat_lt 1 (levels f.p) && f.spread.banks) ≡ false → (cell : ℕ) → cell < does.ops.cells → address_of f.need cell < 128
  low locked saves cell below =
      let beneath = locked_is_below f e locked in
      let from = (levels-rise f.p).from_one e real in
      let several : nat_lt 1 (levels f.p) ≡ true = lt-ltb 1 (levels f.p) (omega (arith, beneath, from)) in
      let in_one : nat_lt 80 (bytes_of f.need) ≡ false = sym made.banks ∙ sym (ap (λ b. b && f.spread.banks) several) ∙ saves in
      low_address f (ltb-false 80 (bytes_of f.need) in_one) cell (omega (arith, below, placed))

  keeps : KeepsCells f.p f.need does.ops l e
  keeps = record {
    states = λ plain. refl;
    next = λ plain. ap (λ moves. next_by f.p f.need moves plain) does.moves;
    puts = λ plain. ap (λ moves. puts_by moves plain) does.moves;
    operands = λ address its.
        let to = its.1 in
        or_left (is_of_work f e address) (has_lock f e && is_page f address)
        (or_left (within 0x074 0x07F address) (is_scratch f e address)
        (and_from (nat_le 0x074 address) (nat_le address 0x07F) (le-leb 0x074 address its.0) (le-leb address 0x07F (omega (arith, to)))));
    scratch = λ cell from to.
        let address : ℕ = address_of f.need cell in
        let cells = does.cells in
        or_left (is_of_work f e address) (has_lock f e && is_page f address)
        (or_right (within 0x074 0x07F address) (is_scratch f e address)
        (some_in_range (λ other. address_of f.need other == address) (state_bytes f.p) (f.cells e - state_bytes f.p) cell from (omega (arith, from, to, cells)) (eq-eqb address address refl)));
    low = low;
  }

  pub does_work : DoesWork f.p m (layout_with f program marks m) (body f.p (name_at m e)) (f.bank e) e (f.work e)
  does_work =
      does_event_work f.p m f.need does.ops l e (f.bank e) (f.work e) (no-fault-is-good f.p making.passes.checked.names).decls_differ
      (subst (λ name. Works f.p name does.ops) (sym named) does.works) making.bytes (omega (arith, placed)) does.code keeps
