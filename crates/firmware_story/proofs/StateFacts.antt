-- The window of an event's run makes the states, and puts the bytes, that the layout says.
use Rattle.std.proofs.Common.{◌≡◌, ℕ, ◌+◌, ◌<◌, true, false, List, [], ◌∷◌, if◌then◌else◌, length, refl, sym, ap, subst, ◌∙◌, arith, inl, inr}
use Rattle.std.specs.Prelude.{◌⊎◌}
use Rattle.std.specs.List.{AllByRecursion}
use Rattle.std.proofs.lemmas.Bool.{ne_eqb}
use Rattle.efrp_meaning.specs.Bounds.{state_bytes}
use Rattle.event_ops.proofs.PortLaws.{small-port}
use Rattle.pic_regs.specs.declared.places.Place.{Place}
use Rattle.pic_regs.specs.Bytes.{Byte, updated}
use Rattle.pic_regs.specs.Map.{Plain}
use Rattle.pic_regs.specs.Places.{reg_of}
use Rattle.map_file.specs.declared.maps.Map.{Map}
use Rattle.bank_alloc.specs.Addresses.{address_of, is_general}
use Rattle.bank_alloc.proofs.AddressLaws.{addresses-general}
use Rattle.glue_steps.specs.Still.{is_glue_reg}
use Rattle.glue_parts.specs.Places.{IsNumbered, may_be_written}
use Rattle.glue_parts.specs.declared.moves.Move.{Move}
use Rattle.isr_vector.proofs.BootLaws.{cells_can}
use Rattle.run_steps.specs.Deeds.{MoveFits}
use Rattle.run_steps.specs.Premises.{MakesStates}
use Rattle.event_code.specs.States.{state_in}
use Rattle.event_code.proofs.StateLaws.{state_in-same}
use Rattle.firmware_layout.specs.Laws.{layout_with}
use Rattle.firmware_layout.specs.Pieces.{Makings, plan_in}
use Rattle.firmware_layout.specs.Sound.{AreMakings, IsCellBelow, IsMoveIn, IsOutput}

module _ (f : Makings) (program marks : ℕ → ℕ) (m : Map) (making : AreMakings f) (e : ℕ) (real : e < length f.p.events) where
  cell_numbered : (cell : ℕ) → cell < f.need.states + f.need.scratch → IsNumbered (Plain (address_of f.need cell))
  cell_numbered cell below = (cells_can f.need cell (0 ∷ []) making.bytes (omega (arith, below))).0.numbered

  -- A register that a move writes.
  record FitsTo (at : Place) : Type 0 where
    numbered : IsNumbered (reg_of at)
    written : may_be_written (reg_of at) ≡ true
    glue : is_glue_reg (reg_of at) ≡ true

  target_fits : (at : Place) → IsCellBelow f (state_bytes f.p) at ⊎ IsOutput f at → FitsTo at
  target_fits at (inl its) =
      let below = its.1 in
      let placed = making.states in
      subst FitsTo (sym its.2) (record { numbered = cell_numbered its.0 (omega (arith, below, placed)); written = refl; glue = refl })
  target_fits at (inr its) =
      let small = small-port its.1.port its.2 its.4 in
      subst FitsTo (sym its.5) (record { numbered = (let below : its.2 < 5 = omega (arith, small) in below); written = refl; glue = refl })

  move_fits : (move : Move) → IsMoveIn f move → MoveFits move
  move_fits move its =
      let from = its.from in
      let cell = cell_numbered from.0 from.1 in
      let to = target_fits move.to its.to in
      record { address = address_of f.need from.0; from = from.2; below = cell.0; there = cell.1; numbered = to.numbered; written = to.written; glue = to.glue }

  moves_fit : (moves : List Move) → AllByRecursion (IsMoveIn f) moves → AllByRecursion MoveFits moves
  moves_fit [] all = tt
  moves_fit (move ∷ moves) all = (move_fits move all.0, moves_fit moves all.1)

  -- No cell of a state lies at 73h.
  untold : (plain : ℕ → Byte) (x : Byte) → state_in f.p f.need (updated plain 0x073 x) ≡ state_in f.p f.need plain
  untold plain x =
      state_in-same f.p f.need (updated plain 0x073 x) plain
      (λ cell below. ap (λ b. if b then x else plain (address_of f.need cell)) (ne_eqb (address_of f.need cell) 0x073 (elsewhere cell below)))
    where
      elsewhere : (cell : ℕ) → cell < state_bytes f.p → address_of f.need cell ≡ 0x073 → ⊥
      elsewhere cell below same =
          let placed = making.states in
          let general = addresses-general f.need making.bytes cell (omega (arith, below, placed)) in
          let clash : true ≡ false = sym general ∙ ap is_general same in absurd (cc)

  pub makes_states : MakesStates (layout_with f program marks m) e (plan_in f e)
  makes_states = record { fit = moves_fit (f.moves e) (making.works e real).moves; next = λ plain. refl; puts = λ plain. refl; untold = untold }
