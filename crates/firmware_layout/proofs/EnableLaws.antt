-- At a level exactly the sources of the events above it are heard.
use Rattle.std.proofs.Common.{◌≡◌, ℕ, ◌<◌, ◌==◌, ◌||◌, true, if◌then◌else◌, refl, sym, ap, subst, ◌∙◌, arith, inl, inr, lit<}
use Rattle.std.specs.Int.{bit_at}
use Rattle.std.proofs.lemmas.Bool.{and_from, and_parts, eqb-true}
use Rattle.frp_tree.specs.Tree.{ProgramTree}
use Rattle.pic_isa.specs.declared.sources.Source.{Source}
use Rattle.pic_isa.specs.declared.sources.Source.TheVariants.{T0, Int, Psp, Ad, Ssp, Ccp1, Tmr2, Tmr1, Ee, Bcl, Ccp2}
use Rattle.pic_isa.specs.declared.sources.BitAt.{BitAt}
use Rattle.pic_isa.specs.Sources.{enable_of}
use Rattle.pic_regs.specs.Bytes.{bit, bits}
use Rattle.pic_regs.specs.Registers.{bit_of}
use Rattle.pic_regs.proofs.BitLaws.{bit-bits}
use Rattle.map_file.specs.declared.maps.Map.{Map}
use Rattle.priority_masks.specs.declared.tables.Enables.{Enables}
use Rattle.priority_masks.specs.Levels.{IsAbove}
use Rattle.firmware_promises.specs.Urgent.{is_in_intcon}
use Rattle.glue_parts.specs.Heard.{IsHeardAt, IsPeripheral}
use Rattle.code_story.specs.Arranged.{is_heard_by}
use Rattle.firmware_layout.specs.Heard.{heard}
use Rattle.firmware_layout.specs.Laws.{LayoutEnables}
use Rattle.firmware_layout.specs.Pieces.{Makings}
use Rattle.firmware_layout.proofs.EventLaws.{is_event, level_inside, source_is}
use Rattle.firmware_layout.proofs.HeardLaws.{is_heard}

-- Where a bit of a byte is 1 it is set, and the other way round.
set : (n k : ℕ) → k < 8 → bit_at n k ≡ 1 → bit k (bits n) ≡ true
set n k inside one = bit-bits k n inside ∙ ap (λ m. m == 1) one

one : (n k : ℕ) → k < 8 → bit k (bits n) ≡ true → bit_at n k ≡ 1
one n k inside set = eqb-true (bit_at n k) 1 (sym (bit-bits k n inside) ∙ set)

-- The source whose enable stands at a place.
abbrev enabled_at : BitAt → Source
enabled_at b =
    if b.address == 0x00B then (if b.bit == 5 then T0 else Int)
    else if b.address == 0x08C then (if b.bit == 7 then Psp else if b.bit == 6 then Ad else if b.bit == 3 then Ssp else if b.bit == 2 then Ccp1 else if b.bit == 1 then Tmr2 else Tmr1)
    else if b.bit == 4 then Ee
    else if b.bit == 3 then Bcl
    else Ccp2

its_enable : (source : Source) → enabled_at (enable_of source) ≡ source
its_enable T0 = refl
its_enable _ = refl

one_enable : (s t : Source) → enable_of s ≡ enable_of t → s ≡ t
one_enable s t same = sym (its_enable s) ∙ ap enabled_at same ∙ its_enable t

module _ (p : ProgramTree) (level : ℕ) (e : Enables) (its : IsHeardAt p level e) where
  peie : (source : Source) → IsAbove p level source → IsPeripheral source → bit 6 (bits e.intcon) ≡ true
  peie source above peripheral = set e.intcon 6 (lit< tt) (its.peie.1 (source, peripheral, above))

  own_bit : (source : Source) → IsAbove p level source → bit_of source (bit 5 (bits e.intcon)) (bit 4 (bits e.intcon)) (bits e.pie1) (bits e.pie2) ≡ true
  own_bit T0 above = set e.intcon 5 (lit< tt) ((its.intcon 5 (λ same. absurd (cc))).1 (T0, refl, above))
  own_bit Int above = set e.intcon 4 (lit< tt) ((its.intcon 4 (λ same. absurd (cc))).1 (Int, refl, above))
  own_bit Psp above = set e.pie1 7 (lit< tt) ((its.pie1 7).1 (Psp, refl, above))
  own_bit Ad above = set e.pie1 6 (lit< tt) ((its.pie1 6).1 (Ad, refl, above))
  own_bit Ssp above = set e.pie1 3 (lit< tt) ((its.pie1 3).1 (Ssp, refl, above))
  own_bit Ccp1 above = set e.pie1 2 (lit< tt) ((its.pie1 2).1 (Ccp1, refl, above))
  own_bit Tmr2 above = set e.pie1 1 (lit< tt) ((its.pie1 1).1 (Tmr2, refl, above))
  own_bit Tmr1 above = set e.pie1 0 (lit< tt) ((its.pie1 0).1 (Tmr1, refl, above))
  own_bit Ee above = set e.pie2 4 (lit< tt) ((its.pie2 4).1 (Ee, refl, above))
  own_bit Bcl above = set e.pie2 3 (lit< tt) ((its.pie2 3).1 (Bcl, refl, above))
  own_bit Ccp2 above = set e.pie2 0 (lit< tt) ((its.pie2 0).1 (Ccp2, refl, above))

  needed : (source : Source) → IsAbove p level source → (is_in_intcon source || bit 6 (bits e.intcon)) ≡ true
  needed T0 above = refl
  needed Int above = refl
  needed Ee above = peie Ee above (inr refl)
  needed Bcl above = peie Bcl above (inr refl)
  needed Ccp2 above = peie Ccp2 above (inr refl)
  needed Psp above = peie Psp above (inl refl)
  needed Ad above = peie Ad above (inl refl)
  needed Ssp above = peie Ssp above (inl refl)
  needed Ccp1 above = peie Ccp1 above (inl refl)
  needed Tmr2 above = peie Tmr2 above (inl refl)
  needed Tmr1 above = peie Tmr1 above (inl refl)

  heard_above : (source : Source) → IsAbove p level source → is_heard_by e source ≡ true
  heard_above source above =
      and_from (bit_of source (bit 5 (bits e.intcon)) (bit 4 (bits e.intcon)) (bits e.pie1) (bits e.pie2)) (is_in_intcon source || bit 6 (bits e.intcon))
      (own_bit source above) (needed source above)

  found : (source : Source) → ((other : Source) × (enable_of other ≡ enable_of source) × IsAbove p level other) → IsAbove p level source
  found source there = subst (IsAbove p level) (one_enable there.0 source there.1) there.2

  above_of_bit : (source : Source) → bit_of source (bit 5 (bits e.intcon)) (bit 4 (bits e.intcon)) (bits e.pie1) (bits e.pie2) ≡ true → IsAbove p level source
  above_of_bit T0 on = found T0 ((its.intcon 5 (λ same. absurd (cc))).0 (one e.intcon 5 (lit< tt) on))
  above_of_bit Int on = found Int ((its.intcon 4 (λ same. absurd (cc))).0 (one e.intcon 4 (lit< tt) on))
  above_of_bit Psp on = found Psp ((its.pie1 7).0 (one e.pie1 7 (lit< tt) on))
  above_of_bit Ad on = found Ad ((its.pie1 6).0 (one e.pie1 6 (lit< tt) on))
  above_of_bit Ssp on = found Ssp ((its.pie1 3).0 (one e.pie1 3 (lit< tt) on))
  above_of_bit Ccp1 on = found Ccp1 ((its.pie1 2).0 (one e.pie1 2 (lit< tt) on))
  above_of_bit Tmr2 on = found Tmr2 ((its.pie1 1).0 (one e.pie1 1 (lit< tt) on))
  above_of_bit Tmr1 on = found Tmr1 ((its.pie1 0).0 (one e.pie1 0 (lit< tt) on))
  above_of_bit Ee on = found Ee ((its.pie2 4).0 (one e.pie2 4 (lit< tt) on))
  above_of_bit Bcl on = found Bcl ((its.pie2 3).0 (one e.pie2 3 (lit< tt) on))
  above_of_bit Ccp2 on = found Ccp2 ((its.pie2 0).0 (one e.pie2 0 (lit< tt) on))

  above_heard : (source : Source) → is_heard_by e source ≡ true → IsAbove p level source
  above_heard source on =
      above_of_bit source
      (and_parts (bit_of source (bit 5 (bits e.intcon)) (bit 4 (bits e.intcon)) (bits e.pie1) (bits e.pie2)) (is_in_intcon source || bit 6 (bits e.intcon)) on).0

pub layout-enables : (f : Makings) (program marks : ℕ → ℕ) (m : Map) → LayoutEnables f program marks m
layout-enables f program marks m made = record {
  heard = λ level x is_level above.
      let inside = is_event f x (omega (arith, above)) in
      let own = level_inside f x inside in
      heard_above f.p level (heard f.p level) (is_heard f.p level) (f.source x) (x, inside, made.sources x inside, omega (arith, own, above));
  only = λ level source is_level on.
      let its = above_heard f.p level (heard f.p level) (is_heard f.p level) source on in
      let own = level_inside f its.0 its.1 in
      let above = its.3 in
      (its.0, source_is f made its.0 source its.1 its.2, omega (arith, own, above));
}
