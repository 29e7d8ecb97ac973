-- Each register that firmware's parts write is listed.
use Rattle.std.proofs.Common.{◌≡◌, ℕ, zero, suc, ◌+◌, ◌<◌, ◌||◌, ◌&&◌, true, false, List, [], ◌∷◌, Option, Some, None, length, ap, sym, subst, ◌∙◌, refl, arith, eq-eqb}
use Rattle.std.specs.Prelude.{◌==◌, nat_lt, slice_get}
use Rattle.std.specs.Int.{bit_at}
use Rattle.std.proofs.lemmas.Bool.{and_from, both_ways, lt-ltb, ne_eqb, or_left, or_right}
use Rattle.std.proofs.lemmas.Map.Keys.{any_passes_from_place}
use Rattle.frp_tree.specs.declared.syntax.Event.{Event}
use Rattle.frp_tree.specs.declared.syntax.Setup.{Setup}
use Rattle.frp_tree.specs.Tree.{OutputTree, ProgramTree}
use Rattle.pic_isa.specs.declared.sources.Source.{Source}
use Rattle.pic_isa.specs.declared.sources.BitAt.{BitAt}
use Rattle.pic_isa.specs.Names.{port_at, register_at}
use Rattle.pic_isa.specs.Sources.{enable_of, flag_of, source_name}
use Rattle.pic_regs.specs.Bytes.{bit, bits, zeros}
use Rattle.pic_regs.specs.Map.{within}
use Rattle.pic_regs.proofs.BitLaws.{from_bits}
use Rattle.map_file.specs.declared.maps.Map.{Map}
use Rattle.bank_alloc.specs.Addresses.{address_of}
use Rattle.priority_masks.specs.Levels.{HasEnablesIn}
use Rattle.scratch_commit.specs.declared.frames.Frame.{Frame}
use Rattle.scratch_commit.specs.Frames.{is_in_frame}
use Rattle.firmware_promises.specs.MapNames.{is_listed}
use Rattle.firmware_promises.specs.Firmware.{is_at, is_port_at}
use Rattle.firmware_map.specs.Written.{Used, is_cell, is_common, is_of_event, is_of_name, is_of_run, is_of_source, is_output, is_set_up, is_written}
use Rattle.firmware_map.specs.Maps.{IsMapOf, Made}
use Rattle.firmware_map.specs.Laws.{HasSource, IsPlaced, ListsWritten}
use Rattle.firmware_map.proofs.CellFacts.{some-at}
use Rattle.firmware_map.proofs.NameFacts.{source-named}
use Rattle.firmware_map.proofs.WrittenFacts.{kind-below, written-kind}

-- No bit of the byte 0 is set.
no-bit : (i : ℕ) → bit i zeros ≡ false
no-bit zero = refl
no-bit (suc (suc (suc (suc (suc (suc (suc i))))))) = refl
no-bit _ = refl

module _ (p : ProgramTree) (u : Used) (made : Made) (m : Map) (placed : IsPlaced p u) (is : IsMapOf p u made m) where
  -- What is written lies below 200h, and so is listed.
  pub written-listed : (a : ℕ) → is_written p u a ≡ true → is_listed m a ≡ true
  written-listed a written = is.listed a ∙ and_from (nat_lt a 512) (is_written p u a) (lt-ltb a 512 (kind-below p u.need a placed.fits (written-kind p u placed a written))) written

  of-common : (a : ℕ) → is_common u.pages a ≡ true → is_listed m a ≡ true
  of-common a is = written-listed a (or_left _ _ (or_left _ _ (or_left _ _ (or_left _ _ (or_left _ _ is)))))

  of-setup : (a : ℕ) → is_set_up p a ≡ true → is_listed m a ≡ true
  of-setup a is = written-listed a (or_left _ _ (or_left _ _ (or_left _ _ (or_left _ _ (or_right (is_common u.pages a) (is_set_up p a) is)))))

  of-output : (a : ℕ) → is_output p a ≡ true → is_listed m a ≡ true
  of-output a is = written-listed a (or_left _ _ (or_left _ _ (or_left _ _ (or_right _ (is_output p a) is))))

  of-event : (a : ℕ) → is_of_event p a ≡ true → is_listed m a ≡ true
  of-event a is = written-listed a (or_left _ _ (or_left _ _ (or_right _ (is_of_event p a) is)))

  of-run : (a : ℕ) → is_of_run u a ≡ true → is_listed m a ≡ true
  of-run a is = written-listed a (or_left _ _ (or_right _ (is_of_run u a) is))

  of-cell : (a : ℕ) → is_cell u a ≡ true → is_listed m a ≡ true
  of-cell a is = written-listed a (or_right _ (is_cell u a) is)

  pub cell-listed : (cell : ℕ) → cell < u.cells → is_listed m (address_of u.need cell) ≡ true
  cell-listed cell below =
      let a = address_of u.need cell in
      of-cell a (some-at u.cells cell (λ k. a == address_of u.need k) below (eq-eqb a a refl))

  -- The register of the flag or the enable of an event's source.
  of-source : (a : ℕ) (source : Source) (o : Option Event) (event : ℕ) → slice_get p.events event ≡ o → elim o [ Some e ↦ e.source | None ↦ [] ] ≡ source_name source
      → event < length p.events → is_of_source a source ≡ true → is_listed m a ≡ true
  of-source a source (Some e) event there same less is =
      of-event a (any_passes_from_place (λ (x : Event). is_of_name a x.source) p.events event e there (source-named a e.source source same is))
  of-source a source None event there same less is = absurd (past p.events event there less)
    where
      past : (es : List Event) (n : ℕ) → slice_get es n ≡ None → n < length es → ⊥
      past [] n at less = omega (arith, less)
      past (x ∷ es) zero at less = cc
      past (x ∷ es) (suc n) at less = past es n at (omega (arith, less))

  of-its-source : (a event : ℕ) (source : Source) → HasSource p event source → is_of_source a source ≡ true → is_listed m a ≡ true
  of-its-source a event source its is = of-source a source (slice_get p.events event) event refl its.1 its.0 is

  flag-listed : (event : ℕ) (source : Source) → HasSource p event source → is_listed m (flag_of source).address ≡ true
  flag-listed event source its =
      let a = (flag_of source).address in of-its-source a event source its (or_left (a == a) (a == (enable_of source).address) (eq-eqb a a refl))

  enable-listed : (event : ℕ) (source : Source) → HasSource p event source → is_listed m (enable_of source).address ≡ true
  enable-listed event source its =
      let a = (enable_of source).address in of-its-source a event source its (or_right (a == (flag_of source).address) (a == a) (eq-eqb a a refl))

  -- Where a register isn't listed, no enable is there.
  no-enable : (register : ℕ) → is_listed m register ≡ false → (level byte : ℕ) → HasEnablesIn p level register byte → bits byte ≡ zeros
  no-enable register not level byte has = from_bits byte zeros (λ i below. ne_eqb (bit_at byte i) 1 (none i) ∙ sym (no-bit i))
    where
      none : (i : ℕ) → bit_at byte i ≡ 1 → ⊥
      none i set =
          let its = (has i).0 set in
          let event = its.2 in
          let there : is_listed m (enable_of its.0).address ≡ true = enable-listed event.0 its.0 (event.1, event.2) in
          both_ways (is_listed m register) not (subst (λ (b : BitAt). is_listed m b.address ≡ true) its.1 there)

  pub lists-written : ListsWritten p u m
  lists-written = record {
    status = of-common 0x003 refl;
    intcon = of-common 0x00B refl;
    pclath = λ paged. of-common 0x00A (or_left (u.pages && 0x00A == 0x00A) (within 0x071 0x07F 0x00A) (and_from u.pages (0x00A == 0x00A) paged refl));
    common = λ a shared. of-common a (or_right (a == 0x003 || a == 0x00B || (u.pages && a == 0x00A)) (within 0x071 0x07F a) shared);
    cells = cell-listed;
    frames = λ n f a at its. of-run a (any_passes_from_place (λ (f : Frame). is_in_frame f a) u.frames n f at its);
    flags = flag-listed;
    enables = enable-listed;
    outputs = λ n o port at named. of-output (5 + port)
        (any_passes_from_place (λ (x : OutputTree). is_port_at (5 + port) (port_at x.port)) p.outputs n o at (ap (is_port_at (5 + port)) named ∙ eq-eqb (5 + port) (5 + port) refl));
    setups = λ n s a at named. of-setup a
        (any_passes_from_place (λ (x : Setup). is_at a (register_at x.register)) p.setups n s at (ap (is_at a) named ∙ eq-eqb a a refl));
    pie1 = no-enable 0x08C;
    pie2 = no-enable 0x08D;
  }
