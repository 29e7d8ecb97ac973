-- The vector of firmware stands where the layout says, and is the program's.
use Rattle.std.proofs.Common.{◌≡◌, ℕ, suc, ◌+◌, ◌%◌, ◌<◌, ◌≤◌, ◌&&◌, Bool, true, false, nat_le, Option, Some, None, List, [], ◌∷◌, length, slice_get, refl, sym, ap, subst, ◌∙◌, arith}
use Rattle.std.specs.List.{AllByRecursion}
use Rattle.std.proofs.lemmas.Bool.{le-leb, or_left, or_right}
use Rattle.std.proofs.lemmas.List.{length-drop}
use Rattle.frp_tree.specs.declared.syntax.Setup.{Setup}
use Rattle.efrp_meaning.specs.Bounds.{state_bytes}
use Rattle.efrp_meaning.specs.Meaning.{initial_state}
use Rattle.efrp_types.specs.Laws.{HasTypes}
use Rattle.efrp_types.proofs.TypedLaws.{no-fault-is-typed}
use Rattle.pic_isa.specs.Names.{register_at}
use Rattle.pic_regs.specs.Bytes.{bits, is_zero, zeros}
use Rattle.pic_regs.specs.Map.{Reg, Plain, Port, Tris, reg_at}
use Rattle.pic_regs.specs.Places.{reg_of}
use Rattle.pic_regs.proofs.SetupRegisterLaws.{Suits, may_set_up}
use Rattle.map_file.specs.declared.maps.Map.{Map}
use Rattle.bank_alloc.specs.Addresses.{address_of}
use Rattle.code_items.specs.Items.{words_in}
use Rattle.glue_steps.specs.Still.{MayWrite}
use Rattle.glue_parts.specs.Places.{named}
use Rattle.firmware_promises.specs.MapNames.{is_listed}
use Rattle.isr_vector.specs.Booting.{Write, boot_writes, cell_writes, first_bytes, setup_writes, write_at}
use Rattle.isr_vector.specs.Taking.{context_of}
use Rattle.isr_vector.specs.Urgency.{by_urgency}
use Rattle.isr_vector.proofs.BootCountLaws.{boot_few}
use Rattle.isr_vector.proofs.ListLaws.{all_both}
use Rattle.isr_vector.proofs.StateLaws.{first-length}
use Rattle.isr_vector.proofs.TestLaws.{taking-words}
use Rattle.isr_vector.proofs.UrgencyLaws.{order-length}
use Rattle.firmware_parts.specs.Layout.{Layout}
use Rattle.vector_steps.specs.Standing.{HasVector}
use Rattle.firmware_layout.specs.Heard.{heard}
use Rattle.firmware_layout.specs.Laws.{VectorStands, layout_with}
use Rattle.firmware_layout.specs.Layouts.{boot_start, boot_turn, head_end, lies, spots_in}
use Rattle.firmware_layout.specs.Pieces.{Makings, lines_of_boot, taking_of}
use Rattle.firmware_layout.specs.Sound.{AreMakings, IsCodeIn, IsMapIn}
use Rattle.firmware_layout.proofs.EventLaws.{level_inside, level_outside}
use Rattle.firmware_layout.proofs.HeardLaws.{is_heard}
use Rattle.firmware_layout.proofs.MadeLaws.{is_making}
use Rattle.firmware_layout.proofs.StandLaws.{each-run-stands, entry_is, vector-of-code-stands}
use Rattle.firmware_layout.proofs.StateLaws.{layout-states}
use Rattle.firmware_story.specs.Laws.{VectorIsHad}
use Rattle.firmware_story.proofs.FirstFacts.{first_state_read}
use Rattle.firmware_story.proofs.PlanFacts.{inside_lies}

-- What the boot writes is listed, where the states' cells are, and the registers of setups.
module _ (f : Makings) (m : Map) where
  abbrev Listed : ℕ → Type 0
  Listed address = is_listed m address ≡ true

  abbrev MayBe : List Write → Type 0
  MayBe ws = AllByRecursion (λ (w : Write). MayWrite Listed (reg_of w.place)) ws

  cells_may : (count cell : ℕ) (bytes : List ℕ) → ((k : ℕ) → k < count → Listed (address_of f.need k)) → cell + length bytes ≤ count → MayBe (cell_writes f.need cell bytes)
  cells_may count cell [] each room = tt
  cells_may count cell (byte ∷ bytes) each room = (each cell (omega (arith, room)), cells_may count (suc cell) bytes each (omega (arith, room)))

  register_may : (name : List ℕ) (a : ℕ) (reg : Reg) → Suits name a reg → Listed a → MayWrite Listed (reg_of (named reg))
  register_may name a (Port n) suits listed = subst Listed (sym suits.2) listed
  register_may name a (Tris n) suits listed = subst Listed (sym suits.2) listed
  register_may name a (Plain b) suits listed = subst Listed (sym suits.2) listed
  register_may name a _ suits listed = absurd suits

  setup_may : (name : List ℕ) (byte : ℕ) (o : Option ℕ) → register_at name ≡ o → ((a : ℕ) → register_at name ≡ Some a → Listed a) → MayBe (write_at o byte)
  setup_may name byte None is each = tt
  setup_may name byte (Some a) is each = (register_may name a (reg_at a) (may_set_up name a is) (each a is), tt)

  setups_may : (ss : List Setup) → ((n : ℕ) (s : Setup) (a : ℕ) → slice_get ss n ≡ Some s → register_at s.register ≡ Some a → Listed a) → MayBe (setup_writes ss)
  setups_may [] each = tt
  setups_may (s ∷ ss) each =
      all_both (λ (w : Write). MayWrite Listed (reg_of w.place)) (write_at (register_at s.register) s.byte) (setup_writes ss)
      (setup_may s.register s.byte (register_at s.register) refl (λ a is. each 0 s a refl is)) (setups_may ss (λ n t a at is. each (suc n) t a at is))

  -- A register of enables that isn't listed has none.
  enables_may : (address byte : ℕ) → (is_listed m address ≡ false → bits byte ≡ zeros) → is_zero (bits byte) ≡ false → Listed address
  enables_may address byte none some = by (is_listed m address) refl
    where
      by : (b : Bool) → is_listed m address ≡ b → is_listed m address ≡ true
      by true is = is
      by false is = let clash : false ≡ true = sym some ∙ ap is_zero (none is) in absurd (cc)

module _ (f : Makings) (program marks : ℕ → ℕ) (m : Map) (initial : List ℕ) (making : AreMakings f) (code : IsCodeIn f program marks) (map_in : IsMapIn f marks m)
    (begins : initial_state f.p ≡ Some initial) where
  abbrev l : Layout
  l = layout_with f program marks m

  types : HasTypes f.p
  types = no-fault-is-typed f.p making.written making.passes.checked.names making.passes.checked.types

  few_events : length f.p.events ≤ 11
  few_events = making.written.written.events

  vector : VectorStands f program marks
  vector = vector-of-code-stands f program marks making code

  -- The ready address lies in the first page: on several pages the boot stands directly behind the head.
  near : boot_turn f marks + 1 < 2048
  near = by f.spread.pages refl
    where
      by : (several : Bool) → f.spread.pages ≡ several → boot_turn f marks + 1 < 2048
      by true several =
          let at = vector.at several in
          let taking = taking-words f.source (context_of f.p f.spread) f.spread.pages f.spread.pages (by_urgency f.p) in
          let order = order-length f.p in
          let lines = (boot_few f.p f.need (heard f.p 0) (lines_of_boot f) types.0 making.written.written.setups making.bytes making.states refl).most in
          let behind = length-drop 3 (lines_of_boot f) in
          omega (arith, at, taking, order, few_events, lines, behind)
      by false one = let page = vector.page one in omega (arith, page)

  head_below : head_end f ≡ head_end f % 8192
  head_below = let behind = vector.behind in let room = vector.room in omega (arith, behind, room)

  entry_near : f.spread.pages ≡ false → (e : ℕ) → e < length f.p.events → (spots_in f marks e).entry < 2048
  entry_near one e real =
      let run = each-run-stands f program marks e making code real in
      let page = run.page one in
      let entry = run.rise.entry in
      let clear = run.rise.clear in
      let opens = run.rise.opens in
      let commits = run.rise.commits in
      omega (arith, page, entry, clear, opens, commits)

  writes_listed : MayBe f m (boot_writes f.p f.need)
  writes_listed =
      let many = first-length f.p types.0 in
      all_both (λ (w : Write). MayWrite (Listed f m) (reg_of w.place)) (cell_writes f.need 0 (first_bytes f.p)) (setup_writes f.p.setups)
      (cells_may f m (state_bytes f.p) 0 (first_bytes f.p) map_in.lists.states (omega (arith, many))) (setups_may f m f.p.setups map_in.lists.setups)

  has_vector : HasVector f.p f.need f.spread (layout_with f program marks m) initial
  has_vector = record {
    typed = types.0;
    setups = types.1;
    few = few_events;
    fits = making.bytes;
    placed = making.states;
    states = first_state_read f.p f.need initial begins (layout-states f program marks m initial making map_in begins).first;
    paged = refl;
    status = refl;
    pclath = refl;
    levels = λ e real. level_inside f e real;
    no_level = λ e far. level_outside f e far;
    sources = making.sources;
    marks = marks;
    boot_at = boot_start marks;
    head_end = head_end f % 8192;
    boot_stop = (boot_turn f marks + 2) % 8192;
    head = vector.head;
    boot = vector.boot;
    at = λ several. vector.at several ∙ ap (λ b. 4 + words_in b (taking_of f)) several;
    boot_end = refl;
    ready = refl;
    near = near;
    entry = λ e real. entry_is f marks e;
    short = entry_near;
    last = λ one tested least order. vector.last one tested least order ∙ head_below;
    in_first = λ x below. or_left (nat_le x 3) (lies (boot_start marks) (boot_turn f marks + 1) x) (le-leb x 3 (omega (arith, below)));
    in_rest = λ x from to.
        or_right (nat_le x 3) (lies (boot_start marks) (boot_turn f marks + 1) x) (inside_lies (boot_start marks) (boot_turn f marks + 1) x from (omega (arith, to)));
    in_taking = λ x from to. inside_lies 4 (head_end f) x from to;
    may_write = writes_listed;
    may_pie1 = enables_may f m 0x08C (heard f.p 0).pie1 (λ none. map_in.lists.pie1 none 0 (heard f.p 0).pie1 (is_heard f.p 0).pie1);
    may_pie2 = enables_may f m 0x08D (heard f.p 0).pie2 (λ none. map_in.lists.pie2 none 0 (heard f.p 0).pie2 (is_heard f.p 0).pie2);
    may_intcon = map_in.lists.intcon;
    may_status = λ saves. refl;
    may_pclath = λ saves. refl;
    may_page = λ paged. ap (λ b. b && true) paged;
  }

pub vector-is-had : (f : Makings) (program marks : ℕ → ℕ) (m : Map) (initial : List ℕ) → VectorIsHad f program marks m initial
vector-is-had f program marks m initial made code map_in begins = has_vector f program marks m initial (is_making f made) code map_in begins
