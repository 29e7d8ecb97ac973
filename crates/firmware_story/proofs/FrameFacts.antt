-- Of enables that are cleared some bit is set. What a run saves lies in its frame, and the work of a short run leaves its frame.
use Rattle.std.proofs.Common.{◌≡◌, ℕ, ◌-◌, ◌<◌, ◌==◌, ◌&&◌, ◌||◌, Bool, true, false, not, if◌then◌else◌, length, refl, sym, ap, ◌∙◌, arith, inl, inr}
use Rattle.std.specs.Prelude.{◌⊎◌}
use Rattle.std.specs.Option.{ForSome}
use Rattle.std.proofs.lemmas.Bool.{and_parts, eq-eqb, eqb-true, or_cases, or_left, or_right}
use Rattle.std.proofs.lemmas.Option.{none-some, same_Some}
use Rattle.pic_regs.specs.declared.places.Place.{Place}
use Rattle.pic_regs.specs.declared.places.Place.TheVariants.{Plain}
use Rattle.pic_regs.specs.Bytes.{Byte, bit, bit_by_bit, bits, is_zero, num, zeros}
use Rattle.pic_regs.specs.Map.{within}
use Rattle.pic_regs.proofs.BitLaws.{zero-bits}
use Rattle.pic_regs.proofs.ByteLaws.{bits-num, num-below}
use Rattle.map_file.specs.declared.maps.Map.{Map}
use Rattle.bank_alloc.specs.declared.needs.Needs.{Needs}
use Rattle.bank_alloc.specs.Addresses.{address_of, is_general}
use Rattle.bank_alloc.proofs.AddressLaws.{addresses-general}
use Rattle.glue_parts.specs.declared.spread.Context.{Context}
use Rattle.glue_parts.specs.Kept.{frame_cell}
use Rattle.scratch_commit.specs.declared.frames.Frame.{Frame}
use Rattle.scratch_commit.specs.declared.kinds.Kind.{Kind}
use Rattle.scratch_commit.specs.declared.kinds.Kind.TheVariants.{Short, Long, Bottom, Middle}
use Rattle.scratch_commit.specs.Frames.{frame_of, is_between, is_byte, is_in_frame, is_over_runs, wanted}
use Rattle.scratch_commit.specs.Masks.{masks_of, no_masks, saved_of}
use Rattle.scratch_commit.specs.Plans.{context_in, frame_in, is_short, masks_in}
use Rattle.run_steps.specs.Premises.{IsFrameIn, Spares}
use Rattle.firmware_layout.specs.Laws.{layout_with}
use Rattle.firmware_layout.specs.Layouts.{has_lock, is_changed, is_of_work, is_page, is_scratch}
use Rattle.firmware_layout.specs.Pieces.{Makings, kind_of, plan_in}
use Rattle.firmware_layout.specs.Sound.{AreMakings}
use Rattle.firmware_layout.proofs.RangeLaws.{found_in_range}
use Rattle.efrp_meaning.specs.Bounds.{state_bytes}
use Rattle.firmware_story.proofs.PlanFacts.{short_has_no_lock}

-- A byte of which no bit is set is 0. So some bit is set where one is, and where one that is cleared wasn't set beneath.
no_bit : (x : Byte) → is_zero x ≡ true → x ≡ zeros
no_bit x none = sym (bits-num x) ∙ ap bits (eqb-true (num x) 0 (zero-bits (num x) (num-below x) ∙ ap is_zero (bits-num x) ∙ none))

pub bit_changes : (b n : ℕ) → bit b zeros ≡ false → bit b (bits n) ≡ true → is_changed n ≡ true
bit_changes b n clear set = by (is_zero (bits n)) refl
  where
    by : (none : Bool) → is_zero (bits n) ≡ none → is_changed n ≡ true
    by true is = let clash : false ≡ true = sym clear ∙ sym (ap (bit b) (no_bit (bits n) is)) ∙ set in absurd (cc)
    by false is = ap not is

pub unset_changes : (cleared beneath : ℕ) → is_zero (bit_by_bit (λ p q. p && not q) (bits cleared) (bits beneath)) ≡ false → is_changed cleared ≡ true
unset_changes cleared beneath unset = by (is_zero (bits cleared)) refl
  where
    by : (none : Bool) → is_zero (bits cleared) ≡ none → is_changed cleared ≡ true
    by true is =
        let clash : true ≡ false = sym (ap (λ x. is_zero (bit_by_bit (λ p q. p && not q) x (bits beneath))) (no_bit (bits cleared) is)) ∙ unset in absurd (cc)
    by false is = ap not is

-- What is saved somewhere lies in what has it.
module _ (Own : ℕ → Type 0) where
  abbrev Lies : Place → Type 0
  Lies p = (address : ℕ) × (p ≡ Plain address) × Own address

  saved_at : (t : Bool) (a : ℕ) → ((x : ℕ) → is_byte x (wanted t (Plain a)) ≡ true → Own x) → ForSome (wanted t (Plain a)) Lies
  saved_at true a covers p is = (a, sym (same_Some (Plain a) p is), covers a (eq-eqb a a refl))
  saved_at false a covers p is = absurd (none-some p is)

  saved_in : (t c : Bool) (a b : ℕ) → ((x : ℕ) → is_byte x (wanted t (if c then Plain a else Plain b)) ≡ true → Own x) → ForSome (wanted t (if c then Plain a else Plain b)) Lies
  saved_in t true a b covers = saved_at t a covers
  saved_in t false a b covers = saved_at t b covers

-- The frame of a short run is that of the taking.
short_is : (kind : Kind) → is_short kind ≡ true → kind ≡ Short
short_is Short short = refl
short_is Long short = absurd (cc)
short_is Bottom short = absurd (cc)
short_is Middle short = absurd (cc)

byte_is : (t : Bool) (a x : ℕ) → is_byte x (wanted t (Plain a)) ≡ true → a ≡ x
byte_is true a x is = eqb-true a x is
byte_is false a x is = absurd (cc)

short_frame : (level : ℕ) (need : Needs) (context : Context) (a : ℕ) → is_in_frame (frame_of Short level need context (saved_of no_masks)) a ≡ true → (0x071 ≡ a) ⊎ (0x072 ≡ a)
short_frame level need context a inside =
    let status : Bool = is_byte a (wanted context.status (Plain 0x071)) in
    let pclath : Bool = is_byte a (wanted context.pclath (Plain 0x072)) in
    by (or_cases status pclath (or_last (status || pclath) (or_last (status || pclath || false) (or_last (status || pclath || false || false) inside))))
  where
    or_last : (b : Bool) → (b || false) ≡ true → b ≡ true
    or_last true is = refl
    or_last false is = is

    by : (is_byte a (wanted context.status (Plain 0x071)) ≡ true) ⊎ (is_byte a (wanted context.pclath (Plain 0x072)) ≡ true) → (0x071 ≡ a) ⊎ (0x072 ≡ a)
    by (inl is) = inl (byte_is context.status 0x071 a is)
    by (inr is) = inr (byte_is context.pclath 0x072 a is)

module _ (f : Makings) (program marks : ℕ → ℕ) (m : Map) (making : AreMakings f) (e : ℕ) (real : e < length f.p.events) where
  abbrev frame : Frame
  frame = frame_in (plan_in f e)

  abbrev Own : ℕ → Type 0
  Own address = is_in_frame frame address ≡ true

  abbrev first : ℕ → Bool
  first a = is_byte a frame.status

  abbrev second : ℕ → Bool
  second a = first a || is_byte a frame.pclath

  abbrev third : ℕ → Bool
  third a = second a || is_byte a frame.intcon

  abbrev fourth : ℕ → Bool
  fourth a = third a || is_byte a frame.pie1

  in_third : (a : ℕ) → third a ≡ true → Own a
  in_third a is = or_left (fourth a) (is_byte a frame.pie2) (or_left (third a) (is_byte a frame.pie1) is)

  in_second : (a : ℕ) → second a ≡ true → Own a
  in_second a is = in_third a (or_left (second a) (is_byte a frame.intcon) is)

  pub is_frame : IsFrameIn (layout_with f program marks m) e (frame_in (plan_in f e))
  is_frame = record {
    status = saved_in Own (is_over_runs (kind_of f e) && (context_in (plan_in f e)).status) (is_between (kind_of f e)) (address_of f.need (frame_cell f.need (plan_in f e).level 1)) 0x071
        (λ a is. in_second a (or_left (first a) (is_byte a frame.pclath) is));
    pclath = saved_in Own (is_over_runs (kind_of f e) && (context_in (plan_in f e)).pclath) (is_between (kind_of f e)) (address_of f.need (frame_cell f.need (plan_in f e).level 2)) 0x072
        (λ a is. in_second a (or_right (first a) (is_byte a frame.pclath) is));
    intcon = saved_at Own (saved_of (masks_in (plan_in f e))).intcon (address_of f.need (frame_cell f.need (plan_in f e).level 3))
        (λ a is. in_third a (or_right (second a) (is_byte a frame.intcon) is));
    pie1 = saved_at Own (saved_of (masks_in (plan_in f e))).pie1 (address_of f.need (frame_cell f.need (plan_in f e).level 4))
        (λ a is. or_left (fourth a) (is_byte a frame.pie2) (or_right (third a) (is_byte a frame.pie1) is));
    pie2 = saved_at Own (saved_of (masks_in (plan_in f e))).pie2 (address_of f.need (frame_cell f.need (plan_in f e).level 5))
        (λ a is. or_right (fourth a) (is_byte a frame.pie2) is);
  }

  -- No byte of an event's work is 71h or 72h.
  no_common : (a : ℕ) → is_of_work f e a ≡ true → within 0x074 0x07F a ≡ false → is_general a ≡ false → ⊥
  no_common a work no_operand no_cell = by (or_cases (within 0x074 0x07F a) (is_scratch f e a) work)
    where
      by : (within 0x074 0x07F a ≡ true) ⊎ (is_scratch f e a ≡ true) → ⊥
      by (inl operand) = absurd (cc)
      by (inr scratch) =
          let its = found_in_range (λ cell. address_of f.need cell == a) (state_bytes f.p) (f.cells e - state_bytes f.p) scratch in
          let from = its.1 in
          let to = its.2 in
          let placed = (making.works e real).cells in
          let general = addresses-general f.need making.bytes its.0 (omega (arith, from, to, placed)) in
          let same = eqb-true (address_of f.need its.0) a its.3 in
          let clash : true ≡ false = sym general ∙ ap is_general same ∙ no_cell in absurd (cc)

  -- The frame, by the kind of run.
  abbrev frame_by : Kind → Frame
  frame_by kind =
      frame_of kind (plan_in f e).level f.need (context_in (plan_in f e)) (saved_of (if is_short kind then no_masks else masks_of (plan_in f e).heard))

  pub spares : Spares (layout_with f program marks m) e
  spares short address own may =
      by (or_cases (is_of_work f e address) (has_lock f e && is_page f address) may)
      (short_frame (plan_in f e).level f.need (context_in (plan_in f e)) address (sym (ap (λ kind. is_in_frame (frame_by kind) address) (short_is (kind_of f e) short)) ∙ own))
    where
      by : (is_of_work f e address ≡ true) ⊎ ((has_lock f e && is_page f address) ≡ true) → (0x071 ≡ address) ⊎ (0x072 ≡ address) → ⊥
      by (inl work) (inl same) = no_common address work (sym (ap (within 0x074 0x07F) same)) (sym (ap is_general same))
      by (inl work) (inr same) = no_common address work (sym (ap (within 0x074 0x07F) same)) (sym (ap is_general same))
      by (inr page) common =
          let locked = (and_parts (has_lock f e) (is_page f address) page).0 in
          let unlocked = short_has_no_lock (kind_of f e) short in
          let clash : true ≡ false = sym locked ∙ unlocked in absurd (cc)
