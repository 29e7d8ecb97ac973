-- What the registers are that firmware may write.
use Rattle.std.proofs.Common.{◌≡◌, ℕ, zero, suc, ◌+◌, ◌<◌, ◌≤◌, ◌||◌, ◌&&◌, Bool, true, false, List, [], ◌∷◌, Option, Some, None, IfSome, inl, inr, ap, sym, subst, refl, arith, lit<, eq-eqb}
use Rattle.std.specs.Prelude.{◌==◌, not}
use Rattle.std.specs.List.{AllByRecursion, list_any}
use Rattle.std.specs.Option.{ForSome}
use Rattle.std.specs.Str.{bytes_eq}
use Rattle.std.proofs.lemmas.Bool.{agree_below_at, and_parts, both_ways, eqb-true, or_cases, or_left, or_parts, or_right}
use Rattle.std.proofs.lemmas.Bool.Decides.{nat_tests}
use Rattle.frp_tree.specs.declared.syntax.Setup.{Setup}
use Rattle.frp_tree.specs.declared.syntax.Event.{Event}
use Rattle.frp_tree.specs.Tree.{OutputTree, ProgramTree}
use Rattle.pic_isa.specs.declared.sources.Source.{Source}
use Rattle.pic_isa.specs.declared.sources.Source.TheVariants.{T0}
use Rattle.pic_isa.specs.Names.{port_at, register_at, setup_registers}
use Rattle.pic_isa.specs.Sources.{enable_of, flag_of, source_name, sources}
use Rattle.pic_isa.proofs.NameLaws.{register_all, register_below}
use Rattle.pic_regs.specs.declared.places.Place.{Place}
use Rattle.pic_regs.specs.declared.places.Place.TheVariants as place
use Rattle.pic_regs.specs.Map.{canonical, lowest, within}
use Rattle.pic_regs.proofs.SetupRegisterLaws.{register_is_lowest}
use Rattle.event_ops.proofs.PortLaws.{small-port}
use Rattle.bank_alloc.specs.declared.needs.Needs.{Needs}
use Rattle.bank_alloc.specs.Addresses.{address_of}
use Rattle.bank_alloc.specs.Needs.{bytes_of}
use Rattle.bank_alloc.proofs.AddressLaws.{addresses-general, general-plain}
use Rattle.glue_parts.specs.Kept.{frame_cell}
use Rattle.scratch_commit.specs.declared.frames.Frame.{Frame}
use Rattle.firmware_promises.specs.Firmware.{is_at, is_banked, is_control, is_general, is_port_at, may_be_written}
use Rattle.scratch_commit.specs.Frames.{is_byte, is_in_frame}
use Rattle.firmware_map.specs.Written.{Used, is_cell, is_common, is_of_event, is_of_name, is_of_run, is_of_source, is_output, is_set_up, is_written}
use Rattle.firmware_map.specs.Laws.{IsFrame, IsFramePlace, IsPlaced}
use Rattle.firmware_map.proofs.CellFacts.{Passing, some-found}

-- The lowest address of a register, below 200h, that is no banked byte.
pub record Special (a : ℕ) : Type 0 where
  pub low : canonical a ≡ Some a
  pub unbanked : is_banked a ≡ false
  pub below : a < 512

-- An address of a register of control, of a byte that all banks share, of a setup's register, of an output's port, or of a cell.
pub data Kind (p : ProgramTree) (need : Needs) (a : ℕ) : Type 0 where
  Control : Special a → is_control a ≡ true → Kind p need a
  Shared : within 0x071 0x07F a ≡ true → Kind p need a
  SetUp : Special a → is_set_up p a ≡ true → Kind p need a
  Shown : Special a → is_output p a ≡ true → Kind p need a
  Cell : (cell : ℕ) → cell < bytes_of need → a ≡ address_of need cell → Kind p need a

-- One of a list passes a test.
pub one-passes : {A : Type 0} (test : A → Bool) (xs : List A) → list_any test xs ≡ true → (x : A) × (test x ≡ true)
one-passes test [] found = absurd (cc)
one-passes test (x ∷ xs) found = elim (or_cases (test x) (list_any test xs) found) [ inl here ↦ (x, here) | inr later ↦ one-passes test xs later ]

one-of : {A : Type 0} (P : A → Type 0) (test : A → Bool) (xs : List A) → AllByRecursion P xs → list_any test xs ≡ true → (x : A) × P x × (test x ≡ true)
one-of P test [] all found = absurd (cc)
one-of P test (x ∷ xs) all found = elim (or_cases (test x) (list_any test xs) found) [ inl here ↦ (x, all.0, here) | inr later ↦ one-of P test xs all.1 later ]

-- Registers of setups lie in no bank of general RAM; ports are named by their lowest address; flags and enables stand in registers of
-- control.
all-false : {A : Type 0} (test : A → Bool) (xs : List A) → list_any test xs ≡ false → AllByRecursion (λ x. test x ≡ false) xs
all-false test [] none = tt
all-false test (x ∷ xs) none = let parts = or_parts (test x) (list_any test xs) none in (parts.0, all-false test xs parts.1)

register-unbanked : (name : List ℕ) → IfSome (register_at name) (λ a. is_banked a ≡ false)
register-unbanked name = register_all (λ a. is_banked a ≡ false) name (all-false (λ (entry : List ℕ × ℕ). is_banked entry.1) setup_registers refl)

port-special : (port : ℕ) → port ≤ 4 → Special (5 + port)
port-special zero small = record { low = refl; unbanked = refl; below = lit< tt }
port-special (suc zero) small = record { low = refl; unbanked = refl; below = lit< tt }
port-special (suc (suc zero)) small = record { low = refl; unbanked = refl; below = lit< tt }
port-special (suc (suc (suc zero))) small = record { low = refl; unbanked = refl; below = lit< tt }
port-special (suc (suc (suc (suc zero)))) small = record { low = refl; unbanked = refl; below = lit< tt }
port-special (suc (suc (suc (suc (suc port))))) small = absurd (omega arith)

-- A register of control.
abbrev IsControl : ℕ → Type 0
IsControl a = Special a × (is_control a ≡ true)

flag-control : (s : Source) → IsControl (flag_of s).address
flag-control T0 = (record { low = refl; unbanked = refl; below = lit< tt }, refl)
flag-control _ = (record { low = refl; unbanked = refl; below = lit< tt }, refl)

enable-control : (s : Source) → IsControl (enable_of s).address
enable-control T0 = (record { low = refl; unbanked = refl; below = lit< tt }, refl)
enable-control _ = (record { low = refl; unbanked = refl; below = lit< tt }, refl)

plain-same : (a b : ℕ) → place.Plain a ≡ place.Plain b → a ≡ b
plain-same a b same = cc

module _ (p : ProgramTree) (u : Used) (placed : IsPlaced p u) where
  abbrev Its : ℕ → Type 0
  Its a = Kind p u.need a

  at-number : (a b : ℕ) → (a == b) ≡ true → Its b → Its a
  at-number a b same its = subst Its (sym (eqb-true a b same)) its

  control : {a : ℕ} → canonical a ≡ Some a → is_banked a ≡ false → a < 512 → is_control a ≡ true → Its a
  control low unbanked below is = Control (record { low = low; unbanked = unbanked; below = below }) is

  -- A common register.
  of-common : (a : ℕ) → is_common u.pages a ≡ true → Its a
  of-common a is = elim (or_cases _ _ is) [
    | inl w ↦ elim (or_cases _ _ w) [
      | inl v ↦ elim (or_cases _ _ v) [ inl status ↦ at-number a 0x003 status (control refl refl (lit< tt) refl) | inr intcon ↦ at-number a 0x00B intcon (control refl refl (lit< tt) refl) ]
      | inr pclath ↦ at-number a 0x00A (and_parts u.pages (a == 0x00A) pclath).1 (control refl refl (lit< tt) refl)
    ]
    | inr shared ↦ Shared shared
  ]

  -- A setup's register.
  at-register : (a : ℕ) (o : Option ℕ) → IfSome o (λ b. canonical b ≡ Some b) → IfSome o (λ b. is_banked b ≡ false) → IfSome o (λ b. b < 256) → is_at a o ≡ true → Special a
  at-register a None low unbanked below is = absurd (cc)
  at-register a (Some b) low unbanked below is = subst Special (sym (eqb-true a b is)) (record { low = low; unbanked = unbanked; below = omega arith })

  of-setup : (a : ℕ) → is_set_up p a ≡ true → Its a
  of-setup a is =
      let found = one-passes (λ (s : Setup). is_at a (register_at s.register)) p.setups is in
      let name = found.0.register in
      SetUp (at-register a (register_at name) (register_is_lowest name) (register-unbanked name) (register_below name) found.1) is

  -- An output's port.
  at-port : (a : ℕ) (o : Option ℕ) → ForSome o (λ port. port ≤ 4) → is_port_at a o ≡ true → Special a
  at-port a None small is = absurd (cc)
  at-port a (Some port) small is = subst Special (sym (eqb-true a (5 + port) is)) (port-special port (small port refl))

  of-output : (a : ℕ) → is_output p a ≡ true → Its a
  of-output a is =
      let found = one-passes (λ (o : OutputTree). is_port_at a (port_at o.port)) p.outputs is in
      Shown (at-port a (port_at found.0.port) (small-port found.0.port) found.1) is

  -- The register of a source's flag or enable.
  of-source : (a : ℕ) (s : Source) → is_of_source a s ≡ true → Its a
  of-source a s is =
      let flag = flag-control s in
      let enable = enable-control s in
      elim (or_cases _ _ is) [
        | inl here ↦ at-number a (flag_of s).address here (Control flag.0 flag.1)
        | inr there ↦ at-number a (enable_of s).address there (Control enable.0 enable.1)
      ]

  of-event : (a : ℕ) → is_of_event p a ≡ true → Its a
  of-event a is =
      let event = one-passes (λ (e : Event). is_of_name a e.source) p.events is in
      let source = one-passes (λ s. bytes_eq event.0.source (source_name s) && is_of_source a s) sources event.1 in
      of-source a source.0 (and_parts (bytes_eq event.0.source (source_name source.0)) (is_of_source a source.0) source.1).1

  -- A byte of a frame.
  of-frame-place : (b : ℕ) → IsFramePlace u.need (place.Plain b) → Its b
  of-frame-place b (inl status) = let same : 0x071 ≡ b = cc in subst Its same (Shared refl)
  of-frame-place b (inr (inl pclath)) = let same : 0x072 ≡ b = cc in subst Its same (Shared refl)
  of-frame-place b (inr (inr it)) =
      let level = it.0 in
      let byte = it.1 in
      let from = it.2 in
      let to = it.3 in
      let six = it.4 in
      Cell (frame_cell u.need level byte) (omega (arith, from, to, six)) (plain-same b (address_of u.need (frame_cell u.need level byte)) it.5)

  of-place : (a : ℕ) (o : Option Place) → ForSome o (IsFramePlace u.need) → is_byte a o ≡ true → Its a
  of-place a (Some (place.Plain b)) lies is = subst Its (eqb-true b a is) (of-frame-place b (lies (place.Plain b) refl))
  of-place a _ lies is = absurd (cc)

  of-frame : (a : ℕ) (f : Frame) → IsFrame u.need f → is_in_frame f a ≡ true → Its a
  of-frame a f lies is = elim (or_cases _ _ is) [
    | inl w ↦ elim (or_cases _ _ w) [
      | inl v ↦ elim (or_cases _ _ v) [
        | inl t ↦ elim (or_cases _ _ t) [ inl status ↦ of-place a f.status lies.status status | inr pclath ↦ of-place a f.pclath lies.pclath pclath ]
        | inr intcon ↦ of-place a f.intcon lies.intcon intcon
      ]
      | inr pie1 ↦ of-place a f.pie1 lies.pie1 pie1
    ]
    | inr pie2 ↦ of-place a f.pie2 lies.pie2 pie2
  ]

  of-run : (a : ℕ) → is_of_run u a ≡ true → Its a
  of-run a is = let it = one-of (IsFrame u.need) (λ (f : Frame). is_in_frame f a) u.frames placed.frames is in of-frame a it.0 it.1 it.2

  -- A cell.
  of-cell : (a : ℕ) → is_cell u a ≡ true → Its a
  of-cell a is =
      let it = some-found u.cells (λ cell. a == address_of u.need cell) is in
      let below = it.below in
      let few = placed.cells.placed in
      Cell it.number (omega (arith, below, few)) (eqb-true a (address_of u.need it.number) it.passes)

  pub written-kind : (a : ℕ) → is_written p u a ≡ true → Kind p u.need a
  written-kind a is = elim (or_cases _ _ is) [
    | inl w ↦ elim (or_cases _ _ w) [
      | inl v ↦ elim (or_cases _ _ v) [
        | inl t ↦ elim (or_cases _ _ t) [
          | inl s ↦ elim (or_cases _ _ s) [ inl common ↦ of-common a common | inr setup ↦ of-setup a setup ]
          | inr output ↦ of-output a output
        ]
        | inr event ↦ of-event a event
      ]
      | inr run ↦ of-run a run
    ]
    | inr cell ↦ of-cell a cell
  ]

-- The byte of a cell, and those that all banks share.
cell-lowest : (need : Needs) (cell : ℕ) → bytes_of need ≤ 352 → cell < bytes_of need → canonical (address_of need cell) ≡ Some (address_of need cell)
cell-lowest need cell fits below = ap lowest (general-plain (address_of need cell) (addresses-general need fits cell below))

abbrev is_lowest : ℕ → Option ℕ → Bool
is_lowest a None = false
is_lowest a (Some b) = b == a

lowest-true : (a : ℕ) (o : Option ℕ) → is_lowest a o ≡ true → o ≡ Some a
lowest-true a None is = absurd (cc)
lowest-true a (Some b) is = ap (λ (k : ℕ). Some k) (eqb-true b a is)

shared-below : (a : ℕ) → within 0x071 0x07F a ≡ true → a < 128
shared-below a is = grind (arith, nat_tests)

shared-lowest : (a : ℕ) → within 0x071 0x07F a ≡ true → canonical a ≡ Some a
shared-lowest a is =
    lowest-true a (canonical a) (by_test (within 0x071 0x07F a) is (agree_below_at (λ k. not (within 0x071 0x07F k) || is_lowest k (canonical k)) (λ k. true) 128 a refl (shared-below a is)))
  where
    by_test : (b : Bool) → b ≡ true → (not b || is_lowest a (canonical a)) ≡ true → is_lowest a (canonical a) ≡ true
    by_test true e h = h
    by_test false e h = absurd (cc)

shared-general : (a : ℕ) → within 0x071 0x07F a ≡ true → within 0x070 0x07F a ≡ true
shared-general a is = grind (arith, nat_tests)

shared-unbanked : (a : ℕ) → within 0x071 0x07F a ≡ true → is_banked a ≡ false
shared-unbanked a is = grind (arith, nat_tests)

-- Each may be written, and is named by its lowest address, below 200h.
pub kind-right : (p : ProgramTree) (need : Needs) (a : ℕ) → bytes_of need ≤ 352 → Kind p need a → (canonical a ≡ Some a) × (may_be_written p a ≡ true)
kind-right p need a fits (Control its is) = (its.low, or_left _ _ (or_left _ _ (or_right (is_general a) (is_control a) is)))
kind-right p need a fits (Shared shared) =
    (shared-lowest a shared, or_left _ _ (or_left _ _ (or_left (is_general a) (is_control a) (or_right (is_banked a) (within 0x070 0x07F a) (shared-general a shared)))))
kind-right p need a fits (SetUp its is) = (its.low, or_right _ _ is)
kind-right p need a fits (Shown its is) = (its.low, or_left _ _ (or_right (is_general a || is_control a) (is_output p a) is))
kind-right p need a fits (Cell cell below same) = (
  subst (λ k. canonical k ≡ Some k) (sym same) (cell-lowest need cell fits below),
  or_left _ _ (or_left _ _ (or_left (is_general a) (is_control a) (or_left (is_banked a) (within 0x070 0x07F a) (subst (λ k. is_banked k ≡ true) (sym same) (addresses-general need fits cell below))))),
)

pub banked-below : (a : ℕ) → is_banked a ≡ true → a < 512
banked-below a is = grind (arith, nat_tests)

pub kind-below : (p : ProgramTree) (need : Needs) (a : ℕ) → bytes_of need ≤ 352 → Kind p need a → a < 512
kind-below p need a fits (Control its is) = its.below
kind-below p need a fits (Shared shared) = let small = shared-below a shared in omega arith
kind-below p need a fits (SetUp its is) = its.below
kind-below p need a fits (Shown its is) = its.below
kind-below p need a fits (Cell cell below same) = banked-below a (subst (λ k. is_banked k ≡ true) (sym same) (addresses-general need fits cell below))

-- Those that are banked are cells.
pub banked-cell : (p : ProgramTree) (need : Needs) (a : ℕ) → Kind p need a → is_banked a ≡ true → Passing (bytes_of need) (λ cell. a == address_of need cell)
banked-cell p need a (Control its is) banked = absurd (both_ways (is_banked a) its.unbanked banked)
banked-cell p need a (Shared shared) banked = absurd (both_ways (is_banked a) (shared-unbanked a shared) banked)
banked-cell p need a (SetUp its is) banked = absurd (both_ways (is_banked a) its.unbanked banked)
banked-cell p need a (Shown its is) banked = absurd (both_ways (is_banked a) its.unbanked banked)
banked-cell p need a (Cell cell below same) banked = record { number = cell; below = below; passes = eq-eqb a (address_of need cell) same }
