-- What the code's chip is after its small steps: the return stack, stored results, and what is reported.
use Rattle.std.proofs.Common.{◌≡◌, ℕ, suc, Some, None, sym, [], ◌∷◌, ◌<◌, Bool, true, false, List, length, get_or, set, ◌==◌, if◌then◌else◌, refl, ap, ◌∙◌, get_or-set_same, get_or-set_other}
use Rattle.std.proofs.Math.Path.{fun_ext}
use Rattle.std.proofs.lemmas.Bool.{eqb-true, eqb-false}
use Rattle.pic_regs.specs.declared.places.Place.{Place}
use Rattle.pic_regs.specs.declared.places.Place.TheVariants as place
use Rattle.pic_regs.specs.Bytes.{updated}
use Rattle.pic_regs.specs.Places.{reg_of}
use Rattle.pic_regs.specs.Registers.{write}
use Rattle.pic_machine.specs.declared.effects.Effect.{Effect}
use Rattle.pic_machine.specs.Chip.{Chip}
use Rattle.pic_machine.specs.Results.{Outcome, flagged, leaves, stored}
use Rattle.pic_machine.specs.State.{done_of}

-- What the code reports of an instruction with no register as its destination.
pub leaves-done : (effect : Effect) (c d : Chip) → effect ≡ record { wrote = None; port = None } → d ≡ c → leaves c ≡ done_of (Some effect) d
leaves-done effect c d nothing same = λ j. done_of (Some (sym nothing j)) (sym same j)

-- A write to the return stack's array is one to the memory that it is.
abbrev places : List ℕ → ℕ → ℕ
places xs place = get_or xs place 0

pub stack-set : (xs : List ℕ) (at place value : ℕ) → at < length xs → at ≡ place → places (set xs at value) ≡ updated (places xs) place value
stack-set xs at place value inside here = fun_ext (λ other. by_test other (other == at) refl) ∙ ap (λ n. updated (places xs) n value) here
  where
    by_test : (other : ℕ) (test : Bool) → (other == at) ≡ test → places (set xs at value) other ≡ (if test then value else places xs other)
    by_test other true e = ap (λ k. get_or (set xs at value) k 0) (eqb-true other at e) ∙ get_or-set_same xs at value 0 inside
    by_test other false e = get_or-set_other xs at other value 0 (eqb-false other at e)

-- The return stack at power-on.
abbrev empty : List ℕ
empty = 0 ∷ 0 ∷ 0 ∷ 0 ∷ 0 ∷ 0 ∷ 0 ∷ 0 ∷ []

pub places-empty : places empty ≡ (λ place. 0)
places-empty = fun_ext at_each
  where
    at_each : (place : ℕ) → places empty place ≡ 0
    at_each (suc (suc (suc (suc (suc (suc (suc (suc place)))))))) = refl
    at_each _ = refl

-- A result stored in a register other than PCL and STATUS.
pub stored-elsewhere : (at : Place) (result : Outcome) (c : Chip) → ¬ at ≡ place.Pcl → ¬ at ≡ place.Status
    → record c { regs = flagged result.flags (write (reg_of at) result.byte c.regs) } ≡ stored (reg_of at) result c
stored-elsewhere place.Pcl result c p s = absurd (p refl)
stored-elsewhere place.Status result c p s = absurd (s refl)
stored-elsewhere _ result c p s = refl
