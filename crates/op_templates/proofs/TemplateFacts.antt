-- No skip is pending at the end of a sound list of acts; and a template from what its result is.
use Rattle.std.proofs.Common.{◌≡◌, ℕ, ◌≤◌, ◌==◌, Bool, true, false, if◌then◌else◌, Option, None, List, [], ◌∷◌, ap, sym, subst, refl, ◌||◌}
use Rattle.std.proofs.lemmas.Bool.{ne_eqb, and_parts}
use Rattle.std.specs.List.{list_any}
use Rattle.byte_ops.specs.declared.operations.Op.{Op}
use Rattle.byte_ops.specs.Cells.{AreNot}
use Rattle.byte_ops.specs.Meaning.{HasBools, result_in, value_of, written_by}
use Rattle.pic_regs.specs.Bytes.{Byte, num}
use Rattle.code_acts.specs.declared.acts.FileOp.TheVariants.{IncSkip}
use Rattle.code_acts.specs.declared.acts.Act.{Act}
use Rattle.code_acts.specs.declared.acts.Act.TheVariants.{File, SkipBit, SkipCarry, SkipZero}
use Rattle.code_acts.specs.Acts.{State, name_of, byte_of, result, skips, step_in, run}
use Rattle.code_acts.specs.Codes.{is_operand, latest, may_skip, sound, words}
use Rattle.code_acts.proofs.RunLaws.{run_keeps}
use Rattle.byte_ops.specs.Weights.{weight_of}
use Rattle.op_templates.specs.Templates.{named, most_words}
use Rattle.op_templates.specs.Laws.{IsTemplate, values, values_after, uses, writes}

-- No skip is pending at the end.
never-skips : (a : Act) (c z : Bool) (x r : Byte) → may_skip a ≡ false → skips a c z x r ≡ false
never-skips (File IncSkip n d) c z x r h = absurd (cc)
never-skips (SkipBit v n b) c z x r h = absurd (cc)
never-skips (SkipCarry v) c z x r h = absurd (cc)
never-skips (SkipZero v) c z x r h = absurd (cc)
never-skips _ c z x r h = refl

step-ends : (pending : Bool) (a : Act) (s : State) → may_skip a ≡ false → (step_in pending a s).skip ≡ false
step-ends true a s h = refl
step-ends false a s h =
    never-skips a s.carry s.zero (byte_of (name_of a) s.mem) (result a s.w s.carry (byte_of (name_of a) s.mem)).byte h

run-ends : (used written : ℕ → Bool) (last : Option ℕ) (behind : Bool) (acts : List Act) (s : State)
    → sound used written last behind acts ≡ true → (behind ≡ false → s.skip ≡ false) → (run acts s).skip ≡ false
run-ends used written last true [] s h none = absurd (cc)
run-ends used written last false [] s h none = none refl
run-ends used written last behind (a ∷ more) s h none =
    run-ends used written (latest last (name_of a)) (may_skip a) more (step_in s.skip a s) (and_parts _ _ h).1 (step-ends s.skip a s)

-- A state with no skip pending, by its parts.
abbrev pub at_rest : Byte → Bool → Bool → (ℕ → Byte) → State
at_rest w c z mem = record { w = w; carry = c; zero = z; skip = false; mem = mem }

is_at_rest : (s : State) → s.skip ≡ false → s ≡ at_rest s.w s.carry s.zero s.mem
is_at_rest s h = λ j. record { w = s.w; carry = s.carry; zero = s.zero; skip = h j; mem = s.mem }

-- A name is none of some.
not_among : (names : List ℕ) (n : ℕ) → AreNot n names → list_any (λ name. name == n) names ≡ false
not_among [] n h = refl
not_among (name ∷ names) n h =
    let other : (name == n) ≡ false = ne_eqb name n (λ e. h.0 (sym e)) in
    subst (λ b. (b || list_any (λ m. m == n) names) ≡ false) (sym other) (not_among names n h.1)

first_or_kept : (b : Bool) (x y : ℕ) → (b ≡ false → y ≡ x) → (if b then x else y) ≡ x
first_or_kept true x y h = refl
first_or_kept false x y h = h refl

-- Acts that are sound and few are a template where their result is the value of the operation.
abbrev pub Gives : Op → List Act → State → Type 0
Gives op acts s = HasBools (named op) (values s) → result_in (named op) (values_after s (run acts s)) ≡ value_of (named op) (values s)

pub template-from : (op : Op) (acts : List Act) → ((w : Byte) (c z : Bool) (mem : ℕ → Byte) → Gives op acts (at_rest w c z mem))
    → sound (uses op) (writes op) None false acts ≡ true → (words None acts ≤ most_words op) × (most_words op ≤ weight_of op) → IsTemplate op acts
template-from op acts gives is_sound within = record {
  does = λ s none. (subst (Gives op acts) (sym (is_at_rest s none)) (gives s.w s.carry s.zero s.mem), λ n not_written. kept s n not_written);
  ends = λ s none. run-ends (uses op) (writes op) None false acts s is_sound (λ e. none);
  is_sound = is_sound;
  within = within;
}
  where
    kept : (s : State) (n : ℕ) → AreNot n (written_by (named op)) → values_after s (run acts s) n ≡ values s n
    kept s n not_written =
        first_or_kept (is_operand n) (values s n) (values (run acts s) n) (λ far.
        let out : writes op n ≡ false = subst (λ b. (b || list_any (λ m. m == n) (written_by (named op))) ≡ false) (sym far) (not_among (written_by (named op)) n not_written) in
        ap num (run_keeps (uses op) (writes op) None false acts s n is_sound out))
