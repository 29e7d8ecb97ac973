-- The templates of a choice.
use Rattle.std.proofs.Common.{◌≡◌, ℕ, ◌+◌, ◌*◌, ◌<◌, Bool, true, false, if◌then◌else◌, [], ◌∷◌, refl, ap, ◌∙◌, lit≤}
use Rattle.byte_ops.specs.declared.operations.Op.TheVariants as op
use Rattle.byte_ops.specs.declared.operations.Pair.{Pair}
use Rattle.efrp_meaning.specs.Values.{holds}
use Rattle.pic_isa.specs.declared.instructions.Dest.TheVariants.{W}
use Rattle.pic_regs.specs.Bytes.{Byte, num, is_zero, updated}
use Rattle.code_acts.specs.declared.acts.Name.TheVariants.{Operand0, To, ToHigh, A, AHigh, B, BHigh, C}
use Rattle.code_acts.specs.declared.acts.FileOp.TheVariants.{Mov, Right}
use Rattle.code_acts.specs.declared.acts.Act.TheVariants.{File, Store, SkipCarry}
use Rattle.code_acts.specs.Acts.{State, run}
use Rattle.op_templates.specs.Choices.{picked}
use Rattle.op_templates.specs.Laws.{IsTemplate}
use Rattle.op_templates.specs.Templates.{template_of}
use Rattle.op_templates.proofs.MoveFacts.{bool_cases}
use Rattle.op_templates.proofs.TemplateFacts.{at_rest, template-from}

-- Bit 0 of a bool is whether it holds.
bit_holds : (x : Byte) → num x < 2 → x.b0 ≡ holds (num x)
bit_holds = bool_cases (λ x. x.b0 ≡ holds (num x)) refl refl

-- W stays where a skip is pending, and is else the operand byte.
picks : (skip : Bool) (w : Byte) (c z : Bool) (mem : ℕ → Byte)
    → num ((run (File Mov Operand0 W ∷ Store To ∷ []) (record { w = w; carry = c; zero = z; skip = skip; mem = mem })).mem 12) ≡ (if skip then num w else num (mem 0))
picks true w c z mem = refl
picks false w c z mem = refl

picks_wide : (w : Byte) (c z : Bool) (mem : ℕ → Byte)
    → (let s : State = run (picked (SkipCarry true) A B To (picked (SkipCarry true) AHigh BHigh ToHigh [])) (at_rest w c z mem) in num (s.mem 12) + 256 * num (s.mem 13))
    ≡ (if c then num (mem 14) + 256 * num (mem 15) else num (mem 16) + 256 * num (mem 17))
picks_wide w true z mem = refl
picks_wide w false z mem = refl

pub choose-template : (wide : Bool) (to : Pair) (c : ℕ) (a b : Pair) → IsTemplate (op.Choose wide to c a b) (template_of (op.Choose wide to c a b))
choose-template false to c a b =
    template-from (op.Choose false to c a b) (template_of (op.Choose false to c a b))
    (λ w k z mem below.
    picks (mem 18).b0 (mem 14) k (is_zero (mem 14)) (updated mem 0 (mem 16)) ∙ ap (λ p. if p then num (mem 14) else num (mem 16)) (bit_holds (mem 18) below))
    refl (lit≤ tt, lit≤ tt)
choose-template true to c a b =
    template-from (op.Choose true to c a b) (template_of (op.Choose true to c a b))
    (λ w k z mem below.
    picks_wide (run (File Right C W ∷ []) (at_rest w k z mem)).w (mem 18).b0 z mem
    ∙ ap (λ p. if p then num (mem 14) + 256 * num (mem 15) else num (mem 16) + 256 * num (mem 17)) (bit_holds (mem 18) below))
    refl (lit≤ tt, lit≤ tt)
