use Rattle.std.proofs.Common.{◌≡◌, ◌<◌, suc, ◌++◌, ◌∷◌, length, drop, get_or, ap, ◌∙◌, sym, append_assoc, add-one, drop-cons, arith}
use Rattle.pic_isa.specs.declared.instructions.Dest.TheVariants.{W}
use Rattle.code_acts.specs.declared.acts.Act.{Act}
use Rattle.code_acts.specs.declared.acts.Act.TheVariants.{File}
use Rattle.code_acts.specs.declared.acts.FileOp.TheVariants.{Add}
use Rattle.code_acts.specs.declared.acts.Name.TheVariants.{Operand0}
use Rattle.code_acts.specs.Codes.{bank_after, code, place_of}
use Rattle.code_acts.proofs.CodeLaws.{code-cons}
use Rattle.code_acts.proofs.emitting.instructions.Goals as goal

-- the next act and the others are what was left
pub loop-act-preserved : goal.loop-act-preserved
loop-act-preserved c =
    let acts = c.args.acts.now in
    let i = c.loop-act.act-index in
    let place = place_of c.args.places in
    let a : Act = get_or acts i (File Add Operand0 W) in
    let inside : i < length acts = omega arith in
    let left : drop i acts ≡ a ∷ drop (suc i) acts = drop-cons acts i (File Add Operand0 W) inside in
    let added = c.in_ok-now.ensures in
    let so_far = c.loop-act.invariant in
    record {
      code = rw (add-one, added.code, added.bank, append_assoc)
          (ap (λ x. c.loop-act.code ++ x) (sym (code-cons place c.loop-act.now a (drop (suc i) acts)) ∙ ap (code place c.loop-act.now) (sym left)) ∙ so_far.code);
      bank = rw (add-one, added.bank) (ap (bank_after place c.loop-act.now) (sym left) ∙ so_far.bank);
    }
