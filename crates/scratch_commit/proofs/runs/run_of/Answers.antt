use Rattle.std.proofs.Common.{Bool, ℕ, [], ◌∷◌, ◌++◌, ◌&&◌, not, ap, map, subst, sym, ◌∙◌}
use Rattle.std.specs.List.{AllByRecursion}
use Rattle.pic_isa.specs.declared.instructions.Instr.TheVariants.{Retfie}
use Rattle.code_items.specs.declared.items.Item.TheVariants.{Ins, Mark}
use Rattle.glue_steps.specs.Lines.{LineNamed, item_of}
use Rattle.glue_parts.specs.Marks.{Entry, mark}
use Rattle.code_steps.specs.declared.banks.Bank.{Bank}
use Rattle.scratch_commit.specs.declared.frames.Frame.{Frame}
use Rattle.scratch_commit.specs.declared.masks.Masks.{Masks}
use Rattle.scratch_commit.specs.Deeds.{bank_past}
use Rattle.scratch_commit.specs.Plans.{bank_at_window, frame_in, glue, masks_in, over_idle, plan_of, returning, working}
use Rattle.scratch_commit.specs.Windows.{window, window_items}
use Rattle.scratch_commit.proofs.DeedLaws.{named_in}
use Rattle.scratch_commit.proofs.NameFacts.{regroup_run, returning_named}
use Rattle.scratch_commit.proofs.runs.run_of.Goals as goal

pub add_lines-requires : goal.add_lines-requires
add_lines-requires c =
    let t = c.terms_of-terms.result in
    let clears = c.args.run.now.spread.pages && t.over_idle in
    subst (AllByRecursion LineNamed) (sym (c.deref.ensures.value ∙ c.in_ok-end.ensures.lines))
    (named_in c.in_ok-bank-2.bank (returning t.masks t.frame clears) (returning_named t.masks t.frame clears c.terms_of-terms.ensures.named))

pub returns : goal.returns
returns c = λ p are.
    let t = c.terms_of-terms.result in
    let its = c.terms_of-terms.ensures.terms p are in
    let run = c.args.run.now in
    let plan = plan_of p run its.heard in
    let pages = run.spread.pages in
    let work = run.work.now.code.items in
    let moves = run.moves.now in
    let first = c.in_ok-bank.bank in
    let second = c.in_ok-bank-2.bank in
    let done = working run.kind run.event run.source t.masks t.frame work run.work.now.bank in
    let opened = window_items run.event first (window moves (not t.over_idle)) in
    let end_is = c.deref.ensures.value ∙ c.in_ok-end.ensures.lines in
    let all = λ (masks : Masks) (frame : Frame) (over : Bool) (bank : Bank) (entry : ℕ).
    ((((([] ++ Mark entry ∷ []) ++ working run.kind run.event run.source masks frame work run.work.now.bank) ++ window_items run.event bank (window moves (not over)))
    ++ glue (bank_past bank (window moves (not over))) (returning masks frame (pages && over))) ++ Ins Retfie ∷ []) in
    record {
      heard = its.heard;
      are_heard = its.are_heard;
      are_its =
          c.in_ok-push-2.ensures.ok
          ∙ ap (λ items. items ++ Ins Retfie ∷ [])
          (c.in_ok-add_lines.ensures.ok ∙ ap (λ items. items ++ map item_of c.deref.result.now)
          (c.in_ok-bank-2.ensures.items ∙ ap (λ items. items ++ opened)
          (c.in_ok-bank.ensures.items ∙ ap (λ items. items ++ done) (c.in_ok-push.ensures.ok ∙ ap (λ items. items ++ Mark c.entry.result ∷ []) c.new-code.ensures))))
          ∙ (λ j. ((((([] ++ Mark (c.entry.ensures j) ∷ []) ++ done) ++ opened) ++ map item_of (end_is j)) ++ Ins Retfie ∷ []))
          ∙ ap (λ bank. ((((([] ++ Mark (mark (Entry run.event)) ∷ []) ++ done) ++ opened) ++ glue bank (returning t.masks t.frame (pages && t.over_idle))) ++ Ins Retfie ∷ [])) c.in_ok-bank-2.ensures.bank
          ∙ (λ j. all (its.masks j) (its.frame j) (its.over_idle j) (c.in_ok-bank.ensures.bank j) (mark (Entry run.event)))
          ∙ regroup_run (working plan.kind plan.event plan.source (masks_in plan) (frame_in plan) plan.work plan.bank)
          (window_items plan.event (bank_at_window plan.kind plan.source plan.bank) (window plan.moves (not (over_idle plan))))
          (glue (bank_past (bank_at_window plan.kind plan.source plan.bank) (window plan.moves (not (over_idle plan)))) (returning (masks_in plan) (frame_in plan) (plan.spread.pages && over_idle plan)))
          (Mark (mark (Entry plan.event))) (Ins Retfie);
    }
