use Rattle.std.proofs.Common.{◌∷◌, refl, sym, ◌∙◌}
use Rattle.text_parts.specs.Fields.{fields_of}
use Rattle.arrival_script.proofs.CauseFacts.{cause-after, cause-own}
use Rattle.arrival_script.proofs.DraftFacts.{steps-told, adds-entry, takes-told}
use Rattle.arrival_script.proofs.drafts.Draft.read_line.Goals as goal

pub returns-then-is_some : goal.returns-then-is_some
returns-then-is_some c = λ before is.
    let more = fields_of c.in-Some.more.now in
    takes-told before c.args.number (fields_of c.args.text.now) c.in-Some.word.now more _ _ c.in-Some.ensures.field (sym c.is_comment.ensures ∙ c.if-is_comment.false)
    (refl, cause-after before (record { number = c.args.number; fields = c.in-Some.word.now ∷ more }) (steps-told before c.args.self.now is ∙ sym c.is_some.ensures ∙ c.if-is_some.true))

pub returns-in-Ok : goal.returns-in-Ok
returns-in-Ok c = λ before is.
    let more = fields_of c.in-Some.more.now in
    takes-told before c.args.number (fields_of c.args.text.now) c.in-Some.word.now more _ _ c.in-Some.ensures.field (sym c.is_comment.ensures ∙ c.if-is_comment.false)
    (adds-entry before (record { number = c.args.number; fields = c.in-Some.word.now ∷ more }) c.args.self.now _ c.in-Ok.entry _ is (steps-told before c.args.self.now is ∙ sym c.is_some.ensures ∙ c.if-is_some.false)
    c.in-Ok.ensures.0 c.in-Ok.ensures.1 c.add.ensures)

pub returns-in-Err : goal.returns-in-Err
returns-in-Err c = λ before is.
    let more = fields_of c.in-Some.more.now in
    takes-told before c.args.number (fields_of c.args.text.now) c.in-Some.word.now more _ _ c.in-Some.ensures.field (sym c.is_comment.ensures ∙ c.if-is_comment.false) (
      refl,
      cause-own before (record { number = c.args.number; fields = c.in-Some.word.now ∷ more }) c.in-Err.cause (steps-told before c.args.self.now is ∙ sym c.is_some.ensures ∙ c.if-is_some.false)
          c.in-Err.ensures.0 c.in-Err.ensures.1,
    )
