use Rattle.std.proofs.Common.{ℕ, List, map, take, ◌+◌, subst, sym, ◌∙◌}
use Rattle.text_parts.specs.Fields.{fields_of}
use Rattle.frp_tree.specs.Tree.{decl_of}
use Rattle.event_file.specs.Parts.{inputs_among, AreGiven}
use Rattle.event_file.proofs.FieldFacts.{given-skip, given-more, given-twice}
use Rattle.event_file.proofs.fields.samples_of.Goals as goal
use Rattle.event_file.proofs.fields.samples_of.Goals.{then-is_input+in-Some+in_ok-push, else-is_input}

pub returns-in_default : goal.returns-in_default
returns-in_default c =
    given-twice (fields_of c.args.text.now) c.args.decls.now c.loop-d.d-index c.d-item.result c.loop-d-test.true c.d-item.is (sym c.is_input.ensures ∙ c.if-is_input.true) c.in_default.ensures

pub loop-d-preserved : goal.loop-d-preserved
loop-d-preserved c =
    let fields = fields_of c.args.text.now in
    let P : List ℕ → Type 0 = λ samples. AreGiven fields (inputs_among (map decl_of (take (c.loop-d.d-index + 1) c.args.decls.now))) samples in
    elim c.if-is_input.branch [
      | then-is_input+in-Some+in_ok-push w ↦
          subst P (sym (w.samples-is ∙ w.in_ok-push.ensures.ok))
          (given-more fields c.args.decls.now c.loop-d.d-index c.d-item.result c.loop-d.samples w.in-Some.byte c.loop-d-test.true c.d-item.is (sym c.is_input.ensures ∙ w.if-is_input.true) w.in-Some.ensures c.loop-d.invariant)
      | else-is_input w ↦
          subst P (sym w.samples-is)
          (given-skip fields c.args.decls.now c.loop-d.d-index c.d-item.result c.loop-d.samples c.loop-d-test.true c.d-item.is (sym c.is_input.ensures ∙ w.if-is_input.false) c.loop-d.invariant)
    ]
