use Rattle.std.proofs.Common.{None, get_or, sym, subst, ◌+◌, ◌∙◌}
use Rattle.std.proofs.lemmas.List.{get_or_default}
use Rattle.frp_tree.specs.Cells.{is_of}
use Rattle.efrp_syntax.specs.declared.begun.Begun.{Begun}
use Rattle.where_tool.proofs.PlaceFacts.{Left, left-here, left-passed, left-other, left-end}
use Rattle.where_tool.proofs.part_tokens.note_behind.Goals as goal
use Rattle.where_tool.proofs.part_tokens.note_behind.Goals.{then-begins+else-left-eq0, else-begins}

pub returns-then-left-eq0-clause-is : goal.returns-then-left-eq0-clause-is
returns-then-left-eq0-clause-is c =
    let xs = c.args.notes.now in
    let i = c.loop-i.i in
    let d : Begun = record { kind = None; entry = 0 } in
    let x = get_or xs i d in
    left-here (λ (n : Begun). is_of c.args.kind n.kind) xs c.args.from c.args.number i c.loop-i.left x c.loop-i-test.true (get_or_default xs i d x c.loop-i-test.true)
    (sym c.begins.ensures ∙ c.if-begins.true) c.if-left-eq0.true c.loop-i.invariant

pub loop-i-preserved : goal.loop-i-preserved
loop-i-preserved c =
    let xs = c.args.notes.now in
    let i = c.loop-i.i in
    let d : Begun = record { kind = None; entry = 0 } in
    let x = get_or xs i d in
    let is = get_or_default xs i d x c.loop-i-test.true in
    elim c.if-begins.branch [
      | then-begins+else-left-eq0 w ↦
          subst (Left (λ (n : Begun). is_of c.args.kind n.kind) xs c.args.from c.args.number (i + 1)) (sym w.left-is)
          (left-passed (λ (n : Begun). is_of c.args.kind n.kind) xs c.args.from c.args.number i c.loop-i.left x c.loop-i-test.true is (sym c.begins.ensures ∙ w.if-begins.true) w.if-left-eq0.false c.loop-i.invariant)
      | else-begins w ↦
          subst (Left (λ (n : Begun). is_of c.args.kind n.kind) xs c.args.from c.args.number (i + 1)) (sym w.left-is)
          (left-other (λ (n : Begun). is_of c.args.kind n.kind) xs c.args.from c.args.number i c.loop-i.left x c.loop-i-test.true is (sym c.begins.ensures ∙ w.if-begins.false) c.loop-i.invariant)
    ]

pub returns-clause-is : goal.returns-clause-is
returns-clause-is c =
    left-end (λ (n : Begun). is_of c.args.kind n.kind) c.args.notes.now c.args.from c.args.number c.loop-i.i c.loop-i.left (c.loop-i.auto.i-end c.requires) c.loop-i-test.false c.loop-i.invariant
