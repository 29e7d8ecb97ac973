use Rattle.std.proofs.Common.{sym, subst, ◌+◌, ◌∙◌}
use Rattle.frp_tree.specs.declared.marks.TheConstants.{ARROW}
use Rattle.where_tool.specs.PartTokens.{is_mark}
use Rattle.where_tool.proofs.PlaceFacts.{Left, left-here, left-passed, left-other, left-end}
use Rattle.where_tool.proofs.part_tokens.arrow_behind.Goals as goal
use Rattle.where_tool.proofs.part_tokens.arrow_behind.Goals.{then-is_arrow+else-left-eq0, else-is_arrow}

pub returns-then-left-eq0-clause-is : goal.returns-then-left-eq0-clause-is
returns-then-left-eq0-clause-is c =
    left-here (is_mark ARROW) c.args.tokens.now c.args.from c.args.number c.loop-i.i c.loop-i.left c.index-tokens-i.result c.loop-i-test.true c.index-tokens-i.is
    (sym c.is_arrow.ensures ∙ c.if-is_arrow.true) c.if-left-eq0.true c.loop-i.invariant

pub loop-i-preserved : goal.loop-i-preserved
loop-i-preserved c =
    elim c.if-is_arrow.branch [
      | then-is_arrow+else-left-eq0 w ↦
          subst (Left (is_mark ARROW) c.args.tokens.now c.args.from c.args.number (c.loop-i.i + 1)) (sym w.left-is)
          (left-passed (is_mark ARROW) c.args.tokens.now c.args.from c.args.number c.loop-i.i c.loop-i.left c.index-tokens-i.result c.loop-i-test.true c.index-tokens-i.is (sym c.is_arrow.ensures ∙ w.if-is_arrow.true)
          w.if-left-eq0.false c.loop-i.invariant)
      | else-is_arrow w ↦
          subst (Left (is_mark ARROW) c.args.tokens.now c.args.from c.args.number (c.loop-i.i + 1)) (sym w.left-is)
          (left-other (is_mark ARROW) c.args.tokens.now c.args.from c.args.number c.loop-i.i c.loop-i.left c.index-tokens-i.result c.loop-i-test.true c.index-tokens-i.is (sym c.is_arrow.ensures ∙ w.if-is_arrow.false) c.loop-i.invariant)
    ]

pub returns-clause-is : goal.returns-clause-is
returns-clause-is c =
    left-end (is_mark ARROW) c.args.tokens.now c.args.from c.args.number c.loop-i.i c.loop-i.left (c.loop-i.auto.i-end c.requires) c.loop-i-test.false c.loop-i.invariant
