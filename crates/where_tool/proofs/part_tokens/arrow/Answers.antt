use Rattle.std.proofs.Common.{arith}
use Rattle.frp_tree.specs.declared.kinds.Kind.TheVariants.{Definitions}
use Rattle.where_tool.specs.PartTokens.{head_of}
use Rattle.where_tool.proofs.PlaceFacts.{arrow-place}
use Rattle.where_tool.proofs.part_tokens.arrow.Goals as goal

pub arrow_behind-requires : goal.arrow_behind-requires
arrow_behind-requires c = omega (arith, c.head.ensures.within, c.requires)

pub returns-clause-is : goal.returns-clause-is
returns-clause-is c =
    λ cells spelled noted. arrow-place c.head.result (head_of Definitions c.args.decl cells) c.args.clause c.arrow_behind.result c.args.tokens.now cells c.arrow_behind.ensures.is (c.head.ensures.is cells noted) spelled

pub returns-clause-within : goal.returns-clause-within
returns-clause-within c = omega (arith, c.arrow_behind.ensures.within, c.requires)
