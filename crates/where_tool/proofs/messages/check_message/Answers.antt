use Rattle.std.proofs.Common.{[], ◌∙◌}
use Rattle.where_tool.proofs.PointFacts.{ok-map}
use Rattle.where_tool.proofs.messages.check_message.Goals as goal

pub returns-in-BadRegister : goal.returns-in-BadRegister
returns-in-BadRegister c = rw c.in-BadRegister.is (ok-map _ _ c.from_str-in-BadRegister.result (λ text is. is ∙ c.register_message.ensures []) c.from_str-in-BadRegister.ensures.ok)

pub returns-in-LiteralRange : goal.returns-in-LiteralRange
returns-in-LiteralRange c = rw c.in-LiteralRange.is (ok-map _ _ c.from_str-in-LiteralRange.result (λ text is. is ∙ c.literal_message.ensures []) c.from_str-in-LiteralRange.ensures.ok)

pub returns-in-TypeOf : goal.returns-in-TypeOf
returns-in-TypeOf c = rw c.in-TypeOf.is (c.types_message.ensures c.args.part [])
