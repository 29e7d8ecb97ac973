use Rattle.std.proofs.Common.{ap, ◌+◌}
use Rattle.where_tool.proofs.part_tokens.name_token.Goals as goal

pub returns : goal.returns
returns c = λ cells noted. ap (λ n. n + 1) (c.head.ensures.is cells noted)
