use Rattle.std.proofs.Common.{ap, ◌+◌, ◌∙◌}
use Rattle.where_tool.specs.PartTokens.{token_of}
use Rattle.where_tool.proofs.part_tokens.fault_token.Goals as goal

pub returns : goal.returns
returns c =
    λ cells spelled noted. ap (λ n. n + c.offset_of.result) (c.token_of.ensures.is cells spelled noted) ∙ ap (λ k. token_of c.args.part cells + k) c.offset_of.ensures.is
