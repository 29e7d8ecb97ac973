use Rattle.std.proofs.lemmas.List.Sums.{prefix_len-le-length}
use Rattle.efrp_syntax.specs.Pieces.{is_in}
use Rattle.efrp_syntax.proofs.RunFacts.{run_prefix}
use Rattle.efrp_syntax.proofs.classes.Class.run.Goals as goal

pub split_at-requires : goal.split_at-requires
split_at-requires c = rw c.count.ensures (prefix_len-le-length (is_in c.args.self) c.args.text.now)

pub returns : goal.returns
returns c = rw (c.split_at.ensures.front, c.split_at.ensures.back, c.count.ensures) (run_prefix (is_in c.args.self) c.args.text.now)
