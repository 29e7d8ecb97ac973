use Rattle.glue_steps.proofs.LineLaws.{flag_behind}
use Rattle.glue_steps.proofs.laws.clears_one_flag.Goals as goal

pub returns : goal.returns
returns c = λ line source c glue. flag_behind line glue source c
