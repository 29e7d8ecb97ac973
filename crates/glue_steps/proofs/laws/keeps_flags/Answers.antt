use Rattle.std.proofs.Common.{◌≡◌, true}
use Rattle.glue_steps.proofs.StillLaws.{still_flags, still_off}
use Rattle.glue_steps.proofs.laws.keeps_flags.Goals as goal

pub returns : goal.returns
returns c = λ program glue source d done step. (still_flags program (λ p. glue.inside p ≡ true) (λ a. glue.may a ≡ true) d done step source, still_off program (λ p. glue.inside p ≡ true) (λ a. glue.may a ≡ true) d done step)
