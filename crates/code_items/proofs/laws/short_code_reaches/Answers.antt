use Rattle.code_items.proofs.StandLaws.{short-reaches}
use Rattle.code_items.proofs.laws.short_code_reaches.Goals as goal

pub returns : goal.returns
returns c = λ program marks q m xs ys x short ends word stands high low. short-reaches program marks q m xs ys x short ends word stands high low
