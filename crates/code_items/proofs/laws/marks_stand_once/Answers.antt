use Rattle.std.proofs.Common.{◌≡◌, true}
use Rattle.code_items.proofs.ItemLaws.{once-both}
use Rattle.code_items.proofs.laws.marks_stand_once.Goals as goal

pub returns : goal.returns
returns c = λ first second xs ys apart firsts seconds once_first once_second.
    once-both (λ m. first m ≡ true) (λ m. second m ≡ true) xs ys apart firsts seconds once_first once_second
