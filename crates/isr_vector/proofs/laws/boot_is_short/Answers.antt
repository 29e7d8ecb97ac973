use Rattle.isr_vector.proofs.BootCountLaws.{boot-is_short}
use Rattle.isr_vector.proofs.laws.boot_is_short.Goals as goal

pub returns : goal.returns
returns c = boot-is_short
