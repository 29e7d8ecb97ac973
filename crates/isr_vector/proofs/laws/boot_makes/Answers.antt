use Rattle.isr_vector.proofs.BootLaws.{boot-makes}
use Rattle.isr_vector.proofs.laws.boot_makes.Goals as goal

pub returns : goal.returns
returns c = boot-makes
