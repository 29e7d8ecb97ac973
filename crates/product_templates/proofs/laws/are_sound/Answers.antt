use Rattle.product_templates.proofs.SoundFacts.{sound_each}
use Rattle.product_templates.proofs.laws.are_sound.Goals as goal

pub returns : goal.returns
returns c = sound_each
