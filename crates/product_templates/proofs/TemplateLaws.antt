-- What holds of the acts of each product and quotient.
use Rattle.std.specs.Prelude.{Bool}
use Rattle.frp_tree.specs.declared.syntax.BinOp.{BinOp}
use Rattle.product_templates.specs.Laws.{AreShort, AreSound, TemplateDoes}
use Rattle.product_templates.proofs.EachFacts.{template_each}
use Rattle.product_templates.proofs.SoundFacts.{short_each, sound_each}

pub template_does : (f : BinOp) (wide : Bool) → TemplateDoes f wide
template_does = template_each

pub are_sound : (f : BinOp) (wide : Bool) → AreSound f wide
are_sound = sound_each

pub are_short : (f : BinOp) (wide : Bool) → AreShort f wide
are_short = short_each
