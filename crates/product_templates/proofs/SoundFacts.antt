-- Each template is sound and has its words.
use Rattle.std.proofs.Common.{Bool, true, false, refl, lit≤}
use Rattle.frp_tree.specs.declared.syntax.BinOp.{BinOp}
use Rattle.frp_tree.specs.declared.syntax.BinOp.TheVariants.{Mul, Div, Rem}
use Rattle.product_templates.specs.Laws.{AreSound, AreShort}

pub sound_each : (f : BinOp) (wide : Bool) → AreSound f wide
sound_each Mul false h = (refl, refl)
sound_each Mul true h = (refl, refl)
sound_each Div false h = (refl, refl)
sound_each Div true h = (refl, refl)
sound_each Rem false h = (refl, refl)
sound_each Rem true h = (refl, refl)
sound_each _ wide h = absurd cc

pub short_each : (f : BinOp) (wide : Bool) → AreShort f wide
short_each Mul false h = (refl, lit≤ tt)
short_each Mul true h = (refl, lit≤ tt)
short_each Div false h = (refl, lit≤ tt)
short_each Div true h = (refl, lit≤ tt)
short_each Rem false h = (refl, lit≤ tt)
short_each Rem true h = (refl, lit≤ tt)
short_each _ wide h = absurd cc
