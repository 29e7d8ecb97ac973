use Rattle.std.proofs.Common.{refl, ap, ◌∙◌}
use Rattle.pic_machine.specs.Run.{power_on}
use Rattle.arrival_script.proofs.PlayFacts.{played-none}
use Rattle.arrival_script.proofs.player.Player.new.Goals as goal

pub returns : goal.returns
returns c =
    played-none c.args.image.now c.args.script.now _ c.requires.script (c.power_on.ensures.chip ∙ ap power_on c.start_of.ensures) c.power_on.ensures.memory refl c.as_slice.ensures c.as_slice-2.ensures
