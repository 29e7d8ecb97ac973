use Rattle.std.specs.Prelude.{None}
use Rattle.frp_tree.specs.Tree.{behaviour_of}
use Rattle.two_phase.proofs.AddFacts.{reacts-tells}
use Rattle.two_phase.proofs.planning.reacts.Goals as goal

pub returns-in-Some : goal.returns-in-Some
returns-in-Some c = reacts-tells c.args.event.now (behaviour_of c.args.d.now.behaviour) _ c.in-Some.ensures

pub returns-in-None : goal.returns-in-None
returns-in-None c = reacts-tells c.args.event.now (behaviour_of c.args.d.now.behaviour) None c.in-None.ensures
