use Rattle.std.proofs.Common.{ap, ◌∙◌}
use Rattle.std.specs.List.{list_any}
use Rattle.frp_tree.specs.declared.syntax.Output.{Output}
use Rattle.pic_isa.specs.Names.{port_at}
use Rattle.firmware_promises.specs.Firmware.{is_port_at}
use Rattle.firmware_map.proofs.PortFacts.{shown-of}
use Rattle.firmware_map.proofs.uses.Uses.shows_at.Goals as goal

pub returns : goal.returns
returns c =
    let same = c.as_slice.ensures ∙ ap (λ x. x.outputs) (c.program.ensures ∙ ap (λ t. t.program) c.typed.ensures) in
    c.shows_one_at.ensures ∙ ap (list_any (λ (o : Output). is_port_at c.args.address (port_at o.port))) same ∙ shown-of c.args.address c.args.self.now.c.now.typed.program.outputs
