use Rattle.std.proofs.Common.{refl, sym, ap, ◌∙◌, arith}
use Rattle.frp_tree.specs.Tree.{program_tree_of}
use Rattle.efrp_types.specs.Numbers.{event_source}
use Rattle.efrp_types.specs.declared.typed.Typed.{Typed}
use Rattle.pic_isa.proofs.UniqueNameLaws.{one_source}
use Rattle.firmware_layout.proofs.CodeFacts.{work_at}
use Rattle.firmware_layout.proofs.code.Parts.run.Goals as goal

pub returns-clause-source : goal.returns-clause-source
returns-clause-source c = λ source are.
    let event = c.args.event in
    let named = sym (ap (λ (t : Typed). event_source (program_tree_of t.program) event) c.typed.ensures) ∙ c.event_source.ensures in
    let below = c.requires.event in
    let events = c.requires.parts.levels.events in
    one_source c.event_source.result (source event) (sym named ∙ are event (omega (arith, events, below)))

pub returns-clause-plan : goal.returns-clause-plan
returns-clause-plan c = λ source.
    let below = c.requires.event in
    let count = c.requires.parts.events in
    let its = work_at c.args.self.now c.args.spread source c.args.event c.index-self-event.result (omega (arith, count, below)) in
    record {
      event_is = refl;
      kind = c.kind.ensures c.args.spread source;
      need = refl;
      spread = refl;
      work = its.work;
      bank = its.bank;
      moves = c.as_slice.ensures.value ∙ its.moves;
    }
