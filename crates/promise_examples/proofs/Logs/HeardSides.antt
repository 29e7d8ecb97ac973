-- Where an event is heard: by the examples of two sources.
use Rattle.std.specs.Prelude.{Bool, true, false}
use Rattle.std.proofs.Common.{◌≡◌, refl}
use Rattle.pic_isa.specs.declared.sources.Source.TheVariants.{Tmr1}
use Rattle.pic_regs.specs.Bytes.{Byte, zeros}
use Rattle.pic_machine.specs.Boundary.{Step}
use Rattle.firmware_promises.specs.Urgent.{is_heard}
use Rattle.promise_examples.proofs.Logs.Stories.{chip_of, ran, tick_event}

-- An event on TMR1 is heard with GIE, its enable and PEIE on, and one on INT without PEIE.
abbrev with_pie1 : Byte → Byte → Step
with_pie1 intcon pie1 = let c = chip_of 8 intcon 0 in let there = record c { regs = record c.regs { pie1 = pie1 } } in ran there there

abbrev gie_and : Bool → Bool → Byte
gie_and peie int_enable = record zeros { b7 = true; b6 = peie; b4 = int_enable }

pub tmr1_is_heard_with_peie : is_heard (record tick_event { source = Tmr1 }) (with_pie1 (gie_and true false) (record zeros { b0 = true })) ≡ true
tmr1_is_heard_with_peie = refl

pub tmr1_is_not_heard_without_peie : is_heard (record tick_event { source = Tmr1 }) (with_pie1 (gie_and false false) (record zeros { b0 = true })) ≡ false
tmr1_is_not_heard_without_peie = refl

pub tmr1_is_not_heard_without_its_enable : is_heard (record tick_event { source = Tmr1 }) (with_pie1 (gie_and true true) zeros) ≡ false
tmr1_is_not_heard_without_its_enable = refl

pub int_is_heard_without_peie : is_heard tick_event (with_pie1 (gie_and false true) zeros) ≡ true
int_is_heard_without_peie = refl
