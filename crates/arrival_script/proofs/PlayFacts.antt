-- The run of a script by a player, step by step.
use Rattle.std.proofs.Common.{◌≡◌, ℕ, ◌+◌, ◌<◌, Bool, sym, ap, subst, ◌∙◌, add-one, arith}
use Rattle.std.proofs.Math.Path.{fun_ext}
use Rattle.hex_file.specs.declared.images.Image.{Image}
use Rattle.pic_regs.specs.Registers.{flag}
use Rattle.pic_regs.specs.Arrivals.{no_source, set_of, number_of}
use Rattle.pic_regs.proofs.ArrivalLaws.{set_of-number_of}
use Rattle.pic_machine.specs.declared.steps.Stepped.{Stepped}
use Rattle.pic_machine.specs.Chip.{Chip}
use Rattle.pic_machine.specs.declared.chip.Chip.{Chip as CodeChip}
use Rattle.pic_machine.specs.Boundary.{Outer, Step, with_arrivals, with_changed_pins, boundary, stepped}
use Rattle.pic_machine.specs.Run.{power_on, program_of, outer_of}
use Rattle.pic_machine.specs.State.{chip_of, memory_of}
use Rattle.arrival_script.specs.declared.scripts.Script.{Script}
use Rattle.arrival_script.specs.declared.player.Player.{Player}
use Rattle.arrival_script.specs.declared.player.Seen.{Seen}
use Rattle.arrival_script.specs.Scripts.{IsScript}
use Rattle.arrival_script.specs.Sends.{ChangeFrom, RiseFrom}
use Rattle.arrival_script.specs.Trace.{start_of, set_at, pins_at, is_late_at, outers_of}
use Rattle.arrival_script.specs.Running.{log_of, chip_at}
use Rattle.arrival_script.specs.Playing.{IsSeen, Played}
use Rattle.arrival_script.proofs.RunFacts.{outer-at, outer_with, script-changes, script-rises}
use Rattle.arrival_script.proofs.SourceFacts.{set_of-zero}

pub played-none : (image : Image) (s : Script) (p : Player) → IsScript s → chip_of p.chip ≡ power_on (start_of s) → memory_of p.chip ≡ program_of image
    → p.late ≡ s.late → p.pending.now ≡ s.arrivals → p.changes.now ≡ s.pins → Played image s 0 p
played-none image s p is chip memory late pending changes = record {
  memory = memory;
  chip = chip;
  late = late;
  rise = subst (RiseFrom 0) (sym pending) (script-rises s is);
  left = λ i h. ap (λ arrivals. set_at arrivals i) pending;
  change = subst (ChangeFrom 0) (sym changes) (script-changes s is);
  pins = λ i h. ap (λ pins. pins_at pins i) changes;
}

-- A step: the pins are set, the sources arrive, the flags are read, and an interrupt is taken or an instruction runs.
pub record Steps (k sources : ℕ) (late : Bool) (pinned come : CodeChip) (report : Stepped) (p next : Player) (seen : Seen) : Type 0 where
  pub arriving : set_of sources ≡ set_at p.pending.now k
  pub pinned_is : chip_of pinned ≡ with_changed_pins (pins_at p.changes.now k) (chip_of p.chip)
  pub pinned_memory : memory_of pinned ≡ memory_of p.chip
  pub come_is : chip_of come ≡ with_arrivals (set_of sources) (chip_of pinned)
  pub come_memory : memory_of come ≡ memory_of pinned
  pub flags : seen.arrived ≡ number_of (λ source. flag source (chip_of come).regs)
  pub is_late : late ≡ is_late_at p.late k
  pub report_is : report ≡ stepped (boundary (memory_of come) (outer_with (set_of 0) late) (chip_of come))
  pub chip : chip_of next.chip ≡ (boundary (memory_of come) (outer_with (set_of 0) late) (chip_of come)).after
  pub memory : memory_of next.chip ≡ memory_of come
  pub rise : RiseFrom (k + 1) next.pending.now
  pub later : (i : ℕ) → k < i → set_at next.pending.now i ≡ set_at p.pending.now i
  pub change : ChangeFrom (k + 1) next.changes.now
  pub pins : (i : ℕ) → k < i → pins_at next.changes.now i ≡ pins_at p.changes.now i
  pub late_same : next.late ≡ p.late
  pub did : seen.did ≡ report.did
  pub port : seen.port ≡ report.port

module _ (image : Image) (s : Script) (k sources : ℕ) (late : Bool) (pinned come : CodeChip) (report : Stepped) (p next : Player) (seen : Seen)
    (inside : k < s.steps) (steps : Steps k sources late pinned come report p next seen) (so : Played image s k p) where
  arrived : chip_of come ≡ (log_of image s k).arrived
  arrived =
      steps.come_is ∙ ap (with_arrivals (set_of sources)) (steps.pinned_is ∙ ap (λ q. with_changed_pins q (chip_of p.chip)) (so.pins k (omega arith)) ∙ ap (with_changed_pins (pins_at s.pins k)) so.chip)
      ∙ ap (λ a. with_arrivals a (with_changed_pins (pins_at s.pins k) (chip_at image s k))) (steps.arriving ∙ so.left k (omega arith))
      ∙ ap (λ o. with_arrivals o.arrivals (with_changed_pins o.pins (chip_at image s k))) (sym (outer-at s k inside))

  step-is : (X : Type 0) (f : Step → X) → f (boundary (memory_of come) (outer_with (set_of 0) late) (chip_of come))
      ≡ f (boundary (program_of image) (outer_with no_source (outer_of (outers_of s) k).late) (log_of image s k).arrived)
  step-is X f =
      ap (λ program. f (boundary program (outer_with (set_of 0) late) (chip_of come))) (steps.come_memory ∙ steps.pinned_memory ∙ so.memory)
      ∙ ap (λ c. f (boundary (program_of image) (outer_with (set_of 0) late) c)) arrived
      ∙ ap (λ set. f (boundary (program_of image) (outer_with set late) (log_of image s k).arrived)) (fun_ext set_of-zero)
      ∙ ap (λ l. f (boundary (program_of image) (outer_with no_source l) (log_of image s k).arrived))
      (steps.is_late ∙ ap (λ l. is_late_at l k) so.late ∙ ap (λ (o : Outer). o.late) (sym (outer-at s k inside)))

  pub seen-is : IsSeen (log_of image s k) seen
  seen-is = record {
    flags = λ source. ap (λ n. set_of n source) steps.flags ∙ set_of-number_of (λ x. flag x (chip_of come).regs) source ∙ ap (λ (c : Chip). flag source c.regs) arrived;
    did = steps.did ∙ ap (λ (r : Stepped). r.did) steps.report_is ∙ step-is _ (λ step. step.did);
    port = steps.port ∙ ap (λ (r : Stepped). r.port) steps.report_is ∙ step-is _ (λ step. step.port);
  }

  pub played-more : Played image s (k + 1) next
  played-more = record {
    memory = steps.memory ∙ steps.come_memory ∙ steps.pinned_memory ∙ so.memory;
    chip = steps.chip ∙ step-is Chip (λ step. step.after) ∙ sym (ap (chip_at image s) (add-one k));
    late = steps.late_same ∙ so.late;
    rise = steps.rise;
    left = λ i h. steps.later i (omega arith) ∙ so.left i (omega arith);
    change = steps.change;
    pins = λ i h. steps.pins i (omega arith) ∙ so.pins i (omega arith);
  }
