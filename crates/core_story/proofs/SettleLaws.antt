-- A log that has a story has settled where no event was latched for long enough.
use Rattle.std.specs.Prelude.{ℕ, ◌+◌, ◌<◌, ◌≤◌, true, false, List, [], ◌∷◌, map, Some}
use Rattle.std.proofs.Common.{◌≡◌, refl, sym, ap, subst, ◌∙◌, arith}
use Rattle.frp_tree.specs.Tree.{ProgramTree}
use Rattle.efrp_meaning.specs.Bounds.{off, settle_bound}
use Rattle.pic_isa.specs.declared.sources.Source.{Source}
use Rattle.pic_regs.specs.Registers.{flag}
use Rattle.pic_machine.specs.Run.{Log}
use Rattle.map_file.specs.declared.maps.MapEvent.{MapEvent}
use Rattle.map_file.specs.declared.maps.Map.{Map}
use Rattle.map_file.specs.MapRules.{IsMap}
use Rattle.firmware_promises.specs.Counts.{chip_after, latches, commit_count, latched_count}
use Rattle.firmware_promises.specs.Firmware.{event_of}
use Rattle.firmware_promises.specs.Settled.{Settled}
use Rattle.timed_core.specs.Timing.{Timing}
use Rattle.timed_core.specs.Steps.{Run}
use Rattle.timed_core.specs.Counts.{runs_of, one}
use Rattle.timed_core.specs.Settling.{IsSettled}
use Rattle.timed_core.specs.Shape.{Shape, IsEmpty}
use Rattle.timed_core.proofs.ShapeLaws.{shape_at}
use Rattle.timed_core.proofs.SettleLaws.{settles}
use Rattle.core_story.specs.Values.{item}
use Rattle.core_story.specs.Interface.{is_rest}
use Rattle.core_story.specs.Story.{Story}
use Rattle.core_story.proofs.ItemLaws.{all_by_item, at_item, bit_is_of, event_has_level}
use Rattle.core_story.proofs.CountLaws.{flag_after_is}
use Rattle.core_story.proofs.OnceLaws.{latched_by_runs}
use Rattle.core_story.proofs.FittedLaws.{is_listed, settles_in}

no_runs : (x : ℕ) (st : List Run) → IsEmpty st → runs_of x st ≡ 0
no_runs x [] h = refl
no_runs x (r ∷ rs) h = absurd h

module _ (p : ProgramTree) (m : Map) (is_map : IsMap m) (names : map event_of m.events ≡ p.events) (t : Timing) (log : Log) (story : Story p m t log) (n : ℕ) where
  module _ (long : settle_bound p ≤ n) (quiet : (k : ℕ) (source : Source) → k < n → latches source (log k) ≡ true → k + settle_bound p ≤ n) where
    rests : IsSettled t story.tale n
    rests =
        let bound = settles_in p m is_map t story.fitted names in
        settles t (is_listed p m is_map t story.fitted) story.tale (off p) story.fitted.in_time n (
          omega (arith, bound, long),
          (λ k x before arrives.
              let latched = sym (story.arrives k x) ∙ arrives in
              let e = bit_is_of m x (λ source. latches source (log k)) latched in
              omega (arith, bound, quiet k e.0.source before (sym (at_item m x e.0 (λ source. latches source (log k)) e.1) ∙ latched))),
        )

    empty : IsEmpty (story.tale.stack n)
    empty = subst (λ ph. Shape t ph (story.tale.stack n)) rests.rests (shape_at t story.tale n)

    clear_is : (x : ℕ) (e : MapEvent) → item m.events x ≡ Some e → story.tale.flags n x ≡ false
    clear_is x e at_x = rests.clear x (omega (arith, event_has_level m is_map x e at_x, story.fitted.level x))

    clear : (x : ℕ) (e : MapEvent) → item m.events x ≡ Some e → flag e.source (chip_after log n).regs ≡ false
    clear x e at_x = sym (at_item m x e (λ source. flag source (chip_after log n).regs) at_x) ∙ sym (story.flags n x) ∙ clear_is x e at_x

    reacted : (x : ℕ) (e : MapEvent) → item m.events x ≡ Some e → commit_count m log e n ≡ latched_count log e n
    reacted x e at_x =
        omega (arith, latched_by_runs p m is_map t log story n x e at_x, no_runs x (story.tale.stack n) empty, flag_after_is p m t log story n x e at_x, ap one (clear_is x e at_x))

    pub settled : Settled m log n
    settled = record {
      clear = all_by_item _ m.events clear;
      ready = (story.seen n).there (ap is_rest rests.rests);
      reacted = all_by_item _ m.events reacted;
    }
