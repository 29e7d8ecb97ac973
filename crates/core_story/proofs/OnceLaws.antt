-- In a log that has a story each latch is treated once.
use Rattle.std.specs.Prelude.{ℕ, zero, suc, ◌+◌, false, Some, ◌⊎◌}
use Rattle.std.proofs.Common.{◌≡◌, refl, arith, inl, inr}
use Rattle.std.proofs.lemmas.Bool.{eqb-false}
use Rattle.frp_tree.specs.Tree.{ProgramTree}
use Rattle.pic_machine.specs.Run.{Log}
use Rattle.map_file.specs.declared.maps.MapEvent.{MapEvent}
use Rattle.map_file.specs.declared.maps.Map.{Map}
use Rattle.map_file.specs.MapRules.{IsMap}
use Rattle.firmware_promises.specs.Counts.{latched_count, cleared_count, commit_count, flag_after, is_under_way}
use Rattle.firmware_promises.specs.Once.{Once, Waits, GoesOn}
use Rattle.timed_core.specs.Timing.{Timing}
use Rattle.timed_core.specs.Counts.{runs_of}
use Rattle.timed_core.proofs.OnceLaws.{each_once}
use Rattle.core_story.specs.Values.{item}
use Rattle.core_story.specs.Story.{Story}
use Rattle.core_story.proofs.ItemLaws.{all_by_item}
use Rattle.core_story.proofs.CountLaws.{latched_count_is, cleared_count_is, commit_count_is, flag_after_is}

module _ (p : ProgramTree) (m : Map) (is_map : IsMap m) (t : Timing) (log : Log) (story : Story p m t log) where
  -- How often a flag was cleared, by the runs that are under way.
  pub cleared_by_runs : (n x : ℕ) (e : MapEvent) → item m.events x ≡ Some e → cleared_count log e n ≡ commit_count m log e n + runs_of x (story.tale.stack n)
  cleared_by_runs n x e h =
      omega (arith, cleared_count_is p m t log story n x e h, commit_count_is p m t log story is_map n x e h, (each_once t story.tale n x).clearings)

  pub latched_by_runs : (n x : ℕ) (e : MapEvent) → item m.events x ≡ Some e → latched_count log e n ≡ commit_count m log e n + flag_after log e n + runs_of x (story.tale.stack n)
  latched_by_runs n x e h =
      omega (arith, latched_count_is p m t log story n x e h, commit_count_is p m t log story is_map n x e h, flag_after_is p m t log story n x e h, (each_once t story.tale n x).latches)

  pub no_run_of : (n x : ℕ) (e : MapEvent) → item m.events x ≡ Some e → is_under_way m log e n ≡ false → runs_of x (story.tale.stack n) ≡ 0
  no_run_of n x e h none = by (runs_of x (story.tale.stack n)) refl
    where
      by : (k : ℕ) → runs_of x (story.tale.stack n) ≡ k → runs_of x (story.tale.stack n) ≡ 0
      by zero e = e
      by (suc zero) same = absurd (eqb-false (cleared_count log e n) (commit_count m log e n + 1) none (omega (arith, cleared_by_runs n x e h, same)))
      by (suc (suc k)) same = absurd (omega (arith, (each_once t story.tale n x).once, same))

  pub once : (n : ℕ) → Once m log n
  once n = all_by_item (λ e. Waits m log e n ⊎ GoesOn m log e n) m.events (λ x e h. by x e h (runs_of x (story.tale.stack n)) refl)
    where
      by : (x : ℕ) (e : MapEvent) → item m.events x ≡ Some e → (k : ℕ) → runs_of x (story.tale.stack n) ≡ k → Waits m log e n ⊎ GoesOn m log e n
      by x e h zero none = inl (record { committed = omega (arith, cleared_by_runs n x e h, none); accounted = omega (arith, latched_by_runs n x e h, none) })
      by x e h (suc zero) one = inr (record { under_way = omega (arith, cleared_by_runs n x e h, one); accounted = omega (arith, latched_by_runs n x e h, one) })
      by x e h (suc (suc k)) more = absurd (omega (arith, (each_once t story.tale n x).once, more))
