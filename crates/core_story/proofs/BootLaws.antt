-- In a log that has a story the boot ends in time, takes, opens and commits nothing, and clears no flag; and what it sets up
-- stands.
use Rattle.std.specs.Prelude.{ℕ, ◌+◌, ◌<◌, ◌≤◌, Bool, true, false, List, [], map, ◌⊎◌}
use Rattle.std.proofs.Common.{◌≡◌, refl, ap, ◌∙◌, arith, inl, inr}
use Rattle.std.proofs.lemmas.Bool.{cases_lt}
use Rattle.frp_tree.specs.Tree.{ProgramTree}
use Rattle.efrp_meaning.specs.Bounds.{boot}
use Rattle.pic_machine.specs.Run.{Log}
use Rattle.map_file.specs.declared.maps.Map.{Map}
use Rattle.firmware_promises.specs.Boots.{FlagsStay}
use Rattle.firmware_promises.specs.Counts.{takes, opened_by, committed_by}
use Rattle.firmware_promises.specs.Follows.{ReadyInTime, BootIsQuiet}
use Rattle.firmware_promises.specs.Ready.{ShowsReady, ReadyAt, BeforeReady}
use Rattle.firmware_promises.specs.Setups.{SetupsStand}
use Rattle.firmware_promises.proofs.ReadyLaws.{not_ready_before, unready}
use Rattle.timed_core.specs.Timing.{Timing}
use Rattle.timed_core.specs.Steps.{Run, Phase, Label}
use Rattle.timed_core.specs.Tale.{now}
use Rattle.timed_core.specs.Counts as cores
use Rattle.timed_core.specs.Promises.{Ready, is_boot, is_taking}
use Rattle.timed_core.proofs.MoveLaws.{Move, boots, boots_puts, readies}
use Rattle.timed_core.proofs.ShapeLaws.{moves}
use Rattle.timed_core.proofs.OnLaws as on_laws
use Rattle.core_story.specs.Values.{name_at}
use Rattle.core_story.specs.Interface.{is_rest}
use Rattle.core_story.specs.Story.{Story}
use Rattle.core_story.proofs.CountLaws.{opened_by_is, committed_by_is}

abbrev Idle : Label → Type 0
Idle l = (is_taking l ≡ false) × (cores.opened_by l ≡ []) × (cores.committed_by l ≡ [])

boot_is_idle : (t : Timing) (flags : ℕ → Bool) {ph ph' : Phase} {l : Label} {st st' : List Run} → Move t flags ph l st ph' st' → is_boot ph ≡ true → Idle l
boot_is_idle t flags (boots h) b = (refl, refl, refl)
boot_is_idle t flags (boots_puts h) b = (refl, refl, refl)
boot_is_idle t flags readies b = (refl, refl, refl)
boot_is_idle t flags _ b = absurd cc

module _ (p : ProgramTree) (m : Map) (t : Timing) (log : Log) (story : Story p m t log) where
  abbrev its_ready : Ready t story.tale
  its_ready = on_laws.ready t story.tale

  -- The ready boundary.
  abbrev pub ready : ℕ
  ready = its_ready.boundary

  pub ready_is_soon : ready ≤ boot p + 1
  ready_is_soon = omega (arith, its_ready.in_time, story.fitted.boot)

  pub in_boot : (k : ℕ) → k < ready → is_boot (story.tale.phase k) ≡ true
  in_boot k h = its_ready.boots k h

  pub past_boot : (k : ℕ) → ready ≤ k → is_boot (story.tale.phase k) ≡ false
  past_boot k h = its_ready.past k h

  idle : (k : ℕ) → k < ready → Idle (story.tale.label k)
  idle k h = boot_is_idle t (now story.tale k) (moves t story.tale k) (in_boot k h)

  pub boot_takes : (k : ℕ) → k < ready → takes (log k) ≡ false
  boot_takes k h = (story.told k).takes_is ∙ (idle k h).0

  boot_opens : (k : ℕ) → k < ready → opened_by m (log k) ≡ []
  boot_opens k h = opened_by_is p m t log story k ∙ ap (map (name_at m)) (idle k h).1

  boot_commits : (k : ℕ) → k < ready → committed_by m (log k) ≡ []
  boot_commits k h = committed_by_is p m t log story k ∙ ap (map (name_at m)) (idle k h).2

  module _ (n : ℕ) where
    unready_in_boot : (k : ℕ) → k < ready → ShowsReady m log n k → ⊥
    unready_in_boot k h = unready m log n k ((story.seen k).not_there (in_boot k h)) (boot_takes k h)

    pub shown_at : ready ≤ n → ShowsReady m log n ready
    shown_at h = inl (h, (story.seen ready).there (ap is_rest its_ready.rests))

    pub ready_is : ready ≤ n → ReadyAt m log n ready
    ready_is h = record { shown = shown_at h; least = unready_in_boot }

    pub ready_from : (r : ℕ) → ReadyAt m log n r → ready ≤ r
    ready_from r is_it = not_ready_before m log n ready unready_in_boot r is_it

    pub before_ready : (k : ℕ) → k ≤ n → BeforeReady m log n k → k < ready
    before_ready k h before = by (cases_lt k ready)
      where
        by : (k < ready) ⊎ (ready ≤ k) → k < ready
        by (inl is_before) = is_before
        by (inr from) = absurd (before ready from (shown_at (omega arith)))

    pub ready_in_time : ReadyInTime p m log n
    ready_in_time h = (ready, omega (arith, ready_is_soon), ready_is (omega (arith, ready_is_soon)))

    pub boot_is_quiet : BootIsQuiet m log n
    boot_is_quiet k h before = let is_before = before_ready k (omega arith) before in (boot_takes k is_before, boot_opens k is_before, boot_commits k is_before)

    pub flags_stay : FlagsStay m log n
    flags_stay k source h before = (story.told k).kept (in_boot k (before_ready k (omega arith) before)) source

    pub setups_stand : SetupsStand p m log n
    setups_stand r k a byte is_it from to = (story.seen k).set_up (past_boot k (let h = ready_from r is_it in omega arith)) a byte
