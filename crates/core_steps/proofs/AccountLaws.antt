-- In a log that has a story no latch waits longer than its response and what the others cost; and an event that is alone
-- commits within its response.
use Rattle.std.specs.Prelude.{ℕ, zero, suc, ◌+◌, ◌-◌, ◌*◌, ◌<◌, ◌≤◌, Bool, true, false, not, nat_le, List, [], ◌∷◌, sum_by, Some, ◌⊎◌, if◌then◌else◌}
use Rattle.std.specs.Str.{bytes_eq}
use Rattle.std.proofs.Common.{◌≡◌, refl, sym, ap, ◌∙◌, arith, inl, inr}
use Rattle.std.proofs.lemmas.Bool.{cases_lt, and_parts, leb-true}
use Rattle.std.proofs.lemmas.List.Sums.{sum_by-cons}
use Rattle.frp_tree.specs.Tree.{ProgramTree}
use Rattle.efrp_meaning.specs.Bounds.{boot, off, response}
use Rattle.pic_regs.specs.Bytes.{one_if}
use Rattle.pic_regs.specs.Registers.{flag}
use Rattle.pic_machine.specs.Boundary.{Step}
use Rattle.pic_machine.specs.Chip.{Chip}
use Rattle.pic_machine.specs.Run.{Log, program_of, power_on, outer_of, run}
use Rattle.map_file.specs.declared.maps.MapEvent.{MapEvent}
use Rattle.map_file.specs.declared.maps.Map.{Map}
use Rattle.map_file.specs.MapRules.{IsMap}
use Rattle.firmware_promises.specs.Account.{cost, cost_of_others, is_other, Awaits, Accounted, IsAlone, CommitsBy, Responds}
use Rattle.firmware_promises.specs.Counts.{count, latches, latched_count, commit_count}
use Rattle.firmware_promises.specs.Ready.{ReadyAt}
use Rattle.firmware_promises.proofs.HeardLaws.{chip_after_is_of_the_run}
use Rattle.timed_core.specs.Timing.{Timing}
use Rattle.timed_core.specs.Tale.{Tale}
use Rattle.timed_core.specs.Counts.{is_commit}
use Rattle.timed_core.specs.Response as cores
use Rattle.timed_core.proofs.AccountLaws.{accounted, accounted_from_boot}
use Rattle.timed_core.proofs.OvertakingLaws.{count_grows}
use Rattle.core_story.specs.Values.{item}
use Rattle.core_story.specs.Story.{Story}
use Rattle.core_story.proofs.BootLaws.{past_boot, ready_from}
use Rattle.core_story.proofs.CountLaws.{latches_is, latched_count_is, commit_count_is}
use Rattle.core_story.proofs.FittedLaws.{is_listed}
use Rattle.core_story.proofs.ItemLaws.{all_by_item, item_of_all}
use Rattle.core_story.proofs.OnceLaws.{latched_by_runs, no_run_of}
use Rattle.core_steps.specs.Laws.{IsJoined, StoriesAccount, StoriesRespond, ImagesAccount, ImagesRespond}
use Rattle.core_steps.proofs.CostLaws.{body_is, others_are}

-- A count stays where no step passes its test.
count_stays : (log : Log) (test : Step → Bool) (d b n : ℕ) → n ≡ d + b → ((k : ℕ) → b ≤ k → k < n → test (log k) ≡ false) → count log test n ≡ count log test b
count_stays log test zero b n h none = let same : n ≡ b = omega (arith, h) in ap (count log test) same
count_stays log test (suc d) b n h none =
    let same : n ≡ suc (d + b) = omega (arith, h) in
    omega (arith, ap (count log test) same, ap one_if (none (d + b) (omega arith) (omega (arith, same))), count_stays log test d b (d + b) refl (λ k from below. none k from (omega (arith, same))))

sum_zero : (g : MapEvent → ℕ) (es : List MapEvent) → ((x : ℕ) (e : MapEvent) → item es x ≡ Some e → g e ≡ 0) → sum_by g es ≡ 0
sum_zero g [] h = refl
sum_zero g (e ∷ es) h = sum_by-cons g e es ∙ omega (arith, h 0 e refl, sum_zero g es (λ x d at. h (suc x) d at))

module _ (p : ProgramTree) (m : Map) (is_map : IsMap m) (t : Timing) (log : Log) (story : Story p m t log) where
  abbrev tale : Tale t
  tale = story.tale

  module _ (x : ℕ) (e : MapEvent) (at_x : item m.events x ≡ Some e) (b n : ℕ) (a : Awaits m log e b n) where
    awaits : cores.Awaits t tale x b n
    awaits = record {
      latch = sym (latches_is p m t log story b x e at_x) ∙ a.latch;
      first = sym (latched_count_is p m t log story b x e at_x) ∙ a.first ∙ commit_count_is p m t log story is_map b x e at_x;
      later = a.later;
      uncommitted = sym (commit_count_is p m t log story is_map n x e at_x) ∙ a.uncommitted ∙ commit_count_is p m t log story is_map b x e at_x;
    }

    waits_past : (r : ℕ) → ReadyAt m log n r → r ≤ b → n ≤ b + response p e.name + cost_of_others p m log e b n
    waits_past r is_it from =
        let past = past_boot p m t log story b (let ready_first = ready_from p m t log story n r is_it in omega (arith, ready_first, from)) in
        omega (
          arith,
          accounted t (is_listed p m is_map t story.fitted) tale (off p) story.fitted.in_time x b n awaits past,
          body_is p t m story.fitted x e at_x,
          others_are p t m story.fitted is_map log story x e b n at_x,
        )

    waits_from_boot : n ≤ b + boot p + 2 + response p e.name + cost_of_others p m log e b n
    waits_from_boot =
        omega (
          arith,
          accounted_from_boot t (is_listed p m is_map t story.fitted) tale (off p) story.fitted.in_time x b n awaits,
          body_is p t m story.fitted x e at_x,
          story.fitted.boot,
          others_are p t m story.fitted is_map log story x e b n at_x,
        )

  pub log_accounted : (n : ℕ) → Accounted p m log n
  log_accounted n = all_by_item _ m.events (λ x e at_x r b is_it from a. waits_past x e at_x b n a r is_it from)

  module _ (joined : IsJoined log) (n : ℕ) (x : ℕ) (e : MapEvent) (at_x : item m.events x ≡ Some e) (b : ℕ) (alone : IsAlone m log e b n) where
    grows : (j k : ℕ) → j ≤ k → commit_count m log e j ≤ commit_count m log e k
    grows j k h =
        omega (
          arith,
          commit_count_is p m t log story is_map j x e at_x,
          commit_count_is p m t log story is_map k x e at_x,
          count_grows (λ i. is_commit x (tale.label i)) (k - j) j k (omega (arith, h)),
        )

    -- All that was latched before of an event of its own or a higher priority had committed.
    none_waits : (y : ℕ) (d : MapEvent) → item m.events y ≡ Some d → e.priority ≤ d.priority → latched_count log d b ≡ commit_count m log d b
    none_waits y d at_y high =
        let about = item_of_all _ m.events alone.none_about y d at_y high in
        let clear = ap one_if (ap (λ (c : Chip). flag d.source c.regs) (sym (joined b)) ∙ about.0) in
        omega (arith, latched_by_runs p m is_map t log story b y d at_y, clear, no_run_of p m is_map t log story b y d at_y about.1)

    -- While it is uncommitted, the others cost nothing.
    module _ (end : ℕ) (later : b < end) (soon : end ≤ n) (uncommitted : commit_count m log e end ≡ commit_count m log e b) where
      stays : (k : ℕ) → b ≤ k → k < end → commit_count m log e k ≡ commit_count m log e b
      stays k from below = omega (arith, grows b k from, grows k end (omega (arith, below)), uncommitted)

      costless : (y : ℕ) (d : MapEvent) → item m.events y ≡ Some d → (if is_other e d then (latched_count log d end - commit_count m log d b) * cost p m.events e d else 0) ≡ 0
      costless y d at_y = by (is_other e d) refl
        where
          by : (v : Bool) → is_other e d ≡ v → (if v then (latched_count log d end - commit_count m log d b) * cost p m.events e d else 0) ≡ 0
          by false it = refl
          by true it =
              let parts = and_parts (not (bytes_eq d.name e.name)) (nat_le e.priority d.priority) it in
              let high = leb-true e.priority d.priority parts.1 in
              let same = count_stays log (latches d.source) (end - b) b end (omega (arith, later)) (λ k from below. item_of_all _ m.events (alone.none_since k from (omega (arith, below, soon)) (stays k from below)) y d at_y it) in
              let none : latched_count log d end - commit_count m log d b ≡ 0 = omega (arith, same, none_waits y d at_y high) in
              omega (arith, ap (λ k. k * cost p m.events e d) none)

      free : cost_of_others p m log e b end ≡ 0
      free = sum_zero _ m.events costless

      waits : Awaits m log e b end
      waits = record { latch = alone.latch; first = none_waits x e at_x (omega arith); later = later; uncommitted = uncommitted }

    -- It has committed where it can't have waited until then.
    commits_by : (step : ℕ) → b ≤ step → ((end : ℕ) → end ≡ step + 1 → end ≤ n → Awaits m log e b end → cost_of_others p m log e b end ≡ 0 → ⊥) → CommitsBy m log e b step n
    commits_by step from too_late before = by (cases_lt (commit_count m log e b) (commit_count m log e (step + 1)))
      where
        by : (commit_count m log e b < commit_count m log e (step + 1)) ⊎ (commit_count m log e (step + 1) ≤ commit_count m log e b) → commit_count m log e b < commit_count m log e (step + 1)
        by (inl h) = h
        by (inr h) =
            let later : b < step + 1 = omega (arith, from) in
            let soon : step + 1 ≤ n = omega (arith, before) in
            let uncommitted : commit_count m log e (step + 1) ≡ commit_count m log e b = omega (arith, h, grows b (step + 1) (omega (arith, from))) in
            absurd (too_late (step + 1) refl soon (waits (step + 1) later soon uncommitted) (free (step + 1) later soon uncommitted))

    responds_past : (r : ℕ) → ReadyAt m log n r → r ≤ b → CommitsBy m log e b (b + response p e.name) n
    responds_past r is_it from =
        commits_by (b + response p e.name) (omega arith) (λ end is_end soon a none.
        let past = past_boot p m t log story b (let ready_first = ready_from p m t log story n r is_it in omega (arith, ready_first, from)) in
        let bound = accounted t (is_listed p m is_map t story.fitted) tale (off p) story.fitted.in_time x b end (awaits x e at_x b end a) past in
        omega (arith, bound, body_is p t m story.fitted x e at_x, others_are p t m story.fitted is_map log story x e b end at_x, none, is_end))

    responds_from_boot : CommitsBy m log e b (b + boot p + 2 + response p e.name) n
    responds_from_boot =
        commits_by (b + boot p + 2 + response p e.name) (omega arith) (λ end is_end soon a none. omega (arith, waits_from_boot x e at_x b end a, none, is_end))

  pub log_responds : IsJoined log → (n : ℕ) → Responds p m log n
  log_responds joined n =
      all_by_item _ m.events (λ x e at_x b alone. ((λ r is_it from. responds_past joined n x e at_x b alone r is_it from), responds_from_boot joined n x e at_x b alone))

pub stories_account : StoriesAccount
stories_account p image m t log maps its_story n = log_accounted p m maps.rules t log its_story n

pub stories_respond : StoriesRespond
stories_respond p image m t log maps its_story joined n = log_responds p m maps.rules t log its_story joined n

pub images_account : ImagesAccount
images_account p image m t maps tells start outers n is_start = stories_account p image m t (run image start outers) maps (tells start outers is_start) n

pub images_respond : ImagesRespond
images_respond p image m t maps tells start outers n is_start =
    stories_respond p image m t (run image start outers) maps (tells start outers is_start)
    (λ k. sym (chip_after_is_of_the_run (program_of image) (power_on start) (outer_of outers) k)) n
