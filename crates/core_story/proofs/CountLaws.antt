-- What a log counts is what its tale counts.
use Rattle.std.specs.Prelude.{ℕ, zero, suc, ◌+◌, ◌<◌, ◌==◌, Bool, true, false, not, ◌&&◌, ◌||◌, cond, List, [], ◌∷◌, ◌++◌, map, count_by, Some}
use Rattle.std.specs.Str.{bytes_eq}
use Rattle.std.proofs.Common.{◌≡◌, refl, sym, ap, ap₂, subst, ◌∙◌, arith}
use Rattle.std.proofs.lemmas.List.{map-append}
use Rattle.std.proofs.lemmas.List.Sums.{sum_by-append}
use Rattle.frp_tree.specs.Tree.{ProgramTree}
use Rattle.pic_regs.specs.Bytes.{one_if}
use Rattle.pic_regs.specs.Registers.{flag}
use Rattle.pic_machine.specs.Boundary.{Step}
use Rattle.pic_machine.specs.Run.{Log}
use Rattle.map_file.specs.declared.maps.MapEvent.{MapEvent}
use Rattle.map_file.specs.declared.maps.Map.{Map}
use Rattle.map_file.specs.MapRules.{IsMap}
use Rattle.firmware_promises.specs.Counts as logs
use Rattle.firmware_promises.specs.Counts.{chip_after, ran_at, latches, clears, latched_count, cleared_count, commit_count, flag_after, is_under_way}
use Rattle.timed_core.specs.Timing.{Timing}
use Rattle.timed_core.specs.Steps.{Run, Phase, Label}
use Rattle.timed_core.specs.Steps.Label.{Opens, Commits}
use Rattle.timed_core.specs.Tale.{Tale, now, is_clearing}
use Rattle.timed_core.specs.Tale as tales
use Rattle.timed_core.specs.Shape.{Shape}
use Rattle.timed_core.specs.Counts as cores
use Rattle.timed_core.specs.Counts.{one, is_commit, runs_of}
use Rattle.timed_core.proofs.MoveLaws.{Move}
use Rattle.timed_core.proofs.MoveLaws as moves
use Rattle.timed_core.proofs.ShapeLaws.{shape_at}
use Rattle.timed_core.proofs.ShapeLaws as shapes
use Rattle.timed_core.proofs.OnceLaws.{cleared_is_set}
use Rattle.core_story.specs.Values.{item, name_at}
use Rattle.core_story.specs.Interface.{level_at, is_opening}
use Rattle.core_story.specs.Story.{Story}
use Rattle.core_story.proofs.ItemLaws.{at_item, event_with_level}
use Rattle.core_story.proofs.NameLaws.{filter_none, filter_one, same_name, name_of_item}

same_count : (log : Log) (test : Step → Bool) (mine : ℕ → Bool) → ((k : ℕ) → test (log k) ≡ mine k) → (n : ℕ) → logs.count log test n ≡ cores.count mine n
same_count log test mine each zero = refl
same_count log test mine each (suc n) = omega (arith, same_count log test mine each n, ap one_if (each n))

-- The events that open, commit or whose flag is cleared are those of the map.
module _ (p : Timing) (now : ℕ → Bool) where
  opens_real : {ph ph' : Phase} {l : Label} {st st' : List Run} (e : ℕ) → Move p now ph l st ph' st' → Shape p ph st → l ≡ Opens e → 0 < p.level e
  opens_real e (moves.opens {r = r} {rs = rs}) s same = let it : r.event ≡ e = cc in let t = s.1 in let low = t.1 in subst (λ x. 0 < p.level x) it (omega arith)
  opens_real e (moves.opens_short {r = r} {rs = rs} is_short h) s same = let it : r.event ≡ e = cc in let t = s.1 in let low = t.1 in subst (λ x. 0 < p.level x) it (omega arith)
  opens_real e _ s same = let it = same in absurd cc

  commits_real : {ph ph' : Phase} {l : Label} {st st' : List Run} (e : ℕ) → Move p now ph l st ph' st' → Shape p ph st → l ≡ Commits e → 0 < p.level e
  commits_real e (moves.commits {r = r} {rs = rs}) s same = let it : r.event ≡ e = cc in let t = s.1 in let low = t.1 in subst (λ x. 0 < p.level x) it (omega arith)
  commits_real e _ s same = let it = same in absurd cc

module _ (m : Map) where
  -- By its label, what a step opens and commits.
  opened_none : (step : Step) → ((x : ℕ) (e : MapEvent) → item m.events x ≡ Some e → ran_at e.«open» step ≡ false) → logs.opened_by m step ≡ []
  opened_none step h = ap (map (λ (e : MapEvent). e.name)) (filter_none m.events (λ e. ran_at e.«open» step) h)

  committed_none : (step : Step) → ((x : ℕ) (e : MapEvent) → item m.events x ≡ Some e → ran_at e.commit step ≡ false) → logs.committed_by m step ≡ []
  committed_none step h = ap (map (λ (e : MapEvent). e.name)) (filter_none m.events (λ e. ran_at e.commit step) h)

  opened_by_label : (label : Label) (step : Step) → ((x : ℕ) (e : MapEvent) → item m.events x ≡ Some e → ran_at e.«open» step ≡ is_opening x label)
      → ((e : ℕ) → label ≡ Opens e → 0 < level_at m e) → logs.opened_by m step ≡ map (name_at m) (cores.opened_by label)
  opened_by_label (Opens h) step told real =
      let there = event_with_level m h (real h refl) in
      ap (map (λ (e : MapEvent). e.name)) (filter_one m.events (λ e. ran_at e.«open» step) h told there.0 there.1) ∙ ap (λ name. name ∷ []) (sym (name_of_item m h there.0 there.1))
  opened_by_label label step told real = opened_none step told

  committed_by_label : (label : Label) (step : Step) → ((x : ℕ) (e : MapEvent) → item m.events x ≡ Some e → ran_at e.commit step ≡ is_commit x label)
      → ((e : ℕ) → label ≡ Commits e → 0 < level_at m e) → logs.committed_by m step ≡ map (name_at m) (cores.committed_by label)
  committed_by_label (Commits h) step told real =
      let there = event_with_level m h (real h refl) in
      ap (map (λ (e : MapEvent). e.name)) (filter_one m.events (λ e. ran_at e.commit step) h told there.0 there.1) ∙ ap (λ name. name ∷ []) (sym (name_of_item m h there.0 there.1))
  committed_by_label label step told real = committed_none step told

module _ (p : ProgramTree) (m : Map) (t : Timing) (log : Log) (story : Story p m t log) where
  abbrev tale : Tale t
  tale = story.tale

  pub opens_event : (n e : ℕ) → tale.label n ≡ Opens e → 0 < level_at m e
  opens_event n e h = omega (arith, opens_real t (tales.now tale n) e (shapes.moves t tale n) (shape_at t tale n) h, story.fitted.level e)

  pub commits_event : (n e : ℕ) → tale.label n ≡ Commits e → 0 < level_at m e
  commits_event n e h = omega (arith, commits_real t (tales.now tale n) e (shapes.moves t tale n) (shape_at t tale n) h, story.fitted.level e)

  pub opened_by_is : (n : ℕ) → logs.opened_by m (log n) ≡ map (name_at m) (cores.opened_by (tale.label n))
  opened_by_is n = opened_by_label m (tale.label n) (log n) (story.told n).opened (opens_event n)

  pub committed_by_is : (n : ℕ) → logs.committed_by m (log n) ≡ map (name_at m) (cores.committed_by (tale.label n))
  committed_by_is n = committed_by_label m (tale.label n) (log n) (story.told n).committed (commits_event n)

  pub opens_are : (n : ℕ) → logs.opens m log n ≡ map (name_at m) (cores.opens tale n)
  opens_are zero = refl
  opens_are (suc n) = ap₂ (λ xs ys. xs ++ ys) (opens_are n) (opened_by_is n) ∙ sym (map-append (name_at m) (cores.opens tale n) (cores.opened_by (tale.label n)))

  pub commits_are : (n : ℕ) → logs.commits m log n ≡ map (name_at m) (cores.commits tale n)
  commits_are zero = refl
  commits_are (suc n) = ap₂ (λ xs ys. xs ++ ys) (commits_are n) (committed_by_is n) ∙ sym (map-append (name_at m) (cores.commits tale n) (cores.committed_by (tale.label n)))

  -- An event's flag is set before it is cleared.
  cleared_flag : (a f c : Bool) → a ≡ (f && not c) → (c ≡ true → f ≡ true) → (f && not a) ≡ c
  cleared_flag a true true e h = let it : a ≡ false = e in rw it refl
  cleared_flag a true false e h = let it : a ≡ true = e in rw it refl
  cleared_flag a false true e h = absurd (let it = h refl in cc)
  cleared_flag a false false e h = refl

  pub flag_arrived_is : (n x : ℕ) (e : MapEvent) → item m.events x ≡ Some e → tales.now tale n x ≡ flag e.source (log n).arrived.regs
  flag_arrived_is n x e h =
      ap₂ (λ a b. a || b) (story.flags n x ∙ at_item m x e (λ source. flag source (chip_after log n).regs) h) (story.arrives n x ∙ at_item m x e (λ source. latches source (log n)) h)
      ∙ sym (story.arrived n e.source)

  pub clears_is : (n x : ℕ) (e : MapEvent) → item m.events x ≡ Some e → clears e.source (log n) ≡ is_clearing x (tale.label n)
  clears_is n x e h =
      cleared_flag (flag e.source (log n).after.regs) (flag e.source (log n).arrived.regs) (is_clearing x (tale.label n)) ((story.told n).flags x e h)
      (λ is_it. sym (flag_arrived_is n x e h) ∙ cleared_is_set t (tales.now tale n) (shapes.moves t tale n) x is_it)

  -- A latch of the tale is one of the log.
  new_latch : (a b f : Bool) → a ≡ b → (b ≡ true → f ≡ false) → b ≡ (a && not f)
  new_latch a true f e h = rw (e, h refl) refl
  new_latch a false f e h = rw e refl

  pub latches_is : (n x : ℕ) (e : MapEvent) → item m.events x ≡ Some e → latches e.source (log n) ≡ cores.latches tale x n
  latches_is n x e h =
      new_latch (tale.arrives n x) (latches e.source (log n)) (tale.flags n x) (story.arrives n x ∙ at_item m x e (λ source. latches source (log n)) h)
      (λ is_it. story.flags n x ∙ at_item m x e (λ source. flag source (chip_after log n).regs) h ∙ story.latches_clear n e.source is_it)

  pub latched_count_is : (n x : ℕ) (e : MapEvent) → item m.events x ≡ Some e → latched_count log e n ≡ cores.latched tale x n
  latched_count_is n x e h = same_count log (latches e.source) (cores.latches tale x) (λ k. latches_is k x e h) n

  pub cleared_count_is : (n x : ℕ) (e : MapEvent) → item m.events x ≡ Some e → cleared_count log e n ≡ cores.cleared tale x n
  cleared_count_is n x e h = same_count log (clears e.source) (λ k. is_clearing x (tale.label k)) (λ k. clears_is k x e h) n

  pub flag_after_is : (n x : ℕ) (e : MapEvent) → item m.events x ≡ Some e → flag_after log e n ≡ one (tale.flags n x)
  flag_after_is n x e h = ap one (sym (story.flags n x ∙ at_item m x e (λ source. flag source (chip_after log n).regs) h))

  module _ (is_map : IsMap m) where
    counted_by_label : (label : Label) (x : ℕ) (e : MapEvent) → item m.events x ≡ Some e → ((h : ℕ) → label ≡ Commits h → 0 < level_at m h)
        → count_by (bytes_eq e.name) (map (name_at m) (cores.committed_by label)) ≡ one (is_commit x label)
    counted_by_label (Commits h) x e at_x real =
        let there = event_with_level m h (real h refl) in
        let it : 0 + one (bytes_eq e.name (name_at m h)) ≡ one (x == h) = omega (arith, ap one (same_name m is_map.event_names x h e there.0 at_x there.1)) in
        it
    counted_by_label label x e at_x real = refl

    pub commit_count_is : (n x : ℕ) (e : MapEvent) → item m.events x ≡ Some e → commit_count m log e n ≡ cores.committed tale x n
    commit_count_is zero x e h = refl
    commit_count_is (suc n) x e h =
        let here : count_by (bytes_eq e.name) (logs.committed_by m (log n)) ≡ one (is_commit x (tale.label n)) =
        ap (count_by (bytes_eq e.name)) (committed_by_is n) ∙ counted_by_label (tale.label n) x e h (commits_event n) in
        sum_by-append (λ name. cond (bytes_eq e.name name) 1 0) (logs.commits m log n) (logs.committed_by m (log n)) ∙ omega (arith, commit_count_is n x e h, here)
