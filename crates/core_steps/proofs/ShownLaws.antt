-- What a step of a log that has a story shows of the core of lists, by its label: the flags cleared, the commits, and whether
-- interrupts are turned on.
use Rattle.std.specs.Prelude.{ℕ, zero, suc, ◌+◌, ◌<◌, ◌==◌, Bool, true, false, ◌&&◌, not, List, [], ◌∷◌, ◌++◌, Some}
use Rattle.std.proofs.Common.{◌≡◌, refl, ap, ap₂, ◌∙◌, subst, arith}
use Rattle.std.proofs.lemmas.Bool.{eq-eqb}
use Rattle.std.proofs.Math.Dec.{eqb-suc-suc, eqb-suc-zero, eqb-zero-suc}
use Rattle.frp_tree.specs.Tree.{ProgramTree}
use Rattle.pic_machine.specs.declared.steps.Did.{Did}
use Rattle.pic_machine.specs.declared.steps.Did.TheVariants.{Took, Ran, Stopped}
use Rattle.pic_machine.specs.Boundary.{Step}
use Rattle.pic_machine.specs.Run.{Log}
use Rattle.map_file.specs.declared.maps.MapEvent.{MapEvent}
use Rattle.map_file.specs.declared.maps.Map.{Map}
use Rattle.firmware_promises.specs.Counts.{ran_at, clears}
use Rattle.timed_core.specs.Timing.{Timing}
use Rattle.timed_core.specs.Steps.{Run, Phase, Label, is_on}
use Rattle.timed_core.specs.Steps.Label.{Readies, Clears, Turns, Commits}
use Rattle.timed_core.specs.Tale.{Tale, now, is_clearing}
use Rattle.timed_core.specs.Counts.{committed_by, commits, is_commit}
use Rattle.timed_core.proofs.MoveLaws.{Move}
use Rattle.timed_core.proofs.MoveLaws as moves
use Rattle.timed_core.proofs.ShapeLaws as shapes
use Rattle.core_story.specs.Values.{item}
use Rattle.core_story.specs.Interface.{level_at, is_return_word}
use Rattle.core_story.specs.Interface as stories
use Rattle.core_story.specs.Story.{Story}
use Rattle.core_story.proofs.CountLaws.{clears_is, commits_event}
use Rattle.core_story.proofs.ItemLaws.{event_with_level}
use Rattle.core_steps.specs.LogSteps.{numbers_where, clearing, committing, is_return, turns_on}

-- The numbers of the events that pass a test: none, or one.
pub numbers_none : (es : List MapEvent) (test : MapEvent → Bool) (k : ℕ) → ((x : ℕ) (e : MapEvent) → item es x ≡ Some e → test e ≡ false) → numbers_where test k es ≡ []
numbers_none [] test k none = refl
numbers_none (e ∷ es) test k none = rw (none zero e refl) (numbers_none es test (suc k) (λ x d at. none (suc x) d at))

pub numbers_one : (es : List MapEvent) (test : MapEvent → Bool) (k h : ℕ) → ((x : ℕ) (e : MapEvent) → item es x ≡ Some e → test e ≡ (x == h)) → (d : MapEvent) → item es h ≡ Some d → (n : ℕ) → n ≡ k + h
    → numbers_where test k es ≡ n ∷ []
numbers_one [] test k h one d there n e = absurd cc
numbers_one (a ∷ es) test k zero one d there n e =
    let same : k ≡ n = omega (arith, e) in
    rw (one zero a refl ∙ eq-eqb 0 0 refl, numbers_none es test (suc k) (λ x b at. one (suc x) b at ∙ eqb-suc-zero x)) (ap (λ y. y ∷ []) same)
numbers_one (a ∷ es) test k (suc h) one d there n e =
    rw (one zero a refl ∙ eqb-zero-suc h) (numbers_one es test (suc k) h (λ x b at. one (suc x) b at ∙ eqb-suc-suc x h) d there n (omega (arith, e)))

-- The event whose flag a label clears.
abbrev pub cleared_by : Label → List ℕ
cleared_by (Clears h) = h ∷ []
cleared_by _ = []

-- Interrupts are turned on by what isn't a return: the boot's end, or the beginning of a run's work.
abbrev pub is_turning : Label → Bool
is_turning Readies = true
is_turning Turns = true
is_turning _ = false

module _ (m : Map) where
  clearing_by_label : (label : Label) (step : Step) → ((x : ℕ) (e : MapEvent) → item m.events x ≡ Some e → clears e.source step ≡ is_clearing x label) → ((h : ℕ) → label ≡ Clears h → 0 < level_at m h)
      → clearing m step ≡ cleared_by label
  clearing_by_label (Clears h) step told real =
      let there = event_with_level m h (real h refl) in numbers_one m.events (λ e. clears e.source step) 0 h told there.0 there.1 h (omega arith)
  clearing_by_label label step told real = numbers_none m.events (λ e. clears e.source step) 0 told

  committing_by_label : (label : Label) (step : Step) → ((x : ℕ) (e : MapEvent) → item m.events x ≡ Some e → ran_at e.commit step ≡ is_commit x label) → ((h : ℕ) → label ≡ Commits h → 0 < level_at m h)
      → committing m step ≡ committed_by label
  committing_by_label (Commits h) step told real =
      let there = event_with_level m h (real h refl) in numbers_one m.events (λ e. ran_at e.commit step) 0 h told there.0 there.1 h (omega arith)
  committing_by_label label step told real = numbers_none m.events (λ e. ran_at e.commit step) 0 told

same_return : (did : Did) → is_return did ≡ is_return_word did
same_return Took = refl
same_return (Ran address word) = refl
same_return (Stopped address why) = refl

module _ (t : Timing) (flags : ℕ → Bool) where
  clears_real : {ph ph' : Phase} {l : Label} {st st' : List Run} (h : ℕ) → Move t flags ph l st ph' st' → l ≡ Clears h → 0 < t.level h
  clears_real h (moves.clears {h = x} set best above) same = let it : x ≡ h = cc in subst (λ y. 0 < t.level y) it (omega (arith, above))
  clears_real h _ same = let it = same in absurd cc

  turning : {ph ph' : Phase} {l : Label} {st st' : List Run} → Move t flags ph l st ph' st' → (not (is_on ph) && is_on ph' && not (stories.is_return l)) ≡ is_turning l
  turning (moves.locks {r = r} h) = refl
  turning (moves.owes_takes {on = true}) = refl
  turning (moves.owes_takes {on = false}) = refl
  turning (moves.boots h) = refl
  turning (moves.boots_puts h) = refl
  turning moves.readies = refl
  turning (moves.rests h) = refl
  turning (moves.rests_takes h) = refl
  turning (moves.rests_delays h) = refl
  turning (moves.works h i) = refl
  turning (moves.works_takes h) = refl
  turning (moves.works_delays h i) = refl
  turning (moves.slips h) = refl
  turning (moves.chooses h) = refl
  turning (moves.clears a b c) = refl
  turning (moves.begins h) = refl
  turning moves.turns = refl
  turning (moves.opens_short a b) = refl
  turning (moves.repeats h) = refl
  turning moves.turns_again = refl
  turning (moves.nears h) = refl
  turning moves.opens = refl
  turning (moves.copies h) = refl
  turning (moves.copies_puts h) = refl
  turning moves.commits = refl
  turning (moves.leaves h) = refl
  turning moves.returns_home = refl
  turning moves.returns = refl

module _ (p : ProgramTree) (m : Map) (t : Timing) (log : Log) (story : Story p m t log) where
  abbrev tale : Tale t
  tale = story.tale

  pub clears_event : (n h : ℕ) → tale.label n ≡ Clears h → 0 < level_at m h
  clears_event n h is_it = omega (arith, clears_real t (now tale n) h (shapes.moves t tale n) is_it, story.fitted.level h)

  pub clearing_is : (n : ℕ) → clearing m (log n) ≡ cleared_by (tale.label n)
  clearing_is n = clearing_by_label m (tale.label n) (log n) (λ x e at. clears_is p m t log story n x e at) (clears_event n)

  pub committing_is : (n : ℕ) → committing m (log n) ≡ committed_by (tale.label n)
  committing_is n = committing_by_label m (tale.label n) (log n) (story.told n).committed (commits_event p m t log story n)

  pub returns_is : (n : ℕ) → is_return (log n).did ≡ stories.is_return (tale.label n)
  returns_is n = same_return (log n).did ∙ (story.told n).returns_is

  pub turns_on_is : (n : ℕ) → turns_on (log n) ≡ is_turning (tale.label n)
  turns_on_is n =
      ap₂ (λ (b : Bool) (c : Bool). b && not c) (ap₂ (λ (a : Bool) (b : Bool). not a && b) (story.on n) (story.seen (suc n)).on) (returns_is n)
      ∙ turning t (now tale n) (shapes.moves t tale n)
