-- In a log that has a story windows open and close in turn, each in time, and no interrupt is taken in one.
use Rattle.std.specs.Prelude.{ℕ, Bool, false, List, [], ◌∷◌, ◌++◌, map, ◌⊎◌}
use Rattle.std.proofs.Common.{◌≡◌, refl, sym, ap, ◌∙◌, arith, append-nil, inl, inr}
use Rattle.std.proofs.lemmas.List.{map-append}
use Rattle.frp_tree.specs.Tree.{ProgramTree}
use Rattle.pic_machine.specs.Run.{Log}
use Rattle.map_file.specs.declared.maps.Map.{Map}
use Rattle.firmware_promises.specs.Counts as logs
use Rattle.firmware_promises.specs.Counts.{takes}
use Rattle.firmware_promises.specs.Follows.{NoWindow, Window, Alternates, NoTakingInside, ClosesInTime}
use Rattle.firmware_promises.proofs.ListLaws.{no_longer, same_last}
use Rattle.timed_core.specs.Timing.{Timing}
use Rattle.timed_core.specs.Steps.{Run, Phase, Label}
use Rattle.timed_core.specs.Steps.Phase.{Copies}
use Rattle.timed_core.specs.Steps.Label.{Opens}
use Rattle.timed_core.specs.Tale.{Tale, now}
use Rattle.timed_core.specs.Counts.{commits, opened_by, committed_by, window}
use Rattle.timed_core.specs.Promises.{is_taking}
use Rattle.timed_core.proofs.MoveLaws.{Move, copies, copies_puts, commits as its_commits}
use Rattle.timed_core.proofs.ShapeLaws.{moves}
use Rattle.timed_core.proofs.WindowLaws.{opens_in_turn, closes_in_time}
use Rattle.core_story.specs.Values.{name_at}
use Rattle.core_story.specs.Story.{Story}
use Rattle.core_story.proofs.CountLaws.{opened_by_is, committed_by_is, opens_are, commits_are}

-- A window of a run stands open.
pub record StandsOpen (ph : Phase) (st : List Run) : Type 0 where
  pub left : ℕ
  pub run : Run
  pub rest : List Run
  pub phase : ph ≡ Copies left
  pub stack : st ≡ run ∷ rest

open_or_not : (ph : Phase) (st : List Run) → (window ph st ≡ []) ⊎ StandsOpen ph st
open_or_not (Copies j) [] = inl refl
open_or_not (Copies j) (r ∷ rs) = inr (record { left = j; run = r; rest = rs; phase = refl; stack = refl })
open_or_not _ st = inl refl

window_of : (ph : Phase) (st : List Run) (w : StandsOpen ph st) → window ph st ≡ w.run.event ∷ []
window_of ph st w = (λ i. window (w.phase i) (w.stack i))

no_taking : (t : Timing) (flags : ℕ → Bool) {ph ph' : Phase} {l : Label} {st st' : List Run} (j : ℕ) → Move t flags ph l st ph' st' → ph ≡ Copies j → is_taking l ≡ false
no_taking t flags j (copies h) e = refl
no_taking t flags j (copies_puts h) e = refl
no_taking t flags j its_commits e = refl
no_taking t flags j _ e = let it = e in absurd cc

opened_one : (m : Map) (l : Label) (e : List ℕ) → map (name_at m) (opened_by l) ≡ e ∷ [] → (x : ℕ) × (l ≡ Opens x) × (name_at m x ≡ e)
opened_one m (Opens x) e h = (x, refl, let it = h in cc)
opened_one m _ e h = let it = h in absurd cc

module _ (p : ProgramTree) (m : Map) (t : Timing) (log : Log) (story : Story p m t log) where
  abbrev tale : Tale t
  tale = story.tale

  -- What opened in the log, by what committed.
  turn : (k : ℕ) → logs.opens m log k ≡ logs.commits m log k ++ map (name_at m) (window (tale.phase k) (tale.stack k))
  turn k =
      opens_are p m t log story k ∙ ap (map (name_at m)) (opens_in_turn t tale k) ∙ map-append (name_at m) (commits tale k) (window (tale.phase k) (tale.stack k))
      ∙ ap (λ names. names ++ map (name_at m) (window (tale.phase k) (tale.stack k))) (sym (commits_are p m t log story k))

  shut : (k : ℕ) → window (tale.phase k) (tale.stack k) ≡ [] → NoWindow m log k
  shut k h = turn k ∙ ap (λ xs. logs.commits m log k ++ map (name_at m) xs) h ∙ append-nil (logs.commits m log k)

  stands : (k : ℕ) (w : StandsOpen (tale.phase k) (tale.stack k)) → Window m log k (name_at m w.run.event)
  stands k w = turn k ∙ ap (λ xs. logs.commits m log k ++ map (name_at m) xs) (window_of (tale.phase k) (tale.stack k) w)

  -- Where no window stands in the log, none does in the tale; and one there is one here.
  pub no_window : (k : ℕ) → NoWindow m log k → StandsOpen (tale.phase k) (tale.stack k) → ⊥
  no_window k none w = no_longer (logs.commits m log k) (name_at m w.run.event) (sym none ∙ stands k w)

  pub window_stands : (k : ℕ) (e : List ℕ) → Window m log k e → (w : StandsOpen (tale.phase k) (tale.stack k)) × (name_at m w.run.event ≡ e)
  window_stands k e is_open = by (open_or_not (tale.phase k) (tale.stack k))
    where
      by : (window (tale.phase k) (tale.stack k) ≡ []) ⊎ StandsOpen (tale.phase k) (tale.stack k) → (w : StandsOpen (tale.phase k) (tale.stack k)) × (name_at m w.run.event ≡ e)
      by (inl none) = absurd (no_longer (logs.commits m log k) e (sym (shut k none) ∙ is_open))
      by (inr w) = (w, same_last (logs.commits m log k) e (name_at m w.run.event) (sym is_open ∙ stands k w))

  module _ (n : ℕ) where
    pub alternates : Alternates m log n
    alternates k h = by (open_or_not (tale.phase k) (tale.stack k))
      where
        by : (window (tale.phase k) (tale.stack k) ≡ []) ⊎ StandsOpen (tale.phase k) (tale.stack k) → NoWindow m log k ⊎ ((e : List ℕ) × Window m log k e)
        by (inl none) = inl (shut k none)
        by (inr w) = inr (name_at m w.run.event, stands k w)

    pub no_taking_inside : NoTakingInside m log n
    no_taking_inside k e h is_open =
        let it = window_stands k e is_open in (story.told k).takes_is ∙ no_taking t (now tale k) it.0.left (moves t tale k) it.0.phase

    pub closes : ClosesInTime p m log n
    closes s e h opened =
        let it = opened_one m (tale.label s) e (sym (opened_by_is p m t log story s) ∙ opened) in
        let close = closes_in_time t tale s it.0 it.1 in
        let w = story.fitted.in_time in (
          close.0,
          close.1,
          (let soon = close.2 in omega (arith, w.commit)),
          committed_by_is p m t log story close.0 ∙ ap (λ l. map (name_at m) (committed_by l)) close.3 ∙ ap (λ name. name ∷ []) it.2,
        )
