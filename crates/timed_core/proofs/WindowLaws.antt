-- Windows open and close in turn, each in time.
use Rattle.std.specs.Prelude.{ℕ, zero, suc, ◌<◌, Bool, true, false, List, [], ◌∷◌, ◌++◌, ◌⊎◌}
use Rattle.std.proofs.Common.{◌≡◌, refl, sym, ap, ◌∙◌, append_assoc, append-nil, arith, inl, inr}
use Rattle.timed_core.specs.Timing.{Timing}
use Rattle.timed_core.specs.Steps.{Run, Phase, Label, locked}
use Rattle.timed_core.specs.Steps.Phase.{Copies}
use Rattle.timed_core.specs.Steps.Label.{Opens, Commits}
use Rattle.timed_core.specs.Tale.{Tale, now}
use Rattle.timed_core.specs.Counts.{opened_by, committed_by, commits, top_event, window}
use Rattle.timed_core.specs.Promises.{OpensInTurn, ClosesInTime, is_taking}
use Rattle.timed_core.proofs.MoveLaws.{Move, locks, copies, copies_puts, opens as its_opens, opens_short, commits as its_commits}
use Rattle.timed_core.proofs.ShapeLaws.{moves}
use Rattle.timed_core.proofs.ComesLaws.{comes}

-- The window of an event stands open, and closes.
abbrev InWindow : ℕ → Phase → List Run → Type 0
InWindow e (Copies j) [] = ⊥
InWindow e (Copies j) (r ∷ rs) = r.event ≡ e
InWindow e _ _ = ⊥

abbrev copies_left : Phase → ℕ
copies_left (Copies j) = j
copies_left _ = 0

module _ (p : Timing) where
  locked_shut : (b : Bool) (st : List Run) → [] ≡ window (locked p b) st
  locked_shut true st = refl
  locked_shut false st = refl

  module _ (flags : ℕ → Bool) where
    pub window_step : {ph ph' : Phase} {l : Label} {st st' : List Run} → Move p flags ph l st ph' st' → window ph st ++ opened_by l ≡ committed_by l ++ window ph' st'
    window_step (locks {r = r} {rs = rs} none) = locked_shut r.void (r ∷ rs)
    window_step (copies {st = st} h) = append-nil (top_event st)
    window_step (copies_puts {st = st} h) = append-nil (top_event st)
    window_step _ = refl

    copy_step : {ph ph' : Phase} {l : Label} {st st' : List Run} (e : ℕ) → Move p flags ph l st ph' st' → InWindow e ph st
        → (l ≡ Commits e) ⊎ (InWindow e ph' st' × (copies_left ph' < copies_left ph))
    copy_step e (copies {st = []} h) i = absurd i
    copy_step e (copies {st = r ∷ rs} h) i = inr (i, h)
    copy_step e (copies_puts {st = []} h) i = absurd i
    copy_step e (copies_puts {st = r ∷ rs} h) i = inr (i, h)
    copy_step e its_commits i = inl (ap Commits i)
    copy_step e _ i = absurd i

    copy_takes_none : {ph ph' : Phase} {l : Label} {st st' : List Run} (e : ℕ) → Move p flags ph l st ph' st' → InWindow e ph st → is_taking l ≡ false
    copy_takes_none e (copies h) i = refl
    copy_takes_none e (copies_puts h) i = refl
    copy_takes_none e its_commits i = refl
    copy_takes_none e _ i = absurd i

    opened_window : {ph ph' : Phase} {l : Label} {st st' : List Run} (e : ℕ) → Move p flags ph l st ph' st' → l ≡ Opens e → InWindow e ph' st' × (copies_left ph' ≡ p.copying)
    opened_window e its_opens same = (let it = same in cc, refl)
    opened_window e (opens_short is_short h) same = (let it = same in cc, refl)
    opened_window e _ same = let it = same in absurd cc

module _ (p : Timing) (tale : Tale p) where
  pub opens_in_turn : OpensInTurn p tale
  opens_in_turn zero = rw tale.starts refl
  opens_in_turn (suc n) =
      ap (λ xs. xs ++ opened_by (tale.label n)) (opens_in_turn n)
      ∙ append_assoc (commits tale n) (window (tale.phase n) (tale.stack n)) (opened_by (tale.label n))
      ∙ ap (λ xs. commits tale n ++ xs) (window_step p (now tale n) (moves p tale n))
      ∙ sym (append_assoc (commits tale n) (committed_by (tale.label n)) (window (tale.phase (suc n)) (tale.stack (suc n))))

  pub closes_in_time : ClosesInTime p tale
  closes_in_time n e opened =
      let first = opened_window p (now tale n) e (moves p tale n) opened in
      let it = comes (λ k. copies_left (tale.phase k)) (λ k. InWindow e (tale.phase k) (tale.stack k)) (λ k. tale.label k ≡ Commits e)
      (λ k i. copy_step p (now tale k) e (moves p tale k) i) (suc n) first.0 in (
        it.0,
        let h = it.1 in omega arith,
        let h = it.2 in let full = first.1 in omega arith,
        it.3,
        λ j after upto. copy_takes_none p (now tale j) e (moves p tale j) (it.4 j after upto),
      )
