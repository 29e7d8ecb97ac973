-- None overtakes: at the lock no more urgent event waits, and its window opens soon.
use Rattle.std.specs.Prelude.{ℕ, zero, suc, ◌+◌, ◌-◌, ◌<◌, ◌≤◌, Bool, true, false, not, ◌&&◌, ◌||◌, List, ◌∷◌}
use Rattle.std.proofs.Common.{◌≡◌, refl, ap, arith}
use Rattle.timed_core.specs.Timing.{Timing, Quick}
use Rattle.timed_core.specs.Steps.{Run, Phase, Label, Above, locked, top_level}
use Rattle.timed_core.specs.Steps.Phase.{Nears}
use Rattle.timed_core.specs.Steps.Label.{Opens}
use Rattle.timed_core.specs.Tale.{Tale, now}
use Rattle.timed_core.specs.Counts.{one, count, latches, latched, committed}
use Rattle.timed_core.specs.Promises.{NoOvertaking}
use Rattle.timed_core.proofs.MoveLaws.{Move, locks, opens_short, nears, opens}
use Rattle.timed_core.proofs.ShapeLaws.{moves}
use Rattle.timed_core.proofs.NestingLaws.{tower_at}
use Rattle.timed_core.proofs.OnceLaws.{each_once, none_above}

-- Counts only grow.
pub count_grows : (test : ℕ → Bool) (d n k : ℕ) → k ≡ d + n → count test n ≤ count test k
count_grows test zero n k e = let same : n ≡ k = omega arith in omega (arith, ap (count test) same)
count_grows test (suc d) n k e = let same : suc (d + n) ≡ k = omega arith in omega (arith, ap (count test) same, count_grows test d n (d + n) refl)

not_latched : (f a : Bool) → ((f || a) ≡ true → ⊥) → (one f ≡ 0) × (one (a && not f) ≡ 0)
not_latched true a h = absurd (h refl)
not_latched false true h = absurd (h refl)
not_latched false false h = (refl, refl)

module _ (p : Timing) (tale : Tale p) where
  -- At a boundary each latch of an event above this level, up to it, has committed.
  abbrev NoneWaits : ℕ → ℕ → Type 0
  NoneWaits level k = (h : ℕ) → level < p.level h → latched tale h (suc k) ≤ committed tale h k

  none_waits : (n : ℕ) → (Above p (now tale n) (top_level p (tale.stack n)) → ⊥) → NoneWaits (top_level p (tale.stack n)) n
  none_waits n none h above =
      let clear = not_latched (tale.flags n h) (tale.arrives n h) (λ e. none (h, e, above)) in
      let flag = clear.0 in
      let latch = clear.1 in
      let account = each_once p tale n h in
      omega (arith, account.latches, none_above p h (tale.stack n) (tower_at p tale n) above)

  -- On the way from the lock to the open, the lock is not far back.
  abbrev Near : ℕ → Phase → List Run → Type 0
  Near n (Nears j) st = (k : ℕ) × (k < n) × (n + j ≤ suc k + p.opening) × NoneWaits (top_level p st) k
  Near n _ st = Unit {0}

  locked_near : (b : Bool) (n : ℕ) (st : List Run) → NoneWaits (top_level p st) n → Near (suc n) (locked p b) st
  locked_near true n st none = tt
  locked_near false n st none = (n, omega arith, omega arith, none)

  near_step : (flags : ℕ → Bool) {ph ph' : Phase} {l : Label} {st st' : List Run} (n : ℕ) → Move p flags ph l st ph' st'
      → ((Above p flags (top_level p st) → ⊥) → NoneWaits (top_level p st) n) → Near n ph st → Near (suc n) ph' st'
  near_step flags n (locks {r = r} {rs = rs} none) waits near = locked_near r.void n (r ∷ rs) (waits none)
  near_step flags n (nears h) waits near = (near.0, let b = near.1 in omega arith, let b = near.2 in omega arith, near.3)
  near_step _ _ _ _ _ = tt

  near_at : (n : ℕ) → Near n (tale.phase n) (tale.stack n)
  near_at zero = rw tale.starts tt
  near_at (suc n) = near_step (now tale n) n (moves p tale n) (none_waits n) (near_at n)

  abbrev Opened : ℕ → ℕ → Type 0
  Opened e n = (h : ℕ) → p.level e < p.level h → (k : ℕ) × (k ≤ n) × (n ≤ suc k + p.opening) × (latched tale h (suc k) ≤ committed tale h k)

  opened_step : (flags : ℕ → Bool) {ph ph' : Phase} {l : Label} {st st' : List Run} (n e : ℕ) → Move p flags ph l st ph' st' → l ≡ Opens e → Near n ph st → Opened e n
  opened_step flags n e (opens {r = r}) same near h above =
      let its : r.event ≡ e = cc in
      (near.0, let b = near.1 in omega arith, let b = near.2 in omega arith, near.3 h (omega (arith, ap p.level its)))
  opened_step flags n e (opens_short {r = r} is_short top) same near h above = let its : r.event ≡ e = cc in absurd (omega (arith, ap p.level its, top h))
  opened_step flags n e _ same near h above = let it = same in absurd cc

  pub no_overtaking : Quick p → NoOvertaking p tale
  no_overtaking quick s e h opened above =
      let it = opened_step (now tale s) s e (moves p tale s) opened (near_at s) h above in
      let soon = quick.opening in
      let early = it.1 in
      let late = it.2 in
      omega (arith, it.3, count_grows (latches tale h) (suc it.0 - (s - 15)) (s - 15) (suc it.0) (omega arith), committed_grows (s - it.0) it.0 s (omega arith))
    where
      committed_grows : (d n k : ℕ) → k ≡ d + n → committed tale h n ≤ committed tale h k
      committed_grows d n k e = count_grows _ d n k e
