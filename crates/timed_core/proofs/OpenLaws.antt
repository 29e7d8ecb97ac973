-- Work opens in time, and what is not under way is heard.
use Rattle.std.specs.Prelude.{ℕ, suc, ◌+◌, ◌<◌, ◌≤◌, ◌==◌, Bool, true, false, not, ◌&&◌, ◌||◌, List, [], ◌∷◌, ◌⊎◌}
use Rattle.std.proofs.Common.{◌≡◌, refl, arith, inl, inr}
use Rattle.std.proofs.lemmas.Bool.Decides.{nat_tests}
use Rattle.timed_core.specs.Timing.{Timing, Within, Quick}
use Rattle.timed_core.specs.Steps.{Run, Phase, Label, locked, top_level, is_on}
use Rattle.timed_core.specs.Steps.Phase.{Rests, Works, Owes, Begins, Repeats, Nears}
use Rattle.timed_core.specs.Tale.{Tale, now}
use Rattle.timed_core.specs.Counts.{one, runs_of}
use Rattle.timed_core.specs.Promises.{WorkOpens, Listens, is_taking, is_clear_step, is_open_step}
use Rattle.timed_core.proofs.MoveLaws.{Move, boots, boots_puts, readies, rests, rests_delays, works, locks, works_delays, slips, owes_takes, chooses, clears, begins, turns, opens_short, repeats, turns_again, nears, opens, copies, copies_puts, commits, leaves, returns_home, returns}
use Rattle.timed_core.proofs.ShapeLaws.{moves}
use Rattle.timed_core.proofs.ComesLaws.{comes}
use Rattle.timed_core.proofs.OnLaws.{comes_on}

-- Phases from which interrupts come on, or a window opens, without a choice between.
abbrev Opening : Phase → Type 0
Opening Rests = Unit {0}
Opening Works = Unit {0}
Opening (Owes on g) = Unit {0}
Opening (Begins j) = Unit {0}
Opening (Repeats j) = Unit {0}
Opening (Nears j) = Unit {0}
Opening _ = ⊥

abbrev opening_left : Phase → ℕ
opening_left (Begins j) = j + 1
opening_left (Repeats j) = j + 1
opening_left (Nears j) = j
opening_left _ = 0

abbrev asks : Phase → Label → Bool
asks ph l = is_clear_step l || is_on ph && not (is_taking l)

abbrev gives : Phase → Label → Bool
gives ph l = is_on ph || is_open_step l || is_taking l

owes_gives : (on : Bool) → (on || false || true) ≡ true
owes_gives true = refl
owes_gives false = refl

owes_asks_none : (on : Bool) → (on && false) ≡ true → ⊥
owes_asks_none true h = let it = h in cc
owes_asks_none false h = let it = h in cc

module _ (p : Timing) (quick : Quick p) where
  locked_opening : (b : Bool) → Opening (locked p b) × (opening_left (locked p b) ≤ 15)
  locked_opening true = (tt, let h = quick.again in omega arith)
  locked_opening false = (tt, let h = quick.opening in omega arith)

  module _ (flags : ℕ → Bool) where
    asked : {ph ph' : Phase} {l : Label} {st st' : List Run} → Move p flags ph l st ph' st' → asks ph l ≡ true → Opening ph' × (opening_left ph' ≤ 15)
    asked (rests none) h = (tt, omega arith)
    asked (rests_delays a) h = (tt, omega arith)
    asked (works none low) h = (tt, omega arith)
    asked (works_delays a low) h = (tt, omega arith)
    asked (slips a) h = (tt, omega arith)
    asked (locks {r = r} none) h = locked_opening r.void
    asked (clears its_flag best level) h = (tt, let q = quick.start in omega arith)
    asked (owes_takes {on = on}) h = absurd (owes_asks_none on h)
    asked _ h = absurd cc

    given : {ph ph' : Phase} {l : Label} {st st' : List Run} → Move p flags ph l st ph' st' → Opening ph
        → (gives ph l ≡ true) ⊎ (Opening ph' × (opening_left ph' < opening_left ph))
    given (owes_takes {on = on}) o = inl (owes_gives on)
    given (begins h) o = inr (tt, omega arith)
    given turns o = inr (tt, omega arith)
    given (opens_short is_short h) o = inl refl
    given (repeats h) o = inr (tt, omega arith)
    given turns_again o = inr (tt, omega arith)
    given (nears h) o = inr (tt, omega arith)
    given opens o = inl refl
    given (boots h) o = absurd o
    given (boots_puts h) o = absurd o
    given readies o = absurd o
    given (chooses h) o = absurd o
    given (clears its_flag best level) o = absurd o
    given (copies h) o = absurd o
    given (copies_puts h) o = absurd o
    given commits o = absurd o
    given (leaves h) o = absurd o
    given returns_home o = absurd o
    given returns o = absurd o
    given _ o = inl refl

module _ (p : Timing) (tale : Tale p) where
  pub work_opens : Quick p → WorkOpens p tale
  work_opens quick k h =
      let first = asked p quick (now tale k) (moves p tale k) h in
      let it = comes (λ j. opening_left (tale.phase j)) (λ j. Opening (tale.phase j)) (λ j. gives (tale.phase j) (tale.label j) ≡ true)
      (λ j o. given p quick (now tale j) (moves p tale j) o) (suc k) first.0 in
      let low = first.1 in (it.0, let h = it.1 in omega arith, let h = it.2 in omega arith, it.3)

  own : (x : ℕ) → one (x == x) ≡ 1
  own x = by (x == x) refl
    where
      by : (b : Bool) → (x == x) ≡ b → one b ≡ 1
      by true e = refl
      by false e = grind (arith, nat_tests)

  top_is_low : (e : ℕ) → 0 < p.level e → (st : List Run) → ((h : ℕ) → p.level e ≤ p.level h → runs_of h st ≡ 0) → top_level p st < p.level e
  top_is_low e real [] none = real
  top_is_low e real (r ∷ rs) none = by (low_or_not (p.level r.event) (p.level e))
    where
      low_or_not : (a b : ℕ) → (a < b) ⊎ (b ≤ a)
      low_or_not a b = grind arith

      by : (p.level r.event < p.level e) ⊎ (p.level e ≤ p.level r.event) → p.level r.event < p.level e
      by (inl h) = h
      by (inr h) = absurd (omega (arith, none r.event h, own r.event))

  pub listens : (off : ℕ) → Within p off → Listens p tale off
  listens off w n e real past none =
      let it = comes_on p tale off w n past in
      (it.0, it.1, it.2, it.3, top_is_low e real (tale.stack it.0) (λ h. none it.0 h it.1 it.2))
