-- Each step without arrivals lowers the settling potential, until the core is at rest with no flag set.
use Rattle.std.specs.Prelude.{ℕ, ◌+◌, ◌<◌, ◌≤◌, ◌==◌, Bool, true, false, ◌||◌, List, [], ◌∷◌, ◌⊎◌}
use Rattle.std.proofs.Common.{◌≡◌, refl, arith, inl, inr}
use Rattle.std.proofs.lemmas.Bool.Decides.{nat_tests}
use Rattle.timed_core.specs.Timing.{Timing, IsListed}
use Rattle.timed_core.specs.Steps.{Run, Phase, Label, Above, top_level}
use Rattle.timed_core.specs.Steps.Phase.{Boots, Rests, Works, Owes, Chooses, Begins, Repeats, Nears, Copies, Leaves}
use Rattle.timed_core.specs.Tale.{is_clearing}
use Rattle.timed_core.specs.Shape.{Shape, StillSet}
use Rattle.timed_core.proofs.MoveLaws.{Move, boots, boots_puts, readies, rests, rests_takes, rests_delays, works, works_takes, locks, works_delays, slips, owes_takes, chooses, clears, begins, turns, opens_short, repeats, turns_again, nears, opens, copies, copies_puts, commits, leaves, returns_home, returns}
use Rattle.timed_core.proofs.SumLaws.{weigh_most}
use Rattle.timed_core.proofs.PotentialFacts.{calls_gives, taking, again, owed, calls, potential, suspended_voided, empty_suspended, Sub, owes_something, above_calls, clearing_pays, less_owed, redo_less, fresh_less, full_redo, no_news, news_less, lock_falls, clear_falls}

module _ (p : Timing) (listed : IsListed p) (f : ℕ → Bool) where
  -- At rest with no flag set.
  abbrev pub Done : Phase → Type 0
  Done ph = (ph ≡ Rests) × (Above p f 0 → ⊥)

  abbrev Falls : (ℕ → Bool) → Phase → List Run → Phase → List Run → Type 0
  Falls g ph st ph' st' = (potential p g ph' st' + 1 ≤ potential p f ph st) ⊎ Done ph

  pub falls : (g : ℕ → Bool) {ph ph' : Phase} {l : Label} {st st' : List Run} → Move p f ph l st ph' st' → Shape p ph st → Sub p g f
      → ((x : ℕ) → is_clearing x l ≡ true → g x ≡ false) → Falls g ph st ph' st'
  falls g (boots h) s sub clear = inl (omega (arith, less_owed p listed f g sub))
  falls g (boots_puts h) s sub clear = inl (omega (arith, less_owed p listed f g sub))
  falls g readies s sub clear = inl (omega (arith, less_owed p listed f g sub))
  falls g (rests none) s sub clear = inr (refl, none)
  falls g (rests_takes {st = st} a) s sub clear = inl (omega (arith, less_owed p listed f g sub, empty_suspended p st s, no_news p listed f g sub st))
  falls g (rests_delays {st = st} a) s sub clear = inl (omega (arith, less_owed p listed f g sub, empty_suspended p st s))
  falls g (works {r = r} none h) s sub clear = inl (omega (arith, less_owed p listed f g sub, redo_less p listed f g sub r.void r))
  falls g (works_takes {r = r} {rs = rs} a) s sub clear = inl (omega (arith, less_owed p listed f g sub, full_redo p listed f g sub r a, no_news p listed f g sub (r ∷ rs)))
  falls g (locks {r = r} {rs = rs} none) s sub clear = inl (lock_falls p listed f g sub r rs r.void none)
  falls g (works_delays {r = r} a h) s sub clear = inl (omega (arith, less_owed p listed f g sub, full_redo p listed f g sub r a))
  falls g (slips {r = r} a) s sub clear = inl (omega (arith, less_owed p listed f g sub, full_redo p listed f g sub r a))
  falls g (owes_takes {st = st}) s sub clear = inl (omega (arith, less_owed p listed f g sub, no_news p listed f g sub st))
  falls g (chooses {g = seen} {st = st} h) s sub clear = inl (omega (arith, less_owed p listed f g sub, news_less p listed f g sub seen (top_level p st)))
  falls g (clears {h = h} {g = seen} {st = st} set best above) s sub clear =
      let gone : g h ≡ false = clear h (same_test h) in
      inl (omega (arith, clearing_pays p listed f g h sub (omega arith) set gone, clear_falls p listed f g sub h seen st set gone best above))
    where
      same_test : (x : ℕ) → (x == x) ≡ true
      same_test x = grind (arith, nat_tests)
  falls g (begins {st = st} h) s sub clear = inl (omega (arith, less_owed p listed f g sub, fresh_less p listed f g sub st))
  falls g (turns {r = r}) s sub clear = inl (omega (arith, less_owed p listed f g sub, redo_less p listed f g sub false r))
  falls g (opens_short is_short h) s sub clear = inl (omega (arith, less_owed p listed f g sub))
  falls g (repeats {st = st} h) s sub clear = inl (omega (arith, less_owed p listed f g sub, fresh_less p listed f g sub st))
  falls g (turns_again {r = r}) s sub clear = inl (omega (arith, less_owed p listed f g sub, redo_less p listed f g sub false r))
  falls g (nears h) s sub clear = inl (omega (arith, less_owed p listed f g sub))
  falls g opens s sub clear = inl (omega (arith, less_owed p listed f g sub))
  falls g (copies h) s sub clear = inl (omega (arith, less_owed p listed f g sub))
  falls g (copies_puts h) s sub clear = inl (omega (arith, less_owed p listed f g sub))
  falls g (commits {rs = rs}) s sub clear = inl (omega (arith, less_owed p listed f g sub, suspended_voided p rs))
  falls g (leaves h) s sub clear = inl (omega (arith, less_owed p listed f g sub))
  falls g returns_home s sub clear = inl (omega (arith, less_owed p listed f g sub))
  falls g (returns {r = r}) s sub clear = inl (omega (arith, less_owed p listed f g sub, weigh_most (r.void || calls p g (p.level r.event)) (again p + p.body r.event)))

  abbrev High : Phase → List Run → Type 0
  High ph st = (taking p < potential p f ph st) ⊎ Done ph

  owing : (level : ℕ) → Above p f level → taking p < owed p f
  owing level a = omega (arith, owes_something p listed f level a)

  seen_above : (g : ℕ → Bool) (level : ℕ) → Sub p g f → Above p g level → Above p f level
  seen_above g level sub a = (a.0, sub a.0 a.1, a.2)

  -- Until then it is above the least.
  pub high : (ph : Phase) (st : List Run) → Shape p ph st → StillSet f ph → High ph st
  high (Boots j) st s still = inl (omega arith)
  high Rests st s still = by (calls p f 0) refl
    where
      by : (b : Bool) → calls p f 0 ≡ b → High Rests st
      by true e = inl (omega (arith, owing 0 (calls_gives p f 0 e)))
      by false e = inr (refl, λ a. let c = above_calls p listed f 0 a in absurd cc)
  high Works [] s still = absurd s.0
  high Works (r ∷ rs) s still = inl (omega arith)
  high (Owes on g) st s still = inl (omega (arith, owing (top_level p st) (seen_above g (top_level p st) still s.1)))
  high (Chooses j g) st s still = inl (omega (arith, owing (top_level p st) (seen_above g (top_level p st) still s.1)))
  high (Begins j) st s still = inl (omega arith)
  high (Repeats j) st s still = inl (omega arith)
  high (Nears j) st s still = inl (omega arith)
  high (Copies j) st s still = inl (omega arith)
  high (Leaves e j) st s still = inl (omega arith)
