-- The shape of the core is kept at each step.
use Rattle.std.specs.Prelude.{ℕ, zero, suc, Bool, true, false, not, ◌&&◌, ◌||◌, List, [], ◌∷◌}
use Rattle.std.specs.List.{AllByRecursion}
use Rattle.std.proofs.Common.{◌≡◌, refl, arith}
use Rattle.timed_core.specs.Timing.{Timing}
use Rattle.timed_core.specs.Steps.{Run, Phase, Label, voided, top_level, locked, Above}
use Rattle.timed_core.specs.Steps.Phase.{Owes, Chooses}
use Rattle.timed_core.specs.Tale.{Tale, now, is_clearing}
use Rattle.timed_core.specs.Shape.{Tower, IsEmpty, Shape, StillSet, KeepsShape}
use Rattle.timed_core.proofs.MoveLaws.{Move, move, boots, boots_puts, readies, rests, rests_takes, rests_delays, works, works_takes, locks, works_delays, slips, owes_takes, chooses, clears, begins, turns, opens_short, repeats, turns_again, nears, opens, copies, copies_puts, commits, leaves, returns_home, returns}

stays_set : (a b : Bool) → a ≡ (b && true) → b ≡ true → a ≡ true
stays_set a true e h = e
stays_set a false e h = absurd cc

module _ (p : Timing) where
  pub empty_tower : (st : List Run) → IsEmpty st → Tower p st
  empty_tower [] h = tt
  empty_tower (r ∷ rs) h = absurd h

  pub empty_above : (flags : ℕ → Bool) (st : List Run) → IsEmpty st → Above p flags 0 → Above p flags (top_level p st)
  empty_above flags [] h a = a
  empty_above flags (r ∷ rs) h a = absurd h

  voided_level : (st : List Run) → top_level p (voided st) ≡ top_level p st
  voided_level [] = refl
  voided_level (r ∷ rs) = refl

  pub voided_tower : (st : List Run) → Tower p st → Tower p (voided st)
  voided_tower [] h = tt
  voided_tower (r ∷ rs) h = (h.0, omega (arith, voided_level rs, h.1), voided_tower rs h.2)

  pub all_voided : (st : List Run) → AllByRecursion (λ (r : Run). r.void ≡ true) (voided st)
  all_voided [] = tt
  all_voided (r ∷ rs) = (refl, all_voided rs)

  pub above_lasts : (f g : ℕ → Bool) (level : ℕ) → ((x : ℕ) → f x ≡ true → g x ≡ true) → Above p f level → Above p g level
  above_lasts f g level h a = (a.0, h a.0 a.1, a.2)

  locked_shape : (b : Bool) (r : Run) (rs : List Run) → r.void ≡ b → Tower p (r ∷ rs) → Shape p (locked p b) (r ∷ rs)
  locked_shape true r rs e h = (e, h, omega arith)
  locked_shape false r rs e h = (e, h, omega arith)

  module _ (now : ℕ → Bool) where
    pub shape_kept : {ph ph' : Phase} {l : Label} {st st' : List Run} → Move p now ph l st ph' st' → Shape p ph st → StillSet now ph → Shape p ph' st'
    shape_kept (boots h) s still = (s.0, omega arith)
    shape_kept (boots_puts h) s still = (s.0, omega arith)
    shape_kept readies s still = s.0
    shape_kept (rests h) s still = s
    shape_kept (rests_takes {st = st} a) s still = (empty_tower st s, empty_above now st s a, omega arith)
    shape_kept (rests_delays {st = st} a) s still = (empty_tower st s, empty_above now st s a)
    shape_kept (works {r = r} none h) s still = (tt, let t = s.1 in (let b = t.0 in omega arith, t.1, t.2))
    shape_kept (works_takes a) s still = (s.1, a, omega arith)
    shape_kept (locks {r = r} {rs = rs} none) s still = locked_shape r.void r rs refl s.1
    shape_kept (works_delays a h) s still = (let t = s.1 in (let b = t.0 in omega arith, t.1, t.2), a)
    shape_kept (slips a) s still = (let t = s.1 in (omega arith, t.1, t.2), a)
    shape_kept (owes_takes {g = g} {st = st}) s still = (s.0, above_lasts g now (top_level p st) still s.1, omega arith)
    shape_kept (chooses h) s still = (s.0, s.1, omega arith)
    shape_kept (clears its_flag best level) s still = (refl, (omega arith, level, s.0), omega arith)
    shape_kept (begins h) s still = (s.0, s.1, omega arith)
    shape_kept turns s still = (tt, let t = s.1 in (omega arith, t.1, t.2))
    shape_kept (opens_short is_short h) s still = (s.0, s.1, omega arith)
    shape_kept (repeats h) s still = (s.0, s.1, omega arith)
    shape_kept turns_again s still = (tt, let t = s.1 in (omega arith, t.1, t.2))
    shape_kept (nears h) s still = (s.0, s.1, omega arith)
    shape_kept opens s still = (s.0, s.1, omega arith)
    shape_kept (copies h) s still = (s.0, s.1, omega arith)
    shape_kept (copies_puts h) s still = (s.0, s.1, omega arith)
    shape_kept (commits {rs = rs}) s still = (all_voided rs, voided_tower rs (let t = s.1 in t.2), (let t = s.1 in omega (arith, voided_level rs, t.1)), omega arith)
    shape_kept (leaves h) s still = (s.0, s.1, s.2, omega arith)
    shape_kept returns_home s still = tt
    shape_kept returns s still = (tt, s.1)

    -- The flags of a request stay set, and so do those of a taking.
    locked_still : (flags : ℕ → Bool) (b : Bool) → StillSet flags (locked p b)
    locked_still flags true = tt
    locked_still flags false = tt

    pub still_kept : {ph ph' : Phase} {l : Label} {st st' : List Run} (flags : ℕ → Bool) → Move p now ph l st ph' st' → StillSet now ph
        → ((x : ℕ) → flags x ≡ (now x && not (is_clearing x l))) → StillSet flags ph'
    still_kept flags (rests_takes a) still kept = λ x e. stays_set (flags x) (now x) (kept x) e
    still_kept flags (rests_delays a) still kept = λ x e. stays_set (flags x) (now x) (kept x) e
    still_kept flags (works_takes a) still kept = λ x e. stays_set (flags x) (now x) (kept x) e
    still_kept flags (works_delays a h) still kept = λ x e. stays_set (flags x) (now x) (kept x) e
    still_kept flags (slips a) still kept = λ x e. stays_set (flags x) (now x) (kept x) e
    still_kept flags owes_takes still kept = λ x e. stays_set (flags x) (now x) (kept x) e
    still_kept flags (chooses h) still kept = λ x e. stays_set (flags x) (now x) (kept x) (still x e)
    still_kept flags (locks {r = r} none) still kept = locked_still flags r.void
    still_kept _ _ _ _ = tt

  -- What arrives leaves them set.
  or_more : (a b : Bool) → a ≡ true → (a || b) ≡ true
  or_more true b h = refl
  or_more false b h = absurd cc

  still_more : (f a : ℕ → Bool) (ph : Phase) → StillSet f ph → StillSet (λ x. f x || a x) ph
  still_more f a (Owes on g) h = λ x e. or_more (f x) (a x) (h x e)
  still_more f a (Chooses j g) h = λ x e. or_more (f x) (a x) (h x e)
  still_more _ _ _ h = tt

module _ (p : Timing) (tale : Tale p) where
  -- The step at each boundary.
  pub moves : (n : ℕ) → Move p (now tale n) (tale.phase n) (tale.label n) (tale.stack n) (tale.phase (suc n)) (tale.stack (suc n))
  moves n = move p (now tale n) (tale.phase n) (tale.label n) (tale.stack n) (tale.phase (suc n)) (tale.stack (suc n)) (tale.goes n)

  pub keeps_shape : KeepsShape p tale
  keeps_shape zero = rw (tale.starts, tale.empty) ((tt, omega arith), tt)
  keeps_shape (suc n) =
      let s = keeps_shape n in
      let still = still_more p (tale.flags n) (tale.arrives n) (tale.phase n) s.1 in
      (shape_kept p (now tale n) (moves n) s.0 still, still_kept p (now tale n) (tale.flags (suc n)) (moves n) still (tale.keeps n))

  pub shape_at : (n : ℕ) → Shape p (tale.phase n) (tale.stack n)
  shape_at n = (keeps_shape n).0

  pub still_at : (n : ℕ) → StillSet (now tale n) (tale.phase n)
  still_at n = still_more p (tale.flags n) (tale.arrives n) (tale.phase n) (keeps_shape n).1
