-- The debt is at least what the event's own flag costs, and at most a share of each event whose flag is set or whose run is
-- under way.
use Rattle.std.specs.Prelude.{ℕ, ◌+◌, ◌*◌, ◌<◌, ◌≤◌, ◌==◌, Bool, true, false, ◌&&◌, not, List, [], ◌∷◌}
use Rattle.std.proofs.Common.{◌≡◌, refl, sym, ap, subst, arith}
use Rattle.timed_core.specs.Timing.{Timing, IsListed, Within}
use Rattle.timed_core.specs.Steps.{Run, Phase, top_level}
use Rattle.timed_core.specs.Steps.Phase.{Boots, Rests, Works, Owes, Chooses, Begins, Repeats, Nears, Copies, Leaves}
use Rattle.timed_core.specs.Shape.{Tower, Shape, StillSet}
use Rattle.timed_core.specs.Counts.{one, runs_of}
use Rattle.timed_core.specs.Promises.{is_boot}
use Rattle.timed_core.specs.Response.{restarts}
use Rattle.timed_core.proofs.SumLaws.{total, total_le, total_add, total_pick, weigh, weigh_most, weigh_all, weigh_none, any_gives, both, both_parts, le_test, le_of, eq_test, eq_of}
use Rattle.timed_core.proofs.PotentialFacts.{taking, again, commit, listed_in}
use Rattle.timed_core.proofs.DebtFacts.{weigh_num, heavy, latch_cost, waits, heavy_in, doomed, runs_due, begun, doomed_beneath, debt, due_doomed}

module _ (p : Timing) (off e : ℕ) where
  -- What one flag or one run of an event costs at most.
  abbrev pub share : ℕ → ℕ
  share x = taking p + 2 * p.body x + again p + commit p + restarts p off (p.level e) (p.level x)

  abbrev pub shares : (ℕ → ℕ) → ℕ
  shares many = total (λ x. weigh (heavy p off e x) (many x * share x)) p.events

  waits_shared : (f : ℕ → Bool) → waits p off e f ≤ shares (λ x. one (f x))
  waits_shared f = total_le _ _ p.events (λ x. by x (f x) (heavy p off e x))
    where
      by : (x : ℕ) (b c : Bool) → weigh (b && c) (latch_cost p off e x) ≤ weigh c (one b * share x)
      by x true true = omega arith
      by x true false = omega arith
      by x false c = omega arith

  -- The runs on a stack, each by its share.
  abbrev stack_share : List Run → ℕ
  stack_share [] = 0
  stack_share (r ∷ rs) = weigh (heavy p off e r.event) (share r.event) + stack_share rs

  doomed_shared : (st : List Run) → Tower p st → doomed p off e st ≤ stack_share st
  doomed_shared [] t = omega arith
  doomed_shared (r ∷ rs) t =
      let low = t.0 in omega (arith, weigh_num (heavy p off e r.event) (r.rest + (again p + p.body r.event) + commit p) (share r.event) (omega arith), doomed_shared rs t.2)

  runs_shared : (st : List Run) → Tower p st → runs_due p off e st ≤ stack_share st
  runs_shared [] t = omega arith
  runs_shared (r ∷ rs) t = omega (arith, due_doomed p off e r, doomed_shared (r ∷ rs) t)

  begun_shared : (st : List Run) → Tower p st → begun p off e st ≤ stack_share st
  begun_shared [] t = omega arith
  begun_shared (r ∷ rs) t = omega (arith, weigh_num (heavy p off e r.event) (p.body r.event + commit p) (share r.event) (omega arith), doomed_shared rs t.2)

  beneath_shared : (st : List Run) → Tower p st → doomed_beneath p off e st ≤ stack_share st
  beneath_shared [] t = omega arith
  beneath_shared (r ∷ rs) t = omega (arith, doomed_shared rs t.2)

  module _ (listed : IsListed p) (real : 0 < p.level e) where
    more_runs : (b : Bool) (m n : ℕ) (c : Bool) → weigh b (m * n) ≤ weigh b ((one c + m) * n)
    more_runs true m n true = omega arith
    more_runs true m n false = omega arith
    more_runs false m n c = omega arith

    one_run : (b : Bool) (m n : ℕ) (c : Bool) → c ≡ true → weigh b (m * n) + weigh b n ≤ weigh b ((one c + m) * n)
    one_run true m n true h = omega arith
    one_run false m n true h = omega arith
    one_run b m n false h = absurd cc

    stack_shared : (st : List Run) → Tower p st → stack_share st ≤ shares (λ x. runs_of x st)
    stack_shared [] t = omega arith
    stack_shared (r ∷ rs) t =
        let up = t.1 in
        let step = total_pick (λ x. weigh (heavy p off e x) (runs_of x rs * share x)) (λ x. weigh (heavy p off e x) ((one (x == r.event) + runs_of x rs) * share x)) r.event
        (weigh (heavy p off e r.event) (share r.event)) p.events (listed_in p listed r.event (omega arith))
        (λ x. more_runs (heavy p off e x) (runs_of x rs) (share x) (x == r.event))
        (one_run (heavy p off e r.event) (runs_of r.event rs) (share r.event) (r.event == r.event) (eq_test r.event r.event refl)) in
        omega (arith, step, stack_shared rs t.2)

    add_shares : (f : ℕ → Bool) (st : List Run) → shares (λ x. one (f x)) + shares (λ x. runs_of x st) ≤ shares (λ x. one (f x) + runs_of x st)
    add_shares f st =
        omega (
          arith,
          total_add (λ x. weigh (heavy p off e x) (one (f x) * share x)) (λ x. weigh (heavy p off e x) (runs_of x st * share x)) p.events,
          total_le (λ x. weigh (heavy p off e x) (one (f x) * share x) + weigh (heavy p off e x) (runs_of x st * share x)) (λ x. weigh (heavy p off e x) ((one (f x) + runs_of x st) * share x)) p.events
              (λ x. by (heavy p off e x) (one (f x)) (runs_of x st) (share x)),
        )
      where
        by : (b : Bool) (m n k : ℕ) → weigh b (m * k) + weigh b (n * k) ≤ weigh b ((m + n) * k)
        by true m n k = omega arith
        by false m n k = omega arith

    about : (f : ℕ → Bool) (st : List Run) → Tower p st → waits p off e f + stack_share st ≤ shares (λ x. one (f x) + runs_of x st)
    about f st t = omega (arith, waits_shared f, stack_shared st t, add_shares f st)

    -- The rest is what is left of a stretch with interrupts off, or of the boot.
    abbrev Shared : ℕ → (ℕ → Bool) → Phase → List Run → Type 0
    Shared rest f ph st = debt p off e f ph st ≤ taking p + rest + shares (λ x. one (f x) + runs_of x st)

    module _ (w : Within p off) (f : ℕ → Bool) where
      pub shared : (ph : Phase) (st : List Run) → Shape p ph st → is_boot ph ≡ false → Shared off f ph st
      shared (Boots j) st s past = absurd cc
      shared Rests [] s past = omega (arith, about f [] tt)
      shared Rests (r ∷ rs) s past = absurd s
      shared Works st s past = omega (arith, about f st s.1, runs_shared st s.1)
      shared (Owes on g) st s past = let bound = w.taking in omega (arith, about f st s.0, runs_shared st s.0, weigh_most (not (heavy_in p off e g)) (taking p))
      shared (Chooses j g) st s past = let bound = w.taking in let low = s.2 in omega (arith, about f st s.0, runs_shared st s.0, weigh_most (not (heavy_in p off e g)) (taking p))
      shared (Begins j) st s past = let bound = w.taking in let low = s.2 in omega (arith, about f st s.1, begun_shared st s.1)
      shared (Repeats j) st s past = let bound = w.again in let low = s.2 in omega (arith, about f st s.1, begun_shared st s.1)
      shared (Nears j) st s past = let bound = w.commit in let low = s.2 in omega (arith, about f st s.1, beneath_shared st s.1)
      shared (Copies j) st s past = let bound = w.commit in let low = s.2 in omega (arith, about f st s.1, beneath_shared st s.1)
      shared (Leaves x j) st s past = let bound = w.commit in let low = s.3 in omega (arith, about f st s.1, doomed_shared st s.1)

      pub shared_in_boot : (ph : Phase) (st : List Run) → Shape p ph st → Shared (off + p.boot + 2) f ph st
      shared_in_boot (Boots j) [] s = let low = s.1 in omega (arith, about f [] tt)
      shared_in_boot (Boots j) (r ∷ rs) s = absurd s.0
      shared_in_boot Rests st s = omega (arith, shared Rests st s refl)
      shared_in_boot Works st s = omega (arith, shared Works st s refl)
      shared_in_boot (Owes on g) st s = omega (arith, shared (Owes on g) st s refl)
      shared_in_boot (Chooses j g) st s = omega (arith, shared (Chooses j g) st s refl)
      shared_in_boot (Begins j) st s = omega (arith, shared (Begins j) st s refl)
      shared_in_boot (Repeats j) st s = omega (arith, shared (Repeats j) st s refl)
      shared_in_boot (Nears j) st s = omega (arith, shared (Nears j) st s refl)
      shared_in_boot (Copies j) st s = omega (arith, shared (Copies j) st s refl)
      shared_in_boot (Leaves x j) st s = omega (arith, shared (Leaves x j) st s refl)

    module _ (f : ℕ → Bool) where
      flag_waits : (x : ℕ) → f x ≡ true → p.level e ≤ p.level x → latch_cost p off e x ≤ waits p off e f
      flag_waits x set is_heavy =
          let pick = total_pick (λ y. 0) (λ y. weigh (f y && heavy p off e y) (latch_cost p off e y)) x (latch_cost p off e x) p.events (listed_in p listed x (omega arith)) (λ y. omega arith)
          (let full = weigh_all (f x && heavy p off e x) (latch_cost p off e x) (both (f x) (heavy p off e x) set (le_test (p.level e) (p.level x) is_heavy)) in omega arith) in
          omega arith

      heavy_seen : (g : ℕ → Bool) → ((x : ℕ) → g x ≡ true → f x ≡ true) → heavy_in p off e g ≡ true → taking p ≤ waits p off e f
      heavy_seen g sub b =
          let it = any_gives _ p.events b in
          let parts = both_parts (g it.0) (heavy p off e it.0) it.1 in
          omega (arith, flag_waits it.0 (sub it.0 parts.0) (le_of (p.level e) (p.level it.0) parts.1))

      shifted : (g : ℕ → Bool) → ((x : ℕ) → g x ≡ true → f x ≡ true) → taking p ≤ waits p off e f + weigh (not (heavy_in p off e g)) (taking p)
      shifted g sub = by (heavy_in p off e g) refl
        where
          by : (b : Bool) → heavy_in p off e g ≡ b → taking p ≤ waits p off e f + weigh (not b) (taking p)
          by true h = omega (arith, heavy_seen g sub h)
          by false h = omega arith

      -- The debt isn't below `taking`.
      pub debt_floor : (ph : Phase) (st : List Run) → StillSet f ph → taking p ≤ debt p off e f ph st
      debt_floor (Owes on g) st still = omega (arith, shifted g still)
      debt_floor (Chooses j g) st still = omega (arith, shifted g still)
      debt_floor _ st still = omega arith

      -- Two flags wait: the event's own, and one above it.
      two_wait : (x : ℕ) → f e ≡ true → f x ≡ true → p.level e < p.level x → latch_cost p off e e + taking p ≤ waits p off e f
      two_wait x own set up =
          let first = total_pick (λ y. 0) (λ y. weigh (y == e) (latch_cost p off e e)) e (latch_cost p off e e) p.events (listed_in p listed e real) (λ y. omega arith)
          (let full = weigh_all (e == e) (latch_cost p off e e) (eq_test e e refl) in omega arith) in
          let second = total_pick (λ y. weigh (y == e) (latch_cost p off e e)) (λ y. weigh (f y && heavy p off e y) (latch_cost p off e y)) x (latch_cost p off e x) p.events (listed_in p listed x (omega arith)) each
          (let full = weigh_all (f x && heavy p off e x) (latch_cost p off e x) (both (f x) (heavy p off e x) set (le_test (p.level e) (p.level x) (omega arith))) in
          let none = weigh_none (x == e) (latch_cost p off e e) (λ b. let same = eq_of x e b in omega (arith, ap p.level same)) in
          omega arith) in
          omega (arith, first, second)
        where
          each : (y : ℕ) → weigh (y == e) (latch_cost p off e e) ≤ weigh (f y && heavy p off e y) (latch_cost p off e y)
          each y = by (y == e) refl
            where
              by : (b : Bool) → (y == e) ≡ b → weigh b (latch_cost p off e e) ≤ weigh (f y && heavy p off e y) (latch_cost p off e y)
              by false h = omega arith
              by true h =
                  let same = eq_of y e h in
                  let full = weigh_all (f y && heavy p off e y) (latch_cost p off e y) (both (f y) (heavy p off e y) (subst (λ z. f z ≡ true) (sym same) own) (le_test (p.level e) (p.level y) (omega (arith, ap p.level same)))) in
                  omega (arith, ap (latch_cost p off e) same)

      pub debt_and_flag : (ph : Phase) (st : List Run) → Shape p ph st → StillSet f ph → f e ≡ true → p.level e ≤ top_level p st → taking p + latch_cost p off e e ≤ debt p off e f ph st
      debt_and_flag (Owes on g) st s still own top =
          let a = s.1 in let up = a.2 in omega (arith, two_wait a.0 own (still a.0 a.1) (omega arith))
      debt_and_flag (Chooses j g) st s still own top =
          let a = s.1 in let up = a.2 in omega (arith, two_wait a.0 own (still a.0 a.1) (omega arith))
      debt_and_flag (Boots j) st s still own top = omega (arith, flag_waits e own (omega arith))
      debt_and_flag Rests st s still own top = omega (arith, flag_waits e own (omega arith))
      debt_and_flag Works st s still own top = omega (arith, flag_waits e own (omega arith))
      debt_and_flag (Begins j) st s still own top = omega (arith, flag_waits e own (omega arith))
      debt_and_flag (Repeats j) st s still own top = omega (arith, flag_waits e own (omega arith))
      debt_and_flag (Nears j) st s still own top = omega (arith, flag_waits e own (omega arith))
      debt_and_flag (Copies j) st s still own top = omega (arith, flag_waits e own (omega arith))
      debt_and_flag (Leaves x j) st s still own top = omega (arith, flag_waits e own (omega arith))
