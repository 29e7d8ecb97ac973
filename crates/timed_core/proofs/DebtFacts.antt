-- What an event waits for: a number that each step lowers while the event's flag is set or its run is under way.
use Rattle.std.specs.Prelude.{ℕ, zero, suc, ◌+◌, ◌-◌, ◌<◌, ◌≤◌, ◌==◌, Bool, true, false, ◌&&◌, not, List, [], ◌∷◌, ◌⊎◌, nat_le}
use Rattle.std.specs.List.{list_any}
use Rattle.std.proofs.Common.{◌≡◌, refl, ap, subst, arith, inl, inr}
use Rattle.timed_core.specs.Timing.{Timing, IsListed, Within}
use Rattle.timed_core.specs.Steps.{Run, Phase, Label, Above, Best, locked, voided, top_level, fresh}
use Rattle.timed_core.specs.Steps.Phase.{Boots, Rests, Works, Owes, Chooses, Begins, Repeats, Nears, Copies, Leaves}
use Rattle.timed_core.specs.Tale.{is_clearing}
use Rattle.timed_core.specs.Shape.{Tower, IsEmpty, Shape, StillSet}
use Rattle.timed_core.specs.Response.{peak, restarts}
use Rattle.timed_core.proofs.MoveLaws.{Move, boots, boots_puts, readies, rests, rests_takes, rests_delays, works, works_takes, locks, works_delays, slips, owes_takes, chooses, clears, begins, turns, opens_short, repeats, turns_again, nears, opens, copies, copies_puts, commits, leaves, returns_home, returns}
use Rattle.timed_core.proofs.LiveLaws.{In, in_parts, not_below}
use Rattle.timed_core.proofs.SumLaws.{total, total_le, total_pick, weigh, weigh_le, weigh_most, weigh_all, weigh_none, any_at, any_gives, any_le, both, both_parts, le_test, le_of, eq_test, less_or_not}
use Rattle.timed_core.proofs.PotentialFacts.{taking, again, commit, listed_in}

pub weigh_num : (b : Bool) (m n : ℕ) → m ≤ n → weigh b m ≤ weigh b n
weigh_num true m n h = h
weigh_num false m n h = omega arith

pub weigh_not : (b c : Bool) (n : ℕ) → (b ≡ true → c ≡ true) → weigh (not c) n ≤ weigh (not b) n
weigh_not true true n h = omega arith
weigh_not true false n h = let e = h refl in absurd cc
weigh_not false c n h = weigh_most (not c) n

pub not_weighed : (b : Bool) (n : ℕ) → b ≡ true → weigh (not b) n ≡ 0
not_weighed true n h = refl
not_weighed false n h = absurd cc

module _ (p : Timing) (off e : ℕ) where
  -- Of the event's own or a higher level.
  abbrev pub heavy : ℕ → Bool
  heavy x = nat_le (p.level e) (p.level x)

  abbrev pub latch_cost : ℕ → ℕ
  latch_cost x = taking p + p.body x + commit p + restarts p off (p.level e) (p.level x)

  abbrev pub waits : (ℕ → Bool) → ℕ
  waits f = total (λ x. weigh (f x && heavy x) (latch_cost x)) p.events

  abbrev pub heavy_in : (ℕ → Bool) → Bool
  heavy_in f = list_any (λ x. f x && heavy x) p.events

  -- What a run owes as it is, and what it owes when it is interrupted.
  abbrev pub due : Run → ℕ
  due r = weigh (heavy r.event) (r.rest + weigh r.void (again p + p.body r.event) + commit p)

  abbrev pub doomed : List Run → ℕ
  doomed [] = 0
  doomed (r ∷ rs) = weigh (heavy r.event) (r.rest + (again p + p.body r.event) + commit p) + doomed rs

  abbrev pub runs_due : List Run → ℕ
  runs_due [] = 0
  runs_due (r ∷ rs) = due r + doomed rs

  abbrev pub begun : List Run → ℕ
  begun [] = 0
  begun (r ∷ rs) = weigh (heavy r.event) (p.body r.event + commit p) + doomed rs

  abbrev pub doomed_beneath : List Run → ℕ
  doomed_beneath [] = 0
  doomed_beneath (r ∷ rs) = doomed rs

  -- The debt, `taking` above what is waited for.
  abbrev pub debt : (ℕ → Bool) → Phase → List Run → ℕ
  debt f (Boots j) st = taking p + j + 1 + waits f
  debt f Rests st = taking p + waits f
  debt f Works st = taking p + runs_due st + waits f
  debt f (Owes on g) st = p.choose + p.start + 3 + runs_due st + waits f + weigh (not (heavy_in g)) (taking p)
  debt f (Chooses j g) st = j + p.start + 2 + runs_due st + waits f + weigh (not (heavy_in g)) (taking p)
  debt f (Begins j) st = taking p + j + 1 + begun st + waits f
  debt f (Repeats j) st = taking p + j + 1 + begun st + waits f
  debt f (Nears j) st = taking p + j + p.copying + p.exiting + 3 + doomed_beneath st + waits f
  debt f (Copies j) st = taking p + j + p.exiting + 2 + doomed_beneath st + waits f
  debt f (Leaves x j) st = taking p + j + 1 + doomed st + waits f

  -- The event waits in its flag, or the top run is of its level or above.
  abbrev pub Waiting : (ℕ → Bool) → List Run → Type 0
  Waiting f st = (f e ≡ true) ⊎ (p.level e ≤ top_level p st)

  empty_due : (st : List Run) → IsEmpty st → runs_due st ≡ 0
  empty_due [] h = refl
  empty_due (r ∷ rs) h = absurd h

  empty_level : (st : List Run) → IsEmpty st → top_level p st ≡ 0
  empty_level [] h = refl
  empty_level (r ∷ rs) h = absurd h

  doomed_voided : (st : List Run) → doomed (voided st) ≡ doomed st
  doomed_voided [] = refl
  doomed_voided (r ∷ rs) = ap (λ n. weigh (heavy r.event) (r.rest + (again p + p.body r.event) + commit p) + n) (doomed_voided rs)

  due_less : (r : Run) (i : ℕ) → i ≤ r.rest → due (record r { rest = i }) ≤ due r
  due_less r i h = weigh_num (heavy r.event) _ _ (omega arith)

  due_slips : (r : Run) → due (record r { rest = p.retry }) ≤ due r + p.retry
  due_slips r = by (heavy r.event)
    where
      by : (b : Bool) → weigh b (p.retry + weigh r.void (again p + p.body r.event) + commit p) ≤ weigh b (r.rest + weigh r.void (again p + p.body r.event) + commit p) + p.retry
      by true = omega arith
      by false = omega arith

  due_fresh : (x : ℕ) → due (fresh p x) ≤ weigh (heavy x) (p.body x + commit p)
  due_fresh x = weigh_num (heavy x) _ _ (omega arith)

  pub due_doomed : (r : Run) → due r ≤ weigh (heavy r.event) (r.rest + (again p + p.body r.event) + commit p)
  due_doomed r = weigh_num (heavy r.event) _ _ (omega (arith, weigh_most r.void (again p + p.body r.event)))

  light_doomed : (st : List Run) → Tower p st → top_level p st < p.level e → doomed st ≡ 0
  light_doomed [] t h = refl
  light_doomed (r ∷ rs) t h =
      let none = weigh_none (heavy r.event) (r.rest + (again p + p.body r.event) + commit p) (λ b. let low = le_of (p.level e) (p.level r.event) b in absurd (omega arith)) in
      let falls = t.1 in
      omega (arith, light_doomed rs t.2 (omega arith))

  -- What a level of an event adds to the restarts above it.
  peak_at : (x : ℕ) (xs : List ℕ) → In x xs → p.body x - p.spare ≤ peak p (p.level x) xs
  peak_at x [] there = absurd cc
  peak_at x (y ∷ ys) there = by (in_parts x y ys there) (λ it. peak_at x ys it)
    where
      by : (y ≡ x) ⊎ In x ys → (In x ys → p.body x - p.spare ≤ peak p (p.level x) ys) → p.body x - p.spare ≤ peak p (p.level x) (y ∷ ys)
      by (inl same) rest =
          let here : weigh (p.level y == p.level x) (p.body y - p.spare) ≡ p.body y - p.spare = weigh_all (p.level y == p.level x) (p.body y - p.spare) (eq_test (p.level y) (p.level x) (ap p.level same)) in
          omega (arith, ap p.body same)
      by (inr it) rest = omega (arith, rest it)

  pub restarts_at : (y q : ℕ) → In y p.events → p.level e ≤ p.level y → p.level y < q → off + (p.body y - p.spare) ≤ restarts p off (p.level e) q
  restarts_at y zero there low up = absurd (omega arith)
  restarts_at y (suc q) there low up = by (same_or_below (p.level y) q) (λ below. restarts_at y q there low below)
    where
      same_or_below : (a b : ℕ) → (a ≡ b) ⊎ (a < b) ⊎ (b < a)
      same_or_below a b = grind arith

      by : (p.level y ≡ q) ⊎ (p.level y < q) ⊎ (q < p.level y) → (p.level y < q → off + (p.body y - p.spare) ≤ restarts p off (p.level e) q) → off + (p.body y - p.spare) ≤ restarts p off (p.level e) (suc q)
      by (inl same) rest =
          let test = both (nat_le (p.level e) q) (list_any (λ x. p.level x == q) p.events) (le_test (p.level e) q (omega arith)) (any_at (λ x. p.level x == q) y p.events there (eq_test (p.level y) q same)) in
          let here : weigh (nat_le (p.level e) q && list_any (λ x. p.level x == q) p.events) (off + peak p q p.events) ≡ off + peak p q p.events = weigh_all _ _ test in
          omega (arith, subst (λ v. p.body y - p.spare ≤ peak p v p.events) same (peak_at y p.events there))
      by (inr (inl below)) rest = omega (arith, rest below)
      by (inr (inr above)) rest = absurd (omega arith)

  pub no_restarts : (q : ℕ) → q ≤ p.level e → restarts p off (p.level e) q ≡ 0
  no_restarts zero h = refl
  no_restarts (suc q) h =
      let none : weigh (nat_le (p.level e) q && list_any (λ x. p.level x == q) p.events) (off + peak p q p.events) ≡ 0 =
      weigh_none _ _ (λ b. let low = le_of (p.level e) q (both_parts (nat_le (p.level e) q) (list_any (λ x. p.level x == q) p.events) b).0 in absurd (omega arith)) in
      omega (arith, no_restarts q (omega arith))

  module _ (listed : IsListed p) (w : Within p off) (real : 0 < p.level e) where
    -- A run that a more urgent event interrupts owes beginning again, which the restarts of that event pay.
    doom_paid : (h : ℕ) (st : List Run) → top_level p st < p.level h → doomed st ≤ runs_due st + restarts p off (p.level e) (p.level h)
    doom_paid h [] up = omega arith
    doom_paid h (r ∷ rs) up = by (less_or_not (p.level r.event) (p.level e))
      where
        by : (p.level r.event < p.level e) ⊎ (p.level e ≤ p.level r.event) → doomed (r ∷ rs) ≤ runs_due (r ∷ rs) + restarts p off (p.level e) (p.level h)
        by (inl light) =
            let none = weigh_none (heavy r.event) (r.rest + (again p + p.body r.event) + commit p) (λ b. let low = le_of (p.level e) (p.level r.event) b in absurd (omega arith)) in
            omega arith
        by (inr is_heavy) =
            let full = weigh_all (heavy r.event) (r.rest + (again p + p.body r.event) + commit p) (le_test (p.level e) (p.level r.event) is_heavy) in
            let its = weigh_all (heavy r.event) (r.rest + weigh r.void (again p + p.body r.event) + commit p) (le_test (p.level e) (p.level r.event) is_heavy) in
            let bound = w.again in
            omega (arith, restarts_at r.event (p.level h) (listed_in p listed r.event (omega arith)) is_heavy up)

    module _ (f g : ℕ → Bool) (sub : (x : ℕ) → g x ≡ true → f x ≡ true) where
      -- f are the flags at the boundary, g those after the step.
      less_waits : waits g ≤ waits f
      less_waits = total_le _ _ p.events (λ x. weigh_le _ _ (latch_cost x) (λ b. let parts = both_parts (g x) (heavy x) b in both (f x) (heavy x) (sub x parts.0) parts.1))

      clearing_pays : (h : ℕ) → p.level e ≤ p.level h → f h ≡ true → g h ≡ false → waits g + latch_cost h ≤ waits f
      clearing_pays h is_heavy set clear =
          total_pick (λ x. weigh (g x && heavy x) (latch_cost x)) (λ x. weigh (f x && heavy x) (latch_cost x)) h (latch_cost h) p.events (listed_in p listed h (omega arith))
          (λ x. weigh_le _ _ (latch_cost x) (λ b. let parts = both_parts (g x) (heavy x) b in both (f x) (heavy x) (sub x parts.0) parts.1))
          (let full = weigh_all (f h && heavy h) (latch_cost h) (both (f h) (heavy h) set (le_test (p.level e) (p.level h) is_heavy)) in
          let none : weigh (g h && heavy h) (latch_cost h) ≡ 0 = ap (λ b. weigh (b && heavy h) (latch_cost h)) clear in
          omega arith)

      heavy_at : (seen : ℕ → Bool) (x : ℕ) → seen x ≡ true → p.level e ≤ p.level x → heavy_in seen ≡ true
      heavy_at seen x set is_heavy = any_at _ x p.events (listed_in p listed x (omega arith)) (both (seen x) (heavy x) set (le_test (p.level e) (p.level x) is_heavy))

      called : (st : List Run) → Waiting f st → Above p f (top_level p st) → heavy_in f ≡ true
      called st (inl set) a = heavy_at f e set (omega arith)
      called st (inr top) a = heavy_at f a.0 a.1 (let up = a.2 in omega arith)

      unshifted : (st : List Run) → Waiting f st → Above p f (top_level p st) → weigh (not (heavy_in f)) (taking p) ≡ 0
      unshifted st wait a = not_weighed (heavy_in f) (taking p) (called st wait a)

      top_heavy : (r : Run) (rs : List Run) → (Above p f (p.level r.event) → ⊥) → Waiting f (r ∷ rs) → p.level e ≤ p.level r.event
      top_heavy r rs none (inl set) = by (less_or_not (p.level r.event) (p.level e))
        where
          by : (p.level r.event < p.level e) ⊎ (p.level e ≤ p.level r.event) → p.level e ≤ p.level r.event
          by (inl light) = absurd (none (e, set, light))
          by (inr h) = h
      top_heavy r rs none (inr top) = top

      empty_called : (st : List Run) → IsEmpty st → Waiting f st → f e ≡ true
      empty_called st empty (inl set) = set
      empty_called st empty (inr top) = absurd (omega (arith, empty_level st empty))

      heavy_due : (r : Run) → p.level e ≤ p.level r.event → due r ≡ r.rest + weigh r.void (again p + p.body r.event) + commit p
      heavy_due r h = weigh_all (heavy r.event) _ (le_test (p.level e) (p.level r.event) h)

      lock_falls : (r : Run) (rs : List Run) (b : Bool) → debt g (locked p b) (r ∷ rs) + 1 ≤ taking p + (r.rest + weigh b (again p + p.body r.event) + commit p) + doomed rs + waits f
      lock_falls r rs true = omega (arith, less_waits, weigh_most (heavy r.event) (p.body r.event + commit p))
      lock_falls r rs false = omega (arith, less_waits)

      clear_falls : (j h : ℕ) (seen : ℕ → Bool) (st : List Run) → Tower p st → f h ≡ true → g h ≡ false → Best p seen h → top_level p st < p.level h
          → debt g (Begins p.start) (fresh p h ∷ st) + 1 ≤ debt f (Chooses j seen) st
      clear_falls j h seen st tower set clear best above = by (less_or_not (p.level h) (p.level e))
        where
          by : (p.level h < p.level e) ⊎ (p.level e ≤ p.level h) → debt g (Begins p.start) (fresh p h ∷ st) + 1 ≤ debt f (Chooses j seen) st
          by (inl light) =
              let none = weigh_none (heavy h) (p.body h + commit p) (λ b. let low = le_of (p.level e) (p.level h) b in absurd (omega arith)) in
              let shift : weigh (not (heavy_in seen)) (taking p) ≡ taking p = whole (heavy_in seen) unheard in
              omega (arith, less_waits, light_doomed st tower (omega arith))
            where
              whole : (b : Bool) → (b ≡ true → ⊥) → weigh (not b) (taking p) ≡ taking p
              whole true h = absurd (h refl)
              whole false h = refl

              unheard : heavy_in seen ≡ true → ⊥
              unheard b =
                  let it = any_gives _ p.events b in
                  let parts = both_parts (seen it.0) (heavy it.0) it.1 in
                  let low = le_of (p.level e) (p.level it.0) parts.1 in
                  let bound = not_below p seen listed h it.0 best parts.0 (omega arith) in
                  omega arith
          by (inr is_heavy) = omega (arith, clearing_pays h is_heavy set clear, doom_paid h st above, weigh_most (heavy h) (p.body h + commit p))

      pub debt_falls : {ph ph' : Phase} {l : Label} {st st' : List Run} → Move p f ph l st ph' st' → Shape p ph st → StillSet f ph → Waiting f st
          → ((x : ℕ) → is_clearing x l ≡ true → g x ≡ false) → debt g ph' st' + 1 ≤ debt f ph st
      debt_falls (boots h) s still wait clear = omega (arith, less_waits)
      debt_falls (boots_puts h) s still wait clear = omega (arith, less_waits)
      debt_falls readies s still wait clear = omega (arith, less_waits)
      debt_falls (rests {st = st} none) s still wait clear = absurd (none (e, empty_called st s wait, real))
      debt_falls (rests_takes {st = st} a) s still wait clear =
          omega (arith, less_waits, empty_due st s, not_weighed (heavy_in f) (taking p) (heavy_at f e (empty_called st s wait) (omega arith)))
      debt_falls (rests_delays {st = st} a) s still wait clear =
          omega (arith, less_waits, empty_due st s, not_weighed (heavy_in f) (taking p) (heavy_at f e (empty_called st s wait) (omega arith)))
      debt_falls (works {r = r} {rs = rs} {i = i} none h) s still wait clear =
          let top = top_heavy r rs none wait in omega (arith, less_waits, heavy_due r top, heavy_due (record r { rest = i }) top)
      debt_falls (works_takes {r = r} {rs = rs} a) s still wait clear = omega (arith, less_waits, unshifted (r ∷ rs) wait a)
      debt_falls (locks {r = r} {rs = rs} none) s still wait clear = omega (arith, lock_falls r rs r.void, heavy_due r (top_heavy r rs none wait))
      debt_falls (works_delays {r = r} {rs = rs} {i = i} a h) s still wait clear = omega (arith, less_waits, unshifted (r ∷ rs) wait a, due_less r i (omega arith))
      debt_falls (slips {r = r} {rs = rs} a) s still wait clear = omega (arith, less_waits, unshifted (r ∷ rs) wait a, due_slips r)
      debt_falls (owes_takes {g = seen} {st = st}) s still wait clear =
          omega (arith, less_waits, weigh_not (heavy_in seen) (heavy_in f) (taking p) (λ b. any_le _ _ p.events (λ x c. let parts = both_parts (seen x) (heavy x) c in both (f x) (heavy x) (still x parts.0) parts.1) b))
      debt_falls (chooses h) s still wait clear = omega (arith, less_waits)
      debt_falls (clears {j = j} {h = h} {g = seen} {st = st} set best above) s still wait clear = clear_falls j h seen st s.0 set (clear h (eq_test h h refl)) best above
      debt_falls (begins h) s still wait clear = omega (arith, less_waits)
      debt_falls (turns {r = r}) s still wait clear = omega (arith, less_waits, due_fresh r.event)
      debt_falls (opens_short {r = r} is_short top) s still wait clear =
          omega (arith, less_waits, weigh_all (heavy r.event) (p.body r.event + commit p) (le_test (p.level e) (p.level r.event) (top e)))
      debt_falls (repeats h) s still wait clear = omega (arith, less_waits)
      debt_falls (turns_again {r = r}) s still wait clear = omega (arith, less_waits, due_fresh r.event)
      debt_falls (nears h) s still wait clear = omega (arith, less_waits)
      debt_falls opens s still wait clear = omega (arith, less_waits)
      debt_falls (copies h) s still wait clear = omega (arith, less_waits)
      debt_falls (copies_puts h) s still wait clear = omega (arith, less_waits)
      debt_falls (commits {rs = rs}) s still wait clear = omega (arith, less_waits, doomed_voided rs)
      debt_falls (leaves h) s still wait clear = omega (arith, less_waits)
      debt_falls returns_home s still wait clear = omega (arith, less_waits)
      debt_falls (returns {r = r}) s still wait clear = omega (arith, less_waits, due_doomed r)
