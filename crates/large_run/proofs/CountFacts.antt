-- Sums over lists, and what they count over a log: commits by their events, and latched and merged arrivals by their boundaries.
use Rattle.std.proofs.Common.{◌≡◌, ℕ, zero, suc, ◌+◌, ◌<◌, ◌≤◌, Bool, true, false, cond, not, ◌&&◌, ◌==◌, List, [], ◌∷◌, length, map, refl, sym, ap, ap₂, inl, inr, ◌∙◌, arith}
use Rattle.std.specs.Prelude.{◌≢◌, ◌⊎◌}
use Rattle.std.specs.List.{AllByRecursion, count_by, filter, sum_by}
use Rattle.std.specs.Str.{bytes_eq}
use Rattle.std.proofs.Math.Path.{fun_ext}
use Rattle.std.proofs.lemmas.Bool.{false_from_ne_true, ne_eqb}
use Rattle.std.proofs.lemmas.Bool.Decides.{eqb_tells}
use Rattle.std.proofs.lemmas.List.{length-append}
use Rattle.std.proofs.lemmas.List.Sums.{sum_by-append, sum_by-cons}
use Rattle.std.proofs.lemmas.Slice.Eq.{bytes_eq-Decides}
use Rattle.pic_isa.specs.declared.sources.Source.{Source}
use Rattle.pic_isa.specs.Sources.{sources}
use Rattle.pic_regs.specs.Bytes.{one_if}
use Rattle.pic_regs.specs.Registers.{flag}
use Rattle.pic_machine.specs.Chip.{Chip}
use Rattle.pic_machine.specs.Boundary.{Outer, with_changed_pins}
use Rattle.pic_machine.specs.Run.{Log, after, log}
use Rattle.map_file.specs.declared.maps.MapEvent.{MapEvent}
use Rattle.map_file.specs.declared.maps.Map.{Map}
use Rattle.map_file.specs.MapRules.{AllDiffer}
use Rattle.firmware_promises.specs.Counts.{commit_count, commits, committed_by, count, latches, ran_at}
use Rattle.large_run.specs.Tallies.{latched_in, merged_in, merges}

module _ {X : Type 0} where
  pub sums-agree : (f g : X → ℕ) (xs : List X) → AllByRecursion (λ x. f x ≡ g x) xs → sum_by f xs ≡ sum_by g xs
  sums-agree f g [] h = refl
  sums-agree f g (x ∷ xs) h = sum_by-cons f x xs ∙ ap₂ (λ a b. a + b) h.0 (sums-agree f g xs h.1) ∙ sym (sum_by-cons g x xs)

  pub sum-of_sums : (f g : X → ℕ) (xs : List X) → sum_by (λ x. f x + g x) xs ≡ sum_by f xs + sum_by g xs
  sum-of_sums f g [] = refl
  sum-of_sums f g (x ∷ xs) = omega (arith, sum_by-cons (λ y. f y + g y) x xs, sum_by-cons f x xs, sum_by-cons g x xs, sum-of_sums f g xs)

  pub sum-of_none : (xs : List X) → sum_by (λ x. 0) xs ≡ 0
  sum-of_none [] = refl
  sum-of_none (x ∷ xs) = omega (arith, sum_by-cons (λ y. 0) x xs, sum-of_none xs)

-- Of some events whose names differ, as many have committed as are counted by name.
abbrev named : (MapEvent → Bool) → List MapEvent → List (List ℕ)
named test es = map (λ e. e.name) (filter test es)

abbrev by_name : List (List ℕ) → MapEvent → ℕ
by_name names e = count_by (bytes_eq e.name) names

module _ (test : MapEvent → Bool) where
  not-named : (d : MapEvent) (es : List MapEvent) → AllByRecursion (λ e. e.name ≢ d.name) es → by_name (named test es) d ≡ 0
  not-named d [] h = refl
  not-named d (e ∷ es) h = by (test e) (not-named d es h.1)
    where
      other : bytes_eq d.name e.name ≡ false
      other = false_from_ne_true (bytes_eq d.name e.name) (λ same. h.0 (sym ((bytes_eq-Decides d.name e.name).0 same)))

      by : (b : Bool) → by_name (named test es) d ≡ 0 → by_name (map (λ x. x.name) (cond b (e ∷ filter test es) (filter test es))) d ≡ 0
      by false rest = rest
      by true rest = sum_by-cons (λ name. cond (bytes_eq d.name name) 1 0) e.name (named test es) ∙ ap₂ (λ b n. cond b 1 0 + n) other rest

  not-counted : (d : MapEvent) (es : List MapEvent) → AllByRecursion (λ e. e.name ≢ d.name) es → AllByRecursion (λ (e : MapEvent). ◌≡◌ {A = ℕ} (cond (bytes_eq e.name d.name) 1 0) 0) es
  not-counted d [] h = tt
  not-counted d (e ∷ es) h = (ap (λ b. cond b 1 0) (false_from_ne_true (bytes_eq e.name d.name) (λ same. h.0 ((bytes_eq-Decides e.name d.name).0 same))), not-counted d es h.1)

  pub counted-by_name : (es : List MapEvent) → AllDiffer (λ e. e.name) es → sum_by (by_name (named test es)) es ≡ length (named test es)
  counted-by_name [] h = refl
  counted-by_name (e ∷ es) h = by (test e) (counted-by_name es h.1)
    where
      one : ◌≡◌ {A = ℕ} (cond (bytes_eq e.name e.name) 1 0) 1
      one = ap (λ b. cond b 1 0) ((bytes_eq-Decides e.name e.name).1 refl)

      -- The event's own name, in front of the others that pass.
      in_front : (d : MapEvent) → by_name (e.name ∷ named test es) d ≡ cond (bytes_eq d.name e.name) 1 0 + by_name (named test es) d
      in_front d = sum_by-cons (λ name. cond (bytes_eq d.name name) 1 0) e.name (named test es)

      rest : sum_by (by_name (e.name ∷ named test es)) es ≡ sum_by (by_name (named test es)) es
      rest =
          ap (λ f. sum_by f es) (fun_ext in_front)
          ∙ sum-of_sums (λ d. cond (bytes_eq d.name e.name) 1 0) (by_name (named test es)) es
          ∙ ap (λ n. n + sum_by (by_name (named test es)) es) (sums-agree (λ d. cond (bytes_eq d.name e.name) 1 0) (λ d. 0) es (not-counted e es h.0) ∙ sum-of_none es)
          ∙ omega arith

      by : (b : Bool) → sum_by (by_name (named test es)) es ≡ length (named test es) → sum_by (by_name (map (λ x. x.name) (cond b (e ∷ filter test es) (filter test es)))) (e ∷ es) ≡ length (map (λ x. x.name) (cond b (e ∷ filter test es) (filter test es)))
      by false others = omega (arith, sum_by-cons (by_name (named test es)) e es, not-named e es h.0, others)
      by true others = omega (arith, sum_by-cons (by_name (e.name ∷ named test es)) e es, in_front e, one, not-named e es h.0, rest, others)

-- There are as many commits as the events have together.
pub commits-by_event : (m : Map) (log : Log) → AllDiffer (λ e. e.name) m.events → (n : ℕ) → sum_by (λ e. commit_count m log e n) m.events ≡ length (commits m log n)
commits-by_event m log differ zero = sum-of_none m.events
commits-by_event m log differ (suc n) =
    ap (λ f. sum_by f m.events) (fun_ext (λ e. sum_by-append (λ name. cond (bytes_eq e.name name) 1 0) (commits m log n) (committed_by m (log n))))
    ∙ sum-of_sums (λ e. commit_count m log e n) (by_name (committed_by m (log n))) m.events
    ∙ ap₂ (λ a b. a + b) (commits-by_event m log differ n) (counted-by_name (λ e. ran_at e.commit (log n)) m.events differ)
    ∙ sym (length-append (commits m log n) (committed_by m (log n)))

-- The sum of a function over the numbers below one.
pub below_sum : (ℕ → ℕ) → ℕ → ℕ
below_sum f zero = 0
below_sum f (suc k) = below_sum f k + f k

pub below-agree : (f g : ℕ → ℕ) → ((k : ℕ) → f k ≡ g k) → (n : ℕ) → below_sum f n ≡ below_sum g n
below-agree f g h n = ap (λ it. below_sum it n) (fun_ext h)

pub below-of_sums : (f g : ℕ → ℕ) (n : ℕ) → below_sum (λ k. f k + g k) n ≡ below_sum f n + below_sum g n
unfolding below_sum
below-of_sums f g zero = refl
below-of_sums f g (suc n) = omega (arith, below-of_sums f g n)

pub below-none : (n : ℕ) → below_sum (λ k. 0) n ≡ 0
unfolding below_sum
below-none zero = refl
below-none (suc n) = omega (arith, below-none n)

-- One number is among those below one or isn't.
not-hit : (b n : ℕ) → n ≤ b → below_sum (λ k. one_if (b == k)) n ≡ 0
unfolding below_sum
not-hit b zero h = refl
not-hit b (suc n) h = ap₂ (λ a c. a + one_if c) (not-hit b n (omega arith)) (ne_eqb b n (λ e. absurd (omega arith)))

pub hit-once : (b n : ℕ) → b < n → below_sum (λ k. one_if (b == k)) n ≡ 1
unfolding below_sum
hit-once b zero h = absurd (omega arith)
hit-once b (suc n) h = by (eqb_tells b n) (hit-once b n)
  where
    by : (((b == n) ≡ true) × (b ≡ n)) ⊎ (((b == n) ≡ false) × (b ≢ n)) → (b < n → below_sum (λ k. one_if (b == k)) n ≡ 1) → below_sum (λ k. one_if (b == k)) n + one_if (b == n) ≡ 1
    by (inl t) before = let e = t.1 in ap₂ (λ a c. a + one_if c) (not-hit b n (omega arith)) t.0
    by (inr t) before = let ne = t.1 in let less : b < n = omega arith in ap₂ (λ a c. a + one_if c) (before less) t.0

-- Each arrival of a step is latched or merged.
one_of_both : (a f : Bool) → one_if (a && not f) + one_if (a && f) ≡ one_if a
one_of_both true true = refl
one_of_both true false = refl
one_of_both false true = refl
one_of_both false false = refl

-- So what was latched and merged is what arrived.
module _ (program : ℕ → ℕ) (c : Chip) (outer : ℕ → Outer) where
  abbrev steps : Log
  steps = log program c outer

  abbrev arriving_at : ℕ → ℕ
  arriving_at k = sum_by (λ source. one_if ((outer k).arrivals source)) sources

  at_step : (k : ℕ) (source : Source) → one_if (latches source (steps k)) + one_if (merges source (steps k)) ≡ one_if ((outer k).arrivals source)
  at_step k source = one_of_both ((outer k).arrivals source) (flag source (with_changed_pins (outer k).pins (after program c outer k)).regs)

  pub arrived-in : (n : ℕ) → latched_in steps n + merged_in steps n ≡ below_sum arriving_at n
  unfolding below_sum
  arrived-in zero = refl
  arrived-in (suc n) =
      let latched = sum-of_sums (λ source. count steps (latches source) n) (λ source. one_if (latches source (steps n))) sources in
      let merged = sum-of_sums (λ source. count steps (merges source) n) (λ source. one_if (merges source (steps n))) sources in
      let both = sum-of_sums (λ source. one_if (latches source (steps n))) (λ source. one_if (merges source (steps n))) sources in
      ap₂ (λ a b. a + b) latched merged
      ∙ exchange (latched_in steps n) (sum_by (λ source. one_if (latches source (steps n))) sources) (merged_in steps n) (sum_by (λ source. one_if (merges source (steps n))) sources)
      ∙ ap₂ (λ a b. a + b) (arrived-in n) (sym both ∙ ap (λ f. sum_by f sources) (fun_ext (at_step n)))
    where
      exchange : (a b x y : ℕ) → (a + b) + (x + y) ≡ (a + x) + (b + y)
      exchange a b x y = omega arith
