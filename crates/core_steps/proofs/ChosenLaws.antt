-- The most urgent of the events that wait is the one to which all others come after.
use Rattle.std.specs.Prelude.{ℕ, zero, suc, ◌<◌, Bool, true, false, nat_lt, ◌≤◌, List, Option, Some, None, ◌⊎◌, if◌then◌else◌}
use Rattle.std.proofs.Common.{◌≡◌, refl, subst, sym, ap, ◌∙◌, arith, inl, inr}
use Rattle.std.proofs.lemmas.Bool.{cases_lt}
use Rattle.std.proofs.lemmas.Bool.Decides.{nat_tests}
use Rattle.preempt_core.specs.Runs.{priority, more_urgent, most_urgent}

-- All other events that wait are of a lower priority, or come later at the same.
abbrev pub FirstOf : List ℕ → (ℕ → Bool) → ℕ → ℕ → Type 0
FirstOf priorities waits n h =
    (x : ℕ) → x < n → waits x ≡ true → (x ≡ h → ⊥) → (priority priorities x < priority priorities h) ⊎ ((priority priorities x ≡ priority priorities h) × (h < x))

module _ (priorities : List ℕ) (waits : ℕ → Bool) where
  abbrev best : ℕ → Option ℕ
  best n = most_urgent priorities waits n

  less : (a b : ℕ) → a < b → nat_lt a b ≡ true
  less a b h = grind (arith, nat_tests)

  not_less : (a b : ℕ) → (a < b → ⊥) → nat_lt a b ≡ false
  not_less a b h = grind (arith, nat_tests)

  -- It waits, and is one of the first n.
  pub waiting : (n e : ℕ) → best n ≡ Some e → (waits e ≡ true) × (e < n)
  waiting zero e h = absurd cc
  waiting (suc n) e h = by (waits n) refl h (waiting n)
    where
      either : (o : Option ℕ) → more_urgent priorities n o ≡ Some e → waits n ≡ true → ((x : ℕ) → o ≡ Some x → (waits x ≡ true) × (x < n)) → (waits e ≡ true) × (e < suc n)
      either None it set rest = let same : n ≡ e = cc in (subst (λ x. waits x ≡ true) same set, omega (arith, same))
      either (Some b) it set rest = choose (nat_lt (priority priorities b) (priority priorities n)) it
        where
          choose : (v : Bool) → (if v then Some n else Some b) ≡ Some e → (waits e ≡ true) × (e < suc n)
          choose true its = let same : n ≡ e = cc in (subst (λ x. waits x ≡ true) same set, omega (arith, same))
          choose false its = let r = rest e its in (r.0, let low = r.1 in omega (arith, low))

      by : (v : Bool) → waits n ≡ v → (if v then more_urgent priorities n (best n) else best n) ≡ Some e → ((x : ℕ) → best n ≡ Some x → (waits x ≡ true) × (x < n)) → (waits e ≡ true) × (e < suc n)
      by true set it rest = either (best n) it set rest
      by false clear it rest = let r = rest e it in (r.0, let low = r.1 in omega (arith, low))

  -- The last event is, where all before it that wait are of a lower priority.
  last_is : (n : ℕ) (o : Option ℕ) → ((x : ℕ) → o ≡ Some x → priority priorities x < priority priorities n) → more_urgent priorities n o ≡ Some n
  last_is n None low = refl
  last_is n (Some b) low = rw (less (priority priorities b) (priority priorities n) (low b refl)) refl

  pub chosen_is : (h n : ℕ) → h < n → waits h ≡ true → FirstOf priorities waits n h → best n ≡ Some h
  chosen_is h zero low set first = absurd (omega (arith, low))
  chosen_is h (suc n) low set first = by (cases_lt h n) (λ under rest. chosen_is h n under set rest)
    where
      before : FirstOf priorities waits n h
      before x is_low waits_too other = first x (omega (arith, is_low)) waits_too other

      stays : h < n → (v : Bool) → waits n ≡ v → best n ≡ Some h → (if v then more_urgent priorities n (best n) else best n) ≡ Some h
      stays under false clear is_it = is_it
      stays under true also is_it =
          rw is_it (rw (not_less (priority priorities h) (priority priorities n) (λ up. higher up (first n (omega arith) also (λ same. absurd (omega (arith, same, under)))))) refl)
        where
          higher : priority priorities h < priority priorities n → (priority priorities n < priority priorities h) ⊎ ((priority priorities n ≡ priority priorities h) × (h < n)) → ⊥
          higher up (inl down) = absurd (omega (arith, up, down))
          higher up (inr same) = let level = same.0 in absurd (omega (arith, up, level))

      at_last : n ≡ h → best (suc n) ≡ Some h
      at_last same =
          rw (subst (λ x. waits x ≡ true) (sym same) set) (last_is n (best n) (λ x it. lower x (waiting n x it)) ∙ ap (λ x. Some x) same)
        where
          lower : (x : ℕ) → (waits x ≡ true) × (x < n) → priority priorities x < priority priorities n
          lower x w = let under = w.1 in down (first x (omega (arith, under)) w.0 (λ it. absurd (omega (arith, it, same, under))))
            where
              down : (priority priorities x < priority priorities h) ⊎ ((priority priorities x ≡ priority priorities h) × (h < x)) → priority priorities x < priority priorities n
              down (inl it) = subst (λ y. priority priorities x < priority priorities y) (sym same) it
              down (inr it) = let after = it.1 in let under = w.1 in absurd (omega (arith, after, under, same))

      by : (h < n) ⊎ (n ≤ h) → (h < n → FirstOf priorities waits n h → best n ≡ Some h) → best (suc n) ≡ Some h
      by (inl under) rest = stays under (waits n) refl (rest under before)
      by (inr over) rest = at_last (omega (arith, over, low))
