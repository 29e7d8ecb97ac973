-- Ranges with one more address above them.
use Rattle.std.proofs.Common.{◌≡◌, ℕ, ◌+◌, ◌<◌, ◌≤◌, ◌||◌, ◌&&◌, nat_le, Bool, true, false, List, [], ◌∷◌, ◌++◌, inl, inr, ap, sym, ◌∙◌, refl, arith, eq-eqb, ne_eqb}
use Rattle.std.specs.Prelude.{◌==◌, ◌≢◌, nat_lt}
use Rattle.std.proofs.lemmas.Bool.{and_from, and_right, cases_eq, lt-ltb, or_right}
use Rattle.std.proofs.lemmas.Bool.Decides.{nat_tests}
use Rattle.std.proofs.Math.Bool.{or_assoc, or-false}
use Rattle.map_file.specs.declared.maps.Range.{Range}
use Rattle.map_file.specs.MapRules.{RangesRise}
use Rattle.event_needs.proofs.ListLaws.{all-append}
use Rattle.firmware_promises.specs.MapNames.{is_in}
use Rattle.firmware_map.specs.Ranges.{EndBelow, HoldBelow}

-- The range of one address, and a range that ends elsewhere.
abbrev single : ℕ → Range
single b = record { from = b; to = b }

abbrev ending : Range → ℕ → Range
ending r b = record { from = r.from; to = b }

-- An address lies in the ranges of two lists where it lies in those of either.
in-append : (rs ss : List Range) (a : ℕ) → is_in (rs ++ ss) a ≡ (is_in rs a || is_in ss a)
in-append [] ss a = refl
in-append (r ∷ rs) ss a =
    ap (λ b. nat_le r.from a && nat_le a r.to || b) (in-append rs ss a) ∙ sym (or_assoc (nat_le r.from a && nat_le a r.to) (is_in rs a) (is_in ss a))

-- The last range with one more address, or that address beside it.
in-ending : (r : Range) (b a : ℕ) → r.from ≤ r.to → r.to + 1 ≡ b → is_in (ending r b ∷ []) a ≡ (is_in (r ∷ []) a || a == b)
in-ending r b a room next = grind (arith, nat_tests)

in-single : (b a : ℕ) → is_in (single b ∷ []) a ≡ (a == b)
in-single b a = grind (arith, nat_tests)

in-grown : (rs : List Range) (r : Range) (b a : ℕ) → r.from ≤ r.to → r.to + 1 ≡ b → is_in (rs ++ ending r b ∷ []) a ≡ (is_in (rs ++ r ∷ []) a || a == b)
in-grown rs r b a room next =
    in-append rs (ending r b ∷ []) a ∙ ap (λ x. is_in rs a || x) (in-ending r b a room next) ∙ sym (or_assoc (is_in rs a) (is_in (r ∷ []) a) (a == b))
    ∙ ap (λ x. x || a == b) (sym (in-append rs (r ∷ []) a))

in-apart : (rs : List Range) (b a : ℕ) → is_in (rs ++ single b ∷ []) a ≡ (is_in rs a || a == b)
in-apart rs b a = in-append rs (single b ∷ []) a ∙ ap (λ x. is_in rs a || x) (in-single b a)

-- They rise.
rise-grown : (low : ℕ) (rs : List Range) (r : Range) (b : ℕ) → b < 512 → r.to ≤ b → RangesRise low (rs ++ r ∷ []) → RangesRise low (rs ++ ending r b ∷ [])
rise-grown low [] r b is_data more h = (h.0, omega (arith, h.1), is_data, tt)
rise-grown low (s ∷ rs) r b is_data more h = (h.0, h.1, h.2, rise-grown (s.to + 2) rs r b is_data more h.3)

rise-apart : (low : ℕ) (rs : List Range) (r : Range) (b : ℕ) → b < 512 → r.to + 2 ≤ b → RangesRise low (rs ++ r ∷ []) → RangesRise low ((rs ++ r ∷ []) ++ single b ∷ [])
rise-apart low [] r b is_data far h = (h.0, h.1, h.2, (far, omega arith, is_data, tt))
rise-apart low (s ∷ rs) r b is_data far h = (h.0, h.1, h.2, rise-apart (s.to + 2) rs r b is_data far h.3)

last-rises : (low : ℕ) (rs : List Range) (r : Range) → RangesRise low (rs ++ r ∷ []) → r.from ≤ r.to
last-rises low [] r h = h.1
last-rises low (s ∷ rs) r h = last-rises (s.to + 2) rs r h.3

-- They end below.
pub last-ends : (bound : ℕ) (rs : List Range) (r : Range) → EndBelow bound (rs ++ r ∷ []) → r.to < bound
last-ends bound [] r h = h.0
last-ends bound (s ∷ rs) r h = last-ends bound rs r h.1

ends-further : (bound : ℕ) (rs : List Range) → EndBelow bound rs → EndBelow (bound + 1) rs
ends-further bound [] h = tt
ends-further bound (r ∷ rs) h = let less = h.0 in (omega (arith, less), ends-further bound rs h.1)

ends-with : (bound : ℕ) (rs : List Range) (r : Range) → EndBelow bound rs → r.to < bound → EndBelow bound (rs ++ r ∷ [])
ends-with bound rs r h last = all-append (λ (s : Range). s.to < bound) rs (r ∷ []) h (last, tt)

ends-before : (bound : ℕ) (rs : List Range) (r : Range) → EndBelow bound (rs ++ r ∷ []) → EndBelow bound rs
ends-before bound [] r h = tt
ends-before bound (s ∷ rs) r h = (h.0, ends-before bound rs r h.1)

-- The addresses below the next bound that pass a test.
below-next : (a b : ℕ) → (a ≡ b → ⊥) → nat_lt a b ≡ nat_lt a (b + 1)
below-next a b differ = grind (arith, nat_tests)

exact-with : (test : ℕ → Bool) (a b : ℕ) → test b ≡ true → (nat_lt a b && test a || a == b) ≡ (nat_lt a (b + 1) && test a)
exact-with test a b passes = elim (cases_eq a b) [
  | inl same ↦
      or_right (nat_lt a b && test a) (a == b) (eq-eqb a b same)
      ∙ sym (and_from (nat_lt a (b + 1)) (test a) (lt-ltb a (b + 1) (omega arith)) (ap test same ∙ passes))
  | inr differ ↦
      ap (λ x. nat_lt a b && test a || x) (ne_eqb a b differ) ∙ or-false (nat_lt a b && test a) ∙ ap (λ x. x && test a) (below-next a b differ)
]

exact-without : (test : ℕ → Bool) (a b : ℕ) → test b ≡ false → (nat_lt a b && test a) ≡ (nat_lt a (b + 1) && test a)
exact-without test a b fails = elim (cases_eq a b) [
  | inl same ↦ and_right (nat_lt a b) (test a) (ap test same ∙ fails) ∙ sym (and_right (nat_lt a (b + 1)) (test a) (ap test same ∙ fails))
  | inr differ ↦ ap (λ x. x && test a) (below-next a b differ)
]

-- The next address is added to the last range, or stands beside it; or it is left out.
pub held-grown : (test : ℕ → Bool) (rs : List Range) (r : Range) (b : ℕ) → b < 512 → r.to + 1 ≡ b → HoldBelow b test (rs ++ r ∷ []) → test b ≡ true
    → HoldBelow (b + 1) test (rs ++ ending r b ∷ [])
held-grown test rs r b is_data next held passes = record {
  rise = rise-grown 0 rs r b is_data (omega (arith, next)) held.rise;
  ends = ends-with (b + 1) rs (ending r b) (ends-further b rs (ends-before b rs r held.ends)) (omega arith);
  exact = λ a. in-grown rs r b a (last-rises 0 rs r held.rise) next ∙ ap (λ x. x || a == b) (held.exact a) ∙ exact-with test a b passes;
}

pub held-apart : (test : ℕ → Bool) (rs : List Range) (r : Range) (b : ℕ) → b < 512 → r.to + 1 ≢ b → HoldBelow b test (rs ++ r ∷ []) → test b ≡ true
    → HoldBelow (b + 1) test ((rs ++ r ∷ []) ++ single b ∷ [])
held-apart test rs r b is_data apart held passes =
    let less = last-ends b rs r held.ends in
    record {
      rise = rise-apart 0 rs r b is_data (omega (arith, less, apart)) held.rise;
      ends = ends-with (b + 1) (rs ++ r ∷ []) (single b) (ends-further b (rs ++ r ∷ []) held.ends) (omega arith);
      exact = λ a. in-apart (rs ++ r ∷ []) b a ∙ ap (λ x. x || a == b) (held.exact a) ∙ exact-with test a b passes;
    }

pub held-without : (test : ℕ → Bool) (rs : List Range) (b : ℕ) → HoldBelow b test rs → test b ≡ false → HoldBelow (b + 1) test rs
held-without test rs b held fails = record {
  rise = held.rise;
  ends = ends-further b rs held.ends;
  exact = λ a. held.exact a ∙ exact-without test a b fails;
}
