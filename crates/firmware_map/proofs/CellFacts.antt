-- What passes a test below a bound, and how often.
use Rattle.std.proofs.Common.{◌≡◌, ℕ, zero, suc, ◌+◌, ◌<◌, ◌≤◌, ◌||◌, ◌&&◌, Bool, true, false, inl, inr, ap, sym, ◌∙◌, refl, arith, add-one}
use Rattle.std.specs.Prelude.{◌==◌, nat_lt, not}
use Rattle.std.proofs.lemmas.Bool.{and_parts, both_ways, cases_eq, false_from_ne_true, lt-ltb, ne_eqb, or_cases, or_left, or_right}
use Rattle.pic_regs.specs.Bytes.{one_if}
use Rattle.firmware_promises.specs.Firmware.{count_below}
use Rattle.firmware_map.specs.Written.{some_below}

pub some-next : (n : ℕ) (test : ℕ → Bool) → some_below (n + 1) test ≡ (test n || some_below n test)
unfolding some_below
some-next n test = rw add-one refl

pub some-none : (test : ℕ → Bool) → some_below 0 test ≡ false
unfolding some_below
some-none test = refl

-- One that passes is found; and where one is found, one passes.
pub some-at : (n k : ℕ) (test : ℕ → Bool) → k < n → test k ≡ true → some_below n test ≡ true
unfolding some_below
some-at zero k test below passes = absurd (omega arith)
some-at (suc n) k test below passes = elim (cases_eq k n) [
  | inl same ↦ or_left (test n) (some_below n test) (ap test (sym same) ∙ passes)
  | inr differ ↦ or_right (test n) (some_below n test) (some-at n k test (omega arith) passes)
]

-- A number below a bound that passes.
pub record Passing (n : ℕ) (test : ℕ → Bool) : Type 0 where
  pub number : ℕ
  pub below : number < n
  pub passes : test number ≡ true

pub some-found : (n : ℕ) (test : ℕ → Bool) → some_below n test ≡ true → Passing n test
unfolding some_below
some-found zero test found = absurd (cc)
some-found (suc n) test found = elim (or_cases (test n) (some_below n test) found) [
  | inl here ↦ record { number = n; below = omega arith; passes = here }
  | inr before ↦ (let it = some-found n test before in let less = it.below in record { number = it.number; below = omega (arith, less); passes = it.passes })
]

-- Tests that agree below a bound count alike.
pub count-same : (n : ℕ) (f g : ℕ → Bool) → ((a : ℕ) → a < n → f a ≡ g a) → count_below n f ≡ count_below n g
unfolding count_below
count-same zero f g same = refl
count-same (suc n) f g same = ap (λ b. one_if b + count_below n f) (same n (omega arith)) ∙ ap (λ k. one_if (g n) + k) (count-same n f g (λ a less. same a (omega arith)))

-- So do what is listed below 512 and what is written, where one is the other.
pub count-listed : (listed written test : ℕ → Bool) → ((a : ℕ) → listed a ≡ (nat_lt a 512 && written a)) → count_below 512 (λ a. written a && test a) ≡ count_below 512 (λ a. listed a && test a)
count-listed listed written test same =
    count-same 512 (λ a. written a && test a) (λ a. listed a && test a) (λ a small. ap (λ b. b && test a) (ap (λ b. b && written a) (sym (lt-ltb a 512 small)) ∙ sym (same a)))

pub count-next : (n : ℕ) (test : ℕ → Bool) → count_below (n + 1) test ≡ one_if (test n) + count_below n test
unfolding count_below
count-next n test = rw add-one refl

pub count-none : (test : ℕ → Bool) → count_below 0 test ≡ 0
unfolding count_below
count-none test = refl

pub count-step : (n : ℕ) (test : ℕ → Bool) (b : Bool) (count more : ℕ) → count ≡ count_below n test → test n ≡ b → more ≡ one_if b + count → more ≡ count_below (n + 1) test
count-step n test b count more is here step =
    step ∙ ap (λ c. one_if c + count) (sym here) ∙ ap (λ k. one_if (test n) + k) is ∙ sym (count-next n test)

-- At most as many pass as there are numbers below the bound.
one-at-most : (b : Bool) → one_if b ≤ 1
one-at-most true = omega arith
one-at-most false = omega arith

pub count-most : (n : ℕ) (test : ℕ → Bool) → count_below n test ≤ n
unfolding count_below
count-most zero test = omega arith
count-most (suc n) test = let one = one-at-most (test n) in let rest = count-most n test in omega (arith, one, rest)

-- Without one number a test counts at most one less.
abbrev but : ℕ → (ℕ → Bool) → ℕ → Bool
but x test a = test a && not (a == x)

one-but : (x n : ℕ) (test : ℕ → Bool) → (n ≡ x → ⊥) → one_if (test n) ≡ one_if (but x test n)
one-but x n test differ = by_test (test n) (n == x) (ne_eqb n x differ)
  where
    by_test : (b e : Bool) → e ≡ false → one_if b ≡ one_if (b && not e)
    by_test true e is = ap (λ k. one_if (not k)) (sym is)
    by_test false e is = refl

count-above : (x n : ℕ) (test : ℕ → Bool) → n ≤ x → count_below n test ≡ count_below n (but x test)
unfolding count_below
count-above x zero test above = refl
count-above x (suc n) test above =
    ap (λ k. k + count_below n test) (one-but x n test (λ same. omega arith)) ∙ ap (λ k. one_if (but x test n) + k) (count-above x n test (omega arith))

count-but : (x n : ℕ) (test : ℕ → Bool) → count_below n test ≤ 1 + count_below n (but x test)
unfolding count_below
count-but x zero test = omega arith
count-but x (suc n) test = elim (cases_eq n x) [
  | inl same ↦ (let one = one-at-most (test n) in let rest = count-above x n test (omega arith) in omega (arith, one, rest))
  | inr differ ↦ (let one = one-but x n test differ in let rest = count-but x n test in omega (arith, one, rest))
]

none-pass : (n : ℕ) (test : ℕ → Bool) → ((a : ℕ) → a < n → test a ≡ false) → count_below n test ≡ 0
unfolding count_below
none-pass zero test none = refl
none-pass (suc n) test none = let here : one_if (test n) ≡ 0 = ap one_if (none n (omega arith)) in let rest = none-pass n test (λ a less. none a (omega arith)) in omega (arith, here, rest)

-- Where each number that passes is one of the first k values of a function, at most k pass.
pub count-few : (k n : ℕ) (test : ℕ → Bool) (value : ℕ → ℕ) → ((a : ℕ) → a < n → test a ≡ true → Passing k (λ i. a == value i)) → count_below n test ≤ k
count-few zero n test value each =
    let none = none-pass n test (λ a less. false_from_ne_true (test a) (λ passes. let it = each a less passes in let below = it.below in omega (arith, below))) in omega (arith, none)
count-few (suc k) n test value each =
    let rest = count-few k n (but (value k) test) value (λ a less passes.
    let parts = and_parts (test a) (not (a == value k)) passes in
    let it = each a less parts.0 in
    let below = it.below in
    elim (cases_eq it.number k) [
      | inl same ↦ absurd (both_ways (a == value k) (not-true-back (a == value k) parts.1) (ap (λ i. a == value i) (sym same) ∙ it.passes))
      | inr differ ↦ record { number = it.number; below = omega (arith, below, differ); passes = it.passes }
    ]) in
    let step = count-but (value k) n test in
    omega (arith, rest, step)
  where
    not-true-back : (b : Bool) → not b ≡ true → b ≡ false
    not-true-back true e = cc
    not-true-back false e = refl
