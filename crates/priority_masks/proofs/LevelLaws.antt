-- Levels rise with priorities and have no gaps.
use Rattle.std.specs.Prelude.{◌≡◌, ◌≢◌, ℕ, zero, suc, ◌+◌, ◌<◌, ◌≤◌, ◌==◌, ◌||◌, ◌⊎◌, nat_le, Bool, true, false, List, [], ◌∷◌, length, filter, if◌then◌else◌, refl}
use Rattle.std.specs.List.{list_any}
use Rattle.std.proofs.Common.{sym, ap, subst, ◌∙◌, arith, add-one, inl, inr, get_or}
use Rattle.std.proofs.lemmas.Bool.{eqb-true, eq-eqb, le-leb, leb-true, lt-leb}
use Rattle.std.proofs.lemmas.Bool.Decides.{leb_tells}
use Rattle.std.proofs.lemmas.List.{length-map}
use Rattle.std.proofs.lemmas.Map.Views.{any-filter_same}
use Rattle.frp_tree.specs.declared.syntax.Event.{Event}
use Rattle.frp_tree.specs.Tree.{ProgramTree}
use Rattle.efrp_meaning.specs.Bounds.{distinct}
use Rattle.priority_masks.specs.Laws.{LevelsRise}
use Rattle.priority_masks.specs.Levels.{priorities_of, priority_of}

which : (b : Bool) → (b ≡ true) ⊎ (b ≡ false)
which true = inl refl
which false = inr refl

differs : false ≡ true → ⊥
differs e = cc

-- A number stands in a row.
abbrev Stands : ℕ → List ℕ → Type 0
Stands b xs = list_any (λ m. m == b) xs ≡ true

abbrev Lacks : ℕ → List ℕ → Type 0
Lacks b xs = list_any (λ m. m == b) xs ≡ false

-- How many distinct numbers of a row pass a test.
abbrev passed : (ℕ → Bool) → List ℕ → ℕ
passed test xs = distinct (filter test xs)

-- One more in front that fails, that passes and comes again, that passes and doesn't.
out : (test : ℕ → Bool) (x : ℕ) (xs : List ℕ) → test x ≡ false → passed test (x ∷ xs) ≡ passed test xs
out test x xs fails = ap (λ b. distinct (if b then x ∷ filter test xs else filter test xs)) fails

in-front : (test : ℕ → Bool) (x : ℕ) (xs : List ℕ) → test x ≡ true → passed test (x ∷ xs) ≡ (if list_any (λ m. m == x) xs then passed test xs else 1 + passed test xs)
in-front test x xs passes =
    ap (λ b. distinct (if b then x ∷ filter test xs else filter test xs)) passes
    ∙ ap (λ b. if b then passed test xs else 1 + passed test xs) (any-filter_same (λ m. m == x) test true (λ k is. subst (λ n. test n ≡ true) (sym (eqb-true k x is)) passes) xs)

seen : (test : ℕ → Bool) (x : ℕ) (xs : List ℕ) → test x ≡ true → Stands x xs → passed test (x ∷ xs) ≡ passed test xs
seen test x xs passes again = in-front test x xs passes ∙ ap (λ b. if b then passed test xs else 1 + passed test xs) again

new : (test : ℕ → Bool) (x : ℕ) (xs : List ℕ) → test x ≡ true → Lacks x xs → passed test (x ∷ xs) ≡ 1 + passed test xs
new test x xs passes again = in-front test x xs passes ∙ ap (λ b. if b then passed test xs else 1 + passed test xs) again

grows : (test : ℕ → Bool) (x : ℕ) (xs : List ℕ) → passed test xs ≤ passed test (x ∷ xs)
grows test x xs =
    elim (which (test x)) [
      | inl passes ↦ elim (which (list_any (λ m. m == x) xs)) [
        | inl again ↦ let e = seen test x xs passes again in omega (arith, e)
        | inr once ↦ let e = new test x xs passes once in omega (arith, e)
      ]
      | inr fails ↦ let e = out test x xs fails in omega (arith, e)
    ]

-- Of two tests of which one lets pass in front what the other does.
both : (p q : ℕ → Bool) (x : ℕ) (xs : List ℕ) (a b : ℕ) → (p x ≡ true → q x ≡ true) → a + passed p xs ≤ b + passed q xs → a + passed p (x ∷ xs) ≤ b + passed q (x ∷ xs)
both p q x xs a b sub less =
    elim (which (p x)) [
      | inl passes ↦ elim (which (list_any (λ m. m == x) xs)) [
        | inl again ↦ let e = seen p x xs passes again in let f = seen q x xs (sub passes) again in omega (arith, e, f, less)
        | inr once ↦ let e = new p x xs passes once in let f = new q x xs (sub passes) once in omega (arith, e, f, less)
      ]
      | inr fails ↦ let e = out p x xs fails in let f = grows q x xs in omega (arith, e, f, less)
    ]

abbrev Within : (ℕ → Bool) → (ℕ → Bool) → Type 0
Within p q = (x : ℕ) → p x ≡ true → q x ≡ true

no-more : (p q : ℕ → Bool) → Within p q → (xs : List ℕ) → passed p xs ≤ passed q xs
no-more p q sub [] = omega arith
no-more p q sub (x ∷ xs) = let before = no-more p q sub xs in let step = both p q x xs 0 0 (sub x) (omega (arith, before)) in omega (arith, step)

-- A number stands in front or behind.
front : (b x : ℕ) (xs : List ℕ) → Stands b (x ∷ xs) → Lacks b xs → x ≡ b
front b x xs stands lacks =
    elim (which (x == b)) [
      | inl is ↦ eqb-true x b is
      | inr not ↦ absurd (differs (sym (ap (λ k. k || list_any (λ m. m == b) xs) not ∙ lacks) ∙ stands))
    ]

not-front : (b x : ℕ) (xs : List ℕ) → Lacks b (x ∷ xs) → x ≢ b
not-front b x xs lacks same = differs (sym lacks ∙ ap (λ k. k || list_any (λ m. m == b) xs) (eq-eqb x b same))

not-behind : (b x : ℕ) (xs : List ℕ) → Lacks b (x ∷ xs) → Lacks b xs
not-behind b x xs lacks =
    elim (which (x == b)) [
      | inl is ↦ absurd (differs (sym lacks ∙ ap (λ k. k || list_any (λ m. m == b) xs) is))
      | inr not ↦ sym (ap (λ k. k || list_any (λ m. m == b) xs) not) ∙ lacks
    ]

-- Fewer pass where one that stands there fails.
fewer : (p q : ℕ → Bool) (b : ℕ) → Within p q → p b ≡ false → q b ≡ true → (xs : List ℕ) → Stands b xs → passed p xs < passed q xs
fewer p q b sub fails passes [] stands = absurd (differs stands)
fewer p q b sub fails passes (x ∷ xs) stands =
    elim (which (list_any (λ m. m == b) xs)) [
      | inl later ↦
          let before = fewer p q b sub fails passes xs later in
          let step = both p q x xs 1 0 (sub x) (omega (arith, before)) in
          omega (arith, step)
      | inr lacks ↦
          let same = sym (front b x xs stands lacks) in
          let e = out p x xs (subst (λ k. p k ≡ false) same fails) in
          let f = new q x xs (subst (λ k. q k ≡ true) same passes) (subst (λ k. Lacks k xs) same lacks) in
          let less = no-more p q sub xs in
          omega (arith, e, f, less)
    ]

-- A test that lets pass one number more lets pass at most one more, and none more where it doesn't stand there.
abbrev OrIs : (ℕ → Bool) → (ℕ → Bool) → ℕ → Type 0
OrIs p q b = (x : ℕ) → x ≢ b → q x ≡ true → p x ≡ true

none-more : (p q : ℕ → Bool) (b : ℕ) → OrIs p q b → (xs : List ℕ) → Lacks b xs → passed q xs ≤ passed p xs
none-more p q b or_is [] lacks = omega arith
none-more p q b or_is (x ∷ xs) lacks =
    let before = none-more p q b or_is xs (not-behind b x xs lacks) in
    let step = both q p x xs 0 0 (or_is x (not-front b x xs lacks)) (omega (arith, before)) in
    omega (arith, step)

one-more : (p q : ℕ → Bool) (b : ℕ) → OrIs p q b → (xs : List ℕ) → passed q xs ≤ 1 + passed p xs
one-more p q b or_is [] = omega arith
one-more p q b or_is (x ∷ xs) =
    let before = one-more p q b or_is xs in
    let grown = grows p x xs in
    elim (which (x == b)) [
      | inl is ↦ elim (which (q x)) [
        | inl passes ↦ elim (which (list_any (λ m. m == x) xs)) [
          | inl again ↦ let e = seen q x xs passes again in omega (arith, e, before, grown)
          | inr once ↦
              let e = new q x xs passes once in
              let less = none-more p q b or_is xs (subst (λ k. Lacks k xs) (eqb-true x b is) once) in
              omega (arith, e, less, grown)
        ]
        | inr fails ↦ let e = out q x xs fails in omega (arith, e, before, grown)
      ]
      | inr not ↦
          let step = both q p x xs 0 1 (or_is x (λ same. differs (sym not ∙ eq-eqb x b same))) (omega (arith, before)) in
          omega (arith, step)
    ]

-- The tests of a level.
abbrev up_to : ℕ → ℕ → Bool
up_to most n = nat_le n most

up-more : (a b : ℕ) → a ≤ b → Within (up_to a) (up_to b)
up-more a b less x is = let small = leb-true x a is in le-leb x b (omega (arith, less, small))

up-next : (a : ℕ) → OrIs (up_to a) (up_to (a + 1)) (a + 1)
up-next a x not is = let small = leb-true x (a + 1) is in le-leb x a (omega (arith, small, not))

none : ℕ → Bool
none x = false

none-first : OrIs none (up_to 0) 0
none-first x not is = let small = leb-true x 0 is in absurd (not (omega (arith, small)))

none-passed : (xs : List ℕ) → passed none xs ≡ 0
unfolding none
none-passed [] = refl
none-passed (x ∷ xs) = out none x xs refl ∙ none-passed xs

none-within : (q : ℕ → Bool) → Within none q
unfolding none
none-within q x is = absurd (differs is)

none-of : (x : ℕ) → none x ≡ false
unfolding none
none-of x = refl

-- A number that all are at most.
abbrev total : List ℕ → ℕ
total [] = 0
total (x ∷ xs) = x + total xs

all-pass : (most : ℕ) (xs : List ℕ) → total xs ≤ most → filter (up_to most) xs ≡ xs
all-pass most [] less = refl
all-pass most (x ∷ xs) less =
    ap (λ b. if b then x ∷ filter (up_to most) xs else filter (up_to most) xs) (le-leb x most (omega (arith, less))) ∙ ap (λ ys. x ∷ ys) (all-pass most xs (omega (arith, less)))

all-at-most : (most : ℕ) (xs : List ℕ) → passed (up_to most) xs ≤ distinct xs
all-at-most most xs =
    let all = ap distinct (all-pass (most + total xs) xs (omega arith)) in
    let less = no-more (up_to most) (up_to (most + total xs)) (up-more most (most + total xs) (omega arith)) xs in
    omega (arith, all, less)

-- Each count up to that of all is that of the numbers up to one that stands there.
abbrev IsCounted : List ℕ → ℕ → Type 0
IsCounted xs k = (b : ℕ) × Stands b xs × (passed (up_to b) xs ≡ k)

at-first : (xs : List ℕ) (k : ℕ) → 1 ≤ k → k ≤ passed (up_to 0) xs → IsCounted xs k
at-first xs k least most =
    let nothing = none-passed xs in
    let one = one-more none (up_to 0) 0 none-first xs in
    elim (which (list_any (λ m. m == 0) xs)) [
      | inl stands ↦ (0, stands, omega (arith, least, most, nothing, one))
      | inr lacks ↦ let less = none-more none (up_to 0) 0 none-first xs lacks in absurd (omega (arith, least, most, nothing, less))
    ]

counted : (xs : List ℕ) (k : ℕ) → 1 ≤ k → (m : ℕ) → k ≤ passed (up_to m) xs → IsCounted xs k
counted xs k least zero most = at-first xs k least most
counted xs k least (suc m) most' =
    let most = subst (λ n. k ≤ passed (up_to n) xs) (sym (add-one m)) most' in
    elim (leb_tells k (passed (up_to m) xs)) [
      | inl below ↦ counted xs k least m below.1
      | inr above ↦
          let over = above.1 in
          elim (which (list_any (λ n. n == m + 1) xs)) [
            | inl stands ↦ let one = one-more (up_to m) (up_to (m + 1)) (m + 1) (up-next m) xs in (m + 1, stands, omega (arith, over, most, one))
            | inr lacks ↦ let less = none-more (up_to m) (up_to (m + 1)) (m + 1) (up-next m) xs lacks in absurd (omega (arith, over, most, less))
          ]
    ]

-- What stands at a place stands there, and what stands in a row has a place.
behind : (x b : ℕ) (xs : List ℕ) → Stands b xs → Stands b (x ∷ xs)
behind x b xs stands = elim (which (x == b)) [
  | inl is ↦ ap (λ k. k || list_any (λ m. m == b) xs) is
  | inr not ↦ ap (λ k. k || list_any (λ m. m == b) xs) not ∙ stands
]

stands-at : (xs : List ℕ) (n : ℕ) → n < length xs → Stands (get_or xs n 0) xs
stands-at [] n less = absurd (omega (arith, less))
stands-at (x ∷ xs) zero less = ap (λ k. k || list_any (λ m. m == x) xs) (eq-eqb x x refl)
stands-at (x ∷ xs) (suc n) less = behind x (get_or xs n 0) xs (stands-at xs n (omega (arith, less)))

place : (b : ℕ) (xs : List ℕ) → Stands b xs → (n : ℕ) × (n < length xs) × (get_or xs n 0 ≡ b)
place b [] stands = absurd (differs stands)
place b (x ∷ xs) stands =
    elim (which (list_any (λ m. m == b) xs)) [
      | inl later ↦ let its = place b xs later in let less = its.1 in (suc its.0, omega (arith, less), its.2)
      | inr lacks ↦ (0, omega arith, front b x xs stands lacks)
    ]

-- Of the events of a program.
pub levels-rise : (p : ProgramTree) → LevelsRise p
levels-rise p =
    let xs = priorities_of p in
    let long : length xs ≡ length p.events = length-map p.events (λ (e : Event). e.priority) in
    record {
      same = λ m n inside inside' e. ap (λ k. passed (up_to k) xs) e;
      rise = λ m n inside inside' less.
          fewer (up_to (priority_of p m)) (up_to (priority_of p n)) (priority_of p n) (up-more (priority_of p m) (priority_of p n) (omega (arith, less)))
          (lt-leb (priority_of p n) (priority_of p m) less) (le-leb (priority_of p n) (priority_of p n) (omega arith)) xs (stands-at xs n (omega (arith, long, inside')));
      from_one = λ n inside.
          let more = fewer none (up_to (priority_of p n)) (priority_of p n) (none-within (up_to (priority_of p n))) (none-of (priority_of p n)) (le-leb (priority_of p n) (priority_of p n) (omega arith)) xs (stands-at xs n (omega (arith, long, inside))) in
          omega (arith, more);
      to_all = λ n inside. all-at-most (priority_of p n) xs;
      no_gap = λ level least most.
          let its = counted xs level least (total xs) (subst (λ ys. level ≤ distinct ys) (sym (all-pass (total xs) xs (omega arith))) most) in
          let at = place its.0 xs its.1 in
          let less = at.1 in
          (at.0, omega (arith, long, less), ap (λ k. passed (up_to k) xs) at.2 ∙ its.2);
    }
