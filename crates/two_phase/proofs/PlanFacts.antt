-- Values in an event's order, and behind them new states in declaration order, are a plan.
use Rattle.std.specs.Prelude.{◌≡◌, ℕ, zero, suc, ◌+◌, ◌<◌, ◌≤◌, ◌⊎◌, Bool, true, false, ◌&&◌, ◌==◌, List, [], ◌∷◌, ◌++◌, length, cond, count_by, if◌then◌else◌, refl}
use Rattle.std.specs.List.{flat_map, range_with_len}
use Rattle.std.proofs.Common.{sym, ap, ◌∙◌, arith, zero-add}
use Rattle.std.proofs.Math.Path.{ap₂}
use Rattle.std.proofs.lemmas.Bool.{false≢true}
use Rattle.std.proofs.lemmas.Bool.Decides.{eqb_tells}
use Rattle.std.proofs.lemmas.List.Sums.{sum_by-append, sum_by-cons}
use mathlib.Core.Logic.{inl, inr}
use Rattle.frp_tree.specs.Tree.{ProgramTree}
use Rattle.two_phase.specs.declared.plans.Assign.{Assign}
use Rattle.two_phase.specs.Assigned.{number_wanted, assigned}
use Rattle.two_phase.specs.Plans.{assigns, same_kind}

-- How often a number stands in a row of all numbers from one on.
none-below : (a k n : ℕ) → n < a → count_by (λ m. m == n) (range_with_len a k) ≡ 0
none-below a zero n less = refl
none-below a (suc k) n less =
    let split = sum_by-cons (λ m. cond (m == n) 1 0) a (range_with_len (a + 1) k) in
    let rest = none-below (a + 1) k n (omega (arith, less)) in
    elim (eqb_tells a n) [
      | inl same ↦ let is = same.1 in absurd (omega (arith, is, less))
      | inr other ↦ let none : ◌≡◌ {A = ℕ} (cond (a == n) 1 0) 0 = ap (λ b. cond b 1 0) other.0 in omega (arith, split, rest, none)
    ]

pub once-within : (a k n : ℕ) → a ≤ n → n < a + k → count_by (λ m. m == n) (range_with_len a k) ≡ 1
once-within a zero n least most = absurd (omega (arith, least, most))
once-within a (suc k) n least most =
    let split = sum_by-cons (λ m. cond (m == n) 1 0) a (range_with_len (a + 1) k) in
    elim (eqb_tells a n) [
      | inl same ↦
          let is = same.1 in
          let one : ◌≡◌ {A = ℕ} (cond (a == n) 1 0) 1 = ap (λ b. cond b 1 0) same.0 in
          let rest = none-below (a + 1) k n (omega (arith, is)) in
          omega (arith, split, one, rest)
      | inr other ↦
          let differs = other.1 in
          let none : ◌≡◌ {A = ℕ} (cond (a == n) 1 0) 0 = ap (λ b. cond b 1 0) other.0 in
          let rest = once-within (a + 1) k n (omega (arith, least, differs)) (omega (arith, most)) in
          omega (arith, split, none, rest)
    ]

-- An assignment of one definition that is looked for among those of another, or of its own.
module _ (p : ProgramTree) (event : List ℕ) (kind next : Bool) (n : ℕ) where
  abbrev pub hits : Bool
  hits = same_kind kind next && number_wanted p event kind n

  count-one : (m : ℕ) → count_by (assigns n next) (assigned p event kind m) ≡ (if hits then cond (m == n) 1 0 else 0)
  count-one m =
      elim (eqb_tells m n) [
        | inl same ↦
            ap (λ w. count_by (assigns n next) (if w then record { decl = m; next = kind } ∷ [] else [])) (ap (number_wanted p event kind) same.1)
            ∙ of-own (number_wanted p event kind n) (m == n) same.0
        | inr other ↦ of-other (number_wanted p event kind m) hits (m == n) other.0
      ]
    where
      counted : (w b : Bool) → count_by (assigns n next) (if w then record { decl = m; next = kind } ∷ [] else []) ≡ (if w then cond ((m == n) && same_kind kind next) 1 0 else 0)
      counted true b = zero-add (cond ((m == n) && same_kind kind next) 1 0)
      counted false b = refl

      by-kinds : (w k b : Bool) → b ≡ true → ◌≡◌ {A = ℕ} (if w then cond (b && k) 1 0 else 0) (if k && w then cond b 1 0 else 0)
      by-kinds true true true e = refl
      by-kinds true false true e = refl
      by-kinds false true true e = refl
      by-kinds false false true e = refl
      by-kinds w k false e = absurd (false≢true e)

      of-own : (w b : Bool) → (m == n) ≡ true → count_by (assigns n next) (if w then record { decl = m; next = kind } ∷ [] else []) ≡ (if same_kind kind next && w then cond (m == n) 1 0 else 0)
      of-own w b e = counted w b ∙ by-kinds w (same_kind kind next) (m == n) e

      none-of : (w h k b : Bool) → b ≡ false → ◌≡◌ {A = ℕ} (if w then cond (b && k) 1 0 else 0) (if h then cond b 1 0 else 0)
      none-of true true k false e = refl
      none-of true false k false e = refl
      none-of false true k false e = refl
      none-of false false k false e = refl
      none-of w h k true e = absurd (false≢true (sym e))

      of-other : (w h b : Bool) → (m == n) ≡ false → count_by (assigns n next) (if w then record { decl = m; next = kind } ∷ [] else []) ≡ (if h then cond (m == n) 1 0 else 0)
      of-other w h b e = counted w b ∙ none-of w h (same_kind kind next) (m == n) e

  if-sum : (h : Bool) (a b : ℕ) → (if h then a else 0) + (if h then b else 0) ≡ (if h then a + b else 0)
  if-sum true a b = refl
  if-sum false a b = omega arith

  pub count-all : (ms : List ℕ) → count_by (assigns n next) (flat_map (assigned p event kind) ms) ≡ (if hits then count_by (λ m. m == n) ms else 0)
  count-all [] = none hits
    where
      none : (h : Bool) → ◌≡◌ {A = ℕ} 0 (if h then count_by (λ (m : ℕ). m == n) [] else 0)
      none true = refl
      none false = refl
  count-all (m ∷ ms) =
      sum_by-append (λ a. cond (assigns n next a) 1 0) (assigned p event kind m) (flat_map (assigned p event kind) ms)
      ∙ ap₂ (λ (i k : ℕ). i + k) (count-one m) (count-all ms) ∙ if-sum hits (cond (m == n) 1 0) (count_by (λ i. i == n) ms)
      ∙ ap (λ (i : ℕ). if hits then i else 0) (sym (sum_by-cons (λ i. cond (i == n) 1 0) m ms))

-- Where an assignment stands in one row behind another.
pub in-both : {A : Type 0} (xs ys front rest : List A) (a : A) → xs ++ ys ≡ front ++ a ∷ rest
    → ((more : List A) × (xs ≡ front ++ a ∷ more)) ⊎ ((before : List A) × (front ≡ xs ++ before) × (ys ≡ before ++ a ∷ rest))
in-both [] ys front rest a e = inr (front, refl, e)
in-both (x ∷ xs) ys [] rest a e = inl (xs, ap (λ z. z ∷ xs) (head-of x a (xs ++ ys) rest e))
  where
    head-of : {A : Type 0} (x y : A) (xs ys : List A) → x ∷ xs ≡ y ∷ ys → x ≡ y
    head-of x y xs ys e = cc
in-both (x ∷ xs) ys (f ∷ fs) rest a e =
    elim (in-both xs ys fs rest a (tail-of x f (xs ++ ys) (fs ++ a ∷ rest) e)) [
      | inl w ↦ inl (w.0, ap₂ (λ z zs. z ∷ zs) (head-of x f (xs ++ ys) (fs ++ a ∷ rest) e) w.1)
      | inr w ↦ inr (w.0, ap₂ (λ z zs. z ∷ zs) (sym (head-of x f (xs ++ ys) (fs ++ a ∷ rest) e)) w.1, w.2)
    ]
  where
    head-of : {A : Type 0} (x y : A) (xs ys : List A) → x ∷ xs ≡ y ∷ ys → x ≡ y
    head-of x y xs ys e = cc

    tail-of : {A : Type 0} (x y : A) (xs ys : List A) → x ∷ xs ≡ y ∷ ys → xs ≡ ys
    tail-of x y xs ys e = cc

-- Where an assignment stands among those of definitions: the numbers before it, and its own.
pub record Stands (p : ProgramTree) (event : List ℕ) (kind : Bool) (ms : List ℕ) (front : List Assign) (a : Assign) : Type 0 where
  pub before : List ℕ
  pub after : List ℕ
  pub split : ms ≡ before ++ a.decl ∷ after
  pub front_is : front ≡ flat_map (assigned p event kind) before
  pub kind_is : a.next ≡ kind
  pub wanted : number_wanted p event kind a.decl ≡ true

no-cons : {A : Type 0} (front rest : List A) (a : A) → [] ≡ front ++ a ∷ rest → ⊥
no-cons [] rest a e = let l = ap length e in omega (arith, l)
no-cons (f ∷ fs) rest a e = let l = ap length e in omega (arith, l)

module _ (p : ProgramTree) (event : List ℕ) (kind : Bool) where
  skips : (m : ℕ) (ms : List ℕ) (front : List Assign) (a : Assign) → number_wanted p event kind m ≡ false → Stands p event kind ms front a → Stands p event kind (m ∷ ms) front a
  skips m ms front a none its = record {
    before = m ∷ its.before;
    after = its.after;
    split = ap (λ ns. m ∷ ns) its.split;
    front_is = its.front_is ∙ sym (ap (λ b. (if b then record { decl = m; next = kind } ∷ [] else []) ++ flat_map (assigned p event kind) its.before) none);
    kind_is = its.kind_is;
    wanted = its.wanted;
  }

  goes-behind : (m : ℕ) (ms : List ℕ) (f : Assign) (front : List Assign) (a : Assign) → number_wanted p event kind m ≡ true → f ≡ record { decl = m; next = kind } → Stands p event kind ms front a → Stands p event kind (m ∷ ms) (f ∷ front) a
  goes-behind m ms f front a its_own is its = record {
    before = m ∷ its.before;
    after = its.after;
    split = ap (λ ns. m ∷ ns) its.split;
    front_is =
        ap₂ (λ (z : Assign) zs. z ∷ zs) is its.front_is
        ∙ sym (ap (λ b. (if b then record { decl = m; next = kind } ∷ [] else []) ++ flat_map (assigned p event kind) its.before) its_own);
    kind_is = its.kind_is;
    wanted = its.wanted;
  }

  pub stands : (ms : List ℕ) (front rest : List Assign) (a : Assign) → flat_map (assigned p event kind) ms ≡ front ++ a ∷ rest → Stands p event kind ms front a
  stands [] front rest a e = absurd (no-cons front rest a e)
  stands (m ∷ ms) front rest a e = by_wanted (number_wanted p event kind m) refl front e (λ fs h. stands ms fs rest a h)
    where
      head-of : (x y : Assign) (xs ys : List Assign) → x ∷ xs ≡ y ∷ ys → x ≡ y
      head-of x y xs ys h = cc

      tail-of : (x y : Assign) (xs ys : List Assign) → x ∷ xs ≡ y ∷ ys → xs ≡ ys
      tail-of x y xs ys h = cc

      by_wanted : (w : Bool) → number_wanted p event kind m ≡ w → (front : List Assign) → (if w then record { decl = m; next = kind } ∷ [] else []) ++ flat_map (assigned p event kind) ms ≡ front ++ a ∷ rest
          → ((fs : List Assign) → flat_map (assigned p event kind) ms ≡ fs ++ a ∷ rest → Stands p event kind ms fs a) → Stands p event kind (m ∷ ms) front a
      by_wanted false none front e more = skips m ms front a none (more front e)
      by_wanted true its [] e more =
          let is : ◌≡◌ {A = Assign} (record { decl = m; next = kind }) a = head-of (record { decl = m; next = kind }) a (flat_map (assigned p event kind) ms) rest e in
          record {
            before = [];
            after = ms;
            split = ap (λ k. k ∷ ms) (ap (λ (k : Assign). k.decl) is);
            front_is = refl;
            kind_is = sym (ap (λ (k : Assign). k.next) is);
            wanted = ap (λ (k : Assign). number_wanted p event kind k.decl) (sym is) ∙ its;
          }
      by_wanted true its (f ∷ fs) e more =
          goes-behind m ms f fs a its (sym (head-of (record { decl = m; next = kind }) f (flat_map (assigned p event kind) ms) (fs ++ a ∷ rest) e))
          (more fs (tail-of (record { decl = m; next = kind }) f (flat_map (assigned p event kind) ms) (fs ++ a ∷ rest) e))
