-- What a plan's assignments and the outputs add up to: what all that the event needs does.
use Rattle.std.specs.List.{AllByRecursion}
use Rattle.std.proofs.Common.{◌≡◌, ℕ, suc, ◌+◌, ◌<◌, ◌≤◌, ◌==◌, ◌&&◌, cond, Bool, true, false, List, [], ◌∷◌, length, filter, sum_by, count_by, slice_get, Option, Some, None, if◌then◌else◌, refl, sym, ap, ◌∙◌, arith}
use Rattle.std.proofs.lemmas.Bool.{eqb-true, false≢true}
use Rattle.std.proofs.lemmas.Bool.Decides.{eqb_tells}
use Rattle.std.proofs.lemmas.List.Sums.{sum_by-cons}
use mathlib.Core.Logic.{inl, inr}
use Rattle.frp_tree.specs.Tree.{Tree, ClauseTree, BehaviourTree, Plain, Input, Table, Reactive, DeclTree, OutputTree, ProgramTree}
use Rattle.efrp_meaning.specs.Decls.{is_plain}
use Rattle.efrp_meaning.specs.Meaning.{Later, Now, clause_rule, rule_on}
use Rattle.efrp_meaning.specs.Needs.{clause_for, expression_of, is_named_in, needed, needed_plain}
use Rattle.efrp_meaning.specs.States.{NamesDiffer}
use Rattle.efrp_meaning.proofs.NeedsLaws.{needs-are-closed}
use Rattle.event_needs.specs.Needed.{is_needed}
use Rattle.event_needs.proofs.NeededLaws.{needed-is}
use Rattle.event_needs.proofs.SumLaws.{needed-sum, own}
use Rattle.two_phase.specs.declared.plans.Assign.{Assign}
use Rattle.two_phase.specs.declared.plans.Plan.{Plan}
use Rattle.two_phase.specs.Plans.{IsPlan, assigned_expression, assigns, expression_by, is_wanted, is_wanted_by, same_kind}
use Rattle.event_ops.specs.Drafts.{by_expression}

-- A sum over definitions and their numbers.
abbrev total : (ℕ → DeclTree → ℕ) → ℕ → List DeclTree → ℕ
total h i [] = 0
total h i (d ∷ ds) = h i d + total h (i + 1) ds

total-add : (h k g : ℕ → DeclTree → ℕ) → ((n : ℕ) (d : DeclTree) → g n d ≡ h n d + k n d) → (i : ℕ) (ds : List DeclTree) → total g i ds ≡ total h i ds + total k i ds
total-add h k g both i [] = refl
total-add h k g both i (d ∷ ds) = let here = both i d in let rest = total-add h k g both (i + 1) ds in omega (arith, here, rest)

total-none : (i : ℕ) (ds : List DeclTree) (h : ℕ → DeclTree → ℕ) → ((n : ℕ) (d : DeclTree) → i ≤ n → h n d ≡ 0) → total h i ds ≡ 0
total-none i [] h none = refl
total-none i (d ∷ ds) h none =
    let here = none i d (omega arith) in
    let rest = total-none (i + 1) ds h (λ n c more. none n c (omega (arith, more))) in
    omega (arith, here, rest)

total-at : (h : ℕ → DeclTree → ℕ) (v : DeclTree → ℕ) (i : ℕ) (ds : List DeclTree) → ((k n : ℕ) (d : DeclTree) → k ≡ i + n → slice_get ds n ≡ Some d → h k d ≡ v d) → total h i ds ≡ sum_by v ds
total-at h v i [] each = refl
total-at h v i (d ∷ ds) each =
    let here = each i 0 d (omega arith) refl in
    let rest = total-at h v (i + 1) ds (λ k n c is at. each k (suc n) c (omega (arith, is)) at) in
    let split = sum_by-cons v d ds in
    omega (arith, here, rest, split)

-- One number among those of definitions.
one-at : (m v i : ℕ) (ds : List DeclTree) → i ≤ m → m < i + length ds → total (λ n d. cond (m == n) v 0) i ds ≡ v
one-at m v i [] from below = absurd (omega (arith, from, below))
one-at m v i (d ∷ ds) from below = elim (eqb_tells m i) [
  | inl same ↦
      let here : ◌≡◌ {A = ℕ} (cond (m == i) v 0) v = ap (λ b. cond b v 0) same.0 in
      let is = same.1 in
      let rest = total-none (i + 1) ds (λ n c. cond (m == n) v 0) (λ n c more. elim (eqb_tells m n) [ inl k ↦ let e = k.1 in absurd (omega (arith, e, is, more)) | inr other ↦ ap (λ b. cond b v 0) other.0 ]) in
      omega (arith, here, rest)
  | inr other ↦
      let here : ◌≡◌ {A = ℕ} (cond (m == i) v 0) 0 = ap (λ b. cond b v 0) other.0 in
      let differ = other.1 in
      let rest = one-at m v (i + 1) ds (omega (arith, from, differ)) (omega (arith, below)) in
      omega (arith, here, rest)
]

-- What the assignments of one definition in one way add up to.
abbrev part : (Assign → ℕ) → ℕ → Bool → List Assign → ℕ
part g n next work = sum_by (λ (a : Assign). cond (assigns n next a) (g a) 0) work

both-ways : (g : Assign → ℕ) (a : Assign) (n : ℕ) → cond (assigns n false a) (g a) 0 + cond (assigns n true a) (g a) 0 ≡ cond (a.decl == n) (g a) 0
both-ways g a n = by_tests (a.decl == n) a.next
  where
    by_tests : (b next : Bool) → cond (b && same_kind next false) (g a) 0 + cond (b && same_kind next true) (g a) 0 ≡ cond b (g a) 0
    by_tests true true = omega arith
    by_tests true false = omega arith
    by_tests false true = refl
    by_tests false false = refl

all-parts : (g : Assign → ℕ) (ds : List DeclTree) (work : List Assign) → AllByRecursion (λ (a : Assign). a.decl < length ds) work
    → total (λ n d. part g n false work + part g n true work) 0 ds ≡ sum_by g work
all-parts g ds [] within = total-none 0 ds (λ n d. part g n false [] + part g n true []) (λ n d more. refl)
all-parts g ds (a ∷ later) within =
    let rest = all-parts g ds later within.1 in
    let here = one-at a.decl (g a) 0 ds (omega arith) (omega (arith, within.0)) in
    let split = sum_by-cons g a later in
    let sum =
    total-add (λ n d. cond (a.decl == n) (g a) 0) (λ n d. part g n false later + part g n true later) (λ n d. part g n false (a ∷ later) + part g n true (a ∷ later))
    (λ n d.
    let both = both-ways g a n in
    let first = sum_by-cons (λ (x : Assign). cond (assigns n false x) (g x) 0) a later in
    let second = sum_by-cons (λ (x : Assign). cond (assigns n true x) (g x) 0) a later in
    omega (arith, both, first, second)) 0 ds in
    omega (arith, rest, here, split, sum)

-- One item that passes, or none.
counted : {A : Type 0} (test : A → Bool) (g : A → ℕ) (v : ℕ) (xs : List A) → ((x : A) → test x ≡ true → g x ≡ v)
    → (b : Bool) → count_by test xs ≡ (if b then 1 else 0) → sum_by (λ x. cond (test x) (g x) 0) xs ≡ cond b v 0
counted test g v [] same true once = absurd (omega (arith, once))
counted test g v [] same false once = refl
counted test g v (x ∷ xs) same b once =
    sum_by-cons (λ y. cond (test y) (g y) 0) x xs ∙ by_tests (test x) refl b (sym (sum_by-cons (λ y. cond (test y) 1 0) x xs) ∙ once) (counted test g v xs same)
  where
    by_tests : (k : Bool) → test x ≡ k → (b : Bool) → cond k 1 0 + count_by test xs ≡ (if b then 1 else 0)
        → ((b : Bool) → count_by test xs ≡ (if b then 1 else 0) → sum_by (λ y. cond (test y) (g y) 0) xs ≡ cond b v 0)
        → cond k (g x) 0 + sum_by (λ y. cond (test y) (g y) 0) xs ≡ cond b v 0
    by_tests true is true once rest = let here = same x is in let others = rest false (omega (arith, once)) in omega (arith, here, others)
    by_tests true is false once rest = absurd (omega (arith, once))
    by_tests false is b once rest = omega (arith, rest b (omega (arith, once)))

module _ (p : ProgramTree) (event : List ℕ) (f : Tree → ℕ) where
  abbrev of_expression : Option Tree → ℕ
  of_expression o = elim o [ Some e ↦ f e | None ↦ 0 ]

  one-of : (e : Tree) → sum_by f (e ∷ []) ≡ f e
  one-of e = let split = sum_by-cons f e [] in omega (arith, split)

  abbrev both : Bool → BehaviourTree → ℕ
  both k b = cond (is_wanted_by k false (rule_on event b)) (of_expression (assigned_expression event b)) 0 + cond (is_wanted_by k true (rule_on event b)) (of_expression (assigned_expression event b)) 0

  nothing : (k : Bool) → 0 + cond k 0 0 ≡ 0
  nothing true = refl
  nothing false = refl

  by-clause : (k : Bool) (o : Option ClauseTree)
      → cond (is_wanted_by k false (clause_rule o)) (of_expression (expression_by (clause_rule o))) 0 + cond (is_wanted_by k true (clause_rule o)) (of_expression (expression_by (clause_rule o))) 0
      ≡ sum_by f (expression_of o) + cond k 0 0
  by-clause k None = sym (nothing k)
  by-clause k (Some c) = by_later c.later
    where
      by_later : (b : Bool)
          → cond (is_wanted_by k false (if b then Later c.expr else Now c.expr)) (of_expression (expression_by (if b then Later c.expr else Now c.expr))) 0
          + cond (is_wanted_by k true (if b then Later c.expr else Now c.expr)) (of_expression (expression_by (if b then Later c.expr else Now c.expr))) 0
          ≡ sum_by f (c.expr ∷ []) + cond k 0 0
      by_later true = let one = one-of c.expr in let none = nothing k in omega (arith, one, none)
      by_later false = let one = one-of c.expr in let none = nothing k in omega (arith, one, none)

  both-own : (k : Bool) (b : BehaviourTree) → both k b ≡ own event f k b
  both-own true (Plain e) = let one = one-of e in omega (arith, one)
  both-own false (Plain e) = refl
  both-own k (Input port) = sym (nothing k)
  both-own k (Table entries) = sym (nothing k)
  both-own k (Reactive init clauses) = by-clause k (clause_for event clauses)

  of-assign : (n : ℕ) (d : DeclTree) (next : Bool) → slice_get p.decls n ≡ Some d → (a : Assign) → assigns n next a ≡ true → by_expression p event f a ≡ of_expression (assigned_expression event d.behaviour)
  of-assign n d next at a is =
      ap (λ o. elim o [ Some c ↦ of_expression (assigned_expression event c.behaviour) | None ↦ 0 ]) (ap (slice_get p.decls) (eqb-true a.decl n (first (a.decl == n) (same_kind a.next next) is)) ∙ at)
    where
      first : (b c : Bool) → (b && c) ≡ true → b ≡ true
      first true c h = refl
      first false c h = absurd (false≢true h)

  -- The assignments of a plan, and the outputs.
  pub all-sum : (plan : Plan) → IsPlan p event plan → filter (is_needed p event) p.decls ≡ needed_plain p event
      → sum_by (by_expression p event f) plan.work + sum_by (λ (o : OutputTree). f o.expr) p.outputs ≡ sum_by f (needed p event)
  all-sum plan is plain =
      let g = by_expression p event f in
      let parts = all-parts g p.decls plan.work is.within in
      let each =
      total-at (λ n d. part g n false plan.work + part g n true plan.work) (λ (d : DeclTree). own event f (is_needed p event d) d.behaviour) 0 p.decls
      (λ k n d same at.
      let is_n : k ≡ n = omega (arith, same) in
      let there : slice_get p.decls k ≡ Some d = ap (slice_get p.decls) is_n ∙ at in
      let v = of_expression (assigned_expression event d.behaviour) in
      let first = counted (assigns k false) g v plan.work (of-assign k d false there) (is_wanted p event d false) (is.once k d false there) in
      let second = counted (assigns k true) g v plan.work (of-assign k d true there) (is_wanted p event d true) (is.once k d true there) in
      let sum = both-own (is_needed p event d) d.behaviour in
      omega (arith, first, second, sum)) in
      let whole = needed-sum event f p (is_needed p event) plain in
      omega (arith, parts, each, whole)

-- A filter by tests that agree at each place.
filter-same : (f g : DeclTree → Bool) (ds : List DeclTree) → ((n : ℕ) (d : DeclTree) → slice_get ds n ≡ Some d → f d ≡ g d) → filter f ds ≡ filter g ds
filter-same f g [] same = refl
filter-same f g (d ∷ ds) same =
    ap (λ b. if b then d ∷ filter f ds else filter f ds) (same 0 d refl) ∙ ap (λ rest. if g d then d ∷ rest else rest) (filter-same f g ds (λ n c at. same (suc n) c at))

-- The definitions that are marked as needed are those that are.
pub needed-plain : (p : ProgramTree) → NamesDiffer p → (event : List ℕ) → filter (is_needed p event) p.decls ≡ needed_plain p event
needed-plain p differ event =
    filter-same (is_needed p event) (λ (d : DeclTree). is_plain d.behaviour && is_named_in d.name (needed p event)) p.decls (needed-is p differ event)
    ∙ needs-are-closed p event
