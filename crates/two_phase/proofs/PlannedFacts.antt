-- What is planned is a plan.
use Rattle.std.specs.Prelude.{◌≡◌, ℕ, ◌+◌, ◌<◌, Bool, true, false, ◌||◌, ◌&&◌, ◌==◌, List, [], ◌∷◌, ◌++◌, length, map, cond, count_by, slice_get, Option, Some, None, if◌then◌else◌, refl}
use Rattle.std.specs.List.{AllByRecursion, flat_map, list_any, range_with_len}
use Rattle.std.proofs.Common.{sym, ap, subst, ◌∙◌, arith, zero-add}
use Rattle.std.proofs.Math.Path.{ap₂}
use Rattle.std.proofs.lemmas.Bool.{false≢true}
use Rattle.std.proofs.lemmas.List.{length-map}
use Rattle.std.proofs.lemmas.List.Folds.{list_any-append}
use Rattle.std.proofs.lemmas.List.Sums.{sum_by-append}
use Rattle.std.proofs.lemmas.Option.{slice_get_within}
use mathlib.Core.Logic.{inl, inr}
use Rattle.frp_tree.specs.Tree.{Tree, DeclTree, ProgramTree, decl_of, program_tree_of}
use Rattle.efrp_meaning.specs.Needs.{IsNamedIn, reacting}
use Rattle.efrp_meaning.specs.States.{NamesDiffer}
use Rattle.efrp_meaning.specs.Types.{IsTyped}
use Rattle.efrp_types.specs.Numbers.{decl_number, event_name}
use Rattle.efrp_types.specs.declared.typed.Typed.{Typed}
use Rattle.efrp_types.proofs.NumberLaws.{decl_number_within}
use Rattle.causality.specs.declared.checked.Checked.{Checked}
use Rattle.causality.specs.Orders.{IsOrder}
use Rattle.event_needs.proofs.CheckedLaws.{checked-causal, checked-typed}
use Rattle.event_needs.proofs.ListLaws.{all-append}
use Rattle.event_needs.proofs.NumberLaws.{count-some, names-differ}
use Rattle.two_phase.specs.declared.plans.Assign.{Assign}
use Rattle.two_phase.specs.declared.plans.Plan.{Plan}
use Rattle.two_phase.specs.Assigned.{number_wanted, assigned}
use Rattle.two_phase.specs.Plans.{assigned_expression, is_wanted, assigns, same_kind, IsKnown, is_own_state, IsPlan, PlanGives}
use Rattle.two_phase.proofs.GiveLaws.{plans-give}
use Rattle.two_phase.proofs.PlanFacts.{once-within, count-all, in-both, stands}
use Rattle.two_phase.proofs.ReadFacts.{any-assigned, wanted-at, reads-known, depends-on}

or-left : (a b : Bool) → a ≡ true → (a || b) ≡ true
or-left true b h = refl
or-left false b h = absurd (false≢true h)

module _ (p : ProgramTree) (event : List ℕ) where
  abbrev IsWithin : Assign → Type 0
  IsWithin a = a.decl < length p.decls

  wanted-within : (next : Bool) (n : ℕ) (o : Option DeclTree) → slice_get p.decls n ≡ o → elim o [ Some d ↦ is_wanted p event d next | None ↦ false ] ≡ true → n < length p.decls
  wanted-within next n (Some d) at h = slice_get_within p.decls n d at
  wanted-within next n None at h = absurd (false≢true h)

  all-within : (next : Bool) (ms : List ℕ) → AllByRecursion IsWithin (flat_map (assigned p event next) ms)
  all-within next [] = tt
  all-within next (m ∷ ms) = all-append IsWithin (assigned p event next m) (flat_map (assigned p event next) ms) (own (number_wanted p event next m) refl) (all-within next ms)
    where
      own : (b : Bool) → number_wanted p event next m ≡ b → AllByRecursion IsWithin (if b then record { decl = m; next = next } ∷ [] else [])
      own false e = tt
      own true e = (wanted-within next m (slice_get p.decls m) refl e, tt)

module _ (p : ProgramTree) (typed : IsTyped p) (differ : NamesDiffer p) (event order : List ℕ) (ordered : IsOrder p event order) where
  abbrev values : List Assign
  values = flat_map (assigned p event false) order

  abbrev states : List Assign
  states = flat_map (assigned p event true) (range_with_len 0 (length p.decls))

  -- Each once.
  one-of : (w v : Bool) (c : ℕ) → w ≡ v → c ≡ 1 → ◌≡◌ {A = ℕ} (if w then c else 0) (if v then 1 else 0)
  one-of w v c same one = ap₂ (λ (b : Bool) (i : ℕ). if b then i else 0) same one

  each-once : (n : ℕ) (d : DeclTree) (next : Bool) → slice_get p.decls n ≡ Some d → count_by (assigns n next) (values ++ states) ≡ (if is_wanted p event d next then 1 else 0)
  each-once n d next at =
      sum_by-append (λ a. cond (assigns n next a) 1 0) values states
      ∙ ap₂ (λ (i k : ℕ). i + k) (count-all p event false next n order) (count-all p event true next n (range_with_len 0 (length p.decls))) ∙ by_next next
    where
      within : n < length p.decls
      within = slice_get_within p.decls n d at

      no-more : (i : ℕ) → i + 0 ≡ i
      no-more i = omega arith

      by_next : (b : Bool) → (if same_kind false b && number_wanted p event false n then count_by (λ m. m == n) order else 0)
          + (if same_kind true b && number_wanted p event true n then count_by (λ m. m == n) (range_with_len 0 (length p.decls)) else 0) ≡ (if is_wanted p event d b then 1 else 0)
      by_next false =
          no-more (if number_wanted p event false n then count_by (λ m. m == n) order else 0)
          ∙ one-of (number_wanted p event false n) (is_wanted p event d false) (count_by (λ m. m == n) order) (wanted-at p typed differ event n d false at) (ordered.once n within)
      by_next true =
          zero-add (if number_wanted p event true n then count_by (λ m. m == n) (range_with_len 0 (length p.decls)) else 0)
          ∙ one-of (number_wanted p event true n) (is_wanted p event d true) (count_by (λ m. m == n) (range_with_len 0 (length p.decls))) (wanted-at p typed differ event n d true at)
          (once-within 0 (length p.decls) n (omega arith) (omega (arith, within)))

  -- Each behind all that it reads.
  known : (front rest : List Assign) (a : Assign) (d : DeclTree) (e : Tree) (y : List ℕ) → values ++ states ≡ front ++ a ∷ rest → slice_get p.decls a.decl ≡ Some d → assigned_expression event d.behaviour ≡ Some e
      → IsNamedIn y e → is_own_state d y ≡ false → IsKnown p event front y
  known front rest a d e y split at is inside other = elim (in-both values states front rest a split) [
    | inl w ↦
        let st = stands p event false order front w.0 a w.1 in
        let wants = sym (wanted-at p typed differ event a.decl d false at) ∙ st.wanted in
        let among = ordered.behind st.before st.after a.decl d st.split at y (depends-on p typed differ event a.decl d e y false at wants is inside refl other) in
        reads-known p typed differ event a.decl d e y false at wants is inside front (λ m number its.
        ap (list_any (assigns m false)) st.front_is
        ∙ any-assigned p event m its st.before (sym (ap (λ o. elim o [ Some k ↦ list_any (λ i. i == k) st.before | None ↦ false ]) number) ∙ among))
    | inr w ↦
        let st = stands p event true (range_with_len 0 (length p.decls)) w.0 rest a w.2 in
        let wants = sym (wanted-at p typed differ event a.decl d true at) ∙ st.wanted in
        reads-known p typed differ event a.decl d e y true at wants is inside front (λ m number its.
        let once = ordered.once m (decl_number_within p y m number) in
        ap (list_any (assigns m false)) w.1 ∙ list_any-append (assigns m false) values w.0
        ∙ or-left (list_any (assigns m false) values) (list_any (assigns m false) w.0) (any-assigned p event m its order (count-some (λ i. i == m) order (omega (arith, once)))))
  ]

  pub is-plan : (plan : Plan) → plan.work ≡ values ++ states → map Some plan.commit ≡ map (λ (d : DeclTree). decl_number p d.name) (reacting p event) → IsPlan p event plan
  is-plan plan work commit = record {
    once = λ n d next at. ap (count_by (assigns n next)) work ∙ each-once n d next at;
    within = subst (AllByRecursion (λ (a : Assign). a.decl < length p.decls)) (sym work) (all-append (λ (a : Assign). a.decl < length p.decls) values states (all-within p event false order) (all-within p event true (range_with_len 0 (length p.decls))));
    behind = λ front rest a d e y split at is inside other. known front rest a d e y (sym work ∙ split) at is inside other;
    commit = commit;
  }

module _ (c : Checked) (n : ℕ) where
  abbrev tree : ProgramTree
  tree = program_tree_of c.typed.program

  abbrev name : List ℕ
  name = event_name tree n

  -- The lists that are made are a plan of the checked program's event.
  pub planned : (t : Typed) (event order : List ℕ) (none first work : List Assign) (commit : List ℕ) → t ≡ c.typed → event ≡ name → IsOrder tree name order → none ≡ []
      → first ≡ none ++ flat_map (assigned (program_tree_of t.program) event false) order
      → work ≡ first ++ flat_map (assigned (program_tree_of t.program) event true) (range_with_len 0 (length t.program.decls))
      → map Some commit ≡ map (λ (d : DeclTree). decl_number (program_tree_of t.program) d.name) (reacting (program_tree_of t.program) event)
      → IsPlan tree name (record { work = work; commit = commit })
  planned t event order none first work commit same is ordered empty values_are work_is commit_is =
      is-plan tree (checked-typed c) (names-differ c) name order ordered (record { work = work; commit = commit })
      (work_is
      ∙ ap₂ (λ (vs ss : List Assign). vs ++ ss)
      (values_are ∙ ap (λ (ws : List Assign). ws ++ flat_map (assigned (program_tree_of t.program) event false) order) empty
      ∙ ap₂ (λ (u : Typed) (x : List ℕ). flat_map (assigned (program_tree_of u.program) x false) order) same is)
      (ap₂ (λ (u : Typed) (x : List ℕ). flat_map (assigned (program_tree_of u.program) x true) (range_with_len 0 (length u.program.decls))) same is
      ∙ ap (λ k. flat_map (assigned tree name true) (range_with_len 0 k)) (sym (length-map c.typed.program.decls decl_of))))
      (commit_is ∙ ap₂ (λ (u : Typed) (x : List ℕ). map (λ (d : DeclTree). decl_number (program_tree_of u.program) d.name) (reacting (program_tree_of u.program) x)) same is)

  pub planned-gives : n < length tree.events → (plan : Plan) → IsPlan tree name plan → PlanGives tree name plan
  planned-gives inside plan is = plans-give tree name plan (names-differ c) (checked-causal c n inside) is
