-- Each assignment of a plan gives what is meant: all that it reads has its value on the event by then.
use Rattle.std.specs.Prelude.{◌≡◌, ℕ, suc, ◌-◌, ◌<◌, ◌≤◌, ◌⊎◌, Bool, true, false, ◌||◌, ◌&&◌, ◌==◌, List, [], ◌∷◌, ◌++◌, cond, count_by, slice_get, Option, Some, None, if◌then◌else◌, refl, option_and_then}
use Rattle.std.specs.List.{list_any}
use Rattle.std.specs.Str.{bytes_eq}
use Rattle.std.proofs.Common.{sym, ap, subst, ◌∙◌, arith, eq-eqb}
use Rattle.std.proofs.lemmas.Bool.{eqb-true, false≢true}
use Rattle.std.proofs.lemmas.List.{append_assoc, append-nil}
use Rattle.std.proofs.lemmas.List.Folds.{list_any-append}
use Rattle.std.proofs.lemmas.List.Sums.{fold-append, sum_by-append, sum_by-cons}
use Rattle.std.proofs.lemmas.Option.{slice_get_within}
use Rattle.frp_tree.specs.Tree.{Tree, ClauseTree, BehaviourTree, Plain, Input, Table, Reactive, DeclTree, ProgramTree}
use Rattle.efrp_meaning.specs.Causal.{IsCausalOn}
use Rattle.efrp_meaning.specs.Decls.{decl_named, is_reactive}
use Rattle.efrp_meaning.specs.Needs.{IsNamedIn, clause_for}
use Rattle.efrp_meaning.specs.Meaning.{State, Samples, Rule, Always, Sampled, Tabled, Now, Later, Stays, clause_rule, rule_on, old_state, sample_of, evaluate, stands_for, value_on, expression_on, depth}
use Rattle.efrp_meaning.specs.States.{NamesDiffer}
use Rattle.efrp_meaning.proofs.MeaningLaws.{value_on-always, value_on-now, value_on-sampled, value_on-later, value_on-stays}
use Rattle.event_needs.specs.Needed.{is_needed}
use Rattle.event_needs.proofs.NumberLaws.{own-decl, same-name, same-place}
use Rattle.two_phase.specs.declared.plans.Assign.{Assign}
use Rattle.two_phase.specs.declared.plans.Plan.{Plan}
use Rattle.two_phase.specs.Laws.{PlansGive}
use Rattle.two_phase.specs.Plans.{assigned_expression, expression_by, is_wanted, is_wanted_by, assigns, same_kind, is_known_by, IsKnown, IsPlan, given_by, names_before, own_name, given, bound, after, names_after, meant}
use Rattle.two_phase.proofs.DepthFacts.{evaluate-agrees, own-agrees, stable-at-depth}

-- Kinds of rules, as numbers, so that rules of two kinds differ.
kind : Rule → ℕ
kind (Always e) = 0
kind Sampled = 1
kind Tabled = 2
kind (Now e) = 3
kind (Later e) = 4
kind Stays = 5

-- A reactive definition goes by a rule of the last three kinds.
reactive-kind : (o : Option ClauseTree) → 3 ≤ kind (clause_rule o)
unfolding kind
reactive-kind None = omega arith
reactive-kind (Some c) = by_later c.later
  where
    by_later : (b : Bool) → 3 ≤ kind (if b then Later c.expr else Now c.expr)
    by_later true = omega arith
    by_later false = omega arith

-- One that goes by a clause is reactive, and others aren't.
is-reactive : (event : List ℕ) (b : BehaviourTree) → 3 ≤ kind (rule_on event b) → is_reactive b ≡ true
unfolding kind
is-reactive event (Plain e) h = absurd (omega (arith, h))
is-reactive event (Input port) h = absurd (omega (arith, h))
is-reactive event (Table entries) h = absurd (omega (arith, h))
is-reactive event (Reactive init clauses) h = refl

not-reactive : (event : List ℕ) (b : BehaviourTree) → kind (rule_on event b) < 3 → is_reactive b ≡ false
unfolding kind
not-reactive event (Plain e) h = refl
not-reactive event (Input port) h = refl
not-reactive event (Table entries) h = refl
not-reactive event (Reactive init clauses) h = let most = reactive-kind (clause_for event clauses) in absurd (omega (arith, h, most))

reactive-now : (event : List ℕ) (b : BehaviourTree) (e : Tree) → rule_on event b ≡ Now e → is_reactive b ≡ true
unfolding kind
reactive-now event b e is = let k = ap kind is in is-reactive event b (omega (arith, k))

reactive-later : (event : List ℕ) (b : BehaviourTree) (e : Tree) → rule_on event b ≡ Later e → is_reactive b ≡ true
unfolding kind
reactive-later event b e is = let k = ap kind is in is-reactive event b (omega (arith, k))

plain-always : (event : List ℕ) (b : BehaviourTree) (e : Tree) → rule_on event b ≡ Always e → is_reactive b ≡ false
unfolding kind
plain-always event b e is = let k = ap kind is in not-reactive event b (omega (arith, k))

-- What a name stands for before any assignment, where its definition's value on the event is given.
before-by : (p : ProgramTree) (s : State) (j : Samples) (d : DeclTree) (b : BehaviourTree) → d.behaviour ≡ b → is_reactive b ≡ true → given_by p s j d ≡ old_state p s d.name
before-by p s j d (Plain e) is h = absurd (false≢true h)
before-by p s j d (Input port) is h = absurd (false≢true h)
before-by p s j d (Table entries) is h = absurd (false≢true h)
before-by p s j d (Reactive init clauses) is h = rw is refl

read-by : (p : ProgramTree) (s : State) (j : Samples) (event : List ℕ) (d : DeclTree) (b : BehaviourTree) → d.behaviour ≡ b → rule_on event b ≡ Sampled → given_by p s j d ≡ sample_of p j d.name
unfolding kind
read-by p s j event d (Plain e) is h = let k = ap kind h in absurd (omega (arith, k))
read-by p s j event d (Input port) is h = rw is refl
read-by p s j event d (Table entries) is h = let k = ap kind h in absurd (omega (arith, k))
read-by p s j event d (Reactive init clauses) is h = let k = ap kind h in let most = reactive-kind (clause_for event clauses) in absurd (omega (arith, k, most))

or-none : (a b : Bool) → (a || (b || false)) ≡ false → (a ≡ false) × (b ≡ false)
or-none true b h = absurd (false≢true (sym h))
or-none false true h = absurd (false≢true (sym h))
or-none false false h = (refl, refl)

and-parts : (a b : Bool) → (a && b) ≡ true → (a ≡ true) × (b ≡ true)
and-parts true b h = (refl, h)
and-parts false b h = absurd (false≢true h)

-- An assignment that stands in a plan counts.
stands-counts : (n : ℕ) (a : Assign) (front rest : List Assign) → a.decl ≡ n → 1 ≤ count_by (assigns n a.next) (front ++ a ∷ rest)
stands-counts n a front rest is =
    let split = sum_by-append (λ k. cond (assigns n a.next k) 1 0) front (a ∷ rest) in
    let next = sum_by-cons (λ k. cond (assigns n a.next k) 1 0) a rest in
    let here : ◌≡◌ {A = ℕ} (cond (assigns n a.next a) 1 0) 1 = ap (λ b. cond b 1 0) (own-kind n a is) in
    omega (arith, split, next, here)
  where
    same : (b : Bool) → same_kind b b ≡ true
    same true = refl
    same false = refl

    own-kind : (n : ℕ) (a : Assign) → a.decl ≡ n → assigns n a.next a ≡ true
    own-kind n a is = ap (λ b. b && same_kind a.next a.next) (eq-eqb a.decl n is) ∙ same a.next

counts-wanted : (b : Bool) → 1 ≤ (if b then 1 else 0) → b ≡ true
counts-wanted true h = refl
counts-wanted false h = absurd (omega (arith, h))

module _ (p : ProgramTree) (differ : NamesDiffer p) (event : List ℕ) (causal : IsCausalOn p event) (plan : Plan) (is : IsPlan p event plan) (s : State) (j : Samples) where
  abbrev on : List ℕ → Option ℕ
  on y = value_on p s j event y (depth p)

  abbrev names : List Assign → List ℕ → Option ℕ
  names front = names_after p s j event front

  -- The values that are assigned are those on the event, and the other names stand for what they did before.
  pub record AreSoFar (front : List Assign) : Type 0 where
    pub known : (n : ℕ) (d : DeclTree) → slice_get p.decls n ≡ Some d → list_any (assigns n false) front ≡ true → names front d.name ≡ on d.name
    pub given : (n : ℕ) (d : DeclTree) → slice_get p.decls n ≡ Some d → list_any (assigns n false) front ≡ false → names front d.name ≡ names_before p s j d.name

  -- A value on the event by a rule that reads nothing is what the name stood for before.
  module _ (n : ℕ) (d : DeclTree) (at : slice_get p.decls n ≡ Some d) where
    found : decl_named p.decls d.name ≡ Some d
    found = own-decl p differ n d at

    before : names_before p s j d.name ≡ given_by p s j d
    before = ap (option_and_then (given_by p s j)) found

    deep : (k : ℕ) → depth p ≡ suc k → value_on p s j event d.name (suc k) ≡ on d.name
    deep k is = ap (value_on p s j event d.name) (sym is)

    depth-is : depth p ≡ suc (depth p - 1)
    depth-is = let inside = slice_get_within p.decls n d at in omega (arith, inside)

    on-sampled : rule_on event d.behaviour ≡ Sampled → names_before p s j d.name ≡ on d.name
    on-sampled rule = before ∙ read-by p s j event d d.behaviour refl rule ∙ sym (value_on-sampled p s j event d.name (depth p - 1) d found rule) ∙ deep (depth p - 1) depth-is

    on-later : (e : Tree) → rule_on event d.behaviour ≡ Later e → names_before p s j d.name ≡ on d.name
    on-later e rule = before ∙ before-by p s j d d.behaviour refl (reactive-later event d.behaviour e rule) ∙ sym (value_on-later p s j event d.name (depth p - 1) d found e rule) ∙ deep (depth p - 1) depth-is

    on-stays : rule_on event d.behaviour ≡ Stays → names_before p s j d.name ≡ on d.name
    unfolding kind
    on-stays rule =
        let k = ap kind rule in
        before ∙ before-by p s j d d.behaviour refl (is-reactive event d.behaviour (omega (arith, k))) ∙ sym (value_on-stays p s j event d.name (depth p - 1) d found rule) ∙ deep (depth p - 1) depth-is

  module _ (front : List Assign) (so_far : AreSoFar front) where
    either-way : (n : ℕ) (d : DeclTree) → slice_get p.decls n ≡ Some d → names_before p s j d.name ≡ on d.name → names front d.name ≡ on d.name
    either-way n d at same = by_assigned (list_any (assigns n false) front) refl
      where
        by_assigned : (b : Bool) → list_any (assigns n false) front ≡ b → names front d.name ≡ on d.name
        by_assigned true e = so_far.known n d at e
        by_assigned false e = so_far.given n d at e ∙ same

    known-on : (n : ℕ) (d : DeclTree) → slice_get p.decls n ≡ Some d → (r : Rule) → rule_on event d.behaviour ≡ r → is_known_by front n r ≡ true → names front d.name ≡ on d.name
    known-on n d at (Always e) rule h = so_far.known n d at h
    known-on n d at Sampled rule h = either-way n d at (on-sampled n d at rule)
    known-on n d at Tabled rule h = absurd (false≢true h)
    known-on n d at (Now e) rule h = so_far.known n d at h
    known-on n d at (Later e) rule h = either-way n d at (on-later n d at e rule)
    known-on n d at Stays rule h = either-way n d at (on-stays n d at rule)

    known-name : (y : List ℕ) → IsKnown p event front y → names front y ≡ on y
    known-name y known = subst (λ x. names front x ≡ on x) known.3 (known-on known.0 known.1 known.2 (rule_on event known.1.behaviour) refl known.4)

    module _ (rest : List Assign) (a : Assign) (split : plan.work ≡ front ++ a ∷ rest) (d : DeclTree) (at : slice_get p.decls a.decl ≡ Some d) where
      wanted : is_wanted p event d a.next ≡ true
      wanted = let once = is.once a.decl d a.next at in let counts = stands-counts a.decl a front rest refl in counts-wanted (is_wanted p event d a.next) (subst (λ k. 1 ≤ k) (sym (ap (count_by (assigns a.decl a.next)) split) ∙ once) counts)

      reads : (e : Tree) → rule_on event d.behaviour ≡ Always e → (y : List ℕ) → IsNamedIn y e → names front y ≡ on y
      reads e rule y inside = known-name y (is.behind front rest a d e y split at (ap expression_by rule) inside (ap (λ b. b && bytes_eq d.name y) (plain-always event d.behaviour e rule)))

      reads-others : (e : Tree) → assigned_expression event d.behaviour ≡ Some e → is_reactive d.behaviour ≡ true → (y : List ℕ) → IsNamedIn y e → bytes_eq d.name y ≡ false → names front y ≡ on y
      reads-others e is_e reactive y inside other = known-name y (is.behind front rest a d e y split at is_e inside (ap (λ b. b && bytes_eq d.name y) reactive ∙ other))

      given-is : (e : Tree) (own : Option (List ℕ)) → assigned_expression event d.behaviour ≡ Some e → own_name d ≡ own → given p s event (names front) d ≡ evaluate p (stands_for p s (names front) own) e
      given-is e own is_e is_own = ap (option_and_then (evaluate p (stands_for p s (names front) (own_name d)))) is_e ∙ ap (λ o. evaluate p (stands_for p s (names front) o) e) is_own

      own-some : is_reactive d.behaviour ≡ true → own_name d ≡ Some d.name
      own-some reactive = ap (λ b. if b then Some d.name else None) reactive

      own-none : is_reactive d.behaviour ≡ false → own_name d ≡ None
      own-none plain = ap (λ b. if b then Some d.name else None) plain

      by_rule : (r : Rule) → rule_on event d.behaviour ≡ r → (next : Bool) → is_wanted_by (is_needed p event d) next r ≡ true → given p s event (names front) d ≡ meant p s j event d next
      by_rule (Always e) rule true h = absurd (false≢true ((and-parts (is_needed p event d) false h).1))
      by_rule (Always e) rule false h =
          given-is e None (ap expression_by rule) (own-none (plain-always event d.behaviour e rule))
          ∙ evaluate-agrees p (names front) on e (reads e rule)
          ∙ sym (value_on-always p s j event d.name (depth p) d (found a.decl d at) e rule) ∙ sym (stable-at-depth p s j event causal d.name)
      by_rule Sampled rule next h = absurd (false≢true h)
      by_rule Tabled rule next h = absurd (false≢true h)
      by_rule (Now e) rule true h = absurd (false≢true h)
      by_rule (Now e) rule false h =
          let reactive = reactive-now event d.behaviour e rule in
          given-is e (Some d.name) (ap expression_by rule) (own-some reactive)
          ∙ own-agrees p s (names front) on d.name e (reads-others e (ap expression_by rule) reactive)
          ∙ sym (value_on-now p s j event d.name (depth p) d (found a.decl d at) e rule) ∙ sym (stable-at-depth p s j event causal d.name)
      by_rule (Later e) rule true h =
          let reactive = reactive-later event d.behaviour e rule in
          given-is e (Some d.name) (ap expression_by rule) (own-some reactive)
          ∙ own-agrees p s (names front) on d.name e (reads-others e (ap expression_by rule) reactive)
          ∙ sym (ap (option_and_then (λ k. expression_on p s j event k (Some d.name) (depth p))) (ap expression_by rule))
      by_rule (Later e) rule false h = absurd (false≢true h)
      by_rule Stays rule next h = absurd (false≢true h)

      gives : given p s event (names front) d ≡ meant p s j event d a.next
      gives = by_rule (rule_on event d.behaviour) refl a.next wanted

    -- One assignment more.
    module _ (rest : List Assign) (a : Assign) (split : plan.work ≡ front ++ a ∷ rest) where
      in-more : (n : ℕ) → list_any (assigns n false) (front ++ a ∷ []) ≡ (list_any (assigns n false) front || (assigns n false a || false))
      in-more n = list_any-append (assigns n false) front (a ∷ [])

      abbrev bound-by : Bool → Option DeclTree → List ℕ → Option ℕ
      bound-by next o = if next then names front else elim o [ Some d ↦ bound (names front) d.name (given p s event (names front) d) | None ↦ names front ]

      names-more : (x : List ℕ) → names (front ++ a ∷ []) x ≡ bound-by a.next (slice_get p.decls a.decl) x
      names-more x = ap (λ (f : List ℕ → Option ℕ). f x) (fold-append (after p s event) (names_before p s j) front (a ∷ []))

      -- The own name of what is assigned, and another.
      own-bound : (d : DeclTree) → slice_get p.decls a.decl ≡ Some d → a.next ≡ false → names (front ++ a ∷ []) d.name ≡ on d.name
      own-bound d at now =
          names-more d.name ∙ ap (λ o. bound-by a.next o d.name) at ∙ ap (λ b. bound-by b (Some d) d.name) now
          ∙ ap (λ b. if b then given p s event (names front) d else names front d.name) (same-name d.name)
          ∙ gives rest a split d at ∙ ap (λ b. meant p s j event d b) now

      other-bound : (n : ℕ) (d : DeclTree) → slice_get p.decls n ≡ Some d → assigns n false a ≡ false → names (front ++ a ∷ []) d.name ≡ names front d.name
      other-bound n d at other = names-more d.name ∙ by_kind a.next refl (slice_get p.decls a.decl) refl
        where
          by_kind : (b : Bool) → a.next ≡ b → (o : Option DeclTree) → slice_get p.decls a.decl ≡ o → bound-by b o d.name ≡ names front d.name
          by_kind true now o there = refl
          by_kind false now None there = refl
          by_kind false now (Some c) there = by_name (bytes_eq c.name d.name) refl
            where
              by_name : (b : Bool) → bytes_eq c.name d.name ≡ b → (if b then given p s event (names front) c else names front d.name) ≡ names front d.name
              by_name false e = refl
              by_name true e =
                  let same = same-place p differ a.decl n c d there at e in
                  absurd (false≢true (sym other ∙ ap (λ b. b && same_kind a.next false) (eq-eqb a.decl n same) ∙ ap (λ b. same_kind b false) now))

      pub goes-on : AreSoFar (front ++ a ∷ [])
      goes-on = record {
        known = λ n d at h. is-known n d at (assigns n false a) refl (sym (in-more n) ∙ h);
        given = λ n d at h. let parts = or-none (list_any (assigns n false) front) (assigns n false a) (sym (in-more n) ∙ h) in other-bound n d at parts.1 ∙ so_far.given n d at parts.0;
      }
        where
          not-next : (b : Bool) → same_kind b false ≡ true → b ≡ false
          not-next true h = absurd (false≢true h)
          not-next false h = refl

          or-first : (b : Bool) → (b || (false || false)) ≡ true → b ≡ true
          or-first true h = refl
          or-first false h = h

          is-known : (n : ℕ) (d : DeclTree) → slice_get p.decls n ≡ Some d → (b : Bool) → assigns n false a ≡ b → (list_any (assigns n false) front || (b || false)) ≡ true → names (front ++ a ∷ []) d.name ≡ on d.name
          is-known n d at false e h = other-bound n d at e ∙ so_far.known n d at (or-first (list_any (assigns n false) front) h)
          is-known n d at true e h =
              let parts = and-parts (a.decl == n) (same_kind a.next false) e in
              own-bound d (ap (slice_get p.decls) (eqb-true a.decl n parts.0) ∙ at) (not-next a.next parts.1)

  none-yet : AreSoFar []
  none-yet = record { known = λ n d at h. absurd (false≢true h); given = λ n d at h. refl }

  further : (more front rest : List Assign) → plan.work ≡ front ++ (more ++ rest) → AreSoFar front → AreSoFar (front ++ more)
  further [] front rest split so_far = subst AreSoFar (sym (append-nil front)) so_far
  further (a ∷ later) front rest split so_far =
      subst AreSoFar (append_assoc front (a ∷ []) later)
      (further later (front ++ a ∷ []) rest (split ∙ sym (append_assoc front (a ∷ []) (later ++ rest))) (goes-on front so_far (later ++ rest) a split))

  pub all-give : (front rest : List Assign) (a : Assign) (d : DeclTree) → plan.work ≡ front ++ a ∷ rest → slice_get p.decls a.decl ≡ Some d → given p s event (names front) d ≡ meant p s j event d a.next
  all-give front rest a d split at = gives front (further front [] (a ∷ rest) split none-yet) rest a split d at

  -- Behind the whole plan each name that is known has its value on the event.
  pub all-known : (y : List ℕ) → IsKnown p event plan.work y → names plan.work y ≡ on y
  all-known y known = known-name plan.work (further plan.work [] [] (sym (append-nil plan.work)) none-yet) y known

pub plans-give : (p : ProgramTree) → PlansGive p
plans-give p event plan differ causal is s j front rest a d split at = all-give p differ event causal plan is s j front rest a d split at
