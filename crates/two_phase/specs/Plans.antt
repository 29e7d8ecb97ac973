-- Plans of an event: which values and new states are assigned in which order, what each assignment gives, and which states are set.
use Rattle.std.specs.Prelude.{◌≡◌, ℕ, ◌<◌, Bool, true, false, not, ◌&&◌, ◌==◌, List, ◌∷◌, ◌++◌, length, map, fold, slice_get, Option, Some, None, option_and_then, if◌then◌else◌}
use Rattle.std.specs.List.{AllByRecursion, count_by, list_any}
use Rattle.std.specs.Str.{bytes_eq}
use Rattle.frp_tree.specs.Tree.{Tree, BehaviourTree, Plain, Input, Table, Reactive, DeclTree, ProgramTree}
use Rattle.efrp_meaning.specs.Decls.{decl_named, is_reactive}
use Rattle.efrp_meaning.specs.Needs.{IsNamedIn, reacting}
use Rattle.efrp_meaning.specs.Meaning.{State, Samples, Rule, Always, Sampled, Tabled, Now, Later, Stays, rule_on, old_state, sample_of, evaluate, stands_for, value_on, expression_on, depth}
use Rattle.efrp_types.specs.Numbers.{decl_number}
use Rattle.event_needs.specs.Needed.{is_needed}
use Rattle.two_phase.specs.declared.plans.Assign.{Assign}
use Rattle.two_phase.specs.declared.plans.Plan.{Plan}

-- The expression whose value a definition is assigned on an event, by its rule.
abbrev pub expression_by : Rule → Option Tree
expression_by (Always e) = Some e
expression_by Sampled = None
expression_by Tabled = None
expression_by (Now e) = Some e
expression_by (Later e) = Some e
expression_by Stays = None

abbrev pub assigned_expression : List ℕ → BehaviourTree → Option Tree
assigned_expression event behaviour = expression_by (rule_on event behaviour)

-- The event assigns the definition by this rule: with `next` its new state, and else its value on the event. A non-reactive
-- one is assigned where the event needs its own expression.
abbrev pub is_wanted_by : Bool → Bool → Rule → Bool
is_wanted_by needed next (Always e) = needed && not next
is_wanted_by needed next Sampled = false
is_wanted_by needed next Tabled = false
is_wanted_by needed next (Now e) = not next
is_wanted_by needed next (Later e) = next
is_wanted_by needed next Stays = false

abbrev pub is_wanted : ProgramTree → List ℕ → DeclTree → Bool → Bool
is_wanted p event d next = is_wanted_by (is_needed p event d) next (rule_on event d.behaviour)

-- The assignment is one of the definition with this number, and of this kind.
abbrev pub same_kind : Bool → Bool → Bool
same_kind a b = if a then b else not b

abbrev pub assigns : ℕ → Bool → Assign → Bool
assigns n next a = (a.decl == n) && same_kind a.next next

-- The value on the event of the definition with this number is known behind these assignments: it is assigned by one of them,
-- or it is its old state, or a sample.
abbrev pub is_known_by : List Assign → ℕ → Rule → Bool
is_known_by front n (Always e) = list_any (assigns n false) front
is_known_by front n Sampled = true
is_known_by front n Tabled = false
is_known_by front n (Now e) = list_any (assigns n false) front
is_known_by front n (Later e) = true
is_known_by front n Stays = true

-- A definition of this name has a value that is known behind these assignments.
abbrev pub IsKnown : ProgramTree → List ℕ → List Assign → List ℕ → Type 0
IsKnown p event front y = (n : ℕ) × (d : DeclTree) × (slice_get p.decls n ≡ Some d) × (d.name ≡ y) × (is_known_by front n (rule_on event d.behaviour) ≡ true)

-- In the expressions of a reactive definition its own name stands for its old state.
abbrev pub is_own_state : DeclTree → List ℕ → Bool
is_own_state d y = is_reactive d.behaviour && bytes_eq d.name y

-- A plan of an event. Each definition is assigned once in each way that the event wants, and in no other way; all that an
-- assignment reads is known by then; and the states that the event sets are those of the definitions that react to it, told by
-- their numbers in declaration order.
pub record IsPlan (p : ProgramTree) (event : List ℕ) (plan : Plan) : Type 0 where
  pub once : (n : ℕ) (d : DeclTree) (next : Bool) → slice_get p.decls n ≡ Some d → count_by (assigns n next) plan.work ≡ (if is_wanted p event d next then 1 else 0)
  pub within : AllByRecursion (λ (a : Assign). a.decl < length p.decls) plan.work
  pub behind : (front rest : List Assign) (a : Assign) (d : DeclTree) (e : Tree) (y : List ℕ)
      → plan.work ≡ front ++ a ∷ rest → slice_get p.decls a.decl ≡ Some d → assigned_expression event d.behaviour ≡ Some e
      → IsNamedIn y e → is_own_state d y ≡ false → IsKnown p event front y
  pub commit : map Some plan.commit ≡ map (λ (d : DeclTree). decl_number p d.name) (reacting p event)

-- What names stand for before any assignment: for the old states of reactive definitions, and for what inputs read.
abbrev pub given_by : ProgramTree → State → Samples → DeclTree → Option ℕ
given_by p s j d = elim d.behaviour [
  | Plain e ↦ None
  | Input port ↦ sample_of p j d.name
  | Table entries ↦ None
  | Reactive init clauses ↦ old_state p s d.name
]

abbrev pub names_before : ProgramTree → State → Samples → List ℕ → Option ℕ
names_before p s j x = option_and_then (given_by p s j) (decl_named p.decls x)

-- What an assignment of a definition gives where names stand for these values: the value of its expression, in which the own
-- name of a reactive definition stands for its old state.
abbrev pub own_name : DeclTree → Option (List ℕ)
own_name d = if is_reactive d.behaviour then Some d.name else None

abbrev pub given : ProgramTree → State → List ℕ → (List ℕ → Option ℕ) → DeclTree → Option ℕ
given p s event names d = option_and_then (evaluate p (stands_for p s names (own_name d))) (assigned_expression event d.behaviour)

-- The name stands for this value from then on.
abbrev pub bound : (List ℕ → Option ℕ) → List ℕ → Option ℕ → List ℕ → Option ℕ
bound names x value y = if bytes_eq x y then value else names y

-- What names stand for behind an assignment, and behind several: a value on the event is that of its definition's name, and a
-- new state changes nothing.
abbrev pub after : ProgramTree → State → List ℕ → (List ℕ → Option ℕ) → Assign → List ℕ → Option ℕ
after p s event names a =
    if a.next then names else elim (slice_get p.decls a.decl) [ Some d ↦ bound names d.name (given p s event names d) | None ↦ names ]

abbrev pub names_after : ProgramTree → State → Samples → List ℕ → List Assign → List ℕ → Option ℕ
names_after p s j event front = fold (after p s event) (names_before p s j) front

-- What an assignment is to give: the definition's value on the event, or its new state.
abbrev pub meant : ProgramTree → State → Samples → List ℕ → DeclTree → Bool → Option ℕ
meant p s j event d next =
    if next then option_and_then (λ e. expression_on p s j event e (Some d.name) (depth p)) (assigned_expression event d.behaviour) else value_on p s j event d.name (depth p)

-- A plan gives what is meant: from each state, with all samples, each assignment gives it where it stands.
abbrev pub PlanGives : ProgramTree → List ℕ → Plan → Type 0
PlanGives p event plan =
    (s : State) (j : Samples) (front rest : List Assign) (a : Assign) (d : DeclTree) → plan.work ≡ front ++ a ∷ rest → slice_get p.decls a.decl ≡ Some d
    → given p s event (names_after p s j event front) d ≡ meant p s j event d a.next
