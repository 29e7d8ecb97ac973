-- The new state of an event: at the place of each reactive definition stands what its rule gives.
use Rattle.std.specs.List.{flat_map}
use Rattle.std.specs.Str.{bytes_eq}
use Rattle.std.proofs.Common.{◌≡◌, ℕ, zero, suc, Bool, true, false, List, [], ◌∷◌, ◌++◌, filter, map, slice_get, Option, Some, None, if◌then◌else◌, refl, sym, ap, ◌∙◌, arith}
use Rattle.std.proofs.lemmas.Bool.{false≢true}
use Rattle.std.proofs.lemmas.Option.{none-some, same_Some}
use Rattle.std.proofs.lemmas.Slice.Eq.{bytes_eq-Decides}
use Rattle.frp_tree.specs.Tree.{ClauseTree, BehaviourTree, Plain, Input, Table, Reactive, DeclTree, ProgramTree}
use Rattle.efrp_meaning.specs.Decls.{is_reactive}
use Rattle.efrp_meaning.specs.Meaning.{State, Samples, Reaction, Later, Now, all_defined, clause_rule, depth, expression_on, map_two, new_state, new_state_by, old_state, port_values, react, rule_on, value_at, value_on}
use Rattle.efrp_meaning.specs.Needs.{clause_for}
use Rattle.efrp_meaning.specs.States.{NamesDiffer}
use Rattle.event_needs.proofs.NumberLaws.{same-place}

-- A list of values that are all defined.
record Defined (v : Option ℕ) (o : Option (List ℕ)) (new : List ℕ) : Type 0 where
  pub n : ℕ
  pub ns : List ℕ
  pub first : v ≡ Some n
  pub rest : o ≡ Some ns
  pub all : new ≡ n ∷ ns

defined : (v : Option ℕ) (o : Option (List ℕ)) (new : List ℕ) → map_two (λ (n : ℕ) (ns : List ℕ). n ∷ ns) v o ≡ Some new → Defined v o new
defined None o new e = absurd (none-some new e)
defined (Some n) None new e = absurd (none-some new e)
defined (Some n) (Some ns) new e = record { n = n; ns = ns; first = refl; rest = refl; all = sym (same_Some (n ∷ ns) new e) }

-- Definitions of one name stand at one place.
abbrev AreApart : List DeclTree → Type 0
AreApart ds = (m n : ℕ) (c d : DeclTree) → slice_get ds m ≡ Some c → slice_get ds n ≡ Some d → bytes_eq c.name d.name ≡ true → m ≡ n

module _ (p : ProgramTree) (s : State) (j : Samples) (event : List ℕ) where
  abbrev by_rule : DeclTree → List (Option ℕ)
  by_rule d = new_state_by p s j event d.name (rule_on event d.behaviour)

  one-clause : (x : List ℕ) (o : Option ClauseTree) → (w : Option ℕ) × (new_state_by p s j event x (clause_rule o) ≡ w ∷ [])
  one-clause x None = (old_state p s x, refl)
  one-clause x (Some c) = by_later c.later
    where
      by_later : (b : Bool) → (w : Option ℕ) × (new_state_by p s j event x (if b then Later c.expr else Now c.expr) ≡ w ∷ [])
      by_later true = (expression_on p s j event c.expr (Some x) (depth p), refl)
      by_later false = (value_on p s j event x (depth p), refl)

  one-value : (x : List ℕ) (b : BehaviourTree) → is_reactive b ≡ true → (w : Option ℕ) × (new_state_by p s j event x (rule_on event b) ≡ w ∷ [])
  one-value x (Plain e) h = absurd (false≢true h)
  one-value x (Input port) h = absurd (false≢true h)
  one-value x (Table entries) h = absurd (false≢true h)
  one-value x (Reactive init clauses) h = one-clause x (clause_for event clauses)

  no-value : (x : List ℕ) (b : BehaviourTree) → is_reactive b ≡ false → new_state_by p s j event x (rule_on event b) ≡ []
  no-value x (Plain e) h = refl
  no-value x (Input port) h = refl
  no-value x (Table entries) h = refl
  no-value x (Reactive init clauses) h = absurd (false≢true (sym h))

  abbrev kept : List DeclTree → List DeclTree
  kept ds = filter (λ (x : DeclTree). is_reactive x.behaviour) ds

  abbrev Further : List DeclTree → Type 0
  Further ds = (ns : List ℕ) → all_defined (flat_map by_rule ds) ≡ Some ns → (m : ℕ) (x : DeclTree) → slice_get ds m ≡ Some x → is_reactive x.behaviour ≡ true
      → (u : Option ℕ) → by_rule x ≡ u ∷ [] → value_at (kept ds) ns x.name ≡ u

  at-place : (ds : List DeclTree) → AreApart ds → (new : List ℕ) → all_defined (flat_map by_rule ds) ≡ Some new → (n : ℕ) (d : DeclTree) → slice_get ds n ≡ Some d → is_reactive d.behaviour ≡ true
      → (v : Option ℕ) → by_rule d ≡ v ∷ [] → value_at (kept ds) new d.name ≡ v
  at-place [] apart new all n d at reactive v is = absurd (none-some d at)
  at-place (c ∷ cs) apart new all n d at reactive v is =
      by_kind (is_reactive c.behaviour) refl n at (at-place cs (λ k m x y here there same. less k m (apart (suc k) (suc m) x y here there same)))
    where
      less : (k m : ℕ) → suc k ≡ suc m → k ≡ m
      less k m e = omega (arith, e)

      first-of : (w : Option ℕ) → by_rule c ≡ w ∷ [] → Defined w (all_defined (flat_map by_rule cs)) new
      first-of w one = defined w (all_defined (flat_map by_rule cs)) new (sym (ap (λ (os : List (Option ℕ)). all_defined (os ++ flat_map by_rule cs)) one) ∙ all)

      read : (ns : List ℕ) (k : ℕ) (b : Bool) → bytes_eq d.name c.name ≡ b → value_at (c ∷ kept cs) (k ∷ ns) d.name ≡ (if b then Some k else value_at (kept cs) ns d.name)
      read ns k b e = ap (λ b. if b then Some k else value_at (kept cs) ns d.name) e

      by_kind : (b : Bool) → is_reactive c.behaviour ≡ b → (m : ℕ) → slice_get (c ∷ cs) m ≡ Some d → Further cs → value_at (if b then c ∷ kept cs else kept cs) new d.name ≡ v
      by_kind true kind zero at further =
          let same = same_Some c d at in
          let f = first-of v (ap by_rule same ∙ is) in
          ap (λ ns. value_at (c ∷ kept cs) ns d.name) f.all ∙ read f.ns f.n true ((bytes_eq-Decides d.name c.name).1 (sym (ap (λ (x : DeclTree). x.name) same))) ∙ sym f.first
      by_kind false kind zero at further = absurd (false≢true (sym kind ∙ ap (λ (x : DeclTree). is_reactive x.behaviour) (same_Some c d at) ∙ reactive))
      by_kind true kind (suc m) at further =
          let w = one-value c.name c.behaviour kind in
          let f = first-of w.0 w.1 in
          ap (λ ns. value_at (c ∷ kept cs) ns d.name) f.all ∙ read f.ns f.n false (other (bytes_eq d.name c.name) refl) ∙ further f.ns f.rest m d at reactive v is
        where
          other : (b : Bool) → bytes_eq d.name c.name ≡ b → b ≡ false
          other false e = refl
          other true e = let no = apart (suc m) 0 d c at refl e in absurd (omega (arith, no))
      by_kind false kind (suc m) at further =
          further new (sym (ap (λ (os : List (Option ℕ)). all_defined (os ++ flat_map by_rule cs)) (no-value c.name c.behaviour kind)) ∙ all) m d at reactive v is

  -- The new state at a reactive definition.
  pub new-at : NamesDiffer p → (new : State) → new_state p s j event ≡ Some new → (n : ℕ) (d : DeclTree) → slice_get p.decls n ≡ Some d → is_reactive d.behaviour ≡ true
      → (v : Option ℕ) → new_state_by p s j event d.name (rule_on event d.behaviour) ≡ v ∷ [] → old_state p new d.name ≡ v
  new-at differ new is n d at reactive v one = at-place p.decls (λ m k c x here there same. same-place p differ m k c x here there same) new is n d at reactive v one

  -- The parts of a reaction.
  pub record Parts (r : Reaction) : Type 0 where
    pub state : new_state p s j event ≡ Some r.state
    pub ports : port_values p s j event ≡ Some r.ports

  pub parts : (r : Reaction) → react p s j event ≡ Some r → Parts r
  parts r is = by_parts (new_state p s j event) refl (port_values p s j event) refl is
    where
      by_parts : (a : Option (List ℕ)) → new_state p s j event ≡ a → (b : Option (List ℕ)) → port_values p s j event ≡ b
          → map_two (λ (new values : List ℕ). record { state = new; ports = values }) a b ≡ Some r → Parts r
      by_parts None e b f h = absurd (none-some r h)
      by_parts (Some a) e None f h = absurd (none-some r h)
      by_parts (Some a) e (Some b) f h =
          let same : record { state = a; ports = b } ≡ r = same_Some (record { state = a; ports = b }) r h in
          record { state = e ∙ ap (λ (x : Reaction). Some x.state) same; ports = f ∙ ap (λ (x : Reaction). Some x.ports) same }

-- All of some values are defined.
pub all-some : (ns : List ℕ) → all_defined (map Some ns) ≡ Some ns
all-some [] = refl
all-some (n ∷ ns) = ap (map_two (λ (k : ℕ) (ks : List ℕ). k ∷ ks) (Some n)) (all-some ns)
