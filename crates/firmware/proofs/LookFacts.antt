-- A program whose names have no fault, and that has no table, looks nothing up.
use Rattle.std.specs.Prelude.{◌≡◌, ℕ, not, Bool, true, false, List, [], ◌∷◌, ◌++◌, filter, Option, Some, None, ◌⊎◌, if◌then◌else◌}
use Rattle.std.specs.List.{AllByRecursion, flat_map}
use Rattle.std.specs.Str.{bytes_eq}
use Rattle.std.proofs.Common.{ap, refl, sym, subst, ◌∙◌, inl, inr}
use Rattle.std.proofs.lemmas.Bool.{false≢true}
use Rattle.frp_tree.specs.Tree.{Tree, Const, Name, Unary, Binary, Shift, If, Convert, Look, ClauseTree, BehaviourTree, Plain, Input, Table, Reactive, DeclTree, OutputTree, ProgramTree}
use Rattle.efrp_meaning.specs.Decls.{decl_named, is_table}
use Rattle.efrp_types.specs.declared.faults.CheckFault.{CheckFault}
use Rattle.efrp_types.specs.declared.faults.CheckFault.TheVariants.{TableUse, UnknownName}
use Rattle.efrp_types.specs.NameFaults.{behaviour_faults, clause_event_faults, clause_faults, each_after, expression_faults, fault_if, index_fault, item_faults, name_faults, use_faults}
use Rattle.efrp_types.proofs.NodeLaws.{both-none, fault-false, some-fault}
use Rattle.expr_lower.specs.Lowered.{HasNoLook}
use Rattle.event_ops.specs.Works.{HasNoLooks, LookNowhere}
use Rattle.firmware.specs.Builds.{tables_of}
use Rattle.firmware.proofs.KindFacts.{fails-first}

pick : (b : Bool) (k d : DeclTree) (rest : Option DeclTree) → (if b then Some k else rest) ≡ Some d → (k ≡ d) ⊎ (rest ≡ Some d)
pick true k d rest at = let same : Some k ≡ Some d = at in let is : k ≡ d = cc in inl is
pick false k d rest at = inr at

no-table-named : (ds : List DeclTree) (x : List ℕ) (d : DeclTree) → filter (λ d. is_table d.behaviour) ds ≡ [] → decl_named ds x ≡ Some d → is_table d.behaviour ≡ false
no-table-named [] x d none at = let no : None ≡ Some d = at in absurd cc
no-table-named (k ∷ ds) x d none at =
    let first = fails-first k (filter (λ d. is_table d.behaviour) ds) (is_table k.behaviour) none in
    elim (pick (bytes_eq x k.name) k d (decl_named ds x) at) [
      | inl same ↦ subst (λ (y : DeclTree). is_table y.behaviour ≡ false) same first.0
      | inr later ↦ no-table-named ds x d first.1 later
    ]

module _ (p : ProgramTree) (none : tables_of p ≡ []) where
  abbrev found : List ℕ → Option DeclTree → List CheckFault
  found x o = elim o as (λ o. List CheckFault) [ Some d ↦ fault_if (not (is_table d.behaviour)) (TableUse x) | None ↦ UnknownName x ∷ [] ]

  no-index-of : (x : List ℕ) (o : Option DeclTree) → decl_named p.decls x ≡ o → found x o ≡ [] → ⊥
  no-index-of x None at h = some-fault (UnknownName x) [] h
  no-index-of x (Some d) at h =
      let is = fault-false (not (is_table d.behaviour)) (TableUse x) h in
      let isnt = no-table-named p.decls x d none at in
      false≢true (sym is ∙ ap not isnt)

  looks : (e : Tree) → use_faults p e ≡ [] → HasNoLook e
  looks (Const literal) h = tt
  looks (Name x) h = tt
  looks (Unary op a) h = looks a h
  looks (Binary op a b) h = let k = both-none (use_faults p a) (use_faults p b) h in (looks a k.0, looks b k.1)
  looks (Shift side a amount) h = looks a h
  looks (If c a b) h =
      let k = both-none (use_faults p c) (use_faults p a ++ use_faults p b) h in
      let l = both-none (use_faults p a) (use_faults p b) k.1 in (looks c k.0, looks a l.0, looks b l.1)
  looks (Convert to a) h = looks a h
  looks (Look table index) h = absurd (no-index-of table (decl_named p.decls table) refl (both-none (index_fault p table) (use_faults p index) h).0)

  clauses-look : (owner : List ℕ) (before cs : List ClauseTree) → each_after (clause_faults p owner) before cs ≡ [] → AllByRecursion (λ (c : ClauseTree). HasNoLook c.expr) cs
  clauses-look owner before [] h = tt
  clauses-look owner before (c ∷ cs) h =
      let k = both-none (clause_faults p owner before c) _ h in
      let l = both-none (clause_event_faults p owner before c) (use_faults p c.expr) k.0 in
      (looks c.expr l.1, clauses-look owner _ cs k.1)

  behaviour-looks : (owner : List ℕ) (b : BehaviourTree) → behaviour_faults p owner b ≡ [] → LookNowhere b
  behaviour-looks owner (Plain e) h = looks e h
  behaviour-looks owner (Input port) h = tt
  behaviour-looks owner (Table entries) h = tt
  behaviour-looks owner (Reactive init clauses) h = clauses-look owner [] clauses h

  decls-look : (ds : List DeclTree) → flat_map (λ (d : DeclTree). behaviour_faults p d.name d.behaviour) ds ≡ [] → AllByRecursion (λ (d : DeclTree). LookNowhere d.behaviour) ds
  decls-look [] h = tt
  decls-look (d ∷ ds) h = let k = both-none (behaviour_faults p d.name d.behaviour) _ h in (behaviour-looks d.name d.behaviour k.0, decls-look ds k.1)

  outputs-look : (os : List OutputTree) → flat_map (λ (o : OutputTree). use_faults p o.expr) os ≡ [] → AllByRecursion (λ (o : OutputTree). HasNoLook o.expr) os
  outputs-look [] h = tt
  outputs-look (o ∷ os) h = let k = both-none (use_faults p o.expr) _ h in (looks o.expr k.0, outputs-look os k.1)

  pub no-looks : name_faults p ≡ [] → HasNoLooks p
  no-looks h =
      let k = both-none (item_faults p) (expression_faults p) h in
      let l = both-none _ _ k.1 in
      record { decls = decls-look p.decls l.0; outputs = outputs-look p.outputs l.1 }
