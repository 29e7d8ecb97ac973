-- Where names have no fault and conversions are to numbers, the expressions of a program are fit for the check of types.
use Rattle.std.specs.Prelude.{◌≡◌, ℕ, Bool, true, false, not, ◌++◌, ◌&&◌, List, [], ◌∷◌, Option, Some, None, IsSome, option_and_then, refl, if◌then◌else◌}
use Rattle.std.specs.List.{AllByRecursion, flat_map}
use Rattle.std.proofs.Common.{sym, ap, subst}
use Rattle.std.proofs.lemmas.Bool.{and_parts, false≢true}
use Rattle.frp_tree.specs.declared.syntax.Ty.{Ty}
use Rattle.frp_tree.specs.declared.syntax.Ty.TheVariants.{U8, U16}
use Rattle.frp_tree.specs.declared.syntax.Ty.TheVariants as ty
use Rattle.frp_tree.specs.Limits.{is_number_type, converts_to_numbers, converts_in}
use Rattle.frp_tree.specs.Tree.{Tree, Const, Name, Unary, Binary, Shift, If, Convert, Look, ClauseTree, BehaviourTree, Plain, Input, Table, Reactive, DeclTree, OutputTree, ProgramTree}
use Rattle.efrp_meaning.specs.Decls.{decl_named, is_table}
use Rattle.efrp_meaning.specs.Types.{value_type, entry_type, type_of, type_of_table, unary_type, binary_type, shift_type, if_type, convert_type, look_type}
use Rattle.efrp_types.specs.declared.faults.CheckFault.{CheckFault}
use Rattle.efrp_types.specs.declared.faults.CheckFault.TheVariants.{TableUse, UnknownName}
use Rattle.efrp_types.specs.NameFaults.{fault_if, index_fault, use_faults, behaviour_faults, item_faults, expression_faults}
use Rattle.efrp_types.specs.Numbers.{NameLists}
use Rattle.efrp_types.specs.Ready.{IsFit, AreFit, IsReady}
use Rattle.efrp_types.proofs.ListFacts.{both, none-each}
use Rattle.efrp_types.proofs.NodeLaws.{both-none, some-fault, fault-false, no-unary, no-binary-left, no-binary-right, no-if-second, no-if-third}
use Rattle.efrp_types.proofs.TypedLaws.{each-true, clauses-used}

not-false : (b : Bool) → not b ≡ false → b ≡ true
not-false true e = refl
not-false false e = absurd (false≢true (sym e))

has-value : (x : List ℕ) (o : Option DeclTree) → ◌≡◌ {A = List CheckFault} (elim o [ Some d ↦ fault_if (is_table d.behaviour) (TableUse x) | None ↦ UnknownName x ∷ [] ]) [] → IsSome (option_and_then value_type o)
has-value x None e = absurd (some-fault _ [] e)
has-value x (Some d) e = subst (λ b. IsSome (if b then None else Some d.ty)) (sym (fault-false (is_table d.behaviour) (TableUse x) e)) refl

has-entry : (x : List ℕ) (o : Option DeclTree) → ◌≡◌ {A = List CheckFault} (elim o [ Some d ↦ fault_if (not (is_table d.behaviour)) (TableUse x) | None ↦ UnknownName x ∷ [] ]) [] → IsSome (option_and_then entry_type o)
has-entry x None e = absurd (some-fault _ [] e)
has-entry x (Some d) e =
    subst (λ b. IsSome (if b then Some d.ty else None)) (sym (not-false (is_table d.behaviour) (fault-false (not (is_table d.behaviour)) (TableUse x) e))) refl

module _ (p : ProgramTree) where
  fit : (e : Tree) → converts_to_numbers e ≡ true → use_faults p e ≡ [] → IsFit p e
  fit (Const literal) converts used = tt
  fit (Name x) converts used = has-value x (decl_named p.decls x) used
  fit (Unary op a) converts used = fit a converts used
  fit (Binary op a b) converts used =
      let k = and_parts (converts_to_numbers a) (converts_to_numbers b) converts in
      let u = both-none (use_faults p a) (use_faults p b) used in
      (fit a k.0 u.0, fit b k.1 u.1)
  fit (Shift side a amount) converts used = fit a converts used
  fit (If c a b) converts used =
      let k = and_parts (converts_to_numbers c) (converts_to_numbers a && converts_to_numbers b) converts in
      let l = and_parts (converts_to_numbers a) (converts_to_numbers b) k.1 in
      let u = both-none (use_faults p c) (use_faults p a ++ use_faults p b) used in
      let v = both-none (use_faults p a) (use_faults p b) u.1 in
      (fit c k.0 u.0, (fit a l.0 v.0, fit b l.1 v.1))
  fit (Convert to a) converts used = let k = and_parts (is_number_type to) (converts_to_numbers a) converts in (k.0, fit a k.1 used)
  fit (Look table index) converts used =
      let u = both-none (index_fault p table) (use_faults p index) used in
      (has-entry table (decl_named p.decls table) u.0, fit index converts u.1)

  behaviour-fit : (owner : List ℕ) (b : BehaviourTree) → converts_in b ≡ true → behaviour_faults p owner b ≡ [] → AreFit p b
  behaviour-fit owner (Plain e) converts used = fit e converts used
  behaviour-fit owner (Input port) converts used = tt
  behaviour-fit owner (Table entries) converts used = tt
  behaviour-fit owner (Reactive init cs) converts used =
      both (λ (c : ClauseTree). converts_to_numbers c.expr ≡ true) (λ (c : ClauseTree). use_faults p c.expr ≡ []) (λ (c : ClauseTree). IsFit p c.expr) (λ c k u. fit c.expr k u)
      cs (each-true (λ (c : ClauseTree). converts_to_numbers c.expr) cs converts) (clauses-used p owner cs used)

  pub decls-fit : {names : NameLists} → IsReady names p → AllByRecursion (λ (d : DeclTree). AreFit p d.behaviour) p.decls
  decls-fit ready =
      both (λ (d : DeclTree). converts_in d.behaviour ≡ true) (λ (d : DeclTree). behaviour_faults p d.name d.behaviour ≡ []) (λ (d : DeclTree). AreFit p d.behaviour)
      (λ d k u. behaviour-fit d.name d.behaviour k u) p.decls (each-true (λ (d : DeclTree). converts_in d.behaviour) p.decls ready.formed.written.decl_conversions)
      (none-each (λ (d : DeclTree). behaviour_faults p d.name d.behaviour) p.decls
      (both-none (flat_map (λ (d : DeclTree). behaviour_faults p d.name d.behaviour) p.decls) _ (both-none (item_faults p) (expression_faults p) ready.faultless).1).0)

  pub outputs-fit : {names : NameLists} → IsReady names p → AllByRecursion (λ (o : OutputTree). IsFit p o.expr) p.outputs
  outputs-fit ready =
      both (λ (o : OutputTree). converts_to_numbers o.expr ≡ true) (λ (o : OutputTree). use_faults p o.expr ≡ []) (λ (o : OutputTree). IsFit p o.expr)
      (λ o k u. fit o.expr k u) p.outputs (each-true (λ (o : OutputTree). converts_to_numbers o.expr) p.outputs ready.formed.written.output_conversions)
      (none-each (λ (o : OutputTree). use_faults p o.expr) p.outputs
      (both-none (flat_map (λ (d : DeclTree). behaviour_faults p d.name d.behaviour) p.decls) _ (both-none (item_faults p) (expression_faults p) ready.faultless).1).1)

-- So is an expression that has a type.
of-some : (type : Option Ty → Option Ty) → type None ≡ None → (o : Option Ty) → IsSome (type o) → IsSome o
of-some type none (Some t) there = refl
of-some type none None there = subst IsSome none there

no-table : (k : Option Ty) → look_type None k ≡ None
no-table None = refl
no-table (Some ty.Bool) = refl
no-table (Some U8) = refl
no-table (Some U16) = refl

no-bool : (k : Option Ty) → convert_type ty.Bool k ≡ None
no-bool None = refl
no-bool (Some ty.Bool) = refl
no-bool (Some U8) = refl
no-bool (Some U16) = refl

pub typed-fit : (p : ProgramTree) (e : Tree) → IsSome (type_of p e) → IsFit p e
typed-fit p (Const literal) there = tt
typed-fit p (Name x) there = there
typed-fit p (Unary op a) there = typed-fit p a (of-some (unary_type op) (no-unary op) (type_of p a) there)
typed-fit p (Binary op a b) there = (
  typed-fit p a (of-some (λ o. binary_type op o (type_of p b)) (no-binary-left op (type_of p b)) (type_of p a) there),
  typed-fit p b (of-some (binary_type op (type_of p a)) (no-binary-right op (type_of p a)) (type_of p b) there),
)
typed-fit p (Shift side a amount) there = typed-fit p a (of-some (λ o. shift_type o amount) refl (type_of p a) there)
typed-fit p (If c a b) there = (
  typed-fit p c (of-some (λ o. if_type o (type_of p a) (type_of p b)) refl (type_of p c) there),
  (
    typed-fit p a (of-some (λ o. if_type (type_of p c) o (type_of p b)) (no-if-second (type_of p c) (type_of p b)) (type_of p a) there),
    typed-fit p b (of-some (if_type (type_of p c) (type_of p a)) (no-if-third (type_of p c) (type_of p a)) (type_of p b) there),
  ),
)
typed-fit p (Convert ty.Bool a) there = absurd (false≢true (subst IsSome (no-bool (type_of p a)) there))
typed-fit p (Convert U8 a) there = (refl, typed-fit p a (of-some (convert_type U8) refl (type_of p a) there))
typed-fit p (Convert U16 a) there = (refl, typed-fit p a (of-some (convert_type U16) refl (type_of p a) there))
typed-fit p (Look table index) there = (
  of-some (λ o. look_type o (type_of p index)) (no-table (type_of p index)) (type_of_table p table) there,
  typed-fit p index (of-some (look_type (type_of_table p table)) refl (type_of p index) there),
)

pub some-result : (o : Option Ty) (r : Ty) → IsSome o → ((t : Ty) → o ≡ Some t → r ≡ t) → o ≡ Some r
some-result (Some t) r there is = ap Some (sym (is t refl))
some-result None r there is = absurd (false≢true there)
