-- Where the names of an expression have no fault, its types have none exactly where it has a type; and so of definitions,
-- outputs and programs.
use Rattle.std.specs.Prelude.{◌≡◌, ℕ, ◌<◌, Bool, true, false, not, nat_lt, ◌&&◌, List, [], ◌∷◌, ◌++◌, length, Option, Some, None, option_and_then, refl, if◌then◌else◌}
use Rattle.std.specs.List.{AllByRecursion, flat_map, list_all}
use Rattle.std.proofs.Common.{sym, ap, ◌∙◌, arith, ltb-true}
use Rattle.std.proofs.lemmas.Option.{none-some}
use Rattle.std.proofs.lemmas.Bool.{and_parts, false≢true}
use Rattle.frp_tree.specs.declared.syntax.Ty.{Ty}
use Rattle.frp_tree.specs.declared.syntax.Ty.TheVariants.{U8, U16}
use Rattle.frp_tree.specs.declared.syntax.Ty.TheVariants as ty
use Rattle.frp_tree.specs.declared.syntax.Lit.{Lit}
use Rattle.frp_tree.specs.declared.syntax.Setup.{Setup}
use Rattle.frp_tree.specs.Limits.{converts_to_numbers, converts_in}
use Rattle.frp_tree.specs.Tree.{Tree, Const, Name, Unary, Binary, Shift, If, Convert, Look, ClauseTree, BehaviourTree, Plain, Input, Table, Reactive, DeclTree, OutputTree, ProgramTree}
use Rattle.efrp_meaning.specs.Decls.{decl_named, is_table}
use Rattle.efrp_meaning.specs.Types.{literal_type, same_type, type_of, type_of_table, value_type, entry_type, unary_type, binary_type, shift_type, if_type, convert_type, look_type, IsTypedAs}
use Rattle.efrp_types.specs.declared.faults.CheckFault.{CheckFault}
use Rattle.efrp_types.specs.declared.faults.CheckFault.TheVariants.{LiteralRange, TypeOf, TableUse, UnknownName}
use Rattle.efrp_types.specs.NameFaults.{fault_if, index_fault, use_faults, item_faults, expression_faults, behaviour_faults, clause_event_faults, clause_faults, each_after}
use Rattle.efrp_types.specs.TypeFaults.{unlike, unary_faults, binary_faults, shift_faults, convert_faults, node_of_one, faults_in, faults_as, literal_faults, setup_byte_faults, behaviour_type_faults}
use Rattle.efrp_types.specs.Laws.{has_entries, NoFaultIsTyped, TypedHasNoFault}
use Rattle.efrp_types.proofs.NodeLaws.{Agrees, some-fault, both-none, none-of-both, fault-false, false-no-fault, agrees-of-one, agrees-of-two, agrees-of-three, unary-agrees, no-unary, binary-agrees, no-binary-left, no-binary-right, shift-agrees, if-agrees, no-if-first, no-if-second, no-if-third, to-u8-agrees, to-u16-agrees, look-agrees, same-is, same-self}
use Rattle.efrp_types.proofs.ListFacts.{none-after}

module _ (p : ProgramTree) where
  literal-agrees : (owner : List ℕ) (o : Option Ty) → Agrees (elim o [ Some t ↦ [] | None ↦ LiteralRange owner ∷ [] ]) o
  literal-agrees owner None = some-fault _ []
  literal-agrees owner (Some t) = refl

  name-agrees : (x : List ℕ) (o : Option DeclTree) → ◌≡◌ {A = List CheckFault} (elim o [ Some d ↦ fault_if (is_table d.behaviour) (TableUse x) | None ↦ UnknownName x ∷ [] ]) [] → Agrees [] (option_and_then value_type o)
  name-agrees x None e = absurd (some-fault _ [] e)
  name-agrees x (Some d) e = rw (fault-false (is_table d.behaviour) (TableUse x) e) refl

  abbrev HasType : Option Ty → Type 0
  HasType o = (t : Ty) × (o ≡ Some t)

  not-false : (b : Bool) → not b ≡ false → b ≡ true
  not-false true e = refl
  not-false false e = absurd (false≢true (sym e))

  table-typed : (x : List ℕ) (o : Option DeclTree) → ◌≡◌ {A = List CheckFault} (elim o [ Some d ↦ fault_if (not (is_table d.behaviour)) (TableUse x) | None ↦ UnknownName x ∷ [] ]) [] → HasType (option_and_then entry_type o)
  table-typed x None e = absurd (some-fault _ [] e)
  table-typed x (Some d) e =
      let h = not-false (is_table d.behaviour) (fault-false (not (is_table d.behaviour)) (TableUse x) e) in
      (d.ty, ap (λ b. if b then Some d.ty else None) h)

  look-typed : (owner : List ℕ) (o : Option Ty) → HasType o → (xs : List CheckFault) (k : Option Ty) → Agrees xs k → Agrees (xs ++ node_of_one (unlike owner U8) k) (look_type o k)
  look-typed owner o has xs k agrees =
      rw has.1 (agrees-of-one (unlike owner U8) (look_type (Some has.0)) refl (look-agrees owner has.0) xs k agrees)

  pub agrees : (owner : List ℕ) (e : Tree) → converts_to_numbers e ≡ true → use_faults p e ≡ [] → Agrees (faults_in p owner e) (type_of p e)
  agrees owner (Const literal) converts used = literal-agrees owner (literal_type literal)
  agrees owner (Name x) converts used = name-agrees x (decl_named p.decls x) used
  agrees owner (Unary op a) converts used =
      agrees-of-one (unary_faults owner op) (unary_type op) (no-unary op) (unary-agrees owner op) (faults_in p owner a) (type_of p a) (agrees owner a converts used)
  agrees owner (Binary op a b) converts used =
      let c = and_parts (converts_to_numbers a) (converts_to_numbers b) converts in
      let u = both-none (use_faults p a) (use_faults p b) used in
      agrees-of-two (binary_faults owner op) (binary_type op) (no-binary-left op) (no-binary-right op) (binary-agrees owner op)
      (faults_in p owner a) (type_of p a) (agrees owner a c.0 u.0) (faults_in p owner b) (type_of p b) (agrees owner b c.1 u.1)
  agrees owner (Shift side a amount) converts used =
      agrees-of-one (shift_faults owner amount) (λ o. shift_type o amount) refl (shift-agrees owner amount) (faults_in p owner a) (type_of p a) (agrees owner a converts used)
  agrees owner (If c a b) converts used =
      let d = and_parts (converts_to_numbers c) (converts_to_numbers a && converts_to_numbers b) converts in
      let k = and_parts (converts_to_numbers a) (converts_to_numbers b) d.1 in
      let u = both-none (use_faults p c) (use_faults p a ++ use_faults p b) used in
      let v = both-none (use_faults p a) (use_faults p b) u.1 in
      agrees-of-three (λ tc ta tb. unlike owner ty.Bool tc ++ unlike owner ta tb) if_type no-if-first no-if-second no-if-third (if-agrees owner)
      (faults_in p owner c) (type_of p c) (agrees owner c d.0 u.0) (faults_in p owner a) (type_of p a) (agrees owner a k.0 v.0) (faults_in p owner b) (type_of p b) (agrees owner b k.1 v.1)
  agrees owner (Convert ty.Bool a) converts used = absurd (false≢true converts)
  agrees owner (Convert U8 a) converts used =
      agrees-of-one (convert_faults owner U8) (convert_type U8) refl (to-u8-agrees owner) (faults_in p owner a) (type_of p a) (agrees owner a converts used)
  agrees owner (Convert U16 a) converts used =
      agrees-of-one (convert_faults owner U16) (convert_type U16) refl (to-u16-agrees owner) (faults_in p owner a) (type_of p a) (agrees owner a converts used)
  agrees owner (Look table index) converts used =
      let u = both-none (index_fault p table) (use_faults p index) used in
      look-typed owner (type_of_table p table) (table-typed table (decl_named p.decls table) u.0) (faults_in p owner index) (type_of p index) (agrees owner index converts u.1)

  -- An expression of which a type is wanted.
  wanted-found : (owner : List ℕ) (wanted : Ty) (xs : List CheckFault) (o : Option Ty) → Agrees xs o → xs ++ node_of_one (unlike owner wanted) o ≡ [] → o ≡ Some wanted
  wanted-found owner wanted xs None known e = absurd (known (both-none xs [] e).0)
  wanted-found owner wanted xs (Some t) known e =
      let h = fault-false (not (same_type wanted t)) (TypeOf owner wanted t) (both-none xs (unlike owner wanted t) e).1 in
      ap Some (sym (same-is wanted t (not-false (same_type wanted t) h)))

  is-type : (t wanted : Ty) → Some t ≡ Some wanted → t ≡ wanted
  is-type t wanted e = ap (λ o. elim o [ Some k ↦ k | None ↦ t ]) e

  found-wanted : (owner : List ℕ) (wanted : Ty) (xs : List CheckFault) (o : Option Ty) → Agrees xs o → o ≡ Some wanted → xs ++ node_of_one (unlike owner wanted) o ≡ []
  found-wanted owner wanted xs None known e = absurd (none-some wanted e)
  found-wanted owner wanted xs (Some t) known e =
      none-of-both xs (unlike owner wanted t) known (false-no-fault (not (same_type wanted t)) (TypeOf owner wanted t) (ap (λ k. not (same_type wanted k)) (is-type t wanted e) ∙ ap not (same-self wanted)))

  typed-as : (owner : List ℕ) (t : Ty) (e : Tree) → converts_to_numbers e ≡ true → use_faults p e ≡ [] → faults_as p owner t e ≡ [] → type_of p e ≡ Some t
  typed-as owner t e converts used none = wanted-found owner t (faults_in p owner e) (type_of p e) (agrees owner e converts used) none

  as-typed : (owner : List ℕ) (t : Ty) (e : Tree) → converts_to_numbers e ≡ true → use_faults p e ≡ [] → type_of p e ≡ Some t → faults_as p owner t e ≡ []
  as-typed owner t e converts used its = found-wanted owner t (faults_in p owner e) (type_of p e) (agrees owner e converts used) its

  -- A literal, as a first value and as an entry.
  literal-typed : (owner : List ℕ) (t : Ty) (literal : Lit) → literal_faults p owner t literal ≡ [] → literal_type literal ≡ Some t
  literal-typed owner t literal none = typed-as owner t (Const literal) refl refl none

  typed-literal : (owner : List ℕ) (t : Ty) (literal : Lit) → literal_type literal ≡ Some t → literal_faults p owner t literal ≡ []
  typed-literal owner t literal its = as-typed owner t (Const literal) refl refl its

  literals-typed : (owner : List ℕ) (t : Ty) (ls : List Lit) → flat_map (literal_faults p owner t) ls ≡ [] → AllByRecursion (λ (l : Lit). literal_type l ≡ Some t) ls
  literals-typed owner t [] none = tt
  literals-typed owner t (l ∷ ls) none =
      let n = both-none (literal_faults p owner t l) (flat_map (literal_faults p owner t) ls) none in
      (literal-typed owner t l n.0, literals-typed owner t ls n.1)

  typed-literals : (owner : List ℕ) (t : Ty) (ls : List Lit) → AllByRecursion (λ (l : Lit). literal_type l ≡ Some t) ls → flat_map (literal_faults p owner t) ls ≡ []
  typed-literals owner t [] its = refl
  typed-literals owner t (l ∷ ls) its = none-of-both (literal_faults p owner t l) (flat_map (literal_faults p owner t) ls) (typed-literal owner t l its.0) (typed-literals owner t ls its.1)

  -- The clauses of a definition.
  clause-uses : (owner : List ℕ) (before : List ClauseTree) (c : ClauseTree) → clause_faults p owner before c ≡ [] → use_faults p c.expr ≡ []
  clause-uses owner before c none = (both-none (clause_event_faults p owner before c) (use_faults p c.expr) none).1

  clauses-typed : (owner : List ℕ) (t : Ty) (cs : List ClauseTree) → list_all (λ c. converts_to_numbers c.expr) cs ≡ true → AllByRecursion (λ (c : ClauseTree). use_faults p c.expr ≡ []) cs
      → flat_map (λ (c : ClauseTree). faults_as p owner t c.expr) cs ≡ [] → AllByRecursion (λ (c : ClauseTree). type_of p c.expr ≡ Some t) cs
  clauses-typed owner t [] converts used none = tt
  clauses-typed owner t (c ∷ cs) converts used none =
      let k = and_parts _ _ converts in
      let n = both-none (faults_as p owner t c.expr) _ none in
      (typed-as owner t c.expr k.0 used.0 n.0, clauses-typed owner t cs k.1 used.1 n.1)

  typed-clauses : (owner : List ℕ) (t : Ty) (cs : List ClauseTree) → list_all (λ c. converts_to_numbers c.expr) cs ≡ true → AllByRecursion (λ (c : ClauseTree). use_faults p c.expr ≡ []) cs
      → AllByRecursion (λ (c : ClauseTree). type_of p c.expr ≡ Some t) cs → flat_map (λ (c : ClauseTree). faults_as p owner t c.expr) cs ≡ []
  typed-clauses owner t [] converts used its = refl
  typed-clauses owner t (c ∷ cs) converts used its =
      let k = and_parts _ _ converts in
      none-of-both (faults_as p owner t c.expr) _ (as-typed owner t c.expr k.0 used.0 its.0) (typed-clauses owner t cs k.1 used.1 its.1)

  pub clauses-used : (owner : List ℕ) (cs : List ClauseTree) → each_after (clause_faults p owner) [] cs ≡ [] → AllByRecursion (λ (c : ClauseTree). use_faults p c.expr ≡ []) cs
  clauses-used owner cs none = none-after (clause_faults p owner) (λ c. use_faults p c.expr ≡ []) (clause-uses owner) [] cs none

  -- A definition.
  behaviour-typed : (owner : List ℕ) (t : Ty) (b : BehaviourTree) → converts_in b ≡ true → has_entries b ≡ true → behaviour_faults p owner b ≡ [] → behaviour_type_faults p owner t b ≡ [] → IsTypedAs p t b
  behaviour-typed owner t (Plain e) converts entries used none = typed-as owner t e converts used none
  behaviour-typed owner t (Input port) converts entries used none = same-is t U8 (not-false (same_type t U8) (fault-false (not (same_type t U8)) (TypeOf owner t U8) none))
  behaviour-typed owner t (Table ls) converts entries used none = (ltb-true 0 (length ls) entries, literals-typed owner t ls none)
  behaviour-typed owner t (Reactive init cs) converts entries used none =
      let n = both-none (literal_faults p owner t init) _ none in
      (literal-typed owner t init n.0, clauses-typed owner t cs converts (clauses-used owner cs used) n.1)

  typed-behaviour : (owner : List ℕ) (t : Ty) (b : BehaviourTree) → converts_in b ≡ true → behaviour_faults p owner b ≡ [] → IsTypedAs p t b → behaviour_type_faults p owner t b ≡ []
  typed-behaviour owner t (Plain e) converts used its = as-typed owner t e converts used its
  typed-behaviour owner t (Input port) converts used its = false-no-fault (not (same_type t U8)) (TypeOf owner t U8) (ap (λ k. not (same_type k U8)) its)
  typed-behaviour owner t (Table ls) converts used its = typed-literals owner t ls its.1
  typed-behaviour owner t (Reactive init cs) converts used its =
      none-of-both (literal_faults p owner t init) _ (typed-literal owner t init its.0) (typed-clauses owner t cs converts (clauses-used owner cs used) its.1)

  decls-typed : (ds : List DeclTree) → AllByRecursion (λ (d : DeclTree). converts_in d.behaviour ≡ true) ds → AllByRecursion (λ (d : DeclTree). has_entries d.behaviour ≡ true) ds
      → flat_map (λ (d : DeclTree). behaviour_faults p d.name d.behaviour) ds ≡ [] → flat_map (λ (d : DeclTree). behaviour_type_faults p d.name d.ty d.behaviour) ds ≡ []
      → AllByRecursion (λ (d : DeclTree). IsTypedAs p d.ty d.behaviour) ds
  decls-typed [] converts entries used none = tt
  decls-typed (d ∷ ds) converts entries used none =
      let u = both-none (behaviour_faults p d.name d.behaviour) _ used in
      let n = both-none (behaviour_type_faults p d.name d.ty d.behaviour) _ none in
      (behaviour-typed d.name d.ty d.behaviour converts.0 entries.0 u.0 n.0, decls-typed ds converts.1 entries.1 u.1 n.1)

  typed-decls : (ds : List DeclTree) → AllByRecursion (λ (d : DeclTree). converts_in d.behaviour ≡ true) ds
      → flat_map (λ (d : DeclTree). behaviour_faults p d.name d.behaviour) ds ≡ [] → AllByRecursion (λ (d : DeclTree). IsTypedAs p d.ty d.behaviour) ds
      → flat_map (λ (d : DeclTree). behaviour_type_faults p d.name d.ty d.behaviour) ds ≡ []
  typed-decls [] converts used its = refl
  typed-decls (d ∷ ds) converts used its =
      let u = both-none (behaviour_faults p d.name d.behaviour) _ used in
      none-of-both (behaviour_type_faults p d.name d.ty d.behaviour) _ (typed-behaviour d.name d.ty d.behaviour converts.0 u.0 its.0) (typed-decls ds converts.1 u.1 its.1)

  outputs-typed : (os : List OutputTree) → AllByRecursion (λ (o : OutputTree). converts_to_numbers o.expr ≡ true) os → flat_map (λ (o : OutputTree). use_faults p o.expr) os ≡ []
      → flat_map (λ (o : OutputTree). faults_as p o.port U8 o.expr) os ≡ [] → AllByRecursion (λ (o : OutputTree). type_of p o.expr ≡ Some U8) os
  outputs-typed [] converts used none = tt
  outputs-typed (o ∷ os) converts used none =
      let u = both-none (use_faults p o.expr) _ used in
      let n = both-none (faults_as p o.port U8 o.expr) _ none in
      (typed-as o.port U8 o.expr converts.0 u.0 n.0, outputs-typed os converts.1 u.1 n.1)

  typed-outputs : (os : List OutputTree) → AllByRecursion (λ (o : OutputTree). converts_to_numbers o.expr ≡ true) os → flat_map (λ (o : OutputTree). use_faults p o.expr) os ≡ []
      → AllByRecursion (λ (o : OutputTree). type_of p o.expr ≡ Some U8) os → flat_map (λ (o : OutputTree). faults_as p o.port U8 o.expr) os ≡ []
  typed-outputs [] converts used its = refl
  typed-outputs (o ∷ os) converts used its =
      let u = both-none (use_faults p o.expr) _ used in
      none-of-both (faults_as p o.port U8 o.expr) _ (as-typed o.port U8 o.expr converts.0 u.0 its.0) (typed-outputs os converts.1 u.1 its.1)

  setups-bytes : (ss : List Setup) → flat_map setup_byte_faults ss ≡ [] → AllByRecursion (λ (s : Setup). s.byte < 256) ss
  setups-bytes [] none = tt
  setups-bytes (s ∷ ss) none =
      let n = both-none (setup_byte_faults s) (flat_map setup_byte_faults ss) none in
      let h = fault-false (nat_lt 255 s.byte) (LiteralRange s.register) n.0 in
      (grind (arith, h), setups-bytes ss n.1)

  bytes-setups : (ss : List Setup) → AllByRecursion (λ (s : Setup). s.byte < 256) ss → flat_map setup_byte_faults ss ≡ []
  bytes-setups [] its = refl
  bytes-setups (s ∷ ss) its =
      let h = its.0 in
      none-of-both (setup_byte_faults s) (flat_map setup_byte_faults ss) (false-no-fault (nat_lt 255 s.byte) (LiteralRange s.register) (grind (arith, h))) (bytes-setups ss its.1)

pub each-true : {A : Type 0} (test : A → Bool) (xs : List A) → list_all test xs ≡ true → AllByRecursion (λ x. test x ≡ true) xs
each-true test [] all = tt
each-true test (x ∷ xs) all = let k = and_parts (test x) (list_all test xs) all in (k.0, each-true test xs k.1)

pub no-fault-is-typed : (p : ProgramTree) → NoFaultIsTyped p
no-fault-is-typed p formed names none =
    let used = both-none (flat_map (λ (d : DeclTree). behaviour_faults p d.name d.behaviour) p.decls) _ (both-none (item_faults p) (expression_faults p) names).1 in
    let first = both-none (flat_map setup_byte_faults p.setups) _ none in
    let second = both-none (flat_map (λ (d : DeclTree). behaviour_type_faults p d.name d.ty d.behaviour) p.decls) _ first.1 in (
      record {
        decls = decls-typed p p.decls (each-true _ p.decls formed.written.decl_conversions) (each-true _ p.decls formed.entries) used.0 second.0;
        outputs = outputs-typed p p.outputs (each-true _ p.outputs formed.written.output_conversions) used.1 second.1;
      },
      setups-bytes p p.setups first.0,
    )

pub typed-has-no-fault : (p : ProgramTree) → TypedHasNoFault p
typed-has-no-fault p formed names its =
    let used = both-none (flat_map (λ (d : DeclTree). behaviour_faults p d.name d.behaviour) p.decls) _ (both-none (item_faults p) (expression_faults p) names).1 in
    none-of-both _ _ (bytes-setups p p.setups its.1)
    (none-of-both _ _ (typed-decls p p.decls (each-true _ p.decls formed.written.decl_conversions) used.0 its.0.decls) (typed-outputs p p.outputs (each-true _ p.outputs formed.written.output_conversions) used.1 its.0.outputs))
