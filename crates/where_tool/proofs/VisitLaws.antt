-- The faults that the walk meets, in order, are those of the checks.
use Rattle.std.proofs.Common.{◌≡◌, ℕ, ◌+◌, List, [], ◌∷◌, ◌++◌, refl, ap, ◌∙◌}
use Rattle.std.specs.List.{flat_map}
use Rattle.std.proofs.lemmas.Grind.{flat_map-append}
use Rattle.std.proofs.lemmas.List.{append-nil}
use Rattle.frp_tree.specs.declared.syntax.Ty.{Ty}
use Rattle.frp_tree.specs.declared.syntax.Ty.TheVariants.{U8}
use Rattle.frp_tree.specs.Limits.{nodes}
use Rattle.frp_tree.specs.Tree.{Tree, Const, Name, Unary, Binary, Shift, If, Convert, Look, ClauseTree, BehaviourTree, Plain, Input, Table, Reactive, DeclTree, OutputTree, ProgramTree}
use Rattle.efrp_types.specs.declared.faults.CheckFault.{CheckFault}
use Rattle.efrp_types.specs.NameFaults.{each_after, event_faults, setup_faults, decl_faults, output_faults, item_faults, index_fault, use_faults, clause_faults, clause_event_faults, behaviour_faults, expression_faults, name_faults}
use Rattle.efrp_types.specs.TypeFaults.{faults_in, faults_as, literal_faults, setup_byte_faults, behaviour_type_faults, type_faults}
use Rattle.where_tool.specs.declared.parts.Host.{Host}
use Rattle.where_tool.specs.declared.parts.Host.TheVariants as host
use Rattle.where_tool.specs.declared.parts.Part.TheVariants as part
use Rattle.where_tool.specs.Visits.{Visit, visit, each_visited, event_visits, setup_visits, decl_visits, output_visits, item_visits, use_visits, clause_visits, behaviour_visits, expression_visits, name_visits, type_visits, typed_visits, setup_byte_visits, entry_visits, typed_clause_visits, behaviour_type_visits, types_visits}
use Rattle.where_tool.specs.Laws.{VisitsTell}

-- The faults of visits.
abbrev pub met : List Visit → List CheckFault
met visits = flat_map (λ (v : Visit). v.faults) visits

met-both : (vs ws : List Visit) → met (vs ++ ws) ≡ met vs ++ met ws
met-both vs ws = flat_map-append (λ (v : Visit). v.faults) vs ws

-- Of two parts, and of one behind another.
met-two : (vs ws : List Visit) (fs gs : List CheckFault) → met vs ≡ fs → met ws ≡ gs → met (vs ++ ws) ≡ fs ++ gs
met-two vs ws fs gs first second = met-both vs ws ∙ ap (λ xs. xs ++ met ws) first ∙ ap (λ ys. fs ++ ys) second

-- A row whose items have these faults.
met-row : {A : Type 0} (visits : ℕ → List A → A → List Visit) (faults : List A → A → List CheckFault) → ((n : ℕ) (before : List A) (x : A) → met (visits n before x) ≡ faults before x)
    → (n : ℕ) (before xs : List A) → met (each_visited visits n before xs) ≡ each_after faults before xs
met-row visits faults each n before [] = refl
met-row visits faults each n before (x ∷ xs) =
    met-two (visits n before x) (each_visited visits (n + 1) (before ++ x ∷ []) xs) (faults before x) _ (each n before x) (met-row visits faults each (n + 1) (before ++ x ∷ []) xs)

met-each : {A : Type 0} (visits : ℕ → List A → A → List Visit) (faults : A → List CheckFault) → ((n : ℕ) (before : List A) (x : A) → met (visits n before x) ≡ faults x)
    → (n : ℕ) (before xs : List A) → met (each_visited visits n before xs) ≡ flat_map faults xs
met-each visits faults each n before [] = refl
met-each visits faults each n before (x ∷ xs) =
    met-two (visits n before x) (each_visited visits (n + 1) (before ++ x ∷ []) xs) (faults x) _ (each n before x) (met-each visits faults each (n + 1) (before ++ x ∷ []) xs)

-- Names.
met-items : (p : ProgramTree) → met (item_visits p) ≡ item_faults p
met-items p =
    met-two (each_visited event_visits 0 [] p.events) _ (each_after event_faults [] p.events) _
    (met-row event_visits event_faults (λ n before e. append-nil (event_faults before e)) 0 [] p.events)
    (met-two (each_visited setup_visits 0 [] p.setups) _ (flat_map setup_faults p.setups) _
    (met-each setup_visits setup_faults (λ n before s. append-nil (setup_faults s)) 0 [] p.setups)
    (met-two (each_visited (decl_visits p.events) 0 [] p.decls) _ (each_after (decl_faults p.events) [] p.decls) _
    (met-row (decl_visits p.events) (decl_faults p.events) (λ n before d. append-nil (decl_faults p.events before d)) 0 [] p.decls)
    (met-row output_visits output_faults (λ n before o. append-nil (output_faults before o)) 0 [] p.outputs)))

module _ (p : ProgramTree) where
  met-uses : (h : Host) (n : ℕ) (e : Tree) → met (use_visits p h n e) ≡ use_faults p e
  met-uses h n (Const literal) = refl
  met-uses h n (Name x) = append-nil _
  met-uses h n (Unary op a) = met-uses h (n + 1) a
  met-uses h n (Binary op a b) = met-two (use_visits p h n a) (use_visits p h (n + nodes a + 1) b) (use_faults p a) (use_faults p b) (met-uses h n a) (met-uses h (n + nodes a + 1) b)
  met-uses h n (Shift side a amount) = met-uses h n a
  met-uses h n (If c a b) =
      met-two (use_visits p h (n + 1) c) _ (use_faults p c) _ (met-uses h (n + 1) c)
      (met-two (use_visits p h (n + 1 + nodes c) a) _ (use_faults p a) (use_faults p b) (met-uses h (n + 1 + nodes c) a) (met-uses h (n + 1 + nodes c + nodes a) b))
  met-uses h n (Convert to a) = met-uses h (n + 1) a
  met-uses h n (Look table index) = met-two (visit (part.Node h n) (index_fault p table)) (use_visits p h (n + 1) index) (index_fault p table) (use_faults p index) (append-nil (index_fault p table)) (met-uses h (n + 1) index)

  met-clause : (owner : List ℕ) (decl n : ℕ) (before : List ClauseTree) (c : ClauseTree) → met (clause_visits p owner decl n before c) ≡ clause_faults p owner before c
  met-clause owner decl n before c =
      met-two (visit (part.Clause decl n) (clause_event_faults p owner before c)) (use_visits p (host.Clause decl n) 0 c.expr) (clause_event_faults p owner before c) (use_faults p c.expr)
      (append-nil (clause_event_faults p owner before c)) (met-uses (host.Clause decl n) 0 c.expr)

  met-behaviour : (owner : List ℕ) (decl : ℕ) (b : BehaviourTree) → met (behaviour_visits p owner decl b) ≡ behaviour_faults p owner b
  met-behaviour owner decl (Plain e) = met-uses (host.Decl decl) 0 e
  met-behaviour owner decl (Input port) = refl
  met-behaviour owner decl (Table entries) = refl
  met-behaviour owner decl (Reactive init clauses) = met-row (clause_visits p owner decl) (clause_faults p owner) (met-clause owner decl) 0 [] clauses

  met-expressions : met (expression_visits p) ≡ expression_faults p
  met-expressions =
      met-two (each_visited (λ n before (d : DeclTree). behaviour_visits p d.name n d.behaviour) 0 [] p.decls) _ (flat_map (λ (d : DeclTree). behaviour_faults p d.name d.behaviour) p.decls) _
      (met-each (λ n before (d : DeclTree). behaviour_visits p d.name n d.behaviour) (λ (d : DeclTree). behaviour_faults p d.name d.behaviour) (λ n before d. met-behaviour d.name n d.behaviour) 0 [] p.decls)
      (met-each (λ n before (o : OutputTree). use_visits p (host.Output n) 0 o.expr) (λ (o : OutputTree). use_faults p o.expr) (λ n before o. met-uses (host.Output n) 0 o.expr) 0 [] p.outputs)

  pub met-names : met (name_visits p) ≡ name_faults p
  met-names = met-two (item_visits p) (expression_visits p) (item_faults p) (expression_faults p) (met-items p) met-expressions

  -- Types.
  met-types-in : (owner : List ℕ) (h : Host) (n : ℕ) (e : Tree) → met (type_visits p owner h n e) ≡ faults_in p owner e
  met-types-in owner h n (Const literal) = append-nil (faults_in p owner (Const literal))
  met-types-in owner h n (Name x) = refl
  met-types-in owner h n (Unary op a) = met-two (type_visits p owner h (n + 1) a) (visit _ _) (faults_in p owner a) _ (met-types-in owner h (n + 1) a) (append-nil _)
  met-types-in owner h n (Binary op a b) =
      met-two (type_visits p owner h n a) _ (faults_in p owner a) _ (met-types-in owner h n a)
      (met-two (type_visits p owner h (n + nodes a + 1) b) (visit _ _) (faults_in p owner b) _ (met-types-in owner h (n + nodes a + 1) b) (append-nil _))
  met-types-in owner h n (Shift side a amount) = met-two (type_visits p owner h n a) (visit _ _) (faults_in p owner a) _ (met-types-in owner h n a) (append-nil _)
  met-types-in owner h n (If c a b) =
      met-two (type_visits p owner h (n + 1) c) _ (faults_in p owner c) _ (met-types-in owner h (n + 1) c)
      (met-two (type_visits p owner h (n + 1 + nodes c) a) _ (faults_in p owner a) _ (met-types-in owner h (n + 1 + nodes c) a)
      (met-two (type_visits p owner h (n + 1 + nodes c + nodes a) b) (visit _ _) (faults_in p owner b) _ (met-types-in owner h (n + 1 + nodes c + nodes a) b) (append-nil _)))
  met-types-in owner h n (Convert to a) = met-two (type_visits p owner h (n + 1) a) (visit _ _) (faults_in p owner a) _ (met-types-in owner h (n + 1) a) (append-nil _)
  met-types-in owner h n (Look table index) = met-two (type_visits p owner h (n + 1) index) (visit _ _) (faults_in p owner index) _ (met-types-in owner h (n + 1) index) (append-nil _)

  met-typed : (owner : List ℕ) (h : Host) (wanted : Ty) (e : Tree) → met (typed_visits p owner h wanted e) ≡ faults_as p owner wanted e
  met-typed owner h wanted e = met-two (type_visits p owner h 0 e) (visit _ _) (faults_in p owner e) _ (met-types-in owner h 0 e) (append-nil _)

  met-behaviour-types : (owner : List ℕ) (t : Ty) (decl : ℕ) (b : BehaviourTree) → met (behaviour_type_visits p owner t decl b) ≡ behaviour_type_faults p owner t b
  met-behaviour-types owner t decl (Plain e) = met-typed owner (host.Decl decl) t e
  met-behaviour-types owner t decl (Input port) = append-nil _
  met-behaviour-types owner t decl (Table entries) = met-each (entry_visits p owner t decl) (literal_faults p owner t) (λ n before l. append-nil (literal_faults p owner t l)) 0 [] entries
  met-behaviour-types owner t decl (Reactive init clauses) =
      met-two (visit (part.Decl decl) (literal_faults p owner t init)) (each_visited (typed_clause_visits p owner t decl) 0 [] clauses) (literal_faults p owner t init) (flat_map (λ (c : ClauseTree). faults_as p owner t c.expr) clauses) (append-nil (literal_faults p owner t init))
      (met-each (typed_clause_visits p owner t decl) (λ (c : ClauseTree). faults_as p owner t c.expr) (λ n before c. met-typed owner (host.Clause decl n) t c.expr) 0 [] clauses)

  pub met-types : met (types_visits p) ≡ type_faults p
  met-types =
      met-two (each_visited setup_byte_visits 0 [] p.setups) _ (flat_map setup_byte_faults p.setups) _
      (met-each setup_byte_visits setup_byte_faults (λ n before s. append-nil (setup_byte_faults s)) 0 [] p.setups)
      (met-two (each_visited (λ n before (d : DeclTree). behaviour_type_visits p d.name d.ty n d.behaviour) 0 [] p.decls) _ (flat_map (λ (d : DeclTree). behaviour_type_faults p d.name d.ty d.behaviour) p.decls) _
      (met-each (λ n before (d : DeclTree). behaviour_type_visits p d.name d.ty n d.behaviour) (λ (d : DeclTree). behaviour_type_faults p d.name d.ty d.behaviour) (λ n before d. met-behaviour-types d.name d.ty n d.behaviour) 0 [] p.decls)
      (met-each (λ n before (o : OutputTree). typed_visits p o.port (host.Output n) U8 o.expr) (λ (o : OutputTree). faults_as p o.port U8 o.expr) (λ n before o. met-typed o.port (host.Output n) U8 o.expr) 0 [] p.outputs))

-- Both.
pub visits-tell : (p : ProgramTree) → VisitsTell p
visits-tell p = met-two (name_visits p) (types_visits p) (name_faults p) (type_faults p) (met-names p) (met-types p)
