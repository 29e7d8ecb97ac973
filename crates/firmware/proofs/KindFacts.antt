-- The test of each definition tells that a program has no input and no table.
use Rattle.std.specs.Prelude.{◌≡◌, ◌↔◌, map, Bool, true, false, List, [], ◌∷◌, filter, IsTrue, if◌then◌else◌}
use Rattle.std.specs.List.{list_all}
use Rattle.std.proofs.Common.{ap, refl, sym, ◌∙◌}
use Rattle.std.proofs.lemmas.Bool.{and_from, and_parts, false≢true}
use Rattle.std.proofs.lemmas.List.Folds.{list_all-map}
use Rattle.frp_tree.specs.declared.syntax.Decl.{Decl}
use Rattle.frp_tree.specs.Tree.{BehaviourTree, Plain, Input, Table, Reactive, DeclTree, ProgramTree, behaviour_of, decl_of}
use Rattle.efrp_meaning.specs.Decls.{is_input, is_table}
use Rattle.firmware.specs.Builds.{HasCode}
use Rattle.firmware.specs.Kinds.{is_coded}

no-input : (b : BehaviourTree) → is_coded b ≡ true → is_input b ≡ false
no-input (Plain e) h = refl
no-input (Input port) h = absurd (false≢true h)
no-input (Table entries) h = refl
no-input (Reactive init clauses) h = refl

no-table : (b : BehaviourTree) → is_coded b ≡ true → is_table b ≡ false
no-table (Plain e) h = refl
no-table (Input port) h = refl
no-table (Table entries) h = absurd (false≢true h)
no-table (Reactive init clauses) h = refl

coded : (b : BehaviourTree) → is_input b ≡ false → is_table b ≡ false → is_coded b ≡ true
coded (Plain e) i t = refl
coded (Input port) i t = absurd (false≢true (sym i))
coded (Table entries) i t = absurd (false≢true (sym t))
coded (Reactive init clauses) i t = refl

-- Nothing is kept of a list of which each item fails the test, and each fails of one of which nothing is kept.
none-kept : {A : Type 0} (good test : A → Bool) → ((x : A) → good x ≡ true → test x ≡ false) → (xs : List A) → list_all good xs ≡ true → filter test xs ≡ []
none-kept good test fails [] h = refl
none-kept good test fails (x ∷ xs) h =
    let k = and_parts (good x) (list_all good xs) h in
    ap (λ b. if b then x ∷ filter test xs else filter test xs) (fails x k.0) ∙ none-kept good test fails xs k.1

pub fails-first : {A : Type 0} (x : A) (rest : List A) (b : Bool) → (if b then x ∷ rest else rest) ≡ [] → (b ≡ false) × (rest ≡ [])
fails-first x rest true h = absurd cc
fails-first x rest false h = (refl, h)

all-coded : (ds : List DeclTree) → filter (λ d. is_input d.behaviour) ds ≡ [] → filter (λ d. is_table d.behaviour) ds ≡ [] → list_all (λ (d : DeclTree). is_coded d.behaviour) ds ≡ true
all-coded [] i t = refl
all-coded (d ∷ ds) i t =
    let input = fails-first d (filter (λ d. is_input d.behaviour) ds) (is_input d.behaviour) i in
    let table = fails-first d (filter (λ d. is_table d.behaviour) ds) (is_table d.behaviour) t in
    and_from (is_coded d.behaviour) (list_all (λ (d : DeclTree). is_coded d.behaviour) ds) (coded d.behaviour input.0 table.0) (all-coded ds input.1 table.1)

pub program-tells : (p : ProgramTree) (ds : List Decl) (b : Bool) → p.decls ≡ map decl_of ds → b ≡ list_all (λ (d : Decl). is_coded (behaviour_of d.behaviour)) ds → IsTrue b ↔ HasCode p
program-tells p ds b decls is =
    let tested : b ≡ list_all (λ (d : DeclTree). is_coded d.behaviour) p.decls =
    is ∙ sym (list_all-map (λ (d : DeclTree). is_coded d.behaviour) decl_of ds) ∙ ap (list_all (λ (d : DeclTree). is_coded d.behaviour)) (sym decls) in (
      (λ yes.
          let all = sym tested ∙ yes in record {
            no_inputs = none-kept (λ (d : DeclTree). is_coded d.behaviour) (λ (d : DeclTree). is_input d.behaviour) (λ d h. no-input d.behaviour h) p.decls all;
            no_tables = none-kept (λ (d : DeclTree). is_coded d.behaviour) (λ (d : DeclTree). is_table d.behaviour) (λ d h. no-table d.behaviour h) p.decls all;
          }),
      λ has. tested ∙ all-coded p.decls has.no_inputs has.no_tables,
    )
