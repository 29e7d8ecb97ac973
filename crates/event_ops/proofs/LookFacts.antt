-- The tests for look-ups tell exactly that there is none.
use Rattle.std.specs.Prelude.{◌≡◌, ◌↔◌, map, Bool, true, ◌&&◌, List, [], ◌∷◌, IsTrue}
use Rattle.std.specs.List.{AllByRecursion, list_all}
use Rattle.std.proofs.Common.{ap, refl, sym, ◌∙◌}
use Rattle.std.proofs.lemmas.Bool.{and_from, and_parts, false≢true}
use Rattle.std.proofs.lemmas.List.Folds.{list_all-map}
use Rattle.frp_tree.specs.declared.syntax.Decl.{Decl}
use Rattle.frp_tree.specs.declared.syntax.Output.{Output}
use Rattle.frp_tree.specs.Tree.{Tree, Const, Name, Unary, Binary, Shift, If, Convert, Look, ClauseTree, BehaviourTree, Plain, Input, Table, Reactive, DeclTree, OutputTree, ProgramTree, behaviour_of, decl_of, output_of, tree_of}
use Rattle.expr_lower.specs.Lowered.{HasNoLook}
use Rattle.event_ops.specs.Looks.{looks_nowhere, no_look_in}
use Rattle.event_ops.specs.Works.{HasNoLooks, LookNowhere}

tested : (e : Tree) → looks_nowhere e ≡ true → HasNoLook e
tested (Const literal) h = tt
tested (Name x) h = tt
tested (Unary op a) h = tested a h
tested (Binary op a b) h = let k = and_parts (looks_nowhere a) (looks_nowhere b) h in (tested a k.0, tested b k.1)
tested (Shift side a amount) h = tested a h
tested (If c a b) h =
    let k = and_parts (looks_nowhere c) (looks_nowhere a && looks_nowhere b) h in
    let l = and_parts (looks_nowhere a) (looks_nowhere b) k.1 in
    (tested c k.0, tested a l.0, tested b l.1)
tested (Convert to a) h = tested a h
tested (Look table index) h = absurd (false≢true h)

tests : (e : Tree) → HasNoLook e → looks_nowhere e ≡ true
tests (Const literal) h = refl
tests (Name x) h = refl
tests (Unary op a) h = tests a h
tests (Binary op a b) h = and_from (looks_nowhere a) (looks_nowhere b) (tests a h.0) (tests b h.1)
tests (Shift side a amount) h = tests a h
tests (If c a b) h =
    and_from (looks_nowhere c) (looks_nowhere a && looks_nowhere b) (tests c h.0) (and_from (looks_nowhere a) (looks_nowhere b) (tests a h.1) (tests b h.2))
tests (Convert to a) h = tests a h
tests (Look table index) h = absurd h

-- What a test tells of each item of a list.
all-tested : {A : Type 0} (test : A → Bool) (P : A → Type 0) → ((x : A) → test x ≡ true → P x) → (xs : List A) → list_all test xs ≡ true → AllByRecursion P xs
all-tested test P tells [] h = tt
all-tested test P tells (x ∷ xs) h = let k = and_parts (test x) (list_all test xs) h in (tells x k.0, all-tested test P tells xs k.1)

all-tests : {A : Type 0} (test : A → Bool) (P : A → Type 0) → ((x : A) → P x → test x ≡ true) → (xs : List A) → AllByRecursion P xs → list_all test xs ≡ true
all-tests test P tells [] h = refl
all-tests test P tells (x ∷ xs) h = and_from (test x) (list_all test xs) (tells x h.0) (all-tests test P tells xs h.1)

behaviour-tested : (b : BehaviourTree) → no_look_in b ≡ true → LookNowhere b
behaviour-tested (Plain e) h = tested e h
behaviour-tested (Input port) h = tt
behaviour-tested (Table entries) h = tt
behaviour-tested (Reactive init clauses) h = all-tested (λ (c : ClauseTree). looks_nowhere c.expr) (λ (c : ClauseTree). HasNoLook c.expr) (λ c k. tested c.expr k) clauses h

behaviour-tests : (b : BehaviourTree) → LookNowhere b → no_look_in b ≡ true
behaviour-tests (Plain e) h = tests e h
behaviour-tests (Input port) h = refl
behaviour-tests (Table entries) h = refl
behaviour-tests (Reactive init clauses) h = all-tests (λ (c : ClauseTree). looks_nowhere c.expr) (λ (c : ClauseTree). HasNoLook c.expr) (λ c k. tests c.expr k) clauses h

-- Definitions and outputs in memory.
pub decls-mapped : (b : Bool) (xs ys : List Decl) → b ≡ list_all (λ (d : Decl). no_look_in (behaviour_of d.behaviour)) xs → xs ≡ ys → b ≡ list_all (λ (d : DeclTree). no_look_in d.behaviour) (map decl_of ys)
decls-mapped b xs ys is same = is ∙ ap (list_all (λ (d : Decl). no_look_in (behaviour_of d.behaviour))) same ∙ sym (list_all-map (λ (d : DeclTree). no_look_in d.behaviour) decl_of ys)

pub outputs-mapped : (b : Bool) (xs ys : List Output) → b ≡ list_all (λ (o : Output). looks_nowhere (tree_of o.expr)) xs → xs ≡ ys → b ≡ list_all (λ (o : OutputTree). looks_nowhere o.expr) (map output_of ys)
outputs-mapped b xs ys is same = is ∙ ap (list_all (λ (o : Output). looks_nowhere (tree_of o.expr))) same ∙ sym (list_all-map (λ (o : OutputTree). looks_nowhere o.expr) output_of ys)

pub program-tells : (p : ProgramTree) (a b : Bool) → a ≡ list_all (λ (d : DeclTree). no_look_in d.behaviour) p.decls → b ≡ list_all (λ (o : OutputTree). looks_nowhere o.expr) p.outputs → IsTrue (a && b) ↔ HasNoLooks p
program-tells p a b decls outputs = (there, back)
  where
    there : IsTrue (a && b) → HasNoLooks p
    there h =
        let k = and_parts a b h in
        record {
          decls = all-tested (λ (d : DeclTree). no_look_in d.behaviour) (λ (d : DeclTree). LookNowhere d.behaviour) (λ d l. behaviour-tested d.behaviour l) p.decls (sym decls ∙ k.0);
          outputs = all-tested (λ (o : OutputTree). looks_nowhere o.expr) (λ (o : OutputTree). HasNoLook o.expr) (λ o l. tested o.expr l) p.outputs (sym outputs ∙ k.1);
        }

    back : HasNoLooks p → IsTrue (a && b)
    back h =
        and_from a b
        (decls ∙ all-tests (λ (d : DeclTree). no_look_in d.behaviour) (λ (d : DeclTree). LookNowhere d.behaviour) (λ d l. behaviour-tests d.behaviour l) p.decls h.decls)
        (outputs ∙ all-tests (λ (o : OutputTree). looks_nowhere o.expr) (λ (o : OutputTree). HasNoLook o.expr) (λ o l. tests o.expr l) p.outputs h.outputs)
