-- Definitions that pass a test, and their own expressions.
use Rattle.std.specs.Prelude.{◌≡◌, ℕ, zero, suc, Bool, true, false, ◌||◌, ◌&&◌, List, [], ◌∷◌, ◌++◌, filter, slice_get, Some, if◌then◌else◌, refl}
use Rattle.std.specs.List.{list_any, list_all}
use Rattle.std.proofs.Common.{sym, ap, ◌∙◌}
use Rattle.std.proofs.lemmas.Bool.{and_parts, false≢true}
use Rattle.std.proofs.lemmas.List.Folds.{list_any-append}
use Rattle.std.proofs.lemmas.Option.{none-some, same_Some}
use Rattle.frp_tree.specs.Tree.{Tree, BehaviourTree, Plain, Input, Table, Reactive, DeclTree}
use Rattle.efrp_meaning.specs.Needs.{plain_expression, expressions_of}

pub or-left : (a b : Bool) → a ≡ true → (a || b) ≡ true
or-left true b h = refl
or-left false b h = absurd (false≢true h)

pub or-right : (a b : Bool) → b ≡ true → (a || b) ≡ true
or-right true b h = refl
or-right false b h = h

pub and-both : (a b : Bool) → a ≡ true → b ≡ true → (a && b) ≡ true
and-both true b h g = g
and-both false b h g = h

-- Two tests that hold of each other hold alike.
pub alike : (a b : Bool) → (a ≡ true → b ≡ true) → (b ≡ true → a ≡ true) → a ≡ b
alike true b there back = sym (there refl)
alike false true there back = back refl
alike false false there back = refl

-- A definition that passes, and where it stands.
pub record Passes (f : DeclTree → Bool) (ds : List DeclTree) : Type 0 where
  pub place : ℕ
  pub decl : DeclTree
  pub at : slice_get ds place ≡ Some decl
  pub passes : f decl ≡ true

later : (f : DeclTree → Bool) (c : DeclTree) (cs : List DeclTree) → Passes f cs → Passes f (c ∷ cs)
later f c cs its = record { place = suc its.place; decl = its.decl; at = its.at; passes = its.passes }

-- What is found among those that pass is found at a place.
pub found-passes : (f test : DeclTree → Bool) (ds : List DeclTree) → list_any test (filter f ds) ≡ true → Passes (λ d. f d && test d) ds
found-passes f test [] h = absurd (false≢true h)
found-passes f test (d ∷ ds) h = by_tests (f d) refl (test d) refl h (found-passes f test ds)
  where
    by_tests : (a : Bool) → f d ≡ a → (b : Bool) → test d ≡ b → list_any test (if a then d ∷ filter f ds else filter f ds) ≡ true
        → (list_any test (filter f ds) ≡ true → Passes (λ c. f c && test c) ds) → Passes (λ c. f c && test c) (d ∷ ds)
    by_tests true e true g h rest = record { place = 0; decl = d; at = refl; passes = and-both (f d) (test d) e g }
    by_tests true e false g h rest = later (λ c. f c && test c) d ds (rest (sym (ap (λ b. b || list_any test (filter f ds)) g) ∙ h))
    by_tests false e b g h rest = later (λ c. f c && test c) d ds (rest h)

pub passes-found : (f test : DeclTree → Bool) (ds : List DeclTree) (n : ℕ) (d : DeclTree) → slice_get ds n ≡ Some d → f d ≡ true → test d ≡ true → list_any test (filter f ds) ≡ true
passes-found f test [] n d at its is = absurd (none-some d at)
passes-found f test (c ∷ cs) zero d at its is =
    let same = same_Some c d at in
    ap (λ b. list_any test (if b then c ∷ filter f cs else filter f cs)) (ap f same ∙ its) ∙ ap (λ b. b || list_any test (filter f cs)) (ap test same ∙ is)
passes-found f test (c ∷ cs) (suc n) d at its is = by_test (f c) (passes-found f test cs n d at its is)
  where
    by_test : (a : Bool) → list_any test (filter f cs) ≡ true → list_any test (if a then c ∷ filter f cs else filter f cs) ≡ true
    by_test true h = or-right (test c) (list_any test (filter f cs)) h
    by_test false h = h

-- All that pass are kept exactly where each is.
pub all-kept : (f kept : DeclTree → Bool) (ds : List DeclTree) → ((n : ℕ) (d : DeclTree) → slice_get ds n ≡ Some d → f d ≡ true → kept d ≡ true) → list_all kept (filter f ds) ≡ true
all-kept f kept [] each = refl
all-kept f kept (d ∷ ds) each = by_test (f d) refl (all-kept f kept ds (λ n c at its. each (suc n) c at its))
  where
    by_test : (a : Bool) → f d ≡ a → list_all kept (filter f ds) ≡ true → list_all kept (if a then d ∷ filter f ds else filter f ds) ≡ true
    by_test true e rest = and-both (kept d) (list_all kept (filter f ds)) (each 0 d refl e) rest
    by_test false e rest = rest

pub kept-each : (f kept : DeclTree → Bool) (ds : List DeclTree) → list_all kept (filter f ds) ≡ true → (n : ℕ) (d : DeclTree) → slice_get ds n ≡ Some d → f d ≡ true → kept d ≡ true
kept-each f kept [] all n d at its = absurd (none-some d at)
kept-each f kept (c ∷ cs) all zero d at its =
    let same = same_Some c d at in
    let whole = sym (ap (λ b. list_all kept (if b then c ∷ filter f cs else filter f cs)) (ap f same ∙ its)) ∙ all in
    ap kept (sym same) ∙ (and_parts _ _ whole).0
kept-each f kept (c ∷ cs) all (suc n) d at its = by_test (f c) all (λ h. kept-each f kept cs h n d at its)
  where
    by_test : (a : Bool) → list_all kept (if a then c ∷ filter f cs else filter f cs) ≡ true → (list_all kept (filter f cs) ≡ true → kept d ≡ true) → kept d ≡ true
    by_test true h rest = rest (and_parts _ _ h).1
    by_test false h rest = rest h

-- A non-reactive definition that passes, whose expression passes a test.
pub record PassesPlain (f : DeclTree → Bool) (test : Tree → Bool) (ds : List DeclTree) : Type 0 where
  pub place : ℕ
  pub decl : DeclTree
  pub expr : Tree
  pub at : slice_get ds place ≡ Some decl
  pub passes : f decl ≡ true
  pub plain : decl.behaviour ≡ Plain expr
  pub tested : test expr ≡ true

module _ (f : DeclTree → Bool) (test : Tree → Bool) where
  later-plain : (c : DeclTree) (cs : List DeclTree) → PassesPlain f test cs → PassesPlain f test (c ∷ cs)
  later-plain c cs its = record {
    place = suc its.place;
    decl = its.decl;
    expr = its.expr;
    at = its.at;
    passes = its.passes;
    plain = its.plain;
    tested = its.tested;
  }

  pub found-plain : (ds : List DeclTree) → list_any test (expressions_of (filter f ds)) ≡ true → PassesPlain f test ds
  found-plain [] h = absurd (false≢true h)
  found-plain (d ∷ ds) h = by_test (f d) refl h (found-plain ds)
    where
      by_tested : f d ≡ true → (e : Tree) → d.behaviour ≡ Plain e → (b : Bool) → test e ≡ b → ((b || false) || list_any test (expressions_of (filter f ds))) ≡ true
          → (list_any test (expressions_of (filter f ds)) ≡ true → PassesPlain f test ds) → PassesPlain f test (d ∷ ds)
      by_tested its e is true g h rest = record { place = 0; decl = d; expr = e; at = refl; passes = its; plain = is; tested = g }
      by_tested its e is false g h rest = later-plain d ds (rest h)

      by_behaviour : f d ≡ true → (b : BehaviourTree) → d.behaviour ≡ b → list_any test (plain_expression b ++ expressions_of (filter f ds)) ≡ true
          → (list_any test (expressions_of (filter f ds)) ≡ true → PassesPlain f test ds) → PassesPlain f test (d ∷ ds)
      by_behaviour its (Plain e) is h rest = by_tested its e is (test e) refl (sym (list_any-append test (e ∷ []) (expressions_of (filter f ds))) ∙ h) rest
      by_behaviour its (Input port) is h rest = later-plain d ds (rest h)
      by_behaviour its (Table entries) is h rest = later-plain d ds (rest h)
      by_behaviour its (Reactive init clauses) is h rest = later-plain d ds (rest h)

      by_test : (a : Bool) → f d ≡ a → list_any test (expressions_of (if a then d ∷ filter f ds else filter f ds)) ≡ true
          → (list_any test (expressions_of (filter f ds)) ≡ true → PassesPlain f test ds) → PassesPlain f test (d ∷ ds)
      by_test true e h rest = by_behaviour e d.behaviour refl h rest
      by_test false e h rest = later-plain d ds (rest h)

  pub plain-found : (ds : List DeclTree) (n : ℕ) (d : DeclTree) (e : Tree) → slice_get ds n ≡ Some d → f d ≡ true → d.behaviour ≡ Plain e → test e ≡ true → list_any test (expressions_of (filter f ds)) ≡ true
  plain-found [] n d e at its is h = absurd (none-some d at)
  plain-found (c ∷ cs) zero d e at its is h =
      let same = same_Some c d at in
      ap (λ b. list_any test (expressions_of (if b then c ∷ filter f cs else filter f cs))) (ap f same ∙ its)
      ∙ ap (λ b. list_any test (plain_expression b ++ expressions_of (filter f cs))) (ap (λ (k : DeclTree). k.behaviour) same ∙ is)
      ∙ list_any-append test (e ∷ []) (expressions_of (filter f cs)) ∙ or-left (test e || false) (list_any test (expressions_of (filter f cs))) (or-left (test e) false h)
  plain-found (c ∷ cs) (suc n) d e at its is h = by_test (f c) (plain-found cs n d e at its is h)
    where
      by_test : (a : Bool) → list_any test (expressions_of (filter f cs)) ≡ true → list_any test (expressions_of (if a then c ∷ filter f cs else filter f cs)) ≡ true
      by_test true h =
          list_any-append test (plain_expression c.behaviour) (expressions_of (filter f cs))
          ∙ or-right (list_any test (plain_expression c.behaviour)) (list_any test (expressions_of (filter f cs))) h
      by_test false h = h
