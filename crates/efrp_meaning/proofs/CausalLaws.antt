-- A list of names in which each definition stands behind those on which it depends on an event: then none depends on itself on it.
use Rattle.std.specs.Prelude.{◌≡◌, ℕ, ◌<◌, Bool, true, false, nat_lt, refl, List, [], ◌∷◌, Option, Some, None, if◌then◌else◌}
use Rattle.std.specs.List.{list_any, list_all}
use Rattle.std.specs.Str.{bytes_eq}
use Rattle.std.proofs.lemmas.Slice.Eq.{bytes_eq-Decides}
use Rattle.std.proofs.lemmas.Option.{none-some}
use Rattle.std.specs.Cmp.{below_chain}
use Rattle.std.proofs.lemmas.Bool.{and_parts, false≢true, ltb-true}
use Rattle.std.proofs.Common.{sym, ap, subst, ◌∙◌, arith}
use Rattle.frp_tree.specs.Tree.{DeclTree, ProgramTree}
use Rattle.efrp_meaning.specs.Decls.{decl_named}
use Rattle.efrp_meaning.specs.Meaning.{rule_on}
use Rattle.efrp_meaning.specs.Laws.{OrderedIsCausal}
use Rattle.efrp_meaning.proofs.NameFacts.{member-passes}
use Rattle.efrp_meaning.specs.Causal.{dependencies_by, dependencies, DependsOn, DependsThrough, IsCausalOn, place_of, stands_behind, IsOrderOn}

-- What holds of each definition's name holds of a name that a definition has.
named-passes : (test : List ℕ → Bool) (ds : List DeclTree) (x : List ℕ) (d : DeclTree) → list_all (λ (c : DeclTree). test c.name) ds ≡ true → decl_named ds x ≡ Some d → test x ≡ true
named-passes test [] x d passes found = absurd (none-some d found)
named-passes test (c ∷ cs) x d passes found = by_name (bytes_eq x c.name) refl (named-passes test cs x d (and_parts _ _ passes).1)
  where
    by_name : (b : Bool) → bytes_eq x c.name ≡ b → (decl_named cs x ≡ Some d → test x ≡ true) → test x ≡ true
    by_name true e rest = subst (λ n. test n ≡ true) (sym ((bytes_eq-Decides x c.name).0 e)) (and_parts _ _ passes).0
    by_name false e rest = rest (sym (ap (λ b. if b then Some c else decl_named cs x) e) ∙ found)

-- What a definition depends on stands before it.
dependency-before : (p : ProgramTree) (event : List ℕ) (order : List (List ℕ)) → IsOrderOn p event order → (x y : List ℕ) → DependsOn p event x y → place_of order y < place_of order x
dependency-before p event order ordered x y = by_definition (decl_named p.decls x) refl
  where
    by_definition : (o : Option DeclTree) → decl_named p.decls x ≡ o → list_any (bytes_eq y) (elim o [ Some d ↦ dependencies_by x (rule_on event d.behaviour) | None ↦ [] ]) ≡ true → place_of order y < place_of order x
    by_definition None e h = absurd (false≢true h)
    by_definition (Some d) e h =
        let behind = named-passes (stands_behind p event order) p.decls x d ordered e in
        let depends = ap (λ o. list_any (bytes_eq y) (elim o [ Some d ↦ dependencies_by x (rule_on event d.behaviour) | None ↦ [] ])) e ∙ h in
        ltb-true _ _ (member-passes (λ z. nat_lt (place_of order z) (place_of order x)) y (dependencies p event x) behind depends)

dependency-through-before : (p : ProgramTree) (event : List ℕ) (order : List (List ℕ)) → IsOrderOn p event order → (x y : List ℕ) (others : List (List ℕ)) → DependsThrough p event x others y → place_of order y < place_of order x
dependency-through-before p event order ordered x y [] h = dependency-before p event order ordered x y h
dependency-through-before p event order ordered x y (z ∷ zs) h =
    below_chain _ _ _ (dependency-through-before p event order ordered z y zs h.1) (dependency-before p event order ordered x z h.0)

-- Where there is such an order, none depends on itself.
pub none-depends-on-itself : (p : ProgramTree) (event : List ℕ) (order : List (List ℕ)) → IsOrderOn p event order → IsCausalOn p event
none-depends-on-itself p event order ordered x others h = let h2 = dependency-through-before p event order ordered x x others h in omega (arith, h2)

pub ordered-is-causal : (p : ProgramTree) → OrderedIsCausal p
ordered-is-causal p event order ordered = none-depends-on-itself p event order ordered
