-- The graph of a program on an event: its edges and paths are what definitions depend on.
use Rattle.std.specs.Prelude.{◌≡◌, ◌≢◌, ℕ, ◌⊎◌, Bool, true, false, not, ◌||◌, ◌==◌, List, [], ◌∷◌, ◌++◌, filter, slice_get, Option, Some, None, option_map, option_to_list, refl, if◌then◌else◌}
use Rattle.std.specs.List.{flat_map, list_any}
use Rattle.std.specs.Str.{bytes_eq}
use Rattle.std.proofs.Common.{sym, ap, subst, ◌∙◌}
use Rattle.std.proofs.lemmas.Bool.{false≢true}
use Rattle.std.proofs.lemmas.Bool.Decides.{eqb_tells}
use Rattle.std.proofs.lemmas.List.Folds.{list_any-append}
use Rattle.std.proofs.lemmas.Option.{slice_get-map, get_or_from_slice_get}
use Rattle.std.proofs.lemmas.Slice.Eq.{bytes_eq-Decides}
use mathlib.Core.Logic.{inl, inr}
use Rattle.frp_tree.specs.Tree.{DeclTree, ProgramTree}
use Rattle.efrp_meaning.specs.Decls.{decl_named}
use Rattle.efrp_meaning.specs.Needs.{names_in}
use Rattle.efrp_meaning.specs.Meaning.{Rule, Always, Sampled, Tabled, Now, Later, Stays, rule_on}
use Rattle.efrp_meaning.specs.Causal.{dependencies, dependencies_by, DependsOn, DependsThrough}
use Rattle.efrp_types.specs.NameFaults.{name_faults}
use Rattle.efrp_types.specs.Numbers.{decl_number}
use Rattle.efrp_types.proofs.GoodLaws.{no-fault-is-good}
use Rattle.efrp_types.proofs.NumberLaws.{numbers-agree}
use Rattle.causality.specs.Graphs.{numbers_of, edges_by, edges_on, graph_on, has, edges, Edge, Path, IsRound}
use Rattle.causality.specs.Orders.{DependsOnItself}
use Rattle.causality.proofs.GraphFacts.{same_number}
use Rattle.causality.proofs.NumberFacts.{same_bytes, Known, Numbered, known-numbered, number-numbered, depends-known}
use Rattle.causality.proofs.ChoiceFacts.{or-right}

module _ (p : ProgramTree) where
  -- The numbers of names.
  abbrev numbers : List (List ℕ) → List ℕ
  numbers names = flat_map (λ y. option_to_list (decl_number p y)) names

  without-own : (x : List ℕ) (names : List (List ℕ)) → numbers_of p x true names ≡ numbers (filter (λ y. not (bytes_eq x y)) names)
  without-own x [] = refl
  without-own x (n ∷ ns) = by_name (bytes_eq x n) (without-own x ns)
    where
      by_name : (b : Bool) → numbers_of p x true ns ≡ numbers (filter (λ y. not (bytes_eq x y)) ns)
          → (if b then [] else option_to_list (decl_number p n)) ++ numbers_of p x true ns
          ≡ numbers (if not b then n ∷ filter (λ y. not (bytes_eq x y)) ns else filter (λ y. not (bytes_eq x y)) ns)
      by_name true e = e
      by_name false e = ap (λ ns. option_to_list (decl_number p n) ++ ns) e

  edges-are : (x : List ℕ) (r : Rule) → edges_by p x r ≡ numbers (dependencies_by x r)
  edges-are x (Always e) = refl
  edges-are x Sampled = refl
  edges-are x Tabled = refl
  edges-are x (Now e) = without-own x (names_in e)
  edges-are x (Later e) = refl
  edges-are x Stays = refl

  -- A number of names is one of them's.
  number-from : (names : List (List ℕ)) (j : ℕ) → has (numbers names) j ≡ true → (y : List ℕ) × (list_any (bytes_eq y) names ≡ true) × (decl_number p y ≡ Some j)
  number-from [] j h = absurd (false≢true h)
  number-from (n ∷ ns) j h = by_part (decl_number p n) refl (number-from ns j) (sym (list_any-append (λ m. m == j) (option_to_list (decl_number p n)) (numbers ns)) ∙ h)
    where
      by_number : (k : ℕ) → decl_number p n ≡ Some k → (((k == j) ≡ true) × (k ≡ j)) ⊎ (((k == j) ≡ false) × (k ≢ j)) → (has (numbers ns) j ≡ true → (y : List ℕ) × (list_any (bytes_eq y) ns ≡ true) × (decl_number p y ≡ Some j))
          → (((k == j) || false) || has (numbers ns) j) ≡ true → (y : List ℕ) × (list_any (bytes_eq y) (n ∷ ns) ≡ true) × (decl_number p y ≡ Some j)
      by_number k e (inl s) rest g = (n, ap (λ b. b || list_any (bytes_eq n) ns) (same_bytes n), e ∙ ap Some s.1)
      by_number k e (inr s) rest g =
          let found = rest (sym (ap (λ b. (b || false) || has (numbers ns) j) s.0) ∙ g) in
          (found.0, or-right (bytes_eq found.0 n) (list_any (bytes_eq found.0) ns) found.1, found.2)

      by_part : (o : Option ℕ) → decl_number p n ≡ o → (has (numbers ns) j ≡ true → (y : List ℕ) × (list_any (bytes_eq y) ns ≡ true) × (decl_number p y ≡ Some j))
          → (has (option_to_list o) j || has (numbers ns) j) ≡ true → (y : List ℕ) × (list_any (bytes_eq y) (n ∷ ns) ≡ true) × (decl_number p y ≡ Some j)
      by_part None e rest g = let found = rest g in (found.0, or-right (bytes_eq found.0 n) (list_any (bytes_eq found.0) ns) found.1, found.2)
      by_part (Some k) e rest g = by_number k e (eqb_tells k j) rest g

  number-to : (names : List (List ℕ)) (y : List ℕ) (j : ℕ) → list_any (bytes_eq y) names ≡ true → decl_number p y ≡ Some j → has (numbers names) j ≡ true
  number-to [] y j h e = absurd (false≢true h)
  number-to (n ∷ ns) y j h e = list_any-append (λ m. m == j) (option_to_list (decl_number p n)) (numbers ns) ∙ by_name (bytes_eq y n) refl h (λ k. number-to ns y j k e)
    where
      by_name : (b : Bool) → bytes_eq y n ≡ b → (b || list_any (bytes_eq y) ns) ≡ true → (list_any (bytes_eq y) ns ≡ true → has (numbers ns) j ≡ true)
          → (has (option_to_list (decl_number p n)) j || has (numbers ns) j) ≡ true
      by_name true same g rest =
          let its : decl_number p n ≡ Some j = subst (λ m. decl_number p m ≡ Some j) ((bytes_eq-Decides y n).0 same) e in
          ap (λ o. has (option_to_list o) j || has (numbers ns) j) its ∙ ap (λ b. (b || false) || has (numbers ns) j) (same_number j)
      by_name false other g rest = or-right (has (option_to_list (decl_number p n)) j) (has (numbers ns) j) (rest g)

  module _ (event : List ℕ) where
    -- The edges of a definition by its number.
    edges-at : (i : ℕ) (d : DeclTree) → slice_get p.decls i ≡ Some d → edges (graph_on p event) i ≡ numbers (dependencies_by d.name (rule_on event d.behaviour))
    edges-at i d e =
        get_or_from_slice_get (graph_on p event) i (edges_on p event d) [] (slice_get-map (edges_on p event) p.decls i ∙ ap (option_map (edges_on p event)) e)
        ∙ edges-are d.name (rule_on event d.behaviour)

    -- What a definition depends on, by its name.
    depends-are : (x : List ℕ) (d : DeclTree) → decl_named p.decls x ≡ Some d → x ≡ d.name → dependencies p event x ≡ dependencies_by d.name (rule_on event d.behaviour)
    depends-are x d named same =
        ap (λ o. elim o [ Some c ↦ dependencies_by x (rule_on event c.behaviour) | None ↦ [] ]) named ∙ ap (λ n. dependencies_by n (rule_on event d.behaviour)) same

    pub edge-to : (x : List ℕ) (i j : ℕ) → Numbered p x i → Edge (graph_on p event) i j → (y : List ℕ) × Numbered p y j × DependsOn p event x y
    edge-to x i j its edge =
        let found = number-from (dependencies_by its.decl.name (rule_on event its.decl.behaviour)) j (sym (ap (λ ns. has ns j) (edges-at i its.decl its.at)) ∙ edge) in
        (found.0, number-numbered p found.0 j found.2, ap (list_any (bytes_eq found.0)) (depends-are x its.decl its.named its.name) ∙ found.1)

    pub edge-from : (x y : List ℕ) (i j : ℕ) → Numbered p x i → DependsOn p event x y → Numbered p y j → Edge (graph_on p event) i j
    edge-from x y i j its depends to =
        ap (λ ns. has ns j) (edges-at i its.decl its.at)
        ∙ number-to (dependencies_by its.decl.name (rule_on event its.decl.behaviour)) y j (sym (ap (list_any (bytes_eq y)) (depends-are x its.decl its.named its.name)) ∙ depends) to.number

    -- A path of numbers is one of names.
    path-to : (x : List ℕ) (i j : ℕ) (others : List ℕ) → Numbered p x i → Path (graph_on p event) i others j → (ys : List (List ℕ)) × (y : List ℕ) × Numbered p y j × DependsThrough p event x ys y
    path-to x i j [] its path = let on = edge-to x i j its path in ([], on.0, on.1, on.2)
    path-to x i j (o ∷ os) its path =
        let on = edge-to x i o its path.0 in
        let rest = path-to on.0 o j os on.1 path.1 in
        (on.0 ∷ rest.0, rest.1, rest.2, (on.2, rest.3))

    pub round-to : (x : List ℕ) (i : ℕ) → Numbered p x i → IsRound (graph_on p event) i → DependsOnItself p event x
    round-to x i its round =
        let found = path-to x i i round.0 its round.1 in
        let same : found.1 ≡ x = found.2.name ∙ ap (λ (d : DeclTree). d.name) (is-decl found.2.decl its.decl (sym found.2.at ∙ its.at)) ∙ sym its.name in
        (found.0, subst (λ y. DependsThrough p event x found.0 y) same found.3)
      where
        is-decl : (c d : DeclTree) → Some c ≡ Some d → c ≡ d
        is-decl c d e = ap (λ o. elim o [ Some k ↦ k | None ↦ c ]) e

    module _ (names : name_faults p ≡ []) where
      -- And one of names is one of numbers.
      path-from : (x y : List ℕ) (i j : ℕ) (ys : List (List ℕ)) → Numbered p x i → DependsThrough p event x ys y → Numbered p y j → (others : List ℕ) × Path (graph_on p event) i others j
      path-from x y i j [] its path to = ([], edge-from x y i j its path to)
      path-from x y i j (z ∷ zs) its path to =
          let on = known-numbered p z (depends-known p names event x z path.0).1 in
          let rest = path-from z y on.0 j zs on.1 path.1 to in
          (on.0 ∷ rest.0, (edge-from x z i on.0 its path.0 on.1, rest.1))

      pub round-from : (x : List ℕ) (i : ℕ) → Numbered p x i → DependsOnItself p event x → IsRound (graph_on p event) i
      round-from x i its depends = path-from x x i i depends.0 its depends.1 its

      -- Who depends on itself is a definition.
      pub itself-known : (x : List ℕ) → DependsOnItself p event x → Known p x
      itself-known x depends = begins depends.0 depends.1
        where
          begins : (ys : List (List ℕ)) → DependsThrough p event x ys x → Known p x
          begins [] path = (depends-known p names event x x path).0
          begins (z ∷ zs) path = (depends-known p names event x z path.0).0

      -- Each definition has its number.
      pub own-numbered : (i : ℕ) (d : DeclTree) → slice_get p.decls i ≡ Some d → Numbered p d.name i
      own-numbered i d e = number-numbered p d.name i ((numbers-agree p).own_decls (no-fault-is-good p names).decls_differ i d e)
