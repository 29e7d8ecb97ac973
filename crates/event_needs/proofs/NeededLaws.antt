-- The non-reactive definitions that an event needs are those that are named in what it needs; and what is named in an expression
-- of a clause, or in that of such a definition, is named in what the event needs.
use Rattle.std.specs.Prelude.{◌≡◌, ℕ, suc, zero, ◌+◌, Bool, true, false, ◌&&◌, List, [], ◌∷◌, ◌++◌, map, take, get_or, slice_get, Some}
use Rattle.std.specs.List.{flat_map, list_any}
use Rattle.std.specs.Str.{bytes_eq}
use Rattle.std.proofs.Common.{sym, ap, ◌∙◌}
use Rattle.std.proofs.Math.Path.{ap₂}
use Rattle.std.proofs.lemmas.Bool.{and_parts}
use Rattle.std.proofs.lemmas.List.{get_or-map, map-append}
use Rattle.std.proofs.lemmas.List.Folds.{list_any-append}
use Rattle.std.proofs.lemmas.Option.{get_or_from_slice_get, none-some, same_Some, slice_get_within}
use Rattle.frp_tree.specs.Tree.{Tree, Plain, DeclTree, ProgramTree}
use Rattle.efrp_meaning.specs.Decls.{is_plain}
use Rattle.efrp_meaning.specs.Needs.{names_in, is_named_in, first_needed, expressions_of, needed, needed_plain, reacting_expression}
use Rattle.efrp_meaning.specs.States.{NamesDiffer}
use Rattle.event_needs.specs.Marking.{own_names}
use Rattle.event_needs.specs.Needed.{is_needed, named_on}
use Rattle.event_needs.proofs.FilterFacts.{or-left, or-right, alike, found-passes, passes-found}
use Rattle.event_needs.proofs.ListLaws.{take-one}
use Rattle.event_needs.proofs.NumberLaws.{same-name, same-place}
use Rattle.event_needs.proofs.ReachFacts.{named-in, wanted, plain-needed, goes-on}

any-flat : {A B : Type 0} (test : B → Bool) (f : A → List B) (xs : List A) (n : ℕ) (x : A) → slice_get xs n ≡ Some x → list_any test (f x) ≡ true → list_any test (flat_map f xs) ≡ true
any-flat test f [] n x at h = absurd (none-some x at)
any-flat test f (y ∷ ys) zero x at h =
    list_any-append test (f y) (flat_map f ys) ∙ or-left (list_any test (f y)) (list_any test (flat_map f ys)) (ap (λ z. list_any test (f z)) (same_Some y x at) ∙ h)
any-flat test f (y ∷ ys) (suc n) x at h =
    list_any-append test (f y) (flat_map f ys) ∙ or-right (list_any test (f y)) (list_any test (flat_map f ys)) (any-flat test f ys n x at h)

module _ (p : ProgramTree) (differ : NamesDiffer p) (event : List ℕ) where
  pub needed-is : (n : ℕ) (d : DeclTree) → slice_get p.decls n ≡ Some d → is_needed p event d ≡ (is_plain d.behaviour && is_named_in d.name (needed p event))
  needed-is n d at = alike (is_needed p event d) (wanted p differ event d) there back
    where
      there : is_needed p event d ≡ true → wanted p differ event d ≡ true
      there h =
          let f = found-passes (wanted p differ event) (λ (k : DeclTree). bytes_eq d.name k.name) p.decls (ap (list_any (λ (k : DeclTree). bytes_eq d.name k.name)) (sym (plain-needed p differ event)) ∙ h) in
          let parts = and_parts (wanted p differ event f.decl) (bytes_eq d.name f.decl.name) f.passes in
          let same = same-place p differ n f.place d f.decl at f.at parts.1 in
          let is = same_Some f.decl d (sym f.at ∙ ap (slice_get p.decls) (sym same) ∙ at) in
          ap (wanted p differ event) (sym is) ∙ parts.0

      back : wanted p differ event d ≡ true → is_needed p event d ≡ true
      back h =
          ap (list_any (λ (k : DeclTree). bytes_eq d.name k.name)) (plain-needed p differ event)
          ∙ passes-found (wanted p differ event) (λ (k : DeclTree). bytes_eq d.name k.name) p.decls n d at h (same-name d.name)

  -- What is named in a clause for the event.
  pub clause-needs : (n : ℕ) (d : DeclTree) (e : Tree) (y : List ℕ) → slice_get p.decls n ≡ Some d → reacting_expression event d.behaviour ≡ e ∷ [] → list_any (bytes_eq y) (names_in e) ≡ true → is_named_in y (needed p event) ≡ true
  clause-needs n d e y at is h =
      let test = named-in p differ event y in
      let clauses = flat_map (λ (k : DeclTree). reacting_expression event k.behaviour) p.decls in
      let outputs = map (λ o. o.expr) p.outputs in
      let own = any-flat test (λ (k : DeclTree). reacting_expression event k.behaviour) p.decls n d at (ap (list_any test) is ∙ or-left (test e) false h) in
      list_any-append test (first_needed p event) (expressions_of (needed_plain p event))
      ∙ or-left (list_any test (first_needed p event)) (list_any test (expressions_of (needed_plain p event)))
      (list_any-append test clauses outputs ∙ or-left (list_any test clauses) (list_any test outputs) own)

  -- What is named in a non-reactive definition that the event needs.
  pub plain-needs : (n m : ℕ) (d k : DeclTree) (e : Tree) → slice_get p.decls n ≡ Some d → slice_get p.decls m ≡ Some k → is_needed p event d ≡ true → d.behaviour ≡ Plain e
      → list_any (bytes_eq k.name) (names_in e) ≡ true → is_named_in k.name (needed p event) ≡ true
  plain-needs n m d k e at there its is h =
      let parts = and_parts (is_plain d.behaviour) (is_named_in d.name (needed p event)) (sym (needed-is n d at) ∙ its) in
      goes-on p differ event n m d k at parts.1 (ap (λ b. list_any (bytes_eq k.name) (own_names b)) is ∙ h)

  -- A non-reactive definition that is named in what the event needs is needed.
  pub named-needed : (m : ℕ) (k : DeclTree) → slice_get p.decls m ≡ Some k → is_plain k.behaviour ≡ true → is_named_in k.name (needed p event) ≡ true → is_needed p event k ≡ true
  named-needed m k there plain named = needed-is m k there ∙ ap (λ b. b && is_named_in k.name (needed p event)) plain ∙ named

  -- The marks of one definition more.
  pub mark-more : (i : ℕ) (d : DeclTree) (marks : List Bool) (b : Bool) → slice_get p.decls i ≡ Some d → marks ≡ map (is_needed p event) (take i p.decls)
      → b ≡ (is_plain d.behaviour && get_or (named_on p event) i false) → marks ++ b ∷ [] ≡ map (is_needed p event) (take (i + 1) p.decls)
  mark-more i d marks b at so_far is =
      let inside = slice_get_within p.decls i d at in
      let named = get_or-map (λ (c : DeclTree). is_named_in c.name (needed p event)) p.decls i d false inside ∙ ap (λ (c : DeclTree). is_named_in c.name (needed p event)) (get_or_from_slice_get p.decls i d d at) in
      ap₂ (λ (ms : List Bool) (k : Bool). ms ++ k ∷ []) so_far (is ∙ ap (λ k. is_plain d.behaviour && k) named ∙ sym (needed-is i d at))
      ∙ sym (map-append (is_needed p event) (take i p.decls) (d ∷ [])) ∙ sym (ap (map (is_needed p event)) (take-one p.decls i d at))
