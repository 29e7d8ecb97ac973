-- A program that has no first fault passes the checks.
use Rattle.std.specs.Prelude.{◌≡◌, ℕ, Bool, true, false, ◌⊎◌, List, [], ◌∷◌, ◌++◌, map, is_none, Option, Some, None, refl, if◌then◌else◌}
use Rattle.std.specs.List.{AllByRecursion, list_any}
use Rattle.std.specs.Str.{bytes_eq}
use Rattle.std.proofs.Common.{ap, inl, inr, subst, sym, ◌∙◌}
use Rattle.std.proofs.lemmas.Bool.{false≢true}
use Rattle.std.proofs.Math.Seq.{append_snoc}
use Rattle.std.proofs.lemmas.Slice.Eq.{bytes_eq-Decides}
use Rattle.frp_tree.specs.declared.syntax.Event.{Event}
use Rattle.frp_tree.specs.Tree.{DeclTree, ProgramTree}
use Rattle.efrp_meaning.specs.Causal.{DependsOn, DependsThrough, IsCausalOn, dependencies_by}
use Rattle.efrp_meaning.specs.Decls.{decl_named}
use Rattle.efrp_meaning.specs.Meaning.{rule_on}
use Rattle.efrp_types.specs.declared.faults.CheckFault.{CheckFault}
use Rattle.efrp_types.specs.Answers.{IsFirst}
use Rattle.efrp_types.specs.NameFaults.{name_faults}
use Rattle.efrp_types.specs.Passes.{IsChecked}
use Rattle.efrp_types.specs.TypeFaults.{type_faults}
use Rattle.causality.specs.Orders.{DependsOnItself, IsFirstCycle, IsFirstOn}
use Rattle.causality.proofs.CycleLaws.{cycle-is-first}
use Rattle.checked_source.specs.Laws.{HasFirstFault, PassesExactly}
use Rattle.checked_source.specs.Readings.{check_faults}
use Rattle.checked_source.proofs.ReadingLaws.{no-first}

-- One more at the end of a row, each of which has it, leaves it so.
one-more : {A : Type 0} (P : A → Type 0) (xs : List A) (x : A) → AllByRecursion P xs → P x → AllByRecursion P (xs ++ x ∷ [])
one-more P [] x all last = (last, tt)
one-more P (y ∷ ys) x all last = (all.0, one-more P ys x all.1 last)

-- No element of a row has it, where none is the first that has it.
none-has : {A : Type 0} (P : A → Type 0) (all front back : List A) → all ≡ front ++ back → AllByRecursion (λ x. ¬ P x) front
    → ((before after : List A) (x : A) → all ≡ before ++ x ∷ after → P x → AllByRecursion (λ y. ¬ P y) before → ⊥) → AllByRecursion (λ x. ¬ P x) back
none-has P all front [] is none never = tt
none-has {A = A} P all front (x ∷ back) is none never =
    let not : ¬ P x = λ h. never front back x is h none in
    (not, none-has P all (front ++ x ∷ []) back (is ∙ sym (append_snoc front x back)) (one-more (λ y. ¬ P y) front x none not) never)

-- The definition that a name stands for has what each definition's name has.
named-has : (P : List ℕ → Type 0) (ds : List DeclTree) (x : List ℕ) (d : DeclTree) → decl_named ds x ≡ Some d
    → AllByRecursion (λ (c : DeclTree). P c.name) ds → P x
named-has P [] x d is all = absurd (false≢true (sym (ap is_none is)))
named-has P (c ∷ cs) x d is all = by_name (bytes_eq x c.name) refl is (λ rest. named-has P cs x d rest all.1)
  where
    by_name : (same : Bool) → bytes_eq x c.name ≡ same → (if same then Some c else decl_named cs x) ≡ Some d → (decl_named cs x ≡ Some d → P x) → P x
    by_name true same found rest = subst P (sym ((bytes_eq-Decides x c.name).0 same)) all.0
    by_name false same found rest = rest found

module _ (p : ProgramTree) (event : List ℕ) where
  -- A name that no definition has depends on nothing.
  dependent-is-declared : (x y : List ℕ) → DependsOn p event x y → (d : DeclTree) × (decl_named p.decls x ≡ Some d)
  dependent-is-declared x y depends = by_decl (decl_named p.decls x) refl depends
    where
      by_decl : (o : Option DeclTree) → decl_named p.decls x ≡ o
          → list_any (bytes_eq y) (elim o [ Some d ↦ dependencies_by x (rule_on event d.behaviour) | None ↦ [] ]) ≡ true → (d : DeclTree) × (decl_named p.decls x ≡ Some d)
      by_decl (Some d) is h = (d, is)
      by_decl None is h = absurd (false≢true h)

  first-depends : (x : List ℕ) (others : List (List ℕ)) → DependsThrough p event x others x → (y : List ℕ) × DependsOn p event x y
  first-depends x [] depends = (x, depends)
  first-depends x (other ∷ others) depends = (other, depends.0)

  -- Where no definition is the first that depends on itself, none does.
  causal-without-first : ((x : List ℕ) → ¬ IsFirstOn p event x) → IsCausalOn p event
  causal-without-first never x others depends =
      let some = first-depends x others depends in
      let declared = dependent-is-declared x some.0 some.1 in
      named-has (λ y. ¬ DependsOnItself p event y) p.decls x declared.0 declared.1 none (others, depends)
    where
      none : AllByRecursion (λ (d : DeclTree). ¬ DependsOnItself p event d.name) p.decls
      none = none-has (λ (d : DeclTree). DependsOnItself p event d.name) p.decls [] p.decls refl tt
          (λ before after d is itself first. never d.name (before, after, d, is, refl, itself, first))

module _ (p : ProgramTree) where
  -- And where no event is the first, none does on any.
  causal-events : ((event x : List ℕ) → ¬ IsFirstCycle p event x) → (front back : List Event) → p.events ≡ front ++ back
      → AllByRecursion (λ (e : Event). IsCausalOn p e.name) front → AllByRecursion (λ (e : Event). IsCausalOn p e.name) back
  causal-events never front [] is before = tt
  causal-events never front (e ∷ es) is before =
      let here = causal-without-first p e.name (λ x first. never e.name x (record { event_is_first = (front, es, e, is, refl, before); name_is_first = first })) in
      (here, causal-events never (front ++ e ∷ []) es (is ∙ sym (append_snoc front e es)) (one-more (λ (b : Event). IsCausalOn p b.name) front e before here))

  -- Without a first fault of names or types there is none of either.
  checked-without-first : ((fault : CheckFault) → ¬ IsFirst fault (check_faults p)) → IsChecked p
  checked-without-first never = by_names (name_faults p) refl
    where
      by_types : (faults : List CheckFault) → type_faults p ≡ faults → name_faults p ≡ [] → IsChecked p
      by_types [] types names = record { names = names; types = types }
      by_types (f ∷ fs) types names = absurd (never f (fs, ap (λ ns. ns ++ type_faults p) names ∙ types))

      by_names : (faults : List CheckFault) → name_faults p ≡ faults → IsChecked p
      by_names [] names = by_types (type_faults p) refl names
      by_names (f ∷ fs) names = absurd (never f (fs ++ type_faults p, ap (λ ns. ns ++ type_faults p) names))

  pub passes-exactly : PassesExactly p
  passes-exactly = record {
    faultless = λ none.
        let checked = checked-without-first (λ fault first. none (inl (fault, first))) in
        record { checked = checked; causal = causal-events (λ event x first. none (inr (checked, event, x, first))) [] p.events refl tt };
    faulty = λ fault passes. elim fault [
      | inl first ↦ no-first p first.0 passes.checked first.1
      | inr cycle ↦ (cycle-is-first p).not_causal cycle.1 cycle.2 cycle.3 passes.causal
    ];
  }
