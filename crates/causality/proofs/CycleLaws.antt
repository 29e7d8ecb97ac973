-- First cycles, and what whoever has a program with orders knows of it.
use Rattle.std.specs.Prelude.{◌≡◌, ℕ, List, [], ◌∷◌, ◌++◌}
use Rattle.std.specs.List.{AllByRecursion}
use Rattle.std.proofs.Common.{sym, ap, subst, ◌∙◌}
use Rattle.frp_tree.specs.declared.syntax.Event.{Event}
use Rattle.frp_tree.specs.Tree.{DeclTree, ProgramTree, program_tree_of}
use Rattle.efrp_meaning.specs.Causal.{IsCausalOn}
use Rattle.efrp_types.specs.Passes.{Passes}
use Rattle.causality.specs.declared.checked.Checked.{Checked}
use Rattle.causality.specs.Laws.{CycleIsFirst}
use Rattle.causality.specs.Orders.{DependsOnItself, IsFirstOn, IsFirstCycle}

-- What holds of each of a row holds of one in it.
all-at : {A : Type 0} (P : A → Type 0) (front : List A) (x : A) (back : List A) → AllByRecursion P (front ++ x ∷ back) → P x
all-at P [] x back all = all.0
all-at P (y ∷ ys) x back all = all-at P ys x back all.1

first-of : {A : Type 0} (x y : A) (xs ys : List A) → x ∷ xs ≡ y ∷ ys → x ≡ y
first-of x y xs ys e = cc

rest-of : {A : Type 0} (x y : A) (xs ys : List A) → x ∷ xs ≡ y ∷ ys → xs ≡ ys
rest-of x y xs ys e = cc

-- The first of a row of which something doesn't hold is one.
one-first : {A : Type 0} (P : A → Type 0) (front others : List A) (x y : A) (back more : List A) → front ++ x ∷ back ≡ others ++ y ∷ more
    → AllByRecursion P front → ¬ P x → AllByRecursion P others → ¬ P y → x ≡ y
one-first P [] [] x y back more e all fails each lacks = first-of x y back more e
one-first P [] (z ∷ zs) x y back more e all fails each lacks = absurd (fails (subst P (sym (first-of x z back (zs ++ y ∷ more) e)) each.0))
one-first P (z ∷ zs) [] x y back more e all fails each lacks = absurd (lacks (subst P (first-of z y (zs ++ x ∷ back) more e) all.0))
one-first P (z ∷ zs) (w ∷ ws) x y back more e all fails each lacks =
    one-first P zs ws x y back more (rest-of z w (zs ++ x ∷ back) (ws ++ y ∷ more) e) all.1 fails each.1 lacks

module _ (p : ProgramTree) where
  itself : (event x : List ℕ) → IsFirstCycle p event x → DependsOnItself p event x
  itself event x first = first.name_is_first.5

  not-causal-on : (event x : List ℕ) → DependsOnItself p event x → ¬ IsCausalOn p event
  not-causal-on event x depends causal = causal x depends.0 depends.1

  same-event : (event other x y : List ℕ) → IsFirstCycle p event x → IsFirstCycle p other y → event ≡ other
  same-event event other x y first second =
      let a = first.event_is_first in
      let b = second.event_is_first in
      sym a.4 ∙ ap (λ (e : Event). e.name) (one-first (λ (e : Event). IsCausalOn p e.name) a.0 b.0 a.2 b.2 a.1 b.1 (sym a.3 ∙ b.3)
      a.5 (not-causal-on a.2.name x (subst (λ n. DependsOnItself p n x) (sym a.4) (itself event x first)))
      b.5 (not-causal-on b.2.name y (subst (λ n. DependsOnItself p n y) (sym b.4) (itself other y second)))) ∙ b.4

  same-name : (event x y : List ℕ) → IsFirstOn p event x → IsFirstOn p event y → x ≡ y
  same-name event x y a b =
      sym a.4 ∙ ap (λ (d : DeclTree). d.name) (one-first (λ (c : DeclTree). ¬ DependsOnItself p event c.name) a.0 b.0 a.2 b.2 a.1 b.1 (sym a.3 ∙ b.3)
      a.6 (λ none. none (subst (DependsOnItself p event) (sym a.4) a.5))
      b.6 (λ none. none (subst (DependsOnItself p event) (sym b.4) b.5))) ∙ b.4

pub cycle-is-first : (p : ProgramTree) → CycleIsFirst p
cycle-is-first p = record {
  not_causal = λ event x first causal.
      let e = first.event_is_first in
      not-causal-on p e.2.name x (subst (λ n. DependsOnItself p n x) (sym e.4) (itself p event x first))
      (all-at (λ (e : Event). IsCausalOn p e.name) e.0 e.2 e.1 (subst (AllByRecursion (λ (e : Event). IsCausalOn p e.name)) e.3 causal));
  one = λ event other x y first second.
      let same = same-event p event other x y first second in
      (same, same-name p event x y first.name_is_first (subst (λ n. IsFirstOn p n y) (sym same) second.name_is_first));
}

-- Whoever has a program with orders has that it passes.
pub checked-passes : (c : Checked) → Passes (program_tree_of c.typed.program)
checked-passes c = record { checked = c.typed.checked; causal = c.causal }
