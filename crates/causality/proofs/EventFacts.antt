-- Orders of one event after the other.
use Rattle.std.specs.Prelude.{◌≡◌, ℕ, ◌+◌, ◌<◌, ◌≤◌, suc, ◌⊎◌, List, [], ◌∷◌, ◌++◌, length, take, drop, get_or, slice_get, Some, None, Result, Ok, Err, refl}
use Rattle.std.specs.List.{AllByRecursion}
use Rattle.std.specs.Result.{IsErrAnd}
use Rattle.std.proofs.Common.{sym, ap, subst, ◌∙◌, arith}
use Rattle.std.proofs.Math.Seq.{get_or-append_seam}
use Rattle.std.proofs.lemmas.List.{length-append, get_or_append_left, take_more}
use Rattle.std.proofs.lemmas.Option.{slice_get_read}
use mathlib.Core.Logic.{inl, inr}
use Rattle.frp_tree.specs.declared.syntax.Event.{Event}
use Rattle.frp_tree.specs.Tree.{ProgramTree}
use Rattle.efrp_meaning.specs.Causal.{IsCausalOn}
use Rattle.efrp_types.specs.Numbers.{event_name}
use Rattle.causality.specs.declared.faults.CycleFault.{CycleFault}
use Rattle.causality.specs.declared.faults.CycleFault.TheVariants.{Cycle, Memory}
use Rattle.causality.specs.Answers.{OrdersOn, AllOrders}
use Rattle.causality.specs.Orders.{IsOrder, IsFirstOn}
use Rattle.causality.proofs.OrderFacts.{split-at}

-- The first events have orders, and are causal.
pub record Begun (p : ProgramTree) (count : ℕ) (orders : List (List ℕ)) : Type 0 where
  pub len : length orders ≡ count
  pub ordered : (k : ℕ) → k < count → IsOrder p (event_name p k) (get_or orders k [])
  pub causal : AllByRecursion (λ (e : Event). IsCausalOn p e.name) (take count p.events)

with-last : {A : Type 0} (P : A → Type 0) (xs : List A) (x : A) → AllByRecursion P xs → P x → AllByRecursion P (xs ++ x ∷ [])
with-last P [] x all its = (its, tt)
with-last P (y ∷ ys) x all its = (all.0, with-last P ys x all.1 its)

module _ (p : ProgramTree) where
  module _ (k : ℕ) (orders : List (List ℕ)) (so_far : Begun p k orders) where
    module _ (e : Event) (less : k < length p.events) (is : e ≡ get_or p.events k e) where
      at : slice_get p.events k ≡ Some e
      at = slice_get_read p.events (length p.events) k e refl less is

      pub one-more-begun : (numbers : List ℕ) → OrdersOn p e.name (Ok numbers) → Begun p (k + 1) (orders ++ numbers ∷ [])
      one-more-begun numbers its = record {
        len = (let a = length-append orders (numbers ∷ []) in let b = so_far.len in omega (arith, a, b));
        ordered = λ n below. by_place n (split n below);
        causal = subst (AllByRecursion (λ (b : Event). IsCausalOn p b.name)) (sym (take_more p.events k e less ∙ ap (λ x. take k p.events ++ x ∷ []) (sym is)))
            (with-last (λ (b : Event). IsCausalOn p b.name) (take k p.events) e so_far.causal its.1);
      }
        where
          split : (n : ℕ) → n < k + 1 → (n < k) ⊎ (n ≡ k)
          split n below = grind (arith, below)

          by_place : (n : ℕ) → (n < k) ⊎ (n ≡ k) → IsOrder p (event_name p n) (get_or (orders ++ numbers ∷ []) n [])
          by_place n (inl below) =
              let len = so_far.len in
              subst (IsOrder p (event_name p n)) (sym (get_or_append_left orders (numbers ∷ []) [] n (omega (arith, below, len)))) (so_far.ordered n below)
          by_place n (inr same) =
              let last = ap (λ m. get_or (orders ++ numbers ∷ []) m []) (same ∙ sym so_far.len) ∙ get_or-append_seam orders numbers [] [] in
              let name = ap (event_name p) same ∙ ap (λ o. elim o [ Some b ↦ b.name | None ↦ [] ]) at in
              subst (λ x. IsOrder p x (get_or (orders ++ numbers ∷ []) n [])) (sym name) (subst (IsOrder p e.name) (sym last) its.0)

      pub refused : (fault : CycleFault) → OrdersOn p e.name (Err fault) → AllOrders p (Err fault)
      refused (Cycle told name) its = record {
        event_is_first = (take k p.events, drop (suc k) p.events, e, split-at p.events k e at, sym its.0, so_far.causal);
        name_is_first = subst (λ n. IsFirstOn p n name) (sym its.0) its.1;
      }
      refused Memory its = tt

      pub refused-so : (fault : CycleFault) (r : Result (List (List ℕ)) CycleFault) → IsErrAnd r (λ told. told ≡ fault) → OrdersOn p e.name (Err fault) → AllOrders p r
      refused-so fault (Ok orders) handed its = absurd handed
      refused-so fault (Err other) handed its = subst (λ f. AllOrders p (Err f)) (sym handed) (refused fault its)
