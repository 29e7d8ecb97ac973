-- A program without inputs reacts alike to all samples.
use Rattle.std.specs.Prelude.{◌≡◌, ℕ, zero, suc, List, [], ◌∷◌, ◌++◌, map, flat_map, Option, Some, None, refl, option_and_then}
use Rattle.std.proofs.Common.{sym, ap, ap₂, ◌∙◌}
use Rattle.std.proofs.Math.Path.{fun_ext}
use Rattle.frp_tree.specs.Tree.{Tree, DeclTree, OutputTree, ProgramTree}
use Rattle.efrp_meaning.specs.Decls.{decl_named, inputs_of}
use Rattle.efrp_meaning.specs.Meaning.{State, Samples, map_two, all_defined, value_at, sample_of, Rule, Always, Sampled, Tabled, Now, Later, Stays, rule_on, evaluate, stands_for, value_by, value_on, expression_on, depth, new_state_by}
use Rattle.efrp_meaning.specs.Laws.{IgnoresSamples}

module _ (p : ProgramTree) (none : inputs_of p ≡ []) (s : State) (j j' : Samples) (event : List ℕ) where
  no-sample : (x : List ℕ) → sample_of p j x ≡ sample_of p j' x
  no-sample x = ap (λ ds. value_at ds j x) none ∙ sym (ap (λ ds. value_at ds j' x) none)

  value_by-alike : (values values' : List ℕ → Option ℕ) → values ≡ values' → (x : List ℕ) (rule : Rule) → value_by p s j values x rule ≡ value_by p s j' values' x rule
  value_by-alike values values' same x (Always e) = ap (λ v. evaluate p (stands_for p s v None) e) same
  value_by-alike values values' same x Sampled = no-sample x
  value_by-alike values values' same x Tabled = refl
  value_by-alike values values' same x (Now e) = ap (λ v. evaluate p (stands_for p s v (Some x)) e) same
  value_by-alike values values' same x (Later e) = refl
  value_by-alike values values' same x Stays = refl

  abbrev values : Samples → ℕ → List ℕ → Option ℕ
  values samples k y = value_on p s samples event y k

  value_on-alike : (k : ℕ) (x : List ℕ) → value_on p s j event x k ≡ value_on p s j' event x k
  value_on-alike zero x = refl
  value_on-alike (suc k) x = by_definition (decl_named p.decls x) (fun_ext (λ y. value_on-alike k y))
    where
      by_definition : (o : Option DeclTree) → values j k ≡ values j' k
          → option_and_then (λ d. value_by p s j (values j k) x (rule_on event d.behaviour)) o
          ≡ option_and_then (λ d. value_by p s j' (values j' k) x (rule_on event d.behaviour)) o
      by_definition None same = refl
      by_definition (Some d) same = value_by-alike (values j k) (values j' k) same x (rule_on event d.behaviour)

  expression_on-alike : (e : Tree) (own : Option (List ℕ)) (k : ℕ) → expression_on p s j event e own k ≡ expression_on p s j' event e own k
  expression_on-alike e own k = ap (λ (v : List ℕ → Option ℕ). evaluate p (stands_for p s v own) e) (fun_ext (λ y. value_on-alike k y))

  new_state_by-alike : (x : List ℕ) (rule : Rule) → new_state_by p s j event x rule ≡ new_state_by p s j' event x rule
  new_state_by-alike x (Always e) = refl
  new_state_by-alike x Sampled = refl
  new_state_by-alike x Tabled = refl
  new_state_by-alike x (Now e) = ap (λ o. o ∷ []) (value_on-alike (depth p) x)
  new_state_by-alike x (Later e) = ap (λ o. o ∷ []) (expression_on-alike e (Some x) (depth p))
  new_state_by-alike x Stays = refl

  states-alike : (ds : List DeclTree) → flat_map (λ d. new_state_by p s j event d.name (rule_on event d.behaviour)) ds ≡ flat_map (λ d. new_state_by p s j' event d.name (rule_on event d.behaviour)) ds
  states-alike [] = refl
  states-alike (d ∷ ds) = ap₂ (λ a b. a ++ b) (new_state_by-alike d.name (rule_on event d.behaviour)) (states-alike ds)

  ports-alike : (os : List OutputTree) → map (λ o. expression_on p s j event o.expr None (depth p)) os ≡ map (λ o. expression_on p s j' event o.expr None (depth p)) os
  ports-alike [] = refl
  ports-alike (o ∷ os) = ap₂ (λ a b. a ∷ b) (expression_on-alike o.expr None (depth p)) (ports-alike os)

pub ignores-samples : (p : ProgramTree) → IgnoresSamples p
ignores-samples p s j j' event none =
    ap₂ (λ news values. map_two (λ new its. record { state = new; ports = its }) (all_defined news) (all_defined values)) (states-alike p none s j j' event p.decls) (ports-alike p none s j j' event p.outputs)
