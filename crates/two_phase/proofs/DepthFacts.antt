-- Values at the depth of as many definitions as there are: one deeper they are the same, where no definition depends on itself.
use Rattle.std.specs.Prelude.{◌≡◌, ℕ, zero, suc, ◌<◌, Bool, true, false, ◌||◌, List, [], ◌∷◌, ◌++◌, length, map, Option, Some, None, if◌then◌else◌, refl, option_map, option_and_then}
use Rattle.std.specs.List.{list_any}
use Rattle.std.specs.Str.{bytes_eq}
use Rattle.std.proofs.Common.{sym, ap, subst, ◌∙◌, arith}
use Rattle.std.proofs.Math.Path.{ap₂}
use Rattle.std.proofs.lemmas.List.{length-map}
use Rattle.std.proofs.lemmas.List.Folds.{list_any-append}
use Rattle.std.proofs.lemmas.Slice.Eq.{bytes_eq-Decides}
use Rattle.frp_tree.specs.Tree.{Tree, Const, Name, Unary, Binary, Shift, If, Convert, Look, DeclTree, ProgramTree}
use Rattle.efrp_meaning.specs.Causal.{dependencies_by, DependsOn, DependsThrough, IsCausalOn}
use Rattle.efrp_meaning.specs.Decls.{decl_named}
use Rattle.efrp_meaning.specs.Needs.{names_in, IsNamedIn}
use Rattle.efrp_meaning.specs.Values.{unary_value, binary_value, shift_value, if_value, convert_value}
use Rattle.efrp_meaning.specs.Meaning.{State, Samples, map_two, map_three, Rule, Always, Sampled, Tabled, Now, Later, Stays, rule_on, old_state, modulus_of, look_value, evaluate, stands_for, value_by, value_on, depth}
use Rattle.efrp_meaning.proofs.DefinedLaws.{declared-is-named}
use Rattle.two_phase.proofs.NameFacts.{but, fewer-left, others-left}

-- A name of two parts is one of the whole.
in-first : (xs ys : List (List ℕ)) (y : List ℕ) → list_any (bytes_eq y) xs ≡ true → list_any (bytes_eq y) (xs ++ ys) ≡ true
in-first xs ys y h = list_any-append (bytes_eq y) xs ys ∙ ap (λ b. b || list_any (bytes_eq y) ys) h

in-second : (xs ys : List (List ℕ)) (y : List ℕ) → list_any (bytes_eq y) ys ≡ true → list_any (bytes_eq y) (xs ++ ys) ≡ true
in-second xs ys y h = list_any-append (bytes_eq y) xs ys ∙ ap (λ b. list_any (bytes_eq y) xs || b) h ∙ or-true (list_any (bytes_eq y) xs)
  where
    or-true : (b : Bool) → (b || true) ≡ true
    or-true true = refl
    or-true false = refl

-- The value of an expression is that of its names alone.
module _ (p : ProgramTree) (names names' : List ℕ → Option ℕ) where
  three : (c a b c' a' b' : Option ℕ) → c ≡ c' → a ≡ a' → b ≡ b' → map_three if_value c a b ≡ map_three if_value c' a' b'
  three c a b c' a' b' first second third = ap₂ (λ (i k : Option ℕ). map_three if_value i k b) first second ∙ ap (map_three if_value c' a') third

  pub evaluate-agrees : (e : Tree) → ((y : List ℕ) → IsNamedIn y e → names y ≡ names' y) → evaluate p names e ≡ evaluate p names' e
  evaluate-agrees (Const literal) agree = refl
  evaluate-agrees (Name x) agree = agree x (ap (λ b. b || false) ((bytes_eq-Decides x x).1 refl))
  evaluate-agrees (Unary op a) agree = ap (map_two (unary_value op) (modulus_of p a)) (evaluate-agrees a agree)
  evaluate-agrees (Binary op a b) agree =
      ap₂ (map_three (binary_value op) (modulus_of p a)) (evaluate-agrees a (λ y h. agree y (in-first (names_in a) (names_in b) y h))) (evaluate-agrees b (λ y h. agree y (in-second (names_in a) (names_in b) y h)))
  evaluate-agrees (Shift side a amount) agree = ap (map_two (shift_value side amount) (modulus_of p a)) (evaluate-agrees a agree)
  evaluate-agrees (If c a b) agree =
      let rest = names_in a ++ names_in b in
      three (evaluate p names c) (evaluate p names a) (evaluate p names b) (evaluate p names' c) (evaluate p names' a) (evaluate p names' b)
      (evaluate-agrees c (λ y h. agree y (in-first (names_in c) rest y h)))
      (evaluate-agrees a (λ y h. agree y (in-second (names_in c) rest y (in-first (names_in a) (names_in b) y h))))
      (evaluate-agrees b (λ y h. agree y (in-second (names_in c) rest y (in-second (names_in a) (names_in b) y h))))
  evaluate-agrees (Convert to a) agree = ap (option_map (convert_value to)) (evaluate-agrees a agree)
  evaluate-agrees (Look table index) agree = ap (option_and_then (look_value p table)) (evaluate-agrees index agree)

-- The own name stands for the old state, the others for values.
pub own-agrees : (p : ProgramTree) (s : State) (values values' : List ℕ → Option ℕ) (x : List ℕ) (e : Tree)
    → ((y : List ℕ) → IsNamedIn y e → bytes_eq x y ≡ false → values y ≡ values' y) → evaluate p (stands_for p s values (Some x)) e ≡ evaluate p (stands_for p s values' (Some x)) e
own-agrees p s values values' x e agree = evaluate-agrees p (stands_for p s values (Some x)) (stands_for p s values' (Some x)) e (λ y inside. by_name y inside (bytes_eq x y) refl)
  where
    by_name : (y : List ℕ) → IsNamedIn y e → (b : Bool) → bytes_eq x y ≡ b → (if b then old_state p s else values) y ≡ (if b then old_state p s else values') y
    by_name y inside true same = refl
    by_name y inside false other = agree y inside other

-- What a rule gives is by the values of those alone on which it depends.
rule-agrees : (p : ProgramTree) (s : State) (j : Samples) (values values' : List ℕ → Option ℕ) (x : List ℕ) (rule : Rule)
    → ((y : List ℕ) → list_any (bytes_eq y) (dependencies_by x rule) ≡ true → values y ≡ values' y) → value_by p s j values x rule ≡ value_by p s j values' x rule
rule-agrees p s j values values' x (Always e) agree = evaluate-agrees p values values' e agree
rule-agrees p s j values values' x Sampled agree = refl
rule-agrees p s j values values' x Tabled agree = refl
rule-agrees p s j values values' x (Now e) agree = own-agrees p s values values' x e (λ y inside other. agree y (others-left x y other (names_in e) inside))
rule-agrees p s j values values' x (Later e) agree = refl
rule-agrees p s j values values' x Stays agree = refl

module _ (p : ProgramTree) (s : State) (j : Samples) (event : List ℕ) (causal : IsCausalOn p event) where
  abbrev on : ℕ → List ℕ → Option ℕ
  on k y = value_on p s j event y k

  -- A list of names has each declared one to which a definition leads.
  abbrev HasAll : List ℕ → List (List ℕ) → Type 0
  HasAll x names = (z : List ℕ) (d : DeclTree) (others : List (List ℕ)) → decl_named p.decls z ≡ Some d → DependsThrough p event x others z → list_any (bytes_eq z) names ≡ true

  not-itself : (x z : List ℕ) (others : List (List ℕ)) → DependsThrough p event x others z → bytes_eq x z ≡ false
  not-itself x z others path = by_test (bytes_eq x z) refl
    where
      by_test : (b : Bool) → bytes_eq x z ≡ b → b ≡ false
      by_test false e = refl
      by_test true e = absurd (causal x others (subst (DependsThrough p event x others) (sym ((bytes_eq-Decides x z).0 e)) path))

  next-all : (x y : List ℕ) (names : List (List ℕ)) → DependsOn p event x y → HasAll x names → HasAll y (but y names)
  next-all x y names depends all z d others found path = others-left y z (not-itself y z others path) names (all z d (y ∷ others) found (depends, path))

  undeclared : (k : ℕ) (y : List ℕ) → decl_named p.decls y ≡ None → on k y ≡ on (suc k) y
  undeclared zero y none = sym (ap (option_and_then (λ (d : DeclTree). value_by p s j (on zero) y (rule_on event d.behaviour))) none)
  undeclared (suc k) y none =
      ap (option_and_then (λ (d : DeclTree). value_by p s j (on k) y (rule_on event d.behaviour))) none
      ∙ sym (ap (option_and_then (λ (d : DeclTree). value_by p s j (on (suc k)) y (rule_on event d.behaviour))) none)

  stable-within : (k : ℕ) (names : List (List ℕ)) (x : List ℕ) → length names < k → HasAll x names → on k x ≡ on (suc k) x
  stable-within zero names x short all = absurd (omega (arith, short))
  stable-within (suc k) names x short all = by_found (decl_named p.decls x) refl (λ y depends. by_named y depends (decl_named p.decls y) refl (λ c e less.
      stable-within k (but y names) y less (next-all x y names depends all)))
    where
      by_named : (y : List ℕ) → DependsOn p event x y → (o : Option DeclTree) → decl_named p.decls y ≡ o
          → ((c : DeclTree) → decl_named p.decls y ≡ Some c → length (but y names) < k → on k y ≡ on (suc k) y) → on k y ≡ on (suc k) y
      by_named y depends None e rest = undeclared k y e
      by_named y depends (Some c) e rest = let less = fewer-left y names (all y c [] e depends) in rest c e (omega (arith, less, short))

      by_found : (o : Option DeclTree) → decl_named p.decls x ≡ o → ((y : List ℕ) → DependsOn p event x y → on k y ≡ on (suc k) y) → on (suc k) x ≡ on (suc (suc k)) x
      by_found None e rest = undeclared (suc k) x e
      by_found (Some d) e rest =
          ap (option_and_then (λ (c : DeclTree). value_by p s j (on k) x (rule_on event c.behaviour))) e
          ∙ rule-agrees p s j (on k) (on (suc k)) x (rule_on event d.behaviour) (λ y h.
          rest y (ap (λ o. list_any (bytes_eq y) (elim o [ Some c ↦ dependencies_by x (rule_on event c.behaviour) | None ↦ [] ])) e ∙ h))
          ∙ sym (ap (option_and_then (λ (c : DeclTree). value_by p s j (on (suc k)) x (rule_on event c.behaviour))) e)

  abbrev declared : List (List ℕ)
  declared = map (λ (d : DeclTree). d.name) p.decls

  -- As many definitions deep as there are, each value is that one deeper.
  pub stable-at-depth : (x : List ℕ) → on (depth p) x ≡ on (suc (depth p)) x
  stable-at-depth x = by_found (decl_named p.decls x) refl
    where
      by_found : (o : Option DeclTree) → decl_named p.decls x ≡ o → on (depth p) x ≡ on (suc (depth p)) x
      by_found None e = undeclared (depth p) x e
      by_found (Some d) e =
          let less = fewer-left x declared (declared-is-named p.decls x d e) in
          let long = length-map p.decls (λ (c : DeclTree). c.name) in
          stable-within (depth p) (but x declared) x (omega (arith, less, long))
          (λ z c others found path. others-left x z (not-itself x z others path) declared (declared-is-named p.decls z c found))
