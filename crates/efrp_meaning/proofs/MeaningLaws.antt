-- Laws of values, reactions and serial runs, for every program.
use Rattle.std.specs.Prelude.{◌≡◌, ℕ, zero, suc, List, [], ◌∷◌, ◌++◌, Option, Some, None, Bool, true, false, refl, option_map, option_and_then, if◌then◌else◌}
use Rattle.std.specs.Str.{bytes_eq}
use Rattle.std.proofs.Common.{sym, ap, ◌∙◌}
use Rattle.frp_tree.specs.Tree.{Tree, Const, Name, Unary, Binary, Shift, If, Convert, Look, DeclTree, ProgramTree}
use Rattle.efrp_meaning.specs.Decls.{decl_named}
use Rattle.efrp_meaning.specs.Values.{unary_value, binary_value, shift_value, if_value, convert_value}
use Rattle.efrp_meaning.specs.Meaning.{State, Samples, map_two, map_three, Rule, Always, Sampled, Tabled, Now, Later, Stays, rule_on, old_state, sample_of, modulus_of, look_value, evaluate, stands_for, value_by, value_on, expression_on, serial}

module _ (p : ProgramTree) (s : State) (j : Samples) (event x : List ℕ) (k : ℕ) (d : DeclTree) (found : decl_named p.decls x ≡ Some d) where
  -- The value of a definition by its rule, one deeper than those of the definitions that it names.
  pub value_on-always : (e : Tree) → rule_on event d.behaviour ≡ Always e → value_on p s j event x (suc k) ≡ expression_on p s j event e None k
  value_on-always e rule = rw (found, rule) refl

  pub value_on-now : (e : Tree) → rule_on event d.behaviour ≡ Now e → value_on p s j event x (suc k) ≡ expression_on p s j event e (Some x) k
  value_on-now e rule = rw (found, rule) refl

  pub value_on-sampled : rule_on event d.behaviour ≡ Sampled → value_on p s j event x (suc k) ≡ sample_of p j x
  value_on-sampled rule = rw (found, rule) refl

  pub value_on-later : (e : Tree) → rule_on event d.behaviour ≡ Later e → value_on p s j event x (suc k) ≡ old_state p s x
  value_on-later e rule = rw (found, rule) refl

  pub value_on-stays : rule_on event d.behaviour ≡ Stays → value_on p s j event x (suc k) ≡ old_state p s x
  value_on-stays rule = rw (found, rule) refl

-- Where the first is defined, so is the second, and has the same value.
abbrev IsKept : Option ℕ → Option ℕ → Type 0
IsKept a b = (n : ℕ) → a ≡ Some n → b ≡ Some n

map_two-kept : (f : ℕ → ℕ → ℕ) (a b a' b' : Option ℕ) → IsKept a a' → IsKept b b' → IsKept (map_two f a b) (map_two f a' b')
map_two-kept f (Some a) (Some b) a' b' first second n e = rw (first a refl, second b refl) e
map_two-kept f (Some a) None a' b' first second n e = cc
map_two-kept f None b a' b' first second n e = cc

map_three-kept : (f : ℕ → ℕ → ℕ → ℕ) (a b c a' b' c' : Option ℕ) → IsKept a a' → IsKept b b' → IsKept c c' → IsKept (map_three f a b c) (map_three f a' b' c')
map_three-kept f (Some a) (Some b) (Some c) a' b' c' first second third n e = rw (first a refl, second b refl, third c refl) e
map_three-kept f (Some a) (Some b) None a' b' c' first second third n e = cc
map_three-kept f (Some a) None c a' b' c' first second third n e = cc
map_three-kept f None b c a' b' c' first second third n e = cc

option_map-kept : (f : ℕ → ℕ) (a a' : Option ℕ) → IsKept a a' → IsKept (option_map f a) (option_map f a')
option_map-kept f (Some a) a' kept n e = rw (kept a refl) e
option_map-kept f None a' kept n e = cc

and_then-kept : (f : ℕ → Option ℕ) (a a' : Option ℕ) → IsKept a a' → IsKept (option_and_then f a) (option_and_then f a')
and_then-kept f (Some a) a' kept n e = rw (kept a refl) e
and_then-kept f None a' kept n e = cc

module _ (p : ProgramTree) (names names' : List ℕ → Option ℕ) (kept : (x : List ℕ) → IsKept (names x) (names' x)) where
  evaluate-kept : (e : Tree) → IsKept (evaluate p names e) (evaluate p names' e)
  evaluate-kept (Const literal) n found = found
  evaluate-kept (Name x) n found = kept x n found
  evaluate-kept (Unary op a) n found = map_two-kept (unary_value op) (modulus_of p a) (evaluate p names a) (modulus_of p a) (evaluate p names' a) (λ m h. h) (evaluate-kept a) n found
  evaluate-kept (Binary op a b) n found = map_three-kept (binary_value op) (modulus_of p a) (evaluate p names a) (evaluate p names b) (modulus_of p a) (evaluate p names' a) (evaluate p names' b) (λ m h. h) (evaluate-kept a) (evaluate-kept b) n found
  evaluate-kept (Shift side a amount) n found = map_two-kept (shift_value side amount) (modulus_of p a) (evaluate p names a) (modulus_of p a) (evaluate p names' a) (λ m h. h) (evaluate-kept a) n found
  evaluate-kept (If c a b) n found = map_three-kept if_value (evaluate p names c) (evaluate p names a) (evaluate p names b) (evaluate p names' c) (evaluate p names' a) (evaluate p names' b) (evaluate-kept c) (evaluate-kept a) (evaluate-kept b) n found
  evaluate-kept (Convert to a) n found = option_map-kept (convert_value to) (evaluate p names a) (evaluate p names' a) (evaluate-kept a) n found
  evaluate-kept (Look table index) n found = and_then-kept (look_value p table) (evaluate p names index) (evaluate p names' index) (evaluate-kept index) n found

own_or-kept : (own : Bool) (old values values' : List ℕ → Option ℕ) → ((x : List ℕ) → IsKept (values x) (values' x)) → (x : List ℕ) → IsKept ((if own then old else values) x) ((if own then old else values') x)
own_or-kept true old values values' kept x n found = found
own_or-kept false old values values' kept x n found = kept x n found

module _ (p : ProgramTree) (s : State) (j : Samples) (values values' : List ℕ → Option ℕ) (kept : (x : List ℕ) → IsKept (values x) (values' x)) where
  stands_for-kept : (own : Option (List ℕ)) (x : List ℕ) → IsKept (stands_for p s values own x) (stands_for p s values' own x)
  stands_for-kept None x = kept x
  stands_for-kept (Some own) x = own_or-kept (bytes_eq own x) (old_state p s) values values' kept x

  value_by-kept : (x : List ℕ) (rule : Rule) → IsKept (value_by p s j values x rule) (value_by p s j values' x rule)
  value_by-kept x (Always e) = evaluate-kept p (stands_for p s values None) (stands_for p s values' None) (stands_for-kept None) e
  value_by-kept x Sampled = λ n found. found
  value_by-kept x Tabled = λ n found. found
  value_by-kept x (Now e) = evaluate-kept p (stands_for p s values (Some x)) (stands_for p s values' (Some x)) (stands_for-kept (Some x)) e
  value_by-kept x (Later e) = λ n found. found
  value_by-kept x Stays = λ n found. found

  value_of-kept : (event x : List ℕ) (found : Option DeclTree) → IsKept (option_and_then (λ d. value_by p s j values x (rule_on event d.behaviour)) found) (option_and_then (λ d. value_by p s j values' x (rule_on event d.behaviour)) found)
  value_of-kept event x None = λ n e. e
  value_of-kept event x (Some d) = value_by-kept x (rule_on event d.behaviour)

-- A value that is found at some depth is found at every greater one, and is the same there.
module _ (p : ProgramTree) (s : State) (j : Samples) (event : List ℕ) where
  pub value_on-deeper : (k : ℕ) (x : List ℕ) (n : ℕ) → value_on p s j event x k ≡ Some n → value_on p s j event x (suc k) ≡ Some n
  value_on-deeper zero x n found = cc
  value_on-deeper (suc k) x n found =
      value_of-kept p s j (λ y. value_on p s j event y k) (λ y. value_on p s j event y (suc k)) (value_on-deeper k) event x (decl_named p.decls x) n found

  -- The values solve the equations, at whatever depth they are defined.
  pub value_on-solves : (k : ℕ) (x : List ℕ) (n : ℕ) (d : DeclTree) → decl_named p.decls x ≡ Some d → value_on p s j event x k ≡ Some n → value_by p s j (λ y. value_on p s j event y k) x (rule_on event d.behaviour) ≡ Some n
  value_on-solves zero x n d is found = cc
  value_on-solves (suc k) x n d is found =
      value_by-kept p s j (λ y. value_on p s j event y k) (λ y. value_on p s j event y (suc k)) (value_on-deeper k) x (rule_on event d.behaviour) n (
      sym (ap (option_and_then (λ c. value_by p s j (λ y. value_on p s j event y k) x (rule_on event c.behaviour))) is) ∙ found)
