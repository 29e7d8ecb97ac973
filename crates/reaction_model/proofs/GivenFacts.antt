-- Old states and samples, laid out at the numbers of their definitions.
use Rattle.std.specs.Prelude.{◌≡◌, ℕ, ◌+◌, ◌<◌, ◌≤◌, zero, suc, true, false, List, [], ◌∷◌, ◌++◌, length, map, filter, slice_get, Option, Some, if◌then◌else◌, refl}
use Rattle.std.specs.List.{IsDistinct}
use Rattle.std.specs.Str.{bytes_eq}
use Rattle.std.proofs.Common.{sym, ap, subst, ◌∙◌, arith, add-one, append_assoc, drop, drop-cons, get_or}
use Rattle.std.proofs.Math.Nat.{mod-eq_of_lt}
use Rattle.std.proofs.Math.Path.{ap₂}
use Rattle.std.proofs.lemmas.List.{append-nil, drop-drop, drop_all}
use Rattle.std.proofs.lemmas.Bool.{false≢true}
use Rattle.std.proofs.lemmas.Option.{none-some, same_Some}
use Rattle.frp_tree.specs.declared.syntax.Ty.{Ty}
use Rattle.frp_tree.specs.declared.syntax.Ty.TheVariants.{U8, U16}
use Rattle.frp_tree.specs.declared.syntax.Ty.TheVariants as ty
use Rattle.frp_tree.specs.declared.syntax.Value.{Value}
use Rattle.frp_tree.specs.declared.syntax.Value.TheVariants as value
use Rattle.frp_tree.specs.declared.syntax.Behaviour.{Behaviour}
use Rattle.frp_tree.specs.declared.syntax.Behaviour.TheVariants as behaviour
use Rattle.frp_tree.specs.declared.syntax.Clause.{Clause}
use Rattle.frp_tree.specs.declared.syntax.Decl.{Decl}
use Rattle.frp_tree.specs.declared.syntax.Lit.{Lit}
use Rattle.frp_tree.specs.Tree.{BehaviourTree, Plain, Input, Table, Reactive, DeclTree, ProgramTree, behaviour_of, decl_of}
use Rattle.efrp_meaning.specs.Decls.{is_input, is_reactive}
use Rattle.efrp_meaning.specs.Values.{number_of}
use Rattle.efrp_meaning.specs.Meaning.{Samples, value_at}
use Rattle.efrp_meaning.specs.States.{AreValuesOf, AreSamples, NamesDiffer}
use Rattle.reaction_model.specs.States.{IsOf, AreOf, HasTypes, numbers_of}
use Rattle.reaction_model.specs.Values.{nothing, sample_or_nothing, sample_value, value_or_nothing}
use Rattle.reaction_model.specs.Stands.{IsValue, AreGiven}
use Rattle.reaction_model.proofs.NumberFacts.{same-bytes, names, other-name, tail-differs}
use Rattle.reaction_model.proofs.SettledFacts.{at}

-- The first of a row, and those after it.
abbrev pub first : List Value → Value
first vs = value_or_nothing (slice_get vs 0)

abbrev pub sample : List ℕ → Value
sample js = sample_or_nothing js 0

-- For each definition what stands at its number.
abbrev pub laid : List DeclTree → List Value → List ℕ → List Value
laid [] vs js = []
laid (d ∷ ds) vs js = elim d.behaviour [
  | Plain e ↦ nothing ∷ laid ds vs js
  | Input port ↦ sample js ∷ laid ds vs (drop 1 js)
  | Table entries ↦ nothing ∷ laid ds vs js
  | Reactive init clauses ↦ first vs ∷ laid ds (drop 1 vs) js
]

own-value : (t : Ty) (v : Value) → IsOf t v → IsValue (Some t) (Some (number_of v)) v
own-value ty.Bool (value.Bool true) is = (omega arith, refl)
own-value ty.Bool (value.Bool false) is = (omega arith, refl)
own-value U8 (value.U8 n) is = (is, sym (ap value.U8 (mod-eq_of_lt is)))
own-value U16 (value.U16 n) is = (is, sym (ap value.U16 (mod-eq_of_lt is)))
own-value ty.Bool (value.U8 n) is = absurd is
own-value ty.Bool (value.U16 n) is = absurd is
own-value U8 (value.Bool b) is = absurd is
own-value U8 (value.U16 n) is = absurd is
own-value U16 (value.Bool b) is = absurd is
own-value U16 (value.U8 n) is = absurd is

abbrev reactive : List DeclTree → List DeclTree
reactive ds = filter (λ (d : DeclTree). is_reactive d.behaviour) ds

abbrev inputs : List DeclTree → List DeclTree
inputs ds = filter (λ (d : DeclTree). is_input d.behaviour) ds

abbrev AreStates : List DeclTree → List Value → Type 0
AreStates ds vs = AreOf (map (λ (d : DeclTree). d.ty) ds) vs

abbrev AreBytes : List DeclTree → List ℕ → Type 0
AreBytes ds js = AreValuesOf (map (λ (d : DeclTree). U8) ds) js

-- The first state is that of the first definition, and so is the first sample; other definitions have the later ones.
state-here : (c : DeclTree) (cs : List DeclTree) (vs : List Value) → AreStates (c ∷ cs) vs → IsValue (Some c.ty) (value_at (c ∷ cs) (numbers_of vs) c.name) (first vs)
state-here c cs [] are = absurd are
state-here c cs (v ∷ vs) are = let same = same-bytes c.name in rw same (own-value c.ty v are.0)

state-later : (c d : DeclTree) (cs : List DeclTree) (vs : List Value) (v : Value) → AreStates (c ∷ cs) vs → bytes_eq d.name c.name ≡ false
    → (AreStates cs (drop 1 vs) → IsValue (Some d.ty) (value_at cs (numbers_of (drop 1 vs)) d.name) v) → IsValue (Some d.ty) (value_at (c ∷ cs) (numbers_of vs) d.name) v
state-later c d cs [] v are other rest = absurd are
state-later c d cs (w ∷ vs) v are other rest = rw other (rest are.1)

sample-here : (c : DeclTree) (cs : List DeclTree) (js : List ℕ) → AreBytes (c ∷ cs) js → IsValue (Some U8) (value_at (c ∷ cs) js c.name) (sample js)
sample-here c cs [] are = absurd are
sample-here c cs (n ∷ ns) are = let same = same-bytes c.name in rw same (own-value U8 (value.U8 n) are.0)

sample-later : (c d : DeclTree) (cs : List DeclTree) (js : List ℕ) (v : Value) → AreBytes (c ∷ cs) js → bytes_eq d.name c.name ≡ false
    → (AreBytes cs (drop 1 js) → IsValue (Some U8) (value_at cs (drop 1 js) d.name) v) → IsValue (Some U8) (value_at (c ∷ cs) js d.name) v
sample-later c d cs [] v are other rest = absurd are
sample-later c d cs (m ∷ ms) v are other rest = rw other (rest are.1)

abbrev tail-states : (c : DeclTree) (cs : List DeclTree) (vs : List Value) → AreStates (c ∷ cs) vs → AreStates cs (drop 1 vs)
tail-states c cs [] are = absurd are
tail-states c cs (v ∷ vs) are = are.1

abbrev tail-bytes : (c : DeclTree) (cs : List DeclTree) (js : List ℕ) → AreBytes (c ∷ cs) js → AreBytes cs (drop 1 js)
tail-bytes c cs [] are = absurd are
tail-bytes c cs (n ∷ ns) are = are.1

-- A definition's old state or sample is what is laid at its number.
pub record IsLaid (ds : List DeclTree) (vs : List Value) (js : List ℕ) (d : DeclTree) (v : Value) : Type 0 where
  pub state : is_reactive d.behaviour ≡ true → IsValue (Some d.ty) (value_at (reactive ds) (numbers_of vs) d.name) v
  pub read : is_input d.behaviour ≡ true → IsValue (Some U8) (value_at (inputs ds) js d.name) v

-- At the first number.
laid-here : (c : DeclTree) (cs : List DeclTree) (vs : List Value) (js : List ℕ) → AreStates (reactive (c ∷ cs)) vs → AreBytes (inputs (c ∷ cs)) js → IsLaid (c ∷ cs) vs js c (at (laid (c ∷ cs) vs js) 0)
laid-here c cs vs js states bytes = by_behaviour c.behaviour refl states bytes
  where
    by_behaviour : (b : BehaviourTree) → c.behaviour ≡ b → AreStates (if is_reactive b then c ∷ reactive cs else reactive cs) vs → AreBytes (if is_input b then c ∷ inputs cs else inputs cs) js
        → IsLaid (c ∷ cs) vs js c (at (laid (c ∷ cs) vs js) 0)
    by_behaviour (Plain e) is states bytes = record {
      state = λ h. absurd (false≢true (sym (ap is_reactive is) ∙ h));
      read = λ h. absurd (false≢true (sym (ap is_input is) ∙ h));
    }
    by_behaviour (Table entries) is states bytes = record {
      state = λ h. absurd (false≢true (sym (ap is_reactive is) ∙ h));
      read = λ h. absurd (false≢true (sym (ap is_input is) ∙ h));
    }
    by_behaviour (Input port) is states bytes = record {
      state = λ h. absurd (false≢true (sym (ap is_reactive is) ∙ h));
      read = λ h. rw is (sample-here c (inputs cs) js bytes);
    }
    by_behaviour (Reactive init clauses) is states bytes = record {
      state = λ h. rw is (state-here c (reactive cs) vs states);
      read = λ h. absurd (false≢true (sym (ap is_input is) ∙ h));
    }

-- At a later one.
laid-later : (c d : DeclTree) (cs : List DeclTree) (vs : List Value) (js : List ℕ) (n : ℕ) → bytes_eq d.name c.name ≡ false → AreStates (reactive (c ∷ cs)) vs → AreBytes (inputs (c ∷ cs)) js
    → ((ws : List Value) (ks : List ℕ) → AreStates (reactive cs) ws → AreBytes (inputs cs) ks → IsLaid cs ws ks d (at (laid cs ws ks) n))
    → IsLaid (c ∷ cs) vs js d (at (laid (c ∷ cs) vs js) (suc n))
laid-later c d cs vs js n other states bytes rest = by_behaviour c.behaviour refl states bytes
  where
    by_behaviour : (b : BehaviourTree) → c.behaviour ≡ b → AreStates (if is_reactive b then c ∷ reactive cs else reactive cs) vs → AreBytes (if is_input b then c ∷ inputs cs else inputs cs) js
        → IsLaid (c ∷ cs) vs js d (at (laid (c ∷ cs) vs js) (suc n))
    by_behaviour (Plain e) is states bytes =
        let r = rest vs js states bytes in
        record { state = λ h. rw is (r.state h); read = λ h. rw is (r.read h) }
    by_behaviour (Table entries) is states bytes =
        let r = rest vs js states bytes in
        record { state = λ h. rw is (r.state h); read = λ h. rw is (r.read h) }
    by_behaviour (Input port) is states bytes =
        let r = rest vs (drop 1 js) states (tail-bytes c (inputs cs) js bytes) in
        record {
          state = λ h. rw is (r.state h);
          read = λ h. rw is (sample-later c d (inputs cs) js (at (laid cs vs (drop 1 js)) n) bytes other (λ its. r.read h));
        }
    by_behaviour (Reactive init clauses) is states bytes =
        let r = rest (drop 1 vs) js (tail-states c (reactive cs) vs states) bytes in
        record {
          state = λ h. rw is (state-later c d (reactive cs) vs (at (laid cs (drop 1 vs) js) n) states other (λ its. r.state h));
          read = λ h. rw is (r.read h);
        }

all-laid : (ds : List DeclTree) (vs : List Value) (js : List ℕ) → IsDistinct bytes_eq (names ds) → AreStates (reactive ds) vs → AreBytes (inputs ds) js
    → (n : ℕ) (d : DeclTree) → slice_get ds n ≡ Some d → IsLaid ds vs js d (at (laid ds vs js) n)
all-laid [] vs js differ states bytes n d found = absurd (none-some d found)
all-laid (c ∷ cs) vs js differ states bytes zero d found =
    subst (λ k. IsLaid (c ∷ cs) vs js k (at (laid (c ∷ cs) vs js) 0)) (same_Some c d found) (laid-here c cs vs js states bytes)
all-laid (c ∷ cs) vs js differ states bytes (suc n) d found =
    laid-later c d cs vs js n (other-name c d cs n differ found) states bytes (λ ws ks its its'. all-laid cs ws ks (tail-differs c cs differ) its its' n d found)

pub laid-is-given : (p : ProgramTree) → NamesDiffer p → (vs : List Value) (js : Samples) → HasTypes p vs → AreSamples p js → AreGiven p (numbers_of vs) js (laid p.decls vs js)
laid-is-given p differ vs js types are = record {
  states = λ n d found reactive. (all-laid p.decls vs js differ types are n d found).state reactive;
  samples = λ n d found input. (all-laid p.decls vs js differ types are n d found).read input;
}

pub length-laid : (ds : List DeclTree) (vs : List Value) (js : List ℕ) → length (laid ds vs js) ≡ length ds
length-laid [] vs js = refl
length-laid (d ∷ ds) vs js = by_behaviour d.behaviour (length-laid ds)
  where
    by_behaviour : (b : BehaviourTree) → ((ws : List Value) (ks : List ℕ) → length (laid ds ws ks) ≡ length ds)
        → length {A = Value} (elim b [
          | Plain e ↦ nothing ∷ laid ds vs js
          | Input port ↦ sample js ∷ laid ds vs (drop 1 js)
          | Table entries ↦ nothing ∷ laid ds vs js
          | Reactive init clauses ↦ first vs ∷ laid ds (drop 1 vs) js
        ]) ≡ length (d ∷ ds)
    by_behaviour (Plain e) rest = ap suc (rest vs js)
    by_behaviour (Input port) rest = ap suc (rest vs (drop 1 js))
    by_behaviour (Table entries) rest = ap suc (rest vs js)
    by_behaviour (Reactive init clauses) rest = ap suc (rest (drop 1 vs) js)

-- What is laid so far, and what is left to lay from the definition k, the state m and the sample i on, are the whole.
module _ (items : List Decl) (vs : List Value) (js : List ℕ) where
  abbrev pub IsLaidTo : List Value → ℕ → ℕ → ℕ → Type 0
  IsLaidTo values k m i = values ++ laid (map decl_of (drop k items)) (drop m vs) (drop i js) ≡ laid (map decl_of items) vs js

  first-left : (xs : List Value) (m : ℕ) → slice_get (drop m xs) 0 ≡ slice_get xs m
  first-left [] zero = refl
  first-left [] (suc m) = refl
  first-left (x ∷ xs) zero = refl
  first-left (x ∷ xs) (suc m) = first-left xs m

  first-sample-left : (xs : List ℕ) (m : ℕ) → slice_get (drop m xs) 0 ≡ slice_get xs m
  first-sample-left [] zero = refl
  first-sample-left [] (suc m) = refl
  first-sample-left (x ∷ xs) zero = refl
  first-sample-left (x ∷ xs) (suc m) = first-sample-left xs m

  module _ (values : List Value) (k m i : ℕ) (d : Decl) (more : k < length items) (is : d ≡ get_or items k d) (so_far : IsLaidTo values k m i) where
    left : (ws : List Value) (ks : List ℕ) → laid (map decl_of (drop k items)) ws ks ≡ laid (decl_of d ∷ map decl_of (drop (k + 1) items)) ws ks
    left ws ks =
        ap (λ es. laid (map decl_of es) ws ks) (drop-cons items k d more)
        ∙ ap (λ e. laid (map decl_of (e ∷ drop (suc k) items)) ws ks) (sym is)
        ∙ ap (λ n. laid (map decl_of (d ∷ drop n items)) ws ks) (sym (add-one k))

    goes-on : (v : Value) (m' i' : ℕ) → laid (decl_of d ∷ map decl_of (drop (k + 1) items)) (drop m vs) (drop i js) ≡ v ∷ laid (map decl_of (drop (k + 1) items)) (drop m' vs) (drop i' js) → IsLaidTo (values ++ v ∷ []) (k + 1) m' i'
    goes-on v m' i' e =
        append_assoc values (v ∷ []) (laid (map decl_of (drop (k + 1) items)) (drop m' vs) (drop i' js))
        ∙ ap (λ rest. values ++ rest) (sym (left (drop m vs) (drop i js) ∙ e)) ∙ so_far

    pub state-more : (init : Lit) (clauses : List Clause) → d.behaviour ≡ behaviour.Reactive init clauses → IsLaidTo (values ++ value_or_nothing (slice_get vs m) ∷ []) (k + 1) (m + 1) i
    state-more init clauses kind =
        goes-on (value_or_nothing (slice_get vs m)) (m + 1) i
        (rw kind (ap₂ (λ (o : Option Value) (ws : List Value). value_or_nothing o ∷ laid (map decl_of (drop (k + 1) items)) ws (drop i js)) (first-left vs m) (drop-drop 1 m vs)))

    pub input-more : (port : List ℕ) → d.behaviour ≡ behaviour.Input port → IsLaidTo (values ++ sample_or_nothing js i ∷ []) (k + 1) m (i + 1)
    input-more port kind =
        goes-on (sample_or_nothing js i) m (i + 1)
        (rw kind (ap₂ (λ (o : Option ℕ) (ks : List ℕ). sample_value o ∷ laid (map decl_of (drop (k + 1) items)) (drop m vs) ks) (first-sample-left js i) (drop-drop 1 i js)))

    pub other-more : ((init : Lit) (clauses : List Clause) → d.behaviour ≡ behaviour.Reactive init clauses → ⊥) → ((port : List ℕ) → d.behaviour ≡ behaviour.Input port → ⊥) → IsLaidTo (values ++ nothing ∷ []) (k + 1) m i
    other-more no_state no_input = goes-on nothing m i (by_behaviour d.behaviour no_state no_input)
      where
        by_behaviour : (b : Behaviour) → ((init : Lit) (clauses : List Clause) → b ≡ behaviour.Reactive init clauses → ⊥) → ((port : List ℕ) → b ≡ behaviour.Input port → ⊥)
            → laid (record { name = d.name; ty = d.ty; behaviour = behaviour_of b } ∷ map decl_of (drop (k + 1) items)) (drop m vs) (drop i js) ≡ nothing ∷ laid (map decl_of (drop (k + 1) items)) (drop m vs) (drop i js)
        by_behaviour (behaviour.Plain e) r j = refl
        by_behaviour (behaviour.Table entries) r j = refl
        by_behaviour (behaviour.Input port) r j = absurd (j port refl)
        by_behaviour (behaviour.Reactive init clauses) r j = absurd (r init clauses refl)

-- The same of values, a state and a sample that are equal to these.
pub moved : (items : List Decl) (vs : List Value) (js : List ℕ) (values values' : List Value) (k m m' i i' : ℕ) → values' ≡ values → m' ≡ m → i' ≡ i → IsLaidTo items vs js values k m i → IsLaidTo items vs js values' k m' i'
moved items vs js values values' k m m' i i' a b c laid_to =
    subst (λ x. IsLaidTo items vs js x k m' i') (sym a) (subst (λ x. IsLaidTo items vs js values k x i') (sym b) (subst (λ x. IsLaidTo items vs js values k m x) (sym c) laid_to))

-- All are laid.
pub laid-all : (items : List Decl) (vs : List Value) (js : List ℕ) (values : List Value) (k m i : ℕ) → IsLaidTo items vs js values k m i → length items ≤ k → values ≡ laid (map decl_of items) vs js
laid-all items vs js values k m i laid_to end =
    sym (append-nil values) ∙ ap (λ ds. values ++ laid (map decl_of ds) (drop m vs) (drop i js)) (sym (drop_all k items end)) ∙ laid_to
