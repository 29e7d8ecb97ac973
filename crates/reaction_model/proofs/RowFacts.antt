-- Rows in memory and rows of trees; and what is known of a program that is checked.
use Rattle.std.specs.Prelude.{◌≡◌, ℕ, ◌<◌, ◌≤◌, List, [], ◌++◌, length, map, slice_get, Some, None, option_map, refl}
use Rattle.std.proofs.Common.{sym, ap, subst, ◌∙◌, arith, take, drop, get_or}
use Rattle.std.proofs.Math.Path.{ap₂}
use Rattle.std.proofs.lemmas.List.{append-nil, drop_all, length-map, take_all}
use Rattle.std.proofs.lemmas.Option.{slice_get-map, slice_get_read, slice_get-get_or}
use Rattle.frp_tree.specs.declared.syntax.Event.{Event}
use Rattle.frp_tree.specs.Tree.{ProgramTree}
use Rattle.efrp_meaning.specs.Causal.{IsCausal, IsCausalOn}
use Rattle.efrp_meaning.specs.Meaning.{State, Samples, map_two, new_state, port_values, react}
use Rattle.efrp_meaning.specs.States.{NamesDiffer}
use Rattle.efrp_meaning.specs.Types.{IsTyped}
use Rattle.efrp_types.specs.Laws.{IsWellFormed}
use Rattle.efrp_types.specs.Numbers.{event_name}
use Rattle.efrp_types.specs.Passes.{IsChecked}
use Rattle.efrp_types.proofs.TypedLaws.{no-fault-is-typed}
use Rattle.efrp_types.proofs.GoodLaws.{no-fault-is-good}
use Rattle.reaction_model.proofs.NumberFacts.{each-at}

-- All items of a row that is gone through are those of the whole.
pub whole : {A : Type 0} (xs ys : List A) (i : ℕ) → xs ≡ ys → length xs ≤ i → take i xs ≡ ys
whole xs ys i same end = take_all i xs end ∙ same

pub is-typed : (p : ProgramTree) → IsChecked p → IsWellFormed p → IsTyped p
is-typed p checked formed = (no-fault-is-typed p formed checked.names checked.types).0

pub names-differ : (p : ProgramTree) → IsChecked p → NamesDiffer p
names-differ p checked = (no-fault-is-good p checked.names).decls_differ

-- An item in memory is the tree at its place.
pub tree-at : {A B : Type 0} (g : A → B) (xs ys : List A) (i : ℕ) (x : A) → xs ≡ ys → i < length xs → x ≡ get_or xs i x → slice_get (map g ys) i ≡ Some (g x)
tree-at g xs ys i x same inside is =
    slice_get-map g ys i ∙ ap (option_map g) (ap (λ zs. slice_get zs i) (sym same) ∙ slice_get_read xs (length xs) i x refl inside is)

pub whole-trees : {A B : Type 0} (g : A → B) (xs ys : List A) (i : ℕ) → xs ≡ ys → length xs ≤ i → take i (map g ys) ≡ map g ys
whole-trees g xs ys i same end = let longs = ap length same in let maps = length-map ys g in take_all i (map g ys) (omega (arith, longs, maps, end))

-- On each of a causal program's events none depends on itself.
pub causal-at : (p : ProgramTree) → IsCausal p → (n : ℕ) → n < length p.events → IsCausalOn p (event_name p n)
causal-at p causal n inside =
    let some : Event = record { name = []; source = []; priority = 0 } in
    let found = slice_get-get_or p.events n some inside in
    subst (IsCausalOn p) (sym (ap (λ o. elim o [ Some e ↦ e.name | None ↦ [] ]) found)) (each-at (λ (e : Event). IsCausalOn p e.name) p.events n (get_or p.events n some) causal found)

-- A reaction, by its new state and its port values.
pub reacts : (p : ProgramTree) (s : State) (j : Samples) (event : List ℕ) (new ports : List ℕ) → new_state p s j event ≡ Some new → port_values p s j event ≡ Some ports → react p s j event ≡ Some (record { state = new; ports = ports })
reacts p s j event new ports first second = ap₂ (map_two (λ (n values : List ℕ). record { state = n; ports = values })) first second

-- What is written back over a whole row is the row.
pub written-back : {A : Type 0} (new old : List A) (n : ℕ) → length new ≡ length old → n ≡ length old → take n (new ++ drop (length new) old) ≡ new
written-back new old n same long =
    ap (λ rest. take n (new ++ rest)) (drop_all (length new) old (omega (arith, same))) ∙ ap (take n) (append-nil new) ∙ take_all n new (omega (arith, same, long))
