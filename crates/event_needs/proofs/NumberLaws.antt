-- Definitions of a program that is checked by name and by number, and numbers in a row.
use Rattle.std.specs.Prelude.{◌≡◌, ℕ, zero, suc, ◌<◌, ◌≤◌, Bool, true, false, ◌||◌, cond, count_by, List, [], ◌∷◌, length, map, take, find, slice_get, Some, None, option_map, option_and_then, if◌then◌else◌, refl}
use Rattle.std.specs.List.{AllByRecursion, list_any}
use Rattle.std.specs.Str.{bytes_eq}
use Rattle.std.proofs.Common.{sym, ap, ◌∙◌, arith, get_or}
use Rattle.std.proofs.lemmas.Bool.{false≢true}
use Rattle.std.proofs.lemmas.List.{length-map, take_all}
use Rattle.std.proofs.lemmas.List.Sums.{sum_by-cons}
use Rattle.std.proofs.lemmas.List.Quantifiers.{position-Some}
use Rattle.std.proofs.lemmas.Option.{get_or_from_slice_get, same_Some, slice_get-get_or, slice_get-map, slice_get_read}
use Rattle.std.proofs.lemmas.Slice.Eq.{bytes_eq-Decides}
use Rattle.frp_tree.specs.declared.syntax.Event.{Event}
use Rattle.frp_tree.specs.Tree.{DeclTree, ProgramTree, program_tree_of}
use Rattle.efrp_meaning.specs.Decls.{decl_named}
use Rattle.efrp_meaning.specs.States.{NamesDiffer}
use Rattle.efrp_types.specs.Numbers.{decl_number, event_name}
use Rattle.efrp_types.specs.Passes.{IsChecked}
use Rattle.efrp_types.proofs.GoodLaws.{no-fault-is-good}
use Rattle.efrp_types.proofs.NumberLaws.{by_number, numbers-agree}
use Rattle.causality.specs.declared.checked.Checked.{Checked}

pub checked-differ : (p : ProgramTree) → IsChecked p → NamesDiffer p
checked-differ p checked = (no-fault-is-good p checked.names).decls_differ

pub names-differ : (c : Checked) → NamesDiffer (program_tree_of c.typed.program)
names-differ c = checked-differ (program_tree_of c.typed.program) c.typed.checked

pub same-name : (x : List ℕ) → bytes_eq x x ≡ true
same-name x = (bytes_eq-Decides x x).1 refl

-- The number of a definition is its place, and a name stands for the definition that has it.
module _ (p : ProgramTree) (differ : NamesDiffer p) where
  pub own-number : (n : ℕ) (d : DeclTree) → slice_get p.decls n ≡ Some d → decl_number p d.name ≡ Some n
  own-number n d at = (numbers-agree p).own_decls differ n d at

  pub own-decl : (n : ℕ) (d : DeclTree) → slice_get p.decls n ≡ Some d → decl_named p.decls d.name ≡ Some d
  own-decl n d at = by_number p d.name ∙ ap (option_and_then (slice_get p.decls)) (own-number n d at) ∙ at

  -- Of one name there is one place.
  pub same-place : (m n : ℕ) (c d : DeclTree) → slice_get p.decls m ≡ Some c → slice_get p.decls n ≡ Some d → bytes_eq c.name d.name ≡ true → m ≡ n
  same-place m n c d at there same = same_Some m n (sym (own-number m c at) ∙ ap (decl_number p) ((bytes_eq-Decides c.name d.name).0 same) ∙ own-number n d there)

-- An item in memory is the tree at its place.
pub tree-at : {A B : Type 0} (g : A → B) (xs ys : List A) (i : ℕ) (x : A) → xs ≡ ys → i < length xs → x ≡ get_or xs i x → slice_get (map g ys) i ≡ Some (g x)
tree-at g xs ys i x same inside is =
    slice_get-map g ys i ∙ ap (option_map g) (ap (λ zs. slice_get zs i) (sym same) ∙ slice_get_read xs (length xs) i x refl inside is)

-- The name of an event within the row.
pub event-at : (p : ProgramTree) (events : List Event) (n : ℕ) (e : Event) → events ≡ p.events → n < length p.events → (get_or events n e).name ≡ event_name p n
event-at p events n e same inside =
    ap (λ es. (get_or es n e).name) same ∙ sym (ap (λ o. elim o [ Some k ↦ k.name | None ↦ [] ]) (slice_get-get_or p.events n e inside))

-- A name that has a number is that of the definition there.
pub numbered-name : (p : ProgramTree) (x : List ℕ) (n : ℕ) (d : DeclTree) → decl_number p x ≡ Some n → slice_get p.decls n ≡ Some d → bytes_eq x d.name ≡ true
numbered-name p x n d number at =
    let found = position-Some (λ (c : DeclTree). bytes_eq x c.name) p.decls n d number in
    ap (λ (c : DeclTree). bytes_eq x c.name) (sym (get_or_from_slice_get p.decls n d d at)) ∙ found.1

pub find-mapped : {A B : Type 0} (test : B → Bool) (g : A → B) (xs : List A) → find test (map g xs) ≡ option_map g (find (λ x. test (g x)) xs)
find-mapped test g [] = refl
find-mapped test g (x ∷ xs) = by_test (test (g x)) (find-mapped test g xs)
  where
    by_test : (b : Bool) → find test (map g xs) ≡ option_map g (find (λ y. test (g y)) xs) → (if b then Some (g x) else find test (map g xs)) ≡ option_map g (if b then Some x else find (λ y. test (g y)) xs)
    by_test true rest = refl
    by_test false rest = rest

-- What is in a list counts.
pub some-count : {A : Type 0} (test : A → Bool) (xs : List A) → list_any test xs ≡ true → 1 ≤ count_by test xs
some-count test [] h = absurd (false≢true h)
some-count test (x ∷ xs) h = by_test (test x) refl h (some-count test xs)
  where
    by_test : (b : Bool) → test x ≡ b → (b || list_any test xs) ≡ true → (list_any test xs ≡ true → 1 ≤ count_by test xs) → 1 ≤ count_by test (x ∷ xs)
    by_test true e h rest = let split = sum_by-cons (λ y. cond (test y) 1 0) x xs in let one : ◌≡◌ {A = ℕ} (cond (test x) 1 0) 1 = ap (λ b. cond b 1 0) e in omega (arith, split, one)
    by_test false e h rest = let split = sum_by-cons (λ y. cond (test y) 1 0) x xs in let more = rest h in omega (arith, split, more)

pub count-some : {A : Type 0} (test : A → Bool) (xs : List A) → 1 ≤ count_by test xs → list_any test xs ≡ true
count-some test [] h = absurd (omega (arith, h))
count-some test (x ∷ xs) h = by_test (test x) refl (count-some test xs)
  where
    by_test : (b : Bool) → test x ≡ b → (1 ≤ count_by test xs → list_any test xs ≡ true) → (b || list_any test xs) ≡ true
    by_test true e rest = refl
    by_test false e rest =
        let split = sum_by-cons (λ y. cond (test y) 1 0) x xs in let none : ◌≡◌ {A = ℕ} (cond (test x) 1 0) 0 = ap (λ b. cond b 1 0) e in rest (omega (arith, split, none, h))

-- What holds of each holds of the one at a place.
pub each-get : (P : ℕ → Type 0) (xs : List ℕ) (k : ℕ) → AllByRecursion P xs → k < length xs → P (get_or xs k 0)
each-get P [] k all less = absurd (omega (arith, less))
each-get P (x ∷ xs) zero all less = all.0
each-get P (x ∷ xs) (suc k) all less = each-get P xs k all.1 (omega (arith, less))

pub whole-trees : {A B : Type 0} (g : A → B) (xs ys : List A) (i : ℕ) → xs ≡ ys → length xs ≤ i → take i (map g ys) ≡ map g ys
whole-trees g xs ys i same end = let longs = ap length same in let maps = length-map ys g in take_all i (map g ys) (omega (arith, longs, maps, end))
