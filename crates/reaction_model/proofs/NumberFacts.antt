-- Numbers of definitions whose names differ, and numbers that stand once in an order.
use Rattle.std.specs.Prelude.{◌≡◌, ℕ, ◌+◌, zero, suc, Bool, true, false, ◌||◌, ◌==◌, nat_lt, cond, List, [], ◌∷◌, ◌++◌, length, map, slice_get, count_by, Some, None, option_map, option_and_then, refl}
use Rattle.std.specs.List.{AllByRecursion, IsDistinct, list_any, position_or_len}
use Rattle.std.specs.Str.{bytes_eq}
use Rattle.std.proofs.Common.{sym, ap, subst, ◌∙◌, arith, eq-eqb, get_or}
use Rattle.std.proofs.lemmas.Bool.{false≢true, lt-ltb}
use Rattle.std.proofs.lemmas.List.Sums.{sum_by-append, sum_by-cons}
use Rattle.std.proofs.lemmas.List.Quantifiers.{position-Some}
use Rattle.std.proofs.lemmas.Option.{none-some, same_Some, slice_get_within, slice_get-get_or, slice_get-map}
use Rattle.std.proofs.lemmas.Slice.Eq.{bytes_eq-Decides}
use Rattle.frp_tree.specs.declared.syntax.Ty.TheVariants.{U8}
use Rattle.frp_tree.specs.Tree.{Input, DeclTree, ProgramTree}
use Rattle.efrp_meaning.specs.Decls.{decl_named}
use Rattle.efrp_meaning.specs.States.{NamesDiffer}
use Rattle.efrp_types.specs.Numbers.{decl_number}
use Rattle.reaction_model.proofs.LookupFacts.{named-at}

-- What holds of each holds of the one at a place.
pub each-at : {A : Type 0} (P : A → Type 0) (xs : List A) (i : ℕ) (x : A) → AllByRecursion P xs → slice_get xs i ≡ Some x → P x
each-at P [] i x all found = absurd (none-some x found)
each-at P (y ∷ ys) zero x all found = subst P (same_Some y x found) all.0
each-at P (y ∷ ys) (suc i) x all found = each-at P ys i x all.1 found

pub same-bytes : (x : List ℕ) → bytes_eq x x ≡ true
same-bytes x = (bytes_eq-Decides x x).1 refl

pub turned : (a b : List ℕ) → bytes_eq a b ≡ false → bytes_eq b a ≡ false
turned a b e = by_test (bytes_eq b a) refl
  where
    by_test : (k : Bool) → bytes_eq b a ≡ k → k ≡ false
    by_test false f = refl
    by_test true f = absurd (false≢true (sym e ∙ (bytes_eq-Decides a b).1 (sym ((bytes_eq-Decides b a).0 f))))

first-at : {A : Type 0} (test : A → Bool) (x : A) (xs : List A) → test x ≡ true → position_or_len test (x ∷ xs) ≡ 0
first-at test x xs e = rw e refl

next-at : {A : Type 0} (test : A → Bool) (x : A) (xs : List A) → test x ≡ false → position_or_len test (x ∷ xs) ≡ suc (position_or_len test xs)
next-at test x xs e = rw e (omega arith)

abbrev pub names : List DeclTree → List (List ℕ)
names ds = map (λ (d : DeclTree). d.name) ds

pub other-name : (c d : DeclTree) (cs : List DeclTree) (n : ℕ) → IsDistinct bytes_eq (names (c ∷ cs)) → slice_get cs n ≡ Some d → bytes_eq d.name c.name ≡ false
unfolding IsDistinct
other-name c d cs n differ found =
    turned c.name d.name (each-at (λ (name : List ℕ). bytes_eq c.name name ≡ false) (names cs) n d.name differ.0 (slice_get-map (λ (k : DeclTree). k.name) cs n ∙ ap (option_map (λ (k : DeclTree). k.name)) found))

pub tail-differs : (c : DeclTree) (cs : List DeclTree) → IsDistinct bytes_eq (names (c ∷ cs)) → IsDistinct bytes_eq (names cs)
unfolding IsDistinct
tail-differs c cs differ = differ.1

place-of : (ds : List DeclTree) (n : ℕ) (d : DeclTree) → IsDistinct bytes_eq (names ds) → slice_get ds n ≡ Some d → position_or_len (λ (c : DeclTree). bytes_eq d.name c.name) ds ≡ n
place-of [] n d differ found = absurd (none-some d found)
place-of (c ∷ cs) zero d differ found =
    first-at (λ (k : DeclTree). bytes_eq d.name k.name) c cs (subst (λ (k : DeclTree). bytes_eq d.name k.name ≡ true) (sym (same_Some c d found)) (same-bytes d.name))
place-of (c ∷ cs) (suc n) d differ found =
    next-at (λ (k : DeclTree). bytes_eq d.name k.name) c cs (other-name c d cs n differ found) ∙ ap suc (place-of cs n d (tail-differs c cs differ) found)

module _ (p : ProgramTree) (differ : NamesDiffer p) (n : ℕ) (d : DeclTree) (found : slice_get p.decls n ≡ Some d) where
  pub number-at : decl_number p d.name ≡ Some n
  number-at =
      ap (λ k. cond (nat_lt k (length p.decls)) (Some k) None) (place-of p.decls n d differ found)
      ∙ ap (λ b. cond b (Some n) None) (lt-ltb n (length p.decls) (slice_get_within p.decls n d found))

  pub name-finds : decl_named p.decls d.name ≡ Some d
  name-finds = named-at p d.name ∙ ap (option_and_then (slice_get p.decls)) number-at ∙ found

-- The definition of a name that has a number.
pub record IsAt (p : ProgramTree) (y : List ℕ) (k : ℕ) : Type 0 where
  pub decl : DeclTree
  pub there : slice_get p.decls k ≡ Some decl
  pub found : decl_named p.decls y ≡ Some decl
  pub name : decl.name ≡ y

pub by-number : (p : ProgramTree) (y : List ℕ) (k : ℕ) → decl_number p y ≡ Some k → IsAt p y k
by-number p y k e =
    let some : DeclTree = record { name = []; ty = U8; behaviour = Input [] } in
    let at = position-Some (λ (c : DeclTree). bytes_eq y c.name) p.decls k some e in
    let there = slice_get-get_or p.decls k some at.0 in
    record {
      decl = get_or p.decls k some;
      there = there;
      found = named-at p y ∙ ap (option_and_then (slice_get p.decls)) e ∙ there;
      name = sym ((bytes_eq-Decides y (get_or p.decls k some).name).0 at.1);
    }

-- Numbers in an order.
abbrev pub has : List ℕ → ℕ → Bool
has numbers n = list_any (λ m. m == n) numbers

count-cons : {A : Type 0} (test : A → Bool) (x : A) (xs : List A) → count_by test (x ∷ xs) ≡ cond (test x) 1 0 + count_by test xs
count-cons test x xs = sum_by-cons (λ y. cond (test y) 1 0) x xs

none-of : {A : Type 0} (test : A → Bool) (xs : List A) → count_by test xs ≡ 0 → list_any test xs ≡ false
none-of test [] e = refl
none-of test (x ∷ xs) e = by_test (test x) (sym (count-cons test x xs) ∙ e) (none-of test xs)
  where
    by_test : (b : Bool) → cond b 1 0 + count_by test xs ≡ 0 → (count_by test xs ≡ 0 → list_any test xs ≡ false) → (b || list_any test xs) ≡ false
    by_test true e rest = absurd (omega arith)
    by_test false e rest = rest (omega arith)

pub one-is-some : {A : Type 0} (test : A → Bool) (xs : List A) → count_by test xs ≡ 1 → list_any test xs ≡ true
one-is-some test [] e = absurd (omega arith)
one-is-some test (x ∷ xs) e = by_test (test x) (sym (count-cons test x xs) ∙ e) (one-is-some test xs)
  where
    by_test : (b : Bool) → cond b 1 0 + count_by test xs ≡ 1 → (count_by test xs ≡ 1 → list_any test xs ≡ true) → (b || list_any test xs) ≡ true
    by_test true e rest = refl
    by_test false e rest = rest (omega arith)

-- One that stands once in the whole doesn't stand before its place.
pub not-before : (front rest : List ℕ) (i : ℕ) → count_by (λ m. m == i) (front ++ i ∷ rest) ≡ 1 → has front i ≡ false
not-before front rest i once =
    let split = sum_by-append (λ m. cond (m == i) 1 0) front (i ∷ rest) in
    let next = count-cons (λ m. m == i) i rest in
    let here : ◌≡◌ {A = ℕ} (cond (i == i) 1 0) 1 = ap (λ b. cond b 1 0) (eq-eqb i i refl) in
    none-of (λ m. m == i) front (omega (arith, split, next, here))
