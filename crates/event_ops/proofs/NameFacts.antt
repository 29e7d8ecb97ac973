-- Names and definitions of a program, and the place of each in a draft.
use Rattle.std.specs.List.{AllByRecursion, list_any}
use Rattle.std.proofs.Common.{◌≡◌, ℕ, ◌+◌, ◌*◌, ◌<◌, ◌≤◌, ◌&&◌, ◌||◌, ◌==◌, Bool, true, false, List, [], ◌∷◌, ◌++◌, map, slice_get, Option, Some, None, if◌then◌else◌, option_and_then, refl, sym, ap, subst, ◌∙◌}
use Rattle.std.proofs.lemmas.Bool.{false≢true}
use Rattle.std.proofs.lemmas.List.Folds.{list_any-append}
use Rattle.std.proofs.lemmas.Option.{none-some, same_Some}
use Rattle.std.proofs.lemmas.Slice.Eq.{bytes_eq-Decides}
use Rattle.frp_tree.specs.declared.syntax.Ty.{Ty}
use Rattle.frp_tree.specs.Tree.{DeclTree, ProgramTree}
use Rattle.efrp_meaning.specs.Decls.{decl_named, is_table}
use Rattle.efrp_meaning.specs.States.{HasValue}
use Rattle.efrp_meaning.specs.Types.{type_of_name, value_type}
use Rattle.efrp_meaning.specs.Values.{modulus}
use Rattle.efrp_types.specs.Numbers.{decl_number}
use Rattle.efrp_types.proofs.NumberLaws.{decl_number_agrees}
use Rattle.event_needs.proofs.NumberLaws.{numbered-name}
use Rattle.byte_ops.specs.declared.operations.Pair.{Pair}
use Rattle.byte_ops.specs.Cells.{cells_of, held}
use Rattle.expr_lower.specs.declared.cells.Cells.{Cells}
use Rattle.expr_lower.specs.declared.places.Place.{Place}
use Rattle.expr_lower.specs.Places.{AreCellsOf, IsPlaced, cells_of_name, cells_of_place}
use Rattle.expr_lower.proofs.LowerLaws.{more-given, stands}
use Rattle.two_phase.specs.declared.plans.Assign.{Assign}
use Rattle.two_phase.specs.Plans.{assigns, same_kind}
use Rattle.event_ops.specs.Drafts.{is_set}

-- What holds of each cell of a pair.
pub all-cells : (P : ℕ → Type 0) (w : Bool) (pair : Pair) → P pair.low → P pair.high → AllByRecursion P (cells_of w pair)
all-cells P false pair low high = (low, tt)
all-cells P true pair low high = (low, (high, tt))

pub held-same : (w : Bool) (pair : Pair) (f g : ℕ → ℕ) → AllByRecursion (λ cell. f cell ≡ g cell) (cells_of w pair) → held w pair f ≡ held w pair g
held-same false pair f g all = all.0
held-same true pair f g all = ap (λ x. x + 256 * f pair.high) all.0 ∙ ap (λ x. g pair.low + 256 * x) all.1.0

pub each-cell : (P Q : ℕ → Type 0) (w : Bool) (pair : Pair) → ((cell : ℕ) → P cell → Q cell) → AllByRecursion P (cells_of w pair) → AllByRecursion Q (cells_of w pair)
each-cell P Q false pair go all = (go pair.low all.0, tt)
each-cell P Q true pair go all = (go pair.low all.0, (go pair.high all.1.0, tt))

-- Cells of a program are so by their places and by how many are given out.
pub still-ours : (p : ProgramTree) (before after : Cells) → AreCellsOf p before → after.places.items ≡ before.places.items → before.next ≤ after.next → after.next ≤ 65536 → AreCellsOf p after
still-ours p before after ours same less few =
    let more = more-given p before after.next less few ours in
    record { types = subst (λ (items : List Place). map (λ (place : Place). place.ty) items ≡ map (λ (d : DeclTree). d.ty) p.decls) (sym same) more.types; placed = subst (λ (items : List Place). AllByRecursion (IsPlaced after.next) items) (sym same) more.placed; few = few }

-- Whether one assignment more is one of a definition.
pub any-more : (n : ℕ) (next : Bool) (front : List Assign) (a : Assign) → list_any (assigns n next) (front ++ a ∷ []) ≡ (list_any (assigns n next) front || (assigns n next a || false))
any-more n next front a = list_any-append (assigns n next) front (a ∷ [])

pub set-more : (n : ℕ) (front : List Assign) (a : Assign) → is_set n (front ++ a ∷ []) ≡ (is_set n front || ((a.decl == n) || false))
set-more n front a = list_any-append (λ (x : Assign). x.decl == n) front (a ∷ [])

pub kind-is : (a b : Bool) → same_kind a b ≡ true → a ≡ b
kind-is true true h = refl
kind-is true false h = absurd (false≢true h)
kind-is false true h = absurd (false≢true h)
kind-is false false h = refl

pub own-kind : (b : Bool) → same_kind b b ≡ true
own-kind true = refl
own-kind false = refl

-- One that is assigned in some way is assigned.
pub any-set : (n : ℕ) (next : Bool) (front : List Assign) → list_any (assigns n next) front ≡ true → is_set n front ≡ true
any-set n next [] h = absurd (false≢true h)
any-set n next (a ∷ later) h = by_test (a.decl == n) (same_kind a.next next) h (any-set n next later)
  where
    by_test : (b k : Bool) → ((b && k) || list_any (assigns n next) later) ≡ true → (list_any (assigns n next) later ≡ true → is_set n later ≡ true) → (b || is_set n later) ≡ true
    by_test true k h rest = refl
    by_test false k h rest = rest h

-- And one that is assigned in no way isn't.
pub none-set : (n : ℕ) (front : List Assign) → list_any (assigns n false) front ≡ false → list_any (assigns n true) front ≡ false → is_set n front ≡ false
none-set n [] h g = refl
none-set n (a ∷ later) h g = by_test (a.decl == n) a.next h g (none-set n later)
  where
    by_test : (b k : Bool) → ((b && same_kind k false) || list_any (assigns n false) later) ≡ false → ((b && same_kind k true) || list_any (assigns n true) later) ≡ false
        → (list_any (assigns n false) later ≡ false → list_any (assigns n true) later ≡ false → is_set n later ≡ false) → (b || is_set n later) ≡ false
    by_test true true h g rest = absurd (false≢true (sym g))
    by_test true false h g rest = absurd (false≢true (sym h))
    by_test false k h g rest = rest h g

-- The definition of a name that has a type and cells.
pub record NameAt (p : ProgramTree) (cells : Cells) (y : List ℕ) (t : Ty) (pair : Pair) : Type 0 where
  pub n : ℕ
  pub d : DeclTree
  pub at : slice_get p.decls n ≡ Some d
  pub name : d.name ≡ y
  pub number : decl_number p y ≡ Some n
  pub found : decl_named p.decls y ≡ Some d
  pub ty : d.ty ≡ t
  pub low : pair.low < cells.next
  pub high : pair.high < cells.next

value-ty : (d : DeclTree) (b : Bool) (t : Ty) → (if b then None else Some d.ty) ≡ Some t → d.ty ≡ t
value-ty d true t h = absurd (none-some t h)
value-ty d false t h = same_Some d.ty t h

pub name-at : (p : ProgramTree) (cells : Cells) → AreCellsOf p cells → (y : List ℕ) (t : Ty) (pair : Pair) → type_of_name p y ≡ Some t → cells_of_name p cells y ≡ Some pair → NameAt p cells y t pair
name-at p cells ours y t pair type has = by_number (decl_number p y) refl has
  where
    by_decl : (n : ℕ) (o : Option DeclTree) → decl_number p y ≡ Some n → decl_named p.decls y ≡ o → option_and_then value_type o ≡ Some t → NameAt p cells y t pair
    by_decl n None number found its = absurd (none-some t its)
    by_decl n (Some d) number found its =
        let at = decl_number_agrees p y n number ∙ found in
        let fits = (stands p cells ours y t pair has type).fit in
        record {
          n = n;
          d = d;
          at = at;
          name = sym ((bytes_eq-Decides y d.name).0 (numbered-name p y n d number at));
          number = number;
          found = found;
          ty = value-ty d (is_table d.behaviour) t its;
          low = fits.0;
          high = fits.1;
        }

    by_number : (o : Option ℕ) → decl_number p y ≡ o → option_and_then (λ n. option_and_then cells_of_place (slice_get cells.places.items n)) o ≡ Some pair → NameAt p cells y t pair
    by_number None number has = absurd (none-some pair has)
    by_number (Some n) number has = by_decl n (decl_named p.decls y) number refl (type)

-- The old state of a reactive definition is one of its type.
pub some-below : (t : Ty) (o : Option ℕ) (n : ℕ) → HasValue (Some t) o → o ≡ Some n → n < modulus t
some-below t None n has is = absurd (none-some n is)
some-below t (Some m) n has is = subst (λ k. k < modulus t) (same_Some m n is) has
