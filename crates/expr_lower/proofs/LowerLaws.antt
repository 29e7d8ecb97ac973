-- An expression of a program is lowered as promised, where its names have cells.
use Rattle.std.specs.List.{AllByRecursion}
use Rattle.std.proofs.Common.{◌≡◌, ℕ, ◌+◌, ◌≤◌, Bool, true, false, nat_le, if◌then◌else◌, Option, Some, None, option_map, option_and_then, slice_get, List, [], ◌∷◌, ◌++◌, refl, sym, ap, subst, ◌∙◌, arith, zero, suc}
use Rattle.std.proofs.lemmas.Bool.{leb-true}
use Rattle.std.proofs.lemmas.Option.{none-some, slice_get-map}
use Rattle.std.proofs.lemmas.Slice.Eq.{bytes_eq-Decides}
use Rattle.frp_tree.specs.declared.syntax.Lit.TheVariants as lit
use Rattle.frp_tree.specs.declared.syntax.Ty.{Ty}
use Rattle.frp_tree.specs.declared.syntax.Ty.TheVariants.{U8, U16}
use Rattle.frp_tree.specs.declared.syntax.Ty.TheVariants as ty
use Rattle.frp_tree.specs.Tree.{Tree, Const, Name, Unary, Binary, Shift, If, Convert, Look, DeclTree, ProgramTree}
use Rattle.efrp_meaning.specs.Bounds.{result_bytes}
use Rattle.efrp_meaning.specs.Decls.{decl_named, is_table}
use Rattle.efrp_meaning.specs.Needs.{IsNamedIn, names_in}
use Rattle.efrp_meaning.specs.Types.{IsTyped, type_of, type_of_name, value_type}
use Rattle.efrp_types.specs.Numbers.{decl_number}
use Rattle.efrp_types.proofs.NumberLaws.{decl_number_agrees}
use Rattle.byte_ops.specs.declared.operations.Op.{Op}
use Rattle.byte_ops.specs.declared.operations.Pair.{Pair}
use Rattle.expr_lower.specs.declared.cells.Cells.{Cells}
use Rattle.expr_lower.specs.declared.drafts.Operand.{Operand}
use Rattle.expr_lower.specs.declared.places.Place.{Place}
use Rattle.expr_lower.specs.Lowered.{HasNoLook, IsHeld, Lowers, NamesHaveCells, NamesHold}
use Rattle.expr_lower.specs.Nodes.{CanLower, made, operand, operand_at, operand_of_name, operand_of_place, some_operand}
use Rattle.expr_lower.specs.Places.{AreCellsOf, FitIn, IsPlaced, cells_of_name, cells_of_place, first_of, is_wide}
use Rattle.expr_lower.proofs.LowerFacts.{Holding, IsKnown, Knows, any-left, any-right, sound, unary-has}
use Rattle.expr_lower.proofs.OrderLaws.{all-run, ends-after, leaves}
use Rattle.expr_lower.proofs.TypeFacts.{Converts, BoolToByte, BoolToWide, ByteToWide, WideToByte, binary-operands, branches, converts, most_amount, shift-operand}

-- The type of a name is that of its definition's place.
named-type : (o : Option DeclTree) (u t : Ty) → option_and_then value_type o ≡ Some t → Some u ≡ option_map (λ (d : DeclTree). d.ty) o → u ≡ t
named-type None u t e same = absurd (none-some t e)
named-type (Some d) u t e same = by_table (is_table d.behaviour) e
  where
    by_table : (b : Bool) → (if b then None else Some d.ty) ≡ Some t → u ≡ t
    by_table true g = absurd (none-some t g)
    by_table false g = cc

placed-at : (next : ℕ) (places : List Place) (n : ℕ) (place : Place) → AllByRecursion (IsPlaced next) places → slice_get places n ≡ Some place → IsPlaced next place
placed-at next [] n place all e = absurd (none-some place e)
placed-at next (x ∷ xs) zero place all e = let same : x ≡ place = cc in subst (IsPlaced next) same all.0
placed-at next (x ∷ xs) (suc n) place all e = placed-at next xs n place all.1 e

placed-cells : (next : ℕ) (t : Ty) (bound state : Option Pair) (pair : Pair) → FitIn next t bound → FitIn next t state → first_of bound state ≡ Some pair → FitIn next t (Some pair)
placed-cells next t (Some x) state pair f g e = subst (FitIn next t) e f
placed-cells next t None state pair f g e = subst (FitIn next t) e g

more-fit : (next k : ℕ) (t : Ty) (o : Option Pair) → next ≤ k → FitIn next t o → FitIn k t o
more-fit next k t None h f = tt
more-fit next k t (Some pair) h f = (omega (arith, f.0), omega (arith, f.1), f.2)

more-placed : (next k : ℕ) (places : List Place) → next ≤ k → AllByRecursion (IsPlaced next) places → AllByRecursion (IsPlaced k) places
more-placed next k [] h all = tt
more-placed next k (x ∷ xs) h all =
    (record { state = more-fit next k x.ty x.state h all.0.state; bound = more-fit next k x.ty x.bound h all.0.bound }, more-placed next k xs h all.1)

-- Cells of a program stay its cells where more are given out.
pub more-given : (p : ProgramTree) (cells : Cells) (next : ℕ) → cells.next ≤ next → next ≤ 65536 → AreCellsOf p cells → AreCellsOf p (record cells { next = next })
more-given p cells next h few ours = record { types = ours.types; placed = more-placed cells.next next cells.places.items h ours.placed; few = few }

-- What a name with cells stands for.
pub record Stands (p : ProgramTree) (cells : Cells) (y : List ℕ) (t : Ty) (pair : Pair) : Type 0 where
  pub operand_is : operand_of_name p cells.places.items y ≡ Some (operand (is_wide t) pair)
  pub fit : FitIn cells.next t (Some pair)

module _ (p : ProgramTree) (cells : Cells) (ours : AreCellsOf p cells) where
  at-place : (y : List ℕ) (t : Ty) (pair : Pair) (n : ℕ) (o : Option Place) → decl_number p y ≡ Some n → slice_get cells.places.items n ≡ o → option_and_then cells_of_place o ≡ Some pair → type_of_name p y ≡ Some t → Stands p cells y t pair
  at-place y t pair n None number here has type = absurd (none-some pair has)
  at-place y t pair n (Some place) number here has type =
      let places = cells.places.items in
      let types : option_map (λ (x : Place). x.ty) (slice_get places n) ≡ option_map (λ (d : DeclTree). d.ty) (slice_get p.decls n) =
      sym (slice_get-map (λ (x : Place). x.ty) places n) ∙ ap (λ ts. slice_get ts n) ours.types ∙ slice_get-map (λ (d : DeclTree). d.ty) p.decls n in
      let own : Some place.ty ≡ option_map (λ (d : DeclTree). d.ty) (decl_named p.decls y) =
      ap (option_map (λ (x : Place). x.ty)) (sym here) ∙ types ∙ ap (option_map (λ (d : DeclTree). d.ty)) (decl_number_agrees p y n number) in
      let same : place.ty ≡ t = named-type (decl_named p.decls y) place.ty t type own in
      let at = placed-at cells.next places n place ours.placed here in
      record {
        operand_is =
            ap (option_and_then (operand_at places)) number ∙ ap (option_and_then operand_of_place) here
            ∙ ap (λ (o : Option Pair). elim o as (λ q. Option Operand) [ Some q ↦ Some (operand (is_wide place.ty) q) | None ↦ None ]) has
            ∙ ap (λ (u : Ty). Some (operand (is_wide u) pair)) same;
        fit = subst (λ u. FitIn cells.next u (Some pair)) same (placed-cells cells.next place.ty place.bound place.state pair at.bound at.state has);
      }

  by-number : (y : List ℕ) (t : Ty) (pair : Pair) (o : Option ℕ) → decl_number p y ≡ o → option_and_then (λ n. option_and_then cells_of_place (slice_get cells.places.items n)) o ≡ Some pair → type_of_name p y ≡ Some t → Stands p cells y t pair
  by-number y t pair None number has type = absurd (none-some pair has)
  by-number y t pair (Some n) number has type = at-place y t pair n (slice_get cells.places.items n) number refl has type

  pub stands : (y : List ℕ) (t : Ty) (pair : Pair) → cells_of_name p cells y ≡ Some pair → type_of_name p y ≡ Some t → Stands p cells y t pair
  stands y t pair has type = by-number y t pair (decl_number p y) refl has type

  abbrev pub stand_for : List ℕ → Operand
  stand_for x = some_operand (operand_of_name p cells.places.items x)

  stand-for : (y : List ℕ) (t : Ty) (pair : Pair) → cells_of_name p cells y ≡ Some pair → type_of_name p y ≡ Some t → stand_for y ≡ operand (is_wide t) pair
  stand-for y t pair has type = ap some_operand (stands y t pair has type).operand_is

  known-names : (typed : IsTyped p) (e : Tree) → NamesHaveCells p cells e → Knows p typed stand_for cells.next e
  known-names typed e named y h t type =
      let c = named y h in
      let s = stands y t c.0 c.1 type in
      subst (IsKnown t cells.next) (sym (stand-for y t c.0 c.1 type)) (record { wide = refl; inside = (s.fit.0, s.fit.1); narrow = s.fit.2 })

  held-names : (typed : IsTyped p) (e : Tree) (vals : List ℕ → Option ℕ) (start : ℕ → ℕ) → NamesHaveCells p cells e → NamesHold p cells vals start e → Holding p typed stand_for vals start e
  held-names typed e vals start named hold y h t type =
      let c = named y h in
      subst (λ (a : Operand). IsHeld t (vals y) a.at start) (sym (stand-for y t c.0 c.1 type)) (hold y h t c.0 type c.1)

  -- What is made of an expression is its lowering.
  lowers-made :
      (typed : IsTyped p) (e : Tree) (t : Ty) → type_of p e ≡ Some t → HasNoLook e → NamesHaveCells p cells e
      → let m = made stand_for cells.next e in Lowers p cells (record cells { next = m.next }) e t (record { ops = m.ops; result = m.to.at })
  lowers-made typed e t is no_look named =
      let m = made stand_for cells.next e in
      let s = sound p typed stand_for e cells.next t is no_look (known-names typed e named) in
      record {
        places = refl;
        order = s.order;
        runs = all-run cells.next m.ops m.next s.order s.kinds;
        result_in = (s.known.inside.0, (s.known.inside.1, tt));
        narrow = s.known.narrow;
        value = λ names start finish bytes hold d. s.value names start finish bytes (held-names typed e names start named hold) d;
        kept = λ start finish d. leaves cells.next m.ops m.next start finish s.order d;
        count = s.count;
        weight = s.light;
      }

  pub lowers :
      (typed : IsTyped p) (e : Tree) (t : Ty) (ops : List Op) (to : Operand) (next : ℕ)
      → type_of p e ≡ Some t → HasNoLook e → NamesHaveCells p cells e
      → (let m = made stand_for cells.next e in ops ≡ m.ops → next ≡ m.next → to ≡ m.to → Lowers p cells (record cells { next = next }) e t (record { ops = ops; result = to.at }))
  lowers typed e t ops to next is no_look named same_ops same_next same_to =
      let m = made stand_for cells.next e in
      let first = subst (λ (o : List Op). Lowers p cells (record cells { next = m.next }) e t (record { ops = o; result = m.to.at })) (sym same_ops) (lowers-made typed e t is no_look named) in
      let second = subst (λ (n : ℕ). Lowers p cells (record cells { next = n }) e t (record { ops = ops; result = m.to.at })) (sym same_next) first in
      subst (λ (a : Operand). Lowers p cells (record cells { next = next }) e t (record { ops = ops; result = a.at })) (sym same_to) second

  pub has-room : (typed : IsTyped p) (e : Tree) (t : Ty) → type_of p e ≡ Some t → HasNoLook e → NamesHaveCells p cells e → cells.next + result_bytes p e ≤ 65536 → (made stand_for cells.next e).next ≤ 65536
  has-room typed e t is no_look named room =
      let s = sound p typed stand_for e cells.next t is no_look (known-names typed e named) in
      omega (arith, s.count)

  pub still-given : (typed : IsTyped p) (e : Tree) (t : Ty) (next : ℕ) → type_of p e ≡ Some t → HasNoLook e → NamesHaveCells p cells e → cells.next + result_bytes p e ≤ 65536 → next ≡ (made stand_for cells.next e).next → AreCellsOf p (record cells { next = next })
  still-given typed e t next is no_look named room same =
      let m = made stand_for cells.next e in
      let s = sound p typed stand_for e cells.next t is no_look (known-names typed e named) in
      more-given p cells next (omega (arith, same, ends-after cells.next m.ops m.next s.order)) (omega (arith, same, s.count)) ours

  byte-literal : (n : ℕ) (t : Ty) (b : Bool) → nat_le n 255 ≡ b → (if b then Some U8 else None) ≡ Some t → n ≤ 255
  byte-literal n t true test e = leb-true n 255 test
  byte-literal n t false test e = absurd (none-some t e)

  few-bits : (t : Ty) (n : ℕ) → n ≤ most_amount t → n ≤ 255
  few-bits ty.Bool n h = omega (arith, h)
  few-bits U8 n h = omega (arith, h)
  few-bits U16 n h = omega (arith, h)

  name-can : (x : List ℕ) (t : Ty) → type_of_name p x ≡ Some t → NamesHaveCells p cells (Name x) → CanLower p cells.places.items (Name x)
  name-can x t is named =
      let h : IsNamedIn x (Name x) = any-left x (x ∷ []) [] (rw ((bytes_eq-Decides x x).1 refl) refl) in
      let c = named x h in
      (operand (is_wide t) c.0, (stands x t c.0 c.1 is).operand_is)

  convert-has : (to : Ty) (s : Option Ty) (t : Ty) → Converts to s t → (u : Ty) × (s ≡ Some u)
  convert-has to s t BoolToByte = (ty.Bool, refl)
  convert-has to s t WideToByte = (U16, refl)
  convert-has to s t BoolToWide = (ty.Bool, refl)
  convert-has to s t ByteToWide = (U8, refl)

  pub can-lower : (e : Tree) (t : Ty) → type_of p e ≡ Some t → HasNoLook e → NamesHaveCells p cells e → CanLower p cells.places.items e
  can-lower (Const (lit.Plain n)) t is no_look named = byte-literal n t (nat_le n 255) refl is
  can-lower (Const (lit.Wide n)) t is no_look named = tt
  can-lower (Const (lit.Truth b)) t is no_look named = tt
  can-lower (Name x) t is no_look named = name-can x t is named
  can-lower (Unary f a) t is no_look named = let u = unary-has f (type_of p a) t is in can-lower a u.0 u.1 no_look named
  can-lower (Binary f a b) t is no_look named =
      let o = binary-operands f (type_of p a) (type_of p b) t is in (
        can-lower a o.of o.first no_look.0 (λ y h. named y (any-left y (names_in a) (names_in b) h)),
        can-lower b o.of o.second no_look.1 (λ y h. named y (any-right y (names_in a) (names_in b) h)),
      )
  can-lower (Shift side a n) t is no_look named =
      let o = shift-operand (type_of p a) n t is in
      (few-bits t n o.few, can-lower a t o.same no_look named)
  can-lower (If c a b) t is no_look named =
      let o = branches (type_of p c) (type_of p a) (type_of p b) t is in
      let xs = names_in a ++ names_in b in (
        can-lower c ty.Bool o.test no_look.0 (λ y h. named y (any-left y (names_in c) xs h)),
        can-lower a t o.first no_look.1 (λ y h. named y (any-right y (names_in c) xs (any-left y (names_in a) (names_in b) h))),
        can-lower b t o.second no_look.2 (λ y h. named y (any-right y (names_in c) xs (any-right y (names_in a) (names_in b) h))),
      )
  can-lower (Convert to a) t is no_look named =
      let u = convert-has to (type_of p a) t (converts to (type_of p a) t is) in
      can-lower a u.0 u.1 no_look named
  can-lower (Look table index) t is no_look named = absurd no_look
