-- What is made of an expression does what its lowering promises.
use Rattle.std.specs.List.{AllByRecursion, list_any}
use Rattle.std.specs.Str.{bytes_eq}
use Rattle.std.proofs.Common.{◌≡◌, ℕ, ◌+◌, ◌*◌, ◌/◌, ◌%◌, ◌≤◌, ◌<◌, Bool, true, false, nat_le, nat_lt, ◌||◌, Option, Some, None, option_map, List, [], ◌∷◌, ◌++◌, sum_by, refl, sym, ap, subst, ◌∙◌, arith}
use Rattle.std.proofs.lemmas.Bool.{le-ltb}
use Rattle.std.proofs.lemmas.List.Folds.{list_any-append}
use Rattle.std.proofs.lemmas.List.Sums.{count_by-le-length, sum_by-append}
use Rattle.std.proofs.lemmas.List.{append-nil}
use Rattle.std.proofs.lemmas.Option.{none-some}
use Rattle.std.proofs.lemmas.Slice.Eq.{bytes_eq-Decides}
use Rattle.frp_tree.specs.declared.syntax.Lit.{Lit}
use Rattle.frp_tree.specs.declared.syntax.Lit.TheVariants as lit
use Rattle.frp_tree.specs.declared.syntax.Side.{Side}
use Rattle.frp_tree.specs.declared.syntax.Ty.{Ty}
use Rattle.frp_tree.specs.declared.syntax.Ty.TheVariants.{U8, U16}
use Rattle.frp_tree.specs.declared.syntax.Ty.TheVariants as ty
use Rattle.frp_tree.specs.declared.syntax.UnOp.{UnOp}
use Rattle.frp_tree.specs.declared.syntax.UnOp.TheVariants as unary
use Rattle.frp_tree.specs.declared.syntax.BinOp.{BinOp}
use Rattle.frp_tree.specs.Tree.{Tree, Const, Name, Unary, Binary, Shift, If, Convert, Look, ProgramTree}
use Rattle.efrp_meaning.specs.Bounds.{binary_weight, by_width, result_bytes, unary_weight, weight}
use Rattle.efrp_meaning.specs.Meaning.{evaluate, map_two, map_three, modulus_of}
use Rattle.efrp_meaning.specs.Needs.{IsNamedIn, names_in}
use Rattle.efrp_meaning.specs.States.{HasValue}
use Rattle.efrp_meaning.specs.Types.{IsTyped, binary_type, literal_type, shift_type, type_of, type_of_name, unary_type}
use Rattle.efrp_meaning.specs.Values.{binary_value, convert_value, if_value, literal_number, modulus, shift_value, truth_number, unary_value}
use Rattle.efrp_meaning.proofs.TypedValueLaws.{evaluate-typed}
use Rattle.byte_ops.specs.declared.operations.Op.{Op}
use Rattle.byte_ops.specs.declared.operations.Op.TheVariants as op
use Rattle.byte_ops.specs.declared.operations.Pair.{Pair}
use Rattle.byte_ops.specs.Cells.{cells_of, held}
use Rattle.byte_ops.specs.Kinds.{IsOp}
use Rattle.byte_ops.specs.Weights.{weight_of}
use Rattle.expr_lower.specs.declared.drafts.Operand.{Operand}
use Rattle.expr_lower.specs.Lowered.{HasNoLook, IsHeld, old_among}
use Rattle.expr_lower.specs.Nodes.{Made, behind, into_new, made, new_pair, of_binary, of_if, of_literal, of_shift, of_unary, operand, size_of}
use Rattle.expr_lower.specs.Places.{is_wide}
use Rattle.expr_lower.specs.Running.{DoAll, GiveOut, HoldBytes}
use Rattle.expr_lower.proofs.NodeFacts.{AreInside, done}
use Rattle.expr_lower.proofs.OrderLaws.{between, ends-after, kinds-append, leaves, order-append}
use Rattle.expr_lower.proofs.OwnFacts.{Own, own-binary, own-com, own-if, own-not, own-shift, weaker}
use Rattle.expr_lower.proofs.TypeFacts.{BoolToByte, BoolToWide, ByteToWide, Converts, WideToByte, binary-operands, branches, converts, shift-operand, some-same}

-- A name of a part is one of the whole.
pub any-left : (x : List ℕ) (xs ys : List (List ℕ)) → list_any (bytes_eq x) xs ≡ true → list_any (bytes_eq x) (xs ++ ys) ≡ true
any-left x xs ys h = list_any-append (bytes_eq x) xs ys ∙ ap (λ b. b || list_any (bytes_eq x) ys) h

pub any-right : (x : List ℕ) (xs ys : List (List ℕ)) → list_any (bytes_eq x) ys ≡ true → list_any (bytes_eq x) (xs ++ ys) ≡ true
any-right x xs ys h = list_any-append (bytes_eq x) xs ys ∙ ap (λ b. list_any (bytes_eq x) xs || b) h ∙ or_true (list_any (bytes_eq x) xs)
  where
    or_true : (b : Bool) → (b || true) ≡ true
    or_true true = refl
    or_true false = refl

-- An operand of a type, whose cells are given out.
pub record IsKnown (t : Ty) (next : ℕ) (a : Operand) : Type 0 where
  pub wide : a.wide ≡ is_wide t
  pub inside : AreInside next a.at
  pub narrow : is_wide t ≡ false → a.at.high ≡ a.at.low

known-operand : (t : Ty) (next : ℕ) (a : Operand) → IsKnown t next a → a ≡ operand (is_wide t) a.at
known-operand t next a h = ap (λ w. operand w a.at) h.wide

new-known : (t : Ty) (next : ℕ) → IsKnown t (next + size_of (is_wide t)) (operand (is_wide t) (new_pair (is_wide t) next))
new-known t next = record { wide = refl; inside = inside (is_wide t); narrow = λ e. narrow (is_wide t) e }
  where
    inside : (w : Bool) → AreInside (next + size_of w) (new_pair w next)
    inside false = (omega arith, omega arith)
    inside true = (omega arith, omega arith)

    narrow : (w : Bool) → w ≡ false → (new_pair w next).high ≡ (new_pair w next).low
    narrow false e = refl
    narrow true e = cc

-- New cells aren't old.
new-old : (w : Bool) (next k : ℕ) → next ≤ k → old_among next (cells_of w (new_pair w k)) ≡ 0
new-old false next k h = rw (le-ltb k next h) refl
new-old true next k h = let later : next ≤ k + 1 = omega arith in rw (le-ltb k next h, le-ltb (k + 1) next later) refl

held-same : (w : Bool) (next : ℕ) (a : Pair) (start finish : ℕ → ℕ) → AreInside next a → ((cell : ℕ) → cell < next → finish cell ≡ start cell) → held w a finish ≡ held w a start
held-same false next a start finish h same = same a.low h.0
held-same true next a start finish h same = omega (arith, same a.low h.0, same a.high h.1)

held-moved : (t : Ty) (o : Option ℕ) (next : ℕ) (a : Pair) (start finish : ℕ → ℕ) → AreInside next a → ((cell : ℕ) → cell < next → finish cell ≡ start cell) → IsHeld t o a start → IsHeld t o a finish
held-moved t o next a start finish h same v = (v.0, v.1, v.2, held-same (is_wide t) next a start finish h same ∙ v.3)

-- The value that cells hold.
pub record Holds (t : Ty) (o : Option ℕ) (a : Pair) (cells : ℕ → ℕ) : Type 0 where
  pub is : o ≡ Some (held (is_wide t) a cells)
  pub below : held (is_wide t) a cells < modulus t

as-held : (t : Ty) (o : Option ℕ) (a : Pair) (cells : ℕ → ℕ) → IsHeld t o a cells → Holds t o a cells
as-held t o a cells v = record { is = v.1 ∙ ap Some (sym v.3); below = omega (arith, v.2, v.3) }

width-bytes : (t : Ty) → by_width (Some t) 1 2 ≡ size_of (is_wide t)
width-bytes ty.Bool = refl
width-bytes U8 = refl
width-bytes U16 = refl

module _ (p : ProgramTree) (typed : IsTyped p) (names : List ℕ → Operand) where
  abbrev pub Knows : ℕ → Tree → Type 0
  Knows next e = (y : List ℕ) → IsNamedIn y e → (t : Ty) → type_of_name p y ≡ Some t → IsKnown t next (names y)

  abbrev pub Holding : (List ℕ → Option ℕ) → (ℕ → ℕ) → Tree → Type 0
  Holding vals start e = (y : List ℕ) → IsNamedIn y e → (t : Ty) → type_of_name p y ≡ Some t → IsHeld t (vals y) (names y).at start

  knows-more : (next k : ℕ) (e : Tree) → next ≤ k → Knows next e → Knows k e
  knows-more next k e h knows y named t is =
      let a = knows y named t is in
      record { wide = a.wide; inside = (omega (arith, a.inside.0), omega (arith, a.inside.1)); narrow = a.narrow }

  holding-moved : (vals : List ℕ → Option ℕ) (next : ℕ) (e : Tree) (start finish : ℕ → ℕ) → Knows next e → ((cell : ℕ) → cell < next → finish cell ≡ start cell) → Holding vals start e → Holding vals finish e
  holding-moved vals next e start finish knows same holding y named t is =
      held-moved t (vals y) next (names y).at start finish (knows y named t is).inside same (holding y named t is)

  pub record Sound (next : ℕ) (e : Tree) (t : Ty) (m : Made) : Type 0 where
    pub known : IsKnown t m.next m.to
    pub order : GiveOut next m.ops m.next
    pub kinds : AllByRecursion IsOp m.ops
    pub value : (vals : List ℕ → Option ℕ) (start finish : ℕ → ℕ) → HoldBytes start → Holding vals start e → DoAll m.ops start finish → IsHeld t (evaluate p vals e) m.to.at finish
    pub count : m.next + old_among next (cells_of (is_wide t) m.to.at) ≤ next + result_bytes p e
    pub light : sum_by weight_of m.ops + 6 * old_among next (cells_of (is_wide t) m.to.at) ≤ weight p e

  -- A value that is held is one of the type.
  names-typed : (vals : List ℕ → Option ℕ) (start : ℕ → ℕ) (e : Tree) → Holding vals start e → (y : List ℕ) → IsNamedIn y e → HasValue (type_of_name p y) (vals y)
  names-typed vals start e holding y named = by_type (type_of_name p y) refl
    where
      by_type : (o : Option Ty) → type_of_name p y ≡ o → HasValue o (vals y)
      by_type None is = tt
      by_type (Some t) is = let v = holding y named t is in rw v.1 v.2

  has-value : (e : Tree) (t : Ty) (vals : List ℕ → Option ℕ) (start finish : ℕ → ℕ) (a : Pair) (n : ℕ) → type_of p e ≡ Some t → Holding vals start e → evaluate p vals e ≡ Some n → held (is_wide t) a finish ≡ n → IsHeld t (evaluate p vals e) a finish
  has-value e t vals start finish a n is holding value holds =
      let any : HasValue (type_of p e) (evaluate p vals e) = evaluate-typed p typed vals e (names-typed vals start e holding) in
      let here : HasValue (Some t) (Some n) = subst (λ o. HasValue (Some t) o) value (subst (λ o. HasValue o (evaluate p vals e)) is any) in
      (n, value, here, holds)

  -- A node whose result lies in new cells.
  new-node :
      (next k : ℕ) (ins : List Op) (e : Tree) (t : Ty) (m : Made) (bytes lighter most : ℕ) (value : (ℕ → ℕ) → ℕ) (Needs : (ℕ → ℕ) → Type 0)
      → type_of p e ≡ Some t → GiveOut next ins k → AllByRecursion IsOp ins → k ≤ next + bytes → sum_by weight_of ins ≤ lighter
      → Own k (is_wide t) m most value Needs
      → by_width (Some t) 1 2 + bytes ≤ result_bytes p e → most + lighter ≤ weight p e
      → ((vals : List ℕ → Option ℕ) (start at : ℕ → ℕ) → HoldBytes start → Holding vals start e → DoAll ins start at → Needs at × (evaluate p vals e ≡ Some (value at)))
      → Sound next e t (behind ins m)
  new-node next k ins e t m bytes lighter most value Needs is order kinds few light own enough heavy gives =
      let w = is_wide t in
      let none = new-old w next k (ends-after next ins k order) in
      let size = width-bytes t in
      let both = sum_by-append weight_of ins m.ops in
      let whole : Sound next e t (behind ins (into_new m.ops w k)) = record {
        known = new-known t k;
        order = order-append next ins m.ops k (k + size_of w) order own.order;
        kinds = kinds-append ins m.ops kinds own.kinds;
        value = λ vals start finish held_bytes holding d.
            let b = between ins m.ops start finish held_bytes d in
            let found = gives vals start b.at held_bytes holding b.first in
            has-value e t vals start finish (new_pair w k) (value b.at) is holding found.1 (own.leaves b.at finish b.bytes found.0 b.second);
        count = omega (arith, none, size, enough, few);
        light = omega (arith, none, both, light, own.light, heavy);
      } in
      subst (λ (n : Made). Sound next e t (behind ins n)) (sym own.new) whole

-- Values of operands by those of their parts.
map-two : {A B C : Type 0} (f : A → B → C) (a : Option A) (b : Option B) (x : A) (y : B) → a ≡ Some x → b ≡ Some y → map_two f a b ≡ Some (f x y)
map-two f a b x y e g = rw (e, g) refl

map-three : {A B C D : Type 0} (f : A → B → C → D) (a : Option A) (b : Option B) (c : Option C) (x : A) (y : B) (z : C) → a ≡ Some x → b ≡ Some y → c ≡ Some z → map_three f a b c ≡ Some (f x y z)
map-three f a b c x y z e g h = rw (e, g, h) refl

holds-moved : (t : Ty) (o : Option ℕ) (next : ℕ) (a : Pair) (start finish : ℕ → ℕ) → AreInside next a → ((cell : ℕ) → cell < next → finish cell ≡ start cell) → IsHeld t o a start → Holds t o a finish
holds-moved t o next a start finish h same v = as-held t o a finish (held-moved t o next a start finish h same v)

inside-more : (next k : ℕ) (a : Pair) → next ≤ k → AreInside next a → AreInside k a
inside-more next k a h i = (omega (arith, i.0), omega (arith, i.1))

abbrev OwnUnary : UnOp → Ty → Ty → ℕ → Operand → Pair → Type 0
OwnUnary f u t k to a = Own k (is_wide t) (of_unary f k to) (unary_weight f (Some u)) (λ c. unary_value f (modulus u) (held (is_wide u) a c)) (λ c. held (is_wide u) a c < modulus u)

own-unary : (f : UnOp) (u t : Ty) (k : ℕ) (a : Pair) → unary_type f (Some u) ≡ Some t → AreInside k a → OwnUnary f u t k (operand (is_wide u) a) a
own-unary unary.Com U8 t k a e h = subst (λ (r : Ty). OwnUnary unary.Com U8 r k (operand false a) a) (some-same U8 t e) (weaker _ _ _ _ _ _ _ _ (own-com false k a h) (omega arith) (λ c n. tt))
own-unary unary.Com U16 t k a e h = subst (λ (r : Ty). OwnUnary unary.Com U16 r k (operand true a) a) (some-same U16 t e) (weaker _ _ _ _ _ _ _ _ (own-com true k a h) (omega arith) (λ c n. tt))
own-unary unary.Com ty.Bool t k a e h = absurd (none-some t e)
own-unary unary.Not ty.Bool t k a e h = subst (λ (r : Ty). OwnUnary unary.Not ty.Bool r k (operand false a) a) (some-same ty.Bool t e) (own-not false k a h)
own-unary unary.Not U8 t k a e h = absurd (none-some t e)
own-unary unary.Not U16 t k a e h = absurd (none-some t e)

pub unary-has : (f : UnOp) (s : Option Ty) (t : Ty) → unary_type f s ≡ Some t → (u : Ty) × (s ≡ Some u)
unary-has f (Some u) t e = (u, refl)
unary-has unary.Com None t e = absurd (none-some t e)
unary-has unary.Not None t e = absurd (none-some t e)

abbrev OwnShift : Side → ℕ → Ty → ℕ → Operand → Pair → Type 0
OwnShift side n t k to a = Own k (is_wide t) (of_shift side n k to) (by_width (Some t) 32 80) (λ c. shift_value side n (modulus t) (held (is_wide t) a c)) (λ c. Unit {0})

own-shifted : (side : Side) (n : ℕ) (t : Ty) (k : ℕ) (a : Pair) → shift_type (Some t) n ≡ Some t → AreInside k a → OwnShift side n t k (operand (is_wide t) a) a
own-shifted side n U8 k a e h = own-shift side n false k a h (shift-operand (Some U8) n U8 e).few
own-shifted side n U16 k a e h = own-shift side n true k a h (shift-operand (Some U16) n U16 e).few
own-shifted side n ty.Bool k a e h = absurd (none-some ty.Bool e)

abbrev OwnIf : Ty → ℕ → Operand → Operand → Operand → Pair → Pair → Pair → Type 0
OwnIf t k x y z c a b = Own k (is_wide t) (of_if k x y z) (by_width (Some t) 24 40) (λ m. if_value (held false c m) (held (is_wide t) a m) (held (is_wide t) b m)) (λ m. held false c m < 2)

own-chosen : (t : Ty) (k : ℕ) (c a b : Pair) → AreInside k c → AreInside k a → AreInside k b → OwnIf t k (operand false c) (operand (is_wide t) a) (operand (is_wide t) b) c a b
own-chosen ty.Bool k c a b f g h = own-if false false false k c a b f g h
own-chosen U8 k c a b f g h = own-if false false false k c a b f g h
own-chosen U16 k c a b f g h = own-if true false true k c a b f g h

-- Where bytes are held before, they are after.
pub still-bytes : (ops : List Op) (start finish : ℕ → ℕ) → HoldBytes start → DoAll ops start finish → HoldBytes finish
still-bytes [] start finish bytes d = λ cell. omega (arith, d cell, bytes cell)
still-bytes (o ∷ ops) start finish bytes d = still-bytes ops d.0 finish d.2 d.3

old-most : (w : Bool) (next : ℕ) (a : Pair) → old_among next (cells_of w a) ≤ size_of w
old-most false next a = count_by-le-length (λ cell. nat_lt cell next) (a.low ∷ [])
old-most true next a = count_by-le-length (λ cell. nat_lt cell next) (a.low ∷ a.high ∷ [])

module _ (p : ProgramTree) (typed : IsTyped p) (names : List ℕ → Operand) where
  abbrev Goes : ℕ → Tree → Ty → Type 0
  Goes next e t = Sound p typed names next e t (made names next e)

  sound-unary : (f : UnOp) (next : ℕ) (a : Tree) (u t : Ty) → type_of p a ≡ Some u → unary_type f (type_of p a) ≡ Some t → Goes next a u → Goes next (Unary f a) t
  sound-unary f next a u t is whole s =
      let m = made names next a in
      let gives : unary_type f (Some u) ≡ Some t = sym (ap (unary_type f) is) ∙ whole in
      let own = subst (λ (to : Operand). OwnUnary f u t m.next to m.to.at) (sym (known-operand u m.next m.to s.known)) (own-unary f u t m.next m.to.at gives s.known.inside) in
      new-node p typed names next m.next m.ops (Unary f a) t (of_unary f m.next m.to) (result_bytes p a) (weight p a) (unary_weight f (Some u))
      (λ c. unary_value f (modulus u) (held (is_wide u) m.to.at c)) (λ c. held (is_wide u) m.to.at c < modulus u)
      whole s.order s.kinds (omega (arith, s.count)) (omega (arith, s.light)) own
      (omega (arith, ap (λ o. by_width o 1 2) whole)) (omega (arith, ap (unary_weight f) is))
      (λ vals start at bytes holding d.
      let v = as-held u (evaluate p vals a) m.to.at at (s.value vals start at bytes holding d) in
      (v.below, map-two (unary_value f) (modulus_of p a) (evaluate p vals a) (modulus u) (held (is_wide u) m.to.at at) (ap (option_map modulus) is) v.is))

  sound-shift : (side : Side) (n next : ℕ) (a : Tree) (t : Ty) → type_of p a ≡ Some t → shift_type (type_of p a) n ≡ Some t → Goes next a t → Goes next (Shift side a n) t
  sound-shift side n next a t is whole s =
      let m = made names next a in
      let gives : shift_type (Some t) n ≡ Some t = sym (ap (λ o. shift_type o n) is) ∙ whole in
      let own = subst (λ (to : Operand). OwnShift side n t m.next to m.to.at) (sym (known-operand t m.next m.to s.known)) (own-shifted side n t m.next m.to.at gives s.known.inside) in
      new-node p typed names next m.next m.ops (Shift side a n) t (of_shift side n m.next m.to) (result_bytes p a) (weight p a) (by_width (Some t) 32 80)
      (λ c. shift_value side n (modulus t) (held (is_wide t) m.to.at c)) (λ c. Unit {0})
      whole s.order s.kinds (omega (arith, s.count)) (omega (arith, s.light)) own
      (omega (arith, ap (λ o. by_width o 1 2) whole)) (omega (arith, ap (λ o. by_width o 32 80) is))
      (λ vals start at bytes holding d.
      let v = as-held t (evaluate p vals a) m.to.at at (s.value vals start at bytes holding d) in
      (tt, map-two (shift_value side n) (modulus_of p a) (evaluate p vals a) (modulus t) (held (is_wide t) m.to.at at) (ap (option_map modulus) is) v.is))

  sound-binary : (f : BinOp) (next : ℕ) (a b : Tree) (u t : Ty) → type_of p a ≡ Some u → type_of p b ≡ Some u → type_of p (Binary f a b) ≡ Some t → binary_type f (Some u) (Some u) ≡ Some t → Knows p typed names next (Binary f a b) → Goes next a u → Goes (made names next a).next b u → Goes next (Binary f a b) t
  sound-binary f next a b u t first second whole gives knows r s =
      let m = made names next a in
      let n = made names m.next b in
      let later = ends-after m.next n.ops n.next s.order in
      let own = subst (λ (to : Operand). Own n.next (is_wide t) (of_binary f n.next to n.to) (binary_weight f (Some u)) (λ c. binary_value f (modulus u) (held (is_wide u) m.to.at c) (held (is_wide u) n.to.at c)) (λ c. (held (is_wide u) m.to.at c < modulus u) × (held (is_wide u) n.to.at c < modulus u))) (sym (known-operand u m.next m.to r.known))
      (subst (λ (to : Operand). Own n.next (is_wide t) (of_binary f n.next (operand (is_wide u) m.to.at) to) (binary_weight f (Some u)) (λ c. binary_value f (modulus u) (held (is_wide u) m.to.at c) (held (is_wide u) n.to.at c)) (λ c. (held (is_wide u) m.to.at c < modulus u) × (held (is_wide u) n.to.at c < modulus u))) (sym (known-operand u n.next n.to s.known))
      (own-binary f u t n.next m.to.at n.to.at gives (inside-more m.next n.next m.to.at later r.known.inside) s.known.inside)) in
      let both = sum_by-append weight_of m.ops n.ops in
      new-node p typed names next n.next (m.ops ++ n.ops) (Binary f a b) t (of_binary f n.next m.to n.to) (result_bytes p a + result_bytes p b) (weight p a + weight p b) (binary_weight f (Some u))
      (λ c. binary_value f (modulus u) (held (is_wide u) m.to.at c) (held (is_wide u) n.to.at c)) (λ c. (held (is_wide u) m.to.at c < modulus u) × (held (is_wide u) n.to.at c < modulus u))
      whole (order-append next m.ops n.ops m.next n.next r.order s.order) (kinds-append m.ops n.ops r.kinds s.kinds)
      (omega (arith, r.count, s.count)) (omega (arith, r.light, s.light, both)) own
      (omega (arith, ap (λ o. by_width o 1 2) whole)) (omega (arith, ap (binary_weight f) first))
      (λ vals start at bytes holding d.
      let c = between m.ops n.ops start at bytes d in
      let left = λ (y : List ℕ) (h : IsNamedIn y a). holding y (any-left y (names_in a) (names_in b) h) in
      let right = λ (y : List ℕ) (h : IsNamedIn y b). holding y (any-right y (names_in a) (names_in b) h) in
      let known = λ (y : List ℕ) (h : IsNamedIn y b). knows y (any-right y (names_in a) (names_in b) h) in
      let v = holds-moved u (evaluate p vals a) m.next m.to.at c.at at r.known.inside (leaves m.next n.ops n.next c.at at s.order c.second) (r.value vals start c.at bytes left c.first) in
      let moved = holding-moved p typed names vals next b start c.at known (leaves next m.ops m.next start c.at r.order c.first) right in
      let w = as-held u (evaluate p vals b) n.to.at at (s.value vals c.at at c.bytes moved c.second) in
      ((v.below, w.below), map-three (binary_value f) (modulus_of p a) (evaluate p vals a) (evaluate p vals b) (modulus u) (held (is_wide u) m.to.at at) (held (is_wide u) n.to.at at) (ap (option_map modulus) first) v.is w.is))

  sound-if : (next : ℕ) (c a b : Tree) (t : Ty) → type_of p c ≡ Some ty.Bool → type_of p a ≡ Some t → type_of p b ≡ Some t → type_of p (If c a b) ≡ Some t → Knows p typed names next (If c a b)
      → (let k = made names next c in let m = made names k.next a in Goes next c ty.Bool → Goes k.next a t → Goes m.next b t → Goes next (If c a b) t)
  sound-if next c a b t test first second whole knows q r s =
      let k = made names next c in
      let m = made names k.next a in
      let n = made names m.next b in
      let last = ends-after m.next n.ops n.next s.order in
      let later = ends-after k.next m.ops m.next r.order in
      let own-a = subst (λ (to : Operand). OwnIf t n.next to (operand (is_wide t) m.to.at) (operand (is_wide t) n.to.at) k.to.at m.to.at n.to.at) (sym (known-operand ty.Bool k.next k.to q.known))
      (own-chosen t n.next k.to.at m.to.at n.to.at (inside-more k.next n.next k.to.at (omega (arith, later, last)) q.known.inside) (inside-more m.next n.next m.to.at last r.known.inside) s.known.inside) in
      let own-b = subst (λ (to : Operand). OwnIf t n.next k.to to (operand (is_wide t) n.to.at) k.to.at m.to.at n.to.at) (sym (known-operand t m.next m.to r.known)) own-a in
      let own = subst (λ (to : Operand). OwnIf t n.next k.to m.to to k.to.at m.to.at n.to.at) (sym (known-operand t n.next n.to s.known)) own-b in
      let ins = k.ops ++ m.ops in
      let to-m = order-append next k.ops m.ops k.next m.next q.order r.order in
      let one = sum_by-append weight_of k.ops m.ops in
      let all = sum_by-append weight_of ins n.ops in
      new-node p typed names next n.next (ins ++ n.ops) (If c a b) t (of_if n.next k.to m.to n.to) (result_bytes p c + (result_bytes p a + result_bytes p b)) (weight p c + (weight p a + weight p b)) (by_width (Some t) 24 40)
      (λ z. if_value (held false k.to.at z) (held (is_wide t) m.to.at z) (held (is_wide t) n.to.at z)) (λ z. held false k.to.at z < 2)
      whole (order-append next ins n.ops m.next n.next to-m s.order) (kinds-append ins n.ops (kinds-append k.ops m.ops q.kinds r.kinds) s.kinds)
      (omega (arith, q.count, r.count, s.count)) (omega (arith, q.light, r.light, s.light, one, all)) own
      (omega (arith, ap (λ o. by_width o 1 2) whole)) (omega (arith, ap (λ o. by_width o 24 40) first))
      (λ vals start at bytes holding d.
      let z = between ins n.ops start at bytes d in
      let y = between k.ops m.ops start z.at bytes z.first in
      let xs = names_in a ++ names_in b in
      let in-a = λ (x : List ℕ) (h : IsNamedIn x a). any-right x (names_in c) xs (any-left x (names_in a) (names_in b) h) in
      let in-b = λ (x : List ℕ) (h : IsNamedIn x b). any-right x (names_in c) xs (any-right x (names_in a) (names_in b) h) in
      let hold-c = λ (x : List ℕ) (h : IsNamedIn x c). holding x (any-left x (names_in c) xs h) in
      let hold-a = λ (x : List ℕ) (h : IsNamedIn x a). holding x (in-a x h) in
      let hold-b = λ (x : List ℕ) (h : IsNamedIn x b). holding x (in-b x h) in
      let know-a = λ (x : List ℕ) (h : IsNamedIn x a). knows x (in-a x h) in
      let know-b = λ (x : List ℕ) (h : IsNamedIn x b). knows x (in-b x h) in
      let kept-c = leaves next k.ops k.next start y.at q.order y.first in
      let kept-a = leaves k.next m.ops m.next y.at z.at r.order y.second in
      let kept-b = leaves m.next n.ops n.next z.at at s.order z.second in
      let kept-ca : (cell : ℕ) → cell < next → z.at cell ≡ start cell = leaves next ins m.next start z.at to-m z.first in
      let kept-ab : (cell : ℕ) → cell < k.next → at cell ≡ y.at cell = λ cell h. kept-b cell (omega (arith, later, h)) ∙ kept-a cell h in
      let u = holds-moved ty.Bool (evaluate p vals c) k.next k.to.at y.at at q.known.inside kept-ab (q.value vals start y.at bytes hold-c y.first) in
      let moved-a = holding-moved p typed names vals next a start y.at know-a kept-c hold-a in
      let v = holds-moved t (evaluate p vals a) m.next m.to.at z.at at r.known.inside kept-b (r.value vals y.at z.at y.bytes moved-a y.second) in
      let moved-b = holding-moved p typed names vals next b start z.at know-b kept-ca hold-b in
      let w = as-held t (evaluate p vals b) n.to.at at (s.value vals z.at at z.bytes moved-b z.second) in
      (u.below, map-three if_value (evaluate p vals c) (evaluate p vals a) (evaluate p vals b) (held false k.to.at at) (held (is_wide t) m.to.at at) (held (is_wide t) n.to.at at) u.is v.is w.is))

  -- `u8( )` has its operand's low cell.
  to-byte : (next : ℕ) (a : Tree) (u : Ty) → type_of p (Convert U8 a) ≡ Some U8 → Goes next a u
      → ((cells : ℕ → ℕ) → HoldBytes cells → held (is_wide u) (made names next a).to.at cells < modulus u → held (is_wide u) (made names next a).to.at cells % 256 ≡ cells (made names next a).to.at.low)
      → Goes next (Convert U8 a) U8
  to-byte next a u whole s low =
      let m = made names next a in
      let same : m.ops ++ [] ≡ m.ops = append-nil m.ops in
      let fewer = fewer-old (is_wide u) next m.to.at in
      record {
        known = record { wide = refl; inside = (s.known.inside.0, s.known.inside.0); narrow = λ e. refl };
        order = subst (λ ops. GiveOut next ops m.next) (sym same) s.order;
        kinds = subst (AllByRecursion IsOp) (sym same) s.kinds;
        value = λ vals start finish bytes holding d.
            let e : DoAll m.ops start finish = subst (λ ops. DoAll ops start finish) same d in
            let v = as-held u (evaluate p vals a) m.to.at finish (s.value vals start finish bytes holding e) in
            let n = held (is_wide u) m.to.at finish in
            has-value p typed names (Convert U8 a) U8 vals start finish (record { low = m.to.at.low; high = m.to.at.low }) (n % 256) whole holding
            (ap (option_map (convert_value U8)) v.is) (sym (low finish (still-bytes m.ops start finish bytes e) v.below));
        count = omega (arith, s.count, fewer, ap (λ o. by_width o 1 2) whole);
        light = omega (arith, s.light, fewer, ap (sum_by weight_of) same);
      }
    where
      fewer-old : (w : Bool) (first : ℕ) (b : Pair) → old_among first (b.low ∷ []) ≤ old_among first (cells_of w b)
      fewer-old false first b = omega arith
      fewer-old true first b = omega arith

  -- `u16( )` has a zero above its operand's cell.
  to-wide : (next : ℕ) (a : Tree) (u : Ty) → is_wide u ≡ false → type_of p (Convert U16 a) ≡ Some U16 → Goes next a u → Goes next (Convert U16 a) U16
  to-wide next a u narrow whole s =
      let m = made names next a in
      let both = sum_by-append weight_of m.ops (op.Set m.next 0 ∷ []) in
      let new : old_among next (m.next ∷ []) ≡ 0 = rw (le-ltb m.next next (ends-after next m.ops m.next s.order)) refl in
      let old = ap (λ w. old_among next (cells_of w m.to.at)) narrow in
      record {
        known = record { wide = refl; inside = ((let up : m.to.at.low < m.next + 1 = omega (arith, s.known.inside.0) in up), omega arith); narrow = λ e. cc };
        order = order-append next m.ops (op.Set m.next 0 ∷ []) m.next (m.next + 1) s.order (tt, (refl, tt), refl);
        kinds = kinds-append m.ops (op.Set m.next 0 ∷ []) s.kinds (tt, tt);
        value = λ vals start finish bytes holding d.
            let c = between m.ops (op.Set m.next 0 ∷ []) start finish bytes d in
            let v = as-held u (evaluate p vals a) m.to.at c.at (s.value vals start c.at bytes holding c.first) in
            let set : finish m.next ≡ 0 = done (op.Set m.next 0) c.at finish c.second tt in
            let kept : finish m.to.at.low ≡ c.at m.to.at.low = leaves m.next (op.Set m.next 0 ∷ []) (m.next + 1) c.at finish (tt, (refl, tt), refl) c.second m.to.at.low s.known.inside.0 in
            let n = held (is_wide u) m.to.at c.at in
            let one : n ≡ c.at m.to.at.low = ap (λ w. held w m.to.at c.at) narrow in
            has-value p typed names (Convert U16 a) U16 vals start finish (record { low = m.to.at.low; high = m.next }) n whole holding
            (ap (option_map (convert_value U16)) v.is) (omega (arith, set, kept, one));
        count = omega (arith, s.count, new, old, ap (λ o. by_width o 1 2) whole);
        light = omega (arith, s.light, new, old, both);
      }

  sound-convert : (next : ℕ) (a : Tree) (to : Ty) (s : Option Ty) (t : Ty) → Converts to s t → type_of p a ≡ s → type_of p (Convert to a) ≡ Some t → ((u : Ty) → type_of p a ≡ Some u → Goes next a u) → Goes next (Convert to a) t
  sound-convert next a to s t BoolToByte is whole s' = to-byte next a ty.Bool whole (s' ty.Bool is) (λ cells bytes below. small cells (made names next a).to.at.low below)
    where
      small : (cells : ℕ → ℕ) (low : ℕ) → cells low < 2 → cells low % 256 ≡ cells low
      small cells low h = omega arith
  sound-convert next a to s t WideToByte is whole s' = to-byte next a U16 whole (s' U16 is) (λ cells bytes below. lowest (cells (made names next a).to.at.low) (cells (made names next a).to.at.high) (bytes (made names next a).to.at.low))
    where
      lowest : (low high : ℕ) → low < 256 → (low + 256 * high) % 256 ≡ low
      lowest low high h = omega arith
  sound-convert next a to s t BoolToWide is whole s' = to-wide next a ty.Bool refl whole (s' ty.Bool is)
  sound-convert next a to s t ByteToWide is whole s' = to-wide next a U8 refl whole (s' U8 is)

  -- Literals.
  sound-literal : (next : ℕ) (l : Lit) (t : Ty) (most n : ℕ) → type_of p (Const l) ≡ Some t → literal_number l ≡ Some n → Own next (is_wide t) (of_literal next l) most (λ c. n) (λ c. Unit {0}) → most ≤ weight p (Const l) → Goes next (Const l) t
  sound-literal next l t most n is value own heavy =
      new-node p typed names next next [] (Const l) t (of_literal next l) 0 0 most (λ c. n) (λ c. Unit {0}) is refl tt (omega arith) (omega arith) own
      (omega (arith, ap (λ o. by_width o 1 2) is)) (omega (arith, heavy)) (λ vals start at bytes holding d. (tt, value))

  plain-sound : (next n : ℕ) (t : Ty) (b : Bool) → nat_le n 255 ≡ b → literal_type (lit.Plain n) ≡ Some t → Goes next (Const (lit.Plain n)) t
  plain-sound next n t true test is =
      let type : literal_type (lit.Plain n) ≡ Some U8 = rw test refl in
      let one : Goes next (Const (lit.Plain n)) U8 =
      sound-literal next (lit.Plain n) U8 4 n type (rw test refl)
      (record { new = refl; order = (tt, (refl, tt), refl); kinds = (tt, tt); light = omega arith; leaves = λ start finish bytes needs d. done (op.Set next n) start finish d tt })
      (omega (arith, ap (λ o. by_width o 4 8) type)) in
      subst (λ r. Goes next (Const (lit.Plain n)) r) (some-same U8 t (sym type ∙ is)) one
  plain-sound next n t false test is =
      let none : literal_type (lit.Plain n) ≡ None = rw test refl in
      absurd (none-some t (sym none ∙ is))

  wide-set : (next n : ℕ) (start finish : ℕ → ℕ) → DoAll (op.Set next (n % 256) ∷ op.Set (next + 1) (n / 256) ∷ []) start finish → finish next + 256 * finish (next + 1) ≡ n
  wide-set next n start finish d =
      let low : d.0 next ≡ n % 256 = d.1.0 tt in
      let later = d.3 in
      let high : later.0 (next + 1) ≡ n / 256 = later.1.0 tt in
      let still : later.0 next ≡ d.0 next = later.1.1 next ((λ e. absurd (omega (arith, e))), tt) in
      omega (arith, low, high, still, later.3 next, later.3 (next + 1))

  wide-sound : (next n : ℕ) (t : Ty) (b : Bool) → nat_le n 65535 ≡ b → literal_type (lit.Wide n) ≡ Some t → Goes next (Const (lit.Wide n)) t
  wide-sound next n t true test is =
      let type : literal_type (lit.Wide n) ≡ Some U16 = rw test refl in
      let one : Goes next (Const (lit.Wide n)) U16 =
      sound-literal next (lit.Wide n) U16 8 n type (rw test refl)
      (record { new = refl; order = (tt, (refl, tt), (tt, (refl, tt), omega arith)); kinds = (tt, (tt, tt)); light = omega arith; leaves = λ start finish bytes needs d. wide-set next n start finish d })
      (omega (arith, ap (λ o. by_width o 4 8) type)) in
      subst (λ r. Goes next (Const (lit.Wide n)) r) (some-same U16 t (sym type ∙ is)) one
  wide-sound next n t false test is =
      let none : literal_type (lit.Wide n) ≡ None = rw test refl in
      absurd (none-some t (sym none ∙ is))

  const-sound : (next : ℕ) (l : Lit) (t : Ty) → type_of p (Const l) ≡ Some t → Goes next (Const l) t
  const-sound next (lit.Plain n) t is = plain-sound next n t (nat_le n 255) refl is
  const-sound next (lit.Wide n) t is = wide-sound next n t (nat_le n 65535) refl is
  const-sound next (lit.Truth b) t is =
      let one : Goes next (Const (lit.Truth b)) ty.Bool =
      sound-literal next (lit.Truth b) ty.Bool 4 (truth_number b) refl refl
      (record { new = refl; order = (tt, (refl, tt), refl); kinds = (tt, tt); light = omega arith; leaves = λ start finish bytes needs d. done (op.Set next (truth_number b)) start finish d tt })
      (omega arith) in
      subst (λ r. Goes next (Const (lit.Truth b)) r) (some-same ty.Bool t is) one

  name-sound : (next : ℕ) (x : List ℕ) (t : Ty) → type_of p (Name x) ≡ Some t → Knows p typed names next (Name x) → Goes next (Name x) t
  name-sound next x t is knows =
      let named : IsNamedIn x (Name x) = ap (λ b. b || false) ((bytes_eq-Decides x x).1 refl) in
      let known = knows x named t is in
      let few = old-most (is_wide t) next (names x).at in
      record {
        known = known;
        order = refl;
        kinds = tt;
        value = λ vals start finish bytes holding d. held-moved t (vals x) next (names x).at start finish known.inside (λ cell h. d cell) (holding x named t is);
        count = omega (arith, few, width-bytes t, ap (λ o. by_width o 1 2) is);
        light = omega (arith, few, copy-weight t, ap (λ o. by_width o 6 12) is);
      }
    where
      copy-weight : (t : Ty) → by_width (Some t) 6 12 ≡ 6 * size_of (is_wide t)
      copy-weight ty.Bool = refl
      copy-weight U8 = refl
      copy-weight U16 = refl

  -- What is made of any expression.
  pub sound : (e : Tree) (next : ℕ) (t : Ty) → type_of p e ≡ Some t → HasNoLook e → Knows p typed names next e → Goes next e t
  sound (Const l) next t is no_look knows = const-sound next l t is
  sound (Name x) next t is no_look knows = name-sound next x t is knows
  sound (Unary f a) next t is no_look knows =
      let u = unary-has f (type_of p a) t is in
      sound-unary f next a u.0 t u.1 is (sound a next u.0 u.1 no_look knows)
  sound (Binary f a b) next t is no_look knows =
      let o = binary-operands f (type_of p a) (type_of p b) t is in
      let m = made names next a in
      let know-a = λ (y : List ℕ) (h : IsNamedIn y a). knows y (any-left y (names_in a) (names_in b) h) in
      let know-b = λ (y : List ℕ) (h : IsNamedIn y b). knows y (any-right y (names_in a) (names_in b) h) in
      let r = sound a next o.of o.first no_look.0 know-a in
      let s = sound b m.next o.of o.second no_look.1 (knows-more p typed names next m.next b (ends-after next m.ops m.next r.order) know-b) in
      sound-binary f next a b o.of t o.first o.second is o.gives knows r s
  sound (Shift side a n) next t is no_look knows =
      let o = shift-operand (type_of p a) n t is in
      sound-shift side n next a t o.same is (sound a next t o.same no_look knows)
  sound (If c a b) next t is no_look knows =
      let o = branches (type_of p c) (type_of p a) (type_of p b) t is in
      let k = made names next c in
      let m = made names k.next a in
      let xs = names_in a ++ names_in b in
      let know-c = λ (y : List ℕ) (h : IsNamedIn y c). knows y (any-left y (names_in c) xs h) in
      let know-a = λ (y : List ℕ) (h : IsNamedIn y a). knows y (any-right y (names_in c) xs (any-left y (names_in a) (names_in b) h)) in
      let know-b = λ (y : List ℕ) (h : IsNamedIn y b). knows y (any-right y (names_in c) xs (any-right y (names_in a) (names_in b) h)) in
      let q = sound c next ty.Bool o.test no_look.0 know-c in
      let first = ends-after next k.ops k.next q.order in
      let r = sound a k.next t o.first no_look.1 (knows-more p typed names next k.next a first know-a) in
      let second : next ≤ m.next = omega (arith, first, ends-after k.next m.ops m.next r.order) in
      let s = sound b m.next t o.second no_look.2 (knows-more p typed names next m.next b second know-b) in
      sound-if next c a b t o.test o.first o.second is knows q r s
  sound (Convert to a) next t is no_look knows =
      sound-convert next a to (type_of p a) t (converts to (type_of p a) t is) refl is (λ u of. sound a next u of no_look knows)
  sound (Look table index) next t is no_look knows = absurd no_look
