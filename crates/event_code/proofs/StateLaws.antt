-- The state that plain bytes hold is the one that the states' cells hold, and no other is.
use Rattle.std.specs.Str.{bytes_eq}
use Rattle.std.proofs.Common.{◌≡◌, ℕ, zero, suc, ◌+◌, ◌*◌, ◌<◌, ◌≤◌, Bool, true, false, List, [], ◌∷◌, ◌++◌, filter, map, slice_get, sum_by, take, Option, Some, None, if◌then◌else◌, refl, sym, ap, ap₂, subst, ◌∙◌, arith}
use Rattle.std.proofs.lemmas.List.Sums.{sum_by-cons}
use Rattle.std.proofs.lemmas.Option.{none-some, same_Some}
use Rattle.std.proofs.lemmas.Slice.Eq.{bytes_eq-Decides}
use Rattle.frp_tree.specs.declared.syntax.Ty.{Ty}
use Rattle.frp_tree.specs.declared.syntax.Ty.TheVariants.{Bool as BoolTy, U8, U16}
use Rattle.frp_tree.specs.Tree.{BehaviourTree, Plain, Input, Table, Reactive, DeclTree, ProgramTree}
use Rattle.efrp_meaning.specs.Bounds.{bytes_in, state_bytes, type_bytes}
use Rattle.efrp_meaning.specs.Decls.{is_reactive}
use Rattle.efrp_meaning.specs.Meaning.{State, value_at}
use Rattle.efrp_meaning.specs.States.{AreValuesOf, IsState, NamesDiffer}
use Rattle.event_needs.proofs.NumberLaws.{same-place}
use Rattle.pic_regs.specs.Bytes.{Byte, num}
use Rattle.pic_regs.specs.Map.{Reg}
use Rattle.pic_regs.specs.Registers.{Registers, byte_at, read}
use Rattle.pic_machine.specs.StateValues.{value_in}
use Rattle.map_file.specs.declared.maps.MapState.{MapState}
use Rattle.byte_ops.specs.declared.operations.Pair.{Pair}
use Rattle.byte_ops.specs.Cells.{held}
use Rattle.expr_lower.specs.Nodes.{new_pair}
use Rattle.expr_lower.specs.Numbered.{state_cells}
use Rattle.expr_lower.specs.Places.{is_wide}
use Rattle.bank_alloc.specs.declared.needs.Needs.{Needs}
use Rattle.bank_alloc.specs.Addresses.{address_of}
use Rattle.bank_alloc.specs.Needs.{bytes_of}
use Rattle.bank_alloc.proofs.AddressLaws.{addresses-general, general-plain}
use Rattle.event_ops.specs.Works.{HoldState}
use Rattle.event_code.specs.States.{listed, number_in, state_in, states_from}

-- The values in cells, by the numbers of the cells.
abbrev pub value_of : Ty → Option Pair → (ℕ → ℕ) → List ℕ
value_of t None cells = []
value_of t (Some pair) cells = held (is_wide t) pair cells ∷ []

abbrev pub values_from : (ℕ → ℕ) → ℕ → List DeclTree → List ℕ
values_from cells next [] = []
values_from cells next (d ∷ ds) = value_of d.ty (state_cells next d.ty d.behaviour) cells ++ values_from cells (next + bytes_in d.ty d.behaviour) ds

-- What the cells hold that lie at the addresses of these needs.
abbrev pub cells_in : Needs → (ℕ → Byte) → ℕ → ℕ
cells_in need plain cell = num (plain (address_of need cell))

held-there : (need : Needs) (plain : ℕ → Byte) (wide : Bool) (pair : Pair)
    → held wide (record { low = address_of need pair.low; high = address_of need pair.high }) (λ address. num (plain address)) ≡ held wide pair (cells_in need plain)
held-there need plain true pair = refl
held-there need plain false pair = refl

numbers-from : (need : Needs) (plain : ℕ → Byte) (d : DeclTree) (o : Option Pair) (rest : List MapState) (values : List ℕ) → map (number_in plain) rest ≡ values
    → map (number_in plain) (listed need d o ++ rest) ≡ value_of d.ty o (cells_in need plain) ++ values
numbers-from need plain d None rest values same = same
numbers-from need plain d (Some pair) rest values same = ap₂ (λ n ns. n ∷ ns) (held-there need plain (is_wide d.ty) pair) same

by-cells : (need : Needs) (plain : ℕ → Byte) (next : ℕ) (ds : List DeclTree) → map (number_in plain) (states_from need next ds) ≡ values_from (cells_in need plain) next ds
by-cells need plain next [] = refl
by-cells need plain next (d ∷ ds) =
    let behind = next + bytes_in d.ty d.behaviour in
    numbers-from need plain d (state_cells next d.ty d.behaviour) (states_from need behind ds) (values_from (cells_in need plain) behind ds) (by-cells need plain behind ds)

pub state-by-cells : (p : ProgramTree) (need : Needs) (plain : ℕ → Byte) → state_in p need plain ≡ values_from (cells_in need plain) 0 p.decls
state-by-cells p need plain = by-cells need plain 0 p.decls

-- Cells before a number that hold the same give the same values.
abbrev size : DeclTree → ℕ
size d = bytes_in d.ty d.behaviour

abbrev bytes_before : List DeclTree → ℕ → ℕ
bytes_before ds n = sum_by size (take n ds)

module _ (top : ℕ) (f g : ℕ → ℕ) (same : (cell : ℕ) → cell < top → f cell ≡ g cell) where
  number-same : (t : Ty) (next : ℕ) → next + type_bytes t ≤ top → held (is_wide t) (new_pair (is_wide t) next) f ≡ held (is_wide t) (new_pair (is_wide t) next) g
  number-same BoolTy next room = same next (omega arith)
  number-same U8 next room = same next (omega arith)
  number-same U16 next room = ap₂ (λ m n. m + 256 * n) (same next (omega arith)) (same (next + 1) (omega arith))

  value-same : (t : Ty) (b : BehaviourTree) (next : ℕ) → next + bytes_in t b ≤ top → value_of t (state_cells next t b) f ≡ value_of t (state_cells next t b) g
  value-same t (Reactive init clauses) next room = ap (λ n. n ∷ []) (number-same t next room)
  value-same t _ next room = refl

  pub values-same : (next : ℕ) (ds : List DeclTree) → next + sum_by size ds ≤ top → values_from f next ds ≡ values_from g next ds
  values-same next [] room = refl
  values-same next (d ∷ ds) room =
      let split = sum_by-cons size d ds in
      ap₂ (λ xs ys. xs ++ ys) (value-same d.ty d.behaviour next (omega (arith, split))) (values-same (next + size d) ds (omega (arith, split)))

-- The state that plain bytes hold depends on those of its cells alone.
pub state_in-same : (p : ProgramTree) (need : Needs) (plain other : ℕ → Byte) → ((cell : ℕ) → cell < state_bytes p → plain (address_of need cell) ≡ other (address_of need cell))
    → state_in p need plain ≡ state_in p need other
state_in-same p need plain other same =
    state-by-cells p need plain
    ∙ values-same (state_bytes p) (cells_in need plain) (cells_in need other) (λ cell below. ap num (same cell below)) 0 p.decls (omega arith)
    ∙ sym (state-by-cells p need other)

-- Definitions of one name stand at one place.
abbrev AreApart : List DeclTree → Type 0
AreApart ds = (m n : ℕ) (c d : DeclTree) → slice_get ds m ≡ Some c → slice_get ds n ≡ Some d → bytes_eq c.name d.name ≡ true → m ≡ n

rest-apart : (c : DeclTree) (cs : List DeclTree) → AreApart (c ∷ cs) → AreApart cs
rest-apart c cs apart k m x y here there same = let e : suc k ≡ suc m = apart (suc k) (suc m) x y here there same in omega (arith, e)

other-name : (c : DeclTree) (cs : List DeclTree) → AreApart (c ∷ cs) → (m : ℕ) (d : DeclTree) → slice_get cs m ≡ Some d → bytes_eq d.name c.name ≡ false
other-name c cs apart m d at = by_test (bytes_eq d.name c.name) refl
  where
    by_test : (b : Bool) → bytes_eq d.name c.name ≡ b → b ≡ false
    by_test false e = refl
    by_test true e = let no = apart (suc m) 0 d c at refl e in absurd (omega (arith, no))

own-name : (c : DeclTree) → bytes_eq c.name c.name ≡ true
own-name c = (bytes_eq-Decides c.name c.name).1 refl

abbrev kept : List DeclTree → List DeclTree
kept ds = filter (λ (d : DeclTree). is_reactive d.behaviour) ds

-- The reactive definitions with one more before them, which is of this kind; and the values with its value before them.
abbrev kept_with : BehaviourTree → DeclTree → List DeclTree → List DeclTree
kept_with b c cs = if is_reactive b then c ∷ kept cs else kept cs

abbrev own_value : (ℕ → ℕ) → ℕ → Ty → BehaviourTree → List ℕ
own_value f next t b = value_of t (state_cells next t b) f

-- What is asked of the values that belong to definitions: each is the one in the cells of its definition.
abbrev Hold : (ℕ → ℕ) → ℕ → List DeclTree → List DeclTree → List ℕ → Type 0
Hold f next ds found values =
    (n : ℕ) (d : DeclTree) (pair : Pair) → slice_get ds n ≡ Some d → state_cells (next + bytes_before ds n) d.ty d.behaviour ≡ Some pair
    → value_at found values d.name ≡ Some (held (is_wide d.ty) pair f)

-- The cells of the first definition, and of those behind it.
first-cells : (next : ℕ) (c : DeclTree) (cs : List DeclTree) (d : DeclTree) (o : Option Pair) → c ≡ d → state_cells (next + bytes_before (c ∷ cs) 0) d.ty d.behaviour ≡ o
    → state_cells next c.ty c.behaviour ≡ o
first-cells next c cs d o same is =
    let here : next ≡ next + bytes_before (c ∷ cs) 0 = omega arith in
    ap (λ (x : DeclTree). state_cells next x.ty x.behaviour) same ∙ ap (λ k. state_cells k d.ty d.behaviour) here ∙ is

bytes-behind : (next m : ℕ) (c : DeclTree) (cs : List DeclTree) → next + bytes_before (c ∷ cs) (suc m) ≡ next + size c + bytes_before cs m
bytes-behind next m c cs = let split = sum_by-cons size c (take m cs) in omega (arith, split)

module _ (f : ℕ → ℕ) where
  first-held : (next : ℕ) (c : DeclTree) (cs : List DeclTree) (values : List ℕ) (pair : Pair) (b : BehaviourTree) → state_cells next c.ty b ≡ Some pair
      → value_at (kept_with b c cs) (own_value f next c.ty b ++ values) c.name ≡ Some (held (is_wide c.ty) pair f)
  first-held next c cs values pair (Reactive init clauses) is =
      let own = new_pair (is_wide c.ty) next in
      ap (λ t. if t then Some (held (is_wide c.ty) own f) else value_at (kept cs) values c.name) (own-name c)
      ∙ ap (λ (q : Pair). Some (held (is_wide c.ty) q f)) (same_Some own pair is)
  first-held next c cs values pair _ is = absurd (none-some pair is)

  later-held : (next : ℕ) (c : DeclTree) (cs : List DeclTree) (values : List ℕ) (x : List ℕ) (v : Option ℕ) → bytes_eq x c.name ≡ false → (b : BehaviourTree)
      → value_at (kept cs) values x ≡ v → value_at (kept_with b c cs) (own_value f next c.ty b ++ values) x ≡ v
  later-held next c cs values x v other (Reactive init clauses) is =
      ap (λ t. if t then Some (held (is_wide c.ty) (new_pair (is_wide c.ty) next) f) else value_at (kept cs) values x) other ∙ is
  later-held next c cs values x v other _ is = is

  holds-at : (next : ℕ) (ds : List DeclTree) → AreApart ds → Hold f next ds (kept ds) (values_from f next ds)
  holds-at next [] apart n d pair at is = absurd (none-some d at)
  holds-at next (c ∷ cs) apart zero d pair at is =
      let same = same_Some c d at in
      subst (λ (x : DeclTree). value_at (kept (c ∷ cs)) (values_from f next (c ∷ cs)) x.name ≡ Some (held (is_wide x.ty) pair f)) same
      (first-held next c cs (values_from f (next + size c) cs) pair c.behaviour (first-cells next c cs d (Some pair) same is))
  holds-at next (c ∷ cs) apart (suc m) d pair at is =
      later-held next c cs (values_from f (next + size c) cs) d.name (Some (held (is_wide d.ty) pair f)) (other-name c cs apart m d at) c.behaviour
      (holds-at (next + size c) cs (rest-apart c cs apart) m d pair at (subst (λ k. state_cells k d.ty d.behaviour ≡ Some pair) (bytes-behind next m c cs) is))

  -- What is asked of values is met by one list alone.
  abbrev Only : List DeclTree → Type 0
  Only ds = (next : ℕ) (values : List ℕ) → AreValuesOf (map (λ (d : DeclTree). d.ty) (kept ds)) values → Hold f next ds (kept ds) values → values ≡ values_from f next ds

  only-by : (c : DeclTree) (cs : List DeclTree) → AreApart (c ∷ cs) → Only cs → (next : ℕ) (b : BehaviourTree) (values : List ℕ) → AreValuesOf (map (λ (d : DeclTree). d.ty) (kept_with b c cs)) values
      → ((pair : Pair) → state_cells next c.ty b ≡ Some pair → value_at (kept_with b c cs) values c.name ≡ Some (held (is_wide c.ty) pair f))
      → Hold f (next + bytes_in c.ty b) cs (kept_with b c cs) values
      → values ≡ own_value f next c.ty b ++ values_from f (next + bytes_in c.ty b) cs
  only-by c cs apart rest next (Reactive init clauses) [] are first others = absurd are
  only-by c cs apart rest next (Reactive init clauses) (x ∷ xs) are first others =
      let pair = new_pair (is_wide c.ty) next in
      let own : Some x ≡ Some (held (is_wide c.ty) pair f) = sym (ap (λ t. if t then Some x else value_at (kept cs) xs c.name) (own-name c)) ∙ first pair refl in
      let further : xs ≡ values_from f (next + type_bytes c.ty) cs = rest (next + type_bytes c.ty) xs are.1
      (λ n d its at is. sym (ap (λ t. if t then Some x else value_at (kept cs) xs d.name) (other-name c cs apart n d at)) ∙ others n d its at is) in
      ap₂ (λ m ms. m ∷ ms) (same_Some x (held (is_wide c.ty) pair f) own) further
  only-by c cs apart rest next (Plain e) values are first others = rest (next + 0) values are others
  only-by c cs apart rest next (Input port) values are first others = rest (next + 0) values are others
  only-by c cs apart rest next (Table entries) values are first others = rest (next + 0) values are others

  only : (ds : List DeclTree) → AreApart ds → Only ds
  only [] apart next [] are hold = refl
  only [] apart next (x ∷ xs) are hold = absurd are
  only (c ∷ cs) apart next values are hold =
      let here : next + bytes_before (c ∷ cs) 0 ≡ next = omega arith in
      only-by c cs apart (only cs (rest-apart c cs apart)) next c.behaviour values are
      (λ pair is. hold 0 c pair refl (ap (λ k. state_cells k c.ty c.behaviour) here ∙ is))
      (λ n d pair at is. hold (suc n) d pair at (ap (λ k. state_cells k d.ty d.behaviour) (bytes-behind next n c cs) ∙ is))

module _ (p : ProgramTree) (differ : NamesDiffer p) (f : ℕ → ℕ) where
  apart : AreApart p.decls
  apart m n c d here there same = same-place p differ m n c d here there same

  from_none : (n : ℕ) → 0 + bytes_before p.decls n ≡ bytes_before p.decls n
  from_none n = omega arith

  pub state-held : HoldState p (values_from f 0 p.decls) f
  state-held n d pair at is = holds-at f 0 p.decls apart n d pair at (ap (λ k. state_cells k d.ty d.behaviour) (from_none n) ∙ is)

  pub state-only : (s : State) → IsState p s → HoldState p s f → s ≡ values_from f 0 p.decls
  state-only s is_state hold =
      only f p.decls apart 0 s is_state (λ n d pair at is. hold n d pair at (ap (λ k. state_cells k d.ty d.behaviour) (sym (from_none n)) ∙ is))

-- The numbers that a map reads off a chip are those that plain bytes hold, where the addresses are those of placed cells.
module _ (need : Needs) (fits : bytes_of need ≤ 352) (r : Registers) where
  byte-there : (cell : ℕ) → cell < bytes_of need → byte_at r (address_of need cell) ≡ num (r.plain (address_of need cell))
  byte-there cell below =
      ap (λ (reg : Reg). num (read reg r)) (general-plain (address_of need cell) (addresses-general need fits cell below))

  number-there : (t : Ty) (next : ℕ) → next + type_bytes t ≤ bytes_of need
      → value_in r t (address_of need (new_pair (is_wide t) next).low) (address_of need (new_pair (is_wide t) next).high)
      ≡ held (is_wide t) (record { low = address_of need (new_pair (is_wide t) next).low; high = address_of need (new_pair (is_wide t) next).high }) (λ address. num (r.plain address))
  number-there BoolTy next room = byte-there next (omega arith)
  number-there U8 next room = byte-there next (omega arith)
  number-there U16 next room = ap₂ (λ m n. m + 256 * n) (byte-there next (omega arith)) (byte-there (next + 1) (omega arith))

  abbrev read_off : MapState → ℕ
  read_off s = value_in r s.ty s.low s.high

  listed-there : (d : DeclTree) (b : BehaviourTree) (next : ℕ) (rest : List MapState) → next + bytes_in d.ty b ≤ bytes_of need → map read_off rest ≡ map (number_in r.plain) rest
      → map read_off (listed need d (state_cells next d.ty b) ++ rest) ≡ map (number_in r.plain) (listed need d (state_cells next d.ty b) ++ rest)
  listed-there d (Reactive init clauses) next rest room same = ap₂ (λ n ns. n ∷ ns) (number-there d.ty next room) same
  listed-there d _ next rest room same = same

  pub numbers-there : (next : ℕ) (ds : List DeclTree) → next + sum_by size ds ≤ bytes_of need → map read_off (states_from need next ds) ≡ map (number_in r.plain) (states_from need next ds)
  numbers-there next [] room = refl
  numbers-there next (d ∷ ds) room =
      let split = sum_by-cons size d ds in
      listed-there d d.behaviour next (states_from need (next + size d) ds) (omega (arith, split)) (numbers-there (next + size d) ds (omega (arith, split)))
