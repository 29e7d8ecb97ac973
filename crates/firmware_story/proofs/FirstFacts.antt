-- Where cells hold the bytes of the initial state, the state that is read off them is the initial one.
use Rattle.std.proofs.Common.{◌≡◌, ℕ, zero, suc, ◌+◌, ◌*◌, ◌/◌, ◌%◌, ◌<◌, Some, List, [], ◌∷◌, ◌++◌, filter, get_or, if◌then◌else◌, length, map, refl, sym, ap, ap₂, subst, ◌∙◌, arith, length-append, lit<}
use Rattle.std.specs.List.{AllByRecursion}
use Rattle.std.proofs.lemmas.List.{get_or-append-add, get_or_append_left}
use Rattle.frp_tree.specs.declared.syntax.Ty.{Ty}
use Rattle.frp_tree.specs.declared.syntax.Ty.TheVariants.{Bool as BoolTy, U8, U16}
use Rattle.frp_tree.specs.Tree.{BehaviourTree, Plain, Input, Table, Reactive, DeclTree, ProgramTree}
use Rattle.efrp_meaning.specs.Bounds.{bytes_in, type_bytes}
use Rattle.efrp_meaning.specs.Decls.{is_reactive}
use Rattle.efrp_meaning.specs.Meaning.{initial_state}
use Rattle.efrp_meaning.specs.States.{AreValuesOf, IsState}
use Rattle.pic_regs.specs.Bytes.{Byte, bits, num}
use Rattle.pic_regs.proofs.ByteLaws.{num-bits}
use Rattle.byte_ops.specs.Cells.{held}
use Rattle.expr_lower.specs.Nodes.{new_pair}
use Rattle.expr_lower.specs.Numbered.{state_cells}
use Rattle.expr_lower.specs.Places.{is_wide}
use Rattle.bank_alloc.specs.declared.needs.Needs.{Needs}
use Rattle.isr_vector.specs.Booting.{bytes_of_state, bytes_of_value, bytes_of_values, first_bytes}
use Rattle.isr_vector.proofs.StateLaws.{first-is, state-bytes}
use Rattle.event_code.specs.States.{state_in}
use Rattle.event_code.proofs.StateLaws.{cells_in, state-by-cells, value_of, values_from}
use Rattle.vector_steps.specs.Standing.{HoldsFirst}

-- From one cell on, cells hold bytes.
abbrev HoldFrom : (ℕ → ℕ) → (from : ℕ) → List ℕ → Type 0
HoldFrom cells from bytes = (k : ℕ) → k < length bytes → cells (from + k) ≡ get_or bytes k 0

-- How many bytes a value has, and the definitions with a state.
bytes_many : (t : Ty) (n : ℕ) → length (bytes_of_value t n) ≡ type_bytes t
bytes_many BoolTy n = refl
bytes_many U8 n = refl
bytes_many U16 n = refl

abbrev kept : List DeclTree → List DeclTree
kept ds = filter (λ (d : DeclTree). is_reactive d.behaviour) ds

abbrev kept_with : BehaviourTree → DeclTree → List DeclTree → List DeclTree
kept_with b d ds = if is_reactive b then d ∷ kept ds else kept ds

module _ (cells : ℕ → ℕ) where
  first_part : (from : ℕ) (xs ys : List ℕ) → HoldFrom cells from (xs ++ ys) → HoldFrom cells from xs
  first_part from xs ys hold k inside = hold k (omega (arith, inside, length-append xs ys)) ∙ get_or_append_left xs ys 0 k inside

  second_part : (from : ℕ) (xs ys : List ℕ) → HoldFrom cells from (xs ++ ys) → HoldFrom cells (from + length xs) ys
  second_part from xs ys hold k inside =
      let there : from + length xs + k ≡ from + (length xs + k) = omega arith in
      ap cells there ∙ hold (length xs + k) (omega (arith, inside, length-append xs ys)) ∙ get_or-append-add xs ys k 0

  -- A value is read off its bytes, and so are all.
  byte_read : (n from : ℕ) → HoldFrom cells from (n ∷ []) → cells from ≡ n
  byte_read n from hold = let here : from ≡ from + 0 = omega arith in ap cells here ∙ hold 0 (lit< tt)

  value_read : (t : Ty) (n from : ℕ) → HoldFrom cells from (bytes_of_value t n) → held (is_wide t) (new_pair (is_wide t) from) cells ≡ n
  value_read BoolTy n from hold = byte_read n from hold
  value_read U8 n from hold = byte_read n from hold
  value_read U16 n from hold =
      let low = byte_read (n % 256) from (first_part from (n % 256 ∷ []) (n / 256 ∷ []) hold) in
      let high : cells (from + 1) ≡ n / 256 = hold 1 (lit< tt) in
      ap₂ (λ x y. x + 256 * y) low high ∙ omega arith

  -- The values behind the first definition are read.
  abbrev Read : List DeclTree → Type 0
  Read ds = (from : ℕ) (values : List ℕ) → AreValuesOf (map (λ (d : DeclTree). d.ty) (kept ds)) values → HoldFrom cells from (bytes_of_values (kept ds) values)
      → values_from cells from ds ≡ values

  unplaced : (d : DeclTree) (ds : List DeclTree) → Read ds → (from : ℕ) (values : List ℕ) → AreValuesOf (map (λ (d : DeclTree). d.ty) (kept ds)) values
      → HoldFrom cells from (bytes_of_values (kept ds) values) → [] ++ values_from cells (from + 0) ds ≡ values
  unplaced d ds rest from values are hold =
      let same : from + 0 ≡ from = omega arith in ap (λ k. values_from cells k ds) same ∙ rest from values are hold

  first_read : (d : DeclTree) (ds : List DeclTree) → Read ds → (from : ℕ) (b : BehaviourTree) (values : List ℕ) → AreValuesOf (map (λ (d : DeclTree). d.ty) (kept_with b d ds)) values
      → HoldFrom cells from (bytes_of_values (kept_with b d ds) values)
      → value_of d.ty (state_cells from d.ty b) cells ++ values_from cells (from + bytes_in d.ty b) ds ≡ values
  first_read d ds rest from (Reactive init clauses) [] are hold = absurd are
  first_read d ds rest from (Reactive init clauses) (n ∷ ns) are hold =
      let own = bytes_of_value d.ty n in
      let behind : from + length own ≡ from + type_bytes d.ty = ap (λ k. from + k) (bytes_many d.ty n) in
      ap₂ (λ m ms. m ∷ ms) (value_read d.ty n from (first_part from own (bytes_of_values (kept ds) ns) hold))
      (rest (from + type_bytes d.ty) ns are.1 (subst (λ k. HoldFrom cells k (bytes_of_values (kept ds) ns)) behind (second_part from own (bytes_of_values (kept ds) ns) hold)))
  first_read d ds rest from (Plain e) values are hold = unplaced d ds rest from values are hold
  first_read d ds rest from (Input port) values are hold = unplaced d ds rest from values are hold
  first_read d ds rest from (Table entries) values are hold = unplaced d ds rest from values are hold

  values_read : (ds : List DeclTree) → Read ds
  values_read [] from [] are hold = refl
  values_read [] from (n ∷ ns) are hold = absurd are
  values_read (d ∷ ds) from values are hold = first_read d ds (values_read ds) from d.behaviour values are hold

-- What plain bytes hold as numbers.
module _ (p : ProgramTree) (need : Needs) (initial : List ℕ) (begins : initial_state p ≡ Some initial) (is_state : IsState p initial) (plain : ℕ → Byte) (hold : HoldsFirst p need plain) where
  bytes_are : first_bytes p ≡ bytes_of_state p initial
  bytes_are = first-is p initial begins

  byte_at : (bytes : List ℕ) (k : ℕ) → AllByRecursion (λ byte. byte < 256) bytes → k < length bytes → get_or bytes k 0 < 256
  byte_at [] k all inside = absurd (omega (arith, inside))
  byte_at (byte ∷ bytes) zero all inside = all.0
  byte_at (byte ∷ bytes) (suc k) all inside = byte_at bytes k all.1 (omega (arith, inside))

  cells_hold : HoldFrom (cells_in need plain) 0 (bytes_of_state p initial)
  cells_hold k inside =
      let byte : ℕ = get_or (bytes_of_state p initial) k 0 in
      let there : k < length (first_bytes p) = subst (λ bytes. k < length bytes) (sym bytes_are) inside in
      let small = byte_at (bytes_of_state p initial) k (state-bytes p initial is_state).1 inside in
      let here : 0 + k ≡ k = omega arith in
      ap (cells_in need plain) here ∙ ap num (hold k there) ∙ ap (λ bytes. num (bits (get_or bytes k 0))) bytes_are ∙ num-bits byte ∙ omega (arith, small)

  pub first_state_read : state_in p need plain ≡ initial
  first_state_read = state-by-cells p need plain ∙ values_read (cells_in need plain) p.decls 0 initial is_state cells_hold
