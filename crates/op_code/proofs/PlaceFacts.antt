-- The named bytes of an operation on placed cells lie where they can; what code of its template may write; and its bank.
use Rattle.std.proofs.Common.{◌≡◌, ◌≢◌, ℕ, ◌+◌, ◌/◌, ◌<◌, ◌≤◌, ◌⊎◌, Bool, true, false, ◌==◌, ◌||◌, if◌then◌else◌, Option, Some, None, List, [], ◌∷◌, ap, ◌∙◌, sym, refl, subst, arith, inl, inr}
use Rattle.std.proofs.lemmas.Bool.{and_parts, ltb-true}
use Rattle.std.proofs.lemmas.Bool.Decides.{nat_tests}
use Rattle.std.specs.List.{AllByRecursion}
use Rattle.byte_ops.specs.declared.operations.Op.{Op}
use Rattle.byte_ops.specs.declared.operations.Op.TheVariants.{Set, Copy, Com, Not, Bits, Sum, Compare, Logic, Choose, Shift, Product}
use Rattle.byte_ops.specs.Cells.{AreIn, AreNot, Differ}
use Rattle.byte_ops.specs.Meaning.{read_by, written_by}
use Rattle.bank_alloc.specs.declared.needs.Needs.{Needs}
use Rattle.bank_alloc.specs.Needs.{bytes_of}
use Rattle.bank_alloc.specs.Addresses.{address_of, is_general}
use Rattle.bank_alloc.proofs.AddressLaws.{addresses-differ, addresses-general, general-plain}
use Rattle.code_acts.specs.declared.acts.Act.{Act}
use Rattle.code_acts.specs.Acts.{name_of}
use Rattle.code_acts.specs.Codes.{far, is_operand, latest, may_skip, names_allowed, place_of, sound}
use Rattle.code_acts.specs.Laws.{IsFar, IsUsed, LieIn, OthersPlaced}
use Rattle.code_acts.specs.Standing.{Placed, PlacesOf}
use Rattle.code_acts.proofs.PlaceLaws.{all_placed, operands_of}
use Rattle.op_templates.specs.Templates.{named}
use Rattle.op_templates.specs.Laws.{uses, writes}
use Rattle.op_code.specs.Laws.{ArePlaced, IsOpOn}
use Rattle.op_code.specs.Named.{addresses_of, cell_at, named_by}
use Rattle.op_code.specs.Operations.{IsOperandByte, IsOperandOrCell, LieIn as LiesIn, cells_of_op, is_one_of}
use Rattle.op_code.proofs.NameFacts.{all-joined, all-cells, any-append, at_name, one_of-map, or_cases, or_right, place-cell, read-cells, same_name, written-cells}

pub general-below : (address : ℕ) → is_general address ≡ true → address < 512
general-below address general = grind (arith, nat_tests)

pub general-outside : (address : ℕ) → is_general address ≡ true → IsOperandByte address → ⊥
general-outside address general (from, below) = grind (arith, nat_tests)

outside-either : (address : ℕ) → is_general address ≡ true → (address < 0x74) ⊎ (0x80 ≤ address)
outside-either address general = grind (arith, nat_tests)

abbrev pub place_for : Needs → Op → ℕ → ℕ
place_for need op = place_of (addresses_of need (named_by op))

abbrev cell_for : Op → ℕ → ℕ
cell_for op = cell_at (named_by op)

-- A name that isn't an operand byte's is one of the operation's.
not_operand : (names : List ℕ) (n : ℕ) → is_operand n ≡ false → (is_operand n || is_one_of names n) ≡ true → is_one_of names n ≡ true
not_operand names n is h = subst (λ b. (b || is_one_of names n) ≡ true) is h

written_used : (op : Op) → IsUsed (uses op) (writes op)
written_used op n h =
    elim (or_cases (is_operand n) (is_one_of (written_by (named op)) n) h) as (λ e. uses op n ≡ true) [
      | inl e ↦ ap (λ b. b || is_one_of (cells_of_op (named op)) n) e
      | inr e ↦ or_right (is_operand n) (is_one_of (cells_of_op (named op)) n)
          (any-append (λ m. m == n) (read_by (named op)) (written_by (named op)) ∙ or_right (is_one_of (read_by (named op)) n) (is_one_of (written_by (named op)) n) e)
    ]

module _ (need : Needs) (op : Op) (fits : bytes_of need ≤ 352) (on : IsOpOn (bytes_of need) op) where
  -- What holds of all cells of the operation holds of that of each of its names.
  pub of_used : (P : ℕ → Type 0) → AllByRecursion P (cells_of_op op) → (n : ℕ) → is_operand n ≡ false → uses op n ≡ true → P (cell_for op n)
  of_used P all n is h =
      at_name P (cell_for op) (cells_of_op (named op)) n (subst (AllByRecursion P) (all-cells op) all) (not_operand (cells_of_op (named op)) n is h)

  cell_below : (n : ℕ) → is_operand n ≡ false → uses op n ≡ true → cell_for op n < bytes_of need
  cell_below = of_used (λ cell. cell < bytes_of need) on.placed

  place_is : (n : ℕ) → is_operand n ≡ false → place_for need op n ≡ address_of need (cell_for op n)
  place_is = place-cell need (named_by op)

  is_far : (n : ℕ) → is_operand n ≡ false → uses op n ≡ true → IsFar (place_for need op n)
  is_far n is h =
      let general : is_general (place_for need op n) ≡ true = subst (λ a. is_general a ≡ true) (sym (place_is n is)) (addresses-general need fits (cell_for op n) (cell_below n is h)) in
      record { below = general-below (place_for need op n) general; plain = general-plain (place_for need op n) general; outside = outside-either (place_for need op n) general }

  cell_written : (P : ℕ → Type 0) → AllByRecursion P (written_by op) → (n : ℕ) → is_operand n ≡ false → writes op n ≡ true → P (cell_for op n)
  cell_written P all n is h =
      at_name P (cell_for op) (written_by (named op)) n (subst (AllByRecursion P) (written-cells op) all) (not_operand (written_by (named op)) n is h)

  cells_apart : (n m : ℕ) → is_operand n ≡ false → is_operand m ≡ false → writes op n ≡ true → uses op m ≡ true → cell_for op n ≡ cell_for op m → n ≡ m
  cells_apart n m is also written used same =
      let m_one = not_operand (cells_of_op (named op)) m also used in
      let m_parts = sym (any-append (λ x. x == m) (read_by (named op)) (written_by (named op))) ∙ m_one in
      elim (or_cases (is_one_of (read_by (named op)) m) (is_one_of (written_by (named op)) m) m_parts) as (λ e. n ≡ m) [
        | inl e ↦ absurd (at_name (λ other. cell_for op n ≢ other) (cell_for op) (read_by (named op)) m
            (subst (AreNot (cell_for op n)) (read-cells op) (cell_written (λ cell. AreNot cell (read_by op)) on.apart n is written)) e same)
        | inr e ↦ same_name (cell_for op) (written_by (named op)) n m (subst Differ (written-cells op) on.differ)
            (not_operand (written_by (named op)) n is written) e same
      ]

  others : OthersPlaced (uses op) (writes op) (place_for need op)
  others = record {
    used = written_used op;
    far = is_far;
    apart = λ n m is also written used same.
        cells_apart n m is also written used
        (addresses-differ need fits (cell_for op n) (cell_for op m) (cell_below n is (written_used op n written)) (cell_below m also used)
        (sym (place_is n is) ∙ same ∙ place_is m also));
  }

  pub named_placed : Placed (uses op) (writes op) (place_for need op)
  named_placed = all_placed (uses op) (writes op) (place_for need op) (operands_of (addresses_of need (named_by op))) others

  pub written_are_used : IsUsed (uses op) (writes op)
  written_are_used = written_used op

  -- The addresses of names that may be written are those of operand bytes and of cells that the operation writes.
  may_by : (n address : ℕ) (b : Bool) → is_operand n ≡ b → writes op n ≡ true → address ≡ place_for need op n → IsOperandOrCell need (is_one_of (written_by op)) address
  may_by n address true is written at =
      let low : n < 12 = ltb-true n 12 is in
      let lies : place_for need op n ≡ 0x74 + n = operands_of (addresses_of need (named_by op)) n low in
      inl ((omega (arith, low, lies, at), omega (arith, low, lies, at)))
  may_by n address false is written at = inr ((
    cell_for op n,
    cell_below n is (written_used op n written),
    subst (λ cells. is_one_of cells (cell_for op n) ≡ true) (sym (written-cells op))
        (one_of-map (cell_for op) (written_by (named op)) n (not_operand (written_by (named op)) n is written)),
    at ∙ place_is n is,
  ))

  pub may_write : (address : ℕ) → PlacesOf (writes op) (place_for need op) address → IsOperandOrCell need (is_one_of (written_by op)) address
  may_write address (n, written, at) = may_by n address (is_operand n) refl written at

  -- The addresses of names that are used are those of operand bytes and of cells that enclose the operation's.
  used_by : (picked : ℕ → Bool) → AllByRecursion (λ cell. picked cell ≡ true) (cells_of_op op)
      → (n address : ℕ) (b : Bool) → is_operand n ≡ b → uses op n ≡ true → address ≡ place_for need op n → IsOperandOrCell need picked address
  used_by picked own n address true is used at =
      let low : n < 12 = ltb-true n 12 is in
      let lies : place_for need op n ≡ 0x74 + n = operands_of (addresses_of need (named_by op)) n low in
      inl ((omega (arith, low, lies, at), omega (arith, low, lies, at)))
  used_by picked own n address false is used at = inr ((
    cell_for op n,
    cell_below n is used,
    of_used (λ cell. picked cell ≡ true) own n is used,
    at ∙ place_is n is,
  ))

  pub uses_picked : (picked : ℕ → Bool) → AllByRecursion (λ cell. picked cell ≡ true) (cells_of_op op)
      → (address : ℕ) → PlacesOf (uses op) (place_for need op) address → IsOperandOrCell need picked address
  uses_picked picked own address (n, used, at) = used_by picked own n address (is_operand n) refl used at

  -- A placed cell that the operation doesn't write has no address that it may write.
  pub cell_missed : (cell : ℕ) → cell < bytes_of need → is_one_of (written_by op) cell ≡ false → IsOperandOrCell need (is_one_of (written_by op)) (address_of need cell) → ⊥
  cell_missed cell below not (inl operand) = general-outside (address_of need cell) (addresses-general need fits cell below) operand
  cell_missed cell below not (inr (other, placed, is, same)) =
      let one : cell ≡ other = addresses-differ need fits cell other below placed same in
      let clash : is_one_of (written_by op) cell ≡ true = subst (λ x. is_one_of (written_by op) x ≡ true) (sym one) is in
      cc

  -- Where all cells lie in a bank, each name that needs one lies in it.
  name_lies : (k : ℕ) → LiesIn need k (cells_of_op op) → (name : Option ℕ) → names_allowed (uses op) name ≡ true → (j : ℕ) → far (place_for need op) name ≡ Some j → j ≡ k
  name_lies k lie None used j h = absurd (cc)
  name_lies k lie (Some n) used j h = by_operand (is_operand n) refl h
    where
      by_operand : (b : Bool) → is_operand n ≡ b → (if b then None else Some (place_for need op n / 128)) ≡ Some j → j ≡ k
      by_operand true is e = absurd (cc)
      by_operand false is e =
          let here : place_for need op n / 128 ≡ k = ap (λ a. a / 128) (place_is n is) ∙ of_used (λ cell. address_of need cell / 128 ≡ k) lie n is used in
          cc

  pub acts_lie : (k : ℕ) → LiesIn need k (cells_of_op op) → (last : Option ℕ) (behind : Bool) (acts : List Act)
      → sound (uses op) (writes op) last behind acts ≡ true → LieIn (place_for need op) k acts
  acts_lie k lie last behind [] h = tt
  acts_lie k lie last behind (a ∷ more) h =
      let parts = and_parts _ _ h in
      let names = (and_parts _ _ (and_parts _ _ (and_parts _ _ parts.0).0).0).0 in
      (name_lies k lie (name_of a) names, acts_lie k lie (latest last (name_of a)) (may_skip a) more parts.1)

-- An address of a placed cell is below 512.
pub address-below : (need : Needs) (cell : ℕ) → bytes_of need ≤ 352 → cell < bytes_of need → address_of need cell < 512
address-below need cell fits below = general-below (address_of need cell) (addresses-general need fits cell below)

-- The cells of an operation's names are among so many, where those of the operation are.
pub names-placed : (count : ℕ) (op : Op) → AreIn count (read_by op) → AreIn count (written_by op) → ArePlaced count (named_by op)
names-placed count (Set to k) reads written = (written.0, written.0, written.0, written.0, written.0, written.0, written.0)
names-placed count (Copy to a) reads written = (written.0, written.0, reads.0, reads.0, reads.0, reads.0, written.0)
names-placed count (Com to a) reads written = (written.0, written.0, reads.0, reads.0, reads.0, reads.0, written.0)
names-placed count (Not to a) reads written = (written.0, written.0, reads.0, reads.0, reads.0, reads.0, written.0)
names-placed count (Bits f to a b) reads written = (written.0, written.0, reads.0, reads.0, reads.1.0, reads.1.0, written.0)
names-placed count (Sum f true to a b) reads written = (written.0, written.1.0, reads.0, reads.1.0, reads.1.1.0, reads.1.1.1.0, written.0)
names-placed count (Sum f false to a b) reads written = (written.0, written.0, reads.0, reads.0, reads.1.0, reads.1.0, written.0)
names-placed count (Compare f true to a b) reads written = (written.0, written.0, reads.0, reads.1.0, reads.1.1.0, reads.1.1.1.0, written.0)
names-placed count (Compare f false to a b) reads written = (written.0, written.0, reads.0, reads.0, reads.1.0, reads.1.0, written.0)
names-placed count (Logic f to a b) reads written = (written.0, written.0, reads.0, reads.0, reads.1.0, reads.1.0, written.0)
names-placed count (Choose true to c a b) reads written = (written.0, written.1.0, reads.1.0, reads.1.1.0, reads.1.1.1.0, reads.1.1.1.1.0, reads.0)
names-placed count (Choose false to c a b) reads written = (written.0, written.0, reads.1.0, reads.1.0, reads.1.1.0, reads.1.1.0, reads.0)
names-placed count (Shift side true n to a) reads written = (written.0, written.1.0, reads.0, reads.1.0, reads.0, reads.1.0, written.0)
names-placed count (Shift side false n to a) reads written = (written.0, written.0, reads.0, reads.0, reads.0, reads.0, written.0)
names-placed count (Product f true to a b) reads written = (written.0, written.1.0, reads.0, reads.1.0, reads.1.1.0, reads.1.1.1.0, written.0)
names-placed count (Product f false to a b) reads written = (written.0, written.0, reads.0, reads.0, reads.1.0, reads.1.0, written.0)

pub cells-placed : (count : ℕ) (op : Op) → AreIn count (read_by op) → AreIn count (written_by op) → AreIn count (cells_of_op op)
cells-placed count op reads written = all-joined (λ cell. cell < count) (read_by op) (written_by op) reads written
