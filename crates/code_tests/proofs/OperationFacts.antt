-- Operations on some of so many cells, by tests; and items that are instructions, which fit and have no mark.
use Rattle.std.proofs.Common.{◌≡◌, ◌≢◌, ℕ, ◌+◌, ◌<◌, ◌≤◌, Bool, true, false, not, nat_lt, nat_le, ◌==◌, ◌&&◌, IsTrue, Some, List, [], ◌∷◌, map, ap, ◌∙◌, sym, refl, subst, arith}
use Rattle.std.proofs.lemmas.Bool.{and_parts, ltb-true, eq-eqb}
use Rattle.std.proofs.lemmas.Bool.Decides.{nat_tests}
use Rattle.std.specs.List.{AllByRecursion, list_all}
use Rattle.pic_isa.specs.declared.instructions.Instr.{Instr}
use Rattle.pic_isa.specs.Instructions.{FieldsFit}
use Rattle.pic_machine.specs.Exec.{field}
use Rattle.byte_ops.specs.declared.operations.Op.{Op}
use Rattle.byte_ops.specs.declared.operations.Op.TheVariants.{Set, Bits, Sum, Compare, Logic, Shift, Product}
use Rattle.byte_ops.specs.Cells.{AreIn, AreNot, Differ}
use Rattle.byte_ops.specs.Kinds.{IsOp, most_shifted}
use Rattle.byte_ops.specs.Meaning.{read_by, written_by}
use Rattle.code_items.specs.declared.items.Item.{Item}
use Rattle.code_items.specs.declared.items.Item.TheVariants.{Ins}
use Rattle.code_items.specs.Items.{ItemFits, OnceEach, times}
use Rattle.op_templates.specs.Laws.{HasByte}
use Rattle.op_code.specs.Operations.{AreInstrs}
use Rattle.code_tests.specs.Operations.{all_differ, has_byte, is_none_of, is_op, is_op_on}

passes : (p : ℕ → Bool) (P : ℕ → Type 0) → ((n : ℕ) → p n ≡ true → P n) → (xs : List ℕ) → list_all p xs ≡ true → AllByRecursion P xs
passes p P each [] h = tt
passes p P each (x ∷ xs) h = let parts = and_parts _ _ h in (each x parts.0, passes p P each xs parts.1)

differs : (n m : ℕ) → not (n == m) ≡ true → n ≢ m
differs n m h e = let same : (n == m) ≡ true = eq-eqb n m e in let other : not true ≡ true = ap not (sym same) ∙ h in cc

none_of : (cells : List ℕ) (cell : ℕ) → is_none_of cells cell ≡ true → AreNot cell cells
none_of cells cell h = passes (λ other. not (cell == other)) (λ other. cell ≢ other) (differs cell) cells h

do_differ : (cells : List ℕ) → all_differ cells ≡ true → Differ cells
do_differ [] h = tt
do_differ (x ∷ xs) h = let parts = and_parts _ _ h in (none_of xs x parts.0, do_differ xs parts.1)

at_most : (n m : ℕ) → nat_le n m ≡ true → n ≤ m
at_most n m h = grind (arith, nat_tests)

of_kind : (op : Op) → is_op op ≡ true → IsOp op
of_kind (Bits f to a b) h = h
of_kind (Sum f wide to a b) h = h
of_kind (Compare f wide to a b) h = h
of_kind (Logic f to a b) h = h
of_kind (Shift side wide n to a) h = at_most n (most_shifted wide) h
of_kind (Product f wide to a b) h = h
of_kind _ h = tt

byte_of : (op : Op) → has_byte op ≡ true → HasByte op
byte_of (Set to k) h = ltb-true k 256 h
byte_of _ h = tt

pub record On (count : ℕ) (op : Op) : Type 0 where
  pub kind : IsOp op
  pub byte : HasByte op
  pub read_in : AreIn count (read_by op)
  pub written_in : AreIn count (written_by op)
  pub apart : AllByRecursion (λ cell. AreNot cell (read_by op)) (written_by op)
  pub differ : Differ (written_by op)

pub op_on : (count : ℕ) (op : Op) → is_op_on count op ≡ true → On count op
op_on count op h =
    let kind = and_parts _ _ h in
    let byte = and_parts _ _ kind.1 in
    let reads = and_parts _ _ byte.1 in
    let writes = and_parts _ _ reads.1 in
    let apart = and_parts _ _ writes.1 in
    record {
      kind = of_kind op kind.0;
      byte = byte_of op byte.0;
      read_in = passes (λ cell. nat_lt cell count) (λ cell. cell < count) (λ n less. ltb-true n count less) (read_by op) reads.0;
      written_in = passes (λ cell. nat_lt cell count) (λ cell. cell < count) (λ n less. ltb-true n count less) (written_by op) writes.0;
      apart = passes (is_none_of (read_by op)) (λ cell. AreNot cell (read_by op)) (none_of (read_by op)) (written_by op) apart.0;
      differ = do_differ (written_by op) apart.1;
    }

fit_each : (instrs : List Instr) → AllByRecursion (λ i. FieldsFit i × (field i ≡ Some 0x0A → ⊥)) instrs → AllByRecursion ItemFits (map Ins instrs)
fit_each [] all = tt
fit_each (i ∷ more) all = (all.0.0, fit_each more all.1)

no_marks : (m : ℕ) (instrs : List Instr) → times m (map Ins instrs) ≡ 0
no_marks m [] = refl
no_marks m (i ∷ more) = let rest = no_marks m more in omega (arith, rest)

pub items_fit : (items : List Item) (instrs : List Instr) → AreInstrs items instrs → AllByRecursion ItemFits items
items_fit items instrs are = subst (AllByRecursion ItemFits) (sym are.all) (fit_each instrs are.fit)

pub items_once : (items : List Item) (instrs : List Instr) → AreInstrs items instrs → OnceEach items
items_once items instrs are m =
    let none = no_marks m instrs in
    let same : times m items ≡ times m (map Ins instrs) = ap (times m) are.all in omega (arith, none, same)
