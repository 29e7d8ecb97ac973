-- The cells that the names of an operation stand for, and their addresses.
use Rattle.std.specs.Prelude.{ℕ, Bool, ◌==◌, if◌then◌else◌}
use Rattle.byte_ops.specs.declared.operations.Op.{Op}
use Rattle.byte_ops.specs.declared.operations.Op.TheVariants.{Set, Copy, Com, Not, Bits, Sum, Compare, Logic, Choose, Shift, Product}
use Rattle.byte_ops.specs.declared.operations.Pair.{Pair}
use Rattle.bank_alloc.specs.declared.needs.Needs.{Needs}
use Rattle.bank_alloc.specs.Addresses.{address_of}
use Rattle.code_acts.specs.declared.acts.Places.{Places}
use Rattle.op_code.specs.declared.named.Named.{Named}

-- The cell of the upper byte of a pair, where it is wide; else its one cell.
abbrev pub high_of : (wide : Bool) → Pair → ℕ
high_of wide pair = if wide then pair.high else pair.low

-- The cells of names where each number is a byte; and where numbers are pairs, wide or not.
abbrev pub singles : (to a b : ℕ) → Named
singles to a b = record { to = to; to_high = to; a = a; a_high = a; b = b; b_high = b; c = to }

abbrev pub pairs : (wide : Bool) → (to a b : Pair) → (c : ℕ) → Named
pairs wide to a b c = record {
  to = to.low;
  to_high = high_of wide to;
  a = a.low;
  a_high = high_of wide a;
  b = b.low;
  b_high = high_of wide b;
  c = c;
}

-- The cells that the names of an operation stand for. A name that it hasn't got stands for one of its cells.
abbrev pub named_by : Op → Named
named_by (Set to k) = singles to to to
named_by (Copy to a) = singles to a a
named_by (Com to a) = singles to a a
named_by (Not to a) = singles to a a
named_by (Bits f to a b) = singles to a b
named_by (Sum f wide to a b) = pairs wide to a b to.low
named_by (Compare f wide to a b) = pairs wide (record { low = to; high = to }) a b to
named_by (Logic f to a b) = singles to a b
named_by (Choose wide to c a b) = pairs wide to a b c
named_by (Shift side wide n to a) = pairs wide to a a to.low
named_by (Product f wide to a b) = pairs wide to a b to.low

-- The cell of a name by its number.
abbrev pub cell_at : Named → ℕ → ℕ
cell_at named n =
    if n == 12 then named.to
    else if n == 13 then named.to_high
    else if n == 14 then named.a
    else if n == 15 then named.a_high
    else if n == 16 then named.b
    else if n == 17 then named.b_high
    else named.c

-- The addresses of cells that have names.
abbrev pub addresses_of : Needs → Named → Places
addresses_of need named = record {
  to = address_of need named.to;
  to_high = address_of need named.to_high;
  a = address_of need named.a;
  a_high = address_of need named.a_high;
  b = address_of need named.b;
  b_high = address_of need named.b_high;
  c = address_of need named.c;
}
