-- Bytes by their bits.
use Rattle.std.specs.Prelude.{ℕ, zero, suc, ◌+◌, ◌*◌, ◌/◌, ◌%◌, Bool, true, false, not, ◌&&◌, ◌||◌, ◌==◌, if◌then◌else◌}

-- A byte, by its bits.
pub record Byte : Type 0 where
  pub b7 : Bool
  pub b6 : Bool
  pub b5 : Bool
  pub b4 : Bool
  pub b3 : Bool
  pub b2 : Bool
  pub b1 : Bool
  pub b0 : Bool

-- What a bit counts as a number, 1 or 0.
abbrev pub one_if : Bool → ℕ
one_if bit = if bit then 1 else 0

-- The number that a byte is.
abbrev pub num : Byte → ℕ
num x = 128 * one_if x.b7 + 64 * one_if x.b6 + 32 * one_if x.b5 + 16 * one_if x.b4 + 8 * one_if x.b3 + 4 * one_if x.b2 + 2 * one_if x.b1 + one_if x.b0

-- The low eight bits of a number.
abbrev pub bits : ℕ → Byte
bits n = record {
  b7 = (n / 128 % 2) == 1;
  b6 = (n / 64 % 2) == 1;
  b5 = (n / 32 % 2) == 1;
  b4 = (n / 16 % 2) == 1;
  b3 = (n / 8 % 2) == 1;
  b2 = (n / 4 % 2) == 1;
  b1 = (n / 2 % 2) == 1;
  b0 = (n % 2) == 1;
}

-- The byte 00h, and the byte FFh.
abbrev pub zeros : Byte
zeros = record { b7 = false; b6 = false; b5 = false; b4 = false; b3 = false; b2 = false; b1 = false; b0 = false }

abbrev pub ones : Byte
ones = record { b7 = true; b6 = true; b5 = true; b4 = true; b3 = true; b2 = true; b1 = true; b0 = true }

-- The bit with this number, from 0 to 7.
abbrev pub bit : ℕ → Byte → Bool
bit zero x = x.b0
bit (suc zero) x = x.b1
bit (suc (suc zero)) x = x.b2
bit (suc (suc (suc zero))) x = x.b3
bit (suc (suc (suc (suc zero)))) x = x.b4
bit (suc (suc (suc (suc (suc zero))))) x = x.b5
bit (suc (suc (suc (suc (suc (suc zero)))))) x = x.b6
bit _ x = x.b7

-- The byte with this bit, from 0 to 7, made what is given.
abbrev pub with_bit : ℕ → Bool → Byte → Byte
with_bit zero v x = record x { b0 = v }
with_bit (suc zero) v x = record x { b1 = v }
with_bit (suc (suc zero)) v x = record x { b2 = v }
with_bit (suc (suc (suc zero))) v x = record x { b3 = v }
with_bit (suc (suc (suc (suc zero)))) v x = record x { b4 = v }
with_bit (suc (suc (suc (suc (suc zero))))) v x = record x { b5 = v }
with_bit (suc (suc (suc (suc (suc (suc zero)))))) v x = record x { b6 = v }
with_bit _ v x = record x { b7 = v }

-- The byte is 00h.
abbrev pub is_zero : Byte → Bool
is_zero x = not (x.b7 || x.b6 || x.b5 || x.b4 || x.b3 || x.b2 || x.b1 || x.b0)

-- Some bit is set in both bytes.
abbrev pub share_a_bit : Byte → Byte → Bool
share_a_bit x y = x.b7 && y.b7 || x.b6 && y.b6 || x.b5 && y.b5 || x.b4 && y.b4 || x.b3 && y.b3 || x.b2 && y.b2 || x.b1 && y.b1 || x.b0 && y.b0

-- Two bytes put together bit by bit.
abbrev pub bit_by_bit : (Bool → Bool → Bool) → Byte → Byte → Byte
bit_by_bit op x y = record {
  b7 = op x.b7 y.b7;
  b6 = op x.b6 y.b6;
  b5 = op x.b5 y.b5;
  b4 = op x.b4 y.b4;
  b3 = op x.b3 y.b3;
  b2 = op x.b2 y.b2;
  b1 = op x.b1 y.b1;
  b0 = op x.b0 y.b0;
}

-- Bit by bit, the second byte where the first is 0 and the third where it is 1.
abbrev pub chosen : Byte → Byte → Byte → Byte
chosen choice x y = record {
  b7 = if choice.b7 then y.b7 else x.b7;
  b6 = if choice.b6 then y.b6 else x.b6;
  b5 = if choice.b5 then y.b5 else x.b5;
  b4 = if choice.b4 then y.b4 else x.b4;
  b3 = if choice.b3 then y.b3 else x.b3;
  b2 = if choice.b2 then y.b2 else x.b2;
  b1 = if choice.b1 then y.b1 else x.b1;
  b0 = if choice.b0 then y.b0 else x.b0;
}

-- The byte with its halves exchanged.
abbrev pub swapped : Byte → Byte
swapped x = record { b7 = x.b3; b6 = x.b2; b5 = x.b1; b4 = x.b0; b3 = x.b7; b2 = x.b6; b1 = x.b5; b0 = x.b4 }

-- A memory with one place made what is given; all other places are as they were.
abbrev pub updated : {A : Type 0} → (ℕ → A) → ℕ → A → ℕ → A
updated memory place value at = if at == place then value else memory at
