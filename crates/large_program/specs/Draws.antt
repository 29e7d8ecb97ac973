-- The number that is drawn from, and what is drawn of it.
use Rattle.std.specs.Prelude.{ℕ, zero, suc, ◌+◌, ◌*◌, ◌^◌, ◌/◌, ◌%◌}

-- The number that follows a number below 2 ^ 32.
abbrev pub next : ℕ → ℕ
next s = (s * 1664525 + 1013904223) % 2 ^ 32

-- The number after so many draws.
unfoldable pub after_draws : ℕ → ℕ → ℕ
after_draws zero s = s
after_draws (suc k) s = next (after_draws k s)

-- What a number gives below m.
abbrev pub below : ℕ → ℕ → ℕ
below m s = s / 65536 % m

-- The k-th draw from number s on, counted from 1, below m: the number that follows comes first, and it is drawn of that.
abbrev pub draw : ℕ → ℕ → ℕ → ℕ
draw s k m = below m (after_draws k s)
