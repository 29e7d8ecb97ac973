-- What the laws of `laws.rt` promise of each number's program and arrivals.
use Rattle.std.specs.Prelude.{◌≡◌, ℕ, ◌+◌, ◌*◌, ◌<◌, ◌≤◌, [], filter, length}
use Rattle.frp_tree.specs.declared.limits.TheConstants.{LONGEST_SOURCE}
use Rattle.frp_tree.specs.Tree.{DeclTree}
use Rattle.frp_tree.specs.Grammar.{Spells}
use Rattle.frp_tree.specs.Printed.{printed}
use Rattle.efrp_meaning.specs.Bounds.{levels, ram_bound, words_bound}
use Rattle.efrp_meaning.specs.Decls.{inputs_of, is_table}
use Rattle.efrp_types.specs.Passes.{Passes}
use Rattle.large_program.specs.LargePrograms.{large_program}
use Rattle.large_program.specs.Arrivals.{boundary_of, source_of}

-- What is printed of the program spells it, and is short enough to be read.
pub record PrintsWell (n : ℕ) : Type 0 where
  pub spells : Spells (printed (large_program n)) (large_program n)
  pub short : length (printed (large_program n)) ≤ LONGEST_SOURCE

-- The program passes the checks.
abbrev pub LargePasses : ℕ → Type 0
LargePasses n = Passes (large_program n)

-- It has no inputs and no tables, and fits the chip by its bounds: 8 levels, and at most so many bytes and words.
pub record LargeFits (n : ℕ) : Type 0 where
  pub no_inputs : inputs_of (large_program n) ≡ []
  pub no_tables : filter (λ (d : DeclTree). is_table d.behaviour) (large_program n).decls ≡ []
  pub levels_are : levels (large_program n) ≡ 8
  pub ram : ram_bound (large_program n) ≤ 169
  pub words : words_bound (large_program n) ≤ 5632

-- Arrivals rise, by 1 to 600 boundaries, and each is of one of the eleven sources.
pub record ArrivalsRise (n i : ℕ) : Type 0 where
  pub later : boundary_of n i < boundary_of n (i + 1)
  pub soon : boundary_of n (i + 1) ≤ boundary_of n i + 600
  pub bound : boundary_of n i ≤ 1000 + 600 * i
  pub source : source_of n i < 11
