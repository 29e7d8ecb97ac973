-- Programs that just fit the chip, and such that just don't.
use Rattle.std.specs.Prelude.{◌≡◌, ℕ, zero, suc, List, [], ◌∷◌, codes, refl}
use Rattle.std.proofs.Common.{arith}
use Rattle.frp_tree.specs.declared.syntax.Ty.TheVariants.{U8, U16}
use Rattle.frp_tree.specs.declared.syntax.Lit.{Lit}
use Rattle.frp_tree.specs.declared.syntax.Lit.TheVariants as lit
use Rattle.frp_tree.specs.Tree.{ProgramTree}
use Rattle.efrp_meaning.specs.Bounds.{levels, words_bound, ram_bound, Fits}
use Rattle.efrp_meaning.proofs.Examples.Programs.{clause, reactive, table, on_go, go}
use Rattle.efrp_meaning.proofs.Examples.LargeBounds.{eleven_events, all_sources, divisions, full_ram, past_ram}

-- Eight levels, and nine.
pub eight_levels_fit : Fits all_sources
eight_levels_fit = record {
  levels_fit = (let e : levels all_sources ≡ 8 = refl in omega (arith, e));
  ram_fits = (let e : ram_bound all_sources ≡ 52 = refl in omega (arith, e));
  words_fit = (let e : words_bound all_sources ≡ 2052 = refl in omega (arith, e));
}

abbrev nine_levels : ProgramTree
nine_levels = record all_sources { events = eleven_events 1 2 3 4 5 6 7 8 9 8 8 }

pub nine_are_nine : levels nine_levels ≡ 9
nine_are_nine = refl

pub nine_levels_do_not_fit : Fits nine_levels → ⊥
nine_levels_do_not_fit fits = let h = fits.levels_fit in omega (arith, h, nine_are_nine)

-- 352 bytes of RAM, and 353.
pub full_ram_fits : Fits full_ram
full_ram_fits = record {
  levels_fit = (let e : levels full_ram ≡ 1 = refl in omega (arith, e));
  ram_fits = (let e : ram_bound full_ram ≡ 352 = refl in omega (arith, e));
  words_fit = (let e : words_bound full_ram ≡ 2678 = refl in omega (arith, e));
}

pub past_ram_does_not_fit : Fits past_ram → ⊥
past_ram_does_not_fit fits = let h = fits.ram_fits in let e : ram_bound past_ram ≡ 353 = refl in omega (arith, h, e)

-- 8,192 words, and 8,193: nine divisions, and tables of 256, 256 and so many entries.
abbrev zeros : ℕ → List Lit
zeros zero = []
zeros (suc n) = lit.Plain 0 ∷ zeros n

abbrev with_table : ℕ → ProgramTree
with_table n = on_go (
    reactive (codes "x") U16 (lit.Wide 7) (clause go (divisions 9) ∷ [])
    ∷ table (codes "t") U8 (zeros 256) ∷ table (codes "u") U8 (zeros 256) ∷ table (codes "v") U8 (zeros n) ∷ [])

pub full_words_fit : Fits (with_table 36)
full_words_fit = record {
  levels_fit = (let e : levels (with_table 36) ≡ 1 = refl in omega (arith, e));
  ram_fits = (let e : ram_bound (with_table 36) ≡ 46 = refl in omega (arith, e));
  words_fit = (let e : words_bound (with_table 36) ≡ 8192 = refl in omega (arith, e));
}

pub past_words_do_not_fit : Fits (with_table 37) → ⊥
past_words_do_not_fit fits = let h = fits.words_fit in let e : words_bound (with_table 37) ≡ 8193 = refl in omega (arith, h, e)
