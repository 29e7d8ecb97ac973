-- What a map may report of an image.
use Rattle.std.specs.Prelude.{ℕ, ◌&&◌, ◌≤◌, [], ◌∷◌, Some}
use Rattle.std.proofs.Common.{◌≡◌, refl, arith}
use Rattle.efrp_meaning.specs.Bounds.{words_bound, ram_bound, settle_bound}
use Rattle.hex_file.specs.declared.images.Word.{Word}
use Rattle.hex_file.specs.declared.images.Image.{Image}
use Rattle.map_file.specs.declared.maps.Map.{Map}
use Rattle.firmware_promises.specs.Firmware.{Reports, count_below, is_banked}
use Rattle.firmware_promises.specs.MapNames.{is_listed}
use Rattle.promise_examples.proofs.Logs.Stories.{counting, counting_map}

-- Words at 8, 20 and 21, and the map that reports them.
abbrev pub word_at : ℕ → Word
word_at its_address = record { address = its_address; word = 0 }

abbrev pub three_words : Image
three_words = record { words = word_at 8 ∷ word_at 20 ∷ word_at 21 ∷ []; config = Some 0x3F3A; aside = [] }

abbrev reporting : Map
reporting = record counting_map { words = 3 }

-- A map that lists one range.
abbrev pub listing : ℕ → ℕ → Map
listing first last = record counting_map { regs = record { from = first; to = last } ∷ [] }

-- The bounds of the program: one state of one byte, one level.
words_by_hand : words_bound counting ≡ 312
words_by_hand = refl

ram_by_hand : ram_bound counting ≡ 11
ram_by_hand = refl

settle_by_hand : settle_bound counting ≡ 590
settle_by_hand = refl

-- All is at its bound or below.
pub reports : Reports counting three_words reporting
unfolding count_below
reports = record {
  words = refl;
  words_bounded = omega arith;
  ram = refl;
  ram_bounded = omega arith;
  settle_bounded = omega arith;
  depth_in_range = omega arith;
  depth_bounded = omega arith;
}

-- At the bounds themselves, and one above.
pub reports_at_bounds : Reports counting three_words (record reporting { settle = 590; depth = 2 })
unfolding count_below
reports_at_bounds = record {
  words = refl;
  words_bounded = omega arith;
  ram = refl;
  ram_bounded = omega arith;
  settle_bounded = omega arith;
  depth_in_range = omega arith;
  depth_bounded = omega arith;
}

pub settle_too_long : Reports counting three_words (record reporting { settle = 591 }) → ⊥
settle_too_long it = let e : 591 ≤ 590 = it.settle_bounded in omega arith

pub depth_too_deep : Reports counting three_words (record reporting { depth = 3 }) → ⊥
depth_too_deep it = let e : 3 ≤ 2 = it.depth_bounded in omega arith

pub words_above_bound : Reports counting three_words (record reporting { words = 313 }) → ⊥
words_above_bound it = let e : 313 ≤ 312 = it.words_bounded in omega arith

pub ram_above_bound : Reports counting three_words (record reporting { ram = 12 }) → ⊥
ram_above_bound it = let e : 12 ≤ 11 = it.ram_bounded in omega arith

-- Words and RAM other than the image's and the listed bytes'.
pub words_too_few : Reports counting three_words (record reporting { words = 2 }) → ⊥
words_too_few it = let e = it.words in cc

pub words_too_many : Reports counting three_words (record reporting { words = 4 }) → ⊥
words_too_many it = let e = it.words in cc

pub ram_too_much : Reports counting three_words (record reporting { ram = 2 }) → ⊥
unfolding count_below
ram_too_much it = let e = it.ram in cc

pub ram_too_little : Reports counting three_words (record reporting { ram = 0 }) → ⊥
unfolding count_below
ram_too_little it = let e = it.ram in cc

-- Of the chip's 512 data addresses 352 count: 80, 80, 96 and 96 in the four banks.
ram_of_the_chip : count_below 512 (λ a. is_listed (listing 0x000 0x1FF) a && is_banked a) ≡ 352
unfolding count_below
ram_of_the_chip = refl
