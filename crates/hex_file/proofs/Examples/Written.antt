-- The written form of small images. The texts were made by `srec_cat` of SRecord 1.64 from the words' bytes,
-- 16 bytes a record; that of the empty image was put together by hand.
use Rattle.std.proofs.Common.{◌≡◌, ℕ, List, [], ◌∷◌, Option, None, Some, refl, codes, lit<, lit≤, arith}
use Rattle.hex_file.specs.declared.images.Word.{Word}
use Rattle.hex_file.specs.declared.images.Image.{Image}
use Rattle.hex_file.specs.Written.{written, IsWritable}

abbrev at : ℕ → ℕ → Word
at address word = record { address = address; word = word }

abbrev image : List Word → Option ℕ → Image
image words config = record { words = words; config = config; aside = [] }

one_word_and_configuration : written (image (at 0 0x2800 ∷ []) (Some 0x3F3A))
    ≡ codes ":020000040000FA\n:020000000028D6\n:02400E003A3F37\n:00000001FF\n"
one_word_and_configuration = refl

a_gap_begins_a_record : written (image (at 0 0x2804 ∷ at 1 0x0008 ∷ at 4 0x3FFF ∷ at 5 0x0063 ∷ []) (Some 0x3F3A))
    ≡ codes ":020000040000FA\n:0400000004280800C8\n:04000800FF3F630053\n:02400E003A3F37\n:00000001FF\n"
a_gap_begins_a_record = refl

eight_words_take_one_record : written (image
    (at 100 0x2000 ∷ at 101 0x2001 ∷ at 102 0x2002 ∷ at 103 0x2003 ∷ at 104 0x2004 ∷ at 105 0x2005 ∷ at 106 0x2006 ∷ at 107 0x2007 ∷ []) None)
    ≡ codes ":020000040000FA\n:1000C800002001200220032004200520062007200C\n:00000001FF\n"
eight_words_take_one_record = refl

-- 16 bytes and 2
nine_words_take_two_records : written (image
    (at 0 0x3000 ∷ at 1 0x3011 ∷ at 2 0x3022 ∷ at 3 0x3033 ∷ at 4 0x3044 ∷ at 5 0x3055 ∷ at 6 0x3066 ∷ at 7 0x3077 ∷ at 8 0x3088 ∷ [])
    (Some 0x3F3A))
    ≡ codes ":020000040000FA\n:100000000030113022303330443055306630773094\n:02001000883036\n:02400E003A3F37\n:00000001FF\n"
nine_words_take_two_records = refl

no_words : written (image [] (Some 0x3F3A)) ≡ codes ":020000040000FA\n:02400E003A3F37\n:00000001FF\n"
no_words = refl

-- the highest address
no_configuration : written (image (at 8191 0x0009 ∷ []) None) ≡ codes ":020000040000FA\n:023FFE000900B8\n:00000001FF\n"
no_configuration = refl

the_empty_image : written (image [] None) ≡ codes ":020000040000FA\n:00000001FF\n"
the_empty_image = refl

-- The other bytes' sum is 256.
a_check_byte_of_zero : written (image (at 0 0x3FBF ∷ []) None) ≡ codes ":020000040000FA\n:02000000BF3F00\n:00000001FF\n"
a_check_byte_of_zero = refl

-- A run across address 8 is one record, and one that begins at 16 is cut from there.
runs_are_cut_from_their_lowest_address : written (image
    (at 6 0x0186 ∷ at 7 0x0782 ∷ at 8 0x0064
    ∷ at 16 0x1283 ∷ at 17 0x0185 ∷ at 18 0x3000 ∷ at 19 0x008B ∷ at 20 0x138B ∷ at 21 0x2FFF ∷ at 22 0x3F00 ∷ at 23 0x0103 ∷ at 24 0x0009 ∷ [])
    (Some 0x3F3A))
    ≡ codes ":020000040000FA\n:06000C008601820764007A\n:100020008312850100308B008B13FF2F003F0301EB\n:020030000900C5\n:02400E003A3F37\n:00000001FF\n"
runs_are_cut_from_their_lowest_address = refl

-- What can be written, and what can't.

rising_words : IsWritable (image (at 0 0x2800 ∷ at 8191 0x3FFF ∷ []) (Some 0x3F3A))
rising_words = record { words = (lit≤ tt, lit< tt, lit< tt, (lit≤ tt, lit< tt, lit< tt, tt)); config = lit< tt }

an_address_twice : IsWritable (image (at 3 0 ∷ at 3 0 ∷ []) None) → ⊥
an_address_twice writable = let again = writable.words.3.0 in omega (arith, again)

a_word_of_15_bits : IsWritable (image (at 3 0x4000 ∷ []) None) → ⊥
a_word_of_15_bits writable = let fits = writable.words.2 in omega (arith, fits)

an_address_past_the_end : IsWritable (image (at 8192 0 ∷ []) None) → ⊥
an_address_past_the_end writable = let below = writable.words.1 in omega (arith, below)

a_configuration_of_15_bits : IsWritable (image [] (Some 0x4000)) → ⊥
a_configuration_of_15_bits writable = let fits = writable.config in omega (arith, fits)
