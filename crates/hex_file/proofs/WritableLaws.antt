-- An image that a file means is one that can be written.
use Rattle.std.proofs.Common.{◌≡◌, ℕ, ◌+◌, ◌<◌, ◌≤◌, List, [], ◌∷◌, map, Option, None, Some, IfSome, refl, arith}
use Rattle.std.specs.List.{Contains}
use Rattle.std.specs.List.Sorted.{IsStrictlyIncreasing}
use Rattle.hex_file.specs.declared.images.Word.{Word}
use Rattle.hex_file.specs.declared.images.Image.{Image}
use Rattle.hex_file.specs.ImageOf.{HexRecord, GivesWord, AreProgramWords, IsImageOf}
use Rattle.hex_file.specs.Written.{RisesFrom, IsWritable}
use Rattle.hex_file.proofs.ImageLaws.{holds_first, holds_later, rising_rest}

abbrev Fits : List Word → Type 0
Fits ws = (w : Word) → Contains ws w → (w.address < 8192) × (w.word < 0x4000)

rises_from : (low : ℕ) (w : Word) (ws : List Word) → low ≤ w.address → IsStrictlyIncreasing (map (λ v. v.address) (w ∷ ws)) → Fits (w ∷ ws) → RisesFrom low (w ∷ ws)
rises_from low w [] least rising fits = let at = fits w (holds_first w []) in (least, at.0, at.1, tt)
rises_from low w (z ∷ ws) least rising fits =
    let at = fits w (holds_first w (z ∷ ws)) in
    let next : w.address < z.address = rising 0 (omega arith) in (
      least,
      at.0,
      at.1,
      rises_from (w.address + 1) z ws (omega arith) (rising_rest w.address (map (λ v. v.address) (z ∷ ws)) rising) (λ v among. fits v (holds_later w v (z ∷ ws) among)),
    )

rises : (ws : List Word) → IsStrictlyIncreasing (map (λ v. v.address) ws) → Fits ws → RisesFrom 0 ws
rises [] rising fits = tt
rises (w ∷ ws) rising fits = rises_from 0 w ws (omega arith) rising fits

word_small : (records : List HexRecord) (address word : ℕ) → GivesWord records address word → word < 0x4000
word_small records address word gives = omega (arith, gives.value)

words_fit : (records : List HexRecord) (ws : List Word) → AreProgramWords records ws → Fits ws
words_fit records ws are w among = let at = (are.exactly w.address w.word).0 among in (at.0, word_small records w.address w.word at.1)

config_fits : (records : List HexRecord) (config : Option ℕ) → ((word : ℕ) → config ≡ Some word → GivesWord records 0x2007 word) → IfSome config (λ word. word < 0x4000)
config_fits records None gives = tt
config_fits records (Some word) gives = word_small records 0x2007 word (gives word refl)

pub writable : (bytes : List ℕ) (image : Image) → IsImageOf bytes image → IsWritable image
writable bytes image is = record {
  words = rises image.words is.words.rising (words_fit is.records image.words is.words);
  config = config_fits is.records image.config (λ word e. (is.config word).0 e);
}
