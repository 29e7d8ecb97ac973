-- The one written form of an image, and which images have it.
use Rattle.std.specs.Prelude.{◌==◌, ℕ, ◌<◌, ◌≤◌, ◌+◌, ◌-◌, ◌*◌, ◌/◌, ◌%◌, List, [], ◌∷◌, ◌++◌, length, sum, Option, Some, None, IfSome, codes, if◌then◌else◌}
use Rattle.std.specs.List.{flat_map}
use Rattle.text_parts.specs.Digits.{hex2}
use Rattle.hex_file.specs.declared.images.Word.{Word}
use Rattle.hex_file.specs.declared.images.Image.{Image}

-- A record: its bytes, each in two digits, after a colon.
abbrev pub line : List ℕ → List ℕ
line bytes = codes ":" ++ (flat_map hex2 bytes ++ codes "\n")

-- The byte that makes a sum 0 modulo 256.
abbrev pub check_byte : List ℕ → ℕ
check_byte bytes = (256 - sum bytes % 256) % 256

-- A record of some type at a byte address: the number of its data bytes, the address with its high byte
-- first, the type, the data, and the check byte.
abbrev pub record_of : ℕ → ℕ → List ℕ → List ℕ
record_of kind address bytes =
    let counted = length bytes ∷ address / 256 ∷ address % 256 ∷ kind ∷ bytes in line (counted ++ check_byte counted ∷ [])

-- A word as two bytes, the low byte first.
abbrev pub word_bytes : ℕ → List ℕ
word_bytes word = word % 256 ∷ word / 256 ∷ []

-- A data record of words at successive addresses. A word's byte address is twice its own.
abbrev pub words_record : List Word → List ℕ
words_record [] = []
words_record (w ∷ ws) = record_of 0 (2 * w.address) (flat_map (λ v. word_bytes v.word) (w ∷ ws))

-- A word before the runs of the words after it: it belongs to the first run where that begins at the
-- next address, and is a run of its own otherwise.
abbrev pub before_runs : Word → List (List Word) → List (List Word)
before_runs w [] = (w ∷ []) ∷ []
before_runs w ([] ∷ runs) = (w ∷ []) ∷ runs
before_runs w ((v ∷ vs) ∷ runs) = if v.address == w.address + 1 then (w ∷ v ∷ vs) ∷ runs else (w ∷ []) ∷ (v ∷ vs) ∷ runs

-- The longest runs of consecutive addresses, in order.
abbrev pub runs_of : List Word → List (List Word)
runs_of [] = []
runs_of (w ∷ ws) = before_runs w (runs_of ws)

-- A list cut from its beginning into pieces of eight, the last one shorter.
abbrev pub eights : List Word → List (List Word)
eights [] = []
eights (a ∷ b ∷ c ∷ d ∷ e ∷ f ∷ g ∷ h ∷ rest) = (a ∷ b ∷ c ∷ d ∷ e ∷ f ∷ g ∷ h ∷ []) ∷ eights rest
eights rest = rest ∷ []

-- The data records: each run is cut from its lowest address into records of eight words.
abbrev pub data_records : List Word → List ℕ
data_records words = flat_map (λ run. flat_map words_record (eights run)) (runs_of words)

-- The record of the configuration word, at byte address 400Eh.
abbrev pub config_record : Option ℕ → List ℕ
config_record None = []
config_record (Some word) = record_of 0 0x400E (word_bytes word)

-- The written form of an image.
abbrev pub written : Image → List ℕ
written image = record_of 4 0 (0 ∷ 0 ∷ []) ++ (data_records image.words ++ (config_record image.config ++ record_of 1 0 []))

-- The addresses rise strictly from `low` on and are below 8,192, and the words below 4000h.
abbrev pub RisesFrom : ℕ → List Word → Type 0
RisesFrom low [] = Unit {0}
RisesFrom low (w ∷ ws) = (low ≤ w.address) × (w.address < 8192) × (w.word < 0x4000) × RisesFrom (w.address + 1) ws

-- What can be written: words of 14 bits at rising addresses, and a configuration word of 14 bits.
pub record IsWritable (image : Image) : Type 0 where
  pub words : RisesFrom 0 image.words
  pub config : IfSome image.config (λ word. word < 0x4000)
