-- The records of an image's written form.
use Rattle.std.proofs.Common.{◌≡◌, ◌≢◌, ℕ, zero, suc, ◌*◌, ◌/◌, ◌%◌, ◌<◌, ⊎_elim, List, [], ◌∷◌, ◌++◌, length, map, sum, Option, None, Some, refl, sym, ◌∙◌, ap, subst, lit≤, append_assoc, append-nil, arith}
use Rattle.std.proofs.lemmas.Grind.{flat_map-append}
use Rattle.std.proofs.lemmas.List.Elements.{All-append}
use Rattle.std.proofs.lemmas.List.Sums.{sum_by-append}
use Rattle.std.specs.List.{All, AllByRecursion, AllZip, flat_map}
use Rattle.hex_file.specs.declared.images.Word.{Word}
use Rattle.hex_file.specs.declared.images.Image.{Image}
use Rattle.hex_file.specs.ImageOf.{HexRecord, record_bytes, IsAllowed, IsRecordLine, nonempty_lines, SpellsRecords}
use Rattle.hex_file.specs.Written.{check_byte, record_of, config_record, word_bytes, words_record, written}
use Rattle.hex_file.proofs.ByteFacts.{length_words}
use Rattle.hex_file.proofs.CheckFacts.{check_byte_below, sum_with_check_byte}
use Rattle.hex_file.proofs.LineFacts.{bytes_from, bytes_allowed}
use Rattle.hex_file.proofs.PieceFacts.{IsPiece, flat, pieces_of, all_append, are_pieces, pieces_flat, records_of_pieces}
use Rattle.hex_file.proofs.TextLineFacts.{spelled, upper_line, first_line}

abbrev pub upper : HexRecord
upper = record { address = 0; kind = 4; payload = 0 ∷ 0 ∷ [] }

abbrev pub last : HexRecord
last = record { address = 0; kind = 1; payload = [] }

-- The data record of a piece.
abbrev pub record_for : List Word → HexRecord
record_for [] = bytes_from 0 []
record_for (w ∷ ws) = bytes_from (2 * w.address) (flat_map (λ v. word_bytes v.word) (w ∷ ws))

-- The configuration word as a word of its own.
abbrev pub config_words : Option ℕ → List Word
config_words None = []
config_words (Some word) = record { address = 0x2007; word = word } ∷ []

abbrev pub all_words : Image → List Word
all_words image = image.words ++ config_words image.config

abbrev pub config_pieces : Option ℕ → List (List Word)
config_pieces None = []
config_pieces (Some word) = (record { address = 0x2007; word = word } ∷ []) ∷ []

abbrev pub all_pieces : Image → List (List Word)
all_pieces image = pieces_of image.words ++ config_pieces image.config

abbrev pub records_of : Image → List HexRecord
records_of image = upper ∷ map record_for (all_pieces image)

-- The pieces are those of all words.

flat_config : (config : Option ℕ) → flat (config_pieces config) ≡ config_words config
flat_config None = refl
flat_config (Some word) = refl

pub all_flat : (image : Image) → flat (all_pieces image) ≡ all_words image
all_flat image = flat_map-append (λ list. list) (pieces_of image.words) (config_pieces image.config) ∙ (λ i. pieces_flat image.words i ++ flat_config image.config i)

config_are_pieces : (config : Option ℕ) → AllByRecursion IsPiece (config_pieces config)
config_are_pieces None = tt
config_are_pieces (Some word) = ((tt, omega arith), tt)

pub all_are_pieces : (image : Image) → AllByRecursion IsPiece (all_pieces image)
all_are_pieces image = all_append IsPiece (pieces_of image.words) (config_pieces image.config) (are_pieces image.words) (config_are_pieces image.config)

-- The text is that of the records.

abbrev text_of : HexRecord → List ℕ
text_of r = record_of r.kind r.address r.payload

piece_text : (pieces : List (List Word)) → AllByRecursion IsPiece pieces → flat_map words_record pieces ≡ flat_map text_of (map record_for pieces)
piece_text [] all = refl
piece_text ([] ∷ pieces) all = absurd all.0
piece_text ((w ∷ ws) ∷ pieces) all = ap (λ rest. words_record (w ∷ ws) ++ rest) (piece_text pieces all.1)

config_text : (config : Option ℕ) → config_record config ≡ flat_map words_record (config_pieces config)
config_text None = refl
config_text (Some word) = sym (append-nil (config_record (Some word)))

written_text : (image : Image) → written image ≡ flat_map text_of (records_of image ++ last ∷ [])
written_text image =
    let data_text = records_of_pieces image.words in
    let pieces = flat_map-append words_record (pieces_of image.words) (config_pieces image.config) in
    let all = piece_text (all_pieces image) (all_are_pieces image) in
    let behind : record_of 1 0 [] ≡ flat_map text_of (last ∷ []) = sym (append-nil (record_of 1 0 [])) in
    ap (λ text. text_of upper ++ text)
    ((λ i. data_text i ++ (config_text image.config i ++ behind i))
    ∙ sym (append_assoc (flat_map words_record (pieces_of image.words)) (flat_map words_record (config_pieces image.config)) (flat_map text_of (last ∷ [])))
    ∙ ap (λ text. text ++ flat_map text_of (last ∷ [])) (sym pieces ∙ all)
    ∙ sym (flat_map-append text_of (map record_for (all_pieces image)) (last ∷ [])))

-- Each line is its record's.

record IsWritten (r : HexRecord) : Type 0 where
  allowed : IsAllowed r
  address : r.address < 0x10000
  short : length r.payload < 256
  bytes : All (λ byte. byte < 256) r.payload

abbrev counted : HexRecord → List ℕ
counted r = length r.payload ∷ r.address / 256 ∷ r.address % 256 ∷ r.kind ∷ r.payload

abbrev check_of : HexRecord → ℕ
check_of r = check_byte (counted r)

one_byte : (b : ℕ) (bytes : List ℕ) → b < 256 → All (λ byte. byte < 256) bytes → All (λ byte. byte < 256) (b ∷ bytes)
one_byte b bytes small rest zero d below = small
one_byte b bytes small rest (suc k) d below = rest k d (omega arith)

no_byte : All (λ byte. byte < 256) []
no_byte k d below = absurd (omega arith)

record_fits : (r : HexRecord) → IsWritten r → All (λ byte. byte < 256) (record_bytes r (check_of r))
record_fits r is =
    let payload = r.payload ++ check_of r ∷ [] in
    one_byte (length r.payload) (r.address / 256 ∷ r.address % 256 ∷ r.kind ∷ payload) is.short
    (one_byte (r.address / 256) (r.address % 256 ∷ r.kind ∷ payload) (omega (arith, is.address))
    (one_byte (r.address % 256) (r.kind ∷ payload) (omega arith)
    (one_byte r.kind payload (omega (arith, is.allowed.known))
    (All-append (λ byte. byte < 256) r.payload (check_of r ∷ []) is.bytes (one_byte (check_of r) [] (check_byte_below (counted r)) no_byte)))))

balanced : (bytes : List ℕ) → sum (bytes ++ check_byte bytes ∷ []) % 256 ≡ 0
balanced bytes = omega (arith, sum_by-append (λ b. b) bytes (check_byte bytes ∷ []), sum_with_check_byte bytes)

line_of_record : (r : HexRecord) → IsWritten r → IsRecordLine (spelled (record_bytes r (check_of r))) r
line_of_record r is = record {
  check = check_of r;
  spelled = upper_line (record_bytes r (check_of r)) (record_fits r is);
  bytes = record_fits r is;
  balanced = balanced (counted r);
  allowed = is.allowed;
}

lines_of_records : (records : List HexRecord) → AllByRecursion IsWritten records → AllZip IsRecordLine (nonempty_lines (flat_map text_of records)) records
lines_of_records [] all = tt
lines_of_records (r ∷ records) all =
    let first = first_line (record_bytes r (check_of r)) (flat_map text_of records) (record_fits r all.0) in
    subst (λ lines. AllZip IsRecordLine lines (r ∷ records)) (sym first) (line_of_record r all.0, lines_of_records records all.1)

-- The records are in range.

-- A word of 14 bits at the address of a program word or of the configuration word.
abbrev pub Fits : Word → Type 0
Fits w = (w.address < 0x2008) × (w.word < 0x4000)

words_fit : (ws : List Word) → AllByRecursion Fits ws → All (λ byte. byte < 256) (flat_map (λ w. word_bytes w.word) ws)
words_fit [] all = no_byte
words_fit (w ∷ ws) all =
    let rest = flat_map (λ v. word_bytes v.word) ws in
    one_byte (w.word % 256) (w.word / 256 ∷ rest) (omega arith) (one_byte (w.word / 256) rest (omega (arith, all.0.1)) (words_fit ws all.1))

piece_is_written : (piece : List Word) → IsPiece piece → AllByRecursion Fits piece → IsWritten (record_for piece)
piece_is_written [] is all = absurd is
piece_is_written (w ∷ ws) is all = record {
  allowed = bytes_allowed (2 * w.address) _ (omega (arith, length_words (w ∷ ws), is.1, all.0.0));
  address = omega (arith, all.0.0);
  short = omega (arith, length_words (w ∷ ws), is.1);
  bytes = words_fit (w ∷ ws) all;
}

all_prefix : {X : Type 0} (P : X → Type 0) (xs ys : List X) → AllByRecursion P (xs ++ ys) → AllByRecursion P xs
all_prefix P [] ys all = tt
all_prefix P (x ∷ xs) ys all = (all.0, all_prefix P xs ys all.1)

all_behind : {X : Type 0} (P : X → Type 0) (xs ys : List X) → AllByRecursion P (xs ++ ys) → AllByRecursion P ys
all_behind P [] ys all = all
all_behind P (x ∷ xs) ys all = all_behind P xs ys all.1

pieces_are_written : (pieces : List (List Word)) → AllByRecursion IsPiece pieces → AllByRecursion Fits (flat pieces) → AllByRecursion IsWritten (map record_for pieces)
pieces_are_written [] are all = tt
pieces_are_written (piece ∷ pieces) are all =
    (piece_is_written piece are.0 (all_prefix Fits piece (flat pieces) all), pieces_are_written pieces are.1 (all_behind Fits piece (flat pieces) all))

upper_is_written : IsWritten upper
upper_is_written = record {
  allowed = record { known = lit≤ tt; in_range = λ e. cc; end_empty = λ e. cc; upper_zero = λ e. refl };
  address = omega arith;
  short = omega arith;
  bytes = one_byte 0 (0 ∷ []) (omega arith) (one_byte 0 [] (omega arith) no_byte);
}

last_is_written : IsWritten last
last_is_written = record {
  allowed = record { known = lit≤ tt; in_range = λ e. cc; end_empty = λ e. refl; upper_zero = ⊎_elim (λ e. cc) (λ e. cc) };
  address = omega arith;
  short = omega arith;
  bytes = no_byte;
}

not_ended : (pieces : List (List Word)) → AllByRecursion IsPiece pieces → All (λ r. r.kind ≢ 1) (map record_for pieces)
not_ended [] are k d below e = absurd (omega arith)
not_ended ([] ∷ pieces) are k d below e = absurd are.0
not_ended ((w ∷ ws) ∷ pieces) are zero d below e = cc
not_ended ((w ∷ ws) ∷ pieces) are (suc k) d below e = not_ended pieces are.1 k d (omega arith) e

upper_first : (records : List HexRecord) → All (λ r. r.kind ≢ 1) records → All (λ r. r.kind ≢ 1) (upper ∷ records)
upper_first records rest zero d below e = cc
upper_first records rest (suc k) d below e = rest k d (omega arith) e

-- The written form spells its records.
pub spells_records : (image : Image) → AllByRecursion Fits (all_words image) → SpellsRecords (written image) (records_of image)
spells_records image fit =
    let are = all_are_pieces image in
    let pieces = pieces_are_written (all_pieces image) are (subst (AllByRecursion Fits) (sym (all_flat image)) fit) in
    let all = all_append IsWritten (records_of image) (last ∷ []) (upper_is_written, pieces) (last_is_written, tt) in
    record {
      end = last;
      lines = subst (λ text. AllZip IsRecordLine (nonempty_lines text) (records_of image ++ last ∷ [])) (sym (written_text image))
          (lines_of_records (records_of image ++ last ∷ []) all);
      ended = refl;
      once = upper_first (map record_for (all_pieces image)) (not_ended (all_pieces image) are);
    }
