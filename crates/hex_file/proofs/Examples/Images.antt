-- What small files say, and files that say nothing.
use Rattle.std.proofs.Common.{◌≡◌, ◌≢◌, ℕ, zero, suc, ◌+◌, ◌*◌, ◌/◌, ◌%◌, ◌<◌, inl, inr, ⊎_elim, List, [], ◌∷◌, ◌++◌, length, drop, sum, Some, refl, sym, ap, subst, codes, slice_index, slice_index_or, lit<, lit≤, arith}
use Rattle.std.proofs.lemmas.Option.{same_Some}
use Rattle.std.specs.List.{All, AllZip, flat_map}
use Rattle.text_parts.specs.Digits.{hex2}
use Rattle.hex_file.specs.declared.images.Word.{Word}
use Rattle.hex_file.specs.declared.images.Image.{Image}
use Rattle.hex_file.specs.ImageOf.{HexRecord, record_bytes, IsAllowed, IsRecordLine, nonempty_lines, GivesByte, Agree, GivesWord, AreProgramWords, AreBytesAside, IsImageOf}
use Rattle.hex_file.proofs.GivenByteFacts.{given_bytes, gives_byte, word_at, record_at, end_at, some_line}
use Rattle.hex_file.proofs.LineFacts.{bytes_from, bytes_allowed, bytes_of_line, length-hex2, record_line, records_of_lines, records_before_end}

-- The records of the file: the upper address, the word 2800h at 0, the configuration word 3F3Ah, and the end.

abbrev pub upper : HexRecord
upper = record { address = 0; kind = 4; payload = 0 ∷ 0 ∷ [] }

abbrev pub word : HexRecord
word = bytes_from 0 (0 ∷ 0x28 ∷ [])

abbrev pub config : HexRecord
config = bytes_from 0x400E (0x3A ∷ 0x3F ∷ [])

abbrev pub last : HexRecord
last = record { address = 0; kind = 1; payload = [] }

pub upper_allowed : IsAllowed upper
upper_allowed = record { known = lit≤ tt; in_range = λ e. cc; end_empty = λ e. cc; upper_zero = λ e. refl }

pub last_allowed : IsAllowed last
last_allowed = record { known = lit≤ tt; in_range = λ e. cc; end_empty = λ e. refl; upper_zero = ⊎_elim (λ e. cc) (λ e. cc) }

abbrev small_image : Image
small_image = record { words = record { address = 0; word = 0x2800 } ∷ []; config = Some 0x3F3A; aside = [] }

-- What the records give.

abbrev pub Records : List HexRecord
Records = upper ∷ word ∷ config ∷ []

pub one_value : Agree Records
one_value address first second a b = let p = given_bytes Records address first a in let q = given_bytes Records address second b in omega arith

low_of_word : GivesByte Records 0 0
low_of_word = gives_byte Records 0 0 (inr (inl (refl, inl (refl, refl))))

high_of_word : GivesByte Records 1 0x28
high_of_word = gives_byte Records 1 0x28 (inr (inl (refl, inr (inl (refl, refl)))))

low_of_config : GivesByte Records 0x400E 0x3A
low_of_config = gives_byte Records 0x400E 0x3A (inr (inr (inl (refl, inl (refl, refl)))))

high_of_config : GivesByte Records 0x400F 0x3F
high_of_config = gives_byte Records 0x400F 0x3F (inr (inr (inl (refl, inr (inl (refl, refl))))))

the_word : GivesWord Records 0 0x2800
the_word = record {
  low = 0;
  high = 0x28;
  given = inl (0, low_of_word);
  low_byte = inl low_of_word;
  high_byte = inl high_of_word;
  value = refl;
}

only_word : (address value : ℕ) → address < 0x2000 → GivesWord Records address value → (address ≡ 0) × (value ≡ 0x2800)
only_word address value small gives =
    let zero : address ≡ 0 = ⊎_elim
    (λ g. let p = given_bytes Records (2 * address) g.0 g.1 in omega arith)
    (λ g. let p = given_bytes Records (2 * address + 1) g.0 g.1 in omega arith) gives.given in
    (zero, word_at Records 0 _ _ one_value the_word (subst (λ a. GivesWord Records a value) zero gives))

the_configuration : GivesWord Records 0x2007 0x3F3A
the_configuration = record {
  low = 0x3A;
  high = 0x3F;
  given = inl (0x3A, low_of_config);
  low_byte = inl low_of_config;
  high_byte = inl high_of_config;
  value = refl;
}

one_item : {X : Type 0} (w x : X) (index : ℕ) → index < 1 → slice_index_or (w ∷ []) index x ≡ x → w ≡ x
one_item w x zero below e = e
one_item w x (suc index) below e = absurd (omega arith)

words_are : AreProgramWords Records small_image.words
words_are = record {
  rising = λ k below. absurd (omega arith);
  exactly = λ address value. (
    λ among.
        let e = one_item _ _ among.0 among.1 among.2 in
        let small : address < 0x2000 = let zero : 0 ≡ address = ap (λ (w : Word). w.address) e in omega arith in
        let P : Word → Type 0 = λ w. GivesWord Records w.address w.word in (small, subst P e the_word),
    λ gives. let only = only_word address value gives.0 gives.1 in (0, lit< tt, cc),
  );
}

aside_is : AreBytesAside Records []
aside_is = record {
  rising = λ k below. absurd (omega arith);
  exactly = λ address byte. (
    λ among. absurd (omega (arith, among.1)),
    λ gives. let p = given_bytes Records address byte gives.3 in absurd (omega (arith, gives.0, gives.1, gives.2)),
  );
}

pub not_ended : (index : ℕ) (r : HexRecord) → index < 3 → (slice_index_or Records index r).kind ≢ 1
not_ended zero r below e = cc
not_ended (suc zero) r below e = cc
not_ended (suc (suc zero)) r below e = cc
not_ended (suc (suc (suc index))) r below e = absurd (omega arith)

image_of_lines : (bytes : List ℕ) → AllZip IsRecordLine (nonempty_lines bytes) (Records ++ last ∷ []) → IsImageOf bytes small_image
image_of_lines bytes spelled = record {
  records = Records;
  spelled = record { end = last; lines = spelled; ended = refl; once = not_ended };
  agreed = one_value;
  words = words_are;
  config = λ value. (λ e. subst (GivesWord Records 0x2007) (same_Some _ _ e) the_configuration, λ gives. ap Some (sym (word_at Records 0x2007 _ _ one_value the_configuration gives)));
  aside = aside_is;
}

upper_case_and_line_feeds : IsImageOf (codes ":020000040000FA\n:020000000028D6\n:02400E003A3F37\n:00000001FF\n") small_image
upper_case_and_line_feeds = image_of_lines _ (
  record_line _ upper 0xFA refl refl refl upper_allowed,
  (
    record_line _ word 0xD6 refl refl refl (bytes_allowed 0 _ (lit≤ tt)),
    (
      record_line _ config 0x37 refl refl refl (bytes_allowed 0x400E _ (lit≤ tt)),
      (
        record_line _ last 0xFF refl refl refl last_allowed,
        tt,
      ),
    ),
  ),
)

lower_case_and_carriage_returns : IsImageOf (codes ":020000040000fa\r\n:020000000028d6\r\n:02400e003a3f37\r\n:00000001ff\r\n") small_image
lower_case_and_carriage_returns = image_of_lines _ (
  record_line _ upper 0xFA refl refl refl upper_allowed,
  (
    record_line _ word 0xD6 refl refl refl (bytes_allowed 0 _ (lit≤ tt)),
    (
      record_line _ config 0x37 refl refl refl (bytes_allowed 0x400E _ (lit≤ tt)),
      (
        record_line _ last 0xFF refl refl refl last_allowed,
        tt,
      ),
    ),
  ),
)

empty_lines_and_no_last_ending : IsImageOf (codes "\n:020000040000FA\n\r\n:020000000028D6\r\n:02400E003A3F37\n\n:00000001FF") small_image
empty_lines_and_no_last_ending = image_of_lines _ (
  record_line _ upper 0xFA refl refl refl upper_allowed,
  (
    record_line _ word 0xD6 refl refl refl (bytes_allowed 0 _ (lit≤ tt)),
    (
      record_line _ config 0x37 refl refl refl (bytes_allowed 0x400E _ (lit≤ tt)),
      (
        record_line _ last 0xFF refl refl refl last_allowed,
        tt,
      ),
    ),
  ),
)

-- Files with no image.

two_ends : (records : List HexRecord) (end : HexRecord) → All (λ r. r.kind ≢ 1) records
    → ¬ AllZip IsRecordLine (codes ":00000001FF" ∷ codes ":00000001FF" ∷ []) (records ++ end ∷ [])
two_ends [] end once zipped = zipped.1
two_ends (r ∷ records) end once zipped =
    let kind : r.kind ≡ 1 = ap (λ bytes. slice_index bytes 3) (bytes_of_line _ r zipped.0) in once 0 r (omega arith) kind

a_wrong_check_byte : (image : Image) → ¬ IsImageOf (codes ":020000040000FA\n:020000000028D6\n:02400E003A3F36\n:00000001FF\n") image
a_wrong_check_byte image is =
    let r : (r : HexRecord) × IsRecordLine (codes ":02400E003A3F36") r = record_at _ image 2 _ is refl in
    let total : sum (record_bytes r.0 r.1.check) ≡ 255 = ap sum (bytes_of_line _ r.0 r.1) in
    absurd (omega (arith, r.1.balanced))

no_end_record : (image : Image) → ¬ IsImageOf (codes ":020000040000FA\n:020000000028D6\n:02400E003A3F37\n") image
no_end_record image is =
    let last : IsRecordLine (codes ":02400E003A3F37") is.spelled.end = end_at _ image _ is refl in
    let kind : is.spelled.end.kind ≡ 0 = ap (λ bytes. slice_index bytes 3) (bytes_of_line _ is.spelled.end last) in
    absurd (omega arith)

the_empty_file : (image : Image) → ¬ IsImageOf [] image
the_empty_file image is = some_line is.records is.spelled.end is.spelled.lines

-- A CR at the very end is a byte of the line.
a_carriage_return_at_the_end : (image : Image) → ¬ IsImageOf (codes ":00000001FF\r") image
a_carriage_return_at_the_end image is =
    let line : IsRecordLine (codes ":00000001FF\r") is.spelled.end = end_at _ image _ is refl in
    let even : length (flat_map hex2 (record_bytes is.spelled.end line.check)) ≡ 11 = sym (ap (λ bytes. length (drop 1 bytes)) line.spelled) in
    absurd (omega (arith, length-hex2 (record_bytes is.spelled.end line.check)))

after_the_end_record : (image : Image) → ¬ IsImageOf (codes ":00000001FF\n:00000001FF\n") image
after_the_end_record image is = two_ends is.records is.spelled.end is.spelled.once is.spelled.lines

an_upper_address_of_one : (image : Image) → ¬ IsImageOf (codes ":020000040001F9\n:00000001FF\n") image
an_upper_address_of_one image is =
    let r : (r : HexRecord) × IsRecordLine (codes ":020000040001F9") r = record_at _ image 0 _ is refl in
    let bytes = bytes_of_line _ r.0 r.1 in
    let kind : r.0.kind ≡ 4 = ap (λ bytes. slice_index bytes 3) bytes in
    let low : slice_index (r.0.payload ++ r.1.check ∷ []) 1 ≡ 1 = ap (λ bytes. slice_index (drop 4 bytes) 1) bytes in
    let zero : r.0.payload ≡ 0 ∷ 0 ∷ [] = r.1.allowed.upper_zero (inr kind) in
    let low_is_zero : slice_index (r.0.payload ++ r.1.check ∷ []) 1 ≡ 0 = ap (λ payload. slice_index (payload ++ r.1.check ∷ []) 1) zero in
    absurd (omega arith)

data_past_the_end : (image : Image) → ¬ IsImageOf (codes ":02FFFF00000000\n:00000001FF\n") image
data_past_the_end image is =
    let r : (r : HexRecord) × IsRecordLine (codes ":02FFFF00000000") r = record_at _ image 0 _ is refl in
    let bytes = bytes_of_line _ r.0 r.1 in
    let kind : r.0.kind ≡ 0 = ap (λ bytes. slice_index bytes 3) bytes in
    let len : length r.0.payload ≡ 2 = ap (λ bytes. slice_index bytes 0) bytes in
    let high : r.0.address / 256 ≡ 0xFF = ap (λ bytes. slice_index bytes 1) bytes in
    let low : r.0.address % 256 ≡ 0xFF = ap (λ bytes. slice_index bytes 2) bytes in
    absurd (omega (arith, r.1.allowed.in_range kind))

a_type_of_six : (image : Image) → ¬ IsImageOf (codes ":00000006FA\n:00000001FF\n") image
a_type_of_six image is =
    let r : (r : HexRecord) × IsRecordLine (codes ":00000006FA") r = record_at _ image 0 _ is refl in
    let kind : r.0.kind ≡ 6 = ap (λ bytes. slice_index bytes 3) (bytes_of_line _ r.0 r.1) in
    absurd (omega (arith, r.1.allowed.known))

abbrev Clashing : List HexRecord
Clashing = (bytes_from 5 (0x28 ∷ [])) ∷ (bytes_from 5 (0x29 ∷ [])) ∷ []

-- One byte of data with two values: 28h and 29h at 5.
a_clash : (image : Image) → ¬ IsImageOf (codes ":0100050028D2\n:0100050029D1\n:00000001FF\n") image
a_clash image is =
    let spelled : AllZip IsRecordLine (nonempty_lines (codes ":0100050028D2\n:0100050029D1\n:00000001FF\n")) (Clashing ++ last ∷ []) = (
      record_line _ (bytes_from 5 (0x28 ∷ [])) 0xD2 refl refl refl (bytes_allowed 5 _ (lit≤ tt)),
      (
        record_line _ (bytes_from 5 (0x29 ∷ [])) 0xD1 refl refl refl (bytes_allowed 5 _ (lit≤ tt)),
        (
          record_line _ last 0xFF refl refl refl last_allowed,
          tt,
        ),
      ),
    ) in
    let all : is.records ++ is.spelled.end ∷ [] ≡ Clashing ++ last ∷ [] = records_of_lines (nonempty_lines (codes ":0100050028D2\n:0100050029D1\n:00000001FF\n")) _ _ is.spelled.lines spelled in
    let records : is.records ≡ Clashing = records_before_end is.records Clashing is.spelled.end last all in
    let one : GivesByte is.records 5 0x28 = subst (λ rs. GivesByte rs 5 0x28) (sym records) (gives_byte Clashing 5 0x28 (inl (refl, inl (refl, refl)))) in
    let other : GivesByte is.records 5 0x29 = subst (λ rs. GivesByte rs 5 0x29) (sym records) (gives_byte Clashing 5 0x29 (inr (inl (refl, inl (refl, refl))))) in
    let same : 0x28 ≡ 0x29 = is.agreed 5 0x28 0x29 one other in absurd (omega (arith, same))
