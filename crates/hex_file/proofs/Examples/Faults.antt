-- The faults of single lines, and the first faults of small files.
use Rattle.std.proofs.Common.{◌≡◌, ◌≢◌, ℕ, zero, suc, ◌<◌, inl, inr, [], ◌∷◌, None, Some, refl, codes, lit<, lit≤, arith, slice_index_or}
use Rattle.hex_file.specs.declared.faults.HexFault.TheVariants.{BadChar, BadLength, BadSum, BadType, OutOfRange, Clash, NoEnd, AfterEnd}
use Rattle.hex_file.specs.ImageOf.{HexRecord, Agree}
use Rattle.hex_file.specs.Faults.{line_fault, FirstFault}
use Rattle.hex_file.proofs.GivenByteFacts.{given_bytes}
use Rattle.hex_file.proofs.Examples.Images.{Records, one_value, upper, word, config, last, upper_allowed, not_ended}
use Rattle.hex_file.proofs.LineFacts.{bytes_from, bytes_allowed, record_line}

-- Lines without a fault, of each type and in either case.

no_fault_of_data : line_fault [] 1 (codes ":02400E003A3F37") ≡ None
no_fault_of_data = refl

no_fault_in_lower_case : line_fault [] 1 (codes ":02400e003a3f37") ≡ None
no_fault_in_lower_case = refl

no_fault_of_the_end : line_fault [] 1 (codes ":00000001FF") ≡ None
no_fault_of_the_end = refl

no_fault_of_upper_addresses : line_fault [] 1 (codes ":020000040000FA") ≡ line_fault [] 1 (codes ":020000020000FC")
no_fault_of_upper_addresses = refl

no_fault_of_a_segment : line_fault [] 1 (codes ":020000020000FC") ≡ None
no_fault_of_a_segment = refl

no_fault_of_start_addresses : line_fault [] 1 (codes ":0400000300001234B3") ≡ None
no_fault_of_start_addresses = refl

no_fault_of_a_start_address_of_three_bytes : line_fault [] 1 (codes ":030000051234565C") ≡ None
no_fault_of_a_start_address_of_three_bytes = refl

-- Data up to FFFFh, and data of no bytes.
no_fault_at_the_top : line_fault [] 1 (codes ":02FFFE00000001") ≡ None
no_fault_at_the_top = refl

no_fault_of_no_bytes : line_fault [] 1 (codes ":00FFFF0002") ≡ None
no_fault_of_no_bytes = refl

-- The same byte given again.
no_fault_of_a_byte_given_again : line_fault (bytes_from 5 (0x28 ∷ []) ∷ []) 2 (codes ":0100050028D2") ≡ None
no_fault_of_a_byte_given_again = refl

-- Each fault.

no_colon : line_fault [] 7 (codes "02400E003A3F37") ≡ Some (BadChar 7)
no_colon = refl

a_letter_past_f : line_fault [] 7 (codes ":02400G003A3F37") ≡ Some (BadChar 7)
a_letter_past_f = refl

a_space_behind : line_fault [] 7 (codes ":00000001FF ") ≡ Some (BadChar 7)
a_space_behind = refl

an_odd_digit : line_fault [] 7 (codes ":00000001FF0") ≡ Some (BadLength 7)
an_odd_digit = refl

four_bytes : line_fault [] 7 (codes ":00000000") ≡ Some (BadLength 7)
four_bytes = refl

a_colon_alone : line_fault [] 7 (codes ":") ≡ Some (BadLength 7)
a_colon_alone = refl

another_length : line_fault [] 7 (codes ":03400E003A3F37") ≡ Some (BadLength 7)
another_length = refl

a_wrong_sum : line_fault [] 7 (codes ":02400E003A3F36") ≡ Some (BadSum 7 0x36 0x37)
a_wrong_sum = refl

a_wrong_sum_of_type_six : line_fault [] 7 (codes ":00000006FF") ≡ Some (BadSum 7 0xFF 0xFA)
a_wrong_sum_of_type_six = refl

type_six : line_fault [] 7 (codes ":00000006FA") ≡ Some (BadType 7 6)
type_six = refl

an_end_with_data : line_fault [] 7 (codes ":0100000100FE") ≡ Some (BadLength 7)
an_end_with_data = refl

an_upper_address_of_one_byte : line_fault [] 7 (codes ":0100000401FA") ≡ Some (BadLength 7)
an_upper_address_of_one_byte = refl

an_upper_address_above_0 : line_fault [] 7 (codes ":020000040001F9") ≡ Some (OutOfRange 7)
an_upper_address_above_0 = refl

a_segment_above_0 : line_fault [] 7 (codes ":020000021000EC") ≡ Some (OutOfRange 7)
a_segment_above_0 = refl

data_past_FFFF : line_fault [] 7 (codes ":02FFFF00000000") ≡ Some (OutOfRange 7)
data_past_FFFF = refl

-- The second byte of the line is given with another value, and the third too.
the_lowest_clash : line_fault (bytes_from 6 (0x29 ∷ 0x30 ∷ []) ∷ []) 7 (codes ":0300050028282880") ≡ Some (Clash 7 6)
the_lowest_clash = refl

-- Bytes of high addresses differ in the top two bits alone.
a_clash_of_the_top_bits : line_fault (bytes_from 1 (0x28 ∷ []) ∷ []) 7 (codes ":01000100E816") ≡ Some (Clash 7 1)
a_clash_of_the_top_bits = refl

a_second_end : line_fault (last ∷ []) 7 (codes ":00000001FF") ≡ Some (AfterEnd 7)
a_second_end = refl

text_after_the_end : line_fault (last ∷ []) 7 (codes "what") ≡ Some (AfterEnd 7)
text_after_the_end = refl

-- Files.

upper_first : (k : ℕ) (d : HexRecord) → k < 1 → (slice_index_or (upper ∷ []) k d).kind ≢ 1
upper_first zero d below e = cc
upper_first (suc k) d below e = absurd (omega arith)

upper_and_word_first : (k : ℕ) (d : HexRecord) → k < 2 → (slice_index_or (upper ∷ word ∷ []) k d).kind ≢ 1
upper_and_word_first zero d below e = cc
upper_and_word_first (suc zero) d below e = cc
upper_and_word_first (suc (suc k)) d below e = absurd (omega arith)

none_agrees : Agree []
none_agrees address first second a b = absurd (given_bytes [] address first a)

prefix_agrees : Agree (upper ∷ word ∷ [])
prefix_agrees address first second a b =
    let p = given_bytes (upper ∷ word ∷ []) address first a in let q = given_bytes (upper ∷ word ∷ []) address second b in omega arith

a_wrong_sum_in_the_third_line : FirstFault (codes ":020000040000FA\n:020000000028D6\n:02400E003A3F36\n:00000001FF\n") (BadSum 3 0x36 0x37)
a_wrong_sum_in_the_third_line = inl (record {
  before = codes ":020000040000FA" ∷ codes ":020000000028D6" ∷ [];
  line = codes ":02400E003A3F36";
  after = codes ":00000001FF" ∷ [];
  records = upper ∷ word ∷ [];
  split = refl;
  faultless = record {
    spelled = (record_line _ upper 0xFA refl refl refl upper_allowed, (record_line _ word 0xD6 refl refl refl (bytes_allowed 0 _ (lit≤ tt)), tt));
    agreed = prefix_agrees;
    once = λ k d below. upper_first k d below;
  };
  filled = lit< tt;
  told = refl;
})

no_last_line : FirstFault (codes ":020000040000FA\n:020000000028D6\n:02400E003A3F37\n") NoEnd
no_last_line = inr (record {
  records = Records;
  faultless = record {
    spelled = (
      record_line _ upper 0xFA refl refl refl upper_allowed,
      (record_line _ word 0xD6 refl refl refl (bytes_allowed 0 _ (lit≤ tt)), (record_line _ config 0x37 refl refl refl (bytes_allowed 0x400E _ (lit≤ tt)), tt)),
    );
    agreed = one_value;
    once = λ k d below. upper_and_word_first k d below;
  };
  unended = not_ended;
  told = refl;
})

an_empty_file : FirstFault [] NoEnd
an_empty_file = inr (record {
  records = [];
  faultless = record { spelled = tt; agreed = none_agrees; once = λ k d below. absurd (omega arith) };
  unended = λ k d below. absurd (omega arith);
  told = refl;
})
