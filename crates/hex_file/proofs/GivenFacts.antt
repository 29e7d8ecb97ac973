-- The bytes that records give, one by one, as a function of the address.
use Rattle.std.proofs.Common.{◌≡◌, ◌≢◌, ℕ, zero, suc, ◌+◌, ◌-◌, ◌<◌, ◌≤◌, ⊎_elim, true, false, List, [], ◌∷◌, ◌++◌, length, take, drop, Option, None, Some, refl, sym, ◌∙◌, ap, subst, slice_get, slice_set, slice_index, slice_index_or, add-zero, drop-cons, get_or-set_same, get_or-set_other, length-set, arith}
use Rattle.std.proofs.lemmas.Bool.{cases_lt, cases_eq, eqb-true, eq-eqb, ne_eqb, le-leb, lt-leb, cond-true, cond-false, and_left, not-false}
use Rattle.std.proofs.lemmas.List.{take_all}
use Rattle.std.specs.Option.{option_or}
use Rattle.hex_file.specs.Faults.{byte_of, byte_given, is_other, other_at, clash_at}
use Rattle.hex_file.specs.ImageOf.{HexRecord}
use Rattle.hex_file.specs.Tables.{IsTable}
use Rattle.hex_file.proofs.LineFacts.{bytes_from}

-- What one record gives.

byte_of_data : (start : ℕ) (payload : List ℕ) (address : ℕ) → start ≤ address → byte_of (bytes_from start payload) address ≡ slice_get payload (address - start)
byte_of_data start payload address low = cond-true _ _ _ (le-leb start address low)

byte_of_below : (start : ℕ) (payload : List ℕ) (address : ℕ) → address < start → byte_of (bytes_from start payload) address ≡ None
byte_of_below start payload address low = cond-false _ _ _ (lt-leb start address low)

pub byte_of_other : (r : HexRecord) (address : ℕ) → r.kind ≢ 0 → byte_of r address ≡ None
byte_of_other r address not_data = cond-false _ _ _ (and_left _ _ (ne_eqb r.kind 0 not_data))

-- What the records before a last one give, and that.

pub or_none : (o : Option ℕ) → option_or o None ≡ o
or_none None = refl
or_none (Some x) = refl

pub given_more : (records : List HexRecord) (r : HexRecord) (address : ℕ)
    → byte_given (records ++ r ∷ []) address ≡ option_or (byte_given records address) (byte_of r address)
given_more [] r address = or_none (byte_of r address)
given_more (s ∷ records) r address = ap (option_or (byte_of s address)) (given_more records r address) ∙ or_more (byte_of s address) (byte_given records address) (byte_of r address)
  where
    or_more : (a b d : Option ℕ) → option_or a (option_or b d) ≡ option_or (option_or a b) d
    or_more None b d = refl
    or_more (Some x) b d = refl

-- A table that gets the bytes of a record, one by one.

pub same_with_none : (records : List HexRecord) (r : HexRecord) (table : List (Option ℕ)) → ((address : ℕ) → byte_of r address ≡ None)
    → IsTable records table → IsTable (records ++ r ∷ []) table
same_with_none records r table none is = record {
  size = is.size;
  at = λ address below. is.at address below ∙ sym (given_more records r address ∙ ap (option_or (byte_given records address)) (none address) ∙ or_none (byte_given records address));
}

take_other : (xs : List ℕ) (i j : ℕ) → j ≢ i → slice_get (take (suc i) xs) j ≡ slice_get (take i xs) j
take_other [] zero j apart = refl
take_other [] (suc i) j apart = refl
take_other (x ∷ xs) zero zero apart = absurd (apart refl)
take_other (x ∷ xs) zero (suc j) apart = refl
take_other (x ∷ xs) (suc i) zero apart = refl
take_other (x ∷ xs) (suc i) (suc j) apart = take_other xs i j (λ e. apart (omega arith))

take_at : (xs : List ℕ) (i : ℕ) → i < length xs → slice_get (take (suc i) xs) i ≡ Some (slice_index xs i)
take_at [] i inside = absurd (omega arith)
take_at (x ∷ xs) zero inside = refl
take_at (x ∷ xs) (suc i) inside = take_at xs i (omega arith)

take_before : (xs : List ℕ) (i : ℕ) → slice_get (take i xs) i ≡ None
take_before [] zero = refl
take_before [] (suc i) = refl
take_before (x ∷ xs) zero = refl
take_before (x ∷ xs) (suc i) = take_before xs i

-- The first bytes of the payload are given: so many, and none of them with another value.
pub record IsPart (records : List HexRecord) (start : ℕ) (payload : List ℕ) (count : ℕ) (table : List (Option ℕ)) : Type 0 where
  pub given : IsTable (records ++ bytes_from start (take count payload) ∷ []) table
  pub others : other_at records (start + count) (drop count payload) ≡ other_at records start payload

pub part_none : (records : List HexRecord) (start : ℕ) (payload : List ℕ) (table : List (Option ℕ)) → IsTable records table → IsPart records start payload 0 table
part_none records start payload table is = record {
  given = same_with_none records (bytes_from start []) table (λ address. gives_nothing start address) is;
  others = ap (λ n. other_at records n payload) (add-zero start);
}
  where
    gives_nothing : (start address : ℕ) → byte_of (bytes_from start []) address ≡ None
    gives_nothing start address = ⊎_elim (λ low. byte_of_below start [] address low) (λ high. byte_of_data start [] address high) (cases_lt address start)

module _ (records : List HexRecord) (start : ℕ) (payload : List ℕ) (count : ℕ) (table : List (Option ℕ)) (part : IsPart records start payload count table)
    (inside : count < length payload) (below : start + count < 0x10000) where
  -- At the next address the table still has what the records give.
  pub next_given : slice_index_or table (start + count) None ≡ byte_given records (start + count)
  next_given =
      let none : byte_of (bytes_from start (take count payload)) (start + count) ≡ None =
      byte_of_data start (take count payload) (start + count) (omega arith) ∙ ap (slice_get (take count payload)) (omega arith) ∙ take_before payload count in
      part.given.at (start + count) below ∙ given_more records (bytes_from start (take count payload)) (start + count)
      ∙ ap (option_or (byte_given records (start + count))) none ∙ or_none (byte_given records (start + count))

  others_next : (byte : ℕ) → byte ≡ slice_index payload count → other_at records (start + count) (byte ∷ drop (suc count) payload) ≡ other_at records start payload
  others_next byte is = ap (λ b. other_at records (start + count) (b ∷ drop (suc count) payload)) is
      ∙ ap (other_at records (start + count)) (sym (drop-cons payload count 0 inside)) ∙ part.others

  pub part_clash : (byte : ℕ) → byte ≡ slice_index payload count → is_other (slice_index_or table (start + count) None) byte ≡ true
      → other_at records start payload ≡ Some (start + count)
  part_clash byte is other =
      sym (others_next byte is) ∙ cond-true _ _ _ (ap (λ o. is_other o byte) (sym next_given) ∙ other)

  pub part_more : (byte : ℕ) → byte ≡ slice_index payload count → is_other (slice_index_or table (start + count) None) byte ≡ false
      → IsPart records start payload (count + 1) (slice_set table (start + count) (Some byte))
  part_more byte is same = record {
    given = record {
      size = length-set table (start + count) (Some byte) ∙ part.given.size;
      at = λ address small. ⊎_elim (λ e. here address e) (λ other. elsewhere address small other) (cases_eq address (start + count));
    };
    others =
        ap (λ n. other_at records n (drop (count + 1) payload)) (let e : start + (count + 1) ≡ start + count + 1 = omega arith in e)
        ∙ ap (λ k. other_at records (start + count + 1) (drop k payload)) (let e : count + 1 ≡ suc count = omega arith in e)
        ∙ sym (cond-false _ _ _ (ap (λ o. is_other o byte) (sym next_given) ∙ same))
        ∙ others_next byte is;
  }
    where
      same_byte : (o : Option ℕ) → is_other o byte ≡ false → option_or o (Some byte) ≡ Some byte
      same_byte None e = refl
      same_byte (Some given) e = ap Some (eqb-true given byte (not-false _ e))

      here : (address : ℕ) → address ≡ start + count
          → slice_index_or (slice_set table (start + count) (Some byte)) address None ≡ byte_given (records ++ bytes_from start (take (count + 1) payload) ∷ []) address
      here address e =
          let within : start + count < length table = omega (arith, part.given.size) in
          let byte_is : byte_of (bytes_from start (take (count + 1) payload)) (start + count) ≡ Some byte =
          byte_of_data start (take (count + 1) payload) (start + count) (omega arith)
          ∙ ap (slice_get (take (count + 1) payload)) (let e : start + count - start ≡ count = omega arith in e)
          ∙ ap (λ k. slice_get (take k payload) count) (let e : count + 1 ≡ suc count = omega arith in e)
          ∙ take_at payload count inside ∙ ap Some (sym is) in
          ap (λ k. slice_index_or (slice_set table (start + count) (Some byte)) k None) e
          ∙ get_or-set_same table (start + count) (Some byte) None within
          ∙ sym (given_more records (bytes_from start (take (count + 1) payload)) (start + count)
          ∙ ap (option_or (byte_given records (start + count))) byte_is
          ∙ same_byte (byte_given records (start + count)) (ap (λ o. is_other o byte) (sym next_given) ∙ same))
          ∙ ap (byte_given (records ++ bytes_from start (take (count + 1) payload) ∷ [])) (sym e)

      elsewhere : (address : ℕ) → address < 0x10000 → address ≢ start + count
          → slice_index_or (slice_set table (start + count) (Some byte)) address None ≡ byte_given (records ++ bytes_from start (take (count + 1) payload) ∷ []) address
      elsewhere address small other =
          get_or-set_other table (start + count) address (Some byte) None other
          ∙ part.given.at address small
          ∙ given_more records (bytes_from start (take count payload)) address
          ∙ ap (option_or (byte_given records address)) (unchanged address other)
          ∙ sym (given_more records (bytes_from start (take (count + 1) payload)) address)
        where
          unchanged : (address : ℕ) → address ≢ start + count
              → byte_of (bytes_from start (take count payload)) address ≡ byte_of (bytes_from start (take (count + 1) payload)) address
          unchanged address other = ⊎_elim
              (λ low. byte_of_below start (take count payload) address low ∙ sym (byte_of_below start (take (count + 1) payload) address low))
              (λ high.
              byte_of_data start (take count payload) address high
              ∙ sym (take_other payload count (address - start) (λ e. other (omega arith)))
              ∙ ap (λ k. slice_get (take k payload) (address - start)) (let e : suc count ≡ count + 1 = omega arith in e)
              ∙ sym (byte_of_data start (take (count + 1) payload) address high))
              (cases_lt address start)

-- A whole record.

data_record : (r : HexRecord) → r.kind ≡ 0 → bytes_from r.address r.payload ≡ r
data_record r e = λ i. record { address = r.address; kind = sym e i; payload = r.payload }

clash_of_data : (records : List HexRecord) (r : HexRecord) → r.kind ≡ 0 → clash_at records r ≡ other_at records r.address r.payload
clash_of_data records r e = cond-true _ _ _ (eq-eqb r.kind 0 e)

pub clash_of_other : (records : List HexRecord) (r : HexRecord) → r.kind ≢ 0 → clash_at records r ≡ None
clash_of_other records r e = cond-false _ _ _ (ne_eqb r.kind 0 e)

pub given_whole : (records : List HexRecord) (r : HexRecord) (count : ℕ) (table : List (Option ℕ)) → r.kind ≡ 0 → length r.payload ≤ count
    → IsPart records r.address r.payload count table → IsTable (records ++ r ∷ []) table
given_whole records r count table e all part =
    let whole : bytes_from r.address (take count r.payload) ≡ r = ap (bytes_from r.address) (take_all count r.payload all) ∙ data_record r e in
    subst (λ s. IsTable (records ++ s ∷ []) table) whole part.given

pub given_other : (records : List HexRecord) (r : HexRecord) (table : List (Option ℕ)) → r.kind ≢ 0 → IsTable records table → IsTable (records ++ r ∷ []) table
given_other records r table e is = same_with_none records r table (λ address. byte_of_other r address e) is

pub clash_whole : (records : List HexRecord) (r : HexRecord) (count : ℕ) (table : List (Option ℕ)) (byte : ℕ) → r.kind ≡ 0
    → IsPart records r.address r.payload count table → count < length r.payload → r.address + count < 0x10000 → byte ≡ slice_index r.payload count
    → is_other (slice_index_or table (r.address + count) None) byte ≡ true → clash_at records r ≡ Some (r.address + count)
clash_whole records r count table byte e part inside below is other =
    clash_of_data records r e ∙ part_clash records r.address r.payload count table part inside below byte is other
