-- The lines of a file that are read: those at its beginning have no fault.
use Rattle.std.proofs.Common.{◌≡◌, ◌≢◌, ℕ, zero, suc, ◌+◌, ◌-◌, ◌<◌, Bool, true, false, ◌||◌, ◌==◌, nat_lt, List, [], ◌∷◌, ◌++◌, length, take, Option, None, refl, sym, ◌∙◌, ap, subst, append_assoc, append-nil, length-append, arith}
use Rattle.std.proofs.lemmas.Bool.{cond-true, cond-false, eqb-false, ne_eqb, lt-ltb, le-ltb, or_parts}
use Rattle.std.proofs.lemmas.List.Elements.{filter-append}
use Rattle.std.proofs.lemmas.List.Folds.{list_any-append, list_any_none}
use Rattle.std.proofs.Math.Seq.{take-append_seam}
use Rattle.std.specs.List.{All, AllZip, filter}
use Rattle.std.specs.Str.Lines.{lines}
use Rattle.hex_file.specs.Faults.{has_end, clash_at, AreFaultless}
use Rattle.hex_file.specs.ImageOf.{HexRecord, IsRecordLine}
use Rattle.hex_file.specs.Tables.{IsTable, IsGivenBy}
use Rattle.hex_file.proofs.AgreeFacts.{agree_more}

-- End records.

end_of_one : (r : HexRecord) → has_end (r ∷ []) ≡ (r.kind == 1)
end_of_one r = or_false (r.kind == 1)
  where
    or_false : (b : Bool) → (b || false) ≡ b
    or_false true = refl
    or_false false = refl

pub end_more : (records : List HexRecord) (r : HexRecord) → has_end records ≡ false → has_end (records ++ r ∷ []) ≡ (r.kind == 1)
end_more records r unended = list_any-append (λ r. r.kind == 1) records (r ∷ []) ∙ ap (λ b. b || has_end (r ∷ [])) unended ∙ end_of_one r

pub no_ends : (records : List HexRecord) → has_end records ≡ false → All (λ r. r.kind ≢ 1) records
no_ends [] none k d below = absurd (omega arith)
no_ends (r ∷ records) none zero d below = eqb-false _ _ (or_parts (r.kind == 1) (has_end records) none).0
no_ends (r ∷ records) none (suc k) d below = no_ends records (or_parts (r.kind == 1) (has_end records) none).1 k d (omega arith)

pub ends_none : (records : List HexRecord) → All (λ r. r.kind ≢ 1) records → has_end records ≡ false
ends_none records all = list_any_none (λ r. r.kind == 1) records (λ k d below. ne_eqb _ _ (all k d below))

-- Lines that aren't empty.

abbrev pub filled : List (List ℕ) → List (List ℕ)
filled texts = filter (λ line. nat_lt 0 (length line)) texts

pub filled_one : (line : List ℕ) → 0 < length line → filled (line ∷ []) ≡ line ∷ []
filled_one line some = cond-true _ _ _ (lt-ltb 0 (length line) some)

pub filled_none : (line : List ℕ) → length line ≡ 0 → filled (line ∷ []) ≡ []
filled_none line none = cond-false _ _ _ (le-ltb 0 (length line) (omega arith))

pub zip_more : (texts : List (List ℕ)) (records : List HexRecord) (line : List ℕ) (r : HexRecord) → AllZip IsRecordLine texts records → IsRecordLine line r
    → AllZip IsRecordLine (texts ++ line ∷ []) (records ++ r ∷ [])
zip_more [] [] line r zipped is = (is, tt)
zip_more [] (s ∷ records) line r zipped is = absurd zipped
zip_more (l ∷ texts) [] line r zipped is = absurd zipped
zip_more (l ∷ texts) (s ∷ records) line r zipped is = (zipped.0, zip_more texts records line r zipped.1 is)

-- One line more.

pub init_of_more : (records : List HexRecord) (r : HexRecord) → take (length (records ++ r ∷ []) - 1) (records ++ r ∷ []) ≡ records
init_of_more records r =
    ap (λ n. take n (records ++ r ∷ [])) (let e : length (records ++ r ∷ []) - 1 ≡ length records = omega (arith, length-append records (r ∷ [])) in e)
    ∙ take-append_seam records (r ∷ [])

pub faultless_none : AreFaultless [] []
faultless_none = record {
  spelled = tt;
  agreed = λ address first second a b. absurd (let below : a.among.0 < 0 = a.among.1 in omega arith);
  once = λ k d below. absurd (omega arith);
}

pub faultless_empty : (texts : List (List ℕ)) (records : List HexRecord) (line : List ℕ) → AreFaultless texts records → length line ≡ 0
    → AreFaultless (texts ++ line ∷ []) records
faultless_empty texts records line is none = record {
  spelled =
      let same : filled (texts ++ line ∷ []) ≡ filled texts =
      filter-append (λ line. nat_lt 0 (length line)) texts (line ∷ []) ∙ ap (λ more. filled texts ++ more) (filled_none line none) ∙ append-nil (filled texts) in
      subst (λ texts. AllZip IsRecordLine texts records) (sym same) is.spelled;
  agreed = is.agreed;
  once = is.once;
}

pub faultless_more : (texts : List (List ℕ)) (records : List HexRecord) (line : List ℕ) (r : HexRecord) → AreFaultless texts records → has_end records ≡ false
    → 0 < length line → IsRecordLine line r → clash_at records r ≡ None → AreFaultless (texts ++ line ∷ []) (records ++ r ∷ [])
faultless_more texts records line r is unended some spelled agrees = record {
  spelled =
      let one_more : filled (texts ++ line ∷ []) ≡ filled texts ++ line ∷ [] =
      filter-append (λ line. nat_lt 0 (length line)) texts (line ∷ []) ∙ ap (λ more. filled texts ++ more) (filled_one line some) in
      subst (λ texts. AllZip IsRecordLine texts (records ++ r ∷ [])) (sym one_more) (zip_more (filled texts) records line r is.spelled spelled);
  agreed = agree_more records r is.agreed agrees;
  once = subst (All (λ r. r.kind ≢ 1)) (sym (init_of_more records r)) (no_ends records unended);
}

-- The beginning of a file.
pub record AreRead (bytes rest : List ℕ) (number : ℕ) (table : List (Option ℕ)) (ended : Bool) : Type 0 where
  pub before : List (List ℕ)
  pub records : List HexRecord
  pub split : lines bytes ≡ before ++ lines rest
  pub counted : length before ≡ number
  pub faultless : AreFaultless before records
  pub given : IsTable records table
  pub is_end : ended ≡ has_end records

pub nothing_read : (bytes : List ℕ) (table : List (Option ℕ)) → IsTable [] table → AreRead bytes bytes 0 table false
nothing_read bytes table is = record { before = []; records = []; split = refl; counted = refl; faultless = faultless_none; given = is; is_end = refl }

counted_more : (before : List (List ℕ)) (line : List ℕ) (number : ℕ) → length before ≡ number → length (before ++ line ∷ []) ≡ number + 1
counted_more before line number counted = omega (arith, length-append before (line ∷ []))

split_more : (bytes rest line more : List ℕ) (before : List (List ℕ)) → lines bytes ≡ before ++ lines rest → lines rest ≡ line ∷ lines more
    → lines bytes ≡ (before ++ line ∷ []) ++ lines more
split_more bytes rest line more before split first = split ∙ ap (λ ls. before ++ ls) first ∙ sym (append_assoc before (line ∷ []) (lines more))

pub read_empty : (bytes rest line more : List ℕ) (number : ℕ) (table : List (Option ℕ)) (ended : Bool) → AreRead bytes rest number table ended
    → lines rest ≡ line ∷ lines more → length line ≡ 0 → AreRead bytes more (number + 1) table ended
read_empty bytes rest line more number table ended read first none = record {
  before = read.before ++ line ∷ [];
  records = read.records;
  split = split_more bytes rest line more read.before read.split first;
  counted = counted_more read.before line number read.counted;
  faultless = faultless_empty read.before read.records line read.faultless none;
  given = read.given;
  is_end = read.is_end;
}

pub read_line : (bytes rest line more : List ℕ) (number : ℕ) (table after : List (Option ℕ)) (ended : Bool) (read : AreRead bytes rest number table false)
    → lines rest ≡ line ∷ lines more → 0 < length line → IsGivenBy read.records line after ended → AreRead bytes more (number + 1) after ended
read_line bytes rest line more number table after ended read first some by = record {
  before = read.before ++ line ∷ [];
  records = read.records ++ by.found ∷ [];
  split = split_more bytes rest line more read.before read.split first;
  counted = counted_more read.before line number read.counted;
  faultless = faultless_more read.before read.records line by.found read.faultless (sym read.is_end) some by.spelled by.agrees;
  given = by.given;
  is_end = by.is_end ∙ sym (end_more read.records by.found (sym read.is_end));
}
