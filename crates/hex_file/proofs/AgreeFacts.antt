-- Records that agree: what they give is a function of the address, and a record that clashes with none of them agrees with them.
use Rattle.std.proofs.Common.{◌≡◌, ◌≢◌, ℕ, zero, suc, ◌+◌, ◌-◌, ◌≤◌, ⊎_elim, false, ◌&&◌, ◌==◌, nat_le, List, [], ◌∷◌, ◌++◌, Option, None, Some, refl, sym, ◌∙◌, ap, subst, slice_get, arith}
use Rattle.std.proofs.lemmas.Bool.{cases_Bool, cond-true, cond-false, and_parts, and_from, eqb-true, eq-eqb, leb-true, le-leb, not_from_true, not-false}
use Rattle.std.proofs.lemmas.List.Elements.{Contains-append_left, Contains-append_right, Contains-append_cases}
use Rattle.std.proofs.lemmas.Option.{same_Some}
use Rattle.std.specs.List.{Contains}
use Rattle.std.specs.Option.{option_or}
use Rattle.hex_file.specs.Faults.{byte_of, byte_given, is_other, other_at, clash_at}
use Rattle.hex_file.specs.ImageOf.{HexRecord, GivesByte, Agree}
use Rattle.hex_file.proofs.ImageLaws.{held, holds_none, holds_first, holds_later}
use Rattle.hex_file.proofs.TableFacts.{some_or_none}

-- One record.

record IsFrom (r : HexRecord) (address byte : ℕ) : Type 0 where
  pub is_data : r.kind ≡ 0
  pub low : r.address ≤ address
  pub value : slice_get r.payload (address - r.address) ≡ Some byte

from_record : (r : HexRecord) (address byte : ℕ) → byte_of r address ≡ Some byte → IsFrom r address byte
from_record r address byte e = ⊎_elim
    (λ passes.
    let parts = and_parts (r.kind == 0) (nat_le r.address address) passes in
    record { is_data = eqb-true _ _ parts.0; low = leb-true _ _ parts.1; value = sym (cond-true _ _ _ passes) ∙ e })
    (λ fails. absurd (let none : None ≡ Some byte = sym (cond-false _ _ _ fails) ∙ e in cc))
    (cases_Bool (r.kind == 0 && nat_le r.address address))

by_record : (r : HexRecord) (place address byte : ℕ) → r.kind ≡ 0 → slice_get r.payload place ≡ Some byte → address ≡ r.address + place
    → byte_of r address ≡ Some byte
by_record r place address byte is_data value at =
    cond-true _ _ _ (and_from (r.kind == 0) (nat_le r.address address) (eq-eqb _ _ is_data) (le-leb _ _ (omega arith)))
    ∙ ap (slice_get r.payload) (let e : address - r.address ≡ place = omega arith in e) ∙ value

-- A list of records.

pub gives : (records : List HexRecord) (r : HexRecord) (address byte : ℕ) → Contains records r → byte_of r address ≡ Some byte → GivesByte records address byte
gives records r address byte among e =
    let from : IsFrom r address byte = from_record r address byte e in
    record { source = r; place = address - r.address; among = among; is_data = from.is_data; value = from.value; at = omega (arith, from.low) }

pub given_by : (records : List HexRecord) (address byte : ℕ) (g : GivesByte records address byte) → byte_of g.source address ≡ Some byte
given_by records address byte g = by_record g.source g.place address byte g.is_data g.value g.at

pub gives_of_given : (records : List HexRecord) (address byte : ℕ) → byte_given records address ≡ Some byte → GivesByte records address byte
gives_of_given [] address byte e = absurd cc
gives_of_given (r ∷ records) address byte e = ⊎_elim
    (λ some.
    let same : some.0 ≡ byte = same_Some _ _ (sym (ap (λ o. option_or o (byte_given records address)) some.1) ∙ e) in
    gives (r ∷ records) r address byte (holds_first r records) (some.1 ∙ ap Some same))
    (λ none.
    let g : GivesByte records address byte = gives_of_given records address byte (sym (ap (λ o. option_or o (byte_given records address)) none) ∙ e) in
    gives (r ∷ records) g.source address byte (holds_later r g.source records g.among) (given_by records address byte g))
    (some_or_none (byte_of r address))

some_given : (records : List HexRecord) (r : HexRecord) (address byte : ℕ) → Contains records r → byte_of r address ≡ Some byte
    → byte_given records address ≢ None
some_given [] r address byte among e none = absurd (holds_none r among)
some_given (s ∷ records) r address byte among e none = ⊎_elim
    (λ some. let here : Some some.0 ≡ None = sym (ap (λ o. option_or o (byte_given records address)) some.1) ∙ none in absurd cc)
    (λ not_here. ⊎_elim
    (λ is. let both : Some byte ≡ None = sym e ∙ sym (ap (λ r. byte_of r address) is) ∙ not_here in absurd cc)
    (λ later. some_given records r address byte later e (sym (ap (λ o. option_or o (byte_given records address)) not_here) ∙ none))
    (held s r records among))
    (some_or_none (byte_of s address))

pub given_of_gives : (records : List HexRecord) (address byte : ℕ) → Agree records → GivesByte records address byte → byte_given records address ≡ Some byte
given_of_gives records address byte agreed g = ⊎_elim
    (λ some. some.1 ∙ ap Some (agreed address some.0 byte (gives_of_given records address some.0 some.1) g))
    (λ none. absurd (some_given records g.source address byte g.among (given_by records address byte g) none))
    (some_or_none (byte_given records address))

pub none_given : (records : List HexRecord) (address : ℕ) → byte_given records address ≡ None → ¬ ((byte : ℕ) × GivesByte records address byte)
none_given records address none g = some_given records g.1.source address g.0 g.1.among (given_by records address g.0 g.1) none

-- A record after others.

first_same : (records : List HexRecord) (start b : ℕ) (payload : List ℕ) → other_at records start (b ∷ payload) ≡ None
    → (is_other (byte_given records start) b ≡ false) × (other_at records (start + 1) payload ≡ None)
first_same records start b payload none = ⊎_elim
    (λ other. absurd (let some : Some start ≡ None = sym (cond-true _ _ _ other) ∙ none in cc))
    (λ same. (same, sym (cond-false _ _ _ same) ∙ none))
    (cases_Bool (is_other (byte_given records start) b))

others_same : (records : List HexRecord) (start : ℕ) (payload : List ℕ) → other_at records start payload ≡ None
    → (place byte : ℕ) → slice_get payload place ≡ Some byte → is_other (byte_given records (start + place)) byte ≡ false
others_same records start [] none place byte value = absurd cc
others_same records start (b ∷ payload) none zero byte value =
    ap (λ n. is_other (byte_given records n) byte) (let e : start + 0 ≡ start = omega arith in e)
    ∙ ap (is_other (byte_given records start)) (sym (same_Some _ _ value)) ∙ (first_same records start b payload none).0
others_same records start (b ∷ payload) none (suc place) byte value =
    ap (λ n. is_other (byte_given records n) byte) (let e : start + suc place ≡ start + 1 + place = omega arith in e)
    ∙ others_same records (start + 1) payload (first_same records start b payload none).1 place byte value

same_others : (records : List HexRecord) (start : ℕ) (payload : List ℕ)
    → ((place byte : ℕ) → slice_get payload place ≡ Some byte → is_other (byte_given records (start + place)) byte ≡ false)
    → other_at records start payload ≡ None
same_others records start [] same = refl
same_others records start (b ∷ payload) same =
    cond-false _ _ _ (ap (λ n. is_other (byte_given records n) b) (let e : start ≡ start + 0 = omega arith in e) ∙ same 0 b refl)
    ∙ same_others records (start + 1) payload
    (λ place byte value. ap (λ n. is_other (byte_given records n) byte) (let e : start + 1 + place ≡ start + suc place = omega arith in e) ∙ same (suc place) byte value)

not_other_same : (o : Option ℕ) (x y : ℕ) → o ≡ Some x → is_other o y ≡ false → x ≡ y
not_other_same o x y is same = eqb-true _ _ (not-false _ (sym (ap (λ o. is_other o y) is) ∙ same))

same_not_other : (o : Option ℕ) (y : ℕ) → ((x : ℕ) → o ≡ Some x → x ≡ y) → is_other o y ≡ false
same_not_other None y same = refl
same_not_other (Some x) y same = not_from_true _ (eq-eqb _ _ (same x refl))

-- What a record gives is no other byte than those of records with which it doesn't clash.
agrees_at : (records : List HexRecord) (r : HexRecord) (address byte : ℕ) → clash_at records r ≡ None → byte_of r address ≡ Some byte
    → is_other (byte_given records address) byte ≡ false
agrees_at records r address byte none e =
    let from : IsFrom r address byte = from_record r address byte e in
    let others : other_at records r.address r.payload ≡ None = sym (cond-true _ _ _ (eq-eqb r.kind 0 from.is_data)) ∙ none in
    ap (λ n. is_other (byte_given records n) byte) (let e : address ≡ r.address + (address - r.address) = omega (arith, from.low) in e)
    ∙ others_same records r.address r.payload others (address - r.address) byte from.value

one_of : (r s : HexRecord) → Contains (r ∷ []) s → r ≡ s
one_of r s among = ⊎_elim (λ e. e) (λ none. absurd (holds_none s none)) (held r s [] among)

pub agree_more : (records : List HexRecord) (r : HexRecord) → Agree records → clash_at records r ≡ None → Agree (records ++ r ∷ [])
agree_more records r agreed none address first second a b =
    let P : HexRecord → ℕ → Type 0 = λ s byte. byte_of s address ≡ Some byte in
    let by_a : P a.source first = given_by (records ++ r ∷ []) address first a in
    let by_b : P b.source second = given_by (records ++ r ∷ []) address second b in
    let of_records : (s : HexRecord) (byte : ℕ) → Contains records s → P s byte → byte_given records address ≡ Some byte =
    λ s byte among is. given_of_gives records address byte agreed (gives records s address byte among is) in
    ⊎_elim
    (λ a_before. ⊎_elim
    (λ b_before. agreed address first second (gives records a.source address first a_before by_a) (gives records b.source address second b_before by_b))
    (λ b_last.
    let of_r : P r second = subst (λ s. P s second) (sym (one_of r b.source b_last)) by_b in
    not_other_same (byte_given records address) first second (of_records a.source first a_before by_a) (agrees_at records r address second none of_r))
    (Contains-append_cases records (r ∷ []) b.source b.among))
    (λ a_last.
    let of_r : P r first = subst (λ s. P s first) (sym (one_of r a.source a_last)) by_a in
    ⊎_elim
    (λ b_before. sym (not_other_same (byte_given records address) second first (of_records b.source second b_before by_b) (agrees_at records r address first none of_r)))
    (λ b_last. same_Some _ _ (sym of_r ∙ subst (λ s. P s second) (sym (one_of r b.source b_last)) by_b))
    (Contains-append_cases records (r ∷ []) b.source b.among))
    (Contains-append_cases records (r ∷ []) a.source a.among)

-- Records that agree have none that clashes with those before it.
pub agree_no_clash : (before : List HexRecord) (r : HexRecord) (after : List HexRecord) → Agree (before ++ r ∷ after) → clash_at before r ≡ None
agree_no_clash before r after agreed = ⊎_elim
    (λ is_data. cond-true _ _ _ is_data ∙ same_others before r.address r.payload
    (λ place byte value. same_not_other (byte_given before (r.address + place)) byte
    (λ given some.
    let g : GivesByte before (r.address + place) given = gives_of_given before (r.address + place) given some in
    agreed (r.address + place) given byte
    (gives (before ++ r ∷ after) g.source (r.address + place) given (Contains-append_left before (r ∷ after) g.source g.among) (given_by before (r.address + place) given g))
    (gives (before ++ r ∷ after) r (r.address + place) byte (Contains-append_right before (r ∷ after) r (holds_first r after))
    (by_record r place (r.address + place) byte (eqb-true _ _ is_data) value refl)))))
    (λ other. cond-false _ _ _ other)
    (cases_Bool (r.kind == 0))
