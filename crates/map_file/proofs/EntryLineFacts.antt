-- The line of an entry is a whole line, and tells the entry. So lines in a row tell their entries.
use Rattle.std.proofs.Common.{◌≡◌, ℕ, zero, suc, ◌/◌, ◌%◌, ◌^◌, ◌<◌, ◌≤◌, true, ◌||◌, nat_le, List, [], ◌∷◌, length, Option, Some, None, codes, refl, sym, ap, subst, ◌∙◌, arith}
use Rattle.std.specs.List.{list_all}
use Rattle.std.specs.Map.{lookup}
use Rattle.std.specs.Str.{bytes_eq}
use Rattle.std.specs.Str.Parse.{AllDigits}
use Rattle.std.specs.Fmt.{decimal}
use Rattle.std.proofs.lemmas.Bool.{and_parts, and_from}
use Rattle.std.proofs.lemmas.Bool.Decides.{nat_tests}
use Rattle.std.proofs.lemmas.Fmt.{decimal_is_IsNumeral, decimal_injective}
use Rattle.std.proofs.lemmas.Str.Parse.{digit_from_value}
use Rattle.text_parts.specs.Bytes.{is_letter, is_digit}
use Rattle.text_parts.specs.Digits.{hex_digit, hex3, hex4}
use Rattle.text_parts.specs.Names.{has_form_of_name, is_name}
use Rattle.frp_tree.specs.Names.{type_name}
use Rattle.frp_tree.specs.declared.syntax.Ty.{Ty}
use Rattle.frp_tree.specs.declared.syntax.Ty.TheVariants as ty
use Rattle.pic_isa.specs.declared.sources.Source.{Source}
use Rattle.pic_isa.specs.declared.sources.Source.TheVariants as source
use Rattle.pic_isa.specs.Sources.{source_name}
use Rattle.pic_isa.specs.Names.{name_of_port}
use Rattle.pic_isa.proofs.UniqueNameLaws.{one_source, one_port}
use Rattle.map_file.specs.declared.maps.MapEvent.{MapEvent}
use Rattle.map_file.specs.declared.maps.MapState.{MapState}
use Rattle.map_file.specs.declared.maps.MapSample.{MapSample}
use Rattle.map_file.specs.declared.maps.Range.{Range}
use Rattle.map_file.specs.declared.entries.Report.{Report as Reports}
use Rattle.map_file.specs.declared.entries.Entry.{Entry}
use Rattle.map_file.specs.declared.entries.Entry.TheVariants as entry
use Rattle.map_file.specs.MapRules.{IsEvent, IsState, AddressesFit}
use Rattle.map_file.specs.MapText.{addresses}
use Rattle.map_file.specs.MapFaults.{IsWholeLine}
use Rattle.map_file.specs.Entries.{event_fields, state_fields, sample_fields, range_field, report_fields, fields_of, line_of, IsEntry, IsRange, IsReport, IsSampleLine}
use Rattle.map_file.proofs.FieldCutFacts.{is_visible, AllVisible, line_whole}

-- Each byte of a field is above the space.

name_byte : (b : ℕ) → (is_letter b || is_digit b) ≡ true → is_visible b ≡ true
name_byte b h = grind (arith, nat_tests)

name_rest : (bs : List ℕ) → list_all (λ b. is_letter b || is_digit b) bs ≡ true → list_all is_visible bs ≡ true
name_rest [] h = refl
name_rest (b ∷ bs) h = let (first, rest) = and_parts (is_letter b || is_digit b) (list_all (λ c. is_letter c || is_digit c) bs) h in and_from (is_visible b) (list_all is_visible bs) (name_byte b first) (name_rest bs rest)

name_form : (bs : List ℕ) → has_form_of_name bs ≡ true → list_all is_visible bs ≡ true
name_form [] h = refl
name_form (b ∷ bs) h =
    let (first, rest) = and_parts (is_letter b) (list_all (λ c. is_letter c || is_digit c) bs) h in
    and_from (is_visible b) (list_all is_visible bs) (letter b first) (name_rest bs rest)
  where
    letter : (c : ℕ) → is_letter c ≡ true → is_visible c ≡ true
    letter c k = grind (arith, nat_tests)

name_visible : (bs : List ℕ) → is_name bs ≡ true → list_all is_visible bs ≡ true
name_visible bs h = name_form bs (and_parts (has_form_of_name bs) (nat_le (length bs) 31) h).0

source_visible : (s : Source) → list_all is_visible (source_name s) ≡ true
source_visible source.T0 = refl
source_visible _ = refl

port_visible : (p : ℕ) → list_all is_visible (name_of_port p) ≡ true
port_visible zero = refl
port_visible (suc zero) = refl
port_visible (suc (suc zero)) = refl
port_visible (suc (suc (suc zero))) = refl
port_visible (suc (suc (suc (suc p)))) = refl

type_visible : (t : Ty) → list_all is_visible (type_name t) ≡ true
type_visible ty.Bool = refl
type_visible ty.U8 = refl
type_visible ty.U16 = refl

digits_visible : (ds : List ℕ) → AllDigits 10 ds → list_all is_visible ds ≡ true
digits_visible [] h = refl
digits_visible (d ∷ ds) h = and_from (is_visible d) (list_all is_visible ds) (digit d (digit_from_value d h.0).0) (digits_visible ds h.1)
  where
    digit : (c : ℕ) → 48 ≤ c → is_visible c ≡ true
    digit c k = grind (arith, nat_tests)

decimal_visible : (n : ℕ) → n < 2 ^ 64 → list_all is_visible (decimal n) ≡ true
decimal_visible n small = digits_visible (decimal n) (decimal_is_IsNumeral n small).0.1

hex_visible : (d : ℕ) → is_visible (hex_digit d) ≡ true
hex_visible d = grind (arith, nat_tests)

hex3_visible : (n : ℕ) → list_all is_visible (hex3 n) ≡ true
hex3_visible n = rw (hex_visible (n / 256), hex_visible (n / 16 % 16), hex_visible (n % 16))

hex4_visible : (n : ℕ) → list_all is_visible (hex4 n) ≡ true
hex4_visible n = rw (hex_visible (n / 4096), hex_visible (n / 256 % 16), hex_visible (n / 16 % 16), hex_visible (n % 16))

range_visible : (r : Range) → list_all is_visible (range_field r) ≡ true
range_visible r = rw (hex_visible (r.from / 256), hex_visible (r.from / 16 % 16), hex_visible (r.from % 16), hex_visible (r.to / 256), hex_visible (r.to / 16 % 16), hex_visible (r.to % 16))

addresses_visible : (t : Ty) (low high : ℕ) → AllVisible (addresses t low high)
addresses_visible ty.Bool low high = (hex3_visible low, tt)
addresses_visible ty.U8 low high = (hex3_visible low, tt)
addresses_visible ty.U16 low high = (hex3_visible low, (hex3_visible high, tt))

pub fields_visible : (e : Entry) → IsEntry e → AllVisible (fields_of e)
fields_visible entry.Head h = (refl, (refl, (refl, tt)))
fields_visible (entry.Event e) h =
    (refl, (name_visible e.name h.name, (source_visible e.source, (decimal_visible e.priority (omega (arith, h.priority.1)), (refl, (hex4_visible e.«open», (refl, (hex4_visible e.commit, tt))))))))
fields_visible (entry.State s) h = (refl, (name_visible s.name h.name, (type_visible s.ty, addresses_visible s.ty s.low s.high)))
fields_visible (entry.Output port) h = (refl, (port_visible port, tt))
fields_visible (entry.Sample s) h = (refl, (name_visible s.event h.event, (name_visible s.input h.input, (hex4_visible s.at, tt))))
fields_visible (entry.Ready address) h = (refl, (hex4_visible address, tt))
fields_visible (entry.Regs r) h = (refl, (range_visible r, tt))
fields_visible (entry.Report r) h = (
  refl,
  (refl, (decimal_visible r.depth (omega (arith, h.depth)), (refl, (decimal_visible r.ram (omega (arith, h.ram)), (refl, (decimal_visible r.words (omega (arith, h.words)), (refl, (decimal_visible r.settle (omega (arith, h.settle)), tt)))))))),
)

pub entry_whole : (e : Entry) → IsEntry e → IsWholeLine (line_of e)
entry_whole e h = line_whole (fields_of e) (fields_visible e h)

-- The fields of an entry tell the entry.

abbrev kinds : List (List ℕ × ℕ)
kinds = (codes "efrp", 0) ∷ (codes "event", 1) ∷ (codes "state", 2) ∷ (codes "output", 3) ∷ (codes "sample", 4) ∷ (codes "ready", 5) ∷ (codes "regs", 6) ∷ (codes "report", 7) ∷ []

abbrev kind_in : List (List ℕ) → Option ℕ
kind_in [] = None
kind_in (word ∷ fields) = lookup (bytes_eq word) kinds

abbrev kind_of : Entry → ℕ
kind_of entry.Head = 0
kind_of (entry.Event e) = 1
kind_of (entry.State s) = 2
kind_of (entry.Output port) = 3
kind_of (entry.Sample s) = 4
kind_of (entry.Ready address) = 5
kind_of (entry.Regs r) = 6
kind_of (entry.Report r) = 7

kind_told : (e : Entry) → kind_in (fields_of e) ≡ Some (kind_of e)
kind_told entry.Head = refl
kind_told (entry.Event e) = refl
kind_told (entry.State s) = refl
kind_told (entry.Output port) = refl
kind_told (entry.Sample s) = refl
kind_told (entry.Ready address) = refl
kind_told (entry.Regs r) = refl
kind_told (entry.Report r) = refl

one_kind : (e d : Entry) → fields_of e ≡ fields_of d → kind_of e ≡ kind_of d
one_kind e d h = let found : Some (kind_of e) ≡ Some (kind_of d) = sym (kind_told e) ∙ ap kind_in h ∙ kind_told d in cc found

one_digit : (a b : ℕ) → a < 16 → b < 16 → hex_digit a ≡ hex_digit b → a ≡ b
one_digit a b h k e = grind (arith, nat_tests)

one_hex3 : (a b : ℕ) → a < 0x200 → b < 0x200 → hex3 a ≡ hex3 b → a ≡ b
one_hex3 a b h k e =
    let first : a / 256 ≡ b / 256 = one_digit (a / 256) (b / 256) (omega arith) (omega arith) (cc) in
    let second : a / 16 % 16 ≡ b / 16 % 16 = one_digit (a / 16 % 16) (b / 16 % 16) (omega arith) (omega arith) (cc) in
    let third : a % 16 ≡ b % 16 = one_digit (a % 16) (b % 16) (omega arith) (omega arith) (cc) in
    omega arith

one_hex4 : (a b : ℕ) → a < 0x2000 → b < 0x2000 → hex4 a ≡ hex4 b → a ≡ b
one_hex4 a b h k e =
    let first : a / 4096 ≡ b / 4096 = one_digit (a / 4096) (b / 4096) (omega arith) (omega arith) (cc) in
    let second : a / 256 % 16 ≡ b / 256 % 16 = one_digit (a / 256 % 16) (b / 256 % 16) (omega arith) (omega arith) (cc) in
    let third : a / 16 % 16 ≡ b / 16 % 16 = one_digit (a / 16 % 16) (b / 16 % 16) (omega arith) (omega arith) (cc) in
    let fourth : a % 16 ≡ b % 16 = one_digit (a % 16) (b % 16) (omega arith) (omega arith) (cc) in
    omega arith

one_event : (e d : MapEvent) → IsEvent e → IsEvent d → event_fields e ≡ event_fields d → e ≡ d
one_event e d h k q =
    let name : e.name ≡ d.name = cc in
    let source = one_source e.source d.source (cc) in
    let priority = decimal_injective e.priority d.priority (omega (arith, h.priority.1)) (omega (arith, k.priority.1)) (cc) in
    let opens = one_hex4 e.«open» d.«open» h.opens k.opens (cc) in
    let commits = one_hex4 e.commit d.commit h.commits k.commits (cc) in
    λ i. record { name = name i; source = source i; priority = priority i; «open» = opens i; commit = commits i }

abbrev types : List (List ℕ × Ty)
types = (codes "bool", ty.Bool) ∷ (codes "u8", ty.U8) ∷ (codes "u16", ty.U16) ∷ []

type_called_back : (t : Ty) → lookup (bytes_eq (type_name t)) types ≡ Some t
type_called_back ty.Bool = refl
type_called_back ty.U8 = refl
type_called_back ty.U16 = refl

one_type : (t u : Ty) → type_name t ≡ type_name u → t ≡ u
one_type t u e = let found : Some t ≡ Some u = sym (type_called_back t) ∙ ap (λ name. lookup (bytes_eq name) types) e ∙ type_called_back u in cc found

one_place : (t : Ty) (low high low' high' : ℕ) → AddressesFit t low high → AddressesFit t low' high' → addresses t low high ≡ addresses t low' high' → (low ≡ low') × (high ≡ high')
one_place ty.Bool low high low' high' h k e = let same = one_hex3 low low' h.0 k.0 (cc) in (same, h.1 ∙ same ∙ sym k.1)
one_place ty.U8 low high low' high' h k e = let same = one_hex3 low low' h.0 k.0 (cc) in (same, h.1 ∙ same ∙ sym k.1)
one_place ty.U16 low high low' high' h k e =
    let lows : hex3 low ≡ hex3 low' = cc in
    let highs : hex3 high ≡ hex3 high' = cc in
    (one_hex3 low low' h.0 k.0 lows, one_hex3 high high' h.1 k.1 highs)

one_state : (s t : MapState) → IsState s → IsState t → state_fields s ≡ state_fields t → s ≡ t
one_state s t h k q =
    let name : s.name ≡ t.name = cc in
    let ty' = one_type s.ty t.ty (cc) in
    let places : addresses s.ty s.low s.high ≡ addresses t.ty t.low t.high = cc in
    let fits = subst (λ u. AddressesFit u t.low t.high) (sym ty') k.addresses in
    let same = one_place s.ty s.low s.high t.low t.high h.addresses fits (places ∙ ap (λ u. addresses u t.low t.high) (sym ty')) in
    λ i. record { name = name i; ty = ty' i; low = same.0 i; high = same.1 i }

one_sample : (s t : MapSample) → IsSampleLine s → IsSampleLine t → sample_fields s ≡ sample_fields t → s ≡ t
one_sample s t h k e =
    let event : s.event ≡ t.event = cc in
    let input : s.input ≡ t.input = cc in
    let at = one_hex4 s.at t.at h.at k.at (cc) in
    λ i. record { event = event i; input = input i; at = at i }

one_range : (r s : Range) → IsRange r → IsRange s → range_field r ≡ range_field s → r ≡ s
one_range r s h k e =
    let from : hex3 r.from ≡ hex3 s.from = cc in
    let to : hex3 r.to ≡ hex3 s.to = cc in
    let first = one_hex3 r.from s.from (omega (arith, h)) (omega (arith, k)) from in
    let last = one_hex3 r.to s.to h.1 k.1 to in
    λ i. record { from = first i; to = last i }

one_report : (r s : Reports) → IsReport r → IsReport s → report_fields r ≡ report_fields s → r ≡ s
one_report r s h k e =
    let depth = decimal_injective r.depth s.depth (omega (arith, h.depth)) (omega (arith, k.depth)) (cc) in
    let ram = decimal_injective r.ram s.ram (omega (arith, h.ram)) (omega (arith, k.ram)) (cc) in
    let words = decimal_injective r.words s.words (omega (arith, h.words)) (omega (arith, k.words)) (cc) in
    let settle = decimal_injective r.settle s.settle (omega (arith, h.settle)) (omega (arith, k.settle)) (cc) in
    λ i. record { depth = depth i; ram = ram i; words = words i; settle = settle i }

after_word : (word word' : List ℕ) (fields fields' : List (List ℕ)) → word ∷ fields ≡ word' ∷ fields' → fields ≡ fields'
after_word word word' fields fields' e = cc

one_kinded : (e d : Entry) → kind_of e ≡ kind_of d → IsEntry e → IsEntry d → fields_of e ≡ fields_of d → e ≡ d
one_kinded entry.Head entry.Head k h w q = refl
one_kinded (entry.Event e) (entry.Event d) k h w q = ap entry.Event (one_event e d h w (after_word _ _ _ _ q))
one_kinded (entry.State s) (entry.State t) k h w q = ap entry.State (one_state s t h w (after_word _ _ _ _ q))
one_kinded (entry.Output p) (entry.Output r) k h w q = let name : name_of_port p ≡ name_of_port r = cc in ap entry.Output (one_port p r h w name)
one_kinded (entry.Sample s) (entry.Sample t) k h w q = ap entry.Sample (one_sample s t h w (after_word _ _ _ _ q))
one_kinded (entry.Ready a) (entry.Ready b) k h w q = let field : hex4 a ≡ hex4 b = cc in ap entry.Ready (one_hex4 a b h w field)
one_kinded (entry.Regs r) (entry.Regs s) k h w q = let field : range_field r ≡ range_field s = cc in ap entry.Regs (one_range r s h w field)
one_kinded (entry.Report r) (entry.Report s) k h w q = ap entry.Report (one_report r s h w (after_word _ _ _ _ q))
one_kinded e d k h w q = absurd (omega arith)

pub one_entry : (e d : Entry) → IsEntry e → IsEntry d → fields_of e ≡ fields_of d → e ≡ d
one_entry e d h w q = one_kinded e d (one_kind e d q) h w q
