-- The image of a table of bytes is that of the records that gave them.
use Rattle.std.proofs.Common.{◌≡◌, ◌≢◌, ℕ, ◌+◌, ◌*◌, ◌%◌, ◌<◌, ◌≤◌, ◌⊎◌, ◌↔◌, inl, inr, ⊎_elim, true, not, ◌&&◌, ◌==◌, nat_le, List, [], ◌∷◌, ◌++◌, Option, None, Some, option_map, refl, sym, ◌∙◌, ap, subst, slice_index_or, lit<, arith}
use Rattle.std.proofs.lemmas.Bool.{cases_Bool, cond-true, cond-false, and_parts, and_from, eqb-true, eqb-false, ne_eqb, leb-true, le-leb, not-true, not_from_false}
use Rattle.std.proofs.lemmas.List.Elements.{Contains-append_left}
use Rattle.std.proofs.lemmas.Option.{same_Some}
use Rattle.std.specs.List.{All}
use Rattle.std.specs.Option.{option_or, unwrap_or}
use Rattle.std.specs.Str.Lines.{lines}
use Rattle.hex_file.specs.Faults.{byte_of, byte_given, has_end, AreFaultless}
use Rattle.hex_file.specs.ImageOf.{HexRecord, SpellsRecords, GivesByte, Agree, HasByte, GivesWord, AreProgramWords, AreBytesAside, IsImageOf}
use Rattle.hex_file.specs.Tables.{IsTable, word_of, word_at, word_item, aside_at, aside_item, items_below, AreGiven}
use Rattle.hex_file.specs.declared.images.Word.{Word}
use Rattle.hex_file.specs.declared.images.Aside.{Aside}
use Rattle.hex_file.specs.declared.images.Image.{Image}
use Rattle.hex_file.proofs.AgreeFacts.{gives, given_by, gives_of_given, given_of_gives, none_given}
use Rattle.hex_file.proofs.ReadFacts.{end_more, init_of_more, ends_none}
use Rattle.hex_file.proofs.GivenByteFacts.{word_at as one_word}
use Rattle.hex_file.proofs.GivenFacts.{given_more, or_none, byte_of_other}
use Rattle.hex_file.proofs.OrderFacts.{given_below}
use Rattle.hex_file.proofs.TableFacts.{Listed, listed, some_or_none}

module _ (records : List HexRecord) (table : List (Option ℕ)) (is : IsTable records table) (agreed : Agree records) where
  -- The byte at an address.

  byte_at : (address : ℕ) (o : Option ℕ) → address < 0x10000 → slice_index_or table address None ≡ o → HasByte records address (unwrap_or o 0xFF)
  byte_at address None below e = inr (none_given records address (sym (is.at address below) ∙ e), refl)
  byte_at address (Some byte) below e = inl (gives_of_given records address byte (sym (is.at address below) ∙ e))

  given_at : (address byte : ℕ) → address < 0x10000 → slice_index_or table address None ≡ Some byte → GivesByte records address byte
  given_at address byte below e = gives_of_given records address byte (sym (is.at address below) ∙ e)

  at_given : (address byte : ℕ) → address < 0x10000 → GivesByte records address byte → slice_index_or table address None ≡ Some byte
  at_given address byte below g = is.at address below ∙ given_of_gives records address byte agreed g

  -- The word at a word address.

  record Halves (low high : Option ℕ) (word : ℕ) : Type 0 where
    pub some : ((byte : ℕ) × (low ≡ Some byte)) ⊎ ((byte : ℕ) × (high ≡ Some byte))
    pub value : word ≡ (256 * unwrap_or high 0xFF + unwrap_or low 0xFF) % 0x4000

  halves : (low high : Option ℕ) (word : ℕ) → word_of low high ≡ Some word → Halves low high word
  halves None None word e = absurd cc
  halves None (Some high) word e = record { some = inr (high, refl); value = sym (same_Some _ _ e) }
  halves (Some low) None word e = record { some = inl (low, refl); value = sym (same_Some _ _ e) }
  halves (Some low) (Some high) word e = record { some = inl (low, refl); value = sym (same_Some _ _ e) }

  none_of_halves : (low high : Option ℕ) → word_of low high ≡ None → (low ≡ None) × (high ≡ None)
  none_of_halves None None e = (refl, refl)
  none_of_halves None (Some high) e = absurd cc
  none_of_halves (Some low) None e = absurd cc
  none_of_halves (Some low) (Some high) e = absurd cc

  pub gives_word : (address word : ℕ) → address < 0x8000 → word_at table address ≡ Some word → GivesWord records address word
  gives_word address word below e =
      let low = slice_index_or table (2 * address) None in
      let high = slice_index_or table (2 * address + 1) None in
      let parts : Halves low high word = halves low high word e in
      record {
        low = unwrap_or low 0xFF;
        high = unwrap_or high 0xFF;
        given = ⊎_elim
            (λ some. inl (some.0, given_at (2 * address) some.0 (omega arith) some.1))
            (λ some. inr (some.0, given_at (2 * address + 1) some.0 (omega arith) some.1)) parts.some;
        low_byte = byte_at (2 * address) low (omega arith) refl;
        high_byte = byte_at (2 * address + 1) high (omega arith) refl;
        value = parts.value;
      }

  pub word_given : (address word : ℕ) → address < 0x8000 → GivesWord records address word → word_at table address ≡ Some word
  word_given address word below g = ⊎_elim
      (λ some. some.1 ∙ ap Some (one_word records address word some.0 agreed g (gives_word address some.0 below some.1)))
      (λ none.
      let parts = none_of_halves (slice_index_or table (2 * address) None) (slice_index_or table (2 * address + 1) None) none in
      absurd (⊎_elim
      (λ given. let both : None ≡ Some given.0 = sym parts.0 ∙ at_given (2 * address) given.0 (omega arith) given.1 in cc)
      (λ given. let both : None ≡ Some given.0 = sym parts.1 ∙ at_given (2 * address + 1) given.0 (omega arith) given.1 in cc)
      g.given))
      (some_or_none (word_at table address))

  -- The lists.

  word_keyed : (n : ℕ) (w : Word) → word_item table n ≡ Some w → w.address ≡ n
  word_keyed n w e = ⊎_elim
      (λ some. ap (λ (w : Word). w.address) (same_Some _ _ (sym e ∙ ap (option_map (λ word. record { address = n; word = word })) some.1)))
      (λ none. absurd (let both : Some w ≡ None = sym e ∙ ap (option_map (λ word. record { address = n; word = word })) none in cc))
      (some_or_none (word_at table n))

  word_in_item : (n : ℕ) (w : Word) → word_item table n ≡ Some w → word_at table n ≡ Some w.word
  word_in_item n w e = ⊎_elim
      (λ some. some.1 ∙ ap (λ (w : Word). Some w.word) (sym (same_Some _ _ (sym e ∙ ap (option_map (λ word. record { address = n; word = word })) some.1))))
      (λ none. absurd (let both : Some w ≡ None = sym e ∙ ap (option_map (λ word. record { address = n; word = word })) none in cc))
      (some_or_none (word_at table n))

  pub words_are : (words : List Word) → words ≡ items_below (word_item table) 0x2000 → AreProgramWords records words
  words_are words e =
      let all : Listed (λ (w : Word). w.address) (word_item table) word_keyed 0x2000 words =
      subst (Listed (λ (w : Word). w.address) (word_item table) word_keyed 0x2000) (sym e) (listed (λ (w : Word). w.address) (word_item table) word_keyed 0x2000) in
      record {
        rising = all.rising;
        exactly = λ address word. (
          λ among.
              let s = all.sound (record { address = address; word = word }) among in
              (s.0, gives_word address word (omega (arith, s.0)) (word_in_item address (record { address = address; word = word }) s.1)),
          λ gives. all.complete address (record { address = address; word = word }) gives.0
              (ap (option_map (λ word. record { address = address; word = word })) (word_given address word (omega (arith, gives.0)) gives.1)),
        );
      }

  pub config_is : (config : Option ℕ) → config ≡ word_at table 0x2007 → (word : ℕ) → (config ≡ Some word) ↔ GivesWord records 0x2007 word
  config_is config e word = (λ some. gives_word 0x2007 word (lit< tt) (sym e ∙ some), λ gives. e ∙ word_given 0x2007 word (lit< tt) gives)

  aside_keyed : (n : ℕ) (b : Aside) → aside_item table n ≡ Some b → b.address ≡ n
  aside_keyed n b e = ⊎_elim
      (λ some. ap (λ (b : Aside). b.address) (same_Some _ _ (sym e ∙ ap (option_map (λ byte. record { address = n; byte = byte })) some.1)))
      (λ none. absurd (let both : Some b ≡ None = sym e ∙ ap (option_map (λ byte. record { address = n; byte = byte })) none in cc))
      (some_or_none (aside_at table n))

  byte_in_item : (n : ℕ) (b : Aside) → aside_item table n ≡ Some b → aside_at table n ≡ Some b.byte
  byte_in_item n b e = ⊎_elim
      (λ some. some.1 ∙ ap (λ (b : Aside). Some b.byte) (sym (same_Some _ _ (sym e ∙ ap (option_map (λ byte. record { address = n; byte = byte })) some.1))))
      (λ none. absurd (let both : Some b ≡ None = sym e ∙ ap (option_map (λ byte. record { address = n; byte = byte })) none in cc))
      (some_or_none (aside_at table n))

  record IsAside (address byte : ℕ) : Type 0 where
    pub high : 0x4000 ≤ address
    pub not_low : address ≢ 0x400E
    pub not_high : address ≢ 0x400F
    pub byte_is : slice_index_or table address None ≡ Some byte

  is_aside : (address byte : ℕ) → aside_at table address ≡ Some byte → IsAside address byte
  is_aside address byte e = ⊎_elim
      (λ passes.
      let parts = and_parts (nat_le 0x4000 address && not (address == 0x400E)) (not (address == 0x400F)) passes in
      let first = and_parts (nat_le 0x4000 address) (not (address == 0x400E)) parts.0 in
      record {
        high = leb-true _ _ first.0;
        not_low = eqb-false _ _ (not-true _ first.1);
        not_high = eqb-false _ _ (not-true _ parts.1);
        byte_is = sym (cond-true _ _ _ passes) ∙ e;
      })
      (λ fails. absurd (let both : None ≡ Some byte = sym (cond-false _ _ _ fails) ∙ e in cc))
      (cases_Bool (nat_le 0x4000 address && not (address == 0x400E) && not (address == 0x400F)))

  aside_is : (address byte : ℕ) → 0x4000 ≤ address → address ≢ 0x400E → address ≢ 0x400F → slice_index_or table address None ≡ Some byte
      → aside_at table address ≡ Some byte
  aside_is address byte high not_low not_high e =
      cond-true _ _ _ (and_from (nat_le 0x4000 address && not (address == 0x400E)) (not (address == 0x400F))
      (and_from (nat_le 0x4000 address) (not (address == 0x400E)) (le-leb _ _ high) (not_from_false _ (ne_eqb _ _ not_low))) (not_from_false _ (ne_eqb _ _ not_high))) ∙ e

  pub bytes_are : (bytes : List Aside) → ((address byte : ℕ) → GivesByte records address byte → address < 0x10000)
      → bytes ≡ items_below (aside_item table) 0x10000 → AreBytesAside records bytes
  bytes_are bytes in_range e =
      let all : Listed (λ (b : Aside). b.address) (aside_item table) aside_keyed 0x10000 bytes =
      subst (Listed (λ (b : Aside). b.address) (aside_item table) aside_keyed 0x10000) (sym e) (listed (λ (b : Aside). b.address) (aside_item table) aside_keyed 0x10000) in
      record {
        rising = all.rising;
        exactly = λ address byte. (
          λ among.
              let s = all.sound (record { address = address; byte = byte }) among in
              let a : IsAside address byte = is_aside address byte (byte_in_item address (record { address = address; byte = byte }) s.1) in
              (a.high, a.not_low, a.not_high, given_at address byte s.0 a.byte_is),
          λ gives.
              let below : address < 0x10000 = in_range address byte gives.3 in
              all.complete address (record { address = address; byte = byte }) below
              (ap (option_map (λ byte. record { address = address; byte = byte })) (aside_is address byte gives.0 gives.1 gives.2 (at_given address byte below gives.3))),
        );
      }

-- The records of a file and its end record.

record HasLast (all : List HexRecord) : Type 0 where
  prefix : List HexRecord
  last : HexRecord
  split : all ≡ prefix ++ last ∷ []

has_last : (r : HexRecord) (records : List HexRecord) → HasLast (r ∷ records)
has_last r [] = record { prefix = []; last = r; split = refl }
has_last r (s ∷ records) = let rest = has_last s records in record { prefix = r ∷ rest.prefix; last = rest.last; split = ap (λ rs. r ∷ rs) rest.split }

ends_with : (all : List HexRecord) → has_end all ≡ true → HasLast all
ends_with [] e = absurd cc
ends_with (r ∷ records) e = has_last r records

agree_prefix : (prefix : List HexRecord) (last : HexRecord) → Agree (prefix ++ last ∷ []) → Agree prefix
agree_prefix prefix last agreed address first second a b = agreed address first second
    (gives (prefix ++ last ∷ []) a.source address first (Contains-append_left prefix (last ∷ []) a.source a.among) (given_by prefix address first a))
    (gives (prefix ++ last ∷ []) b.source address second (Contains-append_left prefix (last ∷ []) b.source b.among) (given_by prefix address second b))

table_prefix : (prefix : List HexRecord) (last : HexRecord) (table : List (Option ℕ)) → last.kind ≡ 1 → IsTable (prefix ++ last ∷ []) table → IsTable prefix table
table_prefix prefix last table ended is = record {
  size = is.size;
  at = λ address below. is.at address below ∙ given_more prefix last address ∙ ap (option_or (byte_given prefix address)) (no_byte address) ∙ or_none (byte_given prefix address);
}
  where
    no_byte : (address : ℕ) → byte_of last address ≡ None
    no_byte address = byte_of_other last address (λ e. let both : 1 ≡ 0 = sym ended ∙ e in omega arith)

pub image_of_table : (bytes : List ℕ) (table : List (Option ℕ)) (image : Image) → AreGiven bytes table true
    → image.words ≡ items_below (word_item table) 0x2000 → image.config ≡ word_at table 0x2007 → image.aside ≡ items_below (aside_item table) 0x10000
    → IsImageOf bytes image
image_of_table bytes table image given words config aside =
    let all : HasLast given.records = ends_with given.records (sym given.is_end) in
    let faultless : AreFaultless (lines bytes) (all.prefix ++ all.last ∷ []) = subst (AreFaultless (lines bytes)) all.split given.faultless in
    let once : All (λ r. r.kind ≢ 1) all.prefix = subst (All (λ r. r.kind ≢ 1)) (init_of_more all.prefix all.last) faultless.once in
    let ended : all.last.kind ≡ 1 =
    eqb-true _ _ (sym (end_more all.prefix all.last (ends_none all.prefix once)) ∙ ap has_end (sym all.split) ∙ sym given.is_end) in
    let agreed : Agree all.prefix = agree_prefix all.prefix all.last faultless.agreed in
    let is : IsTable all.prefix table = table_prefix all.prefix all.last table ended (subst (λ rs. IsTable rs table) all.split given.given) in
    let spelled : SpellsRecords bytes all.prefix = record { end = all.last; lines = faultless.spelled; ended = ended; once = once } in
    record {
      records = all.prefix;
      spelled = spelled;
      agreed = agreed;
      words = words_are all.prefix table is agreed image.words words;
      config = config_is all.prefix table is agreed image.config config;
      aside = bytes_are all.prefix table is agreed image.aside (λ address byte g. given_below bytes all.prefix address byte spelled g) aside;
    }
