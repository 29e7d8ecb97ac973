-- What a file of unusual records says.
use Rattle.std.proofs.Common.{◌≡◌, ◌≢◌, ℕ, zero, suc, ◌+◌, ◌*◌, ◌<◌, ◌≤◌, ◌⊎◌, inl, inr, ⊎_elim, List, [], ◌∷◌, Some, refl, sym, ap, subst, codes, slice_index_or, lit<, lit≤, arith}
use Rattle.std.proofs.lemmas.Bool.{cases_lt}
use Rattle.std.proofs.lemmas.Option.{same_Some}
use Rattle.std.specs.List.{Contains}
use Rattle.hex_file.specs.declared.images.Word.{Word}
use Rattle.hex_file.specs.declared.images.Aside.{Aside}
use Rattle.hex_file.specs.declared.images.Image.{Image}
use Rattle.hex_file.specs.ImageOf.{HexRecord, GivesByte, IsGiven, Agree, GivesWord, AreProgramWords, AreBytesAside, IsImageOf}
use Rattle.hex_file.proofs.GivenByteFacts.{given_bytes, gives_byte, word_at}
use Rattle.hex_file.proofs.ImageLaws.{held, holds_none}
use Rattle.hex_file.proofs.LineFacts.{bytes_from, bytes_allowed, record_line}

-- Records in no order. They give one byte of the words at 2 and 2007h, bits above the 14 of the word at 0, the byte
-- at 5 twice, a byte aside, and a start address, which says nothing. The end record has an address.

abbrev start : HexRecord
start = record { address = 0; kind = 3; payload = 0 ∷ 0 ∷ 0x12 ∷ 0x34 ∷ [] }

abbrev Mixed : List HexRecord
Mixed = (bytes_from 0x400F (0x3F ∷ [])) ∷ (bytes_from 0x4000 (0x5A ∷ [])) ∷ start ∷ (bytes_from 5 (0x28 ∷ [])) ∷ (bytes_from 5 (0x28 ∷ []))
    ∷ (bytes_from 0 (0x0C ∷ 0xF0 ∷ [])) ∷ []

abbrev mixed_end : HexRecord
mixed_end = record { address = 0x1234; kind = 1; payload = [] }

abbrev mixed_image : Image
mixed_image = record {
  words = record { address = 0; word = 0x300C } ∷ record { address = 2; word = 0x28FF } ∷ [];
  config = Some 0x3FFF;
  aside = record { address = 0x4000; byte = 0x5A } ∷ [];
}

abbrev IsMixedByte : ℕ → ℕ → Type 0
IsMixedByte address byte = (((address ≡ 0) × (byte ≡ 0x0C)) ⊎ ((address ≡ 1) × (byte ≡ 0xF0)))
    ⊎ (((address ≡ 5) × (byte ≡ 0x28)) ⊎ (((address ≡ 0x4000) × (byte ≡ 0x5A)) ⊎ ((address ≡ 0x400F) × (byte ≡ 0x3F))))

mixed_byte : (address byte : ℕ) → GivesByte Mixed address byte → IsMixedByte address byte
mixed_byte address byte gives = ⊎_elim
    (λ r. ⊎_elim (λ p. inr (inr (inr p))) (λ none. absurd none) r.1)
    (⊎_elim (λ r. ⊎_elim (λ p. inr (inr (inl p))) (λ none. absurd none) r.1)
    (⊎_elim (λ r. absurd cc)
    (⊎_elim (λ r. ⊎_elim (λ p. inr (inl p)) (λ none. absurd none) r.1)
    (⊎_elim (λ r. ⊎_elim (λ p. inr (inl p)) (λ none. absurd none) r.1)
    (⊎_elim (λ r. inl (⊎_elim (λ p. inl p) (⊎_elim (λ p. inr p) (λ none. absurd none)) r.1)) (λ none. absurd none))))))
    (given_bytes Mixed address byte gives)

mixed_agreed : Agree Mixed
mixed_agreed address first second a b = let p = mixed_byte address first a in let q = mixed_byte address second b in omega arith

at_0 : GivesByte Mixed 0 0x0C
at_0 = gives_byte Mixed 0 0x0C (inr (inr (inr (inr (inr (inl (refl, inl (refl, refl))))))))

at_1 : GivesByte Mixed 1 0xF0
at_1 = gives_byte Mixed 1 0xF0 (inr (inr (inr (inr (inr (inl (refl, inr (inl (refl, refl)))))))))

at_5 : GivesByte Mixed 5 0x28
at_5 = gives_byte Mixed 5 0x28 (inr (inr (inr (inl (refl, inl (refl, refl))))))

at_0x4000 : GivesByte Mixed 0x4000 0x5A
at_0x4000 = gives_byte Mixed 0x4000 0x5A (inr (inl (refl, inl (refl, refl))))

at_0x400F : GivesByte Mixed 0x400F 0x3F
at_0x400F = gives_byte Mixed 0x400F 0x3F (inl (refl, inl (refl, refl)))

none_at_4 : ¬ IsGiven Mixed 4
none_at_4 g = let p = mixed_byte 4 g.0 g.1 in absurd (omega arith)

none_at_0x400E : ¬ IsGiven Mixed 0x400E
none_at_0x400E g = let p = mixed_byte 0x400E g.0 g.1 in absurd (omega arith)

mixed_word_0 : GivesWord Mixed 0 0x300C
mixed_word_0 = record { low = 0x0C; high = 0xF0; given = inl (0x0C, at_0); low_byte = inl at_0; high_byte = inl at_1; value = refl }

mixed_word_2 : GivesWord Mixed 2 0x28FF
mixed_word_2 = record { low = 0xFF; high = 0x28; given = inr (0x28, at_5); low_byte = inr (none_at_4, refl); high_byte = inl at_5; value = refl }

mixed_config : GivesWord Mixed 0x2007 0x3FFF
mixed_config = record {
  low = 0xFF;
  high = 0x3F;
  given = inr (0x3F, at_0x400F);
  low_byte = inr (none_at_0x400E, refl);
  high_byte = inl at_0x400F;
  value = refl;
}

only_word_0_or_2 : (address value : ℕ) → address < 0x2000 → GivesWord Mixed address value → Contains mixed_image.words (record { address = address; word = value })
only_word_0_or_2 address value small gives = ⊎_elim
    (λ below.
    let zero : address ≡ 0 = omega arith in
    let word : value ≡ 0x300C = word_at Mixed 0 _ _ mixed_agreed mixed_word_0 (subst (λ a. GivesWord Mixed a value) zero gives) in
    (0, lit< tt, cc))
    (λ above.
    let two : address ≡ 2 = ⊎_elim
    (λ g. let p = mixed_byte (2 * address) g.0 g.1 in omega arith)
    (λ g. let p = mixed_byte (2 * address + 1) g.0 g.1 in omega arith) gives.given in
    let word : value ≡ 0x28FF = word_at Mixed 2 _ _ mixed_agreed mixed_word_2 (subst (λ a. GivesWord Mixed a value) two gives) in
    (1, lit< tt, cc))
    (cases_lt address 1)

mixed_words : AreProgramWords Mixed mixed_image.words
mixed_words = record {
  rising = λ k below. let first : k ≡ 0 = omega (arith, below) in rw first (lit< tt);
  exactly = λ address value. (
    λ among.
        let P : Word → Type 0 = λ w. (w.address < 0x2000) × GivesWord Mixed w.address w.word in
        ⊎_elim (λ e. subst P e (lit< tt, mixed_word_0))
        (λ later. ⊎_elim (λ e. subst P e (lit< tt, mixed_word_2)) (λ none. absurd (holds_none _ none)) (held _ _ [] later))
        (held _ _ (record { address = 2; word = 0x28FF } ∷ []) among),
    λ gives. only_word_0_or_2 address value gives.0 gives.1,
  );
}

mixed_aside : AreBytesAside Mixed mixed_image.aside
mixed_aside = record {
  rising = λ k below. absurd (omega (arith, below));
  exactly = λ address byte. (
    λ among.
        let P : Aside → Type 0 = λ b. (0x4000 ≤ b.address) × (b.address ≢ 0x400E) × (b.address ≢ 0x400F) × GivesByte Mixed b.address b.byte in
        ⊎_elim (λ e. subst P e (lit≤ tt, (λ e. omega (arith, e)), (λ e. omega (arith, e)), at_0x4000)) (λ none. absurd (holds_none _ none)) (held _ _ [] among),
    λ gives.
        let p = mixed_byte address byte gives.3 in
        let address_is : address ≡ 0x4000 = omega (arith, gives.0, gives.1, gives.2) in
        let byte_is : byte ≡ 0x5A = omega (arith, gives.0, gives.1, gives.2) in
        (0, lit< tt, cc),
  );
}

mixed_not_ended : (index : ℕ) (r : HexRecord) → index < 6 → (slice_index_or Mixed index r).kind ≢ 1
mixed_not_ended zero r below e = cc
mixed_not_ended (suc zero) r below e = cc
mixed_not_ended (suc (suc zero)) r below e = cc
mixed_not_ended (suc (suc (suc zero))) r below e = cc
mixed_not_ended (suc (suc (suc (suc zero)))) r below e = cc
mixed_not_ended (suc (suc (suc (suc (suc zero))))) r below e = cc
mixed_not_ended (suc (suc (suc (suc (suc (suc index)))))) r below e = absurd (omega arith)

mixed_records : IsImageOf
    (codes ":01400F003F71\r\n:014000005a65\n:0400000300001234B3\n:0100050028D2\n:0100050028d2\n:020000000CF002\n:00123401B9") mixed_image
mixed_records = record {
  records = Mixed;
  spelled = record {
    end = mixed_end;
    lines = (
      record_line _ (bytes_from 0x400F (0x3F ∷ [])) 0x71 refl refl refl (bytes_allowed 0x400F _ (lit≤ tt)),
      (
        record_line _ (bytes_from 0x4000 (0x5A ∷ [])) 0x65 refl refl refl (bytes_allowed 0x4000 _ (lit≤ tt)),
        (
          record_line _ start 0xB3 refl refl refl (record { known = lit≤ tt; in_range = λ e. cc; end_empty = λ e. cc; upper_zero = ⊎_elim (λ e. cc) (λ e. cc) }),
          (
            record_line _ (bytes_from 5 (0x28 ∷ [])) 0xD2 refl refl refl (bytes_allowed 5 _ (lit≤ tt)),
            (
              record_line _ (bytes_from 5 (0x28 ∷ [])) 0xD2 refl refl refl (bytes_allowed 5 _ (lit≤ tt)),
              (
                record_line _ (bytes_from 0 (0x0C ∷ 0xF0 ∷ [])) 0x02 refl refl refl (bytes_allowed 0 _ (lit≤ tt)),
                (
                  record_line _ mixed_end 0xB9 refl refl refl
                      (record { known = lit≤ tt; in_range = λ e. cc; end_empty = λ e. refl; upper_zero = ⊎_elim (λ e. cc) (λ e. cc) }),
                  tt,
                ),
              ),
            ),
          ),
        ),
      ),
    );
    ended = refl;
    once = mixed_not_ended;
  };
  agreed = mixed_agreed;
  words = mixed_words;
  config = λ value. (
    λ e. subst (GivesWord Mixed 0x2007) (same_Some _ _ e) mixed_config,
    λ gives. ap Some (sym (word_at Mixed 0x2007 _ _ mixed_agreed mixed_config gives)),
  );
  aside = mixed_aside;
}
