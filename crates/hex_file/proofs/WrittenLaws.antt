-- The written form of an image means the image.
use Rattle.std.proofs.Common.{◌≡◌, ◌≢◌, ℕ, ◌+◌, ◌*◌, ◌/◌, ◌%◌, ◌<◌, ◌≤◌, ◌⊎◌, inl, inr, ⊎_elim, List, [], ◌∷◌, ◌++◌, map, Option, None, Some, IfSome, refl, sym, ◌∙◌, ap, subst, arith}
use Rattle.std.proofs.lemmas.List.Elements.{Contains-append_left, Contains-append_right, Contains-append_cases}
use Rattle.std.specs.List.{AllByRecursion, Contains, flat_map}
use Rattle.std.specs.List.Sorted.{IsStrictlyIncreasing}
use Rattle.hex_file.specs.declared.images.Word.{Word}
use Rattle.hex_file.specs.declared.images.Image.{Image}
use Rattle.hex_file.specs.ImageOf.{GivesByte, Agree, GivesWord, AreBytesAside, IsImageOf}
use Rattle.hex_file.specs.Written.{IsWritable, RisesFrom, word_bytes, written}
use Rattle.hex_file.proofs.GivenByteFacts.{IsFromPayload, IsFromRecords, given_bytes, gives_byte, word_at}
use Rattle.hex_file.proofs.ImageLaws.{held, holds_none, holds_first, holds_later}
use Rattle.hex_file.proofs.OrderFacts.{rising_from}
use Rattle.hex_file.proofs.PieceFacts.{IsPiece, Successive, flat, all_append}
use Rattle.hex_file.proofs.WrittenRecordFacts.{Fits, all_are_pieces, all_flat, all_pieces, all_words, config_words, record_for, records_of, spells_records}

-- The byte is one of a word's, the low one first.
abbrev IsOfWord : Word → ℕ → ℕ → Type 0
IsOfWord w address byte = ((address ≡ 2 * w.address) × (byte ≡ w.word % 256)) ⊎ ((address ≡ 2 * w.address + 1) × (byte ≡ w.word / 256))

-- It is one of some words'.
abbrev IsOfWords : List Word → ℕ → ℕ → Type 0
IsOfWords words address byte = (w : Word) × Contains words w × IsOfWord w address byte

later_word : (w : Word) (ws : List Word) (address byte : ℕ) → IsOfWords ws address byte → IsOfWords (w ∷ ws) address byte
later_word w ws address byte of = (of.0, holds_later w of.0 ws of.1, of.2)

-- The payload of words at successive addresses.

of_payload : (at : ℕ) (ws : List Word) (address byte : ℕ) → Successive at ws
    → IsFromPayload (2 * at) (flat_map (λ w. word_bytes w.word) ws) address byte → IsOfWords ws address byte
of_payload at [] address byte follow from = absurd from
of_payload at (w ∷ ws) address byte follow from = ⊎_elim
    (λ low. (w, holds_first w ws, inl (omega (arith, low.0, follow.0), low.1)))
    (⊎_elim
    (λ high. (w, holds_first w ws, inr (omega (arith, high.0, follow.0), high.1)))
    (λ later.
    let further : 2 * at + 1 + 1 ≡ 2 * (at + 1) = omega arith in
    let rest : IsFromPayload (2 * (at + 1)) (flat_map (λ w. word_bytes w.word) ws) address byte =
    subst (λ a. IsFromPayload a (flat_map (λ w. word_bytes w.word) ws) address byte) further later in
    later_word w ws address byte (of_payload (at + 1) ws address byte follow.1 rest)))
    from

of_records : (pieces : List (List Word)) (address byte : ℕ) → AllByRecursion IsPiece pieces
    → IsFromRecords (map record_for pieces) address byte → IsOfWords (flat pieces) address byte
of_records [] address byte are from = absurd from
of_records ([] ∷ pieces) address byte are from = absurd are.0
of_records ((w ∷ ws) ∷ pieces) address byte are from = ⊎_elim
    (λ here. let of : IsOfWords (w ∷ ws) address byte = of_payload w.address (w ∷ ws) address byte (refl, are.0.0) here.1 in
    (of.0, Contains-append_left (w ∷ ws) (flat pieces) of.0 of.1, of.2))
    (λ later. let of : IsOfWords (flat pieces) address byte = of_records pieces address byte are.1 later in
    (of.0, Contains-append_right (w ∷ ws) (flat pieces) of.0 of.1, of.2))
    from

-- The same the other way round.

to_payload : (at : ℕ) (ws : List Word) (w : Word) (address byte : ℕ) → Successive at ws → Contains ws w → IsOfWord w address byte
    → IsFromPayload (2 * at) (flat_map (λ w. word_bytes w.word) ws) address byte
to_payload at [] w address byte follow among of = absurd (holds_none w among)
to_payload at (v ∷ ws) w address byte follow among of = ⊎_elim
    (λ (e : v ≡ w).
    let own : IsOfWord v address byte = subst (λ w. IsOfWord w address byte) (sym e) of in
    ⊎_elim (λ low. inl (omega (arith, low.0, follow.0), low.1)) (λ high. inr (inl (omega (arith, high.0, follow.0), high.1))) own)
    (λ later.
    let further : 2 * (at + 1) ≡ 2 * at + 1 + 1 = omega arith in
    inr (inr (subst (λ a. IsFromPayload a (flat_map (λ w. word_bytes w.word) ws) address byte) further (to_payload (at + 1) ws w address byte follow.1 later of))))
    (held v w ws among)

to_records : (pieces : List (List Word)) (w : Word) (address byte : ℕ) → AllByRecursion IsPiece pieces → Contains (flat pieces) w → IsOfWord w address byte
    → IsFromRecords (map record_for pieces) address byte
to_records [] w address byte are among of = absurd (holds_none w among)
to_records ([] ∷ pieces) w address byte are among of = absurd are.0
to_records ((v ∷ ws) ∷ pieces) w address byte are among of = ⊎_elim
    (λ here. inl (refl, to_payload v.address (v ∷ ws) w address byte (refl, are.0.0) here of))
    (λ later. inr (to_records pieces w address byte are.1 later of))
    (Contains-append_cases (v ∷ ws) (flat pieces) w among)

-- The addresses rise strictly from `low` on.
abbrev Rising : ℕ → List Word → Type 0
Rising low [] = Unit {0}
Rising low (w ∷ ws) = (low ≤ w.address) × Rising (w.address + 1) ws

above_low : (low : ℕ) (ws : List Word) (w : Word) → Rising low ws → Contains ws w → low ≤ w.address
above_low low [] w rising among = absurd (holds_none w among)
above_low low (v ∷ ws) w rising among = ⊎_elim
    (λ (e : v ≡ w). let same : v.address ≡ w.address = ap (λ (w : Word). w.address) e in omega (arith, rising.0))
    (λ later. omega (arith, rising.0, above_low (v.address + 1) ws w rising.1 later))
    (held v w ws among)

-- No two words stand at one address.
one_at : (low : ℕ) (ws : List Word) (v w : Word) → Rising low ws → Contains ws v → Contains ws w → v.address ≡ w.address → v ≡ w
one_at low [] v w rising a b same = absurd (holds_none v a)
one_at low (u ∷ ws) v w rising a b same = ⊎_elim
    (λ (e : u ≡ v). ⊎_elim
    (λ (f : u ≡ w). sym e ∙ f)
    (λ later. let own : u.address ≡ v.address = ap (λ (w : Word). w.address) e in absurd (omega (arith, above_low (u.address + 1) ws w rising.1 later)))
    (held u w ws b))
    (λ later. ⊎_elim
    (λ (f : u ≡ w). let own : u.address ≡ w.address = ap (λ (w : Word). w.address) f in absurd (omega (arith, above_low (u.address + 1) ws v rising.1 later)))
    (λ also. one_at (u.address + 1) ws v w rising.1 later also same)
    (held u w ws b))
    (held u v ws a)

same_word_byte : (v w : Word) (address first second : ℕ) → v ≡ w → IsOfWord v address first → IsOfWord w address second → first ≡ second
same_word_byte v w address first second e a b =
    let own : IsOfWord w address first = subst (λ w. IsOfWord w address first) e a in
    ⊎_elim
    (λ p. ⊎_elim (λ q. p.1 ∙ sym q.1) (λ q. absurd (omega (arith, p.0, q.0))) b)
    (λ p. ⊎_elim (λ q. absurd (omega (arith, p.0, q.0))) (λ q. p.1 ∙ sym q.1) b)
    own

at_one_address : (v w : Word) (address first second : ℕ) → IsOfWord v address first → IsOfWord w address second → v.address ≡ w.address
at_one_address v w address first second a b = ⊎_elim
    (λ p. ⊎_elim (λ q. omega (arith, p.0, q.0)) (λ q. omega (arith, p.0, q.0)) b)
    (λ p. ⊎_elim (λ q. omega (arith, p.0, q.0)) (λ q. omega (arith, p.0, q.0)) b)
    a

-- What the records of an image give.

of_image : (image : Image) (address byte : ℕ) → GivesByte (records_of image) address byte → IsOfWords (all_words image) address byte
of_image image address byte gives =
    let from : IsFromRecords (map record_for (all_pieces image)) address byte = ⊎_elim (λ here. absurd cc) (λ later. later) (given_bytes (records_of image) address byte gives) in
    subst (λ words. IsOfWords words address byte) (all_flat image) (of_records (all_pieces image) address byte (all_are_pieces image) from)

to_image : (image : Image) (w : Word) (address byte : ℕ) → Contains (all_words image) w → IsOfWord w address byte → GivesByte (records_of image) address byte
to_image image w address byte among of =
    let among_pieces : Contains (flat (all_pieces image)) w = subst (λ words. Contains words w) (sym (all_flat image)) among in
    gives_byte (records_of image) address byte (inr (to_records (all_pieces image) w address byte (all_are_pieces image) among_pieces of))

image_agrees : (image : Image) → Rising 0 (all_words image) → Agree (records_of image)
image_agrees image rising address first second a b =
    let p : IsOfWords (all_words image) address first = of_image image address first a in
    let q : IsOfWords (all_words image) address second = of_image image address second b in
    let same : p.0.address ≡ q.0.address = at_one_address p.0 q.0 address first second p.2 q.2 in
    same_word_byte p.0 q.0 address first second (one_at 0 (all_words image) p.0 q.0 rising p.1 q.1 same) p.2 q.2

fits_among : (ws : List Word) (w : Word) → AllByRecursion Fits ws → Contains ws w → Fits w
fits_among [] w all among = absurd (holds_none w among)
fits_among (v ∷ ws) w all among = ⊎_elim (λ e. subst Fits e all.0) (λ later. fits_among ws w all.1 later) (held v w ws among)

gives_word : (image : Image) (w : Word) → AllByRecursion Fits (all_words image) → Contains (all_words image) w → GivesWord (records_of image) w.address w.word
gives_word image w fit among =
    let low : GivesByte (records_of image) (2 * w.address) (w.word % 256) = to_image image w _ _ among (inl (refl, refl)) in
    let high : GivesByte (records_of image) (2 * w.address + 1) (w.word / 256) = to_image image w _ _ among (inr (refl, refl)) in
    let small : w.word < 0x4000 = (fits_among (all_words image) w fit among).1 in
    record { low = w.word % 256; high = w.word / 256; given = inl (w.word % 256, low); low_byte = inl low; high_byte = inl high; value = omega arith }

address_of : (image : Image) (address word : ℕ) → GivesWord (records_of image) address word → (w : Word) × Contains (all_words image) w × (w.address ≡ address)
address_of image address word gives = ⊎_elim
    (λ g.
    let of : IsOfWords (all_words image) (2 * address) g.0 = of_image image (2 * address) g.0 g.1 in
    (of.0, of.1, ⊎_elim (λ low. omega (arith, low.0)) (λ high. omega (arith, high.0)) of.2))
    (λ g.
    let of : IsOfWords (all_words image) (2 * address + 1) g.0 = of_image image (2 * address + 1) g.0 g.1 in
    (of.0, of.1, ⊎_elim (λ low. omega (arith, low.0)) (λ high. omega (arith, high.0)) of.2))
    gives.given

word_given : (image : Image) (address word : ℕ) → Rising 0 (all_words image) → AllByRecursion Fits (all_words image) → GivesWord (records_of image) address word
    → Contains (all_words image) (record { address = address; word = word })
word_given image address word rising fit gives =
    let w : (w : Word) × Contains (all_words image) w × (w.address ≡ address) = address_of image address word gives in
    let own : GivesWord (records_of image) address w.0.word = subst (λ a. GivesWord (records_of image) a w.0.word) w.2 (gives_word image w.0 fit w.1) in
    let value : word ≡ w.0.word = word_at (records_of image) address w.0.word word (image_agrees image rising) own gives in
    let same : w.0 ≡ record { address = address; word = word } = λ i. record { address = w.2 i; word = sym value i } in
    subst (Contains (all_words image)) same w.1

-- All words of a writable image rise and fit.

config_rises : (low : ℕ) (config : Option ℕ) → low ≤ 0x2007 → Rising low (config_words config)
config_rises low None most = tt
config_rises low (Some word) most = (most, tt)

words_rise : (low : ℕ) (ws : List Word) (config : Option ℕ) → low ≤ 0x2007 → RisesFrom low ws → Rising low (ws ++ config_words config)
words_rise low [] config most rises = config_rises low config most
words_rise low (w ∷ ws) config most rises = (rises.0, words_rise (w.address + 1) ws config (omega (arith, rises.1)) rises.3)

config_fits : (config : Option ℕ) → IfSome config (λ word. word < 0x4000) → AllByRecursion Fits (config_words config)
config_fits None fits = tt
config_fits (Some word) fits = ((omega arith, fits), tt)

words_fit : (low : ℕ) (ws : List Word) → RisesFrom low ws → AllByRecursion Fits ws
words_fit low [] rises = tt
words_fit low (w ∷ ws) rises = ((omega (arith, rises.1), rises.2), words_fit (w.address + 1) ws rises.3)

among_rising : (low : ℕ) (ws : List Word) (w : Word) → RisesFrom low ws → Contains ws w → (low ≤ w.address) × (w.address < 0x2000)
among_rising low [] w rises among = absurd (holds_none w among)
among_rising low (v ∷ ws) w rises among = ⊎_elim
    (λ e. subst (λ (w : Word). (low ≤ w.address) × (w.address < 0x2000)) e (rises.0, rises.1))
    (λ later. let above = among_rising (v.address + 1) ws w rises.3 later in (omega (arith, above.0, rises.0), above.1))
    (held v w ws among)

increasing : (low : ℕ) (ws : List Word) → RisesFrom low ws → IsStrictlyIncreasing (map (λ w. w.address) ws)
increasing low [] rises = λ k below. absurd (omega arith)
increasing low (w ∷ ws) rises =
    rising_from (λ (w : Word). w.address) w ws (λ y later. omega (arith, (among_rising (w.address + 1) ws y rises.3 later).0)) (increasing (w.address + 1) ws rises.3)

-- The configuration word.

among_config : (config : Option ℕ) (w : Word) → Contains (config_words config) w → (w.address ≡ 0x2007) × (config ≡ Some w.word)
among_config None w among = absurd (holds_none w among)
among_config (Some word) w among = ⊎_elim
    (λ e. subst (λ (w : Word). (w.address ≡ 0x2007) × (Some word ≡ Some w.word)) e (refl, refl))
    (λ none. absurd (holds_none w none))
    (held _ w [] among)

config_among : (config : Option ℕ) (word : ℕ) → config ≡ Some word → Contains (config_words config) (record { address = 0x2007; word = word })
config_among config word e = subst (λ config. Contains (config_words config) (record { address = 0x2007; word = word })) (sym e) (holds_first _ [])

-- A program word is one of the image's; the word at 2007h is its configuration word.

below_2000 : (image : Image) (w : Word) → w.address < 0x2000 → Contains (all_words image) w → Contains image.words w
below_2000 image w small among = ⊎_elim
    (λ program. program)
    (λ config. absurd (omega (arith, small, (among_config image.config w config).0)))
    (Contains-append_cases image.words (config_words image.config) w among)

at_2007 : (image : Image) (w : Word) → IsWritable image → w.address ≡ 0x2007 → Contains (all_words image) w → image.config ≡ Some w.word
at_2007 image w writable at among = ⊎_elim
    (λ program. absurd (omega (arith, at, (among_rising 0 image.words w writable.words program).1)))
    (λ config. (among_config image.config w config).1)
    (Contains-append_cases image.words (config_words image.config) w among)

none_aside : (image : Image) (address byte : ℕ) → IsWritable image → 0x4000 ≤ address → address ≢ 0x400E → address ≢ 0x400F
    → ¬ GivesByte (records_of image) address byte
none_aside image address byte writable high no_low no_high gives =
    let of : IsOfWords (all_words image) address byte = of_image image address byte gives in
    let at : (address ≡ 2 * of.0.address) ⊎ (address ≡ 2 * of.0.address + 1) = ⊎_elim (λ low. inl low.0) (λ high. inr high.0) of.2 in
    ⊎_elim
    (λ program. omega (arith, at, high, (among_rising 0 image.words of.0 writable.words program).1))
    (λ config. omega (arith, at, no_low, no_high, (among_config image.config of.0 config).0))
    (Contains-append_cases image.words (config_words image.config) of.0 of.1)

pub written_means_image : (image : Image) → IsWritable image → image.aside ≡ [] → IsImageOf (written image) image
written_means_image image writable no_aside =
    let rising : Rising 0 (all_words image) = words_rise 0 image.words image.config (omega arith) writable.words in
    let fit : AllByRecursion Fits (all_words image) =
    all_append Fits image.words (config_words image.config) (words_fit 0 image.words writable.words) (config_fits image.config writable.config) in
    record {
      records = records_of image;
      spelled = spells_records image fit;
      agreed = image_agrees image rising;
      words = record {
        rising = increasing 0 image.words writable.words;
        exactly = λ address word. (
          λ among.
              ((among_rising 0 image.words _ writable.words among).1, gives_word image _ fit (Contains-append_left image.words (config_words image.config) _ among)),
          λ gives. below_2000 image _ gives.0 (word_given image address word rising fit gives.1),
        );
      };
      config = λ word. (
        λ e. gives_word image _ fit (Contains-append_right image.words (config_words image.config) _ (config_among image.config word e)),
        λ gives. at_2007 image _ writable refl (word_given image 0x2007 word rising fit gives),
      );
      aside = subst (AreBytesAside (records_of image)) (sym no_aside) (record {
        rising = λ k below. absurd (omega arith);
        exactly = λ address byte. (λ among. absurd (holds_none _ among), λ gives. absurd (none_aside image address byte writable gives.0 gives.1 gives.2 gives.3));
      });
    }
