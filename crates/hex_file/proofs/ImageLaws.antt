-- A file has one image at most.
use Rattle.std.proofs.Common.{◌≡◌, ℕ, zero, suc, ◌+◌, ◌<◌, ◌⊎◌, inl, inr, ⊎_elim, List, [], ◌∷◌, ◌++◌, length, map, Option, None, Some, refl, sym, ap, subst, slice_index_or, arith}
use Rattle.std.specs.List.{Contains}
use Rattle.std.specs.List.Sorted.{IsStrictlyIncreasing}
use Rattle.hex_file.specs.declared.images.Word.{Word}
use Rattle.hex_file.specs.declared.images.Aside.{Aside}
use Rattle.hex_file.specs.declared.images.Image.{Image}
use Rattle.hex_file.specs.ImageOf.{HexRecord, nonempty_lines, GivesWord, AreProgramWords, AreBytesAside, IsImageOf}
use Rattle.hex_file.proofs.LineFacts.{records_of_lines, records_before_end}

-- Two lists that rise by the same key and hold the same are the same.

pub holds_none : {X : Type 0} (x : X) → ¬ Contains [] x
holds_none x among = let below : among.0 < 0 = among.1 in absurd (omega arith)

pub holds_first : {X : Type 0} (x : X) (xs : List X) → Contains (x ∷ xs) x
holds_first x xs = (0, omega arith, refl)

pub holds_later : {X : Type 0} (x y : X) (xs : List X) → Contains xs y → Contains (x ∷ xs) y
holds_later x y xs among = (suc among.0, let below : among.0 < length xs = among.1 in omega arith, among.2)

held_at : {X : Type 0} (x y : X) (xs : List X) (k : ℕ) → k < length (x ∷ xs) → slice_index_or (x ∷ xs) k y ≡ y → (x ≡ y) ⊎ Contains xs y
held_at x y xs zero below e = inl e
held_at x y xs (suc k) below e = inr (k, omega arith, e)

pub held : {X : Type 0} (x y : X) (xs : List X) → Contains (x ∷ xs) y → (x ≡ y) ⊎ Contains xs y
held x y xs among = held_at x y xs among.0 among.1 among.2

pub rising_rest : (k : ℕ) (ks : List ℕ) → IsStrictlyIncreasing (k ∷ ks) → IsStrictlyIncreasing ks
rising_rest k ks rising i below =
    let next : suc i + 1 ≡ suc (i + 1) = omega arith in
    let rises = rising (suc i) (omega arith) in rw next at rises

first_least : {X : Type 0} (key : X → ℕ) (x y : X) (xs : List X) → IsStrictlyIncreasing (map key (x ∷ xs)) → Contains xs y → key x < key y
first_least key x y [] rising among = absurd (holds_none y among)
first_least key x y (z ∷ xs) rising among =
    let next : key x < key z = rising 0 (omega arith) in
    ⊎_elim
    (λ (e : z ≡ y). let same : key z ≡ key y = ap key e in omega arith)
    (λ later. let more : key z < key y = first_least key z y xs (rising_rest (key x) (map key (z ∷ xs)) rising) later in omega arith)
    (held z y xs among)

same_rising : {X : Type 0} (key : X → ℕ) (xs ys : List X) → IsStrictlyIncreasing (map key xs) → IsStrictlyIncreasing (map key ys)
    → ((v : X) → Contains xs v → Contains ys v) → ((v : X) → Contains ys v → Contains xs v) → xs ≡ ys
same_rising key [] [] r s to from = refl
same_rising key [] (y ∷ ys) r s to from = absurd (holds_none y (from y (holds_first y ys)))
same_rising key (x ∷ xs) [] r s to from = absurd (holds_none x (to x (holds_first x xs)))
same_rising {X} key (x ∷ xs) (y ∷ ys) r s to from =
    let first : x ≡ y = ⊎_elim
    (λ e. sym e)
    (λ in_ys. ⊎_elim (λ e. e)
    (λ in_xs.
    let below : key y < key x = first_least key y x ys s in_ys in
    let above : key x < key y = first_least key x y xs r in_xs in absurd (omega arith))
    (held x y xs (from y (holds_first y ys))))
    (held y x ys (to x (holds_first x xs))) in
    let keys : key x ≡ key y = ap key first in
    let rest : xs ≡ ys = same_rising key xs ys (rising_rest (key x) (map key xs) r) (rising_rest (key y) (map key ys) s)
    (λ v in_xs. ⊎_elim
    (λ (e : y ≡ v). let below : key x < key v = first_least key x v xs r in_xs in let same : key y ≡ key v = ap key e in absurd (omega arith))
    (λ later. later) (held y v ys (to v (holds_later x v xs in_xs))))
    (λ v in_ys. ⊎_elim
    (λ (e : x ≡ v). let below : key y < key v = first_least key y v ys s in_ys in let same : key x ≡ key v = ap key e in absurd (omega arith))
    (λ later. later) (held x v xs (from v (holds_later y v ys in_ys)))) in
    cc

same_option : (a b : Option ℕ) → ((x : ℕ) → a ≡ Some x → b ≡ Some x) → ((x : ℕ) → b ≡ Some x → a ≡ Some x) → a ≡ b
same_option None None to from = refl
same_option None (Some y) to from = from y refl
same_option (Some x) b to from = sym (to x refl)

same_words : (records : List HexRecord) (a b : List Word) → AreProgramWords records a → AreProgramWords records b → a ≡ b
same_words records a b is also = same_rising (λ w. w.address) a b is.rising also.rising
    (λ v among. (also.exactly v.address v.word).1 ((is.exactly v.address v.word).0 among))
    (λ v among. (is.exactly v.address v.word).1 ((also.exactly v.address v.word).0 among))

same_aside : (records : List HexRecord) (a b : List Aside) → AreBytesAside records a → AreBytesAside records b → a ≡ b
same_aside records a b is also = same_rising (λ b. b.address) a b is.rising also.rising
    (λ v among. (also.exactly v.address v.byte).1 ((is.exactly v.address v.byte).0 among))
    (λ v among. (is.exactly v.address v.byte).1 ((also.exactly v.address v.byte).0 among))

-- The image is determined by the bytes.
pub image_determined : (bytes : List ℕ) (a b : Image) → IsImageOf bytes a → IsImageOf bytes b → a ≡ b
image_determined bytes a b is also =
    let all : is.records ++ is.spelled.end ∷ [] ≡ also.records ++ also.spelled.end ∷ [] = records_of_lines (nonempty_lines bytes) _ _ is.spelled.lines also.spelled.lines in
    let records : is.records ≡ also.records = records_before_end is.records also.records is.spelled.end also.spelled.end all in
    let words : a.words ≡ b.words = same_words also.records a.words b.words (subst (λ rs. AreProgramWords rs a.words) records is.words) also.words in
    let config : a.config ≡ b.config = same_option a.config b.config
    (λ x e. (also.config x).1 (subst (λ rs. GivesWord rs 0x2007 x) records ((is.config x).0 e)))
    (λ x e. (is.config x).1 (subst (λ rs. GivesWord rs 0x2007 x) (sym records) ((also.config x).0 e))) in
    let aside : a.aside ≡ b.aside = same_aside also.records a.aside b.aside (subst (λ rs. AreBytesAside rs a.aside) records is.aside) also.aside in
    λ i. record { words = words i; config = config i; aside = aside i }
