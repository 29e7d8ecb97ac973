-- Lists whose keys rise, and below what the addresses of given bytes lie.
use Rattle.std.proofs.Common.{◌≡◌, ℕ, zero, suc, ◌+◌, ◌<◌, List, [], ◌∷◌, ◌++◌, length, map, subst, slice_index_or, arith}
use Rattle.std.proofs.lemmas.Option.{slice_get_within}
use Rattle.std.specs.List.{AllZip, Contains}
use Rattle.std.specs.List.Sorted.{IsStrictlyIncreasing}
use Rattle.hex_file.specs.ImageOf.{HexRecord, IsAllowed, IsRecordLine, SpellsRecords, GivesByte}
use Rattle.hex_file.proofs.ImageLaws.{holds_first}

pub rising_from : {X : Type 0} (key : X → ℕ) (x : X) (xs : List X) → ((y : X) → Contains xs y → key x < key y) → IsStrictlyIncreasing (map key xs)
    → IsStrictlyIncreasing (map key (x ∷ xs))
rising_from key x [] above rising k below = absurd (omega arith)
rising_from key x (y ∷ ys) above rising zero below = above y (holds_first y ys)
rising_from key x (y ∷ ys) above rising (suc i) below =
    let next : suc i + 1 ≡ suc (i + 1) = omega arith in let rises = rising i (omega arith) in rw next rises

-- Bytes are given below 10000h.

allowed_at : (lines : List (List ℕ)) (records : List HexRecord) (end : HexRecord) (index : ℕ) (r : HexRecord)
    → AllZip IsRecordLine lines (records ++ end ∷ []) → index < length records → slice_index_or records index r ≡ r → IsAllowed r
allowed_at lines [] end index r zipped below is = absurd (omega arith)
allowed_at [] (s ∷ records) end index r zipped below is = absurd zipped
allowed_at (l ∷ lines) (s ∷ records) end zero r zipped below is = subst IsAllowed is zipped.0.allowed
allowed_at (l ∷ lines) (s ∷ records) end (suc index) r zipped below is = allowed_at lines records end index r zipped.1 (omega arith) is

pub given_below : (bytes : List ℕ) (records : List HexRecord) (address byte : ℕ) → SpellsRecords bytes records → GivesByte records address byte → address < 0x10000
given_below bytes records address byte spelled g =
    let allowed : IsAllowed g.source = allowed_at _ records spelled.end g.among.0 g.source spelled.lines g.among.1 g.among.2 in
    let place : g.place < length g.source.payload = slice_get_within g.source.payload g.place byte g.value in
    omega (arith, g.at, allowed.in_range g.is_data)
