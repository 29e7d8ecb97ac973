-- Of the files that a command reads, which is read next, and what it has under its name.
use Rattle.std.proofs.Common.{◌≡◌, ℕ, ◌<◌, ◌≤◌, List, [], ◌∷◌, ◌++◌, Some, None, length, ◌⊎◌, inl, inr, arith, subst}
use Rattle.std.specs.List.{AllByRecursion}
use Rattle.edge_io.specs.declared.outside.TheConstants.{LONGEST_FILE}
use Rattle.edge_io.specs.Files.{Held}
use Rattle.command_parts.specs.Reads.{IsReadable, IsLong}

-- The bytes of a file that is held, and is short enough to be read.
abbrev pub IsHeldInput : List ℕ → Held → List ℕ → Type 0
IsHeldInput name held text = (held name ≡ Some text) × (length text ≤ LONGEST_FILE)

-- Of a request's names one that is next is held, where all are; and of two that are next one is held, or both are one.
pub named : (P : List ℕ → Type 0) (names earlier later : List (List ℕ)) (name : List ℕ) → names ≡ earlier ++ name ∷ later → AllByRecursion P names → P name
named P [] [] later name order all = let no : [] ≡ name ∷ later = order in cc
named P [] (x ∷ earlier) later name order all = let no : [] ≡ x ∷ (earlier ++ name ∷ later) = order in cc
named P (n ∷ names) [] later name order all = let same : n ≡ name = cc in subst P same all.0
named P (n ∷ names) (x ∷ earlier) later name order all = let rest : names ≡ earlier ++ name ∷ later = cc in named P names earlier later name rest all.1

pub one_next : (P : List ℕ → Type 0) (earlier earlier' later later' : List (List ℕ)) (name name' : List ℕ) → earlier ++ name ∷ later ≡ earlier' ++ name' ∷ later'
    → AllByRecursion P earlier → AllByRecursion P earlier' → (name ≡ name') ⊎ P name ⊎ P name'
one_next P [] [] later later' name name' same all all' = let e : name ≡ name' = cc in inl e
one_next P [] (x ∷ earlier') later later' name name' same all all' = let e : x ≡ name = cc in inr (inl (subst P e all'.0))
one_next P (x ∷ earlier) [] later later' name name' same all all' = let e : x ≡ name' = cc in inr (inr (subst P e all.0))
one_next P (x ∷ earlier) (x' ∷ earlier') later later' name name' same all all' =
    let rest : earlier ++ name ∷ later ≡ earlier' ++ name' ∷ later' = cc in one_next P earlier earlier' later later' name name' rest all.1 all'.1

-- What a name has under it excludes the others.
pub not_readable : (held : Held) (name : List ℕ) → held name ≡ None → IsReadable held name → ⊥
not_readable held name none is = let at : held name ≡ Some is.0 = is.1 in cc

pub not_long : (held : Held) (name : List ℕ) → held name ≡ None → IsLong held name → ⊥
not_long held name none is = let at : held name ≡ Some is.0 = is.1 in cc

pub long_readable : (held : Held) (name : List ℕ) → IsReadable held name → IsLong held name → ⊥
long_readable held name is long =
    let at : held name ≡ Some is.0 = is.1 in
    let at' : held name ≡ Some long.0 = long.1 in
    let same : long.0 ≡ is.0 = cc in
    let more : LONGEST_FILE < length is.0 = subst (λ (text : List ℕ). LONGEST_FILE < length text) same long.2 in omega (arith, is.2)
