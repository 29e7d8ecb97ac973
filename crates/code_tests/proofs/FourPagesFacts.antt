-- What `layout` asks of NOPs and of the code on four pages.
use Rattle.std.proofs.Common.{◌≡◌, ℕ, zero, suc, ◌+◌, ◌^◌, ◌<◌, Bool, if◌then◌else◌, List, [], ◌∷◌, ◌++◌, replicate, length, length-append, ap, refl, arith}
use Rattle.std.specs.List.{AllByRecursion}
use Rattle.std.proofs.lemmas.Bool.{ne_eqb}
use Rattle.std.proofs.lemmas.List.{length-replicate}
use Rattle.pic_isa.specs.declared.instructions.Instr.TheVariants.{Btfsc, Btfss, Nop}
use Rattle.code_items.specs.declared.items.Item.{Item}
use Rattle.code_items.specs.declared.items.Item.TheVariants.{Ins, Mark, Jump}
use Rattle.code_items.specs.Items.{ItemFits, OnceEach, marks_it, times}
use Rattle.code_items.proofs.ItemLaws.{fit-append, times-append}
use Rattle.code_tests.specs.FourPages.{four_pages}

abbrev nops : ℕ → List Item
nops n = replicate n (Ins Nop)

pub nops-fit : (n : ℕ) → AllByRecursion ItemFits (nops n)
nops-fit zero = tt
nops-fit (suc n) = (tt, nops-fit n)

pub nops-times : (n m : ℕ) → times m (nops n) ≡ 0
nops-times zero m = refl
nops-times (suc n) m = omega (arith, nops-times n m)

pub nops-once : (n : ℕ) → OnceEach (nops n)
nops-once n m = omega (arith, nops-times n m)

-- Items, a gap, and two more items.
abbrev onward : List Item → ℕ → ℕ → ℕ → List Item
onward xs gap m n = xs ++ nops gap ++ Mark m ∷ Jump n ∷ []

abbrev start : List Item
start = Mark 0 ∷ Ins (Btfsc 0x0B 2) ∷ Jump 3 ∷ Ins (Btfss 0x0B 2) ∷ Jump 1 ∷ []

onward-fit : (xs : List Item) (gap m n : ℕ) → AllByRecursion ItemFits xs → AllByRecursion ItemFits (onward xs gap m n)
onward-fit xs gap m n fit = fit-append (xs ++ nops gap) (Mark m ∷ Jump n ∷ []) (fit-append xs (nops gap) fit (nops-fit gap)) (tt, (tt, tt))

onward-times : (xs : List Item) (gap m n k : ℕ) → times k (onward xs gap m n) ≡ times k xs + times k (Mark m ∷ [])
onward-times xs gap m n k = omega (arith, times-append k (xs ++ nops gap) (Mark m ∷ Jump n ∷ []), times-append k xs (nops gap), nops-times gap k)

onward-length : (xs : List Item) (gap m n : ℕ) → length (onward xs gap m n) ≡ length xs + (gap + 2)
onward-length xs gap m n = omega (arith, length-append (xs ++ nops gap) (Mark m ∷ Jump n ∷ []), length-append xs (nops gap), length-replicate gap (Ins Nop))

pub pages-few : (gap : ℕ) → gap < 2 ^ 26 → length (four_pages gap) < 2 ^ 29
pages-few gap few =
    omega (arith, onward-length start gap 2 3, onward-length (onward start gap 2 3) gap 1 2, onward-length (onward (onward start gap 2 3) gap 1 2) gap 3 0)

pub pages-fit : (gap : ℕ) → AllByRecursion ItemFits (four_pages gap)
pages-fit gap =
    onward-fit (onward (onward start gap 2 3) gap 1 2) gap 3 0
    (onward-fit (onward start gap 2 3) gap 1 2 (onward-fit start gap 2 3 (tt, ((omega arith, omega arith), (tt, ((omega arith, omega arith), (tt, tt)))))))

other : (n m : ℕ) → n < m → marks_it m (Mark n) ≡ 0
other n m below = ap (λ (b : Bool). if b then 1 else 0) (ne_eqb n m (λ same. omega arith))

marks-once : (k : ℕ) → times k start + times k (Mark 2 ∷ []) + times k (Mark 1 ∷ []) + times k (Mark 3 ∷ []) < 2
marks-once zero = omega arith
marks-once (suc zero) = omega arith
marks-once (suc (suc zero)) = omega arith
marks-once (suc (suc (suc zero))) = omega arith
marks-once (suc (suc (suc (suc k)))) =
    let m : ℕ = suc (suc (suc (suc k))) in
    omega (arith, other 0 m (omega arith), other 2 m (omega arith), other 1 m (omega arith), other 3 m (omega arith))

pub pages-once : (gap : ℕ) → OnceEach (four_pages gap)
pages-once gap k =
    omega (arith, marks-once k, onward-times start gap 2 3 k, onward-times (onward start gap 2 3) gap 1 2 k, onward-times (onward (onward start gap 2 3) gap 1 2) gap 3 0 k)
