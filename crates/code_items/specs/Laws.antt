-- What the laws of `laws.rt` promise of items that stand in program memory.
use Rattle.std.specs.Prelude.{◌≡◌, ℕ, suc, ◌+◌, ◌%◌, ◌≤◌, ◌<◌, Bool, true, false, List, ◌∷◌, ◌++◌, length, map}
use Rattle.pic_isa.specs.declared.instructions.Instr.{Instr}
use Rattle.pic_machine.specs.Chip.{Chip}
use Rattle.code_steps.specs.Steps.{Comes}
use Rattle.code_steps.specs.Between.{Others}
use Rattle.code_steps.specs.Ends.{Between}
use Rattle.code_steps.specs.Jumps.{arrives, Reaches, IsTest, Tested}
use Rattle.code_steps.specs.Laws.{Piece, OwnOf}
use Rattle.code_items.specs.declared.items.Item.{Item}
use Rattle.code_items.specs.declared.items.Item.TheVariants.{Ins, Mark, Jump}
use Rattle.code_items.specs.Items.{OnceEach, OnlyMarks, has_pages, is_skip, ends_skipping, raised, words_of_item, words_in}
use Rattle.code_items.specs.Jumping.{at_skip}
use Rattle.code_items.specs.Lines.{Stands}
use Rattle.code_items.specs.Places.{joined, piece_at, base, NoneSkips}

-- Two parts, the first of which ends in no skip instruction, stand one after the other.
abbrev pub StandsInParts : Bool → (program marks : ℕ → ℕ) → (p q : ℕ) → (xs ys : List Item) → Type 0
StandsInParts paged program marks p q xs ys =
    let middle = (p + words_in paged xs) % 8192 in
    p < 8192 → ends_skipping false xs ≡ false → Stands paged program marks p (xs ++ ys) q
    → Stands paged program marks p xs middle × Stands paged program marks middle ys q

-- Where raised items stand, the items stand with each mark where the raised one is.
abbrev pub StandsRaised : Bool → (program marks : ℕ → ℕ) → (up p q : ℕ) → List Item → Type 0
StandsRaised paged program marks up p q items =
    Stands paged program marks p (map (raised up) items) q → Stands paged program (λ m. marks (m + up)) p items q

-- A mark before a word has an address among those of the items' words.
abbrev pub MarkLiesWithin : Bool → (program marks : ℕ → ℕ) → (p q m : ℕ) → (xs ys : List Item) → Type 0
MarkLiesWithin paged program marks p q m xs ys =
    let stop = p + words_in paged (xs ++ Mark m ∷ ys) in
    p < 8192 → ends_skipping false xs ≡ false → stop ≤ 8192 → 0 < words_in paged ys → Stands paged program marks p (xs ++ Mark m ∷ ys) q
    → (marks m ≡ p + words_in paged xs) × Between p stop (marks m)

-- Each of some pieces that stand one after another from address 0 on stands where those before it end.
abbrev pub PieceStands : Bool → (program marks : ℕ → ℕ) → (pieces : List (List Item)) → (q k : ℕ) → Type 0
PieceStands paged program marks pieces q k =
    NoneSkips pieces → k < length pieces → Stands paged program marks 0 (joined pieces) q
    → Stands paged program marks (base paged pieces k % 8192) (piece_at pieces k) (base paged pieces (suc k) % 8192)

-- No address lies in two of them.
abbrev pub PiecesApart : Bool → List (List Item) → (j k address : ℕ) → Type 0
PiecesApart paged pieces j k address =
    (j ≡ k → ⊥) → Between (base paged pieces j) (base paged pieces (suc j)) address → Between (base paged pieces k) (base paged pieces (suc k)) address → ⊥

-- A piece of code has these words, and may write PCLATH where the code has page settings.
abbrev pub HasWords : Bool → Piece → (p words : ℕ) → Type 0
HasWords paged piece p words = (piece.start ≤ p) × (p + words ≤ piece.stop) × (piece.stop ≤ 8192) × (paged ≡ true → piece.may 0x00A ≡ true)

-- A jump that others' runs may interrupt arrives at its mark.
abbrev pub JumpArrives : Bool → (program marks : ℕ → ℕ) → Piece → (p q m : ℕ) → List Item → Chip → Type 0
JumpArrives paged program marks piece p q m items c =
    let words = words_of_item paged (Jump m) in
    Stands paged program marks p (Jump m ∷ items) q → HasWords paged piece p words → c.pc ≡ p → Reaches paged (marks m) c
    → Comes program Others (OwnOf piece) (Others (arrives (marks m) c)) words c

-- A skip instruction with a jump behind it skips the jump or jumps, as its test says.
abbrev pub SkipDecides : Bool → (program marks : ℕ → ℕ) → Piece → (p q m : ℕ) → Instr → (Chip → Bool) → List Item → Chip → Type 0
SkipDecides paged program marks piece p q m i test items c =
    let words = 1 + words_of_item paged (Jump m) in
    let tested : Chip = at_skip paged (marks m) c in
    Stands paged program marks p (Ins i ∷ Jump m ∷ items) q → is_skip i ≡ true → HasWords paged piece p words → c.pc ≡ p → Reaches paged (marks m) c
    → ((d : Chip) → Others tested d → IsTest i test d) → Comes program Others (OwnOf piece) (Tested Others test (marks m) tested) words c

-- In code without page settings, laid out from address 0 on, a mark before a word is reached where bits 4 and 3 of PCLATH are 0.
abbrev pub ShortReaches : (program marks : ℕ → ℕ) → (q m : ℕ) → (xs ys : List Item) → Chip → Type 0
ShortReaches program marks q m xs ys c =
    has_pages (xs ++ Mark m ∷ ys) ≡ false → ends_skipping false xs ≡ false → 0 < words_in false ys → Stands false program marks 0 (xs ++ Mark m ∷ ys) q
    → c.regs.pclath.b4 ≡ false → c.regs.pclath.b3 ≡ false → Reaches false (marks m) c

-- Each mark stands at most once in two parts, where it does so in each and no mark can stand in both.
abbrev pub OnceInBoth : (first second : ℕ → Bool) → (xs ys : List Item) → Type 0
OnceInBoth first second xs ys =
    ((m : ℕ) → first m ≡ true → second m ≡ true → ⊥) → OnlyMarks (λ m. first m ≡ true) xs → OnlyMarks (λ m. second m ≡ true) ys
    → OnceEach xs → OnceEach ys → OnceEach (xs ++ ys)
