-- Items that stand in program memory: in parts, at a mark, at an instruction, raised, and between two addresses.
use Rattle.std.proofs.Common.{◌≡◌, ℕ, ◌+◌, ◌%◌, ◌≤◌, ◌<◌, Bool, true, false, if◌then◌else◌, List, [], ◌∷◌, ◌++◌, map, ap, ◌∙◌, subst, append_assoc, arith}
use Rattle.pic_isa.specs.declared.instructions.Instr.{Instr}
use Rattle.code_steps.specs.Ends.{Between}
use Rattle.code_items.specs.declared.items.Item.{Item}
use Rattle.code_items.specs.declared.items.Item.TheVariants.{Ins, Mark}
use Rattle.std.proofs.lemmas.Bool.{ltb-false}
use Rattle.pic_machine.specs.Chip.{Chip}
use Rattle.code_steps.specs.Jumps.{Reaches}
use Rattle.code_steps.proofs.JumpLaws.{reaches_first_page}
use Rattle.code_items.specs.Items.{has_pages, is_skip, ends_skipping, raised, words_in}
use Rattle.code_items.specs.Lines.{Does, ahead, lines, Placed, Stands}
use Rattle.code_items.proofs.ItemLaws.{words-append}
use Rattle.code_items.proofs.LineLaws.{ending, ending-linear, placed-parts, words-lines, lines-append, lines-raised, placed-raised}

-- The place behind items that stand from `p` on.
abbrev pub behind : (paged : Bool) → ℕ → List Item → ℕ
behind paged p items = (p + words_in paged items) % 8192

pub ending-items : (paged : Bool) (p : ℕ) (items : List Item) → p < 8192 → ending p (lines false paged items) ≡ behind paged p items
ending-items paged p items below = ending-linear p (lines false paged items) below ∙ ap (λ n. (p + n) % 8192) (words-lines paged items)

module _ (paged : Bool) (program marks : ℕ → ℕ) where
  -- In parts, where the first part ends in no skip instruction; and put together.
  pub stands-parts : (p q : ℕ) (xs ys : List Item) → p < 8192 → ends_skipping false xs ≡ false → Stands paged program marks p (xs ++ ys) q
      → Stands paged program marks p xs (behind paged p xs) × Stands paged program marks (behind paged p xs) ys q
  stands-parts p q xs ys below ends stands =
      let cut = subst (λ ls. Placed program marks p ls q) (lines-append false paged xs ys ends) stands in
      let parts = placed-parts program marks p q (lines false paged xs) (lines false paged ys) cut in
      let at = ending-items paged p xs below in (
        subst (λ r. Placed program marks p (lines false paged xs) r) at parts.0,
        subst (λ r. Placed program marks r (lines false paged ys) q) at parts.1,
      )

  -- A mark has the address of the place where it stands.
  pub stands-mark : (p q m : ℕ) (xs ys : List Item) → p < 8192 → ends_skipping false xs ≡ false → Stands paged program marks p (xs ++ Mark m ∷ ys) q
      → marks m ≡ behind paged p xs
  stands-mark p q m xs ys below ends stands = (stands-parts p q xs (Mark m ∷ ys) below ends stands).1.0

  -- At a skip instruction the settings of a jump directly behind it come first.
  skip_line : (i : Instr) (items : List Item) (r q : ℕ) (skip : Bool)
      → Placed program marks r ((if skip then ahead paged items ++ Does i ∷ [] else Does i ∷ []) ++ lines skip paged items) q → skip ≡ true
      → Placed program marks r (ahead paged items ++ Does i ∷ lines true paged items) q
  skip_line i items r q true placed skips = subst (λ ls. Placed program marks r ls q) (append_assoc (ahead paged items) (Does i ∷ []) (lines true paged items)) placed
  skip_line i items r q false placed skips = absurd (cc)

  pub stands-skip : (p q : ℕ) (i : Instr) (items : List Item) → is_skip i ≡ true → Stands paged program marks p (Ins i ∷ items) q
      → Placed program marks p (ahead paged items ++ Does i ∷ lines true paged items) q
  stands-skip p q i items skips stands = skip_line i items p q (is_skip i) stands skips

  -- Raised items stand where the items do, when each mark stands where the raised one does.
  pub stands-raised : (up p q : ℕ) (items : List Item) → Stands paged program marks p (map (raised up) items) q → Stands paged program (λ m. marks (m + up)) p items q
  stands-raised up p q items stands =
      placed-raised program marks up p q (lines false paged items) (subst (λ ls. Placed program marks p ls q) (lines-raised up false paged items) stands)

-- A mark before a word lies among the words of the items that it stands in.
pub mark-between : (paged : Bool) (program marks : ℕ → ℕ) (p q m : ℕ) (xs ys : List Item) → p < 8192 → ends_skipping false xs ≡ false
    → p + words_in paged (xs ++ Mark m ∷ ys) ≤ 8192 → 0 < words_in paged ys → Stands paged program marks p (xs ++ Mark m ∷ ys) q
    → (marks m ≡ p + words_in paged xs) × Between p (p + words_in paged (xs ++ Mark m ∷ ys)) (marks m)
mark-between paged program marks p q m xs ys below ends top word stands =
    let count = words-append paged xs (Mark m ∷ ys) in
    let at = stands-mark paged program marks p q m xs ys below ends stands in
    let linear : marks m ≡ p + words_in paged xs = omega (arith, count, at) in (linear, (omega (arith, linear), omega (arith, linear, count)))

-- Code without page settings has at most 2,048 words, so a mark before a word is reached where bits 4 and 3 of PCLATH are 0.
pub short-reaches : (program marks : ℕ → ℕ) (q m : ℕ) (xs ys : List Item) (c : Chip) → has_pages (xs ++ Mark m ∷ ys) ≡ false → ends_skipping false xs ≡ false
    → 0 < words_in false ys → Stands false program marks 0 (xs ++ Mark m ∷ ys) q → c.regs.pclath.b4 ≡ false → c.regs.pclath.b3 ≡ false → Reaches false (marks m) c
short-reaches program marks q m xs ys c short ends word stands high low =
    let few : words_in false (xs ++ Mark m ∷ ys) ≤ 2048 = ltb-false 2048 (words_in false (xs ++ Mark m ∷ ys)) short in
    let found = mark-between false program marks 0 q m xs ys (omega arith) ends (omega arith) word stands in
    let below : marks m < 0 + words_in false (xs ++ Mark m ∷ ys) = found.1.1 in
    reaches_first_page false (marks m) c (omega arith) high low
