-- Words that stand from an address on without a gap: what is read at an address, and that an instruction that is read has a word.
use Rattle.std.proofs.Common.{◌≡◌, ℕ, ◌+◌, ◌<◌, ◌≤◌, ◌==◌, Bool, true, false, List, [], ◌∷◌, length, ⊎_elim, ap, arith, eq-eqb, lit<, refl, sym, ◌∙◌}
use Rattle.std.specs.Prelude.{Some}
use Rattle.std.specs.List.{list_any}
use Rattle.std.proofs.lemmas.Bool.{cases_eq, cases_lt, ne_eqb, or_left, or_right}
use Rattle.pic_isa.specs.declared.instructions.Instr.{Instr}
use Rattle.pic_isa.specs.Instructions.{instruction_of}
use Rattle.hex_file.specs.declared.images.Word.{Word}
use Rattle.hex_file.specs.Written.{RisesFrom}
use Rattle.pic_machine.specs.Run.{word_at}
use Rattle.code_steps.specs.Steps.{Is}
use Rattle.page_layout.specs.Words.{FollowFrom}

-- What is read has 14 bits.
pub words-below : (low : ℕ) (ws : List Word) → RisesFrom low ws → (address : ℕ) → word_at ws address < 0x4000
words-below low [] rise address = lit< tt
words-below low (w ∷ ws) rise address = by_address (w.address == address) rise.2 (words-below (w.address + 1) ws rise.3 address)
  where
    by_address : (b : Bool) → w.word < 0x4000 → word_at ws address < 0x4000 → elim b [ true ↦ w.word | false ↦ word_at ws address ] < 0x4000
    by_address true own rest = own
    by_address false own rest = rest

-- Each address among theirs has a word.
pub word-is_there : (at : ℕ) (ws : List Word) → FollowFrom at ws → (address : ℕ) → at ≤ address → address < at + length ws → list_any (λ (w : Word). w.address == address) ws ≡ true
word-is_there at [] follow address low high = absurd (omega (arith, low, high))
word-is_there at (w ∷ ws) follow address low high = ⊎_elim
    (λ here. or_left (w.address == address) (list_any (λ (v : Word). v.address == address) ws) (eq-eqb w.address address here))
    (λ other.
    let own = follow.0 in
    let behind : at + 1 ≤ address = by_other own other in
    or_right (w.address == address) (list_any (λ (v : Word). v.address == address) ws) (word-is_there (at + 1) ws follow.1 address behind (omega (arith, high))))
    (cases_eq w.address address)
  where
    by_other : w.address ≡ at → (w.address ≡ address → ⊥) → at + 1 ≤ address
    by_other own other = ⊎_elim
        (λ (same : at ≡ address). absurd (other (own ∙ same)))
        (λ differ. omega (arith, differ, low))
        (cases_eq at address)

-- Behind the last there is none.
none-behind : (at : ℕ) (ws : List Word) → FollowFrom at ws → (address : ℕ) → at + length ws ≤ address → word_at ws address ≡ 0x3FFF
none-behind at [] follow address far = refl
none-behind at (w ∷ ws) follow address far =
    let own = follow.0 in
    ap (λ b. elim b [ true ↦ w.word | false ↦ word_at ws address ]) (ne_eqb w.address address (λ same. omega (arith, own, same, far)))
    ∙ none-behind (at + 1) ws follow.1 address (omega (arith, far))

-- So where an instruction stands that isn't that of a missing word, there is one.
pub read-is_inside : (ws : List Word) → FollowFrom 0 ws → (i : Instr) (place : ℕ) → (instruction_of 0x3FFF ≡ Some i → ⊥) → Is (word_at ws) place i → place < length ws
read-is_inside ws follow i place real is = ⊎_elim
    (λ inside. inside)
    (λ past. absurd (real (sym (ap instruction_of (none-behind 0 ws follow place (omega (arith, past)))) ∙ is)))
    (cases_lt place (length ws))
