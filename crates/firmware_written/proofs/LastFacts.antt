-- Items that stand in program memory: where the last of them stands, and that their marks are addresses.
use Rattle.std.proofs.Common.{◌≡◌, ℕ, ◌+◌, ◌%◌, ◌<◌, ◌==◌, ◌⊎◌, inl, inr, Bool, true, false, if◌then◌else◌, List, [], ◌∷◌, ◌++◌, append_assoc, ap, arith, refl, subst, sym, ◌∙◌}
use Rattle.std.proofs.lemmas.Bool.{eqb-true}
use Rattle.pic_isa.specs.declared.instructions.Instr.{Instr}
use Rattle.pic_isa.specs.declared.instructions.Instr.TheVariants.{Goto, Retfie}
use Rattle.code_steps.specs.Steps.{Is, next}
use Rattle.code_items.specs.declared.items.Item.{Item}
use Rattle.code_items.specs.declared.items.Item.TheVariants.{Ins, Jump, Mark}
use Rattle.code_items.specs.Items.{skips, times}
use Rattle.code_items.specs.Lines.{Does, Goes, Line, Placed, Stands, ahead, lines, lines_of}
use Rattle.code_items.proofs.LineLaws.{ending, ending-linear, placed-parts}
use Rattle.isr_vector.specs.Vector.{own_goto}

-- Lines have one more behind them.
abbrev EndIn : Line → List Line → Type 0
EndIn line ls = (front : List Line) × (ls ≡ front ++ line ∷ [])

-- So have those of items, where those of their last item have it.
last_line : (paged : Bool) (line : Line) (last : Item) → ((held : Bool) → EndIn line (lines held paged (last ∷ []))) → (items : List Item) (held : Bool)
    → EndIn line (lines held paged (items ++ last ∷ []))
last_line paged line last ends [] held = ends held
last_line paged line last ends (item ∷ items) held =
    let rest = last_line paged line last ends items (skips item) in
    let own = lines_of held paged item (ahead paged (items ++ last ∷ [])) in
    (own ++ rest.0, ap (λ ls. own ++ ls) rest.1 ∙ sym (append_assoc own rest.0 (line ∷ [])))

ending-below : (p : ℕ) (ls : List Line) → p < 8192 → ending p ls < 8192
ending-below p ls below = let linear = ending-linear p ls below in omega (arith, linear)

-- The place of the last word, with its instruction.
pub record StandsLast (program : ℕ → ℕ) (stop : ℕ) (i : Instr) : Type 0 where
  pub place : ℕ
  pub below : place < 8192
  pub is : Is program place i
  pub stops : next place ≡ stop

module _ (program marks : ℕ → ℕ) (p q : ℕ) (below : p < 8192) where
  does_last : (i : Instr) (ls : List Line) → EndIn (Does i) ls → Placed program marks p ls q → StandsLast program q i
  does_last i ls ends placed =
      let parts = placed-parts program marks p q ends.0 (Does i ∷ []) (subst (λ xs. Placed program marks p xs q) ends.1 placed) in
      record { place = ending p ends.0; below = ending-below p ends.0 below; is = parts.1.0; stops = parts.1.1 }

  goes_last : (m : ℕ) (ls : List Line) → EndIn (Goes m) ls → Placed program marks p ls q → StandsLast program q (Goto (marks m % 2048))
  goes_last m ls ends placed =
      let parts = placed-parts program marks p q ends.0 (Goes m ∷ []) (subst (λ xs. Placed program marks p xs q) ends.1 placed) in
      record { place = ending p ends.0; below = ending-below p ends.0 below; is = parts.1.0; stops = parts.1.2 }

  -- A return that comes last.
  pub return_last : (paged : Bool) (items : List Item) → Stands paged program marks p (items ++ Ins Retfie ∷ []) q → StandsLast program q Retfie
  return_last paged items stands =
      does_last Retfie (lines false paged (items ++ Ins Retfie ∷ [])) (last_line paged (Does Retfie) (Ins Retfie) (λ held. ([], refl)) items false) stands

  -- The vector's own goto that comes last.
  jump_ends : (m : ℕ) (held : Bool) → EndIn (Goes m) (lines held false (Jump m ∷ []))
  jump_ends m true = ([], refl)
  jump_ends m false = ([], refl)

  pub goto_last : (paged : Bool) (m address : ℕ) (items : List Item) → Stands paged program marks p (items ++ own_goto paged m address ∷ []) q → (k : ℕ) × StandsLast program q (Goto k)
  goto_last true m address items stands =
      (address, does_last (Goto address) (lines false true (items ++ Ins (Goto address) ∷ [])) (last_line true (Does (Goto address)) (Ins (Goto address)) (λ held. ([], refl)) items false) stands)
  goto_last false m address items stands =
      (marks m % 2048, goes_last m (lines false false (items ++ Jump m ∷ [])) (last_line false (Goes m) (Jump m) (jump_ends m) items false) stands)

-- A mark stands nowhere in items, or its address is one of program memory.
module _ (paged : Bool) (program marks : ℕ → ℕ) where
  abbrev IsAddress : ℕ → List Item → Type 0
  IsAddress m items = (times m items ≡ 0) ⊎ (marks m < 8192)

  item-address : (item : Item) (items : List Item) (p q m : ℕ) (held : Bool) → p < 8192 → Placed program marks p (lines held paged (item ∷ items)) q → IsAddress m items → IsAddress m (item ∷ items)
  item-address item items p q m held below placed (inr address) = inr address
  item-address (Ins i) items p q m held below placed (inl none) = inl (omega (arith, none))
  item-address (Jump k) items p q m held below placed (inl none) = inl (omega (arith, none))
  item-address (Mark k) items p q m held below placed (inl none) = by_mark (k == m) refl
    where
      by_mark : (b : Bool) → k == m ≡ b → ((if b then 1 else 0) + times m items ≡ 0) ⊎ (marks m < 8192)
      by_mark true same = let at : marks k ≡ p = placed.0 in let is = ap marks (eqb-true k m same) in inr (omega (arith, at, is, below))
      by_mark false other = inl (omega (arith, none))

  items-address : (items : List Item) (p q m : ℕ) (held : Bool) → p < 8192 → Placed program marks p (lines held paged items) q → IsAddress m items
  items-address [] p q m held below placed = inl refl
  items-address (item ∷ items) p q m held below placed =
      let own = lines_of held paged item (ahead paged items) in
      let parts = placed-parts program marks p q own (lines (skips item) paged items) placed in
      item-address item items p q m held below placed (items-address items (ending p own) q m (skips item) (ending-below p own below) parts.1)

  pub marks-are_addresses : (items : List Item) (p q : ℕ) → p < 8192 → Stands paged program marks p items q → ((m : ℕ) → times m items ≡ 0 → marks m ≡ 0) → (m : ℕ) → marks m < 8192
  marks-are_addresses items p q below stands absent m = by_address (items-address items p q m false below stands)
    where
      by_address : IsAddress m items → marks m < 8192
      by_address (inl none) = let zero_there = absent m none in omega (arith, zero_there)
      by_address (inr address) = address
