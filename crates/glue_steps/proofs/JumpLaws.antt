-- Jumps of glue, and a skip instruction with a jump behind it: on any page, over arrivals.
use Rattle.std.proofs.Common.{◌≡◌, ℕ, ◌+◌, Bool, true, false, ◌⊎◌, None, List, [], ◌∷◌, ◌++◌, refl, inl, inr}
use Rattle.pic_isa.specs.declared.instructions.Instr.{Instr}
use Rattle.pic_machine.specs.declared.steps.PortWrite.{PortWrite}
use Rattle.pic_machine.specs.Chip.{Chip}
use Rattle.pic_machine.specs.Results.{Done}
use Rattle.code_steps.specs.Steps.{next}
use Rattle.code_steps.specs.Between.{Alone, placed_at}
use Rattle.code_steps.specs.Jumps.{arrives, Reaches, IsTest, Tested}
use Rattle.code_steps.proofs.BetweenLaws.{alone_frame}
use Rattle.code_steps.proofs.JumpLaws.{Passes, PassesSettings}
use Rattle.code_items.specs.declared.items.Item.{Item}
use Rattle.code_items.specs.declared.items.Item.TheVariants.{Ins, Jump}
use Rattle.code_items.specs.Items.{is_skip, words_of_item}
use Rattle.code_items.specs.Jumping.{at_skip}
use Rattle.code_items.specs.Lines.{Does, Goes, settings, Stands}
use Rattle.code_items.proofs.LineLaws.{ending}
use Rattle.code_items.proofs.JumpLaws.{jump_comes, skip_comes, only_jump, only_skip}
use Rattle.glue_steps.specs.Tells.{Tells, Withstands, Given}
use Rattle.glue_steps.specs.Still.{Off, Still}
use Rattle.glue_steps.specs.Jumping.{JumpWithin, SkipWithin}
use Rattle.glue_steps.specs.Laws.{Glue, JumpTold, SkipTold}
use Rattle.glue_steps.specs.Laws.{Passes as IsPassed}
use Rattle.glue_steps.proofs.TellsLaws.{tells_moves, tells_then, tells_comes, tells_given}
use Rattle.glue_steps.proofs.StillLaws.{off_stays, still_passes, still_settings, given_still}

module _ (program marks : ℕ → ℕ) (G : Chip → Done → Type 0) (Q : Chip → Type 0) (stays : Withstands Q) (In : ℕ → Type 0) (passes : Passes In G) (paged : Bool)
    (sets : paged ≡ true → PassesSettings In G) where
  -- A jump leads to its mark, and there the code goes on.
  pub jump_told : (p q m : ℕ) (items : List Item) (later : List PortWrite) (k : ℕ) (c : Chip) → Stands paged program marks p (Jump m ∷ items) q
      → JumpWithin In paged p m → c.pc ≡ p → Reaches paged (marks m) c → Tells program G Q later k (arrives (marks m) c)
      → Tells program G Q later (words_of_item paged (Jump m) + k) c
  jump_told p q m items later k c stands within at page told =
      let there = arrives (marks m) c in
      tells_then program G (Alone there) Q [] later (words_of_item paged (Jump m)) k c
      (tells_comes program G (Alone there) (words_of_item paged (Jump m)) c
      (jump_comes program marks Alone alone_frame (λ d done. G d done × (done.port ≡ None)) In (λ d place inside. (passes d place inside, refl))
      paged p (ending p (settings paged m ++ Goes m ∷ [])) m [] c (λ e d place pclath inside. (sets e d place pclath inside, refl))
      (only_jump program marks paged p q m items stands) within at page))
      (λ e r. tells_moves program G Q stays later k there e r told)

  -- A skip instruction with a jump behind it leads past both where its test holds on the chip that it meets, and else to the mark.
  pub skip_told : (test : Chip → Bool) (p q m : ℕ) (i : Instr) (items : List Item) (later : List PortWrite) (k : ℕ) (c : Chip)
      → is_skip i ≡ true → Stands paged program marks p (Ins i ∷ Jump m ∷ items) q → SkipWithin In paged p m i → c.pc ≡ p → Reaches paged (marks m) c
      → ((d : Chip) → Alone (at_skip paged (marks m) c) d → IsTest i test d)
      → ((on : Chip) → Alone (at_skip paged (marks m) c) on → test on ≡ true
      → Tells program G Q later k (placed_at (next (next (at_skip paged (marks m) c).pc)) on.regs.pclath on))
      → ((on : Chip) → Alone (at_skip paged (marks m) c) on → test on ≡ false → Tells program G Q later k (arrives (marks m) on))
      → Tells program G Q later (1 + words_of_item paged (Jump m) + k) c
  skip_told test p q m i items later k c skips stands within at page tests passed jumped =
      let at_it = at_skip paged (marks m) c in
      tells_then program G (Tested Alone test (marks m) at_it) Q [] later (1 + words_of_item paged (Jump m)) k c
      (tells_comes program G (Tested Alone test (marks m) at_it) (1 + words_of_item paged (Jump m)) c
      (skip_comes program marks Alone alone_frame (λ d done. G d done × (done.port ≡ None)) In (λ d place inside. (passes d place inside, refl))
      paged test p (ending p (settings paged m ++ Does i ∷ Goes m ∷ [])) m i [] c (λ e d place pclath inside. (sets e d place pclath inside, refl))
      (only_skip program marks paged p q m i items skips stands) within at page tests))
      decided
    where
      decided : (e : Chip) → Tested Alone test (marks m) (at_skip paged (marks m) c) e → Tells program G Q later k e
      decided e found = by_way found.way
        where
          by_way : ((test found.on ≡ true) × Alone (placed_at (next (next (at_skip paged (marks m) c).pc)) found.on.regs.pclath found.on) e)
              ⊎ ((test found.on ≡ false) × Alone (arrives (marks m) found.on) e) → Tells program G Q later k e
          by_way (inl (holds, r)) =
              tells_moves program G Q stays later k (placed_at (next (next (at_skip paged (marks m) c).pc)) found.on.regs.pclath found.on) e r (passed found.on found.between holds)
          by_way (inr (fails, r)) = tells_moves program G Q stays later k (arrives (marks m) found.on) e r (jumped found.on found.between fails)

-- With steps of glue, from a chip with GIE clear.
pub jump_told_at : (paged : Bool) (program marks : ℕ → ℕ) (glue : Glue) (test : Chip → Bool) (p q m : ℕ) (items : List Item) (later : List PortWrite) (k : ℕ) (c : Chip)
    → JumpTold paged program marks glue test p q m items later k c
jump_told_at paged program marks glue test p q m items later k c stays none may stands within at off page told =
    let In : ℕ → Type 0 = λ x. glue.inside x ≡ true in
    let May : ℕ → Type 0 = λ x. glue.may x ≡ true in
    let Q : Chip → Type 0 = IsPassed test in
    tells_given program Off (Still program In May) Q off_stays later (words_of_item paged (Jump m) + k) c off
    (jump_told program marks (Given Off (Still program In May)) Q stays In (still_passes program In May none) paged (λ e. still_settings program In May none (may e))
    p q m items later k c stands within at page (given_still program In May Q later k (arrives (marks m) c) told))

pub skip_told_at : (paged : Bool) (program marks : ℕ → ℕ) (glue : Glue) (test skip : Chip → Bool) (p q m : ℕ) (i : Instr) (items : List Item)
    (later : List PortWrite) (k : ℕ) (c : Chip) → SkipTold paged program marks glue test skip p q m i items later k c
skip_told_at paged program marks glue test skip p q m i items later k c stays none may is_a_skip stands within at off page tests passed jumped =
    let In : ℕ → Type 0 = λ x. glue.inside x ≡ true in
    let May : ℕ → Type 0 = λ x. glue.may x ≡ true in
    let Q : Chip → Type 0 = IsPassed test in
    tells_given program Off (Still program In May) Q off_stays later (1 + words_of_item paged (Jump m) + k) c off
    (skip_told program marks (Given Off (Still program In May)) Q stays In (still_passes program In May none) paged (λ e. still_settings program In May none (may e))
    skip p q m i items later k c is_a_skip stands within at page tests
    (λ on r holds. given_still program In May Q later k _ (passed on r holds))
    (λ on r fails. given_still program In May Q later k _ (jumped on r fails)))
