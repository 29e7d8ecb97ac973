-- Code in order: one piece after another does what both mean, and operations one after the other.
use Rattle.std.proofs.Common.{◌≡◌, ℕ, ◌+◌, ◌/◌, ◌%◌, ◌≤◌, ◌==◌, Bool, true, false, Some, List, [], ◌∷◌, ◌++◌, map, length, length-append, ap, ◌∙◌, sym, refl, subst, arith, inl, inr}
use Rattle.std.proofs.lemmas.List.{length-map, map-append}
use Rattle.std.proofs.lemmas.List.Sums.{sum_by-append}
use Rattle.std.proofs.lemmas.Grind.{flat_map-append}
use Rattle.std.specs.List.{flat_map, sum_by}
use Rattle.pic_isa.specs.declared.instructions.Instr.{Instr}
use Rattle.pic_isa.specs.Instructions.{FieldsFit}
use Rattle.pic_machine.specs.Chip.{Chip}
use Rattle.pic_machine.specs.Exec.{field}
use Rattle.byte_ops.specs.declared.operations.Op.{Op}
use Rattle.byte_ops.specs.Meaning.{Means, written_by}
use Rattle.byte_ops.specs.Weights.{weight_of}
use Rattle.bank_alloc.specs.declared.needs.Needs.{Needs}
use Rattle.code_steps.specs.declared.banks.Bank.{Bank}
use Rattle.code_steps.specs.Steps.{Comes}
use Rattle.code_steps.specs.Between.{Others, Keeps}
use Rattle.code_steps.specs.Ends.{Own, Ended}
use Rattle.code_items.specs.declared.items.Item.{Item}
use Rattle.code_items.specs.declared.items.Item.TheVariants.{Ins}
use Rattle.code_items.specs.Items.{ends_skipping, is_skip, skips}
use Rattle.code_steps.proofs.ComesLaws.{comes_wider}
use Rattle.bank_alloc.specs.Addresses.{address_of}
use Rattle.code_acts.specs.Laws.{SkipsNoSetting, sets_bank}
use Rattle.code_acts.proofs.PartLaws.{CodeComes, code_wider, code_in_parts, items_of_stand, stand_of_items}
use Rattle.op_code.specs.Templates.{words_of}
use Rattle.op_code.specs.Laws.{NoneDoes, OneMoreDoes, PartsDo}
use Rattle.op_code.specs.Operations.{ComesTo, Does, IsOperandOrCell, MeansInOrder, NamesBitsOfStatus, bytes_in, cells_of_op, is_one_of}
use Rattle.op_code.proofs.NameFacts.{all-joined, all-parts, any-append, or_left, or_right}

-- What is promised at the end, with PCLATH.
abbrev pub And : (Post : Chip → Chip → Type 0) → Chip → Chip → Type 0
And Post c e = (e.regs.pclath ≡ c.regs.pclath) × Post c e

-- Items that are instructions come to what these come to; and instructions to what they come to as items.
module _ (R : Chip → Chip → Type 0) (may : ℕ → Type 0) (bank to : Bank) (instrs : List Instr) (Post : Chip → Chip → Type 0) where
  count : length (map Ins instrs) ≡ length instrs
  count = length-map instrs Ins

  to_instrs : ComesTo R may bank to (map Ins instrs) Post → CodeComes R may bank to instrs (And Post)
  to_instrs come program c at =
      let stop = c.pc + length instrs in
      let done = come false program (λ m. 0) (stop % 8192) c (record {
        pc = at.pc;
        room = subst (λ n. c.pc + n ≤ 8192) (sym count) at.room;
        stand = items_of_stand program (λ m. 0) c.pc instrs at.pc at.stand;
        holds = at.holds;
      }) in
      let here = subst (λ n. Comes program R (Own may c.pc (c.pc + n)) (λ e. Ended ((c.pc + n) % 8192) to e × (e.regs.pclath ≡ c.regs.pclath) × Post c e) n c) count done in
      comes_wider program R R (Own may c.pc stop) (Own may c.pc stop) (λ e. Ended (stop % 8192) to e × (e.regs.pclath ≡ c.regs.pclath) × Post c e)
      (λ e. Ended (stop % 8192) to e × And Post c e)
      (λ x y r. r) (λ d step own. own) (λ e p. (p.0, (p.1, p.2))) (length instrs) c here

  pub of_instrs : CodeComes R may bank to instrs (And Post) → ComesTo R may bank to (map Ins instrs) Post
  of_instrs come paged program marks q c at =
      let stop = c.pc + length instrs in
      let done = come program c (record {
        pc = at.pc;
        room = subst (λ n. c.pc + n ≤ 8192) count at.room;
        stand = stand_of_items paged program marks c.pc q instrs at.stand;
        holds = at.holds;
      }) in
      let here = comes_wider program R R (Own may c.pc stop) (Own may c.pc stop) (λ e. Ended (stop % 8192) to e × And Post c e)
      (λ e. Ended (stop % 8192) to e × (e.regs.pclath ≡ c.regs.pclath) × Post c e)
      (λ x y r. r) (λ d step own. own) (λ e p. (p.0, p.1.0, p.1.1)) (length instrs) c done in
      subst (λ n. Comes program R (Own may c.pc (c.pc + n)) (λ e. Ended ((c.pc + n) % 8192) to e × (e.regs.pclath ≡ c.regs.pclath) × Post c e) n c) (sym count) here

-- Skips at the end, and bank settings behind skips, of two pieces.
ends-append : (held : Bool) (xs ys : List Item) → ends_skipping held (xs ++ ys) ≡ ends_skipping (ends_skipping held xs) ys
ends-append held [] ys = refl
ends-append held (x ∷ xs) ys = ends-append (skips x) xs ys

no_setting : (behind : Bool) (xs ys : List Instr) → SkipsNoSetting behind xs → ends_skipping behind (map Ins xs) ≡ false → SkipsNoSetting false ys
    → SkipsNoSetting behind (xs ++ ys)
no_setting behind [] ys first last second = subst (λ b. SkipsNoSetting b ys) (sym last) second
no_setting behind (i ∷ xs) ys first last second = (first.0, no_setting (is_skip i) xs ys first.1 last second)

more_may : (need : Needs) (some all : List ℕ) → ((cell : ℕ) → is_one_of some cell ≡ true → is_one_of all cell ≡ true)
    → (address : ℕ) → IsOperandOrCell need (is_one_of some) address → IsOperandOrCell need (is_one_of all) address
more_may need some all more address (inl operand) = inl operand
more_may need some all more address (inr (cell, placed, is, at)) = inr ((cell, placed, more cell is, at))

-- Two relations one after the other.
abbrev Both : (M N : (ℕ → ℕ) → (ℕ → ℕ) → Type 0) → (ℕ → ℕ) → (ℕ → ℕ) → Type 0
Both M N before after = (middle : ℕ → ℕ) × M before middle × N middle after

module _ (need : Needs) (cs ws ds vs : List ℕ) (M N : (ℕ → ℕ) → (ℕ → ℕ) → Type 0) (m w n v : ℕ) (bank mid to : Bank) (xs ys : List Item)
    (first : Does cs ws M m w need bank mid xs) (second : Does ds vs N n v need mid to ys) where
  abbrev is : List Instr
  is = first.instrs

  abbrev js : List Instr
  js = second.instrs

  abbrev May : ℕ → Type 0
  May = IsOperandOrCell need (is_one_of (ws ++ vs))

  all_instrs : xs ++ ys ≡ map Ins (is ++ js)
  all_instrs = ap (λ l. l ++ ys) first.are.all ∙ ap (λ l. map Ins is ++ l) second.are.all ∙ sym (map-append Ins is js)

  first_more : (address : ℕ) → IsOperandOrCell need (is_one_of ws) address → May address
  first_more = more_may need ws (ws ++ vs) (λ cell one. any-append (λ x. x == cell) ws vs ∙ or_left (is_one_of ws cell) (is_one_of vs cell) one)

  second_more : (address : ℕ) → IsOperandOrCell need (is_one_of vs) address → May address
  second_more = more_may need vs (ws ++ vs) (λ cell one. any-append (λ x. x == cell) ws vs ∙ or_right (is_one_of ws cell) (is_one_of vs cell) one)

  in_order : (R : Chip → Chip → Type 0) (P Q S : Chip → Chip → Type 0) → ((c d e : Chip) → P c d → Q d e → S c e)
      → ComesTo R (IsOperandOrCell need (is_one_of ws)) bank mid xs P → ComesTo R (IsOperandOrCell need (is_one_of vs)) mid to ys Q
      → ComesTo R May bank to (xs ++ ys) S
  in_order R P Q S joined one other =
      let begun = to_instrs R (IsOperandOrCell need (is_one_of ws)) bank mid is P
      (subst (λ l. ComesTo R (IsOperandOrCell need (is_one_of ws)) bank mid l P) first.are.all one) in
      let goes_on = to_instrs R (IsOperandOrCell need (is_one_of vs)) mid to js Q
      (subst (λ l. ComesTo R (IsOperandOrCell need (is_one_of vs)) mid to l Q) second.are.all other) in
      subst (λ l. ComesTo R May bank to l S) (sym all_instrs)
      (of_instrs R May bank to (is ++ js) S
      (code_in_parts R May bank mid to is js (And P) (And Q) (And S) (λ c d e p q. (q.0 ∙ p.0, joined c d e p.1 q.1))
      (code_wider R R (IsOperandOrCell need (is_one_of ws)) May bank mid is (And P) (And P) (λ x y r. r) first_more (λ c e p. p) begun)
      (code_wider R R (IsOperandOrCell need (is_one_of vs)) May mid to js (And Q) (And Q) (λ x y r. r) second_more (λ c e p. p) goes_on)))

  pub does_both : Does (cs ++ ds) (ws ++ vs) (Both M N) (m + n) (w + v) need bank to (xs ++ ys)
  does_both = record {
    ends = in_order Others (λ c e. Unit) (λ c e. Unit) (λ c e. Unit) (λ c d e p q. tt) first.ends second.ends;
    leaves = λ picked enclosed.
        let own = all-parts (λ cell. picked cell ≡ true) cs ds enclosed.own in
        in_order (Keeps (IsOperandOrCell need picked)) (λ c e. M (bytes_in need picked c) (bytes_in need picked e))
        (λ c e. N (bytes_in need picked c) (bytes_in need picked e)) (λ c e. Both M N (bytes_in need picked c) (bytes_in need picked e))
        (λ c d e p q. (bytes_in need picked d, p, q))
        (first.leaves picked (record { placed = enclosed.placed; own = own.0 }))
        (second.leaves picked (record { placed = enclosed.placed; own = own.1 }));
    words =
        let both = length-append xs ys in
        let a = first.words.0 in let b = first.words.1 in let c = second.words.0 in let d = second.words.1 in
        (omega (arith, both, a, c), omega (arith, b, d));
    instrs = is ++ js;
    are = record {
      all = all_instrs;
      fit = all-joined (λ i. FieldsFit i × (field i ≡ Some 0x0A → ⊥)) is js first.are.fit second.are.fit;
      status = all-joined NamesBitsOfStatus is js first.are.status second.are.status;
      last = ends-append false xs ys ∙ ap (λ b. ends_skipping b ys) first.are.last ∙ second.are.last;
      settings = no_setting false is js first.are.settings (ap (ends_skipping false) (sym first.are.all) ∙ first.are.last) second.are.settings;
    };
    stays = λ k known lie.
        let parts = all-parts (λ cell. address_of need cell / 128 ≡ k) cs ds lie in
        let one = first.stays k known parts.0 in
        let other = second.stays k one.1 parts.1 in
        (all-joined (λ i. sets_bank i ≡ false) is js one.0 other.0, other.1);
  }

pub none_does : (need : Needs) (bank : Bank) → NoneDoes need bank
none_does need bank = record {
  ends = λ paged program marks q c at. let low = at.pc in ((omega (arith, low), at.holds), refl, tt);
  leaves = λ picked enclosed paged program marks q c at. let low = at.pc in ((omega (arith, low), at.holds), refl, λ cell. refl);
  words = (omega arith, omega arith);
  instrs = [];
  are = record { all = refl; fit = tt; status = tt; last = refl; settings = tt };
  stays = λ k known lie. (tt, known);
}

sum-cons : (f : Op → ℕ) (op : Op) (ops : List Op) → f op + sum_by f ops ≡ sum_by f (op ∷ ops)
sum-cons f op ops = let whole : sum_by f (op ∷ ops) ≡ (0 + f op) + sum_by f ops = sum_by-append f (op ∷ []) ops in omega (arith, whole)

pub one_more_does : (op : Op) (ops : List Op) (need : Needs) (bank mid to : Bank) (xs ys : List Item) → OneMoreDoes op ops need bank mid to xs ys
one_more_does op ops need bank mid to xs ys first second =
    let cs = flat_map cells_of_op (op ∷ ops) in
    let ws = flat_map written_by (op ∷ ops) in
    let N = MeansInOrder (op ∷ ops) in
    subst (λ w. Does cs ws N (sum_by words_of (op ∷ ops)) w need bank to (xs ++ ys)) (sum-cons weight_of op ops)
    (subst (λ m. Does cs ws N m (weight_of op + sum_by weight_of ops) need bank to (xs ++ ys)) (sum-cons words_of op ops)
    (does_both need (cells_of_op op) (written_by op) (flat_map cells_of_op ops) (flat_map written_by ops) (Means op) (MeansInOrder ops)
    (words_of op) (weight_of op) (sum_by words_of ops) (sum_by weight_of ops) bank mid to xs ys first second))

-- What is meant may be said in another way.
does_less : (cs ws : List ℕ) (M N : (ℕ → ℕ) → (ℕ → ℕ) → Type 0) (m w : ℕ) (need : Needs) (bank to : Bank) (xs : List Item)
    → ((a b : ℕ → ℕ) → M a b → N a b) → Does cs ws M m w need bank to xs → Does cs ws N m w need bank to xs
does_less cs ws M N m w need bank to xs less does = record {
  ends = does.ends;
  leaves = λ picked enclosed paged program marks q c at.
      let R = Keeps (IsOperandOrCell need picked) in
      let G = Own (IsOperandOrCell need (is_one_of ws)) c.pc (c.pc + length xs) in
      comes_wider program R R G G
      (λ e. Ended ((c.pc + length xs) % 8192) to e × (e.regs.pclath ≡ c.regs.pclath) × M (bytes_in need picked c) (bytes_in need picked e))
      (λ e. Ended ((c.pc + length xs) % 8192) to e × (e.regs.pclath ≡ c.regs.pclath) × N (bytes_in need picked c) (bytes_in need picked e))
      (λ x y r. r) (λ d done own. own) (λ e p. (p.0, p.1, less (bytes_in need picked c) (bytes_in need picked e) p.2)) (length xs) c
      (does.leaves picked enclosed paged program marks q c at);
  words = does.words;
  instrs = does.instrs;
  are = does.are;
  stays = does.stays;
}

means-parts : (ops more : List Op) (a b : ℕ → ℕ) → Both (MeansInOrder ops) (MeansInOrder more) a b → MeansInOrder (ops ++ more) a b
means-parts [] more a b (x, same, rest) = let e : x ≡ a = λ i cell. same cell i in subst (λ f. MeansInOrder more f b) e rest
means-parts (op ∷ ops) more a b (x, (y, does, others), rest) = (y, does, means-parts ops more y b (x, others, rest))

pub parts_do : (ops more : List Op) (need : Needs) (bank mid to : Bank) (xs ys : List Item) → PartsDo ops more need bank mid to xs ys
parts_do ops more need bank mid to xs ys first second =
    let both = does_both need (flat_map cells_of_op ops) (flat_map written_by ops) (flat_map cells_of_op more) (flat_map written_by more) (MeansInOrder ops) (MeansInOrder more)
    (sum_by words_of ops) (sum_by weight_of ops) (sum_by words_of more) (sum_by weight_of more) bank mid to xs ys first second in
    let N = MeansInOrder (ops ++ more) in
    let cs = flat_map cells_of_op (ops ++ more) in
    let ws = flat_map written_by (ops ++ more) in
    let same = does_less (flat_map cells_of_op ops ++ flat_map cells_of_op more) (flat_map written_by ops ++ flat_map written_by more)
    (Both (MeansInOrder ops) (MeansInOrder more)) N (sum_by words_of ops + sum_by words_of more) (sum_by weight_of ops + sum_by weight_of more) need bank to (xs ++ ys)
    (means-parts ops more) both in
    subst (λ w. Does cs ws N (sum_by words_of (ops ++ more)) w need bank to (xs ++ ys)) (sym (sum_by-append weight_of ops more))
    (subst (λ m. Does cs ws N m (sum_by weight_of ops + sum_by weight_of more) need bank to (xs ++ ys)) (sym (sum_by-append words_of ops more))
    (subst (λ l. Does cs l N (sum_by words_of ops + sum_by words_of more) (sum_by weight_of ops + sum_by weight_of more) need bank to (xs ++ ys)) (sym (flat_map-append written_by ops more))
    (subst (λ l. Does l (flat_map written_by ops ++ flat_map written_by more) N (sum_by words_of ops + sum_by words_of more) (sum_by weight_of ops + sum_by weight_of more) need bank to (xs ++ ys))
    (sym (flat_map-append cells_of_op ops more)) same)))
