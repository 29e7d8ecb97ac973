-- The code of a right template does its operation.
use Rattle.std.proofs.Common.{◌≡◌, ℕ, ◌+◌, ◌%◌, ◌≤◌, ◌⊎◌, Bool, true, false, if◌then◌else◌, None, List, map, length, ap, ◌∙◌, sym, refl, subst, arith, inl, inr}
use Rattle.std.proofs.lemmas.List.{length-map}
use Rattle.std.specs.List.{AllByRecursion}
use Rattle.pic_isa.specs.declared.instructions.Instr.{Instr}
use Rattle.pic_regs.specs.Bytes.{Byte, num}
use Rattle.pic_machine.specs.Chip.{Chip}
use Rattle.pic_machine.specs.Results.{Done}
use Rattle.byte_ops.specs.declared.operations.Op.{Op}
use Rattle.byte_ops.specs.Meaning.{HasBools, Means, read_by, result_in, value_of, written_by}
use Rattle.byte_ops.specs.Weights.{weight_of}
use Rattle.bank_alloc.specs.declared.needs.Needs.{Needs}
use Rattle.bank_alloc.specs.Needs.{bytes_of}
use Rattle.bank_alloc.specs.Addresses.{address_of}
use Rattle.code_steps.specs.declared.banks.Bank.{Bank}
use Rattle.code_steps.specs.declared.banks.Bank.TheVariants.{Known}
use Rattle.code_steps.specs.Steps.{Comes}
use Rattle.code_steps.specs.Between.{Others, Keeps}
use Rattle.code_steps.specs.Ends.{Own, Ended}
use Rattle.code_steps.proofs.ComesLaws.{comes_wider, comes_keeping}
use Rattle.code_steps.proofs.OwnLaws.{own_wider}
use Rattle.code_steps.proofs.BetweenLaws.{keeps_fewer}
use Rattle.code_items.specs.declared.items.Item.TheVariants.{Ins}
use Rattle.code_acts.specs.declared.acts.Act.{Act}
use Rattle.code_acts.specs.Acts.{State, run}
use Rattle.code_acts.specs.Codes.{bank_after, code, is_operand, sound, words}
use Rattle.code_acts.specs.Laws.{sets_bank}
use Rattle.code_acts.specs.Standing.{AtStart, Like, PlacesOf, view}
use Rattle.code_acts.proofs.CodeLaws.{instrs_fit, sets_none, skips_well, words_at_most}
use Rattle.code_acts.proofs.EndLaws.{ends_anywhere, leaves}
use Rattle.code_acts.proofs.PlaceLaws.{keeps_pclath, misses_pclath}
use Rattle.byte_ops.specs.Kinds.{IsOp}
use Rattle.byte_ops.specs.declared.operations.Op.TheVariants.{Product}
use Rattle.product_templates.specs.Templates.{product_template}
use Rattle.product_templates.specs.Laws.{bound_of}
use Rattle.product_templates.proofs.TemplateLaws.{are_short, are_sound, template_does}
use Rattle.op_templates.specs.Templates.{named}
use Rattle.op_templates.proofs.TemplateLaws.{has-template}
use Rattle.op_templates.specs.Laws.{HasByte, uses, writes, values, values_after}
use Rattle.op_code.specs.Laws.{IsOpOn}
use Rattle.op_code.specs.Named.{cell_at, named_by}
use Rattle.op_code.specs.Operations.{ComesTo, DoesOp, Encloses, IsOperandOrCell, StaysIn, bytes_in, cells_of_op, is_one_of}
use Rattle.op_code.specs.Templates.{acts_of, words_of}
use Rattle.op_code.proofs.OrderLaws.{And, of_instrs}
use Rattle.op_code.proofs.StatusFacts.{instrs_name}
use Rattle.op_code.proofs.NameFacts.{all_of, at_each, bools-cells, not_one, or_right, place-cell, result-cells, value-cells, read_far, read_used, written_far}
use Rattle.op_code.proofs.PlaceFacts.{acts_lie, cell_missed, may_write, named_placed, of_used, place_for, uses_picked, written_are_used}

-- What instructions come to, as items come to it.
as_items : (R : Chip → Chip → Type 0) (may also : ℕ → Type 0) (bank to : Bank) (instrs : List Instr) (Post : Chip → Chip → Type 0)
    → ((c d : Chip) → R c d → d.regs.pclath ≡ c.regs.pclath) → (may 0x00A → ⊥) → ((address : ℕ) → may address → also address)
    → ((program : ℕ → ℕ) (c : Chip) → AtStart program bank instrs c
    → Comes program R (Own may c.pc (c.pc + length instrs)) (λ e. Ended ((c.pc + length instrs) % 8192) to e × Post c e) (length instrs) c)
    → ComesTo R also bank to (map Ins instrs) Post
as_items R may also bank to instrs Post between missed more come = of_instrs R also bank to instrs Post (λ program c at.
    let stop = c.pc + length instrs in
    let kept = keeps_pclath program R may c.pc stop (λ e. Ended (stop % 8192) to e × Post c e) between missed (length instrs) c (come program c at) in
    comes_wider program R R (Own may c.pc stop) (Own also c.pc stop) (λ e. (Ended (stop % 8192) to e × Post c e) × (e.regs.pclath ≡ c.regs.pclath))
    (λ e. Ended (stop % 8192) to e × And Post c e)
    (λ x y r. r)
    (own_wider may also c.pc stop c.pc stop more (omega arith) (omega arith))
    (λ e p. (p.0.0, (p.1, p.0.1)))
    (length instrs)
    c
    kept)

-- Acts are right for an operation: they give its value, are sound and few.
pub record IsRight (op : Op) (acts : List Act) : Type 0 where
  pub does : (s : State) → s.skip ≡ false → HasBools (named op) (values s) → result_in (named op) (values_after s (run acts s)) ≡ value_of (named op) (values s)
  pub is_sound : sound (uses op) (writes op) None false acts ≡ true
  pub within : (words None acts ≤ words_of op) × (words_of op ≤ weight_of op)

same_where : (b : Bool) (x y : ℕ) → (b ≡ true → x ≡ y) → (if b then x else 0) ≡ (if b then y else 0)
same_where true x y h = h refl
same_where false x y h = refl

if_false : (b : Bool) (x y : ℕ) → b ≡ false → (if b then x else y) ≡ y
if_false true x y h = absurd (cc)
if_false false x y h = refl

if_true : (b : Bool) (x y : ℕ) → b ≡ true → (if b then x else y) ≡ x
if_true true x y h = refl
if_true false x y h = absurd (cc)

step_keeps : (d now before : Byte) (may : Type 0) → (may → ⊥) → (now ≡ d) ⊎ may → d ≡ before → now ≡ before
step_keeps d now before may missed (inl same) so_far = same ∙ so_far
step_keeps d now before may missed (inr wrote) so_far = absurd (missed wrote)

module _ (need : Needs) (op : Op) (acts : List Act) (fits : bytes_of need ≤ 352) (on : IsOpOn (bytes_of need) op) (right : IsRight op acts) (bank : Bank) where
  abbrev instrs : List Instr
  instrs = code (place_for need op) bank acts

  abbrev to : Bank
  to = bank_after (place_for need op) bank acts

  abbrev May : ℕ → Type 0
  May = IsOperandOrCell need (is_one_of (written_by op))

  missed : PlacesOf (writes op) (place_for need op) 0x00A → ⊥
  missed = misses_pclath (uses op) (writes op) (place_for need op) (named_placed need op fits on) (written_are_used need op fits on)

  does_end : ComesTo Others May bank to (map Ins instrs) (λ c e. Unit {0})
  does_end =
      as_items Others (PlacesOf (writes op) (place_for need op)) May bank to instrs (λ c e. Unit {0}) (λ c d r. r.pclath) missed (may_write need op fits on)
      (λ program c at.
      let stop = c.pc + length instrs in
      let G : Chip → Done → Type 0 = Own (PlacesOf (writes op) (place_for need op)) c.pc stop in
      comes_wider program Others Others G G (Ended (stop % 8192) to) (λ e. Ended (stop % 8192) to e × Unit {0})
      (λ x y r. r) (λ d done step. step) (λ e p. (p, tt)) (length instrs) c
      (ends_anywhere (uses op) (writes op) (place_for need op) bank acts (named_placed need op fits on) right.is_sound program c at))

  module _ (picked : ℕ → Bool) (enclosed : Encloses need (cells_of_op op) picked) where
    abbrev Between : Chip → Chip → Type 0
    Between = Keeps (IsOperandOrCell need picked)

    -- Each picked cell that the operation doesn't write is kept.
    abbrev Kept : Chip → Chip → Type 0
    Kept c e =
        (cell : ℕ) → picked cell ≡ true → is_one_of (written_by op) cell ≡ false → e.regs.plain (address_of need cell) ≡ c.regs.plain (address_of need cell)

    kept_between : (c x d : Chip) → Between x d → Kept c x → Kept c d
    kept_between c x d r so_far cell is not = r.cells (address_of need cell) (inr ((cell, enclosed.placed cell is, is, refl))) ∙ so_far cell is not

    kept_by_step : (c : Chip) (start stop : ℕ) (d : Chip) (done : Done) → Own (PlacesOf (writes op) (place_for need op)) start stop d done → Kept c d → Kept c done.chip
    kept_by_step c start stop d done step so_far cell is not =
        let address = address_of need cell in
        step_keeps (d.regs.plain address) (done.chip.regs.plain address) (c.regs.plain address) (PlacesOf (writes op) (place_for need op) address)
        (λ may. cell_missed need op fits on cell (enclosed.placed cell is) not (may_write need op fits on address may))
        (step.plain address)
        (so_far cell is not)

    -- A name that the operation uses holds what its cell holds.
    name_held : (c : Chip) (n : ℕ) → is_operand n ≡ false → uses op n ≡ true
        → num (c.regs.plain (place_for need op n)) ≡ bytes_in need picked c (cell_at (named_by op) n)
    name_held c n far used =
        let cell = cell_at (named_by op) n in
        ap (λ a. num (c.regs.plain a)) (place-cell need (named_by op) n far)
        ∙ sym (if_true (picked cell) (num (c.regs.plain (address_of need cell))) 0 (of_used need op fits on (λ x. picked x ≡ true) enclosed.own n far used))

    read_held : (c : Chip) (n : ℕ) → is_one_of (read_by (named op)) n ≡ true
        → values (view (place_for need op) c) n ≡ bytes_in need picked c (cell_at (named_by op) n)
    read_held c n one = name_held c n (at_each (λ m. is_operand m ≡ false) (read_by (named op)) n (read_far op) one) (read_used op n one)

    written_held : (c e : Chip) → Like (uses op) (run acts (view (place_for need op) c)) (view (place_for need op) e)
        → (n : ℕ) → is_one_of (written_by (named op)) n ≡ true
        → values_after (view (place_for need op) c) (run acts (view (place_for need op) c)) n ≡ bytes_in need picked e (cell_at (named_by op) n)
    written_held c e like n one =
        let s = view (place_for need op) c in
        let far = at_each (λ m. is_operand m ≡ false) (written_by (named op)) n (written_far op) one in
        let used : uses op n ≡ true = written_are_used need op fits on n (or_right (is_operand n) (is_one_of (written_by (named op)) n) one) in
        if_false (is_operand n) (values s n) (values (run acts s) n) far ∙ ap num (like.mem n used) ∙ name_held e n far used

    does_mean : (c e : Chip) → Like (uses op) (run acts (view (place_for need op) c)) (view (place_for need op) e) → Kept c e
        → Means op (bytes_in need picked c) (bytes_in need picked e)
    does_mean c e like kept =
        let s = view (place_for need op) c in
        let agree = all_of _ (read_by (named op)) (read_held c) in (
          λ bools. sym (result-cells op (values_after s (run acts s)) (bytes_in need picked e) (all_of _ (written_by (named op)) (written_held c e like)))
              ∙ right.does s refl (bools-cells (values s) (bytes_in need picked c) op agree bools)
              ∙ value-cells (values s) (bytes_in need picked c) op agree,
          λ cell not. same_where (picked cell) (num (e.regs.plain (address_of need cell))) (num (c.regs.plain (address_of need cell)))
              (λ is. ap num (kept cell is (not_one (written_by op) cell not))),
        )

    does_leave : ComesTo Between May bank to (map Ins instrs) (λ c e. Means op (bytes_in need picked c) (bytes_in need picked e))
    does_leave =
        as_items Between (PlacesOf (writes op) (place_for need op)) May bank to instrs (λ c e. Means op (bytes_in need picked c) (bytes_in need picked e))
        (λ c d r. r.pclath) missed (may_write need op fits on)
        (λ program c at.
        let stop = c.pc + length instrs in
        let G : Chip → Done → Type 0 = Own (PlacesOf (writes op) (place_for need op)) c.pc stop in
        let End : Chip → Type 0 = λ e. Ended (stop % 8192) to e × Like (uses op) (run acts (view (place_for need op) c)) (view (place_for need op) e) in
        let come = leaves (uses op) (writes op) (place_for need op) bank acts (named_placed need op fits on) right.is_sound program c at in
        let among = comes_wider program (Keeps (PlacesOf (uses op) (place_for need op))) Between G G End End
        (λ x y r. keeps_fewer (IsOperandOrCell need picked) (PlacesOf (uses op) (place_for need op)) x y (uses_picked need op fits on picked enclosed.own) r)
        (λ d done step. step) (λ e p. p) (length instrs) c come in
        let kept = comes_keeping program Between G End (Kept c) (kept_between c) (kept_by_step c c.pc stop) (length instrs) c (λ cell is not. refl) among in
        comes_wider program Between Between G G (λ e. End e × Kept c e) (λ e. Ended (stop % 8192) to e × Means op (bytes_in need picked c) (bytes_in need picked e))
        (λ x y r. r) (λ d done step. step) (λ e p. (p.0.0, does_mean c e p.0.1 p.1)) (length instrs) c kept)

  does_stay : StaysIn (cells_of_op op) need bank to instrs
  does_stay k known lie =
      let here = sets_none (place_for need op) k acts (acts_lie need op fits on k lie None false acts right.is_sound) in (
        subst (λ b. AllByRecursion (λ i. sets_bank i ≡ false) (code (place_for need op) b acts)) (sym known) here.0,
        subst (λ b. bank_after (place_for need op) b acts ≡ Known k) (sym known) here.1,
      )

  pub code_does : DoesOp op need bank to (map Ins instrs)
  code_does =
      let few = words_at_most (place_for need op) None bank acts tt in
      let within = right.within in
      let count : length (map Ins instrs) ≡ length instrs = length-map instrs Ins in
      let skips = skips_well (uses op) (writes op) (place_for need op) None false bank acts right.is_sound tt in
      record {
        ends = does_end;
        leaves = does_leave;
        words = (omega (arith, few, within.0, count), within.1);
        instrs = instrs;
        are = record {
          all = refl;
          fit = instrs_fit (uses op) (writes op) (place_for need op) (named_placed need op fits on) None false bank acts right.is_sound;
          status = instrs_name (uses op) (writes op) (place_for need op) (named_placed need op fits on) None false bank acts right.is_sound;
          last = skips.0;
          settings = skips.1;
        };
        stays = does_stay;
      }

-- The acts of each operation are right.
pub right_acts : (op : Op) → IsOp op → HasByte op → IsRight op (acts_of op)
right_acts (Product f wide target a b) kind byte =
    let short = are_short f wide kind in
    let exact : words None (product_template f wide) ≡ bound_of f wide = short.0 in
    record {
      does = λ s none. (template_does f wide s kind none).0.0;
      is_sound = (are_sound f wide kind).1;
      within = (omega (arith, exact), short.1);
    }
right_acts op kind byte =
    let template = has-template op kind byte refl in
    record { does = λ s none. (template.does s none).0; is_sound = template.is_sound; within = template.within }
