-- How many lines the deeds of a run have.
use Rattle.std.proofs.Common.{◌≡◌, ℕ, ◌+◌, ◌*◌, ◌/◌, ◌%◌, ◌<◌, ◌≤◌, ◌==◌, Bool, true, false, nat_lt, if◌then◌else◌, Option, Some, None, List, [], ◌∷◌, ◌++◌, length, refl, sym, ap, subst, arith, inl, inr, length-append}
use Rattle.std.specs.Prelude.{◌⊎◌}
use Rattle.std.specs.Option.{ForSome}
use Rattle.std.proofs.lemmas.Bool.{eqb-true}
use Rattle.pic_regs.specs.declared.places.Place.{Place}
use Rattle.pic_regs.specs.declared.places.Place.TheVariants as place
use Rattle.pic_regs.specs.Bytes.{bit, bits, is_zero}
use Rattle.pic_regs.specs.Places.{reg_of}
use Rattle.code_steps.specs.declared.banks.Bank.{Bank}
use Rattle.code_steps.specs.declared.banks.Bank.TheVariants.{Known, Unknown}
use Rattle.code_acts.specs.Codes.{moved}
use Rattle.glue_steps.specs.declared.lines.Line.{Line}
use Rattle.glue_steps.specs.declared.lines.Line.TheVariants.{Bit, Clear, Constant, Load, Skip, Store}
use Rattle.glue_parts.specs.declared.kept.TheConstants.{REDO}
use Rattle.glue_parts.specs.declared.moves.Move.{Move}
use Rattle.glue_parts.specs.Pieces.{is_known, lines_for, lines_of_change, lines_to_choose, lines_to_copy, only_bit, writing}
use Rattle.glue_parts.specs.Places.{bank_of}
use Rattle.isr_vector.proofs.LineLaws.{few_to_choose}
use Rattle.scratch_commit.specs.Deeds.{Change, Choose, Copy, Deed, Make, SetIf, Write, bank_behind, bank_past, lines_in, lines_of}
use Rattle.scratch_commit.specs.Frames.{bringing, saving}
use Rattle.scratch_commit.specs.Masks.{set_again}
use Rattle.scratch_commit.specs.Plans.{clearing_page, going_home}
use Rattle.scratch_commit.specs.Windows.{copying, window}
use Rattle.scratch_commit.proofs.DeedLaws.{bank_then, lines_then}
use Rattle.run_steps.specs.Spots.{restarting}

-- The choice of a bank is two lines at most; of bank 0 one, where it isn't known to be chosen.
abbrev pub away : Bank → ℕ
away bank = if is_known bank 0 then 0 else 1

pub away_few : (bank : Bank) → away bank ≤ 1
away_few bank = by (is_known bank 0)
  where
    by : (known : Bool) → (if known then 0 else 1) ≤ 1
    by true = omega arith
    by false = omega arith

choice_few : (bank : Bank) (k : ℕ) → length (lines_to_choose bank k) ≤ 2
choice_few bank k = (few_to_choose (λ address. Unit {0}) bank k).count

pub for_few : (bank : Bank) (o : Option ℕ) → length (lines_for bank o) ≤ 2
for_few bank None = omega arith
for_few bank (Some k) = choice_few bank k

home_few : (bank : Bank) → length (lines_to_choose bank 0) ≤ away bank
home_few bank = by (is_known bank 0)
  where
    by : (known : Bool) → length (if known then [] else Clear place.Status ∷ []) ≤ (if known then 0 else 1)
    by true = omega arith
    by false = omega arith

-- From bank 0 bank 1 is one line away.
first_few : (bank : Bank) → length (lines_to_choose bank 1) ≤ 1 + away bank
first_few Unknown = choice_few Unknown 1
first_few (Known k) = by (k == 0) refl
  where
    by : (zero_bank : Bool) → (k == 0) ≡ zero_bank → length (lines_to_choose (Known k) 1) ≤ 1 + (if zero_bank then 0 else 1)
    by true is = let there : length (lines_to_choose (Known 0) 1) ≤ 1 = omega arith in subst (λ n. length (lines_to_choose (Known n) 1) ≤ 1) (sym (eqb-true k 0 is)) there
    by false is = choice_few (Known k) 1

-- A register is in bank 0, or in each.
abbrev pub IsNear : Option ℕ → Type 0
IsNear o = (o ≡ None) ⊎ (o ≡ Some 0)

near_few : (bank : Bank) (o : Option ℕ) → IsNear o → length (lines_for bank o) + away (moved bank o) ≤ away bank
near_few bank o (inl is) = subst (λ o. length (lines_for bank o) + away (moved bank o) ≤ away bank) (sym is) (omega arith)
near_few bank o (inr is) =
    let home = home_few bank in
    subst (λ o. length (lines_for bank o) + away (moved bank o) ≤ away bank) (sym is) (let count : length (lines_to_choose bank 0) + 0 ≤ away bank = omega (arith, home) in count)

abbrev pub Near : Place → Type 0
Near p = IsNear (bank_of (reg_of p))

pub near_plain : (a : ℕ) → a < 128 → Near (place.Plain a)
near_plain a low = by (nat_lt (a % 128) 0x70)
  where
    by : (banked : Bool) → IsNear (if banked then Some (a / 128) else None)
    by true = inr (let first : a / 128 ≡ 0 = omega (arith, low) in ap (λ (k : ℕ). Some k) first)
    by false = inl refl

-- What deeds cost: their lines, where one is lent until bank 0 is chosen again.
abbrev pub Cost : ℕ → Deed → Type 0
Cost n deed = (bank : Bank) → length (lines_of bank deed) + away (bank_behind bank deed) ≤ n + away bank

abbrev pub Costs : ℕ → List Deed → Type 0
Costs n deeds = (bank : Bank) → length (lines_in bank deeds) + away (bank_past bank deeds) ≤ n + away bank

pub cost_none : (n : ℕ) → Costs n []
cost_none n bank = omega arith

pub cost_one : (n : ℕ) (deed : Deed) → Cost n deed → Costs n (deed ∷ [])
cost_one n deed own bank =
    let cost = own bank in
    let same = length-append (lines_of bank deed) [] in
    omega (arith, cost, same)

pub costs_both : (m n : ℕ) (xs ys : List Deed) → Costs m xs → Costs n ys → Costs (m + n) (xs ++ ys)
costs_both m n xs ys first second bank =
    let middle : Bank = bank_past bank xs in
    let one = first bank in
    let two = second middle in
    let lines = ap length (lines_then bank xs ys) in
    let both = length-append (lines_in bank xs) (lines_in middle ys) in
    let behind = ap away (bank_then bank xs ys) in
    omega (arith, one, two, lines, both, behind)

costs_wider : (m n : ℕ) (deeds : List Deed) → m ≤ n → Costs m deeds → Costs n deeds
costs_wider m n deeds wider own bank = let cost = own bank in omega (arith, wider, cost)

-- Whatever deeds leave of the bank.
costs_by : (n : ℕ) (deeds : List Deed) → ((bank : Bank) → length (lines_in bank deeds) ≤ n) → Costs (n + 1) deeds
costs_by n deeds few bank = let lines = few bank in let last = away_few (bank_past bank deeds) in omega (arith, lines, last)

make_cost : (v : Bool) (p : Place) (b : ℕ) → Cost 1 (Make v p b)
make_cost v p b bank = omega arith

pub home_cost : Cost 0 (Choose 0)
home_cost bank = let home = home_few bank in let count : length (lines_to_choose bank 0) + 0 ≤ away bank = omega (arith, home) in omega (arith, count)

-- Copies.
copy_long : (bank : Bank) (from to : Place) → length (lines_to_copy bank from to)
    ≡ length (lines_for bank (bank_of (reg_of from))) + length (lines_for (moved bank (bank_of (reg_of from))) (bank_of (reg_of to))) + 2
copy_long bank from to =
    let first = lines_for bank (bank_of (reg_of from)) in
    let second = lines_for (moved bank (bank_of (reg_of from))) (bank_of (reg_of to)) in
    let all = length-append (first ++ Load from ∷ []) (second ++ Store to ∷ []) in
    let loads = length-append first (Load from ∷ []) in
    let stores = length-append second (Store to ∷ []) in
    omega (arith, all, loads, stores)

copy_few : (bank : Bank) (from to : Place) → length (lines_to_copy bank from to) ≤ 6
copy_few bank from to =
    let long = copy_long bank from to in
    let first = for_few bank (bank_of (reg_of from)) in
    let second = for_few (moved bank (bank_of (reg_of from))) (bank_of (reg_of to)) in
    omega (arith, long, first, second)

copies_few : (bank : Bank) (moves : List Move) → length (lines_in bank (copying moves)) ≤ 6 * length moves
copies_few bank [] = omega arith
copies_few bank (move ∷ moves) =
    let behind = bank_behind bank (Copy move.from move.to) in
    let own = copy_few bank move.from move.to in
    let rest = copies_few behind moves in
    let both = length-append (lines_to_copy bank move.from move.to) (lines_in behind (copying moves)) in
    omega (arith, own, rest, both)

pub window_few : (bank : Bank) (moves : List Move) (tells : Bool) → length (lines_in bank (window moves tells)) ≤ 2 + 6 * length moves
window_few bank [] true = omega arith
window_few bank [] false = omega arith
window_few bank (move ∷ moves) true =
    let copies = copying (move ∷ moves) in
    let lines = ap length (lines_then bank copies (Make true REDO 0 ∷ [])) in
    let both = length-append (lines_in bank copies) (lines_in (bank_past bank copies) (Make true REDO 0 ∷ [])) in
    let few = copies_few bank (move ∷ moves) in
    omega (arith, lines, both, few)
window_few bank (move ∷ moves) false =
    let copies = copying (move ∷ moves) in
    let lines = ap length (lines_then bank copies []) in
    let both = length-append (lines_in bank copies) [] in
    let few = copies_few bank (move ∷ moves) in
    omega (arith, lines, both, few)

pub saving_cost : (register : Place) (o : Option Place) → Costs 7 (saving register o)
saving_cost register None = cost_none 7
saving_cost register (Some p) =
    costs_by 6 (Copy register p ∷ [])
    (λ bank. let few = copy_few bank register p in let same = length-append (lines_to_copy bank register p) [] in omega (arith, few, same))

-- Registers of enables, in bank 1, which are made a byte or brought back from near.
apart_few : (bank : Bank) (p to : Place) → Near p → bank_of (reg_of to) ≡ Some 1 → length (lines_to_copy bank p to) ≤ 3 + away bank
apart_few bank p to near apart =
    let between : Bank = moved bank (bank_of (reg_of p)) in
    let long = copy_long bank p to in
    let first = near_few bank (bank_of (reg_of p)) near in
    let second : length (lines_for between (bank_of (reg_of to))) ≤ 1 + away between = subst (λ o. length (lines_for between o) ≤ 1 + away between) (sym apart) (first_few between) in
    omega (arith, long, first, second)

writing_few : (p : Place) (byte : ℕ) → length (writing p byte) ≤ 2
writing_few p byte = by (is_zero (bits byte))
  where
    by : (none : Bool) → length (if none then Clear p ∷ [] else Constant byte ∷ Store p ∷ []) ≤ 2
    by true = omega arith
    by false = omega arith

pub change_cost : (p : Place) (changing byte : ℕ) → bank_of (reg_of p) ≡ Some 1 → Cost 4 (Change p changing byte)
change_cost p changing byte apart bank = by (is_zero (bits changing))
  where
    choice : length (lines_for bank (bank_of (reg_of p))) ≤ 1 + away bank
    choice = subst (λ o. length (lines_for bank o) ≤ 1 + away bank) (sym apart) (first_few bank)

    changed : (single : Option ℕ) → length (lines_of_change single bank p byte) ≤ 3 + away bank
    changed None = let both = length-append (lines_for bank (bank_of (reg_of p))) (writing p byte) in let few = writing_few p byte in omega (arith, choice, both, few)
    changed (Some b) = let both = length-append (lines_for bank (bank_of (reg_of p))) (Bit (bit b (bits byte)) p b ∷ []) in omega (arith, choice, both)

    by : (none : Bool) → length (if none then [] else lines_of_change (only_bit changing) bank p byte) + away (if none then bank else moved bank (bank_of (reg_of p))) ≤ 4 + away bank
    by true = omega arith
    by false = let lines = changed (only_bit changing) in let last = away_few (moved bank (bank_of (reg_of p))) in omega (arith, lines, last)

pub pie1_cost : (p : Place) → Near p → Cost 4 (Copy p place.Pie1)
pie1_cost p near bank = let few = apart_few bank p place.Pie1 near refl in omega (arith, few)

pub pie2_cost : (p : Place) → Near p → Cost 4 (Copy p place.Pie2)
pie2_cost p near bank = let few = apart_few bank p place.Pie2 near refl in omega (arith, few)

-- Bits of INTCON.
pub again_cost : (b : ℕ) (set sure : Bool) (o : Option Place) → ForSome o Near → Costs 2 (if set then set_again o sure b ∷ [] else [])
again_cost b true sure None near = costs_wider 1 2 (Make true place.Intcon b ∷ []) (omega arith) (cost_one 1 (Make true place.Intcon b) (make_cost true place.Intcon b))
again_cost b true true (Some p) near = costs_wider 1 2 (Make true place.Intcon b ∷ []) (omega arith) (cost_one 1 (Make true place.Intcon b) (make_cost true place.Intcon b))
again_cost b true false (Some p) near = cost_one 2 (SetIf p b) (λ bank.
    let choice : List Line = lines_for bank (bank_of (reg_of p)) in
    let first = near_few bank (bank_of (reg_of p)) (near p refl) in
    let all = length-append (choice ++ Skip false p b ∷ []) (Bit true place.Intcon b ∷ []) in
    let both = length-append choice (Skip false p b ∷ []) in
    omega (arith, first, all, both))
again_cost b false sure o near = cost_none 2

pub mask_cost : (b : ℕ) (set : Bool) → Costs 1 (if set then Make false place.Intcon b ∷ [] else [])
mask_cost b true = cost_one 1 (Make false place.Intcon b) (make_cost false place.Intcon b)
mask_cost b false = cost_none 1

-- PCLATH and STATUS. Behind STATUS the bank isn't known.
pub clearing_cost : (clears : Bool) → Costs 1 (clearing_page clears)
clearing_cost true = cost_one 1 (Write place.Pclath 0) (λ bank. omega arith)
clearing_cost false = cost_none 1

page_cost : (p : Place) → Near p → Cost 2 (Copy p place.Pclath)
page_cost p near bank = let long = copy_long bank p place.Pclath in let first = near_few bank (bank_of (reg_of p)) near in omega (arith, long, first)

status_cost : (p : Place) → Near p → Cost 3 (Copy p place.Status)
status_cost p near bank = let long = copy_long bank p place.Status in let first = near_few bank (bank_of (reg_of p)) near in omega (arith, long, first)

pub ends_few : (page status : Option Place) → ForSome page Near → ForSome status Near → (bank : Bank)
    → length (lines_in bank ((bringing place.Pclath page ++ bringing place.Status status) ++ going_home status)) ≤ 4 + away bank
ends_few None None first second bank = let cost = cost_one 0 (Choose 0) home_cost bank in omega (arith, cost)
ends_few None (Some p) first second bank = let cost = cost_one 3 (Copy p place.Status) (status_cost p (second p refl)) bank in omega (arith, cost)
ends_few (Some q) None first second bank =
    let cost = costs_both 2 0 (Copy q place.Pclath ∷ []) (Choose 0 ∷ []) (cost_one 2 (Copy q place.Pclath) (page_cost q (first q refl))) (cost_one 0 (Choose 0) home_cost) bank in
    omega (arith, cost)
ends_few (Some q) (Some p) first second bank =
    let cost = costs_both 2 3 (Copy q place.Pclath ∷ []) (Copy p place.Status ∷ []) (cost_one 2 (Copy q place.Pclath) (page_cost q (first q refl)))
    (cost_one 3 (Copy p place.Status) (status_cost p (second p refl))) bank in
    omega (arith, cost)

-- What is done before work with a lock.
pub restarting_cost : Costs 1 restarting
restarting_cost = costs_both 0 1 (Choose 0 ∷ []) (Write REDO 0 ∷ []) (cost_one 0 (Choose 0) home_cost) (cost_one 1 (Write REDO 0) (λ bank. omega arith))
