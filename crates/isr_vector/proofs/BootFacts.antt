-- Lines of the boot as the code adds them, one piece after another.
use Rattle.std.proofs.Common.{◌≡◌, ℕ, suc, ◌+◌, ◌<◌, Bool, true, if◌then◌else◌, Some, None, List, [], ◌∷◌, ◌++◌, length, map, drop, get_or, refl, sym, ap, ap₂, subst, ◌∙◌, append_assoc, append-nil, add-one, drop-cons}
use Rattle.std.specs.List.{flat_map}
use Rattle.frp_tree.specs.declared.syntax.Setup.{Setup}
use Rattle.frp_tree.specs.declared.syntax.Ty.{Ty}
use Rattle.frp_tree.specs.declared.syntax.Ty.TheVariants as ty
use Rattle.frp_tree.specs.declared.syntax.Value.{Value}
use Rattle.frp_tree.specs.declared.syntax.Value.TheVariants as value
use Rattle.frp_tree.specs.Tree.{DeclTree, ProgramTree}
use Rattle.efrp_meaning.specs.Decls.{reactive_decls}
use Rattle.efrp_meaning.specs.Meaning.{initial_state}
use Rattle.efrp_meaning.specs.Values.{number_of}
use Rattle.reaction_model.specs.States.{IsOf, AreOf, HasTypes, numbers_of}
use Rattle.reaction_model.specs.Values.{type_of_value}
use Rattle.pic_isa.specs.Names.{register_at}
use Rattle.pic_regs.specs.declared.places.Place.{Place}
use Rattle.pic_regs.specs.declared.places.Place.TheVariants as place
use Rattle.pic_regs.specs.Bytes.{bit, bits}
use Rattle.pic_regs.specs.Map.{reg_at}
use Rattle.pic_regs.specs.Places.{reg_of}
use Rattle.bank_alloc.specs.declared.needs.Needs.{Needs}
use Rattle.priority_masks.specs.declared.tables.Enables.{Enables}
use Rattle.code_steps.specs.declared.banks.Bank.{Bank}
use Rattle.code_steps.specs.declared.banks.Bank.TheVariants.{Known}
use Rattle.code_acts.specs.Codes.{moved}
use Rattle.glue_steps.specs.declared.lines.Line.{Line}
use Rattle.glue_steps.specs.declared.lines.Line.TheVariants.{Bit}
use Rattle.glue_parts.specs.declared.stretches.Stretch.{Stretch}
use Rattle.glue_parts.specs.Places.{bank_of, named}
use Rattle.glue_parts.specs.Pieces.{Adds, lines_to_write}
use Rattle.isr_vector.specs.Booting.{Write, lines_of_writes, bank_written, bytes_of_value, bytes_of_values, cell_writes, write_at, setup_writes, boot_writes, first_bytes, enable_line, enable_lines}
use Rattle.isr_vector.proofs.StateLaws.{first-is}

-- Those of all values of a state are the state's.
type_is : (t : Ty) (v : Value) → IsOf t v → t ≡ type_of_value v
type_is ty.Bool (value.Bool b) is = refl
type_is ty.U8 (value.U8 n) is = refl
type_is ty.U16 (value.U16 n) is = refl
type_is ty.Bool (value.U8 n) is = absurd is
type_is ty.Bool (value.U16 n) is = absurd is
type_is ty.U8 (value.Bool b) is = absurd is
type_is ty.U8 (value.U16 n) is = absurd is
type_is ty.U16 (value.Bool b) is = absurd is
type_is ty.U16 (value.U8 n) is = absurd is

values-bytes : (ds : List DeclTree) (vs : List Value) → AreOf (map (λ (d : DeclTree). d.ty) ds) vs
    → flat_map (λ (v : Value). bytes_of_value (type_of_value v) (number_of v)) vs ≡ bytes_of_values ds (numbers_of vs)
values-bytes [] [] are = refl
values-bytes (d ∷ ds) (v ∷ vs) are =
    ap₂ (λ xs ys. xs ++ ys) (sym (ap (λ t. bytes_of_value t (number_of v)) (type_is d.ty v are.0))) (values-bytes ds vs are.1)
values-bytes [] (v ∷ vs) are = absurd are
values-bytes (d ∷ ds) [] are = absurd are

pub first-bytes : (p : ProgramTree) (vs : List Value) → initial_state p ≡ Some (numbers_of vs) → HasTypes p vs
    → flat_map (λ (v : Value). bytes_of_value (type_of_value v) (number_of v)) vs ≡ first_bytes p
first-bytes p vs is types = values-bytes (reactive_decls p) vs types ∙ sym (first-is p (numbers_of vs) is)

-- Writes that are added so far, and those to come, are all.
pub record ToCome (now : Stretch) (rest : List Write) (first : Stretch) (all : List Write) : Type 0 where
  pub lines : now.lines.items ++ lines_of_writes now.bank rest ≡ first.lines.items ++ lines_of_writes first.bank all
  pub bank : bank_written now.bank rest ≡ bank_written first.bank all

one_more : (w : Write) (rest : List Write) (now later first : Stretch) (all : List Write) → Adds now (lines_to_write now.bank w.place w.byte) (moved now.bank (bank_of (reg_of w.place))) later
    → ToCome now (w ∷ rest) first all → ToCome later rest first all
one_more w rest now later first all adds come =
    let there = moved now.bank (bank_of (reg_of w.place)) in record {
      lines = ap₂ (λ xs b. xs ++ lines_of_writes b rest) adds.lines adds.bank ∙ append_assoc now.lines.items (lines_to_write now.bank w.place w.byte) (lines_of_writes there rest) ∙ come.lines;
      bank = ap (λ b. bank_written b rest) adds.bank ∙ come.bank;
    }

named_back : (p : Place) → named (reg_of p) ≡ p
named_back place.Absent = refl
named_back _ = refl

-- The writes of the setups from one on.
setups_from : (setups : List Setup) (i : ℕ) (s : Setup) → i < length setups → s ≡ get_or setups i s
    → setup_writes (drop i setups) ≡ write_at (register_at s.register) s.byte ++ setup_writes (drop (i + 1) setups)
setups_from setups i s inside item =
    rw add-one (ap setup_writes (drop-cons setups i s inside) ∙ ap (λ (u : Setup). write_at (register_at u.register) u.byte ++ setup_writes (drop (suc i) setups)) (sym item))

pub one_setup : (setups : List Setup) (i address : ℕ) (s : Setup) (p : Place) (now new later first : Stretch) (all : List Write) → i < length setups → s ≡ get_or setups i s
    → register_at s.register ≡ Some address → reg_of p ≡ reg_at address → later ≡ new
    → Adds now (lines_to_write now.bank p s.byte) (moved now.bank (bank_of (reg_of p))) new
    → ToCome now (setup_writes (drop i setups)) first all → ToCome later (setup_writes (drop (i + 1) setups)) first all
one_setup setups i address s p now new later first all inside item found at is adds come =
    let w : Write = record { place = named (reg_at address); byte = s.byte } in
    let same : p ≡ named (reg_at address) = sym (named_back p) ∙ ap named at in
    subst (λ (l : Stretch). ToCome l (setup_writes (drop (i + 1) setups)) first all) (sym is)
    (one_more w (setup_writes (drop (i + 1) setups)) now new first all
    (subst (λ (q : Place). Adds now (lines_to_write now.bank q s.byte) (moved now.bank (bank_of (reg_of q))) new) same adds)
    (subst (λ ws. ToCome now ws first all) (setups_from setups i s inside item ∙ ap (λ o. write_at o s.byte ++ setup_writes (drop (i + 1) setups)) found) come))

pub no_setup : (setups : List Setup) (i : ℕ) (s : Setup) (now later first : Stretch) (all : List Write) → i < length setups → s ≡ get_or setups i s
    → register_at s.register ≡ None → later ≡ now
    → ToCome now (setup_writes (drop i setups)) first all → ToCome later (setup_writes (drop (i + 1) setups)) first all
no_setup setups i s now later first all inside item found same come =
    subst (λ (l : Stretch). ToCome l (setup_writes (drop (i + 1) setups)) first all) (sym same)
    (subst (λ ws. ToCome now ws first all) (setups_from setups i s inside item ∙ ap (λ o. write_at o s.byte ++ setup_writes (drop (i + 1) setups)) found) come)

-- An enable's line, by its bit.
pub enable_by : (enables : Enables) (b : ℕ) (v : Bool) (old new : Stretch) → bit b (bits enables.intcon) ≡ v → Adds old (if v then Bit true place.Intcon b ∷ [] else []) old.bank new
    → Adds old (enable_line enables b) old.bank new
enable_by enables b v old new is adds = subst (λ t. Adds old (if t then Bit true place.Intcon b ∷ [] else []) old.bank new) (sym is) adds

pub adds_none : (old : Stretch) → Adds old [] old.bank old
adds_none old = record { lines = sym (append-nil old.lines.items); bank = refl }

-- One piece is added behind another.
pub adds_next : (lines : Bank → List Line) (behind : Bank → Bank) (bank : Bank) (xs : List Line) (first now later : Stretch) → Adds first xs bank now
    → Adds now (lines now.bank) (behind now.bank) later → Adds first (xs ++ lines bank) (behind bank) later
adds_next lines behind bank xs first now later before adds = record {
  lines = adds.lines ∙ ap₂ (λ ys b. ys ++ lines b) before.lines before.bank ∙ append_assoc first.lines.items xs (lines bank);
  bank = adds.bank ∙ ap behind before.bank;
}

-- Writes in two parts.
lines-parts : (bank : Bank) (xs ys : List Write) → lines_of_writes bank (xs ++ ys) ≡ lines_of_writes bank xs ++ lines_of_writes (bank_written bank xs) ys
lines-parts bank [] ys = refl
lines-parts bank (w ∷ xs) ys =
    let there = moved bank (bank_of (reg_of w.place)) in
    let own = lines_to_write bank w.place w.byte in
    ap (λ q. own ++ q) (lines-parts there xs ys) ∙ sym (append_assoc own (lines_of_writes there xs) (lines_of_writes (bank_written there xs) ys))

bank-parts : (bank : Bank) (xs ys : List Write) → bank_written bank (xs ++ ys) ≡ bank_written (bank_written bank xs) ys
bank-parts bank [] ys = refl
bank-parts bank (w ∷ xs) ys = bank-parts (moved bank (bank_of (reg_of w.place))) xs ys

-- All lines of the boot, before it is filled up.
pub boot_added : (p : ProgramTree) (need : Needs) (enables : Enables) (bytes : List ℕ) (setups : List Setup) (s0 s1 s2 s3 : Stretch) → s0.lines.items ≡ [] → s0.bank ≡ Known 0
    → bytes ≡ first_bytes p → setups ≡ p.setups
    → Adds s0 (lines_of_writes s0.bank (cell_writes need 0 bytes)) (bank_written s0.bank (cell_writes need 0 bytes)) s1
    → Adds s1 (lines_of_writes s1.bank (setup_writes setups)) (bank_written s1.bank (setup_writes setups)) s2
    → Adds s2 (enable_lines s2.bank enables) (Known 0) s3
    → s3.lines.items ≡ lines_of_writes (Known 0) (boot_writes p need) ++ enable_lines (bank_written (Known 0) (boot_writes p need)) enables
boot_added p need enables bytes setups s0 s1 s2 s3 none known is all states then_setups then_enables =
    let cells = cell_writes need 0 bytes in
    let two = adds_next (λ bank. lines_of_writes bank (setup_writes setups)) (λ bank. bank_written bank (setup_writes setups)) (bank_written s0.bank cells) (lines_of_writes s0.bank cells) s0 s1 s2 states then_setups in
    let three = adds_next (λ bank. enable_lines bank enables) (λ bank. Known 0) (bank_written (bank_written s0.bank cells) (setup_writes setups))
    (lines_of_writes s0.bank cells ++ lines_of_writes (bank_written s0.bank cells) (setup_writes setups)) s0 s2 s3 two then_enables in
    three.lines
    ∙ ap₂ (λ xs bank. xs ++ (lines_of_writes bank cells ++ lines_of_writes (bank_written bank cells) (setup_writes setups) ++ enable_lines (bank_written (bank_written bank cells) (setup_writes setups)) enables)) none known
    ∙ ap₂ (λ xs bank. xs ++ enable_lines bank enables) (sym (lines-parts (Known 0) cells (setup_writes setups))) (sym (bank-parts (Known 0) cells (setup_writes setups)))
    ∙ ap₂ (λ bs ss. lines_of_writes (Known 0) (cell_writes need 0 bs ++ setup_writes ss) ++ enable_lines (bank_written (Known 0) (cell_writes need 0 bs ++ setup_writes ss)) enables) is all
