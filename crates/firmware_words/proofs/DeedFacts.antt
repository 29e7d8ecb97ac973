-- How many lines the deeds of a run have, and that their constants and bits are in range.
use Rattle.std.proofs.Common.{◌≡◌, ℕ, ◌+◌, ◌*◌, ◌<◌, ◌≤◌, Bool, true, false, if◌then◌else◌, Option, Some, None, List, [], ◌∷◌, ◌++◌, length, refl, sym, subst, append-nil, arith, lit<}
use Rattle.pic_isa.specs.declared.bits.TheConstants.{GIE, INTE, PEIE, T0IE}
use Rattle.pic_isa.specs.declared.sources.Source.{Source}
use Rattle.pic_regs.specs.declared.places.Place.{Place}
use Rattle.pic_regs.specs.declared.places.Place.TheVariants as place
use Rattle.pic_regs.specs.Bytes.{bit, bits}
use Rattle.code_steps.specs.declared.banks.Bank.{Bank}
use Rattle.glue_steps.specs.declared.lines.Line.TheVariants.{Bit, Nothing}
use Rattle.glue_parts.specs.declared.kept.TheConstants.{REDO, SAVED_PCLATH, SAVED_STATUS}
use Rattle.glue_parts.specs.declared.moves.Move.{Move}
use Rattle.glue_parts.specs.Pieces.{lines_to_skip}
use Rattle.scratch_commit.specs.declared.frames.Frame.{Frame}
use Rattle.scratch_commit.specs.declared.kinds.Kind.{Kind}
use Rattle.scratch_commit.specs.Deeds.{Change, Choose, Copy, Deed, LowerFlag, Make, Pause, SetIf, Write, bank_past, lines_in, lines_of}
use Rattle.scratch_commit.specs.Frames.{bringing, bringing_back, is_between, saving, saving_context, saving_enables, unmasking}
use Rattle.scratch_commit.specs.Masks.{mask_bit, masking, set_again, unmask_bit, unmask_register}
use Rattle.scratch_commit.specs.Plans.{Plan, beginning, clearing_page, entering, going_home, masks_in, returning, starting}
use Rattle.scratch_commit.specs.Windows.{copying, window}
use Rattle.scratch_commit.proofs.DeedLaws.{lines_then}
use Rattle.firmware_words.proofs.LineFacts.{Small, small_both, small_none, small_one, small_to_change, small_to_choose, small_to_copy, small_to_lower, small_to_skip, small_to_write, small_wider}

-- Deeds have at most so many lines in whatever bank, and these are in range.
pub record Few (most : ℕ) (deeds : List Deed) : Type 0 where
  pub lines : (bank : Bank) → Small most (lines_in bank deeds)

pub few_wider : (most more : ℕ) (deeds : List Deed) → most ≤ more → Few most deeds → Few more deeds
few_wider most more deeds wider few = record { lines = λ bank. small_wider most more (lines_in bank deeds) wider (few.lines bank) }

pub few_none : (most : ℕ) → Few most []
few_none most = record { lines = λ bank. small_none most }

pub few_both : (m n : ℕ) (xs ys : List Deed) → Few m xs → Few n ys → Few (m + n) (xs ++ ys)
few_both m n xs ys first second = record {
  lines = λ bank.
      subst (Small (m + n)) (sym (lines_then bank xs ys)) (small_both m n (lines_in bank xs) (lines_in (bank_past bank xs) ys) (first.lines bank) (second.lines (bank_past bank xs)));
}

few_one : (most : ℕ) (deed : Deed) → ((bank : Bank) → Small most (lines_of bank deed)) → Few most (deed ∷ [])
few_one most deed small = record { lines = λ bank. subst (Small most) (sym (append-nil (lines_of bank deed))) (small bank) }

-- Single deeds.
few_pause : Few 1 (Pause ∷ [])
few_pause = few_one 1 Pause (λ bank. small_one Nothing tt)

few_make : (v : Bool) (p : Place) (b : ℕ) → b < 8 → Few 1 (Make v p b ∷ [])
few_make v p b low = few_one 1 (Make v p b) (λ bank. small_one (Bit v p b) low)

few_choose : (k : ℕ) → Few 2 (Choose k ∷ [])
few_choose k = few_one 2 (Choose k) (λ bank. small_to_choose bank k)

few_copy : (from to : Place) → Few 6 (Copy from to ∷ [])
few_copy from to = few_one 6 (Copy from to) (λ bank. small_to_copy bank from to)

few_write : (p : Place) (byte : ℕ) → byte < 256 → Few 4 (Write p byte ∷ [])
few_write p byte low = few_one 4 (Write p byte) (λ bank. small_to_write bank p byte low)

few_change : (p : Place) (changing byte : ℕ) → byte < 256 → Few 4 (Change p changing byte ∷ [])
few_change p changing byte low = few_one 4 (Change p changing byte) (λ bank. small_to_change bank p changing byte low)

pub few_lower : (source : Source) → Few 3 (LowerFlag source ∷ [])
few_lower source = few_one 3 (LowerFlag source) (λ bank. small_to_lower bank source)

few_set_if : (p : Place) (b : ℕ) → b < 8 → Few 4 (SetIf p b ∷ [])
few_set_if p b low =
    few_one 4 (SetIf p b) (λ bank. small_both 3 1 (lines_to_skip bank p b) (Bit true place.Intcon b ∷ []) (small_to_skip bank p b low) (small_one (Bit true place.Intcon b) low))

-- What is saved and brought back.
few_saving : (register : Place) (o : Option Place) → Few 6 (saving register o)
few_saving register None = few_none 6
few_saving register (Some p) = few_copy register p

few_bringing : (register : Place) (o : Option Place) → Few 6 (bringing register o)
few_bringing register None = few_none 6
few_bringing register (Some p) = few_copy p register

few_context : (between : Bool) (frame : Frame) → Few 12 (if between then saving SAVED_STATUS frame.status ++ saving SAVED_PCLATH frame.pclath else [])
few_context true frame =
    few_both 6 6 (saving SAVED_STATUS frame.status) (saving SAVED_PCLATH frame.pclath) (few_saving SAVED_STATUS frame.status) (few_saving SAVED_PCLATH frame.pclath)
few_context false frame = few_none 12

few_enables : (frame : Frame) → Few 18 (saving_enables frame)
few_enables frame =
    few_both 6 12 (saving place.Intcon frame.intcon) (saving place.Pie1 frame.pie1 ++ saving place.Pie2 frame.pie2) (few_saving place.Intcon frame.intcon)
    (few_both 6 6 (saving place.Pie1 frame.pie1) (saving place.Pie2 frame.pie2) (few_saving place.Pie1 frame.pie1) (few_saving place.Pie2 frame.pie2))

-- Where the masks of a run make registers bytes.
pub record MasksFit (plan : Plan) : Type 0 where
  pub own1 : (masks_in plan).pie1.own < 256
  pub own2 : (masks_in plan).pie2.own < 256
  pub beneath1 : (masks_in plan).pie1.beneath < 256
  pub beneath2 : (masks_in plan).pie2.beneath < 256

few_made : (cleared : Bool) (b : ℕ) → b < 8 → Few 1 (if cleared then Make false place.Intcon b ∷ [] else [])
few_made true b low = few_make false place.Intcon b low
few_made false b low = few_none 1

few_masking : (plan : Plan) → MasksFit plan → Few 11 (masking (masks_in plan))
few_masking plan fit =
    let masks = masks_in plan in
    let m = masks.intcon in
    let first : Deed = Change place.Pie1 masks.pie1.cleared masks.pie1.own in
    let second : Deed = Change place.Pie2 masks.pie2.cleared masks.pie2.own in
    few_both 1 10 (mask_bit T0IE m) (mask_bit INTE m ++ (mask_bit PEIE m ++ (first ∷ second ∷ []))) (few_made (bit T0IE (bits m.cleared)) T0IE (lit< tt))
    (few_both 1 9 (mask_bit INTE m) (mask_bit PEIE m ++ (first ∷ second ∷ [])) (few_made (bit INTE (bits m.cleared)) INTE (lit< tt))
    (few_both 1 8 (mask_bit PEIE m) (first ∷ second ∷ []) (few_made (bit PEIE (bits m.cleared)) PEIE (lit< tt))
    (few_both 4 4 (first ∷ []) (second ∷ []) (few_change place.Pie1 masks.pie1.cleared masks.pie1.own fit.own1) (few_change place.Pie2 masks.pie2.cleared masks.pie2.own fit.own2))))

pub few_starting : (plan : Plan) (kind : Kind) (source : Source) (frame : Frame) → MasksFit plan → Few 46 (starting kind source (masks_in plan) frame)
few_starting plan kind source frame fit =
    let masks = masks_in plan in
    few_both 43 3 (entering kind masks frame) (LowerFlag source ∷ [])
    (few_both 12 31 (saving_context kind frame) (saving_enables frame ++ (masking masks ++ Choose 0 ∷ [])) (few_context (is_between kind) frame)
    (few_both 18 13 (saving_enables frame) (masking masks ++ Choose 0 ∷ []) (few_enables frame)
    (few_both 11 2 (masking masks) (Choose 0 ∷ []) (few_masking plan fit) (few_choose 0))))
    (few_lower source)

pub few_beginning : Few 7 beginning
few_beginning =
    few_both 2 5 (Choose 0 ∷ []) (Write REDO 0 ∷ Make true place.Intcon GIE ∷ []) (few_choose 0)
    (few_both 4 1 (Write REDO 0 ∷ []) (Make true place.Intcon GIE ∷ []) (few_write REDO 0 (lit< tt)) (few_make true place.Intcon GIE (lit< tt)))

-- Enables are set again.
few_sure : (saved : Place) (sure : Bool) (b : ℕ) → b < 8 → Few 4 ((if sure then Make true place.Intcon b else SetIf saved b) ∷ [])
few_sure saved true b low = few_wider 1 4 (Make true place.Intcon b ∷ []) (omega arith) (few_make true place.Intcon b low)
few_sure saved false b low = few_set_if saved b low

few_again : (o : Option Place) (sure : Bool) (b : ℕ) → b < 8 → Few 4 (set_again o sure b ∷ [])
few_again None sure b low = few_wider 1 4 (Make true place.Intcon b ∷ []) (omega arith) (few_make true place.Intcon b low)
few_again (Some saved) sure b low = few_sure saved sure b low

few_again_if : (cleared sure : Bool) (o : Option Place) (b : ℕ) → b < 8 → Few 4 (if cleared then set_again o sure b ∷ [] else [])
few_again_if true sure o b low = few_again o sure b low
few_again_if false sure o b low = few_none 4

few_register : (register : Place) (cleared beneath : ℕ) (o : Option Place) (made : Option Place → Deed) → beneath < 256 → made None ≡ Change register cleared beneath
    → ((p : Place) → made (Some p) ≡ Copy p register) → Few 6 (made o ∷ [])
few_register register cleared beneath None made low none some =
    subst (λ deed. Few 6 (deed ∷ [])) (sym none) (few_wider 4 6 (Change register cleared beneath ∷ []) (omega arith) (few_change register cleared beneath low))
few_register register cleared beneath (Some saved) made low none some = subst (λ deed. Few 6 (deed ∷ [])) (sym (some saved)) (few_copy saved register)

few_unmasking : (plan : Plan) (frame : Frame) → MasksFit plan → Few 24 (unmasking (masks_in plan) frame)
few_unmasking plan frame fit =
    let masks = masks_in plan in
    let m = masks.intcon in
    let o : Option Place = frame.intcon in
    let again = λ (b : ℕ) (low : b < 8). few_again_if (bit b (bits m.cleared)) (bit b (bits m.beneath)) o b low in
    let first : Deed = unmask_register place.Pie1 masks.pie1 frame.pie1 in
    let second : Deed = unmask_register place.Pie2 masks.pie2 frame.pie2 in
    let bits_again : List Deed = unmask_bit T0IE m o ++ (unmask_bit INTE m o ++ unmask_bit PEIE m o) in
    few_both 6 18 (first ∷ []) (second ∷ bits_again)
    (few_register place.Pie1 masks.pie1.cleared masks.pie1.beneath frame.pie1 (unmask_register place.Pie1 masks.pie1) fit.beneath1 refl (λ p. refl))
    (few_both 6 12 (second ∷ []) bits_again
    (few_register place.Pie2 masks.pie2.cleared masks.pie2.beneath frame.pie2 (unmask_register place.Pie2 masks.pie2) fit.beneath2 refl (λ p. refl))
    (few_both 4 8 (unmask_bit T0IE m o) (unmask_bit INTE m o ++ unmask_bit PEIE m o) (again T0IE (lit< tt))
    (few_both 4 4 (unmask_bit INTE m o) (unmask_bit PEIE m o) (again INTE (lit< tt)) (again PEIE (lit< tt)))))

few_page : (clears : Bool) → Few 4 (clearing_page clears)
few_page true = few_write place.Pclath 0 (lit< tt)
few_page false = few_none 4

few_home : (o : Option Place) → Few 2 (going_home o)
few_home None = few_choose 0
few_home (Some p) = few_none 2

pub few_returning : (plan : Plan) (frame : Frame) (clears : Bool) → MasksFit plan → Few 42 (returning (masks_in plan) frame clears)
few_returning plan frame clears fit =
    few_both 24 18 (unmasking (masks_in plan) frame) (clearing_page clears ++ (bringing_back frame ++ going_home frame.status)) (few_unmasking plan frame fit)
    (few_both 4 14 (clearing_page clears) (bringing_back frame ++ going_home frame.status) (few_page clears)
    (few_both 12 2 (bringing_back frame) (going_home frame.status)
    (few_both 6 6 (bringing place.Pclath frame.pclath) (bringing place.Status frame.status) (few_bringing place.Pclath frame.pclath) (few_bringing place.Status frame.status))
    (few_home frame.status)))

-- The window.
few_copies : (moves : List Move) → Few (6 * length moves) (copying moves)
few_copies [] = few_none 0
few_copies (move ∷ moves) =
    few_wider (6 + 6 * length moves) (6 * length (move ∷ moves)) (copying (move ∷ moves)) (omega arith)
    (few_both 6 (6 * length moves) (Copy move.from move.to ∷ []) (copying moves) (few_copy move.from move.to) (few_copies moves))

few_telling : (tells : Bool) → Few 1 (if tells then Make true REDO 0 ∷ [] else [])
few_telling true = few_make true REDO 0 (lit< tt)
few_telling false = few_none 1

few_last : (tells : Bool) → Few 1 ((if tells then Make true REDO 0 else Pause) ∷ [])
few_last true = few_make true REDO 0 (lit< tt)
few_last false = few_pause

pub few_window : (moves : List Move) (tells : Bool) → Few (6 * length moves + 2) (window moves tells)
few_window [] tells = few_both 1 1 (Pause ∷ []) ((if tells then Make true REDO 0 else Pause) ∷ []) few_pause (few_last tells)
few_window (move ∷ moves) tells =
    few_both (6 * length (move ∷ moves)) 2 (copying (move ∷ moves)) (if tells then Make true REDO 0 ∷ [] else []) (few_copies (move ∷ moves))
    (few_wider 1 2 (if tells then Make true REDO 0 ∷ [] else []) (omega arith) (few_telling tells))
