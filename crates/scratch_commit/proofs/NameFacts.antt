-- The deeds of a run name registers where they do, and its work is instructions.
use Rattle.std.proofs.Common.{◌≡◌, ℕ, ◌+◌, ◌<◌, Bool, true, false, if◌then◌else◌, Option, Some, None, List, [], ◌∷◌, ◌++◌, map, refl, ap, append_assoc, lit<, arith}
use Rattle.std.specs.Prelude.{is_none}
use Rattle.std.specs.List.{AllByRecursion}
use Rattle.std.specs.Option.{ForSome}
use Rattle.pic_isa.specs.declared.bits.TheConstants.{INTE, PEIE, T0IE}
use Rattle.pic_isa.specs.declared.sources.Source.{Source}
use Rattle.pic_regs.specs.declared.places.Place.{Place}
use Rattle.pic_regs.specs.declared.places.Place.TheVariants as place
use Rattle.pic_regs.specs.Bytes.{bits, bit}
use Rattle.pic_regs.specs.Places.{IsPlace}
use Rattle.code_items.specs.declared.items.Item.{Item}
use Rattle.code_items.specs.declared.items.Item.TheVariants.{Ins, Mark, Jump}
use Rattle.code_items.specs.Items.{RaisedFits, raised}
use Rattle.glue_parts.specs.declared.kept.TheConstants.{SAVED_PCLATH, SAVED_STATUS}
use Rattle.glue_parts.specs.declared.moves.Move.{Move}
use Rattle.scratch_commit.specs.declared.frames.Frame.{Frame}
use Rattle.scratch_commit.specs.declared.kinds.Kind.{Kind}
use Rattle.scratch_commit.specs.declared.masks.Masked.{Masked}
use Rattle.scratch_commit.specs.declared.masks.Masks.{Masks}
use Rattle.scratch_commit.specs.Deeds.{Deed, Change, Choose, DeedNamed, LowerFlag, Make}
use Rattle.scratch_commit.specs.Frames.{FrameNamed, bringing, bringing_back, is_between, saving, saving_context, saving_enables, unmasking}
use Rattle.scratch_commit.specs.Masks.{mask_bit, masking, set_again, unmask_bit, unmask_register}
use Rattle.scratch_commit.specs.Plans.{IsInstruction, clearing_page, entering, going_home, returning, starting}
use Rattle.scratch_commit.specs.Windows.{MoveNamed, copying, window}
use Rattle.scratch_commit.proofs.DeedLaws.{all_both}

abbrev Named : List Deed → Type 0
Named deeds = AllByRecursion DeedNamed deeds

named_both : (xs ys : List Deed) → Named xs → Named ys → Named (xs ++ ys)
named_both xs ys first second = all_both DeedNamed xs ys first second

saving_named : (register : Place) (o : Option Place) → IsPlace register → ForSome o IsPlace → Named (saving register o)
saving_named register None is named = tt
saving_named register (Some p) is named = ((is, named p refl), tt)

bringing_named : (register : Place) (o : Option Place) → IsPlace register → ForSome o IsPlace → Named (bringing register o)
bringing_named register None is named = tt
bringing_named register (Some p) is named = ((named p refl, is), tt)

context_named : (between : Bool) (frame : Frame) → FrameNamed frame
    → Named (if between then saving SAVED_STATUS frame.status ++ saving SAVED_PCLATH frame.pclath else [])
context_named true frame named =
    named_both (saving SAVED_STATUS frame.status) (saving SAVED_PCLATH frame.pclath)
    (saving_named SAVED_STATUS frame.status (lit< tt) named.status) (saving_named SAVED_PCLATH frame.pclath (lit< tt) named.pclath)
context_named false frame named = tt

mask_bit_named : (b : ℕ) (t : Bool) → Named (if t then Make false place.Intcon b ∷ [] else [])
mask_bit_named b true = (tt, tt)
mask_bit_named b false = tt

masking_named : (m : Masks) → Named (masking m)
masking_named m =
    named_both (mask_bit T0IE m.intcon) _ (mask_bit_named 5 (bit 5 (bits m.intcon.cleared)))
    (named_both (mask_bit INTE m.intcon) _ (mask_bit_named 4 (bit 4 (bits m.intcon.cleared)))
    (named_both (mask_bit PEIE m.intcon) _ (mask_bit_named 6 (bit 6 (bits m.intcon.cleared))) (tt, (tt, tt))))

enables_named : (frame : Frame) → FrameNamed frame → Named (saving_enables frame)
enables_named frame named =
    named_both (saving place.Intcon frame.intcon) (saving place.Pie1 frame.pie1 ++ saving place.Pie2 frame.pie2) (saving_named place.Intcon frame.intcon tt named.intcon)
    (named_both (saving place.Pie1 frame.pie1) (saving place.Pie2 frame.pie2) (saving_named place.Pie1 frame.pie1 tt named.pie1) (saving_named place.Pie2 frame.pie2 tt named.pie2))

pub starting_named : (kind : Kind) (source : Source) (m : Masks) (frame : Frame) → FrameNamed frame → Named (starting kind source m frame)
starting_named kind source m frame named =
    named_both (entering kind m frame) (LowerFlag source ∷ [])
    (named_both (saving_context kind frame) (saving_enables frame ++ (masking m ++ Choose 0 ∷ [])) (context_named (is_between kind) frame named)
    (named_both (saving_enables frame) (masking m ++ Choose 0 ∷ []) (enables_named frame named) (named_both (masking m) (Choose 0 ∷ []) (masking_named m) (tt, tt))))
    (tt, tt)

register_named : (register : Place) (m : Masked) (o : Option Place) → IsPlace register → ForSome o IsPlace → DeedNamed (unmask_register register m o)
register_named register m None is named = is
register_named register m (Some p) is named = (named p refl, is)

again_named : (o : Option Place) (sure : Bool) (b : ℕ) → ForSome o IsPlace → DeedNamed (set_again o sure b)
again_named None sure b named = tt
again_named (Some p) true b named = tt
again_named (Some p) false b named = named p refl

unmask_bit_named : (b : ℕ) (m : Masked) (o : Option Place) → ForSome o IsPlace → Named (unmask_bit b m o)
unmask_bit_named b m o named = by_test (bit b (bits m.cleared))
  where
    by_test : (t : Bool) → Named (if t then set_again o (bit b (bits m.beneath)) b ∷ [] else [])
    by_test true = (again_named o (bit b (bits m.beneath)) b named, tt)
    by_test false = tt

page_named : (t : Bool) → Named (clearing_page t)
page_named true = (tt, tt)
page_named false = tt

home_named : (o : Option Place) → Named (going_home o)
home_named None = (tt, tt)
home_named (Some p) = tt

pub returning_named : (m : Masks) (frame : Frame) (clears : Bool) → FrameNamed frame → Named (returning m frame clears)
returning_named m frame clears named =
    let bits_named = named_both (unmask_bit T0IE m.intcon frame.intcon) _ (unmask_bit_named 5 m.intcon frame.intcon named.intcon)
    (named_both (unmask_bit INTE m.intcon frame.intcon) (unmask_bit PEIE m.intcon frame.intcon) (unmask_bit_named 4 m.intcon frame.intcon named.intcon)
    (unmask_bit_named 6 m.intcon frame.intcon named.intcon)) in
    named_both (unmasking m frame) (clearing_page clears ++ (bringing_back frame ++ going_home frame.status))
    (register_named place.Pie1 m.pie1 frame.pie1 tt named.pie1, (register_named place.Pie2 m.pie2 frame.pie2 tt named.pie2, bits_named))
    (named_both (clearing_page clears) (bringing_back frame ++ going_home frame.status) (page_named clears)
    (named_both (bringing_back frame) (going_home frame.status)
    (named_both (bringing place.Pclath frame.pclath) (bringing place.Status frame.status) (bringing_named place.Pclath frame.pclath tt named.pclath)
    (bringing_named place.Status frame.status tt named.status))
    (home_named frame.status)))

copying_named : (moves : List Move) → AllByRecursion MoveNamed moves → Named (copying moves)
copying_named [] named = tt
copying_named (move ∷ moves) named = (named.0, copying_named moves named.1)

pub window_named : (moves : List Move) (tells : Bool) → AllByRecursion MoveNamed moves → Named (window moves tells)
window_named [] true named = (tt, (lit< tt, tt))
window_named [] false named = (tt, (tt, tt))
window_named (move ∷ moves) true named = named_both (copying (move ∷ moves)) _ (copying_named (move ∷ moves) named) (lit< tt, tt)
window_named (move ∷ moves) false named = named_both (copying (move ∷ moves)) [] (copying_named (move ∷ moves) named) tt

-- Instructions are raised as they are.
pub instructions_fit : (items : List Item) → AllByRecursion IsInstruction items → AllByRecursion (RaisedFits 0) items
instructions_fit [] all = tt
instructions_fit (Ins i ∷ items) all = (tt, instructions_fit items all.1)
instructions_fit (Mark m ∷ items) all = absurd all.0
instructions_fit (Jump m ∷ items) all = absurd all.0

pub instructions_raised : (items : List Item) → AllByRecursion IsInstruction items → map (raised 0) items ≡ items
instructions_raised [] all = refl
instructions_raised (Ins i ∷ items) all = ap (λ more. Ins i ∷ more) (instructions_raised items all.1)
instructions_raised (Mark m ∷ items) all = absurd all.0
instructions_raised (Jump m ∷ items) all = absurd all.0

-- Some items behind others, regrouped.
pub regroup_four : (o a w : List Item) (x y : Item) → (((o ++ a) ++ x ∷ []) ++ w) ++ y ∷ [] ≡ o ++ (a ++ (x ∷ (w ++ y ∷ [])))
regroup_four o a w x y = simp append_assoc

pub regroup_lock : (o a b w l : List Item) (x : Item) → ((((o ++ a) ++ x ∷ []) ++ b) ++ w) ++ l ≡ o ++ (a ++ (x ∷ (b ++ (w ++ l))))
regroup_lock o a b w l x = simp append_assoc

pub regroup_run : (a b c : List Item) (x y : Item) → (((([] ++ x ∷ []) ++ a) ++ b) ++ c) ++ y ∷ [] ≡ x ∷ (a ++ (b ++ (c ++ y ∷ [])))
regroup_run a b c x y = simp append_assoc
