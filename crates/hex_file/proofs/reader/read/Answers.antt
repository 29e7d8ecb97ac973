use Rattle.std.proofs.Common.{◌≡◌, ℕ, inl, inr, ⊎_elim, Bool, true, false, List, Option, ◌++◌, length, take, drop, refl, sym, ◌∙◌, ap, subst, arith}
use Rattle.std.proofs.Math.Seq.{take-append_seam}
use Rattle.std.proofs.lemmas.Result.{err_from_is_err_and}
use Rattle.hex_file.specs.Faults.{FirstFault}
use Rattle.hex_file.specs.ImageOf.{IsImageOf}
use Rattle.hex_file.specs.Tables.{AreGiven, word_at, word_item, aside_item, items_below}
use Rattle.hex_file.specs.declared.faults.HexFault.TheVariants.{NoEnd}
use Rattle.hex_file.specs.declared.images.Image.{Image}
use Rattle.hex_file.proofs.ReadFacts.{no_ends}
use Rattle.hex_file.proofs.ImageLaws.{image_determined}
use Rattle.hex_file.proofs.TableImageFacts.{image_of_table}
use Rattle.hex_file.proofs.UniqueLaws.{one_fault, no_image_of_fault}
use Rattle.hex_file.proofs.reader.read.Goals as goal

pub returns-in_err-give_lines-clause-complete : goal.returns-in_err-give_lines-clause-complete
returns-in_err-give_lines-clause-complete c = λ image is.
    let p = err_from_is_err_and c.from_residual-in_err-give_lines.result c.from_residual-in_err-give_lines.ensures.1 in
    rw (p.1, p.2) (⊎_elim (λ memory. memory) (λ first. absurd (no_image_of_fault c.args.bytes.now _ image (inl first) is)) c.in_err-give_lines.ensures.fault)

pub returns-in_err-give_lines-clause-refused : goal.returns-in_err-give_lines-clause-refused
returns-in_err-give_lines-clause-refused c = λ fault is.
    let p = err_from_is_err_and c.from_residual-in_err-give_lines.result c.from_residual-in_err-give_lines.ensures.1 in
    rw (p.1, p.2) (⊎_elim (λ memory. inr memory) (λ first. inl (one_fault c.args.bytes.now _ fault (inl first) is)) c.in_err-give_lines.ensures.fault)

-- Lines without a fault and without an end record.
no_end : (bytes : List ℕ) (table : List (Option ℕ)) (ended : Bool) → AreGiven bytes table ended → ended ≡ false → FirstFault bytes NoEnd
no_end bytes table ended given none =
    inr (record { records = given.records; faultless = given.faultless; unended = no_ends given.records (sym given.is_end ∙ none); told = refl })

image_of : (bytes : List ℕ) (table items : List (Option ℕ)) (ended : Bool) (image : Image) → AreGiven bytes table ended → ended ≡ true → items ≡ table
    → image.words ≡ items_below (word_item items) 0x2000 → image.config ≡ word_at items 0x2007 → image.aside ≡ items_below (aside_item items) 0x10000
    → IsImageOf bytes image
image_of bytes table items ended image given is same words config aside =
    image_of_table bytes items image (subst (λ t. AreGiven bytes t true) (sym same) (subst (AreGiven bytes table) is given)) words config aside

pub returns-then-not-branch-clause-complete : goal.returns-then-not-branch-clause-complete
returns-then-not-branch-clause-complete c = λ image is.
    absurd (no_image_of_fault c.args.bytes.now NoEnd image (no_end c.args.bytes.now _ _ c.in_ok-give_lines.ensures.given c.if-not-branch.true) is)

pub returns-then-not-branch-clause-refused : goal.returns-then-not-branch-clause-refused
returns-then-not-branch-clause-refused c = λ fault is.
    inl (one_fault c.args.bytes.now NoEnd fault (no_end c.args.bytes.now _ _ c.in_ok-give_lines.ensures.given c.if-not-branch.true) is)

pub returns-clause-image : goal.returns-clause-image
returns-clause-image c =
    let size : c.in_ok-table.table.len ≡ length c.give_lines.new.table = omega arith in
    let same : c.deref.result.now ≡ c.give_lines.new.table =
    c.deref.ensures.value ∙ ap (λ n. take n (c.give_lines.new.table ++ drop (length c.give_lines.new.table) c.in_ok-table.table.items)) size
    ∙ take-append_seam c.give_lines.new.table (drop (length c.give_lines.new.table) c.in_ok-table.table.items) in
    image_of c.args.bytes.now c.give_lines.new.table c.deref.result.now c.in_ok-give_lines.field-0 c.in_ok-image.field-0 c.in_ok-give_lines.ensures.given
    c.if-not-branch.false same c.in_ok-image.ensures.words c.in_ok-image.ensures.config c.in_ok-image.ensures.aside

pub returns-clause-complete : goal.returns-clause-complete
returns-clause-complete c = λ image is. image_determined c.args.bytes.now _ image (returns-clause-image c) is

pub returns-clause-refused : goal.returns-clause-refused
returns-clause-refused c = λ fault is. no_image_of_fault c.args.bytes.now fault _ is (returns-clause-image c)
