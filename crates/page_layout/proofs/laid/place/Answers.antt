use Rattle.std.proofs.Common.{◌≡◌, ℕ, ◌%◌, List, length, ap, ◌∙◌, sym, subst, arith}
use Rattle.std.specs.List.{AllByRecursion}
use Rattle.pic_isa.specs.Instructions.{FieldsFit}
use Rattle.hex_file.specs.declared.images.Word.{Word}
use Rattle.hex_file.specs.Written.{RisesFrom}
use Rattle.pic_machine.specs.Run.{word_at}
use Rattle.code_items.specs.Lines.{Stands}
use Rattle.page_layout.specs.Emitted.{places, words_of}
use Rattle.page_layout.specs.Words.{FollowFrom}
use Rattle.page_layout.proofs.WholeFacts.{code_of, code-length, code-fit, words-number, words-rise, words-stand, marks-absent}
use Rattle.page_layout.proofs.PlaceFacts.{words_of-follow}
use Rattle.page_layout.proofs.laid.place.Goals as goal

-- the instructions that are handed on, by the list of marks
is_code : (c : goal.After-as_slice) → c.as_slice.result.now ≡ code_of c.args.paged c.args.items.now (places c.in_ok-marks.marks.items)
is_code c = c.as_slice.ensures ∙ c.in_ok-code.ensures ∙ ap (λ l. code_of c.args.paged c.args.items.now (places l)) c.deref.ensures.value

pub words-requires-clause-short : goal.words-requires-clause-short
words-requires-clause-short c =
    omega (arith, ap length (is_code c), code-length c.args.paged c.args.items.now (places c.in_ok-marks.marks.items), c.requires.few)

pub words-requires-clause-fit : goal.words-requires-clause-fit
words-requires-clause-fit c =
    subst (AllByRecursion FieldsFit) (sym (is_code c)) (code-fit c.args.paged c.args.items.now (places c.in_ok-marks.marks.items) c.requires.fit)

-- the words, by the list of marks
are_words : (c : goal.After-drop-code-inside-2) → c.in_ok-words.field-0 ≡ words_of 0 (code_of c.args.paged c.args.items.now (places c.in_ok-marks.marks.items))
are_words c = c.in_ok-words.ensures ∙ ap (words_of 0)
    (c.as_slice.ensures ∙ c.in_ok-code.ensures ∙ ap (λ l. code_of c.args.paged c.args.items.now (places l)) c.deref.ensures.value)

pub returns-clause-stands : goal.returns-clause-stands
returns-clause-stands c =
    let marks : List ℕ = c.in_ok-marks.marks.items in
    let stands = words-stand c.args.paged c.args.items.now (places marks) c.in_ok-marks.ensures.places c.requires.fit c.requires.few c.requires.once in
    subst (λ (list : List ℕ). Stands c.args.paged (word_at c.in_ok-words.field-0) (places list) 0 c.args.items.now (length c.in_ok-words.field-0 % 8192)) (sym c.from_vec.ensures)
    (subst (λ (words : List Word). Stands c.args.paged (word_at words) (places marks) 0 c.args.items.now (length words % 8192)) (sym (are_words c)) stands)

pub returns-clause-follow : goal.returns-clause-follow
returns-clause-follow c = subst (FollowFrom 0) (sym (are_words c)) (words_of-follow 0 (code_of c.args.paged c.args.items.now (places c.in_ok-marks.marks.items)))

pub returns-clause-rise : goal.returns-clause-rise
returns-clause-rise c =
    subst (RisesFrom 0) (sym (are_words c)) (words-rise c.args.paged c.args.items.now (places c.in_ok-marks.marks.items) c.requires.fit c.requires.few)

pub returns-clause-number : goal.returns-clause-number
returns-clause-number c = ap length (are_words c) ∙ words-number c.args.paged c.args.items.now (places c.in_ok-marks.marks.items)

pub returns-clause-absent : goal.returns-clause-absent
returns-clause-absent c = λ m none.
    ap (λ (list : List ℕ). places list m) c.from_vec.ensures ∙ marks-absent c.args.paged c.args.items.now (places c.in_ok-marks.marks.items) c.in_ok-marks.ensures.places m none
