use Rattle.std.proofs.Common.{◌≡◌, ℕ, ◌+◌, List, [], ◌∷◌, ◌++◌, ◌≤◌, get_or, length, take, sym, ap, subst, ◌∙◌, add-one, arith}
use Rattle.std.proofs.Math.Seq.{take-length}
use Rattle.hex_file.specs.Words.{words_from}
use Rattle.hex_file.specs.Written.{RisesFrom}
use Rattle.hex_file.proofs.WordsFromLaws.{word, words_from-more, words_from-rise}
use Rattle.hex_file.proofs.images.Image.of_words.Goals as goal

pub loop-address-preserved : goal.loop-address-preserved
loop-address-preserved c =
    let i : ℕ = c.loop-address.address in
    let numbers : List ℕ = c.args.words.now in
    let here : 0 + i ≡ i = omega arith in
    let more =
    ap (λ n. words_from 0 (take n numbers)) (add-one i)
    ∙ words_from-more 0 numbers i c.loop-address-test.true
    ∙ ap (λ a. words_from 0 (take i numbers) ++ word a (get_or numbers i 0) ∷ []) here in
    c.in_ok-push.ensures.ok ∙ ap (λ ws. ws ++ word i (get_or numbers i 0) ∷ []) c.loop-address.invariant ∙ sym more

pub returns-clause-writable : goal.returns-clause-writable
returns-clause-writable c =
    let all : c.loop-address.address ≡ length c.args.words.now = omega arith in
    let numbers : List ℕ = c.args.words.now in
    let placed = c.loop-address.invariant ∙ ap (λ n. words_from 0 (take n numbers)) all ∙ ap (λ ns. words_from 0 ns) (take-length numbers) in
    let fit : 0 + length numbers ≤ 8192 = omega (arith, c.requires) in
    record { words = subst (λ ws. RisesFrom 0 ws) (sym placed) (words_from-rise 0 numbers fit); config = tt }
