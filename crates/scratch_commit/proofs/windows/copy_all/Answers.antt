use Rattle.std.proofs.Common.{◌≡◌, ◌+◌, [], ◌∷◌, ◌++◌, ap, get_or, map, subst, sym, take, ◌∙◌}
use Rattle.std.proofs.lemmas.List.{map-append, take_more}
use Rattle.pic_regs.specs.declared.places.Place.TheVariants as place
use Rattle.glue_parts.specs.declared.moves.Move.{Move}
use Rattle.scratch_commit.specs.Deeds.{Copy, DoesMore}
use Rattle.scratch_commit.specs.Windows.{copying}
use Rattle.scratch_commit.proofs.DeedLaws.{does_both, does_one}
use Rattle.scratch_commit.proofs.windows.copy_all.Goals as goal

pub loop-one-preserved : goal.loop-one-preserved
loop-one-preserved c =
    let moves = c.args.moves.now in
    let i = c.loop-one.one-index in
    let none : Move = record { from = place.Absent; to = place.Absent } in
    let one = get_or moves i none in
    let s0 = c.args.lines.now in
    let s1 = c.loop-one.lines in
    let s2 = c.copy.new.self in
    let more : copying (take (i + 1) moves) ≡ copying (take i moves) ++ Copy one.from one.to ∷ [] =
    ap copying (take_more moves i none c.loop-one-test.true) ∙ map-append (λ (move : Move). Copy move.from move.to) (take i moves) (one ∷ []) in
    subst (λ deeds. DoesMore s0 deeds s2) (sym more)
    (does_both s0 s1 s2 (copying (take i moves)) (Copy one.from one.to ∷ []) c.loop-one.invariant (does_one s1 s2 (Copy one.from one.to) c.in_ok-copy.ensures))
