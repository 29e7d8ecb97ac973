use Rattle.std.proofs.Common.{◌≡◌, true, if◌then◌else◌, [], ◌∷◌, ◌++◌, ap, subst, sym, ◌∙◌}
use Rattle.glue_parts.specs.declared.kept.TheConstants.{REDO}
use Rattle.scratch_commit.specs.Deeds.{DoesMore, Make}
use Rattle.scratch_commit.specs.Windows.{copying, window}
use Rattle.scratch_commit.proofs.DeedLaws.{does_both, does_one}
use Rattle.scratch_commit.proofs.WindowFacts.{window_some}
use Rattle.scratch_commit.proofs.windows.add_moves.Goals as goal

pub returns-in_ok-add : goal.returns-in_ok-add
returns-in_ok-add c =
    let moves = c.args.moves.now in
    let s0 = c.args.lines.now in
    let s1 = c.copy_all.new.lines in
    let s2 = c.add.new.self in
    let tell = Make true REDO 0 in
    let is : window moves c.args.tells ≡ copying moves ++ tell ∷ [] =
    window_some moves c.args.tells (sym c.is_empty.ensures ∙ c.if-is_empty.false) ∙ ap (λ t. copying moves ++ (if t then tell ∷ [] else [])) c.if-tells.true in
    subst (λ deeds. DoesMore s0 deeds s2) (sym is) (does_both s0 s1 s2 (copying moves) (tell ∷ []) c.in_ok-copy_all.ensures (does_one s1 s2 tell c.in_ok-add.ensures))
