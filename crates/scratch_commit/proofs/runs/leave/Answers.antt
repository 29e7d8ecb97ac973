use Rattle.std.proofs.Common.{◌++◌, ◌&&◌}
use Rattle.scratch_commit.specs.Frames.{bringing_back, unmasking}
use Rattle.scratch_commit.specs.Plans.{clearing_page, going_home, returning}
use Rattle.scratch_commit.proofs.DeedLaws.{does_both, is_stretch}
use Rattle.scratch_commit.proofs.runs.leave.Goals as goal

pub returns : goal.returns
returns c =
    let masks = c.args.terms.now.masks in
    let frame = c.args.terms.now.frame in
    let clears = c.args.pages && c.args.terms.now.over_idle in
    let s0 = c.new-lines.result in
    let s1 = c.unmask.new.lines in
    let s2 = c.clear_page.new.lines in
    let s3 = c.bring_back.new.lines in
    let s4 = c.go_home.new.lines in
    is_stretch c.args.bank (returning masks frame clears) s0 s4 c.new-lines.ensures.lines c.new-lines.ensures.bank
    (does_both s0 s1 s4 (unmasking masks frame) (clearing_page clears ++ (bringing_back frame ++ going_home frame.status)) c.in_ok-unmask.ensures
    (does_both s1 s2 s4 (clearing_page clears) (bringing_back frame ++ going_home frame.status) c.in_ok-clear_page.ensures
    (does_both s2 s3 s4 (bringing_back frame) (going_home frame.status) c.in_ok-bring_back.ensures c.in_ok-go_home.ensures)))
