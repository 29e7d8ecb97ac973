use Rattle.std.proofs.Common.{◌≡◌, Option, Some, String, string_bytes, refl}
use Rattle.std.specs.declared.alloc.Global.{Global}
use Rattle.std.proofs.lemmas.Result.{err_from_is_err_and}
use Rattle.frp_tree.specs.Tree.{ProgramTree}
use Rattle.frp_tool.specs.Models.{ModelRequest, ModelTexts, IsModel, IsModelOf}
use Rattle.frp_tool.proofs.ModelFacts.{texts_halt}
use Rattle.frp_tool.proofs.models.model.Goals as goal

pub returns-in_err-text-clause-works : goal.returns-in_err-text-clause-works
returns-in_err-text-clause-works g c =
    let r : ModelRequest = record { source = c.args.source.now; events = c.args.events.now } in
    let t : ModelTexts = record { source = c.in_ok-both.both.source; events = c.in_ok-both.both.events } in
    let before = g.F.Files.seen c.args.files.now in
    let e = err_from_is_err_and c.from_residual-in_err-text.result c.from_residual-in_err-text.ensures.1 in
    rw (e.1, e.2)
    (texts_halt (λ (text : String Global). (p : ProgramTree) × IsModel t p (string_bytes text))
    (λ (put : Option (String Global)). (p : ProgramTree) × (text : String Global) × (put ≡ Some text) × IsModelOf r before p (string_bytes text)) r before (g.F.Files.seen c.read_both.new.files) t _ c.in_ok-both.ensures.gives c.in_err-text.ensures)

pub returns-clause-works : goal.returns-clause-works
returns-clause-works g c =
    let t : ModelTexts = record { source = c.in_ok-both.both.source; events = c.in_ok-both.both.events } in
    (c.in_ok-text.ensures.0, c.in_ok-text.text, refl, (t, c.in_ok-both.ensures.gives, c.in_ok-text.ensures.1))
