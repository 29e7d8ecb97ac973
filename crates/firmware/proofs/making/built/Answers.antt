use Rattle.std.proofs.lemmas.Result.{err_from_is_err_and}
use Rattle.firmware.proofs.BuiltFacts.{IsCodeFor, few_items, is_built, is_code_for, is_fault, items_fit, made_of_parts, marks_once}
use Rattle.firmware.proofs.MadeFacts.{are_parts, source_in}
use Rattle.firmware.proofs.making.built.Goals as goal

pub code-requires : goal.code-requires
code-requires c = are_parts c.args.parts.now c.requires.parts

pub laid_out-requires-clause-few : goal.laid_out-requires-clause-few
laid_out-requires-clause-few c =
    let told = c.in_ok-code.ensures in
    let code = is_code_for c.args.parts.now c.in_ok-code.spread c.in_ok-code.code.items c.requires.parts told.items told.pages told.banks told.spread in
    few_items c.args.parts.now c.in_ok-code.spread c.in_ok-code.code.items code

pub laid_out-requires-clause-fit : goal.laid_out-requires-clause-fit
laid_out-requires-clause-fit c =
    let told = c.in_ok-code.ensures in
    let code = is_code_for c.args.parts.now c.in_ok-code.spread c.in_ok-code.code.items c.requires.parts told.items told.pages told.banks told.spread in
    items_fit c.args.parts.now c.in_ok-code.spread c.in_ok-code.code.items code

pub laid_out-requires-clause-once : goal.laid_out-requires-clause-once
laid_out-requires-clause-once c =
    let told = c.in_ok-code.ensures in
    let code = is_code_for c.args.parts.now c.in_ok-code.spread c.in_ok-code.code.items c.requires.parts told.items told.pages told.banks told.spread in
    marks_once c.args.parts.now c.in_ok-code.spread c.in_ok-code.code.items code

pub returns-in_err-laid-clause-err : goal.returns-in_err-laid-clause-err
returns-in_err-laid-clause-err c =
    let told = c.in_ok-code.ensures in
    let code = is_code_for c.args.parts.now c.in_ok-code.spread c.in_ok-code.code.items c.requires.parts told.items told.pages told.banks told.spread in
    let mine = is_fault c.args.parts.now c.in_ok-code.spread c.in_ok-code.code.items code _ c.requires.parts c.in_err-laid.ensures.err in
    let given = err_from_is_err_and c.from_residual-in_err-laid.result c.from_residual-in_err-laid.ensures.1 in
    rw (given.1, given.2) mine

pub map_in-requires-clause-few : goal.map_in-requires-clause-few
map_in-requires-clause-few c =
    let told = c.in_ok-code.ensures in
    let code = is_code_for c.args.parts.now c.in_ok-code.spread c.in_ok-code.code.items c.requires.parts told.items told.pages told.banks told.spread in
    (c.in_ok-laid.ensures.ok (made_of_parts c.args.parts.now c.in_ok-code.spread) code.items_are).few

pub returns-clause-ok : goal.returns-clause-ok
returns-clause-ok c =
    let told = c.in_ok-code.ensures in
    let parts = c.args.parts.now in
    let spread = c.in_ok-code.spread in
    let code = is_code_for parts spread c.in_ok-code.code.items c.requires.parts told.items told.pages told.banks told.spread in
    let laid = c.in_ok-laid.ensures.ok (made_of_parts parts spread) code.items_are in
    is_built parts spread c.in_ok-code.code.items code c.in_ok-laid.laid c.in_ok-map.map c.new.result c.requires.parts laid (c.in_ok-map.ensures (source_in parts)) c.new.ensures
