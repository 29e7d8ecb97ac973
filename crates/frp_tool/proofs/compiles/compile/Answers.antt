use Rattle.std.proofs.Common.{◌∙◌, string_bytes}
use Rattle.std.proofs.lemmas.Result.{err_from_is_err_and}
use Rattle.frp_tree.specs.Tree.{program_tree_of}
use Rattle.causality.specs.declared.checked.Checked.{Checked}
use Rattle.frp_tool.specs.declared.compiles.Texts.{Texts}
use Rattle.frp_tool.specs.SourceTexts.{SourceGives}
use Rattle.frp_tool.specs.Compiles.{AreTexts, CompileRequest, Firmware}
use Rattle.frp_tool.proofs.CompileFacts.{unread_works, unbuilt_works, hex_works, map_works, done_works}
use Rattle.frp_tool.proofs.compiles.compile.Goals as goal

pub returns-in_err-checked : goal.returns-in_err-checked
returns-in_err-checked g c =
    let r : CompileRequest = record { source = c.args.source.now; hex = c.args.hex.now; map = c.args.map.now } in
    let p = err_from_is_err_and c.from_residual.result c.from_residual.ensures.1 in
    rw (p.1, p.2)
    (unread_works (λ (d : Checked). SourceGives c.args.source.now (g.F.Files.seen c.args.files.now) (program_tree_of d.typed.program)) r (g.F.Files.seen c.args.files.now) (g.F.Files.seen c.read_source.new.files) _ c.in_err-checked.ensures.unchanged c.in_err-checked.ensures.gives)

pub returns-in_err-texts : goal.returns-in_err-texts
returns-in_err-texts g c =
    let r : CompileRequest = record { source = c.args.source.now; hex = c.args.hex.now; map = c.args.map.now } in
    let tree = program_tree_of c.in_ok-checked.checked.typed.program in
    let read = c.in_ok-checked.ensures in
    let p = err_from_is_err_and c.from_residual-in_err-texts.result c.from_residual-in_err-texts.ensures.1 in
    rw (p.1, p.2)
    (unbuilt_works (λ (t : Texts). AreTexts tree t.hex t.map (string_bytes t.summary)) r (g.F.Files.seen c.args.files.now) (g.F.Files.seen c.read_source.new.files) tree _ read.unchanged read.gives c.in_err-texts.ensures)

pub returns-in_err-store : goal.returns-in_err-store
returns-in_err-store g c =
    let r : CompileRequest = record { source = c.args.source.now; hex = c.args.hex.now; map = c.args.map.now } in
    let t = c.in_ok-texts.ensures in
    let f : Firmware = record { program = program_tree_of c.in_ok-checked.checked.typed.program; hex = c.in_ok-texts.texts.hex; map = t.0; is_firmware = t.2; is_scheduled = t.3; is_reported = t.4 } in
    let read = c.in_ok-checked.ensures in
    let p = err_from_is_err_and c.from_residual-in_err-store.result c.from_residual-in_err-store.ensures.1 in
    rw (p.1, p.2)
    (hex_works r (g.F.Files.seen c.args.files.now) (g.F.Files.seen c.read_source.new.files) (g.F.Files.seen c.store.new.files) f (read.gives, t.6) read.unchanged read.write_count c.as_slice.result.now _
    c.in_err-store.ensures.stores)

pub returns-in_err-store-2 : goal.returns-in_err-store-2
returns-in_err-store-2 g c =
    let r : CompileRequest = record { source = c.args.source.now; hex = c.args.hex.now; map = c.args.map.now } in
    let t = c.in_ok-texts.ensures in
    let f : Firmware = record { program = program_tree_of c.in_ok-checked.checked.typed.program; hex = c.in_ok-texts.texts.hex; map = t.0; is_firmware = t.2; is_scheduled = t.3; is_reported = t.4 } in
    let read = c.in_ok-checked.ensures in
    let p = err_from_is_err_and c.from_residual-in_err-store-2.result c.from_residual-in_err-store-2.ensures.1 in
    rw (p.1, p.2)
    (map_works r (g.F.Files.seen c.args.files.now) (g.F.Files.seen c.read_source.new.files) (g.F.Files.seen c.store.new.files) f (read.gives, t.6) read.unchanged read.write_count (g.F.Files.seen c.store-2.new.files)
    c.as_slice.result.now c.as_slice.ensures c.in_ok-store.ensures.stores c.in_ok-store.ensures.write_count c.requires c.as_slice-2.result.now _ c.in_err-store-2.ensures.stores)

pub returns : goal.returns
returns g c =
    let r : CompileRequest = record { source = c.args.source.now; hex = c.args.hex.now; map = c.args.map.now } in
    let t = c.in_ok-texts.ensures in
    let f : Firmware = record { program = program_tree_of c.in_ok-checked.checked.typed.program; hex = c.in_ok-texts.texts.hex; map = t.0; is_firmware = t.2; is_scheduled = t.3; is_reported = t.4 } in
    let read = c.in_ok-checked.ensures in
    done_works r (g.F.Files.seen c.args.files.now) (g.F.Files.seen c.read_source.new.files) (g.F.Files.seen c.store.new.files) f (read.gives, t.6) read.unchanged read.write_count (g.F.Files.seen c.store-2.new.files)
    c.as_slice.result.now c.as_slice.ensures c.in_ok-store.ensures.stores c.in_ok-store.ensures.write_count c.requires c.as_slice-2.result.now c.in_ok-texts.texts.summary (c.as_slice-2.ensures ∙ t.1)
    c.in_ok-store-2.ensures.stores t.5
