use Rattle.std.proofs.Common.{◌∙◌, ap, string_bytes}
use Rattle.std.proofs.lemmas.Result.{err_from_is_err_and}
use Rattle.frp_tool.specs.declared.bigs.BigTexts.{BigTexts}
use Rattle.frp_tool.specs.Bigs.{AreBigTexts, BigRequest, big_text}
use Rattle.frp_tool.proofs.BigFacts.{early_works, hex_works, map_works, done_works}
use Rattle.frp_tool.proofs.bigs.big.Goals as goal

pub returns-in_err-texts : goal.returns-in_err-texts
returns-in_err-texts g c =
    let r : BigRequest = record { number = c.args.number; hex = c.args.hex.now; map = c.args.map.now } in
    let p = err_from_is_err_and c.from_residual.result c.from_residual.ensures.1 in
    rw (p.1, p.2) (early_works (λ (t : BigTexts). AreBigTexts c.args.number t.hex t.map (string_bytes t.lines)) r (g.F.Files.seen c.args.files.now) _ c.in_err-texts.ensures)

pub returns-in_err-store : goal.returns-in_err-store
returns-in_err-store g c =
    let r : BigRequest = record { number = c.args.number; hex = c.args.hex.now; map = c.args.map.now } in
    let t = c.in_ok-texts.ensures in
    let p = err_from_is_err_and c.from_residual-in_err-store.result c.from_residual-in_err-store.ensures.1 in
    rw (p.1, p.2) (hex_works r (g.F.Files.seen c.args.files.now) (g.F.Files.seen c.store.new.files) t.0 c.as_slice.result.now _ c.in_err-store.ensures.stores)

pub returns-in_err-store-2 : goal.returns-in_err-store-2
returns-in_err-store-2 g c =
    let r : BigRequest = record { number = c.args.number; hex = c.args.hex.now; map = c.args.map.now } in
    let t = c.in_ok-texts.ensures in
    let p = err_from_is_err_and c.from_residual-in_err-store-2.result c.from_residual-in_err-store-2.ensures.1 in
    rw (p.1, p.2)
    (map_works r (g.F.Files.seen c.args.files.now) (g.F.Files.seen c.store.new.files) t.0 (g.F.Files.seen c.store-2.new.files) c.as_slice.result.now (c.as_slice.ensures ∙ t.1) c.in_ok-store.ensures.stores
    c.in_ok-store.ensures.write_count c.requires c.as_slice-2.result.now _ c.in_err-store-2.ensures.stores)

pub returns : goal.returns
returns g c =
    let r : BigRequest = record { number = c.args.number; hex = c.args.hex.now; map = c.args.map.now } in
    let t = c.in_ok-texts.ensures in
    done_works r (g.F.Files.seen c.args.files.now) (g.F.Files.seen c.store.new.files) t.0 (g.F.Files.seen c.store-2.new.files) c.as_slice.result.now (c.as_slice.ensures ∙ t.1) c.in_ok-store.ensures.stores
    c.in_ok-store.ensures.write_count c.requires c.as_slice-2.result.now c.in_ok-texts.texts.lines (c.as_slice-2.ensures ∙ t.2) c.in_ok-store-2.ensures.stores t.3
