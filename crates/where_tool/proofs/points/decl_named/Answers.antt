use Rattle.std.proofs.Common.{sym, ◌∙◌}
use Rattle.where_tool.proofs.PointFacts.{decl-at}
use Rattle.where_tool.proofs.PointLaws.{is-some}
use Rattle.where_tool.proofs.points.decl_named.Goals as goal

pub returns-in-Some : goal.returns-in-Some
returns-in-Some c =
    let found = decl-at c.args.p.now c.args.name.now c.as_bytes.result.now c.as_slice-decls.result.now c.decl_place.result (c.as_bytes.ensures.value ∙ c.as_str.ensures) c.as_slice-decls.ensures c.decl_place.ensures in
    λ number is. is-some c.in-Some.number number (sym c.in-Some.is ∙ found ∙ is)

pub returns-in-None : goal.returns-in-None
returns-in-None c =
    let found = decl-at c.args.p.now c.args.name.now c.as_bytes.result.now c.as_slice-decls.result.now c.decl_place.result (c.as_bytes.ensures.value ∙ c.as_str.ensures) c.as_slice-decls.ensures c.decl_place.ensures in
    λ number is. let no = sym c.in-None.is ∙ found ∙ is in absurd cc
