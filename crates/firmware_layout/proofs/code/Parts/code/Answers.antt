use Rattle.std.proofs.Common.{false, min, sym, ap, ◌∙◌}
use Rattle.code_items.specs.Items.{words_in}
use Rattle.firmware_layout.proofs.CodeFacts.{is_spread}
use Rattle.firmware_layout.proofs.code.Parts.code.Goals as goal

pub returns-clause-pages : goal.returns-clause-pages
returns-clause-pages c =
    c.spread-on_several.ensures.pages ∙ sym (c.in_ok-code_on.ensures.pages c.spread-on_several.ensures.pages)

pub returns-clause-spread : goal.returns-clause-spread
returns-clause-spread c = λ source are.
    is_spread c.args.self.now c.spread-on_one_page.result c.spread-on_several.result source c.in_ok-code.code.items c.count_to_page.result
    c.spread-on_one_page.ensures.pages (c.spread-on_one_page.ensures.banks ∙ sym c.spread-on_several.ensures.banks) (c.in_ok-code.ensures.items source are)
    (c.count_to_page.ensures ∙ ap (λ xs. min (words_in false xs) 2049) c.as_slice.ensures) c.if-count_to_page-le-PAGE.false
