use Rattle.std.proofs.Common.{List, ℕ, ◌++◌, codes, string_bytes, ap, ◌∙◌}
use Rattle.std.specs.Fmt.{decimal}
use Rattle.wave_text.specs.Waves.{var_line}
use Rattle.wave_text.proofs.TextFacts.{on_ok}
use Rattle.wave_text.proofs.headers.write_port.Goals as goal

pub returns : goal.returns
returns c =
    on_ok c.write_var.result
    (λ written. written
    ∙ ap (λ n. string_bytes c.args.text.now ++ var_line (codes "8") (codes "p" ++ decimal n) c.port_name.result.now) c.from.ensures
    ∙ ap (λ (name : List ℕ). string_bytes c.args.text.now ++ var_line (codes "8") (codes "p" ++ decimal c.args.port) name) c.port_name.ensures)
    c.write_var.ensures
