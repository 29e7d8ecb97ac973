-- Acts that loops have written so far.
use Rattle.std.proofs.Common.{◌≡◌, ℕ, zero, suc, ◌+◌, List, ◌++◌, sym, ap, ◌∙◌, add-one, append_assoc, append-nil}
use Rattle.code_acts.specs.declared.acts.Act.{Act}
use Rattle.product_templates.specs.Templates.{long_start, carrying, repeated}

-- A long product with so many of its bits.
abbrev pub long_so_far : ℕ → List Act
long_so_far zero = long_start
long_so_far (suc i) = long_so_far i ++ carrying i

repeated-suc : (n : ℕ) (acts : List Act) → acts ++ repeated n acts ≡ repeated n acts ++ acts
repeated-suc zero acts = append-nil acts
repeated-suc (suc n) acts = ap (λ (more : List Act). acts ++ more) (repeated-suc n acts) ∙ sym (append_assoc acts (repeated n acts) acts)

pub repeated-next : (n : ℕ) (acts : List Act) → repeated (n + 1) acts ≡ repeated n acts ++ acts
repeated-next n acts = ap (λ k. repeated k acts) (add-one n) ∙ repeated-suc n acts
