-- Each core and each template does its operation.
use Rattle.std.proofs.Common.{◌≡◌, Bool, true, false}
use Rattle.std.specs.Prelude.{IsTrue}
use Rattle.frp_tree.specs.declared.syntax.BinOp.{BinOp}
use Rattle.frp_tree.specs.declared.syntax.BinOp.TheVariants.{Mul, Div, Rem}
use Rattle.byte_ops.specs.Kinds.{is_product}
use Rattle.code_acts.specs.Acts.{State}
use Rattle.product_templates.specs.Templates.{core_of}
use Rattle.product_templates.specs.Laws.{CoreDoes, TemplateDoes}
use Rattle.product_templates.proofs.StateLaws.{ran}
use Rattle.product_templates.proofs.CoreFacts.{Computes, core_does, template_does}
use Rattle.product_templates.proofs.ProductFacts.{narrow_product, wide_product}
use Rattle.product_templates.proofs.QuotientFacts.{narrow_quotient, narrow_rest}
use Rattle.product_templates.proofs.WideQuotientFacts.{wide_quotient, wide_rest}

computes : (f : BinOp) (wide : Bool) (s : State) → IsTrue (is_product f) → s.skip ≡ false → Computes f wide s (ran (core_of f wide) s)
computes Mul false s h none = narrow_product s none
computes Mul true s h none = wide_product s none
computes Div false s h none = narrow_quotient s none
computes Div true s h none = wide_quotient s none
computes Rem false s h none = narrow_rest s none
computes Rem true s h none = wide_rest s none
computes _ wide s h none = absurd cc

pub core_each : (f : BinOp) (wide : Bool) → CoreDoes f wide
core_each f wide s h none = core_does f wide s h (computes f wide s h none)

pub template_each : (f : BinOp) (wide : Bool) → TemplateDoes f wide
template_each f wide s h none = template_does f wide s h none (λ t ready. computes f wide t h ready)
