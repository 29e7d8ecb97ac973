-- Each operation but products has its template.
use Rattle.byte_ops.specs.declared.operations.Op.{Op}
use Rattle.byte_ops.specs.declared.operations.Op.TheVariants.{Set, Copy, Com, Not, Bits, Sum, Compare, Logic, Choose, Shift, Product}
use Rattle.op_templates.specs.Laws.{HasTemplate}
use Rattle.op_templates.proofs.MoveFacts.{set-template, copy-template, com-template, not-template, bits-template, logic-template}
use Rattle.op_templates.proofs.SumFacts.{sum-template}
use Rattle.op_templates.proofs.ComparisonFacts.{compare-template}
use Rattle.op_templates.proofs.ChoiceFacts.{choose-template}
use Rattle.op_templates.proofs.ShiftFacts.{shift-template}

pub has-template : (op : Op) → HasTemplate op
has-template (Set to k) kind small some = set-template to k small
has-template (Copy to a) kind small some = copy-template to a
has-template (Com to a) kind small some = com-template to a
has-template (Not to a) kind small some = not-template to a
has-template (Bits f to a b) kind small some = bits-template f to a b kind
has-template (Sum f wide to a b) kind small some = sum-template f wide to a b kind
has-template (Compare f wide to a b) kind small some = compare-template f wide to a b kind
has-template (Logic f to a b) kind small some = logic-template f to a b kind
has-template (Choose wide to c a b) kind small some = choose-template wide to c a b
has-template (Shift side wide n to a) kind small some = shift-template side wide n to a kind
has-template (Product f wide to a b) kind small some = absurd (cc)
