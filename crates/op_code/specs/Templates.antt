-- The acts of each operation, and the words that they take at most.
use Rattle.std.specs.Prelude.{ℕ, List}
use Rattle.byte_ops.specs.declared.operations.Op.{Op}
use Rattle.byte_ops.specs.declared.operations.Op.TheVariants.{Product}
use Rattle.code_acts.specs.declared.acts.Act.{Act}
use Rattle.op_templates.specs.Templates.{template_of, most_words}
use Rattle.product_templates.specs.Templates.{product_template}
use Rattle.product_templates.specs.Laws.{bound_of}

abbrev pub acts_of : Op → List Act
acts_of (Product f wide to a b) = product_template f wide
acts_of op = template_of op

abbrev pub words_of : Op → ℕ
words_of (Product f wide to a b) = bound_of f wide
words_of op = most_words op
