-- Literals at the edges of their types.
use Rattle.std.specs.Prelude.{◌≡◌, Some, None, true, refl}
use Rattle.frp_tree.specs.declared.syntax.Lit.TheVariants as lit
use Rattle.frp_tree.specs.declared.syntax.Value.TheVariants as value
use Rattle.frp_tree.specs.Literals.{lit_value_of}

pub greatest_plain : lit_value_of (lit.Plain 255) ≡ Some (value.U8 255)
greatest_plain = refl

pub past_plain : lit_value_of (lit.Plain 256) ≡ None
past_plain = refl

pub greatest_wide : lit_value_of (lit.Wide 65535) ≡ Some (value.U16 65535)
greatest_wide = refl

pub past_wide : lit_value_of (lit.Wide 65536) ≡ None
past_wide = refl

pub truth : lit_value_of (lit.Truth true) ≡ Some (value.Bool true)
truth = refl
