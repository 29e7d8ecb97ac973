-- Why code has no words.
use Rattle.std.specs.Prelude.{◌≡◌, ◌<◌, List}
use Rattle.code_items.specs.declared.items.Item.{Item}
use Rattle.code_items.specs.Items.{has_pages, words_in}
use Rattle.page_layout.specs.declared.laid.CodeFault.{CodeFault}
use Rattle.page_layout.specs.declared.laid.CodeFault.TheVariants.{Code, Memory}

-- The fault is true of the items: they would have this many words, more than 8,192. Memory may always not suffice.
abbrev pub IsFaultOf : List Item → CodeFault → Type 0
IsFaultOf items (Code n) = (8192 < n) × (n ≡ words_in (has_pages items) items)
IsFaultOf items Memory = Unit {0}
