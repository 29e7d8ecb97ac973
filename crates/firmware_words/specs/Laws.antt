-- What the laws of `laws.rt` promise: that firmware's code can be laid out, and in how many words.
use Rattle.std.specs.Prelude.{◌<◌, ◌≤◌, ◌^◌, length}
use Rattle.std.specs.List.{AllByRecursion}
use Rattle.efrp_meaning.specs.Bounds.{words_bound}
use Rattle.code_items.specs.Items.{ItemFits, OnceEach, words_in}
use Rattle.firmware_layout.specs.Made.{IsMade, IsSpread}
use Rattle.firmware_layout.specs.Pieces.{Makings, items_of}

-- What `layout` of `page_layout` asks of the items of all code: few enough to be counted, fields in range, and each mark at most once.
pub record CanBeLaid (f : Makings) : Type 0 where
  pub few : length (items_of f) < 2 ^ 29
  pub fit : AllByRecursion ItemFits (items_of f)
  pub once : OnceEach (items_of f)

abbrev pub CodeCanBeLaid : Makings → Type 0
CodeCanBeLaid f = IsMade f → CanBeLaid f

-- The words, page settings among them, are within the bound on the whole image.
abbrev pub WordsAreBounded : Makings → Type 0
WordsAreBounded f = IsMade f → IsSpread f → words_in f.spread.pages (items_of f) ≤ words_bound f.p
