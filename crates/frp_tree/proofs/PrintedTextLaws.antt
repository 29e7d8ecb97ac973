-- Laws on the text that is printed of a program: it spells the program, if any text does.
use Rattle.std.proofs.Common.{ℕ, ◌≤◌, Bool, false, List, [], ◌∷◌, ◌++◌, length, sym, subst}
use Rattle.std.specs.List.{AllByRecursion, flat_map}
use Rattle.frp_tree.specs.declared.marks.TheConstants.{SEMICOLON}
use Rattle.frp_tree.specs.declared.tokens.Token.{Token}
use Rattle.frp_tree.specs.declared.tokens.Token.TheVariants.{Mark}
use Rattle.frp_tree.specs.Tree.{ProgramTree}
use Rattle.frp_tree.specs.Tokens.{Cuts, here, blank, comment, lexeme, IsWithin}
use Rattle.frp_tree.specs.Cells.{Cell, tokens_of}
use Rattle.frp_tree.specs.Grammar.{HasTreeWithin, Spells, SpellsUnbounded}
use Rattle.frp_tree.specs.Printed.{items, printed, printed_tokens}
use Rattle.frp_tree.proofs.PrintedLaws.{Passes}
use Rattle.frp_tree.proofs.PrintedProgramLaws.{program_cells, program_same, better_program, printed_has_tree}
use Rattle.frp_tree.proofs.SpacedLaws.{is_writable, writable_within, lexeme_writable, AreWritable, lines_cut}

-- The tokens of a text can be written.
cut_writable : {after last : Bool} {text rest : List ℕ} {ts : List Token} → Cuts after text ts last rest → AllByRecursion IsWithin ts → AreWritable ts
cut_writable here h = tt
cut_writable (blank b c) h = cut_writable c h
cut_writable (comment body more a n c) h = cut_writable c h
cut_writable (lexeme {t = t} w more l n s a c) h = (lexeme_writable t w l h.0, cut_writable c h.1)

passes : (w : List Cell) → AreWritable (tokens_of w) → AllByRecursion (Passes is_writable) w
passes [] h = tt
passes (c ∷ w) h = (h.0, passes w h.1)

passed : (w : List Cell) → AllByRecursion (Passes is_writable) w → AreWritable (tokens_of w)
passed [] h = tt
passed (c ∷ w) h = (h.0, passed w h.1)

-- So can those that are printed of its tree.
printed_writable : (p : ProgramTree) (ts : List Token) → HasTreeWithin p ts → AreWritable ts → AreWritable (printed_tokens p)
printed_writable p ts h k =
    let b = better_program p h.cells h.spelled in
    subst AreWritable (program_same p) (passed (program_cells p) (b.no_worse.kept is_writable (passes h.cells (subst AreWritable (sym h.tokens) k))))

front_writable : (v w : List Token) → AreWritable (v ++ w) → AreWritable v
front_writable [] w h = tt
front_writable (t ∷ v) w h = (h.0, front_writable v w h.1)

back_writable : (v w : List Token) → AreWritable (v ++ w) → AreWritable w
back_writable [] w h = h
back_writable (t ∷ v) w h = back_writable v w h.1

items_writable : (rows : List (List Token)) → AreWritable (flat_map (λ item. item ++ Mark SEMICOLON ∷ []) rows) → AllByRecursion AreWritable rows
items_writable [] h = tt
items_writable (item ∷ rows) h = (
  front_writable item (Mark SEMICOLON ∷ []) (front_writable (item ++ Mark SEMICOLON ∷ []) (flat_map (λ i. i ++ Mark SEMICOLON ∷ []) rows) h),
  items_writable rows (back_writable (item ++ Mark SEMICOLON ∷ []) (flat_map (λ i. i ++ Mark SEMICOLON ∷ []) rows) h),
)

all_within : (ts : List Token) → AreWritable ts → AllByRecursion IsWithin ts
all_within [] h = tt
all_within (t ∷ ts) h = (writable_within t h.0, all_within ts h.1)

-- The text that is printed spells the program, whatever its length ..
pub printed_spells : (p : ProgramTree) (text : List ℕ) → Spells text p → SpellsUnbounded (printed p) p
printed_spells p text s =
    let w = printed_writable p s.tokens s.tree (cut_writable s.cut.2 s.cut.3) in
    record { tokens = printed_tokens p; last = false; cut = lines_cut (items p) (items_writable (items p) w); within = all_within (printed_tokens p) w; tree = printed_has_tree p s.tokens s.tree }

-- .. and within the limits, where it isn't too long.
pub short_spells : (p : ProgramTree) (text : List ℕ) → SpellsUnbounded text p → length text ≤ 65536 → Spells text p
short_spells p text s h = record { tokens = s.tokens; cut = (h, s.last, s.cut, s.within); tree = s.tree }
