-- The events and definitions of a program that a text spells have names.
use Rattle.std.proofs.Common.{◌≡◌, ℕ, ◌≤◌, Bool, true, List, [], ◌∷◌, ◌++◌, length, sym, ◌∙◌, subst, ap}
use Rattle.std.specs.Prelude.{nat_le, ◌&&◌, IsTrue}
use Rattle.std.specs.List.{AllByRecursion}
use Rattle.std.proofs.lemmas.Bool.{le-leb}
use Rattle.frp_tree.specs.declared.tokens.Token.{Token}
use Rattle.frp_tree.specs.declared.tokens.Token.TheVariants.{Word, Num, Wide, Mark}
use Rattle.frp_tree.specs.declared.syntax.Event.{Event}
use Rattle.text_parts.specs.Names.{is_name, has_form_of_name}
use Rattle.frp_tree.specs.Tokens.{Cuts, here, blank, comment, lexeme, IsLexeme, IsWithin}
use Rattle.frp_tree.specs.Cells.{Cell, tokens_of}
use Rattle.frp_tree.specs.Tree.{DeclTree, ProgramTree}
use Rattle.frp_tree.specs.Grammar.{Row, none, next, SpellsEvent, SpellsDecl, Spells}
use Rattle.firmware_map.specs.Laws.{HasNames}

-- A word of a text is a name.
abbrev pub IsWord : Token → Type 0
IsWord (Word name) = IsTrue (is_name name)
IsWord (Num n) = Unit {0}
IsWord (Wide n) = Unit {0}
IsWord (Mark k) = Unit {0}

is_name_from : (name w : List ℕ) → has_form_of_name w ≡ true → name ≡ w → length name ≤ 31 → is_name name ≡ true
is_name_from name w form same short =
    let at : has_form_of_name name ≡ true = ap has_form_of_name same ∙ form in
    ap (λ (b : Bool). b && nat_le (length name) 31) at ∙ le-leb (length name) 31 short

token_is_word : (t : Token) (w : List ℕ) → IsLexeme w t → IsWithin t → IsWord t
token_is_word (Word name) w spelled within = is_name_from name w spelled.0 spelled.1 within
token_is_word (Num n) w spelled within = tt
token_is_word (Wide n) w spelled within = tt
token_is_word (Mark k) w spelled within = tt

words_of_cut : {after last : Bool} {text rest : List ℕ} {ts : List Token} → Cuts after text ts last rest → AllByRecursion IsWithin ts → AllByRecursion IsWord ts
words_of_cut here all = tt
words_of_cut (blank is cut) all = words_of_cut cut all
words_of_cut (comment body more no_end at_end cut) all = words_of_cut cut all
words_of_cut (lexeme {t = t} w more spelled longest no_comment allowed cut) all = (token_is_word t w spelled all.0, words_of_cut cut all.1)

-- The words of cells, of those in front and of those behind.
abbrev pub HaveWords : List Cell → Type 0
HaveWords cells = AllByRecursion IsWord (tokens_of cells)

in_front : (front behind : List Cell) → HaveWords (front ++ behind) → HaveWords front
in_front [] behind all = tt
in_front (c ∷ front) behind all = (all.0, in_front front behind all.1)

behind_it : (front behind : List Cell) → HaveWords (front ++ behind) → HaveWords behind
behind_it [] behind all = all
behind_it (c ∷ front) behind all = behind_it front behind all.1

rows_named : {A : Type 0} {Item : A → List Cell → Type 0} (P : A → Type 0) → ((x : A) (cells : List Cell) → Item x cells → HaveWords cells → P x)
    → {xs : List A} {cells : List Cell} → Row Item xs cells → HaveWords cells → AllByRecursion P xs
rows_named P step none all = tt
rows_named P step (next {x = x} first rest item row) all = (step x first item (in_front first rest all), rows_named P step row (behind_it first rest all))

event_named : (e : Event) (cells : List Cell) → SpellsEvent e cells → HaveWords cells → IsTrue (is_name e.name)
event_named e cells spelled all = let at = subst HaveWords spelled.whole all in at.1.0

decl_named : (d : DeclTree) (cells : List Cell) → SpellsDecl d cells → HaveWords cells → IsTrue (is_name d.name)
decl_named d cells spelled all = let at = subst HaveWords spelled.whole all in at.1.0

pub has_names : (text : List ℕ) (p : ProgramTree) → Spells text p → HasNames p
has_names text p s =
    let tree = s.tree.spelled in
    let tokens : HaveWords s.tree.cells = subst (λ (ts : List Token). AllByRecursion IsWord ts) (sym s.tree.tokens) (words_of_cut s.cut.2 s.cut.3) in
    let all = subst HaveWords tree.whole tokens in
    let decls = in_front tree.decls tree.outputs (behind_it tree.setups _ (behind_it tree.events _ all)) in record {
      events = rows_named (λ (e : Event). IsTrue (is_name e.name)) event_named tree.spelled_events (in_front tree.events _ all);
      decls = rows_named (λ (d : DeclTree). IsTrue (is_name d.name)) decl_named tree.spelled_decls decls;
    }
