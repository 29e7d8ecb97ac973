-- Which token of a program's text a part is: tokens are told by what they begin.
use Rattle.std.specs.Prelude.{ℕ, ◌+◌, ◌-◌, suc, Bool, false, ◌==◌, List, [], ◌∷◌, length, drop, get_or, if◌then◌else◌}
use Rattle.frp_tree.specs.declared.kinds.Kind.{Kind}
use Rattle.frp_tree.specs.declared.kinds.Kind.TheVariants.{Events, Setups, Definitions, Outputs, Nodes, Entries}
use Rattle.frp_tree.specs.declared.marks.TheConstants as mark
use Rattle.frp_tree.specs.declared.tokens.Token.{Token}
use Rattle.frp_tree.specs.declared.tokens.Token.TheVariants as token
use Rattle.frp_tree.specs.Cells.{Cell, is_of}
use Rattle.efrp_types.specs.declared.faults.CheckFault.{CheckFault}
use Rattle.efrp_types.specs.declared.faults.CheckFault.TheVariants as check
use Rattle.where_tool.specs.declared.parts.Host.{Host}
use Rattle.where_tool.specs.declared.parts.Host.TheVariants as host
use Rattle.where_tool.specs.declared.parts.Part.{Part}
use Rattle.where_tool.specs.declared.parts.Part.TheVariants as part

-- The places of those that pass, where the first has this place.
abbrev pub places_of : {A : Type 0} → (A → Bool) → ℕ → List A → List ℕ
places_of passes n [] = []
places_of passes n (x ∷ xs) = if passes x then n ∷ places_of passes (suc n) xs else places_of passes (suc n) xs

-- The place of the one with this number, from 0, among those that pass from some place on; the length, where there is none.
abbrev pub place_behind : {A : Type 0} → (A → Bool) → ℕ → ℕ → List A → ℕ
place_behind passes from number xs = get_or (places_of passes from (drop from xs)) number (length xs)

abbrev pub is_mark : ℕ → Token → Bool
is_mark k (token.Mark other) = other == k
is_mark k _ = false

-- The token that begins the item of this kind and number.
abbrev pub head_of : Kind → ℕ → List Cell → ℕ
head_of kind number cells = place_behind (λ (c : Cell). is_of kind c.begins) 0 number cells

-- The arrow of a clause: so many arrows stand between the definition's first token and it.
abbrev pub arrow_of : ℕ → ℕ → List Cell → ℕ
arrow_of decl number cells = place_behind (λ (c : Cell). is_mark mark.ARROW c.token) (head_of Definitions decl cells) number cells

-- A token with no node between it and the first one of an expression.
abbrev pub before_nodes : Host → List Cell → ℕ
before_nodes (host.Decl decl) cells = head_of Definitions decl cells
before_nodes (host.Clause decl number) cells = arrow_of decl number cells
before_nodes (host.Output number) cells = head_of Outputs number cells

-- The token of a part: the first one of an item; a clause's event, which stands before its arrow; an entry; a node.
abbrev pub token_of : Part → List Cell → ℕ
token_of (part.Event number) cells = head_of Events number cells
token_of (part.Setup number) cells = head_of Setups number cells
token_of (part.Decl number) cells = head_of Definitions number cells
token_of (part.Output number) cells = head_of Outputs number cells
token_of (part.Clause decl number) cells = arrow_of decl number cells - 1
token_of (part.Entry decl number) cells = place_behind (λ (c : Cell). is_of Entries c.begins) (head_of Definitions decl cells) number cells
token_of (part.Node h number) cells = place_behind (λ (c : Cell). is_of Nodes c.begins) (before_nodes h cells) number cells

-- How many tokens behind the first one of an item its fault stands: at the name, the source or the priority of
-- `event NAME = SOURCE priority N ;`, at the register or the byte of `setup REGISTER = N ;`, at the port of `output PORT = ..`,
-- and of a definition at its name, or at the constant or the port of `let NAME : TYPE = init CONSTANT ..` or `.. = input PORT ;`.
abbrev pub in_event : CheckFault → ℕ
in_event (check.UnknownSource name) = 3
in_event (check.SourceTwice name) = 3
in_event (check.BadPriority event n) = 5
in_event _ = 1

abbrev pub in_setup : CheckFault → ℕ
in_setup (check.LiteralRange owner) = 3
in_setup _ = 1

abbrev pub in_decl : CheckFault → ℕ
in_decl (check.Twice name) = 1
in_decl _ = 6

abbrev pub offset_of : Part → CheckFault → ℕ
offset_of (part.Event number) fault = in_event fault
offset_of (part.Setup number) fault = in_setup fault
offset_of (part.Decl number) fault = in_decl fault
offset_of (part.Output number) fault = 1
offset_of _ fault = 0

-- The number of the token at which a part has a fault.
abbrev pub fault_token : Part → CheckFault → List Cell → ℕ
fault_token p fault cells = token_of p cells + offset_of p fault
