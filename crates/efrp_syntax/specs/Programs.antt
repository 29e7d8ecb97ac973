-- What the reader of a whole program answers; and what the pass over its notes answers.
use Rattle.std.specs.Prelude.{◌≡◌, ◌≢◌, ℕ, ◌<◌, ◌≤◌, List, [], ◌∷◌, ◌++◌, length, Some, Result, Ok, Err, count_by, ◌⊎◌}
use Rattle.std.specs.List.{AllByRecursion}
use Rattle.frp_tree.specs.declared.kinds.Kind.{Kind}
use Rattle.frp_tree.specs.declared.kinds.Kind.TheVariants.{Events, Setups, Definitions, Outputs, Nodes, Entries}
use Rattle.frp_tree.specs.declared.limits.TheConstants.{MOST_ENTRIES_OF_A_TABLE}
use Rattle.frp_tree.specs.declared.syntax.Program.{Program}
use Rattle.frp_tree.specs.declared.tokens.Token.{Token}
use Rattle.frp_tree.specs.Tree.{program_tree_of}
use Rattle.frp_tree.specs.Limits.{most}
use Rattle.frp_tree.specs.Cells.{is_of}
use Rattle.frp_tree.specs.Grammar.{SpellsProgram, HasTreeWithin}
use Rattle.frp_tree.specs.Breaks.{IsUnexpected, IsTooDeep, IsTooMany}
use Rattle.efrp_syntax.specs.declared.begun.Begun.{Begun}
use Rattle.efrp_syntax.specs.declared.begun.Stop.{Stop}
use Rattle.efrp_syntax.specs.declared.begun.Stop.TheVariants as stop
use Rattle.efrp_syntax.specs.declared.faults.SyntaxFault.{SyntaxFault}
use Rattle.efrp_syntax.specs.declared.faults.SyntaxFault.TheVariants.{BadByte, TooBig, Unexpected, TooDeep, TooMany, Memory}
use Rattle.efrp_syntax.specs.declared.counts.Counts.{Counts}
use Rattle.efrp_syntax.specs.Answers.{Found, Fails}
use Rattle.efrp_syntax.specs.Items.{IsEnd}

-- All tokens are those of the program.
abbrev pub ReadWhole : List Token → List Begun → List Begun → Result Program Stop → Type 0
ReadWhole ts before after (Ok p) = Found SpellsProgram IsEnd ts (program_tree_of p) [] before after
ReadWhole ts before after (Err stop) = Fails SpellsProgram IsEnd ts before after stop

-- What the reader noted, however it ended but by out of memory.
pub record AreNoted (ts : List Token) (notes : List Begun) : Type 0 where
  pub answer : Result Program Stop
  pub read : ReadWhole ts [] notes answer
  pub full : answer ≢ Err stop.Memory

-- How many of a kind are noted.
abbrev pub noted_of : Kind → List Begun → ℕ
noted_of kind notes = count_by (λ (n : Begun). is_of kind n.kind) notes

-- None is noted that is one too many of its kind, nor an entry too many for its table.
pub record HasFew (notes : List Begun) : Type 0 where
  pub few : (kind : Kind) → noted_of kind notes ≤ most kind
  pub short : AllByRecursion (λ (n : Begun). (kind : Kind) → n.kind ≡ Some kind → n.entry ≤ MOST_ENTRIES_OF_A_TABLE) notes

-- The first that is, of this kind.
pub record IsFirstTooMany (notes : List Begun) (kind : Kind) : Type 0 where
  pub front : List Begun
  pub note : Begun
  pub rest : List Begun
  pub whole : notes ≡ front ++ note ∷ rest
  pub before : HasFew front
  pub begun : note.kind ≡ Some kind
  pub many : (most kind < noted_of kind (front ++ note ∷ [])) ⊎ (MOST_ENTRIES_OF_A_TABLE < note.entry)

-- It stands at this place.
abbrev pub IsFirstTooManyAt : List Begun → ℕ → Kind → Type 0
IsFirstTooManyAt notes place kind = (first : IsFirstTooMany notes kind) × (length first.front ≡ place)

-- How many of a kind were counted.
abbrev pub counted : Kind → Counts → ℕ
counted Events c = c.events
counted Setups c = c.setups
counted Definitions c = c.definitions
counted Outputs c = c.outputs
counted Nodes c = c.nodes
counted Entries c = c.entries

-- What tokens have: a tree within the limits, or a fault.
abbrev pub Told : List Token → Result Program SyntaxFault → Type 0
Told ts (Ok p) = HasTreeWithin (program_tree_of p) ts
Told ts (Err (Unexpected n)) = IsUnexpected ts n
Told ts (Err (TooDeep n)) = IsTooDeep ts n
Told ts (Err (TooMany kind)) = IsTooMany ts kind
Told ts (Err Memory) = Unit {0}
Told ts (Err (BadByte place)) = ⊥
Told ts (Err (TooBig place)) = ⊥
