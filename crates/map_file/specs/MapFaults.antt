-- Which bytes are a map's text, and which line of other bytes is the first faulty one.
use Rattle.std.specs.Prelude.{◌≡◌, ℕ, ◌+◌, List, ◌++◌, length, codes, Result, Ok, Err}
use Rattle.std.specs.List.{AllByRecursion, concat}
use Rattle.text_parts.specs.Cuts.{Lacks}
use Rattle.map_file.specs.declared.maps.Map.{Map}
use Rattle.map_file.specs.declared.faults.MapFault.{MapFault}
use Rattle.map_file.specs.declared.faults.MapFault.TheVariants.{Line, Memory}
use Rattle.map_file.specs.MapRules.{IsMap}
use Rattle.map_file.specs.MapText.{map_text}

-- The bytes are the text of some map.
pub record IsMapText (bytes : List ℕ) : Type 0 where
  pub map : Map
  pub rules : IsMap map
  pub text : bytes ≡ map_text map

-- Some map's text begins with these bytes.
pub record Begins (prefix : List ℕ) : Type 0 where
  pub map : Map
  pub rules : IsMap map
  pub rest : List ℕ
  pub text : map_text map ≡ prefix ++ rest

-- No LF is among the bytes.
abbrev pub HasNoEnd : List ℕ → Type 0
HasNoEnd bytes = Lacks 10 bytes

-- A whole line has LF at its end, and nowhere else.
pub record IsWholeLine (line : List ℕ) : Type 0 where
  pub body : List ℕ
  pub ends : line ≡ body ++ codes "\n"
  pub one : HasNoEnd body

-- Line n, counted from 1, is the first that isn't in the form at its place. The bytes are no map's text. Before
-- line n stand whole lines with which some map's text begins, and no whole line stands next with which, after
-- these, a map's text begins: so a line that is missing or that lacks its LF is faulty too.
pub record FirstFaulty (bytes : List ℕ) (n : ℕ) : Type 0 where
  pub lines : List (List ℕ)
  pub rest : List ℕ
  pub cut : bytes ≡ concat lines ++ rest
  pub whole : AllByRecursion IsWholeLine lines
  pub number : n ≡ length lines + 1
  pub begins : Begins (concat lines)
  pub refused : (line after : List ℕ) → IsWholeLine line → rest ≡ line ++ after → Begins (concat lines ++ line) → ⊥
  pub no_text : IsMapText bytes → ⊥

-- The fault is the bytes' first faulty line, or out of memory.
abbrev pub IsFaultOf : List ℕ → MapFault → Type 0
IsFaultOf bytes (Line n) = FirstFaulty bytes n
IsFaultOf bytes Memory = Unit {0}

-- The answer is this map, or out of memory.
abbrev pub IsReadAs : Map → Result Map MapFault → Type 0
IsReadAs map (Ok found) = found ≡ map
IsReadAs map (Err fault) = fault ≡ Memory
