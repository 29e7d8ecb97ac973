-- What is known of a script of which some lines are read.
use Rattle.std.specs.Prelude.{◌≡◌, ℕ, ◌<◌, ◌≤◌, ◌-◌, Bool, true, false, nat_lt, nat_le, ◌&&◌, if◌then◌else◌, slice_get, List, [], ◌∷◌, ◌++◌, length, map, filter, Option, Some, None, IfSome, Result, Ok, Err}
use Rattle.std.specs.List.{All, find, list_all, list_any}
use Rattle.std.specs.List.Sorted.{IsStrictlyIncreasing, IsNonDecreasingBy}
use Rattle.std.specs.Option.{option_map}
use Rattle.arrival_script.specs.declared.scripts.Arrival.{Arrival}
use Rattle.arrival_script.specs.declared.scripts.PinChange.{PinChange}
use Rattle.arrival_script.specs.declared.scripts.Script.{Script}
use Rattle.arrival_script.specs.declared.scripts.ScriptFault.{ScriptFault}
use Rattle.arrival_script.specs.declared.scripts.ScriptFault.TheVariants as fault
use Rattle.arrival_script.specs.declared.scripts.Cause.{Cause}
use Rattle.arrival_script.specs.declared.scripts.Cause.TheVariants.{BadLine, NotRising, PinTwice}
use Rattle.arrival_script.specs.declared.entries.Entry.{Entry}
use Rattle.arrival_script.specs.declared.entries.Entry.TheVariants as entry
use Rattle.arrival_script.specs.declared.drafts.Timed.{Timed}
use Rattle.arrival_script.specs.declared.drafts.Draft.{Draft}
use Rattle.arrival_script.specs.Scripts.{Line, States, value, is_fill, is_timed, is_told, last_of, has_pair, is_same_pin, line_cause, fault_at_end, fill_of, late_of, arrivals_in, pins_in, steps_of, IsScript}

-- An arrival of at least one source.
pub record HasSources (a : Arrival) : Type 0 where
  pub some : 0 < a.sources
  pub known : a.sources < 2048

-- A number of steps in range.
abbrev pub IsCount : ℕ → Type 0
IsCount n = (1 ≤ n) × (n ≤ 10000000)

-- A change of a port's pins that isn't after a boundary.
pub record IsChangeUpTo (boundary : ℕ) (p : PinChange) : Type 0 where
  pub in_time : p.at ≤ boundary
  pub port : p.port < 5
  pub byte : p.byte < 256

-- Changes of pins in order, none after a boundary.
pub record AreChangesUpTo (boundary : ℕ) (pins : List PinChange) : Type 0 where
  pub order : IsNonDecreasingBy (λ p. p.at) pins
  pub each : All (IsChangeUpTo boundary) pins

-- The boundary of the last `at` or `pin` line, or 0.
abbrev pub boundary_of : List Line → ℕ
boundary_of before = elim (last_of is_timed before) [ None ↦ 0 | Some last ↦ value last ]

-- The number and the boundary of a line.
abbrev pub timed_of : Line → Timed
timed_of line = record { line = line.number; at = value line }

-- The draft has what these lines state, no one of which a cause applies to.
pub record IsDraftOf (before : List Line) (d : Draft) : Type 0 where
  pub fill : d.fill ≡ fill_of before
  pub byte : d.fill < 256
  pub late : d.late ≡ late_of before
  pub arrivals : d.arrivals ≡ arrivals_in before
  pub pins : d.pins ≡ pins_in before
  pub timed : d.timed ≡ map timed_of (filter is_timed before)
  pub reached : d.reached ≡ boundary_of before
  pub steps : d.steps ≡ steps_of before
  pub started : d.started ≡ nat_lt 0 (length before)
  pub opening : d.opening ≡ list_all is_fill before
  pub rising : IsStrictlyIncreasing (map (λ a. a.at) d.arrivals)
  pub sources : All HasSources d.arrivals
  pub changes : AreChangesUpTo d.reached d.pins
  pub once : has_pair is_same_pin d.pins ≡ false
  pub count : IfSome d.steps IsCount

-- A boundary is above that of the last arrival, if there is one.
abbrev pub is_above : List Arrival → ℕ → Bool
is_above arrivals boundary = elim (slice_get arrivals (length arrivals - 1)) [ None ↦ true | Some last ↦ nat_lt last.at boundary ]

-- Why a draft without steps doesn't take what a line says, and the draft with it.
abbrev pub refusal : Draft → Entry → Option Cause
refusal d (entry.Fill byte) = if d.started then Some BadLine else None
refusal d (entry.Late late) = if d.opening then None else Some BadLine
refusal d (entry.At a) = if nat_le d.reached a.at && is_above d.arrivals a.at then None else Some NotRising
refusal d (entry.Pin p) = if nat_le d.reached p.at then (if list_any (is_same_pin p) d.pins then Some PinTwice else None) else Some NotRising
refusal d (entry.Steps n) = None

abbrev pub with_entry : Draft → ℕ → Entry → Draft
with_entry d number (entry.Fill byte) = record d { fill = byte; started = true }
with_entry d number (entry.Late late) = record d { late = late; started = true; opening = false }
with_entry d number (entry.At a) = record d {
  arrivals = d.arrivals ++ a ∷ [];
  timed = d.timed ++ record { line = number; at = a.at } ∷ [];
  reached = a.at;
  started = true;
  opening = false;
}
with_entry d number (entry.Pin p) = record d {
  pins = d.pins ++ p ∷ [];
  timed = d.timed ++ record { line = number; at = p.at } ∷ [];
  reached = p.at;
  started = true;
  opening = false;
}
with_entry d number (entry.Steps n) = record d { steps = Some n; started = true; opening = false }

abbrev pub Extends : Draft → ℕ → Entry → Draft → Result (Unit {0}) ScriptFault → Type 0
Extends old number found new (Ok done) = (refusal old found ≡ None) × (new ≡ with_entry old number found)
Extends old number found new (Err (fault.Line line cause)) = (line ≡ number) × (refusal old found ≡ Some cause)
Extends old number found new (Err fault.Memory) = Unit {0}

-- What reading one more line leaves: a draft with it too, or its cause at its number.
abbrev pub Adds : List Line → Line → Draft → Result (Unit {0}) ScriptFault → Type 0
Adds before line new (Ok done) = (line_cause before line ≡ None) × IsDraftOf (before ++ line ∷ []) new
Adds before line new (Err (fault.Line n cause)) = (n ≡ line.number) × (line_cause before line ≡ Some cause)
Adds before line new (Err fault.Memory) = Unit {0}

-- The same of a line that may be skipped.
abbrev pub Takes : List Line → Line → Draft → Result (Unit {0}) ScriptFault → Type 0
Takes before line new answer = elim (is_told line.fields) [ true ↦ Adds before line new answer | false ↦ (answer ≡ Ok tt) × IsDraftOf before new ]

-- The number of the first line whose boundary isn't before the last step.
abbrev pub past_number : Draft → ℕ → Option ℕ
past_number d steps = option_map (λ t. t.line) (find (λ t. nat_le steps t.at) d.timed)

-- What the whole draft is: the script that its lines state, or the fault at the end.
abbrev pub Ends : ℕ → List Line → Result Script ScriptFault → Type 0
Ends count told (Ok script) = (fault_at_end count told ≡ None) × States told script × IsScript script
Ends count told (Err (fault.Line line cause)) = fault_at_end count told ≡ Some (record { line = line; cause = cause })
Ends count told (Err fault.Memory) = Unit {0}
