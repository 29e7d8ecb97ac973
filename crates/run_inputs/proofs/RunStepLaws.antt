-- The steps of `run` before the trace, put together.
use Rattle.std.proofs.Common.{◌≡◌, ◌≢◌, ℕ, ◌<◌, ◌≤◌, ◌⊎◌, inl, inr, List, [], ◌∷◌, Some, None, Err, length, arith, refl, ◌∙◌, subst}
use Rattle.edge_io.specs.declared.outside.TheConstants.{LONGEST_FILE}
use Rattle.edge_io.specs.Files.{FilesSeen, IfTold, KeepsFiles}
use Rattle.run_inputs.specs.declared.inputs.Inputs.{Inputs}
use Rattle.command_parts.specs.declared.halts.Halt.{Halt}
use Rattle.command_parts.specs.declared.halts.Halt.TheVariants.{Said, PutFailed, Memory}
use Rattle.hex_file.specs.declared.images.Image.{Image}
use Rattle.hex_file.specs.declared.faults.HexFault.{HexFault}
use Rattle.hex_file.specs.declared.faults.HexFault.TheVariants as hexes
use Rattle.hex_file.specs.ImageOf.{IsImageOf}
use Rattle.hex_file.specs.Faults as hex
use Rattle.map_file.specs.declared.maps.Map.{Map}
use Rattle.map_file.specs.MapRules.{IsMap}
use Rattle.map_file.specs.MapText.{map_text}
use Rattle.map_file.specs.MapFaults.{FirstFaulty}
use Rattle.arrival_script.specs.declared.scripts.Cause.{Cause}
use Rattle.arrival_script.specs.declared.scripts.ScriptFault.{ScriptFault}
use Rattle.arrival_script.specs.declared.scripts.ScriptFault.TheVariants as scripts
use Rattle.arrival_script.specs.Scripts as script
use Rattle.run_inputs.specs.RunLines.{hex_line, map_line, script_line}
use Rattle.command_parts.proofs.ToldLaws.{keeps_trans, told_before, if_all, if_map, if_both}
use Rattle.command_parts.specs.Endings.{Gives}
use Rattle.command_parts.specs.Reads.{Unread, NotHeld, NotRead, TooLong, unread_status, unread_line, IsUnread, IsInput, IsNext}
use Rattle.run_inputs.specs.RunFaults.{RunRequest, AreInputs, AreParts, IsScriptIn, FileUnread, BadHex, BadMap, BadScript, fault_status, fault_line, IsFirstFault, FaultCause}

-- A halt stays one where the fault is told in another way, with the same status and line.
pub halts : {A A' B B' : Type 0} (Good : A → Type 0) (Good' : A' → Type 0) (Bad : B → Type 0) (Bad' : B' → Type 0) (status : B → ℕ) (status' : B' → ℕ) (line : B → List ℕ) (line' : B' → List ℕ) (e : Halt)
    → ((f : B) → Bad f → (g : B') × Bad' g × (status f ≡ status' g) × (line f ≡ line' g)) → Gives Good Bad status line (Err e) → Gives Good' Bad' status' line' (Err e)
halts Good Good' Bad Bad' status status' line line' (Said due text) step (f, bad, is, put) = let s = step f bad in (s.0, s.1, is ∙ s.2, put ∙ s.3)
halts Good Good' Bad Bad' status status' line line' PutFailed step h = h
halts Good Good' Bad Bad' status status' line line' Memory step h = tt

pub input_before : (a b : FilesSeen) (name text : List ℕ) → KeepsFiles a b → IsInput name b text → IsInput name a text
input_before a b name text keeps is = (told_before a b name (λ found. found ≡ Some text) keeps is.0, is.1)

unread_before : (a b c : FilesSeen) (name : List ℕ) (why : Unread) → KeepsFiles a b → a.read_faults ≤ b.read_faults → IsUnread name b c why → IsUnread name a c why
unread_before a b c name NotHeld keeps less is = told_before a b name (λ found. found ≡ None) keeps is
unread_before a b c name NotRead keeps less is =
    (omega (arith, is.0), told_before a b name (λ found. (text : List ℕ) × (found ≡ Some text) × (length text ≤ LONGEST_FILE)) keeps is.1)
unread_before a b c name TooLong keeps less is = told_before a b name (λ found. (text : List ℕ) × (found ≡ Some text) × (LONGEST_FILE < length text)) keeps is

-- The first, the second or the third file wasn't read.
module _ (a b c : FilesSeen) where
  pub first_unread : (one : List ℕ) (later : List (List ℕ)) (why : Unread) → IsUnread one a b why → IfTold a (λ held. IsNext (one ∷ later) held one) × IsUnread one a b why
  first_unread one later why is = (if_all a _ (λ held. record { earlier = []; later = later; order = refl; readable = tt }), is)

  pub second_unread : (one two : List ℕ) (later : List (List ℕ)) (text : List ℕ) (why : Unread) → KeepsFiles a b → a.read_faults ≤ b.read_faults → IsInput one a text → IsUnread two b c why
      → IfTold a (λ held. IsNext (one ∷ two ∷ later) held two) × IsUnread two a c why
  second_unread one two later text why keeps less first is = (
    if_map a _ _ (λ held at. record { earlier = one ∷ []; later = later; order = refl; readable = ((text, at, first.1), tt) }) first.0,
    unread_before a b c two why keeps less is,
  )

  third_unread : (one two three : List ℕ) (text text' : List ℕ) (why : Unread) → KeepsFiles a b → a.read_faults ≤ b.read_faults → IsInput one a text → IsInput two a text' → IsUnread three b c why
      → IfTold a (λ held. IsNext (one ∷ two ∷ three ∷ []) held three) × IsUnread three a c why
  third_unread one two three text text' why keeps less first second is = (
    if_both a _ _ _ (λ held at at'. record { earlier = one ∷ two ∷ []; later = []; order = refl; readable = ((text, at, first.1), ((text', at', second.1), tt)) }) first.0 second.0,
    unread_before a b c three why keeps less is,
  )

pub first_halts : (r : RunRequest) (a b : FilesSeen) (e : Halt)
    → Gives (IsInput r.hex a) (IsUnread r.hex a b) unread_status (unread_line r.hex) (Err e) → Gives (AreInputs r a) (FaultCause r a b) fault_status fault_line (Err e)
first_halts r a b e =
    halts (IsInput r.hex a) (AreInputs r a) (IsUnread r.hex a b) (FaultCause r a b) unread_status fault_status (unread_line r.hex) fault_line e
    (λ why is. (FileUnread r.hex why, first_unread a b b r.hex (r.map ∷ r.script ∷ []) why is, refl, refl))

pub second_halts : (r : RunRequest) (a b c : FilesSeen) (e : Halt) (hex : List ℕ) → KeepsFiles a b → a.read_faults ≤ b.read_faults → IsInput r.hex a hex
    → Gives (IsInput r.map b) (IsUnread r.map b c) unread_status (unread_line r.map) (Err e) → Gives (AreInputs r a) (FaultCause r a c) fault_status fault_line (Err e)
second_halts r a b c e hex keeps less is =
    halts (IsInput r.map b) (AreInputs r a) (IsUnread r.map b c) (FaultCause r a c) unread_status fault_status (unread_line r.map) fault_line e
    (λ why unread. (FileUnread r.map why, second_unread a b c r.hex r.map (r.script ∷ []) hex why keeps less is unread, refl, refl))

pub third_halts : (r : RunRequest) (a b c d : FilesSeen) (e : Halt) (hex map : List ℕ) → KeepsFiles a b → KeepsFiles b c → a.read_faults ≤ b.read_faults → b.read_faults ≤ c.read_faults → IsInput r.hex a hex → IsInput r.map b map
    → Gives (IsInput r.script c) (IsUnread r.script c d) unread_status (unread_line r.script) (Err e) → Gives (AreInputs r a) (FaultCause r a d) fault_status fault_line (Err e)
third_halts r a b c d e hex map keeps keeps' less less' is is' =
    halts (IsInput r.script c) (AreInputs r a) (IsUnread r.script c d) (FaultCause r a d) unread_status fault_status (unread_line r.script) fault_line e
    (λ why unread. (
      FileUnread r.script why,
      third_unread a c d r.hex r.map r.script hex map why (keeps_trans a b c keeps keeps') (omega (arith, less, less')) is (input_before a b r.map map keeps is') unread,
      refl,
      refl,
    ))

-- The first fault of the bytes.
module _ (i : Inputs) (e : Halt) where
  pub image_halts : Gives (IsImageOf i.hex) (hex.FirstFault i.hex) (λ fault. 1) hex_line (Err e) → Gives (AreParts i) (IsFirstFault i) fault_status fault_line (Err e)
  image_halts = halts (IsImageOf i.hex) (AreParts i) (hex.FirstFault i.hex) (IsFirstFault i) (λ fault. 1) fault_status hex_line fault_line e (λ fault is. (BadHex fault, is, refl, refl))

  pub map_halts : (image : Image) → IsImageOf i.hex image
      → Gives (λ (map : Map). IsMap map × (i.map ≡ map_text map)) (FirstFaulty i.map) (λ n. 1) map_line (Err e) → Gives (AreParts i) (IsFirstFault i) fault_status fault_line (Err e)
  map_halts image means = halts (λ (map : Map). IsMap map × (i.map ≡ map_text map)) (AreParts i) (FirstFaulty i.map) (IsFirstFault i) (λ n. 1) fault_status map_line fault_line e (λ n is. (BadMap n, ((image, means), is), refl, refl))

  pub script_halts : (image : Image) (map : Map) → IsImageOf i.hex image → IsMap map → i.map ≡ map_text map
      → Gives (IsScriptIn i.script) (λ fault. script.first_fault i.script ≡ Some fault) (λ fault. 1) (λ fault. script_line fault.line fault.cause) (Err e)
      → Gives (AreParts i) (IsFirstFault i) fault_status fault_line (Err e)
  script_halts image map means rules text =
      halts (IsScriptIn i.script) (AreParts i) (λ (fault : script.Fault). script.first_fault i.script ≡ Some fault) (IsFirstFault i) (λ fault. 1) fault_status (λ fault. script_line fault.line fault.cause) fault_line e
      (λ fault is. (BadScript fault.line fault.cause, ((image, means), record { map = map; rules = rules; text = text }, is), refl, refl))

-- What the readers say of the slice that they were given.
pub hex_refused : (slice bytes line : List ℕ) (fault : HexFault) → slice ≡ bytes → (fault ≢ hexes.Memory) × (line ≡ hex_line fault) → (fault ≡ hexes.Memory) ⊎ hex.FirstFault slice fault
    → (x : HexFault) × hex.FirstFault bytes x × (◌≡◌ {A = ℕ} 1 1) × (line ≡ hex_line x)
hex_refused slice bytes line fault same said (inl memory) = absurd (said.0 memory)
hex_refused slice bytes line fault same said (inr first) = (fault, subst (λ (b : List ℕ). hex.FirstFault b fault) same first, refl, said.1)

pub script_refused : (slice bytes text : List ℕ) (n : ℕ) (cause : Cause) (fault : ScriptFault) → slice ≡ bytes → fault ≡ scripts.Line n cause → script.Reads slice (Err fault) → text ≡ script_line n cause
    → (x : script.Fault) × (script.first_fault bytes ≡ Some x) × (◌≡◌ {A = ℕ} 1 1) × (text ≡ script_line x.line x.cause)
script_refused slice bytes text n cause fault same is reads said =
    let first : script.first_fault slice ≡ Some (record { line = n; cause = cause }) = subst (λ (f : ScriptFault). script.Reads slice (Err f)) is reads in
    (record { line = n; cause = cause }, subst (λ (b : List ℕ). script.first_fault b ≡ Some (record { line = n; cause = cause })) same first, refl, said)
