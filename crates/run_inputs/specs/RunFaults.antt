-- Why there is no run: what `run` finds in the three files that it reads, in order, and the first fault of their bytes.
use Rattle.std.specs.Prelude.{◌≡◌, ℕ, ◌≤◌, List, [], ◌∷◌, length, None}
use Rattle.edge_io.specs.declared.outside.TheConstants.{LONGEST_FILE}
use Rattle.edge_io.specs.Files.{FilesSeen, IfTold}
use Rattle.hex_file.specs.declared.images.Image.{Image}
use Rattle.hex_file.specs.declared.faults.HexFault.{HexFault}
use Rattle.hex_file.specs.ImageOf.{IsImageOf}
use Rattle.hex_file.specs.Faults as hex
use Rattle.map_file.specs.MapRules.{IsMap}
use Rattle.map_file.specs.MapText.{map_text}
use Rattle.map_file.specs.MapFaults.{IsMapText, FirstFaulty}
use Rattle.arrival_script.specs.declared.scripts.Script.{Script}
use Rattle.arrival_script.specs.declared.scripts.Cause.{Cause}
use Rattle.arrival_script.specs.Scripts as script
use Rattle.run_inputs.specs.declared.inputs.Inputs.{Inputs}
use Rattle.run_inputs.specs.declared.inputs.Parts.{Parts}
use Rattle.command_parts.specs.Reads.{Unread, unread_status, unread_line, IsNext, IsUnread, IsInput}
use Rattle.run_inputs.specs.RunLines.{hex_line, map_line, script_line}

-- The names that `run` is given.
pub record RunRequest : Type 0 where
  pub hex : List ℕ
  pub map : List ℕ
  pub script : List ℕ

-- The files that it reads, in order.
abbrev pub names_of : RunRequest → List (List ℕ)
names_of r = r.hex ∷ r.map ∷ r.script ∷ []

-- The bytes of the three files.
abbrev pub AreInputs : RunRequest → FilesSeen → Inputs → Type 0
AreInputs r before i = IsInput r.hex before i.hex × IsInput r.map before i.map × IsInput r.script before i.script

abbrev pub AreShort : Inputs → Type 0
AreShort i = (length i.hex ≤ LONGEST_FILE) × (length i.map ≤ LONGEST_FILE) × (length i.script ≤ LONGEST_FILE)

-- The script's text has no fault and states this script, which a run can take.
abbrev pub IsScriptIn : List ℕ → Script → Type 0
IsScriptIn text s = (script.first_fault text ≡ None) × script.IsScriptOf text s × script.IsScript s

-- What the bytes of the three files mean: the HEX file the image, the map file is the text of the map, and the
-- script's text, which has no fault, states the script.
pub record AreParts (i : Inputs) (p : Parts) : Type 0 where
  pub image : IsImageOf i.hex p.image
  pub map : IsMap p.map
  pub text : i.map ≡ map_text p.map
  pub script : IsScriptIn i.script p.script

-- What the files of a request mean.
abbrev pub ArePartsOf : RunRequest → FilesSeen → Parts → Type 0
ArePartsOf r before p = (i : Inputs) × AreInputs r before i × AreParts i p

-- Why there is no run: a file wasn't read; or the fault of the HEX, of the map or of the script.
pub data RunFault : Type 0 where
  FileUnread : List ℕ → Unread → RunFault
  BadHex : HexFault → RunFault
  BadMap : ℕ → RunFault
  BadScript : ℕ → Cause → RunFault

abbrev pub fault_status : RunFault → ℕ
fault_status (FileUnread name why) = unread_status why
fault_status (BadHex fault) = 1
fault_status (BadMap n) = 1
fault_status (BadScript n cause) = 1

abbrev pub fault_line : RunFault → List ℕ
fault_line (FileUnread name why) = unread_line name why
fault_line (BadHex fault) = hex_line fault
fault_line (BadMap n) = map_line n
fault_line (BadScript n cause) = script_line n cause

-- The HEX file means an image.
abbrev pub MeansImage : Inputs → Type 0
MeansImage i = (image : Image) × IsImageOf i.hex image

-- The first fault of bytes that were read: HEX is tested first, then the map, then the script.
abbrev pub IsFirstFault : Inputs → RunFault → Type 0
IsFirstFault i (FileUnread name why) = ⊥
IsFirstFault i (BadHex fault) = hex.FirstFault i.hex fault
IsFirstFault i (BadMap n) = MeansImage i × FirstFaulty i.map n
IsFirstFault i (BadScript n cause) = MeansImage i × IsMapText i.map × script.FirstFault i.script n cause

-- Why a fault comes. All files are read, in order, before the first is tested.
abbrev pub FaultCause : RunRequest → FilesSeen → FilesSeen → RunFault → Type 0
FaultCause r before after (FileUnread name why) = IfTold before (λ held. IsNext (names_of r) held name) × IsUnread name before after why
FaultCause r before after (BadHex fault) = (i : Inputs) × AreInputs r before i × IsFirstFault i (BadHex fault)
FaultCause r before after (BadMap n) = (i : Inputs) × AreInputs r before i × IsFirstFault i (BadMap n)
FaultCause r before after (BadScript n cause) = (i : Inputs) × AreInputs r before i × IsFirstFault i (BadScript n cause)
