-- The text of a map, line by line.
use Rattle.std.specs.Prelude.{ℕ, List, [], ◌∷◌, ◌++◌, codes}
use Rattle.std.specs.List.{flat_map}
use Rattle.std.specs.Fmt.{decimal}
use Rattle.text_parts.specs.Digits.{hex3, hex4}
use Rattle.frp_tree.specs.Names.{type_name}
use Rattle.frp_tree.specs.declared.syntax.Ty.{Ty}
use Rattle.frp_tree.specs.declared.syntax.Ty.TheVariants.{Bool, U8, U16}
use Rattle.pic_isa.specs.Sources.{source_name}
use Rattle.pic_isa.specs.Names.{name_of_port}
use Rattle.map_file.specs.declared.maps.MapEvent.{MapEvent}
use Rattle.map_file.specs.declared.maps.MapState.{MapState}
use Rattle.map_file.specs.declared.maps.MapSample.{MapSample}
use Rattle.map_file.specs.declared.maps.Range.{Range}
use Rattle.map_file.specs.declared.maps.Map.{Map}

-- Fields with one space between, and LF at the end.
abbrev pub line : List (List ℕ) → List ℕ
line [] = codes "\n"
line (field ∷ []) = field ++ codes "\n"
line (field ∷ fields) = field ++ (codes " " ++ line fields)

abbrev pub event_line : MapEvent → List ℕ
event_line e = line (codes "event" ∷ e.name ∷ source_name e.source ∷ decimal e.priority ∷ codes "open" ∷ hex4 e.«open» ∷ codes "commit" ∷ hex4 e.commit ∷ [])

-- A state's addresses: one of a bool or a u8, the low byte's and the high byte's of a u16.
abbrev pub addresses : Ty → ℕ → ℕ → List (List ℕ)
addresses Bool low high = hex3 low ∷ []
addresses U8 low high = hex3 low ∷ []
addresses U16 low high = hex3 low ∷ hex3 high ∷ []

abbrev pub state_line : MapState → List ℕ
state_line s = line (codes "state" ∷ s.name ∷ type_name s.ty ∷ addresses s.ty s.low s.high)

abbrev pub output_line : ℕ → List ℕ
output_line port = line (codes "output" ∷ name_of_port port ∷ [])

abbrev pub sample_line : MapSample → List ℕ
sample_line s = line (codes "sample" ∷ s.event ∷ s.input ∷ hex4 s.at ∷ [])

abbrev pub range_line : Range → List ℕ
range_line r = line (codes "regs" ∷ (hex3 r.from ++ codes "-" ++ hex3 r.to) ∷ [])

abbrev pub report_line : Map → List ℕ
report_line m =
    line (codes "report" ∷ codes "depth" ∷ decimal m.depth ∷ codes "ram" ∷ decimal m.ram ∷ codes "words" ∷ decimal m.words ∷ codes "settle" ∷ decimal m.settle ∷ [])

-- The text of a map: events, states, outputs, samples, the ready address, the registers and the report, in this order.
abbrev pub map_text : Map → List ℕ
map_text m =
    line (codes "efrp" ∷ codes "map" ∷ codes "1" ∷ [])
    ++ (flat_map event_line m.events
    ++ (flat_map state_line m.states
    ++ (flat_map output_line m.outputs
    ++ (flat_map sample_line m.samples
    ++ (line (codes "ready" ∷ hex4 m.ready ∷ [])
    ++ (flat_map range_line m.regs
    ++ report_line m))))))
