-- What the words of a command line ask for.
use Rattle.std.specs.Prelude.{◌≢◌, ℕ, ◌^◌, Bool, false, ◌&&◌, not, ◌==◌, nat_le, nat_lt, List, [], ◌∷◌, length, Option, Some, None, codes, if◌then◌else◌}
use Rattle.std.specs.Borrow.{Bor}
use Rattle.std.specs.List.{list_all}
use Rattle.std.specs.Str.{bytes_eq}
use Rattle.text_parts.specs.Bytes.{is_digit}
use Rattle.text_parts.specs.Numbers.{value_after}
use Rattle.frp_tool.specs.declared.requests.Request.{Request}
use Rattle.frp_tool.specs.declared.requests.Request.TheVariants.{Check, Compile, Run, Model, Big}

-- A request that has names as bytes.
abbrev pub Named : Type 0
Named = Request (List ℕ)

-- The names that a request refers to.
abbrev pub names_in : Request (Bor (List ℕ)) → Named
names_in (Check source) = Check source.now
names_in (Compile source hex map) = Compile source.now hex.now map.now
names_in (Run hex map script) = Run hex.now map.now script.now
names_in (Model source events) = Model source.now events.now
names_in (Big number hex map) = Big number hex.now map.now

-- A word that isn't empty and doesn't begin with `-`.
abbrev pub is_operand : List ℕ → Bool
is_operand [] = false
is_operand (b ∷ bs) = not (b == 45)

abbrev pub differ : List ℕ → List ℕ → Bool
differ a b = not (bytes_eq a b)

-- One to ten decimal digits whose value fits 32 bits.
abbrev pub is_seed : List ℕ → Bool
is_seed word = nat_lt 0 (length word) && nat_le (length word) 10 && list_all is_digit word && nat_lt (value_after 10 0 word) (2 ^ 32)

-- What words ask for: the name of a command, and as many other words as it has, none of them empty or one that
-- begins with `-`. The three names of `compile` differ, and so do the two of `big`.
abbrev pub request_of : List (List ℕ) → Option Named
request_of (name ∷ a ∷ []) = if bytes_eq name (codes "check") && is_operand a then Some (Check a) else None
request_of (name ∷ a ∷ b ∷ []) = if bytes_eq name (codes "model") && is_operand a && is_operand b then Some (Model a b) else None
request_of (name ∷ a ∷ b ∷ c ∷ []) =
    if is_operand a && is_operand b && is_operand c then (
    if bytes_eq name (codes "compile") then (if differ a b && differ a c && differ b c then Some (Compile a b c) else None)
    else (if bytes_eq name (codes "run") then Some (Run a b c)
    else (if bytes_eq name (codes "big") && is_seed a && differ b c then Some (Big (value_after 10 0 a) b c) else None)))
    else None
request_of _ = None

-- The files that a command writes have different names.
abbrev pub WritesApart : Named → Type 0
WritesApart (Compile source hex map) = hex ≢ map
WritesApart (Big number hex map) = hex ≢ map
WritesApart _ = Unit {0}
