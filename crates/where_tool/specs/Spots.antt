-- The line of a text in which a place is, and what is shown of it.
use Rattle.std.specs.Prelude.{◌≡◌, ◌≢◌, ℕ, ◌+◌, suc, not, ◌==◌, List, [], ◌∷◌, ◌++◌, length, map, filter, count_by, codes, ◌⊎◌, if◌then◌else◌}
use Rattle.std.specs.Fmt.{decimal}
use Rattle.std.specs.List.{AllByRecursion}
use Rattle.frp_tree.specs.Tokens.{AtLineEnd}

-- Whole lines, each with its LF; or none.
abbrev pub AreLines : List ℕ → Type 0
AreLines above = (above ≡ []) ⊎ ((most : List ℕ) × (above ≡ most ++ 10 ∷ []))

-- A text cut round a place: whole lines above; in the line of the place the bytes before it, `front`, and those from it on, `back`;
-- and what comes behind this line. Lines are numbered from 1, and end in LF.
pub record IsSpot (text : List ℕ) (place line : ℕ) (front back : List ℕ) : Type 0 where
  pub above : List ℕ
  pub below : List ℕ
  pub whole : text ≡ above ++ (front ++ (back ++ below))
  pub «at» : length above + length front ≡ place
  pub lines : AreLines above
  pub in_front : AllByRecursion (λ b. b ≢ 10) front
  pub in_back : AllByRecursion (λ b. b ≢ 10) back
  pub ends : AtLineEnd below
  pub number : line ≡ suc (count_by (λ b. b == 10) above)

-- What is shown of bytes: all but CR.
abbrev pub shown : List ℕ → List ℕ
shown bytes = filter (λ b. not (b == 13)) bytes

-- What stands above the caret's place: a tab for a tab, and a space for each other byte that is shown.
abbrev pub pad : ℕ → ℕ
pad b = if b == 9 then 9 else 32

abbrev pub margin : List ℕ → List ℕ
margin front = map pad (shown front)

-- NAME:LINE:COLUMN: MESSAGE, the line, and a caret under the place. Columns are numbered from 1, and count the bytes of the line.
abbrev pub head_line : List ℕ → ℕ → ℕ → List ℕ → List ℕ
head_line name line column message = name ++ (codes ":" ++ (decimal line ++ (codes ":" ++ (decimal column ++ (codes ": " ++ (message ++ codes "\n"))))))

abbrev pub report_of : List ℕ → ℕ → List ℕ → List ℕ → List ℕ → List ℕ
report_of name line front back message =
    head_line name line (suc (length front)) message ++ (shown (front ++ back) ++ (codes "\n" ++ (margin front ++ codes "^\n")))

pub record IsReport (text name : List ℕ) (place : ℕ) (message report : List ℕ) : Type 0 where
  pub line : ℕ
  pub front : List ℕ
  pub back : List ℕ
  pub spot : IsSpot text place line front back
  pub whole : report ≡ report_of name line front back message
