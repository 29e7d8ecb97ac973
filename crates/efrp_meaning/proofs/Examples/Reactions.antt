-- Reactions and serial runs of small programs.
use Rattle.std.specs.Prelude.{◌≡◌, ℕ, zero, suc, ◌+◌, ◌/◌, ◌%◌, List, [], ◌∷◌, map, Option, Some, None, codes, refl, true, if◌then◌else◌, ◌==◌}
use Rattle.frp_tree.specs.declared.syntax.Lit.TheVariants as lit
use Rattle.frp_tree.specs.Tree.{Const, Name, If, ProgramTree}
use Rattle.efrp_meaning.specs.Meaning.{State, Samples, Occurrence, value_on, expression_on, react, Reaction, initial_state, serial, SerialRun, state_after, ports_after}
use Rattle.efrp_meaning.proofs.Examples.Programs.{counter, delayed, circle, cycle, doubling, wrapping, quotients, squares, division, motor, tick, go, low, high, small}

-- What is wanted: a reaction, and a run.
abbrev reaction : List ℕ → List ℕ → Option Reaction
reaction new values = Some (record { state = new; ports = values })

-- Events of a program without inputs.
abbrev unsampled : List (List ℕ) → List Occurrence
unsampled events = map (λ event. record { event = event; samples = [] }) events

abbrev run : List ℕ → List (List ℕ) → Option SerialRun
run last values = Some (record { state = last; ports = values })

-- One counter, from any state.
pub counter_counts : (n : ℕ) → react counter (n ∷ []) [] tick ≡ reaction ((n + 1) % 256 ∷ []) ((n + 1) % 256 ∷ [])
counter_counts n = refl

pub counter_counts_three : serial counter (unsampled (tick ∷ tick ∷ tick ∷ [])) ≡ run (3 ∷ []) ((1 ∷ []) ∷ (2 ∷ []) ∷ (3 ∷ []) ∷ [])
counter_counts_three = refl

-- An event that no clause names leaves the state as it is.
pub counter_stays : (n : ℕ) → react counter (n ∷ []) [] go ≡ reaction (n ∷ []) (n ∷ [])
counter_stays n = refl

-- With `later` the value on the event is the old state, so that the port shows a change one event afterwards.
pub delayed_begins : initial_state delayed ≡ Some (5 ∷ 0 ∷ [])
delayed_begins = refl

pub delayed_reacts : react delayed (5 ∷ 0 ∷ []) [] tick ≡ reaction (6 ∷ 5 ∷ []) (5 ∷ [])
delayed_reacts = refl

pub delayed_twice : serial delayed (unsampled (tick ∷ tick ∷ [])) ≡ run (7 ∷ 6 ∷ []) ((5 ∷ []) ∷ (6 ∷ []) ∷ [])
delayed_twice = refl

-- A `later` clause reads the other definitions' values on the event, and not their old states: y is 1 + 1, and x
-- becomes 2 + 1.
pub circle_begins : initial_state circle ≡ Some (1 ∷ 2 ∷ [])
circle_begins = refl

pub circle_reacts : react circle (1 ∷ 2 ∷ []) [] go ≡ reaction (3 ∷ 2 ∷ []) []
circle_reacts = refl

pub circle_from_any_state : (x y : ℕ) → react circle (x ∷ y ∷ []) [] go ≡ reaction (((x + x) % 256 + 1) % 256 ∷ (x + x) % 256 ∷ []) []
circle_from_any_state x y = refl

pub circle_twice : serial circle (unsampled (go ∷ go ∷ [])) ≡ run (7 ∷ 6 ∷ []) ([] ∷ [] ∷ [])
circle_twice = refl

-- Without `later` the two need each other, and neither has a value at any depth.
mutual
  pub cycle_has_no_x : (a b k : ℕ) → value_on cycle (a ∷ b ∷ []) [] go (codes "x") k ≡ None
  cycle_has_no_x a b zero = refl
  cycle_has_no_x a b (suc k) = rw (cycle_has_no_y a b k) refl

  pub cycle_has_no_y : (a b k : ℕ) → value_on cycle (a ∷ b ∷ []) [] go (codes "y") k ≡ None
  cycle_has_no_y a b zero = refl
  cycle_has_no_y a b (suc k) = rw (cycle_has_no_x a b k) refl

pub cycle_has_no_reaction : (a b : ℕ) → react cycle (a ∷ b ∷ []) [] go ≡ None
cycle_has_no_reaction a b = refl

pub cycle_has_no_run : serial cycle (unsampled (go ∷ [])) ≡ None
cycle_has_no_run = refl

-- A definition that names itself reads its old state.
pub doubling_twice : serial doubling (unsampled (go ∷ go ∷ [])) ≡ run (12 ∷ []) ([] ∷ [] ∷ [])
doubling_twice = refl

pub doubling_once : state_after doubling (unsampled (go ∷ [])) ≡ Some (6 ∷ [])
doubling_once = refl

-- Sums and differences wrap around at both widths.
pub wrapping_wraps : state_after wrapping (unsampled (go ∷ [])) ≡ Some (0 ∷ 256 ∷ 255 ∷ 65535 ∷ [])
wrapping_wraps = refl

-- Quotients and remainders, by zero too.
pub quotients_by_zero : state_after (quotients 200 0) (unsampled (go ∷ [])) ≡ Some (200 ∷ 0 ∷ 255 ∷ 200 ∷ [])
quotients_by_zero = refl

pub quotients_by_more_than_half : state_after (quotients 255 129) (unsampled (go ∷ [])) ≡ Some (255 ∷ 129 ∷ 1 ∷ 126 ∷ [])
quotients_by_more_than_half = refl

-- The two serial orders of a division and of a change to its divisor.
pub division_after_change : serial division (unsampled (high ∷ low ∷ [])) ≡ run (5 ∷ 12000 ∷ []) ([] ∷ [] ∷ [])
division_after_change = refl

pub division_at_first : state_after division (unsampled (low ∷ [])) ≡ Some (3 ∷ 20000 ∷ [])
division_at_first = refl

pub division_before_change : serial division (unsampled (low ∷ high ∷ [])) ≡ run (5 ∷ 20000 ∷ []) ([] ∷ [] ∷ [])
division_before_change = refl

pub division_from_any_state : (d q : ℕ) → react division (d ∷ q ∷ []) [] low ≡ reaction (d ∷ (if d == 0 then 65535 else 60000 / d) ∷ []) []
division_from_any_state d q = refl

-- A non-reactive definition that is named twice: n becomes 2, its successor's square is 9, and twice that is 18.
pub squares_once : state_after squares (unsampled (go ∷ [])) ≡ Some (18 ∷ 2 ∷ [])
squares_once = refl

-- The motor's controller, event by event.
pub motor_begins : initial_state motor ≡ Some (0 ∷ 0 ∷ 0 ∷ 0 ∷ [])
motor_begins = refl

pub motor_up : state_after motor (unsampled (codes "Up" ∷ [])) ≡ Some (5 ∷ 0 ∷ 0 ∷ 0 ∷ [])
motor_up = refl

pub motor_slow : state_after motor (unsampled (codes "Up" ∷ codes "Slow" ∷ [])) ≡ Some (5 ∷ 1 ∷ 0 ∷ 1 ∷ [])
motor_slow = refl

pub motor_tick : state_after motor (unsampled (codes "Up" ∷ codes "Slow" ∷ tick ∷ [])) ≡ Some (5 ∷ 1 ∷ 1 ∷ 1 ∷ [])
motor_tick = refl

pub motor_down : state_after motor (unsampled (codes "Up" ∷ codes "Slow" ∷ tick ∷ codes "Down" ∷ [])) ≡ Some (0 ∷ 1 ∷ 1 ∷ 1 ∷ [])
motor_down = refl

pub motor_ports : ports_after motor (unsampled (codes "Up" ∷ codes "Slow" ∷ tick ∷ codes "Down" ∷ [])) ≡ Some ((0 ∷ 0 ∷ []) ∷ (1 ∷ 0 ∷ []) ∷ (0 ∷ 0 ∷ []) ∷ (0 ∷ 0 ∷ []) ∷ [])
motor_ports = refl

-- At depth 0 nothing has a value, at depth 1 what leads to no other definition, and so on.
pub nothing_at_depth_zero : (p : ProgramTree) (s : State) (j : Samples) (event x : List ℕ) → value_on p s j event x 0 ≡ None
nothing_at_depth_zero p s j event x = refl

pub own_state_at_depth_one : value_on squares (0 ∷ 1 ∷ []) [] go (codes "n") 1 ≡ Some 2
own_state_at_depth_one = refl

pub side_needs_depth_two : value_on squares (0 ∷ 1 ∷ []) [] go (codes "side") 1 ≡ None
side_needs_depth_two = refl

pub side_at_depth_two : value_on squares (0 ∷ 1 ∷ []) [] go (codes "side") 2 ≡ Some 3
side_at_depth_two = refl

-- A name of no definition has no value, nor has a number above 255 with no `w`.
pub unknown_name : expression_on counter (0 ∷ []) [] tick (Name (codes "m")) None 9 ≡ None
unknown_name = refl

pub too_great_a_number : expression_on counter (0 ∷ []) [] tick (small 256) None 9 ≡ None
too_great_a_number = refl

-- An `if` has no value where the branch that isn't taken has none.
pub undefined_branch : expression_on counter (0 ∷ []) [] tick (If (Const (lit.Truth true)) (small 1) (Name (codes "m"))) None 9 ≡ None
undefined_branch = refl

pub defined_branches : expression_on counter (0 ∷ []) [] tick (If (Const (lit.Truth true)) (small 1) (Name (codes "n"))) None 9 ≡ Some 1
defined_branches = refl

-- A state that lacks a value gives none.
pub short_state : react counter [] [] tick ≡ None
short_state = refl
