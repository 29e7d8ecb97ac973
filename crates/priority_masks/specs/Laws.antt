-- What the levels of a program's events are to one another.
use Rattle.std.specs.Prelude.{◌≡◌, ℕ, ◌<◌, ◌≤◌, length}
use Rattle.frp_tree.specs.Tree.{ProgramTree}
use Rattle.efrp_meaning.specs.Bounds.{levels}
use Rattle.priority_masks.specs.Levels.{level_of, priority_of}

-- Events of one priority have one level, and one of a higher priority has a higher level. A level is from 1 to the number of
-- distinct priorities, and each of these is some event's.
pub record LevelsRise (p : ProgramTree) : Type 0 where
  pub same : (m n : ℕ) → m < length p.events → n < length p.events → priority_of p m ≡ priority_of p n → level_of p m ≡ level_of p n
  pub rise : (m n : ℕ) → m < length p.events → n < length p.events → priority_of p m < priority_of p n → level_of p m < level_of p n
  pub from_one : (n : ℕ) → n < length p.events → 1 ≤ level_of p n
  pub to_all : (n : ℕ) → n < length p.events → level_of p n ≤ levels p
  pub no_gap : (level : ℕ) → 1 ≤ level → level ≤ levels p → (n : ℕ) × (n < length p.events) × (level_of p n ≡ level)
