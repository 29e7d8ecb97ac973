-- The times that the code of a program's events keeps, in steps.
use Rattle.std.specs.Prelude.{ℕ, ◌+◌, ◌*◌, true, length}
use Rattle.frp_tree.specs.Tree.{ProgramTree}
use Rattle.efrp_meaning.specs.Bounds.{body, boot, commit_bytes}
use Rattle.map_file.specs.declared.maps.Map.{Map}
use Rattle.timed_core.specs.Timing.{Timing}
use Rattle.core_story.specs.Interface.{level_at, numbers_from}
use Rattle.core_story.specs.Values.{name_at}

-- From a taking to the start of the run of the event that is chosen, and from there to the clearing of its flag, the work of a short
-- run included.
abbrev pub dispatching : ProgramTree → ℕ
dispatching p = 5 + 4 * length p.events

abbrev pub starting : ProgramTree → ℕ
starting p = 42 + 12 * length p.events

-- The most instructions that the work of a short run has.
abbrev pub short_work : ProgramTree → ℕ
short_work p = 40 + 12 * length p.events

-- All bounds. Nothing is spared: the work stands directly behind the step that turns interrupts on.
abbrev pub times : ProgramTree → Map → Timing
times p m = record {
  events = numbers_from 0 m.events;
  level = level_at m;
  body = λ x. body p (name_at m x);
  boot = boot p;
  choose = dispatching p + starting p;
  start = 2;
  again = 9;
  opening = 6;
  copying = 6 * commit_bytes p;
  exiting = 20;
  retry = 4;
  spare = 0;
  short = true;
}
