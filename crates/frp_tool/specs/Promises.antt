-- What `efrp` promises.
use Rattle.std.specs.Prelude.{◌≡◌, ℕ, ◌<◌, Bool, true, false, Option, Some, None, Result, String, is_some, ◌⊎◌}
use Rattle.std.specs.declared.alloc.Global.{Global}
use Rattle.edge_io.specs.Files.{KeepsFiles}
use Rattle.edge_io.specs.Counts.{Rose}
use Rattle.frp_tool.specs.declared.requests.Request.TheVariants.{Check, Compile, Run, Model, Big}
use Rattle.frp_tool.specs.Lines.{usage}
use Rattle.command_parts.specs.declared.halts.Halt.{Halt}
use Rattle.command_parts.specs.Outsides.{Outside}
use Rattle.command_parts.specs.Endings.{Ends, DueOrYielded, Gives}
use Rattle.frp_tool.specs.Requests.{Named}
use Rattle.frp_tool.specs.Bigs.{BigPromises}
use Rattle.frp_tool.specs.Checks.{CheckPromises}
use Rattle.frp_tool.specs.Compiles.{CompilePromises}
use Rattle.frp_tool.specs.Models.{ModelPromises}
use Rattle.frp_tool.specs.Runs.{RunPromises}

-- Words that form no command are answered with the usage line, and no file changes.
abbrev pub Explains : Outside → Outside → ℕ → Type 0
Explains before after status = KeepsFiles before.files after.files × Ends before.out after.out 2 usage status

-- The usage line is due, or memory ran out.
abbrev pub Explained : Result (Option (String Global)) Halt → Type 0
Explained = Gives (λ (nothing : Option (String Global)). ⊥) (λ (nothing : Unit {0}). Unit {0}) (λ nothing. 2) (λ nothing. usage)

-- What is promised of a request: one case a command.
abbrev pub PromisesOf : Option Named → Outside → Outside → ℕ → Type 0
PromisesOf None before after status = Explains before after status
PromisesOf (Some (Check source)) before after status = CheckPromises source before after status
PromisesOf (Some (Compile s h m)) before after status = CompilePromises (record { source = s; hex = h; map = m }) before after status
PromisesOf (Some (Run h m s)) before after status = RunPromises (record { hex = h; map = m; script = s }) before after status
PromisesOf (Some (Model source events)) before after status = ModelPromises (record { source = source; events = events }) before after status
PromisesOf (Some (Big n h m)) before after status = BigPromises (record { number = n; hex = h; map = m }) before after status

-- What a call promises whose words are this request, or none: what its command does, and what a status says of every request. 0 comes only where the words form a
-- command, and 2 exactly where they form none. 4 comes only where a read fault was counted, and 5 only where a
-- fault of a write or of a put was. With 1 to 4 no file has changed.
pub record Promises (request : Option Named) (before after : Outside) (status : ℕ) : Type 0 where
  pub command : PromisesOf request before after status
  pub zero : status ≡ 0 → is_some request ≡ true
  pub two : (status ≡ 2 → is_some request ≡ false) × (is_some request ≡ false → DueOrYielded 2 status)
  pub four : status ≡ 4 → Rose before.files.read_faults after.files.read_faults
  pub five : status ≡ 5 → Rose before.files.write_faults after.files.write_faults ⊎ Rose before.out.put_faults after.out.put_faults
  pub files : 0 < status → status < 5 → KeepsFiles before.files after.files
