-- What `efrp` promises, from how each command ends.
use Rattle.std.proofs.Common.{◌≡◌, ℕ, ◌≤◌, List, Option, Some, None, Result, Ok, Err, String, string_bytes, ◌⊎◌, inl, inr, arith, refl, subst}
use Rattle.std.specs.declared.alloc.Global.{Global}
use Rattle.edge_io.specs.Counts.{Rose}
use Rattle.edge_io.specs.Files.{FilesSeen, KeepsFiles}
use Rattle.edge_io.specs.Sinks.{SinkSeen}
use Rattle.command_parts.specs.declared.halts.Halt.{Halt}
use Rattle.command_parts.specs.declared.halts.Halt.TheVariants.{Said, PutFailed, Memory}
use Rattle.command_parts.specs.Endings.{Ends, Finishes}
use Rattle.frp_tool.specs.Promises.{Explained}
use Rattle.command_parts.proofs.ToldLaws.{keeps_refl}
use Rattle.command_parts.proofs.EndingLaws.{line_due, line_settled}
use Rattle.frp_tool.specs.declared.requests.Request.TheVariants.{Check, Compile, Run, Model, Big}
use Rattle.command_parts.specs.Outsides.{Outside}
use Rattle.frp_tool.specs.Requests.{Named}
use Rattle.frp_tool.specs.Bigs.{BigRequest, Bigs, BigWorks}
use Rattle.frp_tool.specs.Checks.{Checks, CheckWorks}
use Rattle.frp_tool.specs.Compiles.{CompileRequest, Compiles, CompileWorks}
use Rattle.frp_tool.specs.Models.{ModelRequest, Models, ModelWorks}
use Rattle.run_inputs.specs.RunFaults.{RunRequest}
use Rattle.frp_tool.specs.Runs.{Runs, RunWorks}
use Rattle.frp_tool.specs.Promises.{Explains, PromisesOf, Promises}
use Rattle.frp_tool.proofs.BigFacts.{big_ends}
use Rattle.frp_tool.proofs.BigLaws.{big_promises, big_never, big_five}
use Rattle.frp_tool.proofs.CheckLaws.{check_promises, check_not_two, check_four, check_five}
use Rattle.frp_tool.proofs.CheckFacts.{check_ends}
use Rattle.frp_tool.proofs.CompileLaws.{compile_promises, compile_not_two, compile_four, compile_five, compile_kept}
use Rattle.frp_tool.proofs.CompileFacts.{compile_ends}
use Rattle.frp_tool.proofs.ModelLaws.{model_promises, model_not_two, model_four, model_five}
use Rattle.frp_tool.proofs.ModelFacts.{model_ends}
use Rattle.frp_tool.proofs.RunEndingFacts.{run_ends}
use Rattle.frp_tool.proofs.RunLaws.{run_promises, run_not_two, run_four, run_five}

-- How a call ends, by its request: one case a command.
abbrev pub EndsSo : Option Named → Outside → Outside → ℕ → Type 0
EndsSo None before after status = Explains before after status
EndsSo (Some (Check source)) before after status = Checks source before after status
EndsSo (Some (Compile s h m)) before after status = Compiles (record { source = s; hex = h; map = m }) before after status
EndsSo (Some (Run h m s)) before after status = Runs (record { hex = h; map = m; script = s }) before after status
EndsSo (Some (Model source events)) before after status = Models (record { source = source; events = events }) before after status
EndsSo (Some (Big n h m)) before after status = Bigs (record { number = n; hex = h; map = m }) before after status

five_explained : (before after : Outside) (status : ℕ) → Explains before after status → status ≡ 5 → Rose before.files.write_faults after.files.write_faults ⊎ Rose before.out.put_faults after.out.put_faults
five_explained before after status (keeps, inl h) e = absurd (omega (arith, h.0))
five_explained before after status (keeps, inr (inl h)) e = inr h.1
five_explained before after status (keeps, inr (inr h)) e = absurd (omega (arith, h.0))

explained : (before after : Outside) (status : ℕ) → Explains before after status → Promises None before after status
explained before after status h = record {
  command = h;
  zero = λ e. absurd (omega (arith, e, (line_settled _ _ _ _ _ h.1 (omega (arith, e))).0));
  two = ((λ e. refl), λ e. line_due _ _ _ _ _ h.1);
  four = λ e. absurd (omega (arith, e, (line_settled _ _ _ _ _ h.1 (omega (arith, e))).0));
  five = five_explained before after status h;
  files = λ some small. h.0;
}

pub promises : (request : Option Named) (before after : Outside) (status : ℕ) → EndsSo request before after status → Promises request before after status
promises None before after status h = explained before after status h
promises (Some (Check source)) before after status h = record {
  command = check_promises source before after status h;
  zero = λ e. refl;
  two = ((λ e. absurd (check_not_two source before after status h e)), λ e. absurd cc);
  four = check_four source before after status h;
  five = λ e. inr (check_five source before after status h e);
  files = λ some small. h.0;
}
promises (Some (Compile s x m)) before after status h =
    let r : CompileRequest = record { source = s; hex = x; map = m } in
    record {
      command = compile_promises r before after status h;
      zero = λ e. refl;
      two = ((λ e. absurd (compile_not_two r before after status h e)), λ e. absurd cc);
      four = compile_four r before after status h;
      five = compile_five r before after status h;
      files = compile_kept r before after status h;
    }
promises (Some (Run x m s)) before after status h =
    let r : RunRequest = record { hex = x; map = m; script = s } in
    record {
      command = run_promises r before after status h;
      zero = λ e. refl;
      two = ((λ e. absurd (run_not_two r before after status h e)), λ e. absurd cc);
      four = run_four r before after status h;
      five = λ e. inr (run_five r before after status h e);
      files = λ some small. h.0;
    }
promises (Some (Model source events)) before after status h =
    let r : ModelRequest = record { source = source; events = events } in
    record {
      command = model_promises r before after status h;
      zero = λ e. refl;
      two = ((λ e. absurd (model_not_two r before after status h e)), λ e. absurd cc);
      four = model_four r before after status h;
      five = λ e. inr (model_five r before after status h e);
      files = λ some small. h.0;
    }
promises (Some (Big n x m)) before after status h =
    let r : BigRequest = record { number = n; hex = x; map = m } in
    record {
      command = big_promises r before after status h;
      zero = λ e. refl;
      two = ((λ e. absurd (big_never r before after status h (omega (arith, e)) (omega (arith, e)))), λ e. absurd cc);
      four = λ e. absurd (big_never r before after status h (omega (arith, e)) (omega (arith, e)));
      five = big_five r before after status h;
      files = λ some small. absurd (big_never r before after status h some small);
    }

-- What is made of the usage line.
pub explain_ends : (before : Outside) (out : SinkSeen) (status : ℕ) (work : Result (Option (String Global)) Halt) → Explained work → Finishes before.out out work status → Explains before (record { files = before.files; out = out }) status
explain_ends before out status (Ok line) given ends = absurd given
explain_ends before out status (Err (Said due line)) (nothing, fine, is, said) ends = (
  keeps_refl before.files,
  subst (λ (text : List ℕ). Ends before.out out 2 text status) said (subst (λ (n : ℕ). Ends before.out out n (string_bytes line) status) is ends),
)
explain_ends before out status (Err PutFailed) given ends = absurd given
explain_ends before out status (Err Memory) given (six, same) = (keeps_refl before.files, inr (inr (six, λ k. (same k).taken)))

-- What is made of the work of each command keeps what is promised of it.
module _ (request : Option Named) (before : Outside) (out : SinkSeen) (status : ℕ) (work : Result (Option (String Global)) Halt) (ends : Finishes before.out out work status) where
  abbrev left : FilesSeen → Outside
  left seen = record { files = seen; out = out }

  of_request : (named : Option Named) (files : FilesSeen) → named ≡ request → EndsSo named before (left files) status → Promises request before (left files) status
  of_request named files is h = subst (λ (x : Option Named). Promises x before (left files) status) is (promises named before (left files) status h)

  pub compile_keeps : (s h m : List ℕ) (files : FilesSeen) → Some (Compile s h m) ≡ request → CompileWorks (record { source = s; hex = h; map = m }) before.files files work → Promises request before (left files) status
  compile_keeps s h m files is works = of_request (Some (Compile s h m)) files is (compile_ends (record { source = s; hex = h; map = m }) before files out status work works ends)

  pub none_keeps : None ≡ request → Explained work → Promises request before (left before.files) status
  none_keeps is given = of_request None before.files is (explain_ends before out status work given ends)

  pub check_keeps : (s : List ℕ) (files : FilesSeen) → Some (Check s) ≡ request → KeepsFiles before.files files → CheckWorks s before.files files work → Promises request before (left files) status
  check_keeps s files is keeps works = of_request (Some (Check s)) files is (check_ends s before files out status keeps work works ends)

  pub model_keeps : (s e : List ℕ) (files : FilesSeen) → Some (Model s e) ≡ request → KeepsFiles before.files files → ModelWorks (record { source = s; events = e }) before.files files work → Promises request before (left files) status
  model_keeps s e files is keeps works = of_request (Some (Model s e)) files is (model_ends (record { source = s; events = e }) before files out status keeps work works ends)

  pub big_keeps : (n : ℕ) (h m : List ℕ) (files : FilesSeen) → Some (Big n h m) ≡ request → BigWorks (record { number = n; hex = h; map = m }) before.files files work → Promises request before (left files) status
  big_keeps n h m files is works = of_request (Some (Big n h m)) files is (big_ends (record { number = n; hex = h; map = m }) before files out status work works ends)

pub run_keeps : (request : Option Named) (before mid : Outside) (out : SinkSeen) (status : ℕ) (work : Result (Option (String Global)) Halt) → Finishes mid.out out work status → (h m s : List ℕ) → Some (Run h m s) ≡ request
    → before.out.put_faults ≤ mid.out.put_faults → RunWorks (record { hex = h; map = m; script = s }) before mid work → Promises request before (record { files = mid.files; out = out }) status
run_keeps request before mid out status work ends h m s is less works =
    subst (λ (x : Option Named). Promises x before (record { files = mid.files; out = out }) status) is
    (promises (Some (Run h m s)) before (record { files = mid.files; out = out }) status (run_ends (record { hex = h; map = m; script = s }) before mid out status work less works ends))
