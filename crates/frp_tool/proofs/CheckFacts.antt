-- The steps of `check`, put together.
use Rattle.std.proofs.Common.{◌≡◌, ℕ, List, Option, Result, Ok, Err, String, string_bytes, inl, inr, refl, subst}
use Rattle.std.specs.declared.alloc.Global.{Global}
use Rattle.edge_io.specs.Files.{FilesSeen, KeepsFiles}
use Rattle.edge_io.specs.Sinks.{SinkSeen}
use Rattle.command_parts.specs.declared.halts.Halt.{Halt}
use Rattle.command_parts.specs.declared.halts.Halt.TheVariants.{Said, PutFailed, Memory}
use Rattle.command_parts.specs.Outsides.{Outside}
use Rattle.command_parts.specs.Endings.{Ends, Finishes}
use Rattle.frp_tool.specs.Checks.{Bad, Good, CheckWorks, Checks}

-- What is made of the work of a `check` ends it.
module _ (source : List ℕ) (before : Outside) (files : FilesSeen) (out : SinkSeen) (status : ℕ) (keeps : KeepsFiles before.files files) where
  abbrev left : Outside
  left = record { files = files; out = out }

  due : (n n' : ℕ) (line line' : List ℕ) → n ≡ n' → line ≡ line' → Ends before.out out n line status → Ends before.out out n' line' status
  due n n' line line' is said ends = subst (λ (text : List ℕ). Ends before.out out n' text status) said (subst (λ (k : ℕ). Ends before.out out k line status) is ends)

  pub check_ends : (work : Result (Option (String Global)) Halt) → CheckWorks source before.files files work → Finishes before.out out work status → Checks source before left status
  check_ends (Ok line) (p, text, is, gives, said) ends =
      let put : Ends before.out out 0 (string_bytes text) status = subst (λ (l : Option (String Global)). Finishes before.out out (Ok l) status) is ends in
      (keeps, inr (Good p, gives, due 0 0 _ _ refl said put))
  check_ends (Err (Said n line)) (fault, cause, is, said) ends = (keeps, inr (Bad fault, cause, due n _ _ _ is said ends))
  check_ends (Err PutFailed) works ends = absurd works
  check_ends (Err Memory) works (six, same) = (keeps, inl (six, λ k. (same k).taken))
