-- The steps that read a source, put together.
use Rattle.std.proofs.Common.{◌≡◌, ℕ, List, Result, Ok, Err, refl, subst}
use Rattle.edge_io.specs.Files.{FilesSeen}
use Rattle.frp_tree.specs.Tree.{ProgramTree}
use Rattle.checked_source.specs.Readings.{Reading, Passing, IsRead}
use Rattle.command_parts.specs.declared.halts.Halt.{Halt}
use Rattle.command_parts.specs.Endings.{Gives}
use Rattle.command_parts.specs.Reads.{unread_status, unread_line, IsUnread, IsInput}
use Rattle.command_parts.specs.Lines.{IsRefused, refusal_line}
use Rattle.frp_tool.specs.SourceTexts.{SourceGives, SourceUnread, Refused, source_status, source_line, SourceCause}
use Rattle.command_parts.proofs.ToldLaws.{if_map}
use Rattle.run_inputs.proofs.RunStepLaws.{halts}

module _ (source : List ℕ) (a b : FilesSeen) where
  -- A source that wasn't read gives no program.
  pub source_unread : {A : Type 0} (Good : A → Type 0) (e : Halt) → Gives (IsInput source a) (IsUnread source a b) unread_status (unread_line source) (Err e)
      → Gives Good (SourceCause source a b) source_status (source_line source) (Err e)
  source_unread Good e =
      halts (IsInput source a) Good (IsUnread source a b) (SourceCause source a b) unread_status source_status (unread_line source) (source_line source) e (λ why is. (SourceUnread why, is, refl, refl))

  -- One that was gives the program that it spells, or is refused.
  module _ (text slice : List ℕ) (is : IsInput source a text) (same : slice ≡ text) where
    pub source_gives : (p : ProgramTree) → IsRead slice (Passing p) → SourceGives source a p
    source_gives p read = if_map a _ _ (λ held at. (text, at, subst (λ (t : List ℕ). IsRead t (Passing p)) same read)) is.0

    source_refused : (reading : Reading) → IsRead slice reading → IsRefused reading → SourceCause source a b (Refused reading)
    source_refused reading read unfit = (if_map a _ _ (λ held at. (text, at, (is.1, subst (λ (t : List ℕ). IsRead t reading) same read))) is.0, unfit)

    pub source_read : {A : Type 0} (Good Good' : A → Type 0) (answer : Result A Halt) → ((x : A) → Good x → Good' x)
        → Gives Good (λ (reading : Reading). IsRead slice reading × IsRefused reading) (λ reading. 1) refusal_line answer
        → Gives Good' (SourceCause source a b) source_status (source_line source) answer
    source_read Good Good' (Ok x) step gives = step x gives
    source_read Good Good' (Err e) step gives =
        halts Good Good' (λ (reading : Reading). IsRead slice reading × IsRefused reading) (SourceCause source a b) (λ reading. 1) source_status refusal_line (source_line source) e
        (λ reading bad. (Refused reading, source_refused reading bad.0 bad.1, refl, refl)) gives
