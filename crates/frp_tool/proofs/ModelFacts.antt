-- The steps of `model`, put together.
use Rattle.std.proofs.Common.{◌≡◌, ℕ, ◌≤◌, List, [], ◌∷◌, map, Option, Some, Result, Ok, Err, String, string_bytes, inl, inr, refl, ap, ◌∙◌, subst}
use Rattle.std.specs.declared.alloc.Global.{Global}
use Rattle.edge_io.specs.Files.{FilesSeen, KeepsFiles}
use Rattle.edge_io.specs.Sinks.{SinkSeen}
use Rattle.frp_tree.specs.Tree.{ProgramTree}
use Rattle.efrp_meaning.specs.Meaning.{Occurrence}
use Rattle.checked_source.specs.Readings.{Reading, Passing, IsRead}
use Rattle.event_file.specs.declared.occurrences.Occurrence.{Occurrence as Found}
use Rattle.event_file.specs.declared.occurrences.EventsFault.{EventsFault}
use Rattle.event_file.specs.Model.{model_text}
use Rattle.event_file.specs.Reads.{occurrence_of, ReadsEvents}
use Rattle.command_parts.specs.declared.halts.Halt.{Halt}
use Rattle.command_parts.specs.declared.halts.Halt.TheVariants.{Said, PutFailed, Memory}
use Rattle.command_parts.specs.Outsides.{Outside}
use Rattle.command_parts.specs.Endings.{Ends, Gives, Finishes}
use Rattle.command_parts.specs.Reads.{unread_status, unread_line, IsUnread, IsInput}
use Rattle.command_parts.specs.Lines.{IsRefused, refusal_line}
use Rattle.frp_tool.specs.Models.{ModelRequest, ModelTexts, AreModelTexts, ModelFault, FileUnread, Refused, Unknown, TooMany, model_fault_status, model_fault_line, IsFirstModelFault, ModelFaultCause, IsModel, NoModel, Modelled, ModelWorks, Models}
use Rattle.run_inputs.proofs.RunStepLaws.{halts, first_unread, second_unread}

-- The first or the second file wasn't read.
pub source_unread : {A : Type 0} (Good : A → Type 0) (r : ModelRequest) (a b : FilesSeen) (e : Halt) → Gives (IsInput r.source a) (IsUnread r.source a b) unread_status (unread_line r.source) (Err e)
    → Gives Good (ModelFaultCause r a b) model_fault_status model_fault_line (Err e)
source_unread Good r a b e =
    halts (IsInput r.source a) Good (IsUnread r.source a b) (ModelFaultCause r a b) unread_status model_fault_status (unread_line r.source) model_fault_line e
    (λ why is. (FileUnread r.source why, first_unread a b b r.source (r.events ∷ []) why is, refl, refl))

pub events_unread : {A : Type 0} (Good : A → Type 0) (r : ModelRequest) (a b c : FilesSeen) (e : Halt) (text : List ℕ) → KeepsFiles a b → a.read_faults ≤ b.read_faults → IsInput r.source a text
    → Gives (IsInput r.events b) (IsUnread r.events b c) unread_status (unread_line r.events) (Err e) → Gives Good (ModelFaultCause r a c) model_fault_status model_fault_line (Err e)
events_unread Good r a b c e text keeps less is =
    halts (IsInput r.events b) Good (IsUnread r.events b c) (ModelFaultCause r a c) unread_status model_fault_status (unread_line r.events) model_fault_line e
    (λ why unread. (FileUnread r.events why, second_unread a b c r.source r.events [] text why keeps less is unread, refl, refl))

-- The source is refused.
pub source_refused : {A B : Type 0} (Good : A → Type 0) (Good' : B → Type 0) (t : ModelTexts) (slice : List ℕ) (e : Halt) → slice ≡ t.source
    → Gives Good (λ (reading : Reading). IsRead slice reading × IsRefused reading) (λ reading. 1) refusal_line (Err e) → Gives Good' (IsFirstModelFault t) model_fault_status model_fault_line (Err e)
source_refused Good Good' t slice e same =
    halts Good Good' (λ (reading : Reading). IsRead slice reading × IsRefused reading) (IsFirstModelFault t) (λ reading. 1) model_fault_status refusal_line model_fault_line e
    (λ reading bad. (Refused reading, (subst (λ (text : List ℕ). IsRead text reading) same bad.0, bad.1), refl, refl))

-- What was read of both files.
module _ (t : ModelTexts) (p q : ProgramTree) (source slice : List ℕ) (is_source : source ≡ t.source) (is_events : slice ≡ t.events) (same : q ≡ p) (read : IsRead source (Passing p)) where
  read_source : IsRead t.source (Passing p)
  read_source = subst (λ (text : List ℕ). IsRead text (Passing p)) is_source read

  read_events : (answer : Result (List Found) EventsFault) → ReadsEvents q slice answer → ReadsEvents p t.events answer
  read_events answer reads = subst (λ (x : ProgramTree). ReadsEvents x t.events answer) same (subst (λ (text : List ℕ). ReadsEvents q text answer) is_events reads)

  pub model_is : (events told : List Found) (text : List ℕ) → told ≡ events → ReadsEvents q slice (Ok events) → model_text p (map (occurrence_of p) told) ≡ Some text → IsModel t p text
  model_is events told text are reads is =
      let of_text = read_events (Ok events) reads in
      record {
        read = read_source;
        known = of_text.0;
        few = of_text.1;
        model = subst (λ (os : List Occurrence). model_text p os ≡ Some text) (ap (map (occurrence_of p)) are ∙ of_text.2) is;
      }

  pub events_refused : (answer : Result (List Found) EventsFault) (fault : ModelFault) → ReadsEvents q slice answer → (ReadsEvents p t.events answer → IsRead t.source (Passing p) → IsFirstModelFault t fault) → IsFirstModelFault t fault
  events_refused answer fault reads step = step (read_events answer reads) read_source

-- A fault of the bytes that were read is the cause of a fault of the whole.
fault_of_texts : (r : ModelRequest) (a b : FilesSeen) (t : ModelTexts) (fault : ModelFault) → AreModelTexts r a t → IsFirstModelFault t fault → ModelFaultCause r a b fault
fault_of_texts r a b t (FileUnread name why) are is = absurd is
fault_of_texts r a b t (Refused reading) are is = (t, are, is)
fault_of_texts r a b t (Unknown n) are is = (t, are, is)
fault_of_texts r a b t TooMany are is = (t, are, is)

pub texts_halt : {A B : Type 0} (Good : A → Type 0) (Good' : B → Type 0) (r : ModelRequest) (a b : FilesSeen) (t : ModelTexts) (e : Halt) → AreModelTexts r a t
    → Gives Good (IsFirstModelFault t) model_fault_status model_fault_line (Err e) → Gives Good' (ModelFaultCause r a b) model_fault_status model_fault_line (Err e)
texts_halt Good Good' r a b t e are =
    halts Good Good' (IsFirstModelFault t) (ModelFaultCause r a b) model_fault_status model_fault_status model_fault_line model_fault_line e (λ fault is. (fault, fault_of_texts r a b t fault are is, refl, refl))

-- What is made of the work of a `model` ends it.
module _ (r : ModelRequest) (before : Outside) (files : FilesSeen) (out : SinkSeen) (status : ℕ) (keeps : KeepsFiles before.files files) where
  abbrev left : Outside
  left = record { files = files; out = out }

  due : (n n' : ℕ) (line line' : List ℕ) → n ≡ n' → line ≡ line' → Ends before.out out n line status → Ends before.out out n' line' status
  due n n' line line' is said ends = subst (λ (text : List ℕ). Ends before.out out n' text status) said (subst (λ (k : ℕ). Ends before.out out k line status) is ends)

  pub model_ends : (work : Result (Option (String Global)) Halt) → ModelWorks r before.files files work → Finishes before.out out work status → Models r before left status
  model_ends (Ok line) (p, text, is, model) ends =
      (keeps, inr (Modelled p (string_bytes text), model, subst (λ (l : Option (String Global)). Finishes before.out out (Ok l) status) is ends))
  model_ends (Err (Said n line)) (fault, cause, is, said) ends = (keeps, inr (NoModel fault, cause, due n _ _ _ is said ends))
  model_ends (Err PutFailed) works ends = absurd works
  model_ends (Err Memory) works (six, same) = (keeps, inl (six, λ k. (same k).taken))
