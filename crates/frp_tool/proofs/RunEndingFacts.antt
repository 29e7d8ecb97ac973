-- The trace of a run and the line of a stop after it, put together.
use Rattle.std.proofs.Common.{◌≡◌, ℕ, zero, suc, ◌+◌, ◌≤◌, true, List, [], ◌∷◌, ◌++◌, take, Option, Some, None, Result, Ok, Err, String, string_bytes, ◌⊎◌, inl, inr, arith, refl, sym, ◌∙◌, ap, subst}
use Rattle.std.proofs.lemmas.List.{append_assoc, append-nil}
use Rattle.std.specs.declared.alloc.Global.{Global}
use Rattle.edge_io.specs.Sinks.{SinkSeen, Appends, AppendsPrefix}
use Rattle.edge_io.specs.Counts.{Rose}
use Rattle.command_parts.specs.declared.halts.Halt.{Halt}
use Rattle.command_parts.specs.declared.halts.Halt.TheVariants.{Said, PutFailed, Memory}
use Rattle.pic_machine.specs.declared.steps.Did.{Did}
use Rattle.pic_machine.specs.declared.steps.Did.TheVariants.{Took, Ran, Stopped}
use Rattle.pic_machine.specs.declared.steps.Why.{Why}
use Rattle.pic_machine.specs.Dids.{is_stop}
use Rattle.arrival_script.specs.Trace.{IsDue, lines_of, Traces}
use Rattle.arrival_script.specs.declared.traces.TraceFault.TheVariants as fault
use Rattle.run_inputs.specs.declared.inputs.Parts.{Parts}
use Rattle.command_parts.specs.Outsides.{Outside}
use Rattle.command_parts.specs.Endings.{Ends, Gives, Finishes}
use Rattle.run_inputs.specs.RunLines.{stop_line}
use Rattle.run_inputs.specs.RunFaults.{RunRequest, ArePartsOf, FaultCause, fault_status, fault_line}
use Rattle.frp_tool.specs.Runs.{RunVerdict, NoRun, Stops, Ended, run_status, run_text, log_of, whole_trace, RunEnds, RunEndsSo, RunExhausted, Runs, RunWorks, Traced, TraceCut}

-- Prefixes of a text and of one that another follows.
take_prefix : (n : ℕ) (text more : List ℕ) → (m : ℕ) × (take m (text ++ more) ≡ take n text)
take_prefix zero text more = (0, refl)
take_prefix (suc n) [] more = (0, refl)
take_prefix (suc n) (b ∷ text) more = let rest = take_prefix n text more in (suc rest.0, ap (λ bytes. b ∷ bytes) rest.1)

take_after : (text more : List ℕ) (n : ℕ) → (m : ℕ) × (take m (text ++ more) ≡ text ++ take n more)
take_after [] more n = (n, refl)
take_after (b ∷ text) more n = let rest = take_after text more n in (suc rest.0, ap (λ bytes. b ∷ bytes) rest.1)

appends_nothing : (taken : Option (List ℕ)) → Appends taken taken []
appends_nothing None = tt
appends_nothing (Some bytes) = sym (append-nil bytes)

prefix_of_none : (taken taken' : Option (List ℕ)) (text : List ℕ) → taken ≡ taken' → AppendsPrefix taken taken' text
prefix_of_none taken taken' text same = (0, subst (λ (t : Option (List ℕ)). Appends taken t []) same (appends_nothing taken))

appends_both : (t0 t1 t2 : Option (List ℕ)) (a b : List ℕ) → Appends t0 t1 a → Appends t1 t2 b → Appends t0 t2 (a ++ b)
appends_both None None None a b first second = tt
appends_both None None (Some new) a b first second = second
appends_both None (Some mid) t2 a b first second = absurd first
appends_both (Some old) None t2 a b first second = absurd first
appends_both (Some old) (Some mid) None a b first second = second
appends_both (Some old) (Some mid) (Some new) a b first second = second ∙ ap (λ bytes. bytes ++ b) first ∙ append_assoc old a b

prefix_longer : (t t' : Option (List ℕ)) (a b : List ℕ) → AppendsPrefix t t' a → AppendsPrefix t t' (a ++ b)
prefix_longer t t' a b (n, is) = let m = take_prefix n a b in (m.0, subst (λ (bytes : List ℕ). Appends t t' bytes) (sym m.1) is)

prefix_after : (t0 t1 t2 : Option (List ℕ)) (a b : List ℕ) → Appends t0 t1 a → AppendsPrefix t1 t2 b → AppendsPrefix t0 t2 (a ++ b)
prefix_after t0 t1 t2 a b first (n, is) = let m = take_after a b n in (m.0, subst (λ (bytes : List ℕ). Appends t0 t2 bytes) (sym m.1) (appends_both t0 t1 t2 a (take n b) first is))

-- A line alone, and a line after a text that was put.
ends_alone : (before after : SinkSeen) (due : ℕ) (line : List ℕ) (status : ℕ) → Ends before after due line status → RunEnds before after due line status
ends_alone before after due line status (inl h) = inl h
ends_alone before after due line status (inr (inl h)) = inr (inl h)
ends_alone before after due line status (inr (inr h)) = inr (inr (h.0, prefix_of_none before.taken after.taken line h.1))

ends_after : (a b c : SinkSeen) (due : ℕ) (text line : List ℕ) (status : ℕ) → Appends a.taken b.taken text → a.put_faults ≤ b.put_faults → Ends b c due line status → RunEnds a c due (text ++ line) status
ends_after a b c due text line status first less (inl h) = inl (h.0, appends_both a.taken b.taken c.taken text line first h.1)
ends_after a b c due text line status first less (inr (inl h)) = inr (inl (h.0, omega (arith, h.1), prefix_after a.taken b.taken c.taken text line first h.2))
ends_after a b c due text line status first less (inr (inr h)) = inr (inr (h.0, prefix_after a.taken b.taken c.taken text line first (prefix_of_none b.taken c.taken line h.1)))

stopped_by : (did : Did) → is_stop did ≡ true → (address : ℕ) × (why : Why) × (did ≡ Stopped address why)
stopped_by Took is = cc
stopped_by (Ran address word) is = cc
stopped_by (Stopped address why) is = (address, why, refl)

-- The trace broke off.
trace_cut : (p : Parts) (before after : SinkSeen) (text : List ℕ) → IsDue p.map (log_of p) p.script.steps text → AppendsPrefix before.taken after.taken text → TraceCut p before after
trace_cut p before after text (inl (goes, is)) prefix = inl (goes, subst (λ (bytes : List ℕ). AppendsPrefix before.taken after.taken bytes) is prefix)
trace_cut p before after text (inr (k, stops, is)) prefix =
    let by = stopped_by (log_of p k).did stops.stopped in
    inr (
      k,
      by.0,
      by.1,
      (stops, by.2),
      prefix_longer before.taken after.taken (lines_of p.map (log_of p) (k + 1)) (stop_line k by.0 by.1) (subst (λ (bytes : List ℕ). AppendsPrefix before.taken after.taken bytes) is prefix),
    )

pub trace_failed : (p : Parts) (before after : SinkSeen) → Traces p.map (log_of p) p.script.steps before.taken after.taken (Err fault.Failed) → TraceCut p before after
trace_failed p before after (text, due, prefix) = trace_cut p before after text due prefix

pub trace_exhausted : (p : Parts) (before after : SinkSeen) → Traces p.map (log_of p) p.script.steps before.taken after.taken (Err fault.Memory) → TraceCut p before after
trace_exhausted p before after (text, due, prefix) = trace_cut p before after text due prefix

-- Memory ran out after the lines up to a stop.
pub trace_stop_cut : (p : Parts) (before after : SinkSeen) (step address : ℕ) (why : Why) → Traces p.map (log_of p) p.script.steps before.taken after.taken (Err (fault.Stopped step address why)) → TraceCut p before after
trace_stop_cut p before after step address why h =
    inr (
      step,
      address,
      why,
      (h.0, h.1),
      prefix_after before.taken after.taken after.taken (lines_of p.map (log_of p) (step + 1)) (stop_line step address why) h.2 (prefix_of_none after.taken after.taken (stop_line step address why) refl),
    )

module _ (r : RunRequest) (before after : Outside) (status : ℕ) (p : Parts) (are : ArePartsOf r before.files p) where
  cut_ends : (same : (v : RunVerdict) → AppendsPrefix before.out.taken after.out.taken (run_text v) → RunEnds before.out after.out (run_status v) (run_text v) status)
      → TraceCut p before.out after.out → (v : RunVerdict) × RunEndsSo r before after status v
  cut_ends same (inl (goes, prefix)) = (Ended p, ((are, goes), same (Ended p) prefix))
  cut_ends same (inr (step, address, why, stops, prefix)) = (Stops p step address why, ((are, stops), same (Stops p step address why) prefix))

  -- A trace and what is made of it are the end of a `run` of what the three files mean.
  traced_ends : (mid : SinkSeen) (work : Result (Option (String Global)) Halt) → before.out.put_faults ≤ mid.put_faults → Traced p before.out mid work → Finishes mid after.out work status
      → (v : RunVerdict) × RunEndsSo r before after status v
  traced_ends mid (Ok (Some line)) less traced ends = absurd traced
  traced_ends mid (Ok None) less (goes, put) (is, same) =
      (Ended p, ((are, goes), inl (is, subst (λ (s : SinkSeen). Appends before.out.taken s.taken (whole_trace p)) same put)))
  traced_ends mid (Err (Said due line)) less (step, address, why, stops, put, is, said) ends = (
    Stops p step address why,
    (
      (are, stops),
      ends_after before.out mid after.out 1 (lines_of p.map (log_of p) (step + 1)) (stop_line step address why) status put less
          (subst (λ (text : List ℕ). Ends mid after.out 1 text status) said (subst (λ (n : ℕ). Ends mid after.out n (string_bytes line) status) is ends)),
    ),
  )
  traced_ends mid (Err PutFailed) less (rose, cut) (is, same) =
      cut_ends (λ v prefix. inr (inl (is, subst (λ (s : SinkSeen). Rose before.out.put_faults s.put_faults) same rose, prefix))) (subst (λ (s : SinkSeen). TraceCut p before.out s) same cut)
  traced_ends mid (Err Memory) less cut (is, same) = cut_ends (λ v prefix. inr (inr (is, prefix))) (subst (λ (s : SinkSeen). TraceCut p before.out s) same cut)

-- So is what is made of a fault.
module _ (r : RunRequest) (before after : Outside) (status : ℕ) where
  halted_ends : (work : Result (Option (String Global)) Halt) → Gives (λ (nothing : Option (String Global)). ⊥) (FaultCause r before.files after.files) fault_status fault_line work → Finishes before.out after.out work status
      → RunExhausted before after status ⊎ ((v : RunVerdict) × RunEndsSo r before after status v)
  halted_ends (Ok line) gives ends = absurd gives
  halted_ends (Err (Said due line)) (fault, cause, is, said) ends =
      inr (
        NoRun fault,
        (
          cause,
          ends_alone before.out after.out (fault_status fault) (fault_line fault) status
              (subst (λ (text : List ℕ). Ends before.out after.out (fault_status fault) text status) said (subst (λ (n : ℕ). Ends before.out after.out n (string_bytes line) status) is ends)),
        ),
      )
  halted_ends (Err PutFailed) gives ends = absurd gives
  halted_ends (Err Memory) gives (is, same) = inl (is, λ k. (same k).taken)

-- What is made of the work of a `run` ends it.
pub run_ends : (r : RunRequest) (before : Outside) (mid : Outside) (out : SinkSeen) (status : ℕ) (work : Result (Option (String Global)) Halt) → before.out.put_faults ≤ mid.out.put_faults → RunWorks r before mid work
    → Finishes mid.out out work status → Runs r before (record { files = mid.files; out = out }) status
run_ends r before mid out status work less (keeps, inl (same, gives)) ends =
    (keeps, halted_ends r before (record { files = mid.files; out = out }) status work gives (subst (λ (s : SinkSeen). Finishes s out work status) (sym same) ends))
run_ends r before mid out status work less (keeps, inr (p, are, traced)) ends = (keeps, inr (traced_ends r before (record { files = mid.files; out = out }) status p are mid.out work less traced ends))
