-- What each status of a `run` says, from how its call ends.
use Rattle.std.proofs.Common.{◌≡◌, ℕ, ◌<◌, List, [], ◌∷◌, Some, None, ◌⊎◌, inl, inr, ⊎_elim, arith, refl, sym, ◌∙◌, subst}
use Rattle.std.specs.List.{AllByRecursion}
use Rattle.edge_io.specs.Files.{Held, FilesSeen, IfTold}
use Rattle.edge_io.specs.Sinks.{SinkSeen, Appends}
use Rattle.edge_io.specs.Counts.{Rose}
use Rattle.pic_machine.specs.declared.steps.Why.{Why}
use Rattle.hex_file.proofs.ImageLaws.{image_determined}
use Rattle.hex_file.proofs.UniqueLaws.{no_image_of_fault}
use Rattle.map_file.proofs.EntryRowLaws.{one_text}
use Rattle.arrival_script.specs.declared.scripts.Script.{Script}
use Rattle.arrival_script.specs.Scripts.{IsScriptOf}
use Rattle.run_inputs.specs.declared.inputs.Inputs.{Inputs}
use Rattle.run_inputs.specs.declared.inputs.Parts.{Parts}
use Rattle.command_parts.specs.Outsides.{Outside}
use Rattle.command_parts.specs.Endings.{DueOrYielded}
use Rattle.command_parts.specs.Reads.{NotHeld, NotRead, TooLong, IsReadable, IsLong, IsNext}
use Rattle.run_inputs.specs.RunFaults.{RunRequest, names_of, AreInputs, AreParts, RunFault, FileUnread, BadHex, BadMap, BadScript, fault_status, IsFirstFault}
use Rattle.frp_tool.specs.Runs.{RunVerdict, NoRun, Stops, Ended, run_status, run_text, RunCause, RunEnds, Runs, StopsAt, GoesToEnd, RunDone, RunRefuses, RunPromises}
use Rattle.command_parts.proofs.ToldLaws.{if_both, at_told}
use Rattle.frp_tool.proofs.NextFacts.{IsHeldInput, named, one_next, not_readable, long_readable, not_long}

due : (before after : SinkSeen) (want : ℕ) (text : List ℕ) (status : ℕ) → RunEnds before after want text status → DueOrYielded want status
due before after want text status (inl h) = inl h.0
due before after want text status (inr (inl h)) = inr (inl h.0)
due before after want text status (inr (inr h)) = inr (inr h.0)

-- A status that isn't 5 or 6 is the one that was due, and then the whole text was put.
settled : (before after : SinkSeen) (want : ℕ) (text : List ℕ) (status : ℕ) → RunEnds before after want text status → status < 5 → (status ≡ want) × Appends before.taken after.taken text
settled before after want text status (inl h) small = h
settled before after want text status (inr (inl h)) small = absurd (omega (arith, h.0))
settled before after want text status (inr (inr h)) small = absurd (omega (arith, h.0))

-- A verdict that comes, with its status and its text.
abbrev Settles : RunRequest → Outside → Outside → ℕ → RunVerdict → Type 0
Settles r before after status v = RunCause r before.files after.files v × (status ≡ run_status v) × Appends before.out.taken after.out.taken (run_text v)

verdict : (r : RunRequest) (before after : Outside) (status : ℕ) → Runs r before after status → status < 5 → (v : RunVerdict) × Settles r before after status v
verdict r before after status (keeps, inl h) small = absurd (omega (arith, h.0))
verdict r before after status (keeps, inr (v, (cause, ends))) small = let s = settled _ _ _ _ _ ends small in (v, (cause, s.0, s.1))

-- The bytes of the three files, where the files that are held are told.
abbrev AreHeld : RunRequest → Held → Inputs → Type 0
AreHeld r held i = IsHeldInput r.hex held i.hex × IsHeldInput r.map held i.map × IsHeldInput r.script held i.script

abbrev AreHeldParts : RunRequest → Held → Parts → Type 0
AreHeldParts r held p = (i : Inputs) × AreHeld r held i × AreParts i p

all_readable : (r : RunRequest) (held : Held) (i : Inputs) → AreHeld r held i → AllByRecursion (IsReadable held) (r.hex ∷ r.map ∷ r.script ∷ [])
all_readable r held i are = ((i.hex, are.0.0, are.0.1), ((i.map, are.1.0, are.1.1), ((i.script, are.2.0, are.2.1), tt)))

inputs_at : (r : RunRequest) (seen : FilesSeen) (held : Held) (i : Inputs) → seen.told ≡ Some held → AreInputs r seen i → AreHeld r held i
inputs_at r seen held i told (hex, map, script) = (
  (at_told seen held (λ h. h r.hex ≡ Some i.hex) told hex.0, hex.1),
  (at_told seen held (λ h. h r.map ≡ Some i.map) told map.0, map.1),
  (at_told seen held (λ h. h r.script ≡ Some i.script) told script.0, script.1),
)

-- The bytes and what they mean are determined.
same_inputs : (r : RunRequest) (held : Held) (i j : Inputs) → AreHeld r held i → AreHeld r held j → i ≡ j
same_inputs r held i j a b =
    let h : held r.hex ≡ Some i.hex = a.0.0 in let h' : held r.hex ≡ Some j.hex = b.0.0 in let hex : i.hex ≡ j.hex = cc in
    let m : held r.map ≡ Some i.map = a.1.0 in let m' : held r.map ≡ Some j.map = b.1.0 in let map : i.map ≡ j.map = cc in
    let s : held r.script ≡ Some i.script = a.2.0 in let s' : held r.script ≡ Some j.script = b.2.0 in let script : i.script ≡ j.script = cc in
    λ k. record { hex = hex k; map = map k; script = script k }

same_script : (text : List ℕ) (s t : Script) → IsScriptOf text s → IsScriptOf text t → s ≡ t
same_script text s t a b =
    let fill : s.fill ≡ t.fill = a.fill ∙ sym b.fill in
    let late : s.late ≡ t.late = a.late ∙ sym b.late in
    let arrivals : s.arrivals ≡ t.arrivals = a.arrivals ∙ sym b.arrivals in
    let pins : s.pins ≡ t.pins = a.pins ∙ sym b.pins in
    let both : Some s.steps ≡ Some t.steps = sym a.steps ∙ b.steps in
    let steps : s.steps ≡ t.steps = cc in
    λ k. record { fill = fill k; late = late k; arrivals = arrivals k; pins = pins k; steps = steps k }

same_parts : (i : Inputs) (p q : Parts) → AreParts i p → AreParts i q → p ≡ q
same_parts i p q a b =
    let image : p.image ≡ q.image = image_determined i.hex p.image q.image a.image b.image in
    let map : p.map ≡ q.map = one_text p.map q.map a.map b.map (sym a.text ∙ b.text) in
    let script : p.script ≡ q.script = same_script i.script p.script q.script a.script.1 b.script.1 in
    λ k. record { image = image k; map = map k; script = script k }

same_parts_of : (r : RunRequest) (held : Held) (i : Inputs) (p q : Parts) → AreHeld r held i → AreParts i p → AreHeldParts r held q → q ≡ p
same_parts_of r held i p q are parts (j, are', parts') = same_parts i q p (subst (λ (k : Inputs). AreParts k q) (same_inputs r held j i are' are) parts') parts

no_fault : (i : Inputs) (p : Parts) (fault : RunFault) → AreParts i p → IsFirstFault i fault → ⊥
no_fault i p (FileUnread name why) parts is = is
no_fault i p (BadHex fault) parts is = no_image_of_fault i.hex fault p.image is parts.image
no_fault i p (BadMap n) parts is = is.1.no_text (record { map = p.map; rules = parts.map; text = parts.text })
no_fault i p (BadScript n cause) parts is = let none = parts.script.0 in let some = is.2 in cc

no_faults : (r : RunRequest) (held : Held) (i j : Inputs) (p : Parts) (fault : RunFault) → AreHeld r held i → AreParts i p → AreHeld r held j → IsFirstFault j fault → ⊥
no_faults r held i j p fault are parts are' is = no_fault i p fault parts (subst (λ (k : Inputs). IsFirstFault k fault) (same_inputs r held j i are' are) is)

module _ (r : RunRequest) (before after : Outside) (status : ℕ) where
  no_run_ends : (fault : RunFault) → status ≡ fault_status fault → status ≡ 0 → ⊥
  no_run_ends (FileUnread name NotHeld) is e = omega arith
  no_run_ends (FileUnread name NotRead) is e = omega arith
  no_run_ends (FileUnread name TooLong) is e = omega arith
  no_run_ends (BadHex fault) is e = omega arith
  no_run_ends (BadMap n) is e = omega arith
  no_run_ends (BadScript n cause) is e = omega arith

  done : (v : RunVerdict) → Settles r before after status v → status ≡ 0 → RunDone r before after
  done (NoRun fault) (cause, is, put) e = absurd (no_run_ends fault is e)
  done (Stops p step address why) (cause, is, put) e = absurd (omega arith)
  done (Ended p) (cause, is, put) e = (p, cause.0, cause.1, put)

  one : (v : RunVerdict) → Settles r before after status v → status ≡ 1 → RunRefuses r before
  one (NoRun (FileUnread name NotHeld)) (cause, is, put) e = absurd (omega arith)
  one (NoRun (FileUnread name NotRead)) (cause, is, put) e = absurd (omega arith)
  one (NoRun (FileUnread name TooLong)) (cause, is, put) e = inl (if_both before.files _ _ _ (λ held next long. (name, next, long)) cause.0 cause.1)
  one (NoRun (BadHex fault)) ((i, are, first), is, put) e = inr (inl (i, are, BadHex fault, first))
  one (NoRun (BadMap n)) ((i, are, first), is, put) e = inr (inl (i, are, BadMap n, first))
  one (NoRun (BadScript n why)) ((i, are, first), is, put) e = inr (inl (i, are, BadScript n why, first))
  one (Stops p step address why) (cause, is, put) e = inr (inr (p, cause.0, step, address, why, cause.1))
  one (Ended p) (cause, is, put) e = absurd (omega arith)

  three : (v : RunVerdict) → Settles r before after status v → status ≡ 3 → IfTold before.files (λ held. (name : List ℕ) × IsNext (names_of r) held name × (held name ≡ None))
  three (NoRun (FileUnread name NotHeld)) (cause, is, put) e = if_both before.files _ _ _ (λ held next none. (name, next, none)) cause.0 cause.1
  three (NoRun (FileUnread name NotRead)) (cause, is, put) e = absurd (omega arith)
  three (NoRun (FileUnread name TooLong)) (cause, is, put) e = absurd (omega arith)
  three (NoRun (BadHex fault)) (cause, is, put) e = absurd (omega arith)
  three (NoRun (BadMap n)) (cause, is, put) e = absurd (omega arith)
  three (NoRun (BadScript n why)) (cause, is, put) e = absurd (omega arith)
  three (Stops p step address why) (cause, is, put) e = absurd (omega arith)
  three (Ended p) (cause, is, put) e = absurd (omega arith)

  pub four : (v : RunVerdict) → Settles r before after status v → status ≡ 4 → Rose before.files.read_faults after.files.read_faults
  four (NoRun (FileUnread name NotHeld)) (cause, is, put) e = absurd (omega arith)
  four (NoRun (FileUnread name NotRead)) (cause, is, put) e = cause.1.0
  four (NoRun (FileUnread name TooLong)) (cause, is, put) e = absurd (omega arith)
  four (NoRun (BadHex fault)) (cause, is, put) e = absurd (omega arith)
  four (NoRun (BadMap n)) (cause, is, put) e = absurd (omega arith)
  four (NoRun (BadScript n why)) (cause, is, put) e = absurd (omega arith)
  four (Stops p step address why) (cause, is, put) e = absurd (omega arith)
  four (Ended p) (cause, is, put) e = absurd (omega arith)

  -- No verdict is due with 2 or with 5.
  not_due : (v : RunVerdict) → (run_status v ≡ 2) ⊎ (run_status v ≡ 5) → ⊥
  not_due (NoRun (FileUnread name NotHeld)) e = omega (arith, e)
  not_due (NoRun (FileUnread name NotRead)) e = omega (arith, e)
  not_due (NoRun (FileUnread name TooLong)) e = omega (arith, e)
  not_due (NoRun (BadHex fault)) e = omega (arith, e)
  not_due (NoRun (BadMap n)) e = omega (arith, e)
  not_due (NoRun (BadScript n why)) e = omega (arith, e)
  not_due (Stops p step address why) e = omega (arith, e)
  not_due (Ended p) e = omega (arith, e)

  pub run_not_two : Runs r before after status → status ≡ 2 → ⊥
  run_not_two h e = let v = verdict r before after status h (omega (arith, e)) in not_due v.0 (inl (sym v.1.1 ∙ e))

  pub run_four : Runs r before after status → status ≡ 4 → Rose before.files.read_faults after.files.read_faults
  run_four h e = let v = verdict r before after status h (omega (arith, e)) in four v.0 v.1 e

  five : (v : RunVerdict) → RunEnds before.out after.out (run_status v) (run_text v) status → status ≡ 5 → Rose before.out.put_faults after.out.put_faults
  five v (inl h) e = absurd (not_due v (inr (sym h.0 ∙ e)))
  five v (inr (inl h)) e = h.1
  five v (inr (inr h)) e = absurd (omega (arith, h.0))

  pub run_five : Runs r before after status → status ≡ 5 → Rose before.out.put_faults after.out.put_faults
  run_five (keeps, inl h) e = absurd (omega (arith, h.0))
  run_five (keeps, inr (v, (cause, ends))) e = five v ends e

  run_done : Runs r before after status → status ≡ 0 → RunDone r before after
  run_done h e = let v = verdict r before after status h (omega (arith, e)) in done v.0 v.1 e

  -- Where the name that is next isn't held, a file wasn't read: that one, or one before whose read failed.
  module _ (held : Held) (told : before.files.told ≡ Some held) where
    held_all : (name : List ℕ) → IsNext (names_of r) held name → held name ≡ None → (i : Inputs) → AreInputs r before.files i → ⊥
    held_all name next none i are =
        not_readable held name none (named (IsReadable held) _ next.earlier next.later name next.order (all_readable r held i (inputs_at r before.files held i told are)))

    missing : (name : List ℕ) → IsNext (names_of r) held name → held name ≡ None → (Rose before.files.read_faults after.files.read_faults → ⊥) → (v : RunVerdict) → RunCause r before.files after.files v → run_status v ≡ 3
    missing name next none reads (NoRun (FileUnread other NotHeld)) cause = refl
    missing name next none reads (NoRun (FileUnread other NotRead)) cause = absurd (reads cause.1.0)
    missing name next none reads (NoRun (FileUnread other TooLong)) cause =
        let next' : IsNext (names_of r) held other = at_told before.files held (λ h. IsNext (names_of r) h other) told cause.0 in
        let long : IsLong held other = at_told before.files held (λ h. IsLong h other) told cause.1 in
        absurd (⊎_elim
        (λ (e : name ≡ other). not_long held name none (subst (IsLong held) (sym e) long))
        (λ rest. ⊎_elim (λ is. not_readable held name none is) (λ is. long_readable held other is long) rest)
        (one_next (IsReadable held) next.earlier next'.earlier next.later next'.later name other (sym next.order ∙ next'.order) next.readable next'.readable))
    missing name next none reads (NoRun (BadHex fault)) (i, are, first) = absurd (held_all name next none i are)
    missing name next none reads (NoRun (BadMap n)) (i, are, first) = absurd (held_all name next none i are)
    missing name next none reads (NoRun (BadScript n why)) (i, are, first) = absurd (held_all name next none i are)
    missing name next none reads (Stops p step address why) ((i, are, parts), stops) = absurd (held_all name next none i are)
    missing name next none reads (Ended p) ((i, are, parts), ends) = absurd (held_all name next none i are)

    -- Where the three files mean what a run takes, the verdict is that of its run, unless a read failed.
    completed : (i : Inputs) (p : Parts) → AreHeld r held i → AreParts i p → (Rose before.files.read_faults after.files.read_faults → ⊥) → (v : RunVerdict) → RunCause r before.files after.files v
        → ((run_status v ≡ 0) × GoesToEnd p) ⊎ ((run_status v ≡ 1) × (step : ℕ) × (address : ℕ) × (why : Why) × StopsAt p step address why)
    completed i p are parts reads (NoRun (FileUnread name NotHeld)) cause =
        let next : IsNext (names_of r) held name = at_told before.files held (λ h. IsNext (names_of r) h name) told cause.0 in
        let none : held name ≡ None = at_told before.files held (λ h. h name ≡ None) told cause.1 in
        absurd (not_readable held name none (named (IsReadable held) _ next.earlier next.later name next.order (all_readable r held i are)))
    completed i p are parts reads (NoRun (FileUnread name NotRead)) cause = absurd (reads cause.1.0)
    completed i p are parts reads (NoRun (FileUnread name TooLong)) cause =
        let next : IsNext (names_of r) held name = at_told before.files held (λ h. IsNext (names_of r) h name) told cause.0 in
        let long : IsLong held name = at_told before.files held (λ h. IsLong h name) told cause.1 in
        absurd (long_readable held name (named (IsReadable held) _ next.earlier next.later name next.order (all_readable r held i are)) long)
    completed i p are parts reads (NoRun (BadHex fault)) (j, are', first) = absurd (no_faults r held i j p (BadHex fault) are parts (inputs_at r before.files held j told are') first)
    completed i p are parts reads (NoRun (BadMap n)) (j, are', first) = absurd (no_faults r held i j p (BadMap n) are parts (inputs_at r before.files held j told are') first)
    completed i p are parts reads (NoRun (BadScript n why)) (j, are', first) = absurd (no_faults r held i j p (BadScript n why) are parts (inputs_at r before.files held j told are') first)
    completed i p are parts reads (Stops q step address why) ((j, are', parts'), stops) =
        inr (refl, step, address, why, subst (λ (x : Parts). StopsAt x step address why) (same_parts_of r held i p q are parts (j, inputs_at r before.files held j told are', parts')) stops)
    completed i p are parts reads (Ended q) ((j, are', parts'), ends) =
        inl (refl, subst GoesToEnd (same_parts_of r held i p q are parts (j, inputs_at r before.files held j told are', parts')) ends)

    by_end : (p : Parts) (v : RunVerdict) → (Rose before.out.put_faults after.out.put_faults → ⊥)
        → ((run_status v ≡ 0) × GoesToEnd p) ⊎ ((run_status v ≡ 1) × (step : ℕ) × (address : ℕ) × (why : Why) × StopsAt p step address why)
        → RunEnds before.out after.out (run_status v) (run_text v) status
        → ((status ≡ 0) × GoesToEnd p) ⊎ ((status ≡ 1) × (step : ℕ) × (address : ℕ) × (why : Why) × StopsAt p step address why) ⊎ (status ≡ 6)
    by_end p v puts (inl whole) (inl h) = inl (h.0 ∙ whole.0, whole.1)
    by_end p v puts (inr stops) (inl h) = inr (inl (h.0 ∙ stops.0, stops.1, stops.2, stops.3, stops.4))
    by_end p v puts known (inr (inl h)) = absurd (puts h.1)
    by_end p v puts known (inr (inr h)) = inr (inr h.0)

  run_one : Runs r before after status → status ≡ 1 → RunRefuses r before
  run_one h e = let v = verdict r before after status h (omega (arith, e)) in one v.0 v.1 e

  run_three : Runs r before after status → status ≡ 3 → IfTold before.files (λ held. (name : List ℕ) × IsNext (names_of r) held name × (held name ≡ None))
  run_three h e = let v = verdict r before after status h (omega (arith, e)) in three v.0 v.1 e

  run_missing : Runs r before after status → (held : Held) (name : List ℕ) → before.files.told ≡ Some held → IsNext (names_of r) held name → held name ≡ None → (Rose before.files.read_faults after.files.read_faults → ⊥) → DueOrYielded 3 status
  run_missing (keeps, inl h) held name told next none reads = inr (inr h.0)
  run_missing (keeps, inr (v, (cause, ends))) held name told next none reads =
      subst (λ (n : ℕ). DueOrYielded n status) (missing held told name next none reads v cause) (due _ _ _ _ _ ends)

  run_complete : Runs r before after status → (held : Held) (i : Inputs) (p : Parts) → before.files.told ≡ Some held → AreInputs r before.files i → AreParts i p
      → (Rose before.files.read_faults after.files.read_faults → ⊥) → (Rose before.out.put_faults after.out.put_faults → ⊥)
      → ((status ≡ 0) × GoesToEnd p) ⊎ ((status ≡ 1) × (step : ℕ) × (address : ℕ) × (why : Why) × StopsAt p step address why) ⊎ (status ≡ 6)
  run_complete (keeps, inl h) held i p told are parts reads puts = inr (inr h.0)
  run_complete (keeps, inr (v, (cause, ends))) held i p told are parts reads puts =
      by_end held told p v puts (completed held told i p (inputs_at r before.files held i told are) parts reads v cause) ends

  pub run_promises : Runs r before after status → RunPromises r before after status
  run_promises h = record {
    ends = h;
    done = run_done h;
    one = run_one h;
    three = ((λ is. run_three h is), λ held name told next none reads. run_missing h held name told next none reads);
    files = h.0;
    complete = run_complete h;
  }
