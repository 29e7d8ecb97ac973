-- What each status of a `model` says, from how its call ends.
use Rattle.std.proofs.Common.{◌≡◌, ℕ, ◌<◌, ◌≤◌, List, Some, None, length, ◌⊎◌, inl, inr, ⊎_elim, arith, refl, ap, sym, ◌∙◌, subst}
use Rattle.std.specs.List.{AllByRecursion}
use Rattle.edge_io.specs.Files.{Held, FilesSeen, IfTold}
use Rattle.edge_io.specs.Sinks.{Appends}
use Rattle.edge_io.specs.Counts.{Rose}
use Rattle.frp_tree.specs.Tree.{ProgramTree}
use Rattle.checked_source.specs.Readings.{Passing, Reads, IsRead}
use Rattle.event_file.specs.Events.{first_unknown, told_events}
use Rattle.command_parts.specs.Outsides.{Outside}
use Rattle.command_parts.specs.Endings.{Ends, DueOrYielded}
use Rattle.command_parts.specs.Reads.{Unread, NotHeld, NotRead, TooLong, IsReadable, IsLong, IsNext}
use Rattle.command_parts.specs.Lines.{refusal_line}
use Rattle.frp_tool.specs.Models.{ModelRequest, names_of, ModelTexts, AreModelTexts, ModelFault, FileUnread, Refused, Unknown, TooMany, model_fault_status, model_fault_line, IsFirstModelFault, ModelVerdict, NoModel, Modelled, model_status, model_put, ModelCause, Models, ModelDone, ModelRefuses, ModelTells, ModelCompletes, ModelPromises}
use Rattle.command_parts.proofs.ToldLaws.{if_both, at_told}
use Rattle.command_parts.proofs.EndingLaws.{ends_as, line_due, line_settled}
use Rattle.frp_tool.proofs.NextFacts.{IsHeldInput, named, one_next, not_readable, long_readable, not_long}
use Rattle.frp_tool.proofs.SourceLaws.{fits}

-- A text is read as one program.
same_program : (text : List ℕ) (p q : ProgramTree) → IsRead text (Passing q) → Reads text (Passing p) → q ≡ p
same_program text p q read reads = let e : Passing p ≡ Passing q = read.1 (Passing p) reads in cc

-- Where there is a model of the bytes, they have no fault.
no_fault : (t : ModelTexts) (p : ProgramTree) → Reads t.source (Passing p) → first_unknown p t.events ≡ None → length (told_events t.events) ≤ 10000 → (fault : ModelFault) → IsFirstModelFault t fault → ⊥
no_fault t p reads known few (FileUnread name why) is = is
no_fault t p reads known few (Refused reading) is = fits t.source p reading reads is.0 is.1
no_fault t p reads known few (Unknown n) (q, read, unknown) =
    let unknown' : first_unknown p t.events ≡ Some n = subst (λ (x : ProgramTree). first_unknown x t.events ≡ Some n) (same_program t.source p q read reads) unknown in cc
no_fault t p reads known few TooMany (q, read, many) = omega (arith, few, many.1)

-- Two first faults have one line.
one_fault : (t : ModelTexts) (f g : ModelFault) → IsFirstModelFault t f → IsFirstModelFault t g → model_fault_line f ≡ model_fault_line g
one_fault t (FileUnread name why) g is is' = absurd is
one_fault t (Refused x) (FileUnread name why) is is' = absurd is'
one_fault t (Refused x) (Refused y) is is' = ap refusal_line (sym (is.0.1 y is'.0.0))
one_fault t (Refused x) (Unknown n) is (q, read, unknown) = absurd (fits t.source q x read.0 is.0 is.1)
one_fault t (Refused x) TooMany is (q, read, many) = absurd (fits t.source q x read.0 is.0 is.1)
one_fault t (Unknown n) (FileUnread name why) is is' = absurd is'
one_fault t (Unknown n) (Refused y) (p, read, unknown) is' = absurd (fits t.source p y read.0 is'.0 is'.1)
one_fault t (Unknown n) (Unknown m) (p, read, unknown) (q, read', unknown') =
    let other : first_unknown p t.events ≡ Some m = subst (λ (x : ProgramTree). first_unknown x t.events ≡ Some m) (same_program t.source p q read' read.0) unknown' in
    let same : n ≡ m = cc in ap (λ (k : ℕ). model_fault_line (Unknown k)) same
one_fault t (Unknown n) TooMany (p, read, unknown) (q, read', many) =
    let none : first_unknown p t.events ≡ None = subst (λ (x : ProgramTree). first_unknown x t.events ≡ None) (same_program t.source p q read' read.0) many.0 in absurd cc
one_fault t TooMany (FileUnread name why) is is' = absurd is'
one_fault t TooMany (Refused y) (p, read, many) is' = absurd (fits t.source p y read.0 is'.0 is'.1)
one_fault t TooMany (Unknown m) (p, read, many) (q, read', unknown) =
    let none : first_unknown q t.events ≡ None = subst (λ (x : ProgramTree). first_unknown x t.events ≡ None) (same_program t.source q p read read'.0) many.0 in absurd cc
one_fault t TooMany TooMany is is' = refl

-- A fault has no other status than 1, 3 and 4.
not_fault : (fault : ModelFault) (n : ℕ) → model_fault_status fault ≡ n → (n ≡ 0) ⊎ (n ≡ 2) ⊎ (n ≡ 5) → ⊥
not_fault (FileUnread name NotHeld) n e other = omega (arith, e, other)
not_fault (FileUnread name NotRead) n e other = omega (arith, e, other)
not_fault (FileUnread name TooLong) n e other = omega (arith, e, other)
not_fault (Refused reading) n e other = omega (arith, e, other)
not_fault (Unknown line) n e other = omega (arith, e, other)
not_fault TooMany n e other = omega (arith, e, other)

-- The bytes of both files, where the files that are held are told.
abbrev AreHeldTexts : ModelRequest → Held → ModelTexts → Type 0
AreHeldTexts r held t = IsHeldInput r.source held t.source × IsHeldInput r.events held t.events

texts_at : (r : ModelRequest) (seen : FilesSeen) (held : Held) (t : ModelTexts) → seen.told ≡ Some held → AreModelTexts r seen t → AreHeldTexts r held t
texts_at r seen held t told (source, events) = (
  (at_told seen held (λ h. h r.source ≡ Some t.source) told source.0, source.1),
  (at_told seen held (λ h. h r.events ≡ Some t.events) told events.0, events.1),
)

all_readable : (r : ModelRequest) (held : Held) (t : ModelTexts) → AreHeldTexts r held t → AllByRecursion (IsReadable held) (names_of r)
all_readable r held t are = ((t.source, are.0.0, are.0.1), ((t.events, are.1.0, are.1.1), tt))

same_texts : (r : ModelRequest) (held : Held) (t u : ModelTexts) → AreHeldTexts r held t → AreHeldTexts r held u → t ≡ u
same_texts r held t u a b =
    let s : held r.source ≡ Some t.source = a.0.0 in let s' : held r.source ≡ Some u.source = b.0.0 in let source : t.source ≡ u.source = cc in
    let e : held r.events ≡ Some t.events = a.1.0 in let e' : held r.events ≡ Some u.events = b.1.0 in let events : t.events ≡ u.events = cc in
    λ k. record { source = source k; events = events k }

module _ (r : ModelRequest) (before after : Outside) (status : ℕ) where
  -- A verdict that comes, with its status and its text.
  abbrev Settles : ModelVerdict → Type 0
  Settles v = ModelCause r before.files after.files v × (status ≡ model_status v) × Appends before.out.taken after.out.taken (model_put v)

  verdict : Models r before after status → status < 5 → (v : ModelVerdict) × Settles v
  verdict (keeps, inl h) small = absurd (omega (arith, h.0))
  verdict (keeps, inr (v, cause, ends)) small = let s = line_settled _ _ _ _ _ ends small in (v, (cause, s.0, s.1))

  not_due : (v : ModelVerdict) (n : ℕ) → model_status v ≡ n → (n ≡ 2) ⊎ (n ≡ 5) → ⊥
  not_due (NoModel fault) n is other = not_fault fault n is (inr other)
  not_due (Modelled p text) n is other = omega (arith, is, other)

  pub model_not_two : Models r before after status → status ≡ 2 → ⊥
  model_not_two h e = let v = verdict h (omega (arith, e)) in not_due v.0 2 (sym v.1.1 ∙ e) (inl refl)

  done_by : (v : ModelVerdict) → Settles v → status ≡ 0 → ModelDone r before after
  done_by (NoModel fault) (cause, is, put) e = absurd (not_fault fault 0 (sym is ∙ e) (inl refl))
  done_by (Modelled p text) (cause, is, put) e = (p, text, cause, put)

  one_only : (v : ModelVerdict) → Settles v → status ≡ 1 → ModelRefuses r before after
  one_only (NoModel (FileUnread name NotHeld)) (cause, is, put) e = absurd (omega (arith, is, e))
  one_only (NoModel (FileUnread name NotRead)) (cause, is, put) e = absurd (omega (arith, is, e))
  one_only (NoModel (FileUnread name TooLong)) (cause, is, put) e = inl (if_both before.files _ _ _ (λ held next long. (name, next, long)) cause.0 cause.1)
  one_only (NoModel (Refused reading)) ((t, are, first), is, put) e = inr (t, are, Refused reading, first, put)
  one_only (NoModel (Unknown n)) ((t, are, first), is, put) e = inr (t, are, Unknown n, first, put)
  one_only (NoModel TooMany) ((t, are, first), is, put) e = inr (t, are, TooMany, first, put)
  one_only (Modelled p text) (cause, is, put) e = absurd (omega (arith, is, e))

  three_only : (v : ModelVerdict) → Settles v → status ≡ 3 → IfTold before.files (λ held. (name : List ℕ) × IsNext (names_of r) held name × (held name ≡ None))
  three_only (NoModel (FileUnread name NotHeld)) (cause, is, put) e = if_both before.files _ _ _ (λ held next none. (name, next, none)) cause.0 cause.1
  three_only (NoModel (FileUnread name NotRead)) (cause, is, put) e = absurd (omega (arith, is, e))
  three_only (NoModel (FileUnread name TooLong)) (cause, is, put) e = absurd (omega (arith, is, e))
  three_only (NoModel (Refused reading)) (cause, is, put) e = absurd (omega (arith, is, e))
  three_only (NoModel (Unknown n)) (cause, is, put) e = absurd (omega (arith, is, e))
  three_only (NoModel TooMany) (cause, is, put) e = absurd (omega (arith, is, e))
  three_only (Modelled p text) (cause, is, put) e = absurd (omega (arith, is, e))

  four_only : (v : ModelVerdict) → Settles v → status ≡ 4 → Rose before.files.read_faults after.files.read_faults
  four_only (NoModel (FileUnread name NotHeld)) (cause, is, put) e = absurd (omega (arith, is, e))
  four_only (NoModel (FileUnread name NotRead)) (cause, is, put) e = cause.1.0
  four_only (NoModel (FileUnread name TooLong)) (cause, is, put) e = absurd (omega (arith, is, e))
  four_only (NoModel (Refused reading)) (cause, is, put) e = absurd (omega (arith, is, e))
  four_only (NoModel (Unknown n)) (cause, is, put) e = absurd (omega (arith, is, e))
  four_only (NoModel TooMany) (cause, is, put) e = absurd (omega (arith, is, e))
  four_only (Modelled p text) (cause, is, put) e = absurd (omega (arith, is, e))

  pub model_four : Models r before after status → status ≡ 4 → Rose before.files.read_faults after.files.read_faults
  model_four h e = let v = verdict h (omega (arith, e)) in four_only v.0 v.1 e

  pub model_five : Models r before after status → status ≡ 5 → Rose before.out.put_faults after.out.put_faults
  model_five (keeps, inl h) e = absurd (omega (arith, h.0))
  model_five (keeps, inr (v, cause, inl h)) e = absurd (not_due v 5 (sym h.0 ∙ e) (inr refl))
  model_five (keeps, inr (v, cause, inr (inl h))) e = h.1
  model_five (keeps, inr (v, cause, inr (inr h))) e = absurd (omega (arith, h.0))

  -- Where files are told, and no read fault was counted.
  module _ (held : Held) (told : before.files.told ≡ Some held) (unread : Rose before.files.read_faults after.files.read_faults → ⊥) where
    held_all : (name : List ℕ) → IsNext (names_of r) held name → held name ≡ None → (t : ModelTexts) → AreModelTexts r before.files t → ⊥
    held_all name next none t are =
        not_readable held name none (named (IsReadable held) _ next.earlier next.later name next.order (all_readable r held t (texts_at r before.files held t told are)))

    -- Where the name that is next isn't held, that is the verdict.
    missing : (name : List ℕ) → IsNext (names_of r) held name → held name ≡ None → (v : ModelVerdict) → ModelCause r before.files after.files v → model_status v ≡ 3
    missing name next none (NoModel (FileUnread other NotHeld)) cause = refl
    missing name next none (NoModel (FileUnread other NotRead)) cause = absurd (unread cause.1.0)
    missing name next none (NoModel (FileUnread other TooLong)) cause =
        let next' : IsNext (names_of r) held other = at_told before.files held (λ h. IsNext (names_of r) h other) told cause.0 in
        let long : IsLong held other = at_told before.files held (λ h. IsLong h other) told cause.1 in
        absurd (⊎_elim
        (λ (e : name ≡ other). not_long held name none (subst (IsLong held) (sym e) long))
        (λ rest. ⊎_elim (λ is. not_readable held name none is) (λ is. long_readable held other is long) rest)
        (one_next (IsReadable held) next.earlier next'.earlier next.later next'.later name other (sym next.order ∙ next'.order) next.readable next'.readable))
    missing name next none (NoModel (Refused reading)) (t, are, first) = absurd (held_all name next none t are)
    missing name next none (NoModel (Unknown n)) (t, are, first) = absurd (held_all name next none t are)
    missing name next none (NoModel TooMany) (t, are, first) = absurd (held_all name next none t are)
    missing name next none (Modelled p text) (t, are, model) = absurd (held_all name next none t are)

    module _ (t : ModelTexts) (are : AreModelTexts r before.files t) where
      here : AreHeldTexts r held t
      here = texts_at r before.files held t told are

      moved : (P : ModelTexts → Type 0) (u : ModelTexts) → AreModelTexts r before.files u → P u → P t
      moved P u are' is = subst P (same_texts r held u t (texts_at r before.files held u told are') here) is

      -- Both files were read.
      all_read : (name : List ℕ) (why : Unread) → ModelCause r before.files after.files (NoModel (FileUnread name why)) → ⊥
      all_read name NotHeld cause =
          let next : IsNext (names_of r) held name = at_told before.files held (λ h. IsNext (names_of r) h name) told cause.0 in
          let none : held name ≡ None = at_told before.files held (λ h. h name ≡ None) told cause.1 in
          not_readable held name none (named (IsReadable held) _ next.earlier next.later name next.order (all_readable r held t here))
      all_read name NotRead cause = unread cause.1.0
      all_read name TooLong cause =
          let next : IsNext (names_of r) held name = at_told before.files held (λ h. IsNext (names_of r) h name) told cause.0 in
          let long : IsLong held name = at_told before.files held (λ h. IsLong h name) told cause.1 in
          long_readable held name (named (IsReadable held) _ next.earlier next.later name next.order (all_readable r held t here)) long

      -- A first fault of the bytes is the verdict's.
      fault_due : (fault : ModelFault) → IsFirstModelFault t fault → (v : ModelVerdict) → ModelCause r before.files after.files v → (model_status v ≡ 1) × (model_put v ≡ model_fault_line fault)
      fault_due fault first (NoModel (FileUnread name why)) cause = absurd (all_read name why cause)
      fault_due fault first (NoModel (Refused reading)) (u, are', is) = (refl, one_fault t (Refused reading) fault (moved (λ x. IsFirstModelFault x (Refused reading)) u are' is) first)
      fault_due fault first (NoModel (Unknown n)) (u, are', is) = (refl, one_fault t (Unknown n) fault (moved (λ x. IsFirstModelFault x (Unknown n)) u are' is) first)
      fault_due fault first (NoModel TooMany) (u, are', is) = (refl, one_fault t TooMany fault (moved (λ x. IsFirstModelFault x TooMany) u are' is) first)
      fault_due fault first (Modelled p text) (u, are', model) =
          let none = no_fault u p model.read.0 model.known model.few in
          absurd (none fault (subst (λ (x : ModelTexts). IsFirstModelFault x fault) (same_texts r held t u here (texts_at r before.files held u told are')) first))

      -- Bytes without a fault have a model.
      modelled : (p : ProgramTree) → Reads t.source (Passing p) → first_unknown p t.events ≡ None → length (told_events t.events) ≤ 10000 → (v : ModelVerdict) → ModelCause r before.files after.files v → model_status v ≡ 0
      modelled p reads known few (NoModel (FileUnread name why)) cause = absurd (all_read name why cause)
      modelled p reads known few (NoModel (Refused reading)) (u, are', is) = absurd (no_fault t p reads known few (Refused reading) (moved (λ x. IsFirstModelFault x (Refused reading)) u are' is))
      modelled p reads known few (NoModel (Unknown n)) (u, are', is) = absurd (no_fault t p reads known few (Unknown n) (moved (λ x. IsFirstModelFault x (Unknown n)) u are' is))
      modelled p reads known few (NoModel TooMany) (u, are', is) = absurd (no_fault t p reads known few TooMany (moved (λ x. IsFirstModelFault x TooMany) u are' is))
      modelled p reads known few (Modelled q text) cause = refl

  misses : Models r before after status → (held : Held) (name : List ℕ) → before.files.told ≡ Some held → IsNext (names_of r) held name → held name ≡ None → (Rose before.files.read_faults after.files.read_faults → ⊥) → DueOrYielded 3 status
  misses (keeps, inl h) held name told next none unread = inr (inr h.0)
  misses (keeps, inr (v, cause, ends)) held name told next none unread =
      subst (λ (n : ℕ). DueOrYielded n status) (missing held told unread name next none v cause) (line_due _ _ _ _ _ ends)

  tells : Models r before after status → ModelTells r before after status
  tells (keeps, inl h) held t fault told are first unread = inr (inr h)
  tells (keeps, inr (v, cause, ends)) held t fault told are first unread = ends_as _ _ _ _ _ _ status (fault_due held told unread t are fault first v cause) ends

  by_end : (v : ModelVerdict) → model_status v ≡ 0 → (Rose before.out.put_faults after.out.put_faults → ⊥) → Ends before.out after.out (model_status v) (model_put v) status → (status ≡ 0) ⊎ (status ≡ 6)
  by_end v zero puts (inl g) = inl (g.0 ∙ zero)
  by_end v zero puts (inr (inl g)) = absurd (puts g.1)
  by_end v zero puts (inr (inr g)) = inr g.0

  completes : Models r before after status → ModelCompletes r before after status
  completes (keeps, inl h) held t p told are spells passes known few unread puts = inr h.0
  completes (keeps, inr (v, cause, ends)) held t p told are spells passes known few unread puts =
      by_end v (modelled held told unread t are p (spells, passes) known few v cause) puts ends

  pub model_promises : Models r before after status → ModelPromises r before after status
  model_promises h = record {
    ends = h;
    done = λ e. let v = verdict h (omega (arith, e)) in done_by v.0 v.1 e;
    one = λ e. let v = verdict h (omega (arith, e)) in one_only v.0 v.1 e;
    told = tells h;
    three = ((λ e. let v = verdict h (omega (arith, e)) in three_only v.0 v.1 e), misses h);
    files = h.0;
    complete = completes h;
  }
