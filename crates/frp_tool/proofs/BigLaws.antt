-- What each status of a `big` says, from how its call ends.
use Rattle.std.proofs.Common.{◌≡◌, ℕ, ◌<◌, List, ◌⊎◌, inl, inr, arith, refl, sym, ◌∙◌}
use Rattle.edge_io.specs.Files.{BothTold, KeepsFiles}
use Rattle.edge_io.specs.Sinks.{Appends}
use Rattle.edge_io.specs.Counts.{Rose}
use Rattle.command_parts.specs.Outsides.{Outside}
use Rattle.command_parts.specs.Endings.{Ends}
use Rattle.frp_tool.specs.Bigs.{BigRequest, BigVerdict, HexFailed, MapFailed, Done, big_status, big_lines, BigCause, BigLeft, BigCut, OthersAsBefore, Bigs, BigDone, BigCompletes, BigPromises}
use Rattle.command_parts.proofs.ToldLaws.{both_map}
use Rattle.command_parts.proofs.EndingLaws.{line_settled}

module _ (r : BigRequest) (before after : Outside) (status : ℕ) where
  -- A status is that of the verdict, 0 or 5, or it is 5 or 6.
  by_due : (v : BigVerdict r.number) → status ≡ big_status v → (status ≡ 0) ⊎ ((status ≡ 5) ⊎ (status ≡ 6))
  by_due HexFailed is = inr (inl is)
  by_due (MapFailed f) is = inr (inl is)
  by_due (Done f) is = inl is

  pub big_statuses : Bigs r before after status → (status ≡ 0) ⊎ ((status ≡ 5) ⊎ (status ≡ 6))
  big_statuses (inl h) = inr (inr h.0)
  big_statuses (inr (v, cause, left, inl h)) = by_due v h.0
  big_statuses (inr (v, cause, left, inr (inl h))) = inr (inl h.0)
  big_statuses (inr (v, cause, left, inr (inr h))) = inr (inr h.0)

  outside_only : (status ≡ 0) ⊎ ((status ≡ 5) ⊎ (status ≡ 6)) → 0 < status → status < 5 → ⊥
  outside_only (inl h) some small = omega (arith, h, some)
  outside_only (inr (inl h)) some small = omega (arith, h, small)
  outside_only (inr (inr h)) some small = omega (arith, h, small)

  -- It is none from 1 to 4.
  pub big_never : Bigs r before after status → 0 < status → status < 5 → ⊥
  big_never h some small = outside_only (big_statuses h) some small

  due_five : (v : BigVerdict r.number) → BigCause r before.files after.files v → big_status v ≡ 5 → Rose before.files.write_faults after.files.write_faults
  due_five HexFailed cause e = cause
  due_five (MapFailed f) cause e = cause
  due_five (Done f) cause e = absurd (omega (arith, e))

  pub big_five : Bigs r before after status → status ≡ 5 → Rose before.files.write_faults after.files.write_faults ⊎ Rose before.out.put_faults after.out.put_faults
  big_five (inl h) e = absurd (omega (arith, h.0))
  big_five (inr (v, cause, left, inl h)) e = inl (due_five v cause (sym h.0 ∙ e))
  big_five (inr (v, cause, left, inr (inl h))) e = inr h.1
  big_five (inr (v, cause, left, inr (inr h))) e = absurd (omega (arith, h.0))

  others : (v : BigVerdict r.number) → BigLeft r before.files after.files v → BothTold before.files after.files (OthersAsBefore r)
  others HexFailed left = both_map before.files after.files _ _ (λ old new same name one two. same name one) left
  others (MapFailed f) left = both_map before.files after.files _ _ (λ old new h. h.1) left
  others (Done f) left = both_map before.files after.files _ _ (λ old new h. h.2) left

  cut_others : BigCut r before.files after.files → BothTold before.files after.files (OthersAsBefore r)
  cut_others (inl keeps) = both_map before.files after.files _ _ (λ old new same name one two. same name) keeps
  cut_others (inr part) = both_map before.files after.files _ _ (λ old new h name one two. h.1 name one) part.1

  big_others : Bigs r before after status → BothTold before.files after.files (OthersAsBefore r)
  big_others (inl h) = cut_others h.2
  big_others (inr (v, cause, left, ends)) = others v left

  done_by : (v : BigVerdict r.number) → BigLeft r before.files after.files v → status ≡ big_status v → Appends before.out.taken after.out.taken (big_lines r v) → status ≡ 0 → BigDone r before after
  done_by HexFailed left is put e = absurd (omega (arith, is, e))
  done_by (MapFailed f) left is put e = absurd (omega (arith, is, e))
  done_by (Done f) left is put e = (f.hex, f.map, f.image, f.is_firmware, f.is_scheduled, f.means, left, put, f.reacted)

  big_done : Bigs r before after status → status ≡ 0 → BigDone r before after
  big_done (inl h) e = absurd (omega (arith, h.0, e))
  big_done (inr (v, cause, left, ends)) e = let s = line_settled _ _ _ _ _ ends (omega (arith, e)) in done_by v left s.0 s.1 e

  -- A verdict other than that all was done has a fault of a write.
  all_done : (Rose before.files.write_faults after.files.write_faults → ⊥) → (v : BigVerdict r.number) → BigCause r before.files after.files v → big_status v ≡ 0
  all_done writes HexFailed cause = absurd (writes cause)
  all_done writes (MapFailed f) cause = absurd (writes cause)
  all_done writes (Done f) cause = refl

  by_end : (v : BigVerdict r.number) → big_status v ≡ 0 → (Rose before.out.put_faults after.out.put_faults → ⊥) → Ends before.out after.out (big_status v) (big_lines r v) status → (status ≡ 0) ⊎ (status ≡ 6)
  by_end v zero puts (inl g) = inl (g.0 ∙ zero)
  by_end v zero puts (inr (inl g)) = absurd (puts g.1)
  by_end v zero puts (inr (inr g)) = inr g.0

  completes : Bigs r before after status → BigCompletes before after status
  completes (inl h) writes puts = inr h.0
  completes (inr (v, cause, left, ends)) writes puts = by_end v (all_done writes v cause) puts ends

  pub big_promises : Bigs r before after status → BigPromises r before after status
  big_promises h = record { ends = h; done = big_done h; statuses = big_statuses h; files = big_others h; complete = completes h }
