-- What is told of a source that wasn't read, of a text, and of its fault.
use Rattle.std.proofs.Common.{◌≡◌, ℕ, List, ◌++◌, Option, Some, None, Result, Ok, Err, IfSome, String, string_bytes, codes, inl, inr, sym, subst, ◌∙◌, arith}
use Rattle.std.specs.declared.alloc.Global.{Global}
use Rattle.std.specs.Result.{IsErrAnd}
use Rattle.edge_io.specs.Files.{FilesSeen}
use Rattle.checked_source.specs.declared.faults.SourceFault.{SourceFault}
use Rattle.checked_source.specs.declared.faults.SourceFault.TheVariants as fault
use Rattle.checked_source.specs.Readings.{Reading, Faulty, Misused, Cyclic, Found, IsRead}
use Rattle.command_parts.specs.declared.halts.Halt.{Halt}
use Rattle.command_parts.specs.declared.halts.Halt.TheVariants.{Said, Memory}
use Rattle.command_parts.specs.Lines.{IsRefused}
use Rattle.command_parts.specs.Reads.{Unread, NotHeld, NotRead, TooLong, unread_status, unread_line, IsUnread, IsInput, OfSource}
use Rattle.command_parts.proofs.ToldLaws.{if_map}
use Rattle.where_tool.specs.declared.verdicts.Told.{Told}
use Rattle.where_tool.specs.PointParts.{reading_of}
use Rattle.where_tool.specs.VerdictParts.{IsVerdict, OfText, Works}
use Rattle.where_tool.specs.Verdicts.{Asked, Failed, Long, Pointed, Another, Faultless, TextCause}
use Rattle.where_tool.proofs.PointLaws.{is-some}

module _ (a : Asked) (before after : FilesSeen) where
  -- A source that wasn't read, since it isn't there or the read failed.
  pub unread-halts : (why : Unread) (status : ℕ) (line : String Global) → (status ≡ 1 → ⊥) → IsUnread a.source before after why → status ≡ unread_status why → string_bytes line ≡ unread_line a.source why
      → Works a before after (Err (Said status line))
  unread-halts NotHeld status line other is due says = (Failed NotHeld, is, due, says)
  unread-halts NotRead status line other is due says = (Failed NotRead, is, due, says)
  unread-halts TooLong status line other is due says = absurd (other due)

  -- One that is too long: that was told, or another line.
  pub told-long : (why : Unread) (status : ℕ) (line : List ℕ) (told : Told) → status ≡ 1 → IsUnread a.source before after why → status ≡ unread_status why → line ≡ unread_line a.source why
      → a.line ++ codes "\n" ≡ line → IsVerdict a Long told → Works a before after (Ok told)
  told-long NotHeld status line told one is due says fits verdict = absurd (omega (arith, one, due))
  told-long NotRead status line told one is due says fits verdict = absurd (omega (arith, one, due))
  told-long TooLong status line told one is due says fits verdict = (Long, (is, fits ∙ says), verdict)

  pub told-another : (why : Unread) (status : ℕ) (line : List ℕ) (told : Told) → status ≡ 1 → IsUnread a.source before after why → status ≡ unread_status why → line ≡ unread_line a.source why
      → (a.line ++ codes "\n" ≡ line → ⊥) → IsVerdict a (Another line) told → Works a before after (Ok told)
  told-another NotHeld status line told one is due says unfit verdict = absurd (omega (arith, one, due))
  told-another NotRead status line told one is due says unfit verdict = absurd (omega (arith, one, due))
  told-another TooLong status line told one is due says unfit verdict = (Another line, inl (is, says, unfit), verdict)

  -- One that was read.
  source-of : (P : List ℕ → Type 0) (text : List ℕ) → IsInput a.source before text → P text → OfSource a.source before P
  source-of P text is p = if_map before (λ held. held a.source ≡ Some text) (λ held. (t : List ℕ) × (held a.source ≡ Some t) × P t) (λ held there. (text, there, p)) is.0

  pub of-text : (text slice : List ℕ) (told : Told) → IsInput a.source before text → slice ≡ text → OfText a slice told → Works a before after (Ok told)
  of-text text slice told is same (Failed why, cause, verdict) = absurd cause
  of-text text slice told is same (Long, cause, verdict) = absurd cause
  of-text text slice told is same (Pointed report, cause, verdict) =
      (Pointed report, source-of (λ t. TextCause a t (Pointed report)) text is (subst (λ t. TextCause a t (Pointed report)) same cause), verdict)
  of-text text slice told is same (Another line, cause, verdict) =
      (Another line, inr (source-of (λ t. TextCause a t (Another line)) text is (subst (λ t. TextCause a t (Another line)) same cause)), verdict)
  of-text text slice told is same (Faultless, cause, verdict) =
      (Faultless, source-of (λ t. TextCause a t Faultless) text is (subst (λ t. TextCause a t Faultless) same cause), verdict)

-- A text with this fault is read as it.
pub read-fault : (text : List ℕ) (found : SourceFault) (reading : Reading) → reading_of found ≡ Some reading → Found text (Err found) → IsRead text reading × IsRefused reading
read-fault text (fault.Syntax told) reading is read = subst (λ (r : Reading). IsRead text r × IsRefused r) (is-some (Faulty told) reading is) (read, tt)
read-fault text (fault.Check told) reading is read = subst (λ (r : Reading). IsRead text r × IsRefused r) (is-some (Misused told) reading is) (read, tt)
read-fault text (fault.Cycle event name) reading is read = subst (λ (r : Reading). IsRead text r × IsRefused r) (is-some (Cyclic event name) reading is) (read, tt)
read-fault text fault.Memory reading is read = let no : None ≡ Some reading = is in absurd cc

-- What holds of what is there holds of it.
pub at-some : {A : Type 0} (P : A → Type 0) (o : Option A) (x : A) → o ≡ Some x → IfSome o P → P x
at-some {A = A} P o x is good = subst (λ (q : Option A). IfSome q P) is good

-- A halt since memory ran out says nothing.
pub works-memory : (a : Asked) (before after : FilesSeen) (r : Result Told Halt) → IsErrAnd r (λ halt. halt ≡ Memory) → Works a before after r
works-memory a before after (Ok told) is = absurd is
works-memory a before after (Err why) is = subst (λ (h : Halt). Works a before after (Err h)) (sym is) tt
