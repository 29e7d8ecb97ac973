-- What a call promises, from its verdict: of one text there is one verdict.
use Rattle.std.proofs.Common.{◌≡◌, ℕ, List, length, Some, None, inl, inr, refl, sym, ap, subst, ◌∙◌, arith}
use Rattle.edge_io.specs.Files.{KeepsFiles}
use Rattle.frp_tree.specs.Tree.{ProgramTree}
use Rattle.checked_source.specs.Readings.{Reading, Passing, Reads}
use Rattle.command_parts.specs.Lines.{IsRefused, refusal_line}
use Rattle.command_parts.specs.Outsides.{Outside}
use Rattle.command_parts.specs.Reads.{NotHeld, NotRead, TooLong, IsLong, IsUnread, OfSource}
use Rattle.command_parts.proofs.ToldLaws.{at_told}
use Rattle.where_tool.specs.Points.{PointsAt}
use Rattle.where_tool.specs.Promises.{Answers, IsHeld, Promises, Tells}
use Rattle.where_tool.specs.Spots.{IsReport}
use Rattle.where_tool.specs.Verdicts.{Asked, Verdict, Failed, Long, Pointed, Another, Faultless, Cause, Fits, TextCause}
use Rattle.where_tool.proofs.PointLaws.{is-some, one-point}
use Rattle.where_tool.proofs.SpotLaws.{one-report}

module _ (a : Asked) (text : List ℕ) where
  -- Where the line is that of the fault, its place is reported.
  pub is-pointed : (reading : Reading) (place : ℕ) (message report : List ℕ) → Reads text reading → Fits a (refusal_line reading) → PointsAt text reading place message → IsReport text a.source place message report
      → (v : Verdict) → TextCause a text v → v ≡ Pointed report
  is-pointed reading place message report reads fits points reported (Failed why) cause = absurd cause
  is-pointed reading place message report reads fits points reported Long cause = absurd cause
  is-pointed reading place message report reads fits points reported (Pointed other) (read, there, told, is, fitting, pointed, shown) =
      let same : reading ≡ read = is.1 reading reads in
      let alike = one-point text read there place told message pointed (subst (λ r. PointsAt text r place message) same points) in
      let moved = subst (λ p. IsReport text a.source p told other) alike.0 shown in
      ap Pointed (one-report text a.source place message other report (subst (λ m. IsReport text a.source place m other) alike.1 moved) reported)
  is-pointed reading place message report reads fits points reported (Another line) (read, is, refused, says, unfit) =
      let same : reading ≡ read = is.1 reading reads in absurd (unfit (fits ∙ ap refusal_line same ∙ sym says))
  is-pointed reading place message report reads fits points reported Faultless (p, is) =
      let same : reading ≡ Passing p = is.1 reading reads in absurd (subst (λ r. PointsAt text r place message) same points)

  -- Where it isn't, the fault's own line is told.
  pub is-another : (reading : Reading) → Reads text reading → IsRefused reading → (Fits a (refusal_line reading) → ⊥) → (v : Verdict) → TextCause a text v → v ≡ Another (refusal_line reading)
  is-another reading reads refused unfit (Failed why) cause = absurd cause
  is-another reading reads refused unfit Long cause = absurd cause
  is-another reading reads refused unfit (Pointed report) (read, place, message, is, fits, points, shown) =
      let same : reading ≡ read = is.1 reading reads in absurd (unfit (fits ∙ ap refusal_line (sym same)))
  is-another reading reads refused unfit (Another line) (read, is, bad, says, other) =
      let same : reading ≡ read = is.1 reading reads in ap Another (says ∙ ap refusal_line (sym same))
  is-another reading reads refused unfit Faultless (p, is) = let same : reading ≡ Passing p = is.1 reading reads in absurd (subst IsRefused same refused)

  -- And of a program that passes, that it has no fault.
  pub is-faultless : (p : ProgramTree) → Reads text (Passing p) → (v : Verdict) → TextCause a text v → v ≡ Faultless
  is-faultless p reads (Failed why) cause = absurd cause
  is-faultless p reads Long cause = absurd cause
  is-faultless p reads (Pointed report) (read, place, message, is, fits, points, shown) =
      let same : Passing p ≡ read = is.1 (Passing p) reads in absurd (subst (λ r. PointsAt text r place message) (sym same) points)
  is-faultless p reads (Another line) (read, is, refused, says, unfit) = let same : Passing p ≡ read = is.1 (Passing p) reads in absurd (subst IsRefused (sym same) refused)
  is-faultless p reads Faultless cause = refl

module _ (a : Asked) (before after : Outside) (status : ℕ) where
  -- The text of a source that is held is the one that was read.
  of-held : (text : List ℕ) → IsHeld before after a.source text → (P : List ℕ → Type 0) → OfSource a.source before.files P → P text
  of-held text held P has =
      let (other, there, p) = at_told before.files held.held (λ h. (t : List ℕ) × (h a.source ≡ Some t) × P t) held.told has in
      subst P (is-some other text (sym there ∙ held.is)) p

  not-missing : (text : List ℕ) → IsHeld before after a.source text → IsUnread a.source before.files after.files NotHeld → ⊥
  not-missing text held is =
      let none = at_told before.files held.held (λ h. h a.source ≡ None) held.told is in
      let no : None ≡ Some text = sym none ∙ held.is in absurd cc

  not-long : (text : List ℕ) → IsHeld before after a.source text → IsUnread a.source before.files after.files TooLong → ⊥
  not-long text held is =
      let (other, there, long) = at_told before.files held.held (λ h. IsLong h a.source) held.told is in
      let same : other ≡ text = is-some other text (sym there ∙ held.is) in
      let short = held.short in omega (arith, ap length same, long, short)

  text-cause : (text : List ℕ) → IsHeld before after a.source text → (v : Verdict) → Cause a before.files after.files v → TextCause a text v
  text-cause text held (Failed NotHeld) cause = not-missing text held cause
  text-cause text held (Failed NotRead) cause = held.unfailed cause.0
  text-cause text held (Failed TooLong) cause = cause
  text-cause text held Long cause = not-long text held cause.0
  text-cause text held (Pointed report) cause = of-held text held (λ t. TextCause a t (Pointed report)) cause
  text-cause text held (Another line) (inl cause) = absurd (not-long text held cause.0)
  text-cause text held (Another line) (inr cause) = of-held text held (λ t. TextCause a t (Another line)) cause
  text-cause text held Faultless cause = of-held text held (λ t. TextCause a t Faultless) cause

  -- So there is one verdict, which is told.
  one-verdict : (text : List ℕ) (want : Verdict) → IsHeld before after a.source text → ((v : Verdict) → TextCause a text v → v ≡ want) → Answers a before after status → Tells a before after want status
  one-verdict text want held only (inl none) = inr (inr none)
  one-verdict text want held only (inr (v, cause, tells)) = subst (λ w. Tells a before after w status) (only v (text-cause text held v cause)) tells

  pub promises : KeepsFiles before.files after.files → Answers a before after status → Promises a before after status
  promises files ends = record {
    files = files;
    ends = ends;
    pointed = λ text reading place message report held reads fits points reported. one-verdict text (Pointed report) held (is-pointed a text reading place message report reads fits points reported) ends;
    another = λ text reading held reads refused unfit. one-verdict text (Another (refusal_line reading)) held (is-another a text reading reads refused unfit) ends;
    faultless = λ text p held spells passes. one-verdict text Faultless held (is-faultless a text p (spells, passes)) ends;
  }
