-- Where a line begins and ends, and what is shown of it, byte by byte.
use Rattle.std.proofs.Common.{◌≡◌, ◌≢◌, ℕ, suc, ◌+◌, ◌-◌, ◌<◌, ◌≤◌, ◌==◌, Bool, true, false, not, List, [], ◌∷◌, ◌++◌, length, map, take, drop, get_or, count_by, inl, inr, refl, sym, ap, subst, ◌∙◌, arith, add-one, if◌then◌else◌}
use Rattle.std.specs.Prelude.{codes}
use Rattle.std.specs.List.{AllByRecursion}
use Rattle.std.proofs.Math.Seq.{take-append_seam, drop-append_seam}
use Rattle.std.proofs.lemmas.Bool.{eqb-true, false≢true}
use Rattle.std.proofs.lemmas.List.{append-nil, append_assoc, length-append, length-take-le, map-append, take-append-drop, take_all, take_more, length-drop}
use Rattle.std.proofs.lemmas.List.Elements.{filter-append}
use Rattle.where_tool.specs.Spots.{AreLines, IsSpot, head_line, margin, pad, report_of, shown}
use Rattle.where_tool.specs.SpotParts.{IsLineStart, IsRestOfLine}

-- Bytes are whole lines, and a part of a line that begins here.
pub record HasLines (bytes : List ℕ) (start : ℕ) : Type 0 where
  pub above : List ℕ
  pub front : List ℕ
  pub whole : bytes ≡ above ++ front
  pub long : length above ≡ start
  pub lines : AreLines above
  pub in_line : AllByRecursion (λ b. b ≢ 10) front

pub no-lines-yet : HasLines [] 0
no-lines-yet = record { above = []; front = []; whole = refl; long = refl; lines = inl refl; in_line = tt }

in-line-more : (front : List ℕ) (b : ℕ) → AllByRecursion (λ b. b ≢ 10) front → b ≢ 10 → AllByRecursion (λ b. b ≢ 10) (front ++ b ∷ [])
in-line-more [] b in_line other = (other, tt)
in-line-more (x ∷ front) b in_line other = (in_line.0, in-line-more front b in_line.1 other)

pub byte-more : (bytes : List ℕ) (b behind start next : ℕ) → behind ≡ length bytes + 1 → next ≡ (if b == 10 then behind else start) → HasLines bytes start → HasLines (bytes ++ b ∷ []) next
byte-more bytes b behind start next long is h = by_test (b == 10) refl is
  where
    by_test : (t : Bool) → (b == 10) ≡ t → next ≡ (if t then behind else start) → HasLines (bytes ++ b ∷ []) next
    by_test true e n = record {
      above = bytes ++ b ∷ [];
      front = [];
      whole = sym (append-nil (bytes ++ b ∷ []));
      long = length-append bytes (b ∷ []) ∙ sym long ∙ sym n;
      lines = inr (bytes, ap (λ x. bytes ++ x ∷ []) (eqb-true b 10 e));
      in_line = tt;
    }
    by_test false e n = record {
      above = h.above;
      front = h.front ++ b ∷ [];
      whole = ap (λ ys. ys ++ b ∷ []) h.whole ∙ append_assoc h.above h.front (b ∷ []);
      long = h.long ∙ sym n;
      lines = h.lines;
      in_line = in-line-more h.front b h.in_line (λ ten. false≢true (sym e ∙ ap (λ x. x == 10) ten));
    }

-- A step of the loop over the bytes.
pub lines-more : (bytes : List ℕ) (i start next : ℕ) → i < length bytes → next ≡ (if get_or bytes i 0 == 10 then i + 1 else start) → HasLines (take i bytes) start → HasLines (take (i + 1) bytes) next
lines-more bytes i start next less is h =
    let long : length (take i bytes) ≡ i = length-take-le i bytes (omega (arith, less)) in
    subst (λ ys. HasLines ys next) (sym (take_more bytes i 0 less)) (byte-more (take i bytes) (get_or bytes i 0) (i + 1) start next (ap (λ n. n + 1) (sym long)) is h)

pub line-start : (bytes : List ℕ) (start : ℕ) → HasLines bytes start → IsLineStart bytes start
line-start bytes start h =
    let above : take start bytes ≡ h.above = ap (take start) h.whole ∙ ap (λ n. take n (h.above ++ h.front)) (sym h.long) ∙ take-append_seam h.above h.front in
    let front : drop start bytes ≡ h.front = ap (drop start) h.whole ∙ ap (λ n. drop n (h.above ++ h.front)) (sym h.long) ∙ drop-append_seam h.above h.front in
    record {
      within = omega (arith, ap length h.whole, length-append h.above h.front, h.long);
      lines = subst AreLines (sym above) h.lines;
      in_line = subst (λ ys. AllByRecursion (λ b. b ≢ 10) ys) (sym front) h.in_line;
    }

-- What is cut off from a place on is what stands there.
pub rest-whole : (bytes : List ℕ) (from : ℕ) → take (length bytes - from) (drop from bytes) ≡ drop from bytes
rest-whole bytes from = take_all (length bytes - from) (drop from bytes) (omega (arith, length-drop from bytes))

-- The spot of a place.
pub spot-at : (text : List ℕ) (place start above : ℕ) (back : List ℕ) → place ≤ length text → IsLineStart (take place text) start → above ≡ count_by (λ b. b == 10) (take start (take place text))
    → IsRestOfLine (drop place text) back → IsSpot text place (above + 1) (drop start (take place text)) back
spot-at text place start above back less s count r =
    let cut : take start (take place text) ++ drop start (take place text) ≡ take place text = take-append-drop start (take place text) in
    record {
      above = take start (take place text);
      below = r.below;
      whole =
          sym (take-append-drop place text) ∙ ap (λ ys. ys ++ drop place text) (sym cut) ∙ append_assoc (take start (take place text)) (drop start (take place text)) (drop place text)
          ∙ ap (λ ys. take start (take place text) ++ (drop start (take place text) ++ ys)) r.whole;
      «at» = sym (length-append (take start (take place text)) (drop start (take place text))) ∙ ap length cut ∙ length-take-le place text less;
      lines = s.lines;
      in_front = s.in_line;
      in_back = r.in_line;
      ends = r.ends;
      number = add-one above ∙ ap suc count;
    }

-- Bytes are added one by one.
pub shown-more : (report next old bytes : List ℕ) (i : ℕ) → i < length bytes → next ≡ report ++ shown (get_or bytes i 0 ∷ []) → report ≡ old ++ shown (take i bytes) → next ≡ old ++ shown (take (i + 1) bytes)
shown-more report next old bytes i less is known =
    is ∙ ap (λ ys. ys ++ shown (get_or bytes i 0 ∷ [])) known ∙ append_assoc old (shown (take i bytes)) (shown (get_or bytes i 0 ∷ []))
    ∙ ap (λ ys. old ++ ys) (sym (filter-append (λ b. not (b == 13)) (take i bytes) (get_or bytes i 0 ∷ [])) ∙ ap shown (sym (take_more bytes i 0 less)))

margin-both : (xs ys : List ℕ) → margin (xs ++ ys) ≡ margin xs ++ margin ys
margin-both xs ys = ap (map pad) (filter-append (λ b. not (b == 13)) xs ys) ∙ map-append pad (shown xs) (shown ys)

pub margin-more : (report next old bytes : List ℕ) (i : ℕ) → i < length bytes → next ≡ report ++ margin (get_or bytes i 0 ∷ []) → report ≡ old ++ margin (take i bytes) → next ≡ old ++ margin (take (i + 1) bytes)
margin-more report next old bytes i less is known =
    is ∙ ap (λ ys. ys ++ margin (get_or bytes i 0 ∷ [])) known ∙ append_assoc old (margin (take i bytes)) (margin (get_or bytes i 0 ∷ []))
    ∙ ap (λ ys. old ++ ys) (sym (margin-both (take i bytes) (get_or bytes i 0 ∷ [])) ∙ ap margin (sym (take_more bytes i 0 less)))

-- The parts of a report, one behind the other.
pub report-whole : (name message head front back : List ℕ) (line column : ℕ) → column ≡ length front + 1 → head ≡ head_line name line column message
    → (((((([] ++ head) ++ shown front) ++ shown back) ++ 10 ∷ []) ++ margin front) ++ codes "^\n") ≡ report_of name line front back message
report-whole name message head front back line column at is =
    append_assoc (((head ++ shown front) ++ shown back) ++ 10 ∷ []) (margin front) (codes "^\n")
    ∙ append_assoc ((head ++ shown front) ++ shown back) (10 ∷ []) (margin front ++ codes "^\n")
    ∙ ap (λ ys. ys ++ (10 ∷ [] ++ (margin front ++ codes "^\n"))) (append_assoc head (shown front) (shown back) ∙ ap (λ ys. head ++ ys) (sym (filter-append (λ b. not (b == 13)) front back)))
    ∙ append_assoc head (shown (front ++ back)) (10 ∷ [] ++ (margin front ++ codes "^\n"))
    ∙ ap (λ h. h ++ (shown (front ++ back) ++ (codes "\n" ++ (margin front ++ codes "^\n")))) (is ∙ ap (λ n. head_line name line n message) (at ∙ add-one (length front)))
