-- Text that is held back and sent piece by piece, and the text that is due.
use Rattle.std.proofs.Common.{◌≡◌, ℕ, zero, suc, ◌+◌, ◌-◌, ◌<◌, Bool, true, false, List, [], ◌++◌, length, take, drop, Option, Some, None, Result, Ok, Err, IsErrAnd, refl, sym, ap, subst, ◌∙◌, inl, inr, add-one, arith, below_more}
use Rattle.std.proofs.Math.Seq.{take-append_seam}
use Rattle.std.proofs.lemmas.List.{append-nil, append_assoc, take-append-drop}
use Rattle.edge_io.specs.Sinks.{Appends, AppendsPrefix}
use Rattle.pic_machine.specs.Run.{Log}
use Rattle.pic_machine.specs.declared.steps.Did.TheVariants.{Stopped}
use Rattle.pic_machine.specs.declared.steps.Why.{Why}
use Rattle.pic_machine.specs.Dids.{is_stop}
use Rattle.pic_machine.specs.Boundary.{Step}
use Rattle.map_file.specs.declared.maps.Map.{Map}
use Rattle.arrival_script.specs.declared.traces.TraceFault.{TraceFault}
use Rattle.arrival_script.specs.declared.traces.TraceFault.TheVariants as fault
use Rattle.arrival_script.specs.Trace.{step_lines, lines_of, end_line, trace_text, GoesOn, StopsFirst, IsDue, Traces}
use Rattle.arrival_script.specs.Sends.{Sends, SendsFront, Tells, Flushes}

pub appends-none : (o : Option (List ℕ)) → Appends o o []
appends-none None = tt
appends-none (Some x) = sym (append-nil x)

pub appends-join : (a b c : Option (List ℕ)) (x y : List ℕ) → Appends a b x → Appends b c y → Appends a c (x ++ y)
appends-join None None None x y p q = tt
appends-join None None (Some c) x y p q = absurd q
appends-join None (Some b) c x y p q = absurd p
appends-join (Some a) None c x y p q = absurd p
appends-join (Some a) (Some b) None x y p q = absurd q
appends-join (Some a) (Some b) (Some c) x y p q = q ∙ ap (λ l. l ++ y) p ∙ append_assoc a x y

-- Nothing was added; or it was held back; or all was sent.
pub sends-none : (o : Option (List ℕ)) → Sends o [] o [] []
sends-none o = record { sent = []; appended = appends-none o; split = refl }

pub sends-quiet : (o : Option (List ℕ)) (held added : List ℕ) → added ≡ [] → Sends o held o held added
sends-quiet o held added e = record { sent = []; appended = appends-none o; split = ap (λ l. held ++ l) e ∙ append-nil held }

pub sends-kept : (o : Option (List ℕ)) (held kept added : List ℕ) → kept ≡ held ++ added → Sends o held o kept added
sends-kept o held kept added e = record { sent = []; appended = appends-none o; split = sym e }

pub sends-all : (o new : Option (List ℕ)) (held all kept added : List ℕ) → all ≡ held ++ added → Appends o new all → kept ≡ [] → Sends o held new kept added
sends-all o new held all kept added e a k = record { sent = all; appended = a; split = sym e ∙ sym (append-nil all) ∙ ap (λ l. all ++ l) (sym k) }

-- A front was sent, of what was added or of what was held back.
pub front-none : (o : Option (List ℕ)) (held added : List ℕ) → SendsFront o held o added
front-none o held added = record { sent = []; rest = held ++ added; appended = appends-none o; split = refl }

pub front-put : (o new : Option (List ℕ)) (held all added : List ℕ) → all ≡ held ++ added → AppendsPrefix o new all → SendsFront o held new added
front-put o new held all added e f = record { sent = take f.0 all; rest = drop f.0 all; appended = f.1; split = sym e ∙ sym (take-append-drop f.0 all) }

-- One after the other.
pub sends-then : (a b c : Option (List ℕ)) (held kept last x y : List ℕ) → Sends a held b kept x → Sends b kept c last y → Sends a held c last (x ++ y)
sends-then a b c held kept last x y p q = record {
  sent = p.sent ++ q.sent;
  appended = appends-join a b c p.sent q.sent p.appended q.appended;
  split = sym (append_assoc held x y) ∙ ap (λ l. l ++ y) p.split ∙ append_assoc p.sent kept y ∙ ap (λ l. p.sent ++ l) q.split ∙ sym (append_assoc p.sent q.sent last);
}

pub sends-front : (a b c : Option (List ℕ)) (held kept x y : List ℕ) → Sends a held b kept x → SendsFront b kept c y → SendsFront a held c (x ++ y)
sends-front a b c held kept x y p q = record {
  sent = p.sent ++ q.sent;
  rest = q.rest;
  appended = appends-join a b c p.sent q.sent p.appended q.appended;
  split = sym (append_assoc held x y) ∙ ap (λ l. l ++ y) p.split ∙ append_assoc p.sent kept y ∙ ap (λ l. p.sent ++ l) q.split ∙ sym (append_assoc p.sent q.sent q.rest);
}

-- A front of a text is one of a longer text.
pub front-longer : (old new : Option (List ℕ)) (x more text : List ℕ) → SendsFront old [] new x → text ≡ x ++ more → AppendsPrefix old new text
front-longer old new x more text p e =
    let spelled : take (length p.sent) text ≡ p.sent =
    ap (take (length p.sent)) (e ∙ ap (λ l. l ++ more) p.split ∙ append_assoc p.sent p.rest more) ∙ take-append_seam p.sent (p.rest ++ more) in
    (length p.sent, subst (Appends old new) (sym spelled) p.appended)

-- All was sent.
pub whole-sent : (old mid new : Option (List ℕ)) (kept x : List ℕ) → Sends old [] mid kept x → Appends mid new kept → Appends old new x
whole-sent old mid new kept x p q = subst (Appends old new) (sym p.split) (appends-join old mid new p.sent kept p.appended q)

-- The text that is due of n steps where the first k of them don't stop.
pub goes-more : (log : Log) (k : ℕ) → GoesOn log k → is_stop (log k).did ≡ false → GoesOn log (k + 1)
goes-more log k goes here = below_more (λ i. is_stop (log i).did ≡ false) k goes here

pub lines-more : (m : Map) (log : Log) (k : ℕ) → lines_of m log (k + 1) ≡ lines_of m log k ++ step_lines m k (log k)
lines-more m log k = ap (lines_of m log) (add-one k)

record DueFrom (m : Map) (log : Log) (n : ℕ) (x : List ℕ) : Type 0 where
  more : List ℕ
  due : IsDue m log n (x ++ more)

due-from : (m : Map) (log : Log) (j k n : ℕ) → n ≡ k + j → GoesOn log k → DueFrom m log n (lines_of m log k)
due-from m log zero k n e goes =
    let same : k ≡ n = omega arith in
    record { more = end_line m log n; due = inl (subst (GoesOn log) same goes, ap (λ i. lines_of m log i ++ end_line m log n) same) }
due-from m log (suc j) k n e goes = go (is_stop (log k).did) refl (due-from m log j (k + 1) n (omega arith))
  where
    go : (b : Bool) → is_stop (log k).did ≡ b → (GoesOn log (k + 1) → DueFrom m log n (lines_of m log (k + 1))) → DueFrom m log n (lines_of m log k)
    go true h rest = record {
      more = step_lines m k (log k);
      due = inr (k, record { in_time = omega arith; before = goes; stopped = h }, sym (lines-more m log k));
    }
    go false h rest =
        let r = rest (goes-more log k goes h) in
        record {
          more = step_lines m k (log k) ++ r.more;
          due = subst (IsDue m log n) (ap (λ l. l ++ r.more) (lines-more m log k) ∙ append_assoc (lines_of m log k) (step_lines m k (log k)) r.more) r.due;
        }

due-behind : (m : Map) (log : Log) (k n : ℕ) → k < n → GoesOn log k → DueFrom m log n (lines_of m log (k + 1))
due-behind m log k n h goes = go (is_stop (log k).did) refl
  where
    go : (b : Bool) → is_stop (log k).did ≡ b → DueFrom m log n (lines_of m log (k + 1))
    go true e = record { more = []; due = inr (k, record { in_time = h; before = goes; stopped = e }, append-nil (lines_of m log (k + 1))) }
    go false e = due-from m log (n - (k + 1)) (k + 1) n (omega arith) (goes-more log k goes e)

traces-front : (m : Map) (log : Log) (n : ℕ) (old new : Option (List ℕ)) (x : List ℕ) (f : TraceFault) → DueFrom m log n x → SendsFront old [] new x
    → ((step address : ℕ) (why : Why) → f ≡ fault.Stopped step address why → ⊥) → Traces m log n old new (Err f)
traces-front m log n old new x (fault.Stopped step address why) due front none = absurd (none step address why refl)
traces-front m log n old new x fault.Failed due front none = (x ++ due.more, due.due, front-longer old new x due.more (x ++ due.more) front refl)
traces-front m log n old new x fault.Memory due front none = (x ++ due.more, due.due, front-longer old new x due.more (x ++ due.more) front refl)

-- A step after which the text isn't whole.
pub step-fails : (m : Map) (log : Log) (n k : ℕ) (old mid new : Option (List ℕ)) (held last : List ℕ) (f : TraceFault) → k < n → GoesOn log k → Sends old [] mid held (lines_of m log k)
    → Tells k (log k) mid held new last (step_lines m k (log k)) (Err f) → Traces m log n old new (Err f)
step-fails m log n k old mid new held last f inside goes sends tells = go f tells
  where
    added : List ℕ
    added = step_lines m k (log k)

    front : SendsFront mid held new added → SendsFront old [] new (lines_of m log (k + 1))
    front sent = subst (SendsFront old [] new) (sym (lines-more m log k)) (sends-front old mid new [] held (lines_of m log k) added sends sent)

    whole : Appends mid new (held ++ added) → Appends old new (lines_of m log (k + 1))
    whole sent = subst (Appends old new) (sym (lines-more m log k))
        (whole-sent old mid new (held ++ added) (lines_of m log k ++ added) (sends-then old mid mid [] held (held ++ added) (lines_of m log k) added sends (sends-kept mid held (held ++ added) added refl)) sent)

    go : (f : TraceFault) → Tells k (log k) mid held new last added (Err f) → Traces m log n old new (Err f)
    go (fault.Stopped step address why) told =
        let at : StopsFirst log n k × ((log k).did ≡ Stopped address why) × Appends old new (lines_of m log (k + 1)) =
        (record { in_time = inside; before = goes; stopped = ap is_stop told.1 }, told.1, whole told.2) in
        subst (λ i. StopsFirst log n i × ((log i).did ≡ Stopped address why) × Appends old new (lines_of m log (i + 1))) (sym told.0) at
    go fault.Failed told = traces-front m log n old new (lines_of m log (k + 1)) fault.Failed (due-behind m log k n inside goes) (front told) (λ step address why e. cc)
    go fault.Memory told = traces-front m log n old new (lines_of m log (k + 1)) fault.Memory (due-behind m log k n inside goes) (front told) (λ step address why e. cc)

-- The lines of a step, by the parts of its telling: none was added; they are held back; or a flush came behind them.
pub tells-memory : (k : ℕ) (step : Step) (o : Option (List ℕ)) (held kept added : List ℕ) (answer : Result (Unit {0}) TraceFault) → IsErrAnd answer (λ f. f ≡ fault.Memory) → Tells k step o held o kept added answer
tells-memory k step o held kept added (Ok done) is = absurd is
tells-memory k step o held kept added (Err f) is = subst (λ e. Tells k step o held o kept added (Err e)) (sym is) (front-none o held added)

flush-fails : (k : ℕ) (step : Step) (o new : Option (List ℕ)) (held all kept added : List ℕ) (f : TraceFault) → all ≡ held ++ added → Flushes o all new kept (Err f) → Tells k step o held new kept added (Err f)
flush-fails k step o new held all kept added (fault.Stopped n address why) e flush = absurd flush
flush-fails k step o new held all kept added fault.Failed e flush = front-put o new held all added e flush
flush-fails k step o new held all kept added fault.Memory e flush = front-put o new held all added e flush

pub tells-unflushed : (k : ℕ) (step : Step) (o new : Option (List ℕ)) (held all kept added : List ℕ) (f : TraceFault) (answer : Result (Unit {0}) TraceFault) → IsErrAnd answer (λ e. e ≡ f)
    → all ≡ held ++ added → Flushes o all new kept (Err f) → Tells k step o held new kept added answer
tells-unflushed k step o new held all kept added f (Ok done) is e flush = absurd is
tells-unflushed k step o new held all kept added f (Err found) is e flush = subst (λ x. Tells k step o held new kept added (Err x)) (sym is) (flush-fails k step o new held all kept added f e flush)

pub tells-flush : (k : ℕ) (step : Step) (o new : Option (List ℕ)) (held all kept added : List ℕ) (answer : Result (Unit {0}) TraceFault) → is_stop step.did ≡ false → all ≡ held ++ added
    → Flushes o all new kept answer → Tells k step o held new kept added answer
tells-flush k step o new held all kept added (Ok done) goes e flush = (goes, sends-all o new held all kept added e flush.0 flush.1)
tells-flush k step o new held all kept added (Err f) goes e flush = flush-fails k step o new held all kept added f e flush

flush-front : (old mid new : Option (List ℕ)) (kept x : List ℕ) → Sends old [] mid kept x → AppendsPrefix mid new kept → SendsFront old [] new x
flush-front old mid new kept x sends front =
    subst (SendsFront old [] new) (append-nil x) (sends-front old mid new [] kept x [] sends (front-put mid new kept kept [] (sym (append-nil kept)) front))

-- The end.
pub end-fails : (m : Map) (log : Log) (n : ℕ) (old mid : Option (List ℕ)) (kept : List ℕ) → GoesOn log n → Sends old [] mid kept (lines_of m log n) → Traces m log n old mid (Err fault.Memory)
end-fails m log n old mid kept goes sends =
    traces-front m log n old mid (lines_of m log n) fault.Memory (due-from m log 0 n n (omega arith) goes)
    (record { sent = sends.sent; rest = kept; appended = sends.appended; split = sends.split }) (λ step address why e. cc)

pub end-flushed : (m : Map) (log : Log) (n : ℕ) (old mid new : Option (List ℕ)) (kept all last : List ℕ) (answer : Result (Unit {0}) TraceFault) → GoesOn log n
    → Sends old [] mid kept (lines_of m log n) → all ≡ kept ++ end_line m log n → Flushes mid all new last answer → Traces m log n old new answer
end-flushed m log n old mid new kept all last answer goes sends e flush = go answer flush
  where
    added : Sends old [] mid all (trace_text m log n)
    added = sends-then old mid mid [] kept all (lines_of m log n) (end_line m log n) sends (sends-kept mid kept all (end_line m log n) e)

    due : DueFrom m log n (trace_text m log n)
    due = record { more = []; due = inl (goes, append-nil (trace_text m log n)) }

    go : (a : Result (Unit {0}) TraceFault) → Flushes mid all new last a → Traces m log n old new a
    go (Ok done) f = (goes, whole-sent old mid new all (trace_text m log n) added f.0)
    go (Err (fault.Stopped step address why)) f = absurd f
    go (Err fault.Failed) f = traces-front m log n old new (trace_text m log n) fault.Failed due (flush-front old mid new all (trace_text m log n) added f) (λ step address why h. cc)
    go (Err fault.Memory) f = traces-front m log n old new (trace_text m log n) fault.Memory due (flush-front old mid new all (trace_text m log n) added f) (λ step address why h. cc)
