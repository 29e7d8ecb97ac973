-- What is drawn of a run, step by step.
use Rattle.std.proofs.Common.{◌≡◌, ℕ, suc, ◌+◌, ◌==◌, Bool, false, List, [], ◌++◌, map, sym, ap, subst, ◌∙◌, add-one, below_more, string_bytes}
use Rattle.std.proofs.lemmas.List.{append_assoc, append-nil}
use Rattle.pic_machine.specs.Chip.{Chip}
use Rattle.pic_machine.specs.Run.{Log}
use Rattle.pic_machine.specs.Dids.{is_stop}
use Rattle.map_file.specs.declared.maps.Map.{Map}
use Rattle.arrival_script.specs.Trace.{GoesOn}
use Rattle.wave_text.specs.declared.waves.Wave.{Wave}
use Rattle.wave_text.specs.Signals.{at_first, level_in, level_after, next, signals}
use Rattle.wave_text.specs.Waves.{header, first_lines, change_lines, changes, level_change, moment, moments}
use Rattle.wave_text.specs.Drawing.{Drawn}
use Rattle.wave_text.proofs.SignalFacts.{signals-next}

-- Before the first step.
pub drawn-first : (m : Map) (log : Log) (n : ℕ) (c : Chip) (t0 t1 : List ℕ) (wave : Wave) → c ≡ (log 0).before → wave.signals.items ≡ at_first m c → wave.level ≡ level_in wave.signals.items
    → t0 ≡ [] → t1 ≡ t0 ++ header m → string_bytes wave.text ≡ t1 ++ first_lines wave.signals.items wave.level → Drawn m log n 0 wave
drawn-first m log n c t0 t1 wave start is level none head first =
    let now : wave.signals.items ≡ signals m log 0 = is ∙ ap (at_first m) start in
    let same : wave.level ≡ level_after m log 0 = level ∙ ap level_in now in
    record {
      now = now;
      level = same;
      text = first ∙ ap (λ t. t ++ first_lines wave.signals.items wave.level) (head ∙ ap (λ t. t ++ header m) none)
          ∙ ap (λ all. header m ++ first_lines all wave.level) now ∙ ap (λ l. header m ++ first_lines (signals m log 0) l) same
          ∙ sym (append-nil (header m ++ first_lines (signals m log 0) (level_after m log 0)));
    }

-- A step more.
pub drawn-more : (m : Map) (log : Log) (n k time : ℕ) (last : Bool) (ch : List ℕ) (wave next-wave : Wave) → time ≡ k + 1 → last ≡ (time == n)
    → next-wave.signals.items ≡ map (next (log k)) wave.signals.items → next-wave.level ≡ level_in next-wave.signals.items
    → ch ≡ change_lines wave.signals.items next-wave.signals.items ++ level_change wave.level next-wave.level
    → string_bytes next-wave.text ≡ string_bytes wave.text ++ moment last time ch
    → Drawn m log n k wave → Drawn m log n (k + 1) next-wave
drawn-more m log n k time last ch wave next-wave at end is level told text so =
    let one : time ≡ suc k = at ∙ add-one k in
    let now : next-wave.signals.items ≡ signals m log (suc k) = is ∙ ap (map (next (log k))) so.now ∙ signals-next log k m in
    let same : next-wave.level ≡ level_after m log (suc k) = level ∙ ap level_in now in
    let head = header m ++ first_lines (signals m log 0) (level_after m log 0) in
    let lines : ch ≡ changes m log k =
    told ∙ ap (λ l. change_lines l next-wave.signals.items ++ level_change wave.level next-wave.level) so.now
    ∙ ap (λ l. change_lines (signals m log k) l ++ level_change wave.level next-wave.level) now
    ∙ ap (λ l. change_lines (signals m log k) (signals m log (suc k)) ++ level_change l next-wave.level) so.level
    ∙ ap (λ l. change_lines (signals m log k) (signals m log (suc k)) ++ level_change (level_after m log k) l) same in
    let piece : moment last time ch ≡ moment (suc k == n) (suc k) (changes m log k) =
    ap (λ b. moment b time ch) end ∙ ap (λ t. moment (t == n) t ch) one ∙ ap (moment (suc k == n) (suc k)) lines in
    subst (λ i. Drawn m log n i next-wave) (sym (add-one k)) (record {
      now = now;
      level = same;
      text = text ∙ ap (λ t. t ++ moment last time ch) so.text ∙ append_assoc head (moments m log n k) (moment last time ch)
          ∙ ap (λ l. head ++ (moments m log n k ++ l)) piece;
    })

-- A step that didn't stop.
pub goes-more : (log : Log) (k : ℕ) → GoesOn log k → is_stop (log k).did ≡ false → GoesOn log (k + 1)
goes-more log k goes here = below_more (λ i. is_stop (log i).did ≡ false) k goes here
