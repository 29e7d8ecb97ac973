-- What the signals of a run become with a step.
use Rattle.std.proofs.Common.{◌≡◌, ℕ, zero, suc, ◌+◌, ◌<◌, ◌≤◌, true, false, max, List, [], ◌∷◌, ◌++◌, map, length, take, get_or, refl, sym, ap, ◌∙◌, arith}
use Rattle.std.proofs.lemmas.List.{map-append, take_more}
use Rattle.std.specs.List.{AllByRecursion, flat_map}
use Rattle.pic_machine.specs.Run.{Log}
use Rattle.map_file.specs.declared.maps.MapEvent.{MapEvent}
use Rattle.map_file.specs.declared.maps.MapState.{MapState}
use Rattle.map_file.specs.declared.maps.Map.{Map}
use Rattle.map_file.specs.MapRules.{IsMap, IsState}
use Rattle.firmware_promises.specs.Counts.{chip_after}
use Rattle.wave_text.specs.declared.signals.Signal.{Signal}
use Rattle.wave_text.specs.declared.signals.Signal.TheVariants.{Latch, Run, Window, Port, State, Depth}
use Rattle.wave_text.specs.Signals.{HasPlace, event_signals, level_in, next, port_signal, signals, state_signal}

module _ (log : Log) (k : ℕ) where
  events-next : (es : List MapEvent) → map (next (log k)) (flat_map (event_signals log k) es) ≡ flat_map (event_signals log (suc k)) es
  events-next [] = refl
  events-next (e ∷ es) = ap (λ rest. event_signals log (suc k) e ++ rest) (events-next es)

  ports-next : (ports : List ℕ) → map (next (log k)) (map (port_signal log k) ports) ≡ map (port_signal log (suc k)) ports
  ports-next [] = refl
  ports-next (p ∷ ports) = ap (λ rest. port_signal log (suc k) p ∷ rest) (ports-next ports)

  states-next : (states : List MapState) → map (next (log k)) (map (state_signal log k) states) ≡ map (state_signal log (suc k)) states
  states-next [] = refl
  states-next (s ∷ states) = ap (λ rest. state_signal log (suc k) s ∷ rest) (states-next states)

  pub signals-next : (m : Map) → map (next (log k)) (signals m log k) ≡ signals m log (suc k)
  signals-next m =
      let last = Depth (chip_after log k).depth ∷ [] in
      let states = map (state_signal log k) m.states in
      let ports = map (port_signal log k) m.outputs in
      map-append (next (log k)) (flat_map (event_signals log k) m.events) (ports ++ (states ++ last))
      ∙ ap (λ l. map (next (log k)) (flat_map (event_signals log k) m.events) ++ l)
      (map-append (next (log k)) ports (states ++ last) ∙ ap (λ l. map (next (log k)) ports ++ l) (map-append (next (log k)) states last))
      ∙ ap (λ l. l ++ (map (next (log k)) ports ++ (map (next (log k)) states ++ map (next (log k)) last))) (events-next m.events)
      ∙ ap (λ l. flat_map (event_signals log (suc k)) m.events ++ (l ++ (map (next (log k)) states ++ map (next (log k)) last))) (ports-next m.outputs)
      ∙ ap (λ l. flat_map (event_signals log (suc k)) m.events ++ (map (port_signal log (suc k)) m.outputs ++ (l ++ map (next (log k)) last))) (states-next m.states)

  -- The addresses of the states are in range.
  states-placed : (states : List MapState) (more : List Signal) → AllByRecursion IsState states → AllByRecursion HasPlace more → AllByRecursion HasPlace (map (state_signal log k) states ++ more)
  states-placed [] more are all = all
  states-placed (s ∷ states) more are all = (are.0.addresses, states-placed states more are.1 all)

  ports-placed : (ports : List ℕ) (more : List Signal) → AllByRecursion HasPlace more → AllByRecursion HasPlace (map (port_signal log k) ports ++ more)
  ports-placed [] more all = all
  ports-placed (p ∷ ports) more all = (tt, ports-placed ports more all)

  events-placed : (es : List MapEvent) (more : List Signal) → AllByRecursion HasPlace more → AllByRecursion HasPlace (flat_map (event_signals log k) es ++ more)
  events-placed [] more all = all
  events-placed (e ∷ es) more all = (tt, (tt, (tt, events-placed es more all)))

  pub placed : (m : Map) → IsMap m → AllByRecursion HasPlace (signals m log k)
  placed m is = events-placed m.events _ (ports-placed m.outputs _ (states-placed m.states _ is.states (tt, tt)))

-- The level of two lists is the greater of theirs.
level-append : (xs ys : List Signal) → level_in (xs ++ ys) ≡ max (level_in xs) (level_in ys)
level-append [] ys = omega arith
level-append (Run source priority commits true ∷ xs) ys =
    let more : level_in (xs ++ ys) ≡ max (level_in xs) (level_in ys) = level-append xs ys in omega (arith, more)
level-append (Run source priority commits false ∷ xs) ys = level-append xs ys
level-append (Latch source on ∷ xs) ys = level-append xs ys
level-append (Window source opens commits on ∷ xs) ys = level-append xs ys
level-append (Port port byte ∷ xs) ys = level-append xs ys
level-append (State ty low high value ∷ xs) ys = level-append xs ys
level-append (Depth depth ∷ xs) ys = level-append xs ys

pub level-more : (xs : List Signal) (i : ℕ) (d : Signal) (before after : ℕ) → i < length xs → before ≡ level_in (take i xs) → after ≡ max before (level_in (get_or xs i d ∷ []))
    → after ≡ level_in (take (i + 1) xs)
level-more xs i d before after h so_far now =
    now ∙ ap (λ l. max l (level_in (get_or xs i d ∷ []))) so_far ∙ sym (level-append (take i xs) (get_or xs i d ∷ [])) ∙ ap level_in (sym (take_more xs i d h))

-- A list of what elements become, one more, and all.
pub map-more : {X Y : Type 0} (f : X → Y) (xs : List X) (i : ℕ) (d : X) (y : Y) (before after : List Y) → i < length xs → before ≡ map f (take i xs) → after ≡ before ++ y ∷ [] → y ≡ f (get_or xs i d)
    → after ≡ map f (take (i + 1) xs)
map-more f xs i d y before after h so_far pushed is =
    pushed ∙ ap (λ l. l ++ y ∷ []) so_far ∙ ap (λ z. map f (take i xs) ++ z ∷ []) is ∙ sym (map-append f (take i xs) (get_or xs i d ∷ [])) ∙ ap (map f) (sym (take_more xs i d h))

pub map-whole : {X Y : Type 0} (f : X → Y) (xs : List X) (i : ℕ) (all : List Y) → length xs ≤ i → all ≡ map f (take i xs) → all ≡ map f xs
map-whole f xs i all h is = is ∙ ap (map f) (whole xs i h)
  where
    whole : {X : Type 0} (xs : List X) (i : ℕ) → length xs ≤ i → take i xs ≡ xs
    whole [] zero h = refl
    whole [] (suc i) h = refl
    whole (x ∷ xs) zero h = absurd (omega arith)
    whole (x ∷ xs) (suc i) h = ap (λ l. x ∷ l) (whole xs i (omega arith))
