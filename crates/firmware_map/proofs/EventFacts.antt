-- One more event of a map.
use Rattle.std.proofs.Common.{◌≡◌, ℕ, ◌+◌, ◌<◌, List, [], ◌∷◌, ◌++◌, length, map, take, get_or, Option, Some, None, ap, sym, ◌∙◌, arith}
use Rattle.std.specs.Prelude.{slice_get}
use Rattle.std.proofs.lemmas.List.{length-map, length-take-le, map-append, take_more}
use Rattle.std.proofs.lemmas.Option.{get_or_from_slice_get, slice_get-get_or}
use Rattle.frp_tree.specs.declared.syntax.Event.{Event}
use Rattle.frp_tree.specs.Tree.{ProgramTree}
use Rattle.pic_isa.specs.Sources.{source_name}
use Rattle.efrp_types.specs.Numbers.{event_source}
use Rattle.map_file.specs.declared.maps.MapEvent.{MapEvent}
use Rattle.firmware_promises.specs.Firmware.{event_of}

-- The event at a place.
pub stands-at : (es : List Event) (n : ℕ) (e : Event) → n < length es → e ≡ get_or es n e → slice_get es n ≡ Some e
stands-at es n e inside is = slice_get-get_or es n e inside ∙ ap (λ (x : Event). Some x) (sym is)

-- A map's event with the name, the source and the priority of the program's next one stands for it.
module _ (p : ProgramTree) (events : List MapEvent) (n : ℕ) (e : Event) (made : MapEvent) (named : map event_of events ≡ take n p.events) (at : slice_get p.events n ≡ Some e) (inside : n < length p.events) where
  its-source : event_source p n ≡ source_name made.source → source_name made.source ≡ e.source
  its-source source = sym source ∙ ap (λ (o : Option Event). elim o [ Some x ↦ x.source | None ↦ [] ]) at

  same-event : made.name ≡ e.name → event_source p n ≡ source_name made.source → made.priority ≡ e.priority → event_of made ≡ e
  same-event name source priority =
      ap (λ (x : List ℕ). record { name = x; source = source_name made.source; priority = made.priority }) name
      ∙ ap (λ (x : List ℕ). record { name = e.name; source = x; priority = made.priority }) (its-source source)
      ∙ ap (λ (x : ℕ). record { name = e.name; source = e.source; priority = x }) priority

  pub events-more : made.name ≡ e.name → event_source p n ≡ source_name made.source → made.priority ≡ e.priority → map event_of (events ++ made ∷ []) ≡ take (n + 1) p.events
  events-more name source priority =
      map-append event_of events (made ∷ []) ∙ ap (λ xs. xs ++ event_of made ∷ []) named
      ∙ ap (λ (x : Event). take n p.events ++ x ∷ []) (same-event name source priority ∙ sym (get_or_from_slice_get p.events n e e at)) ∙ sym (take_more p.events n e inside)

  pub events-before : length events ≡ n
  events-before = sym (length-map events event_of) ∙ ap length named ∙ length-take-le n p.events (omega arith)
