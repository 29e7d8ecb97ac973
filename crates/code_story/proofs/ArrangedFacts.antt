-- What an arrangement says of levels, events, places and requests, in the words of the core and of the map.
use Rattle.std.specs.Prelude.{ℕ, ◌<◌, ◌≤◌, ◌==◌, ◌⊎◌, true, false, ◌||◌, List, [], ◌∷◌, length, Some}
use Rattle.std.proofs.Common.{◌≡◌, refl, sym, ap, subst, ◌∙◌, arith, inl, inr, ne_eqb}
use Rattle.std.proofs.lemmas.Bool.{and_from, both_ways, cases_lt}
use Rattle.pic_regs.specs.Registers.{Registers, flag, enable, requested}
use Rattle.pic_machine.specs.Chip.{Chip}
use Rattle.pic_machine.specs.Boundary.{Outer}
use Rattle.pic_machine.proofs.TurnLaws.{with_outer, taking, requested-on}
use Rattle.map_file.specs.declared.maps.Map.{Map}
use Rattle.map_file.specs.declared.maps.MapEvent.{MapEvent}
use Rattle.firmware_promises.specs.Urgent.{is_in_intcon, is_heard}
use Rattle.timed_core.specs.Steps.{Run, Above, Before, top_level}
use Rattle.timed_core.specs.Shape.{Tower}
use Rattle.core_story.specs.Values.{item}
use Rattle.core_story.specs.Interface.{flag_at}
use Rattle.core_story.proofs.ItemLaws.{at_item, bit_is_of, event_with_level}
use Rattle.firmware_parts.specs.Layout.{Layout, Part}
use Rattle.firmware_parts.specs.Contexts.{AtLevel}
use Rattle.code_story.specs.Arranged.{PlacesAgree, IsPart, IsLevel, IsEventOf}
use Rattle.code_story.specs.Code.{Code}
use Rattle.code_story.specs.Laws.{is_window_part}
use Rattle.code_story.specs.Relation.{level_of_top}
use Rattle.code_story.proofs.ChipFacts.{hears_above, requests_exactly}

-- No event opens or commits at a place.
pub record Elsewhere (l : Layout) (place : ℕ) : Type 0 where
  pub no_open : (x : ℕ) → 0 < l.level x → (place == l.opens x) ≡ false
  pub no_commit : (x : ℕ) → 0 < l.level x → (place == l.commits x) ≡ false

-- Where parts lie.
apart : (l : Layout) (place : ℕ) → ((x : ℕ) → 0 < l.level x → place ≡ l.opens x → ⊥) → ((x : ℕ) → 0 < l.level x → place ≡ l.commits x → ⊥) → Elsewhere l place
apart l place opens commits = record { no_open = λ x real. ne_eqb place (l.opens x) (opens x real); no_commit = λ x real. ne_eqb place (l.commits x) (commits x real) }

module _ (m : Map) (l : Layout) (places : PlacesAgree m l) where
  inside_at : (part : Part) (place other : ℕ) → l.inside part place ≡ true → place ≡ other → l.inside part other ≡ true
  inside_at part place other inside same = ap (l.inside part) (sym same) ∙ inside

  pub parts_are_elsewhere : (part : Part) (place : ℕ) → IsPart l part → is_window_part part ≡ false → l.inside part place ≡ true → Elsewhere l place
  parts_are_elsewhere part place is_part other inside = apart l place
      (λ x real same. both_ways (is_window_part part) other (ap is_window_part ((places.opens x real).only part is_part (inside_at part place (l.opens x) inside same))))
      (λ x real same. both_ways (is_window_part part) other (ap is_window_part ((places.commits x real).only part is_part (inside_at part place (l.commits x) inside same))))

  pub lies_elsewhere : (part : Part) (place : ℕ) → IsPart l part → is_window_part part ≡ false → l.inside part place ≡ true
      → (x : ℕ) (e : MapEvent) → item m.events x ≡ Some e → ((place == e.«open») ≡ false) × ((place == e.commit) ≡ false)
  lies_elsewhere part place is_part other inside x e found =
      let elsewhere = parts_are_elsewhere part place is_part other inside in
      let its = places.events x e found in
      (ap (λ at. place == at) (sym its.opens) ∙ elsewhere.no_open x its.real, ap (λ at. place == at) (sym its.commits) ∙ elsewhere.no_commit x its.real)

module _ (f : Code) where
  -- Levels.
  pub above_top : (st : List Run) (x : ℕ) → level_of_top f.l st < f.l.level x → top_level f.t st < f.t.level x
  above_top [] x h = (f.arranged.levels.real x).0 h
  above_top (r ∷ rs) x h = (f.arranged.levels.rise r.event x).0 h

  pub above_its_top : (st : List Run) (x : ℕ) → top_level f.t st < f.t.level x → level_of_top f.l st < f.l.level x
  above_its_top [] x h = (f.arranged.levels.real x).1 h
  above_its_top (r ∷ rs) x h = (f.arranged.levels.rise r.event x).1 h

  pub top_is_level : (st : List Run) → IsLevel f.l (level_of_top f.l st)
  top_is_level [] = inl refl
  top_is_level (r ∷ rs) = inr (r.event, refl)

  -- A tower has no more runs than its top's level; so what is beneath a run is seven at most.
  pub tower_is_low : (st : List Run) → Tower f.t st → length st ≤ level_of_top f.l st
  tower_is_low [] tower = omega arith
  tower_is_low (r ∷ rs) tower = omega (arith, above_its_top rs r.event tower.1, tower_is_low rs tower.2)

  pub seven_beneath : (st : List Run) (x : ℕ) → Tower f.t st → level_of_top f.l st < f.l.level x → length st ≤ 7
  seven_beneath st x tower above = omega (arith, tower_is_low st tower, f.arranged.levels.few x, above)

  -- The order of urgency.
  pub as_urgent : (h x : ℕ) → (f.l.level x < f.l.level h) ⊎ ((f.l.level x ≡ f.l.level h) × (h < x)) → Before f.t h x
  as_urgent h x (inl lower) = inl ((f.arranged.levels.rise x h).0 lower)
  as_urgent h x (inr (same, later)) = by (cases_lt (f.t.level x) (f.t.level h)) (cases_lt (f.t.level h) (f.t.level x))
    where
      by : (f.t.level x < f.t.level h) ⊎ (f.t.level h ≤ f.t.level x) → (f.t.level h < f.t.level x) ⊎ (f.t.level x ≤ f.t.level h) → Before f.t h x
      by (inl lower) other = inl lower
      by (inr least) (inl higher) = absurd (let clash : f.l.level h < f.l.level x = (f.arranged.levels.rise h x).1 higher in omega (arith, clash, same))
      by (inr least) (inr most) = inr (omega (arith, least, most), later)

  pub highest : (e : ℕ) → ((x : ℕ) → f.l.level x ≤ f.l.level e) → (x : ℕ) → f.t.level x ≤ f.t.level e
  highest e top x = by (cases_lt (f.t.level e) (f.t.level x))
    where
      by : (f.t.level e < f.t.level x) ⊎ (f.t.level x ≤ f.t.level e) → f.t.level x ≤ f.t.level e
      by (inl higher) = absurd (omega (arith, (f.arranged.levels.rise e x).1 higher, top x))
      by (inr most) = most

  -- Events.
  pub event_numbered : (x : ℕ) → 0 < f.l.level x → (e : MapEvent) × (item f.m.events x ≡ Some e) × IsEventOf f.l x e
  event_numbered x real =
      let level : 0 < f.t.level x = (f.arranged.levels.real x).0 real in
      let found = event_with_level f.m x (subst (λ n. 0 < n) (f.arranged.fitted.level x) level) in (found.0, found.1, f.arranged.places.events x found.0 found.1)

  pub flag_is : (x : ℕ) (r : Registers) → 0 < f.l.level x → flag_at f.m r x ≡ flag (f.l.source x) r
  flag_is x r real =
      let found = event_numbered x real in at_item f.m x found.0 (λ source. flag source r) found.1 ∙ ap (λ source. flag source r) (sym found.2.source)

  pub flag_is_of : (x : ℕ) (r : Registers) → flag_at f.m r x ≡ true → (0 < f.l.level x) × (flag (f.l.source x) r ≡ true)
  flag_is_of x r set =
      let found = bit_is_of f.m x (λ source. flag source r) set in
      let real = (f.arranged.places.events x found.0 found.1).real in (real, sym (flag_is x r real) ∙ set)

  -- Places.
  pub part_is_elsewhere : (part : Part) (place : ℕ) → IsPart f.l part → is_window_part part ≡ false → f.l.inside part place ≡ true → Elsewhere f.l place
  part_is_elsewhere part place is_part other inside = parts_are_elsewhere f.m f.l f.arranged.places part place is_part other inside

  pub ready_is_elsewhere : Elsewhere f.l f.l.ready
  ready_is_elsewhere = apart f.l f.l.ready (λ x real same. (f.arranged.places.opens x real).not_ready (sym same)) (λ x real same. (f.arranged.places.commits x real).not_ready (sym same))

  pub boot_end_is_elsewhere : Elsewhere f.l f.l.boot_end
  boot_end_is_elsewhere = apart f.l f.l.boot_end (λ x real same. (f.arranged.places.opens x real).not_boot_end (sym same)) (λ x real same. (f.arranged.places.commits x real).not_boot_end (sym same))

  pub clear_is_elsewhere : (e : ℕ) → 0 < f.l.level e → Elsewhere f.l (f.l.clear e)
  clear_is_elsewhere e its =
      apart f.l (f.l.clear e) (λ x real same. (f.arranged.places.opens x real).not_clear e its (sym same)) (λ x real same. (f.arranged.places.commits x real).not_clear e its (sym same))

  pub on_is_elsewhere : (e : ℕ) → 0 < f.l.level e → f.l.is_short e ≡ false → Elsewhere f.l (f.l.on e)
  on_is_elsewhere e its long =
      apart f.l (f.l.on e) (λ x real same. (f.arranged.places.opens x real).not_on e its long (sym same)) (λ x real same. (f.arranged.places.commits x real).not_on e its long (sym same))

  pub lock_is_elsewhere : (e : ℕ) → 0 < f.l.level e → f.l.is_short e ≡ false → Elsewhere f.l (f.l.lock e)
  lock_is_elsewhere e its long =
      apart f.l (f.l.lock e) (λ x real same. (f.arranged.places.opens x real).not_lock e its long (sym same)) (λ x real same. (f.arranged.places.commits x real).not_lock e its long (sym same))

  -- The return is elsewhere, by its word.
  pub return_is_elsewhere : (place : ℕ) → f.l.program place ≡ 0x0009 → Elsewhere f.l place
  return_is_elsewhere place word = apart f.l place
      (λ x real same. both_ways (f.l.program (f.l.opens x) == 0x0009) (f.arranged.places.opens x real).no_return (ap (λ q. f.l.program q == 0x0009) (sym same) ∙ ap (λ w. w == 0x0009) word))
      (λ x real same. both_ways (f.l.program (f.l.commits x) == 0x0009) (f.arranged.places.commits x real).no_return (ap (λ q. f.l.program q == 0x0009) (sym same) ∙ ap (λ w. w == 0x0009) word))

  -- Requests, where the enables are those of a stack's top.
  pub request_is_above : (st : List Run) (c : Chip) → AtLevel f.l (level_of_top f.l st) c → requested c.regs ≡ true → Above f.t (flag_at f.m c.regs) (top_level f.t st)
  request_is_above st c at_level request =
      let found = (requests_exactly f.l f.arranged.enables (level_of_top f.l st) c (top_is_level st) at_level (requested-on c request)).0 request in
      let real : 0 < f.l.level found.0 = omega (arith, found.1) in (found.0, flag_is found.0 c.regs real ∙ found.2, above_top st found.0 found.1)

  pub above_is_requested : (st : List Run) (c : Chip) → AtLevel f.l (level_of_top f.l st) c → c.regs.intcon.b7 ≡ true → Above f.t (flag_at f.m c.regs) (top_level f.t st) → requested c.regs ≡ true
  above_is_requested st c at_level on above =
      (requests_exactly f.l f.arranged.enables (level_of_top f.l st) c (top_is_level st) at_level on).1 (above.0, above_its_top st above.0 above.2, (flag_is_of above.0 c.regs above.1).1)

  -- An event above is heard at a boundary with interrupts on.
  pub heard_at : (level x : ℕ) (e : MapEvent) (outer : Outer) (c : Chip) → IsLevel f.l level → AtLevel f.l level (with_outer outer c) → c.regs.intcon.b7 ≡ true
      → item f.m.events x ≡ Some e → level < f.l.level x → is_heard e (taking outer c) ≡ true
  heard_at level x e outer c is_level at_level on found above =
      let same : f.l.source x ≡ e.source = (f.arranged.places.events x e found).source in
      let its = hears_above f.l f.arranged.enables level (with_outer outer c) is_level at_level x above in
      and_from _ _ (and_from _ _ on (ap (λ source. enable source (with_outer outer c).regs) (sym same) ∙ its.0)) (ap (λ source. is_in_intcon source || c.regs.intcon.b6) (sym same) ∙ its.1)
