-- Opens and commits are places at which one part alone runs a step, and those of the map.
use Rattle.std.proofs.Common.{◌≡◌, ℕ, zero, suc, ◌+◌, ◌<◌, ◌≤◌, ◌==◌, ◌&&◌, Bool, true, false, nat_le, nat_lt, List, [], ◌∷◌, length, map, slice_get, Some, None, refl, sym, ap, ◌∙◌, arith, inl, inr}
use Rattle.std.specs.Prelude.{◌⊎◌}
use Rattle.std.proofs.lemmas.Bool.{and_parts, eqb-true, leb-true, lt-leb, le-ltb, ltb-true, or_cases, or_from}
use Rattle.std.proofs.lemmas.Bool.Decides.{eqb_tells}
use Rattle.std.proofs.lemmas.Option.{none-some, same_Some}
use Rattle.efrp_types.specs.Numbers.{event_source}
use Rattle.map_file.specs.declared.maps.MapEvent.{MapEvent}
use Rattle.map_file.specs.declared.maps.Map.{Map}
use Rattle.pic_isa.specs.Sources.{source_name}
use Rattle.firmware_promises.specs.Firmware.{event_of}
use Rattle.core_story.specs.Values.{item}
use Rattle.scratch_commit.specs.Plans.{is_short}
use Rattle.firmware_parts.specs.Layout.{Layout, Part}
use Rattle.firmware_parts.specs.Layout.Part.{Boot, Taking, Start, Begin, Work, Lock, Open, Copying, Commit, Exit}
use Rattle.code_story.specs.Arranged.{IsEventOf, IsPart, StandsAlone}
use Rattle.firmware_layout.specs.Laws.{LayoutPlaces, SpotsRise, VectorStands, layout_with}
use Rattle.firmware_layout.specs.Layouts.{boot_start, boot_turn, has_lock, head_end, lies, lies_in, spots_in}
use Rattle.firmware_layout.specs.Pieces.{Makings, kind_of}
use Rattle.firmware_layout.specs.Sound.{AreMakings, IsCodeIn}
use Rattle.firmware_layout.proofs.EventLaws.{is_event, real_event, source_is}
use Rattle.firmware_layout.proofs.StandLaws.{each-run-stands, run_window, runs-lie-apart, vector-of-code-stands}

-- Events of a map by their numbers.
pub item_get : {A : Type 0} (xs : List A) (n : ℕ) → item xs n ≡ slice_get xs n
item_get [] n = refl
item_get (x ∷ xs) zero = refl
item_get (x ∷ xs) (suc n) = item_get xs n

get_mapped : {A B : Type 0} (g : A → B) (xs : List A) (n : ℕ) (x : A) → slice_get xs n ≡ Some x → slice_get (map g xs) n ≡ Some (g x)
get_mapped g [] n x is = absurd (none-some x is)
get_mapped g (y ∷ xs) zero x is = ap (λ z. Some (g z)) (same_Some y x is)
get_mapped g (y ∷ xs) (suc n) x is = get_mapped g xs n x is

get_inside : {A : Type 0} (xs : List A) (n : ℕ) (x : A) → slice_get xs n ≡ Some x → n < length xs
get_inside [] n x is = absurd (none-some x is)
get_inside (y ∷ xs) zero x is = omega arith
get_inside (y ∷ xs) (suc n) x is = let rest = get_inside xs n x is in omega (arith, rest)

-- A test of an interval.
pub lies_is : (start stop place : ℕ) → lies start stop place ≡ true → (start ≤ place) × (place < stop)
lies_is start stop place there =
    let both = and_parts (nat_le start place) (nat_lt place stop) there in (leb-true start place both.0, ltb-true place stop both.1)

pub lies_not : (start stop place : ℕ) → stop ≤ place → lies start stop place ≡ false
lies_not start stop place past = ap (λ b. nat_le start place && b) (le-ltb place stop past) ∙ never (nat_le start place)
  where
    never : (b : Bool) → (b && false) ≡ false
    never true = refl
    never false = refl

module _ (f : Makings) (program marks : ℕ → ℕ) (m : Map) (made : AreMakings f) (code : IsCodeIn f program marks) where
  abbrev l : Layout
  l = layout_with f program marks m

  rise : (e : ℕ) → e < length f.p.events → SpotsRise (is_short (kind_of f e) ≡ false) (spots_in f marks e)
  rise e real = (each-run-stands f program marks e made code real).rise

  -- A place in the window of an event's run, or at one of its ends, lies in no other run and in no part but those of the window.
  module _ (x : ℕ) (event : x < length f.p.events) (o : ℕ) (low : (spots_in f marks x).opens ≤ o) (high : o ≤ (spots_in f marks x).commits) where
    mine : (e : ℕ) → e < length f.p.events → (spots_in f marks e).entry ≤ o → o ≤ (spots_in f marks e).stops → e ≡ x
    mine e real from to =
        elim (eqb_tells e x) [
          | inl same ↦ same.1
          | inr differ ↦ absurd (by ((runs-lie-apart f program marks x made code event).runs e real differ.1))
        ]
      where
        by : ((spots_in f marks e).stops < (spots_in f marks x).entry) ⊎ ((spots_in f marks x).stops < (spots_in f marks e).entry) → ⊥
        by (inl before) = let its = rise x event in let entry = its.entry in let clear = its.clear in omega (arith, before, from, to, low, high, entry, clear)
        by (inr behind) = let its = rise x event in let commits = its.commits in omega (arith, behind, from, to, low, high, commits)

    same_opens : (e : ℕ) → e ≡ x → (spots_in f marks e).opens ≡ (spots_in f marks x).opens
    same_opens e same = ap (λ n. (spots_in f marks n).opens) same

    same_commits : (e : ℕ) → e ≡ x → (spots_in f marks e).commits ≡ (spots_in f marks x).commits
    same_commits e same = ap (λ n. (spots_in f marks n).commits) same

    -- Before the open of a run, from its entry on.
    never_before : (e : ℕ) → e < length f.p.events → (spots_in f marks e).entry ≤ o → o < (spots_in f marks e).opens → ⊥
    never_before e real from before =
        let its = rise e real in
        let opens = its.opens in
        let commits = its.commits in
        let same = same_opens e (mine e real from (omega (arith, before, opens, commits))) in
        omega (arith, same, before, low)

    never_behind : (e : ℕ) → e < length f.p.events → (spots_in f marks e).commits < o → o ≤ (spots_in f marks e).stops → ⊥
    never_behind e real behind to =
        let its = rise e real in
        let entry = its.entry in
        let clear = its.clear in
        let opens = its.opens in
        let same = same_commits e (mine e real (omega (arith, behind, entry, clear, opens)) to) in
        omega (arith, same, behind, high)

    in_window : (e : ℕ) → e < length f.p.events → (spots_in f marks e).opens ≤ o → o ≤ (spots_in f marks e).commits → e ≡ x
    in_window e real from to =
        let its = rise e real in
        let entry = its.entry in
        let clear = its.clear in
        let commits = its.commits in
        mine e real (omega (arith, from, entry, clear)) (omega (arith, to, commits))

    -- It lies behind the head, and not in the boot.
    behind_head : head_end f ≤ o
    behind_head =
        let apart = runs-lie-apart f program marks x made code event in
        let head = apart.head in
        let its = rise x event in
        let entry = its.entry in
        let clear = its.clear in
        omega (arith, head, entry, clear, low)

    no_boot : (o < boot_start marks) ⊎ (boot_turn f marks + 1 < o)
    no_boot = by (runs-lie-apart f program marks x made code event).boot
      where
        by : ((spots_in f marks x).stops < boot_start marks) ⊎ (boot_turn f marks + 1 < (spots_in f marks x).entry) → (o < boot_start marks) ⊎ (boot_turn f marks + 1 < o)
        by (inl before) = let its = rise x event in let commits = its.commits in inl (omega (arith, before, commits, high))
        by (inr behind) = let its = rise x event in let entry = its.entry in let clear = its.clear in inr (omega (arith, behind, entry, clear, low))

    off_boot : (place : ℕ) → boot_start marks ≤ place → place ≤ boot_turn f marks + 1 → o ≡ place → ⊥
    off_boot place from to same = by no_boot
      where
        by : (o < boot_start marks) ⊎ (boot_turn f marks + 1 < o) → ⊥
        by (inl before) = omega (arith, before, from, same)
        by (inr behind) = omega (arith, behind, to, same)

    in_no_boot : lies_in f marks Boot o ≡ true → ⊥
    in_no_boot inside = by (or_cases (nat_le o 3) (lies (boot_start marks) (boot_turn f marks + 1) o) inside)
      where
        by : (nat_le o 3 ≡ true) ⊎ (lies (boot_start marks) (boot_turn f marks + 1) o ≡ true) → ⊥
        by (inl first) = let few = leb-true o 3 first in let head = behind_head in omega (arith, few, head)
        by (inr rest) = let its = lies_is (boot_start marks) (boot_turn f marks + 1) o rest in let to = its.1 in off_boot o its.0 (omega (arith, to)) refl

    in_no_taking : lies_in f marks Taking o ≡ true → ⊥
    in_no_taking inside = let its = lies_is 4 (head_end f) o inside in let to = its.1 in let head = behind_head in omega (arith, to, head)

    in_no_start : (e : ℕ) → e < length f.p.events → lies_in f marks (Start e) o ≡ true → ⊥
    in_no_start e real inside =
        let s = spots_in f marks e in
        let its = lies_is s.entry (s.clear + 1) o inside in
        let up = rise e real in
        let clear = up.clear in
        let to = its.1 in never_before e real its.0 (omega (arith, to, clear))

    in_no_begin : (e : ℕ) → e < length f.p.events → is_short (kind_of f e) ≡ false → lies_in f marks (Begin e) o ≡ true → ⊥
    in_no_begin e real long inside =
        by (or_cases (lies ((spots_in f marks e).clear + 1) ((spots_in f marks e).on + 1) o) (has_lock f e && lies ((spots_in f marks e).lock + 1) (spots_in f marks e).opens o) inside)
      where
        up : SpotsRise (is_short (kind_of f e) ≡ false) (spots_in f marks e)
        up = rise e real

        by : (lies ((spots_in f marks e).clear + 1) ((spots_in f marks e).on + 1) o ≡ true) ⊎ ((has_lock f e && lies ((spots_in f marks e).lock + 1) (spots_in f marks e).opens o) ≡ true) → ⊥
        by (inl first) =
            let its = lies_is ((spots_in f marks e).clear + 1) ((spots_in f marks e).on + 1) o first in
            let from = its.0 in
            let to = its.1 in
            let entry = up.entry in
            let on = up.on long in
            let work = on.1 in
            let lock = on.2 in
            let opens = on.3 in never_before e real (omega (arith, from, entry)) (omega (arith, to, work, lock, opens))
        by (inr again) =
            let there = and_parts (has_lock f e) (lies ((spots_in f marks e).lock + 1) (spots_in f marks e).opens o) again in
            let its = lies_is ((spots_in f marks e).lock + 1) (spots_in f marks e).opens o there.1 in
            let from = its.0 in
            let entry = up.entry in
            let on = up.on long in
            let clear = on.0 in
            let work = on.1 in
            let lock = on.2 in never_before e real (omega (arith, from, entry, clear, work, lock)) its.1

    in_no_work : (e : ℕ) → e < length f.p.events → is_short (kind_of f e) ≡ false → lies_in f marks (Work e) o ≡ true → ⊥
    in_no_work e real long inside =
        let s = spots_in f marks e in
        let its = lies_is s.work s.opens o inside in
        let from = its.0 in
        let up = rise e real in
        let entry = up.entry in
        let on = up.on long in
        let clear = on.0 in
        let work = on.1 in never_before e real (omega (arith, from, entry, clear, work)) its.1

    in_no_lock : (e : ℕ) → e < length f.p.events → is_short (kind_of f e) ≡ false → lies_in f marks (Lock e) o ≡ true → ⊥
    in_no_lock e real long inside =
        let s = spots_in f marks e in
        let its = lies_is (s.lock + 1) s.opens o inside in
        let from = its.0 in
        let up = rise e real in
        let entry = up.entry in
        let on = up.on long in
        let clear = on.0 in
        let work = on.1 in
        let lock = on.2 in never_before e real (omega (arith, from, entry, clear, work, lock)) its.1

    in_no_exit : (e : ℕ) → e < length f.p.events → lies_in f marks (Exit e) o ≡ true → ⊥
    in_no_exit e real inside =
        let s = spots_in f marks e in
        let its = lies_is (s.commits + 1) (s.stops + 1) o inside in
        let from = its.0 in
        let to = its.1 in never_behind e real (omega (arith, from)) (omega (arith, to))

    -- So it is alone, where it is so among the parts of the window.
    alone : (part : Part) → ((e : ℕ) → e < length f.p.events → lies_in f marks (Open e) o ≡ true → Open e ≡ part)
        → ((e : ℕ) → e < length f.p.events → lies_in f marks (Copying e) o ≡ true → Copying e ≡ part)
        → ((e : ℕ) → e < length f.p.events → lies_in f marks (Commit e) o ≡ true → Commit e ≡ part)
        → (program o == 0x0009) ≡ false → StandsAlone l part o
    alone part opened copied committed word = record {
      only = only;
      not_ready = off_boot (boot_turn f marks + 1) (let up = start_first in omega (arith, up)) (omega arith);
      not_boot_end = off_boot (boot_turn f marks) start_first (omega arith);
      not_clear = λ e real same.
          let event = is_event f e real in
          let up = rise e event in
          let entry = up.entry in
          let clear = up.clear in never_before e event (omega (arith, same, entry)) (omega (arith, same, clear));
      not_on = λ e real long same.
          let event = is_event f e real in
          let up = rise e event in
          let entry = up.entry in
          let on = up.on long in
          let clear = on.0 in
          let work = on.1 in
          let lock = on.2 in
          let opens = on.3 in never_before e event (omega (arith, same, entry, clear)) (omega (arith, same, work, lock, opens));
      not_lock = λ e real long same.
          let event = is_event f e real in
          let up = rise e event in
          let entry = up.entry in
          let on = up.on long in
          let clear = on.0 in
          let work = on.1 in
          let lock = on.2 in
          let opens = on.3 in never_before e event (omega (arith, same, entry, clear, work, lock)) (omega (arith, same, opens));
      no_return = word;
    }
      where
        start_first : boot_start marks ≤ boot_turn f marks
        start_first = omega arith

        only : (other : Part) → IsPart l other → lies_in f marks other o ≡ true → other ≡ part
        only Boot is inside = absurd (in_no_boot inside)
        only Taking is inside = absurd (in_no_taking inside)
        only (Start e) is inside = absurd (in_no_start e (is_event f e is) inside)
        only (Begin e) is inside = absurd (in_no_begin e (is_event f e is.0) is.1 inside)
        only (Work e) is inside = absurd (in_no_work e (is_event f e is.0) is.1 inside)
        only (Lock e) is inside = absurd (in_no_lock e (is_event f e is.0) is.1 inside)
        only (Open e) is inside = opened e (is_event f e is) inside
        only (Copying e) is inside = copied e (is_event f e is) inside
        only (Commit e) is inside = committed e (is_event f e is) inside
        only (Exit e) is inside = absurd (in_no_exit e (is_event f e is) inside)

  open_alone : (x : ℕ) → x < length f.p.events → StandsAlone l (Open x) (spots_in f marks x).opens
  open_alone x event =
      let o : ℕ = (spots_in f marks x).opens in
      let up = rise x event in
      let opens = up.opens in
      let low : o ≤ o = omega arith in
      let high : o ≤ (spots_in f marks x).commits = omega (arith, opens) in
      alone x event o low high (Open x)
      (λ e real inside.
      let there = eqb-true (spots_in f marks e).opens o inside in
      let its = rise e real in
      let after = its.opens in ap Open (in_window x event o low high e real (omega (arith, there)) (omega (arith, there, after))))
      (λ e real inside.
      let its = lies_is ((spots_in f marks e).opens + 1) (spots_in f marks e).commits o inside in
      let from = its.0 in
      let to = its.1 in
      let same = same_opens x event o low high e (in_window x event o low high e real (omega (arith, from)) (omega (arith, to))) in absurd (omega (arith, same, from)))
      (λ e real inside.
      let there = eqb-true (spots_in f marks e).commits o inside in
      let its = rise e real in
      let after = its.opens in
      let same = same_opens x event o low high e (in_window x event o low high e real (omega (arith, there, after)) (omega (arith, there))) in absurd (omega (arith, same, there, after)))
      (run_window f program marks made code x event).no_return_at_open

  commit_alone : (x : ℕ) → x < length f.p.events → StandsAlone l (Commit x) (spots_in f marks x).commits
  commit_alone x event =
      let o : ℕ = (spots_in f marks x).commits in
      let up = rise x event in
      let opens = up.opens in
      let low : (spots_in f marks x).opens ≤ o = omega (arith, opens) in
      let high : o ≤ o = omega arith in
      alone x event o low high (Commit x)
      (λ e real inside.
      let there = eqb-true (spots_in f marks e).opens o inside in
      let its = rise e real in
      let after = its.opens in
      let same = same_commits x event o low high e (in_window x event o low high e real (omega (arith, there)) (omega (arith, there, after))) in absurd (omega (arith, same, there, after)))
      (λ e real inside.
      let its = lies_is ((spots_in f marks e).opens + 1) (spots_in f marks e).commits o inside in
      let from = its.0 in
      let to = its.1 in
      let same = same_commits x event o low high e (in_window x event o low high e real (omega (arith, from)) (omega (arith, to))) in absurd (omega (arith, same, to)))
      (λ e real inside.
      let there = eqb-true (spots_in f marks e).commits o inside in
      let its = rise e real in
      let after = its.opens in ap Commit (in_window x event o low high e real (omega (arith, there, after)) (omega (arith, there))))
      (run_window f program marks made code x event).no_return_at_commit

pub layout-places : (f : Makings) (program marks : ℕ → ℕ) (m : Map) → LayoutPlaces f program marks m
layout-places f program marks m made code named = record {
  events = events;
  ready = sym vector.ready ∙ sym named.ready;
  opens = λ x real. open_alone f program marks m made code x (is_event f x real);
  commits = λ x real. commit_alone f program marks m made code x (is_event f x real);
  boot_misses_ready = or_from (nat_le (boot_turn f marks + 1) 3) (lies (boot_start marks) (boot_turn f marks + 1) (boot_turn f marks + 1))
      (lt-leb (boot_turn f marks + 1) 3 (let behind = vector.behind in omega (arith, behind))) (lies_not (boot_start marks) (boot_turn f marks + 1) (boot_turn f marks + 1) (omega arith));
  boot_end_is_before = λ same. omega (arith, same);
}
  where
    vector : VectorStands f program marks
    vector = vector-of-code-stands f program marks made code

    events : (x : ℕ) (e : MapEvent) → item m.events x ≡ Some e → IsEventOf (layout_with f program marks m) x e
    events x e is =
        let found : slice_get m.events x ≡ Some e = sym (item_get m.events x) ∙ is in
        let event : slice_get f.p.events x ≡ Some (event_of e) = sym (ap (λ es. slice_get es x) named.events) ∙ get_mapped event_of m.events x e found in
        let real = get_inside f.p.events x (event_of e) event in
        let source : event_source f.p x ≡ source_name e.source = ap (λ o. elim o [ Some k ↦ k.source | None ↦ [] ]) event in
        let run = each-run-stands f program marks x made code real in
        record {
          real = real_event f x real;
          source = source_is f made x e.source real source;
          opens = sym run.opens ∙ sym (named.opens x e found);
          commits = sym run.commits ∙ sym (named.commits x e found);
        }
