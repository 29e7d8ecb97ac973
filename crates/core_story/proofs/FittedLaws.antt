-- A timing that fits a program: its events are listed, its bound on settling is the program's, and runs nest no deeper than
-- the program has levels.
use Rattle.std.specs.Prelude.{ℕ, zero, suc, ◌+◌, ◌-◌, ◌*◌, ◌<◌, ◌≤◌, ◌==◌, Bool, true, false, ◌||◌, nat_lt, cond, List, [], ◌∷◌, length, map, sum_by, count_by, Option, Some, None, if◌then◌else◌}
use Rattle.std.specs.List.{AllByRecursion, list_any}
use Rattle.std.proofs.Common.{◌≡◌, refl, sym, ap, subst, ◌∙◌, arith}
use Rattle.std.proofs.lemmas.Bool.{eq-eqb, ne_eqb, eqb-true}
use Rattle.std.proofs.lemmas.Bool.Decides.{nat_tests}
use Rattle.std.proofs.lemmas.List.Sums.{sum_by-cons}
use Rattle.frp_tree.specs.declared.syntax.Event.{Event}
use Rattle.frp_tree.specs.Tree.{ProgramTree}
use Rattle.efrp_meaning.specs.Bounds.{body, off, levels, distinct, settle_bound}
use Rattle.map_file.specs.declared.maps.MapEvent.{MapEvent}
use Rattle.map_file.specs.declared.maps.Map.{Map}
use Rattle.map_file.specs.MapRules.{IsMap, IsEvent}
use Rattle.firmware_promises.specs.Firmware.{event_of}
use Rattle.timed_core.specs.Timing.{Timing, IsListed}
use Rattle.timed_core.specs.Settling.{settle_steps}
use Rattle.timed_core.specs.Steps.{Run, Phase, top_level, fresh}
use Rattle.timed_core.specs.Counts.{one}
use Rattle.timed_core.specs.Steps.Phase.{Boots, Rests, Works, Owes, Chooses, Begins, Repeats, Nears, Copies, Leaves}
use Rattle.timed_core.specs.Shape.{Tower, Shape}
use Rattle.timed_core.proofs.NestingLaws.{tower_is_low, is_tower}
use Rattle.core_story.specs.Values.{item}
use Rattle.core_story.specs.Interface.{Fitted, numbers_from, nested}
use Rattle.core_story.proofs.ItemLaws.{event_with_level, level_of_item}

-- The numbers from one on: none before it, and each once.

abbrev is_number : ℕ → ℕ → Bool
is_number y z = z == y

none_before : (es : List MapEvent) (k y : ℕ) → y < k → count_by (is_number y) (numbers_from k es) ≡ 0
none_before [] k y h = refl
none_before (e ∷ es) k y h =
    let here = ap {B = ℕ} (λ b. cond b 1 0) (ne_eqb k y (λ same. let s : k ≡ y = same in absurd (omega arith))) in
    sum_by-cons (λ z. cond (is_number y z) 1 0) k (numbers_from (suc k) es) ∙ omega (arith, here, none_before es (suc k) y (omega arith))

abbrev priority_in : Option MapEvent → ℕ
priority_in o = elim o [ Some e ↦ e.priority | None ↦ 0 ]

positive_test : (n : ℕ) → 0 < n → one (nat_lt 0 n) ≡ 1
positive_test n h = grind (arith, nat_tests)

one_at : (es : List MapEvent) (k x y : ℕ) → y ≡ k + x → AllByRecursion IsEvent es → count_by (is_number y) (numbers_from k es) ≡ one (nat_lt 0 (priority_in (item es x)))
one_at [] k x y e all = refl
one_at (d ∷ ds) k zero y e all =
    let here = ap {B = ℕ} (λ b. cond b 1 0) (eq-eqb k y (omega (arith, e))) in
    sum_by-cons (λ z. cond (is_number y z) 1 0) k (numbers_from (suc k) ds)
    ∙ omega (arith, here, none_before ds (suc k) y (omega (arith, e)), positive_test d.priority all.0.priority.0)
one_at (d ∷ ds) k (suc x) y e all =
    let here = ap {B = ℕ} (λ b. cond b 1 0) (ne_eqb k y (λ same. let s : k ≡ y = same in absurd (omega (arith, e)))) in
    sum_by-cons (λ z. cond (is_number y z) 1 0) k (numbers_from (suc k) ds) ∙ omega (arith, here, one_at ds (suc k) x y (omega (arith, e)) all.1)

-- A sum over the numbers is one over the events.
same_sum : (f : ℕ → ℕ) (g : Event → ℕ) (es : List MapEvent) (k : ℕ) → ((x y : ℕ) (e : MapEvent) → y ≡ k + x → item es x ≡ Some e → f y ≡ g (event_of e))
    → sum_by f (numbers_from k es) ≡ sum_by g (map event_of es)
same_sum f g [] k h = refl
same_sum f g (e ∷ es) k h =
    let first = h 0 k e (omega arith) refl in
    let rest = same_sum f g es (suc k) (λ x y d at there. h (suc x) y d (omega (arith, at)) there) in
    sum_by-cons f k (numbers_from (suc k) es) ∙ omega (arith, first, rest, sum_by-cons g (event_of e) (map event_of es))

-- A list's distinct numbers.
abbrev without_doubles : List ℕ → List ℕ
without_doubles [] = []
without_doubles (n ∷ ns) = if list_any (λ m. m == n) ns then without_doubles ns else n ∷ without_doubles ns

as_many : (ns : List ℕ) → length (without_doubles ns) ≡ distinct ns
as_many [] = refl
as_many (n ∷ ns) = by (list_any (λ m. m == n) ns) (as_many ns)
  where
    by : (b : Bool) → length (without_doubles ns) ≡ distinct ns → length (if b then without_doubles ns else n ∷ without_doubles ns) ≡ (if b then distinct ns else 1 + distinct ns)
    by true h = h
    by false h = omega (arith, h)

kept_once : (ns : List ℕ) (v : ℕ) → list_any (λ l. l == v) ns ≡ true → list_any (λ l. l == v) (without_doubles ns) ≡ true
kept_once [] v h = h
kept_once (n ∷ ns) v h = by (list_any (λ m. m == n) ns) refl (n == v) refl h (kept_once ns v)
  where
    by : (b : Bool) → list_any (λ m. m == n) ns ≡ b → (c : Bool) → (n == v) ≡ c → (c || list_any (λ l. l == v) ns) ≡ true
        → (list_any (λ l. l == v) ns ≡ true → list_any (λ l. l == v) (without_doubles ns) ≡ true)
        → list_any (λ l. l == v) (if b then without_doubles ns else n ∷ without_doubles ns) ≡ true
    by true double true same it rest = rest (subst (λ w. list_any (λ l. l == w) ns ≡ true) (eqb-true n v same) double)
    by true double false other it rest = rest it
    by false single true same it rest = rw same refl
    by false single false other it rest = rw (other, rest it) refl

has_priority : (es : List MapEvent) (x : ℕ) (e : MapEvent) → item es x ≡ Some e → list_any (λ l. l == e.priority) (map (λ (d : Event). d.priority) (map event_of es)) ≡ true
has_priority [] x e h = absurd cc
has_priority (d ∷ ds) zero e h = let same : d ≡ e = cc in rw (eq-eqb d.priority e.priority (ap (λ (a : MapEvent). a.priority) same)) refl
has_priority (d ∷ ds) (suc x) e h = by (d.priority == e.priority) (has_priority ds x e h)
  where
    by : (b : Bool) → list_any (λ l. l == e.priority) (map (λ (d : Event). d.priority) (map event_of ds)) ≡ true
        → (b || list_any (λ l. l == e.priority) (map (λ (d : Event). d.priority) (map event_of ds))) ≡ true
    by true rest = refl
    by false rest = rest

module _ (p : ProgramTree) (m : Map) (is_map : IsMap m) (t : Timing) (fitted : Fitted p m t) where
  pub is_listed : IsListed t
  is_listed x =
      ap (count_by (is_number x)) fitted.events ∙ one_at m.events 0 x x (omega arith) is_map.events ∙ ap (λ l. one (nat_lt 0 l)) (sym (fitted.level x))

  module _ (names : map event_of m.events ≡ p.events) where
    cost : (x y : ℕ) (e : MapEvent) → y ≡ 0 + x → item m.events x ≡ Some e → 3 * (t.body y - t.spare) + 4 * off p ≡ 3 * body p e.name + 4 * off p
    cost x y e at there =
        let same : x ≡ y = omega (arith, at) in
        let its_body = fitted.body y e (subst (λ z. item m.events z ≡ Some e) same there) in
        let bare : t.body y - t.spare ≡ body p e.name = omega (arith, its_body) in
        ap (λ n. 3 * n + 4 * off p) bare

    pub settles_in : settle_steps t (off p) ≤ settle_bound p
    settles_in =
        let total = ap (sum_by (λ x. 3 * (t.body x - t.spare) + 4 * off p)) fitted.events
        ∙ same_sum (λ x. 3 * (t.body x - t.spare) + 4 * off p) (λ (e : Event). 3 * body p e.name + 4 * off p) m.events 0 cost
        ∙ ap (sum_by (λ (e : Event). 3 * body p e.name + 4 * off p)) names in
        omega (arith, total, fitted.boot)

    abbrev its_levels : List ℕ
    its_levels = without_doubles (map (λ (e : Event). e.priority) p.events)

    has_level : (x : ℕ) → 0 < t.level x → list_any (λ l. l == t.level x) its_levels ≡ true
    has_level x h =
        let there = event_with_level m x (omega (arith, fitted.level x)) in
        let same = fitted.level x ∙ level_of_item m x there.0 there.1 in
        subst (λ v. list_any (λ l. l == v) its_levels ≡ true) (sym same)
        (kept_once (map (λ (e : Event). e.priority) p.events) there.0.priority
        (subst (λ (es : List Event). list_any (λ l. l == there.0.priority) (map (λ (e : Event). e.priority) es) ≡ true) names (has_priority m.events x there.0 there.1)))

    low : (st : List Run) → Tower t st → length st ≤ levels p
    low st tower = omega (arith, tower_is_low t its_levels has_level st tower, as_many (map (λ (e : Event). e.priority) p.events))

    low_with : (st : List Run) (x : ℕ) → Tower t st → top_level t st < t.level x → length st + 1 ≤ levels p
    low_with st x tower above = let one_more = low (fresh t x ∷ st) (omega arith, above, tower) in omega (arith, one_more)

    -- Interrupts nest no deeper than there are levels.
    pub nests : (ph : Phase) (st : List Run) → Shape t ph st → nested ph st ≤ levels p
    nests (Chooses j g) st s = let above = s.1 in low_with st above.0 s.0 above.2
    nests (Leaves e j) st s = low_with st e s.1 s.2
    nests (Boots j) st s = low st (is_tower t (Boots j) st s)
    nests Rests st s = low st (is_tower t Rests st s)
    nests Works st s = low st (is_tower t Works st s)
    nests (Owes on g) st s = low st (is_tower t (Owes on g) st s)
    nests (Begins j) st s = low st (is_tower t (Begins j) st s)
    nests (Repeats j) st s = low st (is_tower t (Repeats j) st s)
    nests (Nears j) st s = low st (is_tower t (Nears j) st s)
    nests (Copies j) st s = low st (is_tower t (Copies j) st s)
