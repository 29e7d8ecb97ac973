-- The tie between a tale's core and the core of lists that a reading tells of, and that it lasts over arrivals.
use Rattle.std.specs.Prelude.{ℕ, ◌<◌, ◌≤◌, ◌==◌, Bool, true, false, ◌||◌, List, [], ◌∷◌, length, map, reverse, Option, Some, None}
use Rattle.std.specs.List.{AllByRecursion, list_any}
use Rattle.std.proofs.Common.{◌≡◌, refl, sym, ap, subst, ◌∙◌, arith}
use Rattle.frp_tree.specs.Tree.{ProgramTree}
use Rattle.map_file.specs.declared.maps.Map.{Map}
use Rattle.preempt_core.specs.declared.steps.Step.TheVariants as core
use Rattle.preempt_core.specs.Runs.{Active, Told, committed_in, told}
use Rattle.timed_core.specs.Steps.{Run, Phase}
use Rattle.timed_core.specs.Steps.Phase.{Boots, Rests, Works, Owes, Chooses, Begins, Repeats, Nears, Copies, Leaves}
use Rattle.core_steps.specs.LogSteps.{Reading, add, arrive, arrive_all, held_back}
use Rattle.core_steps.specs.Tied.{priorities_of, next_state, taken_in}
use Rattle.core_steps.proofs.ArriveLaws.{arrivals_told}
use Rattle.core_steps.proofs.StandLaws.{Stands, stands_later}

-- It is among these events.
abbrev pub is_among : List ℕ → ℕ → Bool
is_among xs x = list_any (λ y. x == y) xs

-- While an event is chosen arrivals are held back, and what waits in the core of lists was set at the taking; else none is.
abbrev pub Choosing : Phase → Option (List ℕ) → (ℕ → Bool) → Type 0
Choosing (Chooses j g) held latched = (hs : List ℕ) × (held ≡ Some hs) × ((x : ℕ) → latched x ≡ true → g x ≡ true)
Choosing _ held latched = held ≡ None

-- The runs stand as the tale's do; where one leaves, above them the one that has committed.
abbrev pub LeavesTop : ℕ → ℕ → List Run → List Active → Type 0
LeavesTop last n st [] = ⊥
LeavesTop last n st (a ∷ rest) = (a.committed ≡ true) × Stands last n st rest

abbrev pub StandsIn : Phase → ℕ → ℕ → List Run → List Active → Type 0
StandsIn (Leaves e j) last n st runs = LeavesTop last n st runs
StandsIn _ last n st runs = Stands last n st runs

-- Marks of runs that have turned interrupts on: all; all but the top one; and all beneath the top one.
abbrev pub marks : List Run → List Bool
marks st = map (λ (r : Run). true) st

abbrev pub FalseTop : List Run → List Bool → Type 0
FalseTop [] turned = ⊥
FalseTop (r ∷ rs) turned = turned ≡ false ∷ marks rs

abbrev pub AnyTop : List Run → List Bool → Type 0
AnyTop [] turned = ⊥
AnyTop (r ∷ rs) turned = (b : Bool) × (turned ≡ b ∷ marks rs)

abbrev pub Marked : Phase → List Run → List Bool → Type 0
Marked (Begins j) st turned = FalseTop st turned
Marked (Nears j) st turned = AnyTop st turned
Marked (Copies j) st turned = AnyTop st turned
Marked (Leaves e j) st turned = (b : Bool) × (turned ≡ b ∷ marks st)
Marked _ st turned = turned ≡ marks st

-- The core of lists has come to what the tale's core has: by what waits, the runs, the marks, and what was taken and committed.
pub record Tie (p : ProgramTree) (m : Map) (first : List ℕ) (flags : ℕ → Bool) (ph : Phase) (st : List Run) (r : Reading) (ts cs : List ℕ) : Type 0 where
  pub core : Told
  pub allowed : told (priorities_of m) (next_state p m) first r.steps ≡ Some core
  pub waits : (x : ℕ) → flags x ≡ (is_among (held_back r) x || core.latched x)
  pub below : AllByRecursion (λ x. x < length (priorities_of m)) (held_back r)
  pub choosing : Choosing ph r.held core.latched
  pub stands : StandsIn ph core.last (length core.answers) st core.stack
  pub low : core.last ≤ length core.answers
  pub marked : Marked ph st r.turned
  pub takes : reverse (taken_in core.answers) ≡ ts
  pub commits : reverse (committed_in core.answers) ≡ cs

choosing_none : (ph : Phase) (a b : ℕ → Bool) → Choosing ph None a → Choosing ph None b
choosing_none (Chooses j g) a b h = let it = h.1 in absurd cc
choosing_none (Boots j) a b h = h
choosing_none Rests a b h = h
choosing_none Works a b h = h
choosing_none (Owes on g) a b h = h
choosing_none (Begins j) a b h = h
choosing_none (Repeats j) a b h = h
choosing_none (Nears j) a b h = h
choosing_none (Copies j) a b h = h
choosing_none (Leaves e j) a b h = h

choosing_more : (ph : Phase) (a : ℕ → Bool) (hs : List ℕ) (e : ℕ) → Choosing ph (Some hs) a → Choosing ph (Some (e ∷ hs)) a
choosing_more (Chooses j g) a hs e h = (e ∷ hs, refl, h.2)
choosing_more (Boots j) a hs e h = absurd cc
choosing_more Rests a hs e h = absurd cc
choosing_more Works a hs e h = absurd cc
choosing_more (Owes on g) a hs e h = absurd cc
choosing_more (Begins j) a hs e h = absurd cc
choosing_more (Repeats j) a hs e h = absurd cc
choosing_more (Nears j) a hs e h = absurd cc
choosing_more (Copies j) a hs e h = absurd cc
choosing_more (Leaves e' j) a hs e h = absurd cc

leaves_later : (last n k : ℕ) (st : List Run) (runs : List Active) → n ≤ k → LeavesTop last n st runs → LeavesTop last k st runs
leaves_later last n k st [] h s = s
leaves_later last n k st (a ∷ rest) h s = (s.0, stands_later last n k st rest h s.1)

in_later : (ph : Phase) (last n k : ℕ) (st : List Run) (runs : List Active) → n ≤ k → StandsIn ph last n st runs → StandsIn ph last k st runs
in_later (Leaves e j) last n k st runs h s = leaves_later last n k st runs h s
in_later (Chooses j g) last n k st runs h s = stands_later last n k st runs h s
in_later (Boots j) last n k st runs h s = stands_later last n k st runs h s
in_later Rests last n k st runs h s = stands_later last n k st runs h s
in_later Works last n k st runs h s = stands_later last n k st runs h s
in_later (Owes on g) last n k st runs h s = stands_later last n k st runs h s
in_later (Begins j) last n k st runs h s = stands_later last n k st runs h s
in_later (Repeats j) last n k st runs h s = stands_later last n k st runs h s
in_later (Nears j) last n k st runs h s = stands_later last n k st runs h s
in_later (Copies j) last n k st runs h s = stands_later last n k st runs h s

or_swap : (a b c : Bool) → (a || (b || c)) ≡ ((b || a) || c)
or_swap true true c = refl
or_swap true false c = refl
or_swap false true c = refl
or_swap false false c = refl

pub or_left_false : (a b : Bool) → a ≡ false → (a || b) ≡ b
or_left_false true b h = absurd cc
or_left_false false b h = refl

or_group : (a b c : Bool) → (a || (b || c)) ≡ ((a || b) || c)
or_group true b c = refl
or_group false b c = refl

or_one : (a b : Bool) → (a || b) ≡ ((a || false) || b)
or_one true b = refl
or_one false b = refl

module _ (p : ProgramTree) (m : Map) (first : List ℕ) where
  -- The tie tells of each flag alone.
  pub same_flags : (f g : ℕ → Bool) (ph : Phase) (st : List Run) (r : Reading) (ts cs : List ℕ) → ((x : ℕ) → g x ≡ f x) → Tie p m first f ph st r ts cs → Tie p m first g ph st r ts cs
  same_flags f g ph st r ts cs same t = record {
    core = t.core;
    allowed = t.allowed;
    waits = λ x. same x ∙ t.waits x;
    below = t.below;
    choosing = t.choosing;
    stands = t.stands;
    low = t.low;
    marked = t.marked;
    takes = t.takes;
    commits = t.commits;
  }

  module _ (ph : Phase) (st : List Run) (ts cs : List ℕ) where
    -- One event arrives.
    tie_arrive : (f : ℕ → Bool) (r : Reading) (e : ℕ) → e < length (priorities_of m) → Tie p m first f ph st r ts cs → Tie p m first (λ x. (x == e) || f x) ph st (arrive r e) ts cs
    tie_arrive f r e is_low t = by r.held refl
      where
        by : (held : Option (List ℕ)) → r.held ≡ held → Tie p m first (λ x. (x == e) || f x) ph st (elim held [ Some hs ↦ record r { held = Some (e ∷ hs) } | None ↦ add (core.Arrive e) r ]) ts cs
        by (Some hs) it = record {
          core = t.core;
          allowed = t.allowed;
          waits = λ x. ap (λ b. (x == e) || b) (t.waits x ∙ ap (λ (o : Option (List ℕ)). is_among (elim o [ Some h ↦ h | None ↦ [] ]) x || t.core.latched x) it) ∙ or_group (x == e) (is_among hs x) (t.core.latched x);
          below = (is_low, subst (λ (o : Option (List ℕ)). AllByRecursion (λ x. x < length (priorities_of m)) (elim o [ Some h ↦ h | None ↦ [] ])) it t.below);
          choosing = choosing_more ph t.core.latched hs e (subst (λ (o : Option (List ℕ)). Choosing ph o t.core.latched) it t.choosing);
          stands = t.stands;
          low = t.low;
          marked = t.marked;
          takes = t.takes;
          commits = t.commits;
        }
        by None it =
            let come = arrivals_told (priorities_of m) (next_state p m) first (e ∷ []) r.steps t.core t.allowed (is_low, tt) in
            let after : Told = come.0 in
            let a = come.2 in
            record {
              core = after;
              allowed = come.1;
              waits = λ x.
                  ap (λ b. (x == e) || b) (t.waits x ∙ ap (λ (o : Option (List ℕ)). is_among (elim o [ Some h ↦ h | None ↦ [] ]) x || t.core.latched x) it)
                  ∙ or_one (x == e) (t.core.latched x)
                  ∙ sym (ap (λ (o : Option (List ℕ)). is_among (elim o [ Some h ↦ h | None ↦ [] ]) x || after.latched x) it ∙ a.latched x);
              below = t.below;
              choosing = subst (λ (o : Option (List ℕ)). Choosing ph o after.latched) (sym it) (choosing_none ph t.core.latched after.latched (subst (λ (o : Option (List ℕ)). Choosing ph o t.core.latched) it t.choosing));
              stands =
                  subst (λ (runs : List Active). StandsIn ph after.last (length after.answers) st runs) (sym a.stack)
                  (subst (λ (l : ℕ). StandsIn ph l (length after.answers) st t.core.stack) (sym a.last) (in_later ph t.core.last (length t.core.answers) (length after.answers) st t.core.stack a.longer t.stands));
              low = (let last = a.last in let longer = a.longer in let low = t.low in omega (arith, last, longer, low));
              marked = t.marked;
              takes = ap (λ (xs : List ℕ). reverse xs) a.taken ∙ t.takes;
              commits = ap (λ (xs : List ℕ). reverse xs) a.committed ∙ t.commits;
            }

    -- Events arrive.
    pub tie_arrivals : (xs : List ℕ) (f : ℕ → Bool) (r : Reading) → AllByRecursion (λ x. x < length (priorities_of m)) xs → Tie p m first f ph st r ts cs
        → Tie p m first (λ x. is_among xs x || f x) ph st (arrive_all r xs) ts cs
    tie_arrivals [] f r all t = t
    tie_arrivals (e ∷ xs) f r all t =
        same_flags (λ x. is_among xs x || ((x == e) || f x)) (λ x. is_among (e ∷ xs) x || f x) ph st (arrive_all (arrive r e) xs) ts cs
        (λ x. sym (or_swap (is_among xs x) (x == e) (f x)))
        (tie_arrivals xs (λ x. (x == e) || f x) (arrive r e) all.1 (tie_arrive f r e all.0 t))
