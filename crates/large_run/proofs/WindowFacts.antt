-- Where all have reacted no window stands open: it would close later, by a commit that nothing was latched for.
use Rattle.std.proofs.Common.{◌≡◌, ℕ, zero, suc, ◌+◌, ◌-◌, ◌<◌, ◌≤◌, Bool, true, false, List, [], ◌∷◌, ◌++◌, length, refl, sym, ap, inl, inr, ◌∙◌, arith}
use Rattle.std.specs.Prelude.{◌≢◌, ◌⊎◌}
use Rattle.std.specs.List.{AllByRecursion, filter, flat_map}
use Rattle.std.proofs.lemmas.Bool.{eqb-true}
use Rattle.std.proofs.lemmas.List.{append_assoc, append_cancel_left, length-append, length-map}
use Rattle.pic_machine.specs.declared.steps.Did.{Did}
use Rattle.pic_machine.specs.declared.steps.Did.TheVariants.{Ran, Stopped, Took}
use Rattle.pic_machine.specs.Boundary.{Step}
use Rattle.pic_machine.specs.Dids.{is_run_at}
use Rattle.pic_machine.specs.Run.{Log}
use Rattle.map_file.specs.declared.maps.MapEvent.{MapEvent}
use Rattle.map_file.specs.declared.maps.Map.{Map}
use Rattle.map_file.specs.MapRules.{AllDiffer}
use Rattle.efrp_meaning.specs.Bounds.{off}
use Rattle.frp_tree.specs.Tree.{ProgramTree}
use Rattle.firmware_promises.specs.Counts.{commits, committed_by, opened_by, opens, ran_at}
use Rattle.firmware_promises.specs.Firmware.{code_addresses}
use Rattle.firmware_promises.specs.Follows.{Alternates, ClosesInTime, NoWindow, Window}
use Rattle.large_run.proofs.TallyFacts.{commits-more}

-- A step opens one event at most, since code addresses differ.
same-run : (did : Did) (a b : ℕ) → is_run_at a did ≡ true → is_run_at b did ≡ true → a ≡ b
same-run Took a b h k = let it = h in cc
same-run (Ran at word) a b h k = sym (eqb-true at a h) ∙ eqb-true at b k
same-run (Stopped at why) a b h k = let it = h in cc

apart : (es : List MapEvent) (rest : List ℕ) (a : ℕ) → AllByRecursion (λ (y : ℕ). y ≢ a) (flat_map (λ (e : MapEvent). e.«open» ∷ e.commit ∷ []) es ++ rest) → AllByRecursion (λ (e : MapEvent). e.«open» ≢ a) es
apart [] rest a h = tt
apart (e ∷ es) rest a h = (h.0, apart es rest a h.1.1)

opens-differ : (es : List MapEvent) (rest : List ℕ) → AllDiffer (λ (a : ℕ). a) (flat_map (λ (e : MapEvent). e.«open» ∷ e.commit ∷ []) es ++ rest) → AllDiffer (λ (e : MapEvent). e.«open») es
opens-differ [] rest h = tt
opens-differ (e ∷ es) rest h = (apart es rest e.«open» h.0.1, opens-differ es rest h.1.1)

none-else : (did : Did) (a : ℕ) (es : List MapEvent) → is_run_at a did ≡ true → AllByRecursion (λ (e : MapEvent). e.«open» ≢ a) es → length (filter (λ (e : MapEvent). is_run_at e.«open» did) es) ≡ 0
none-else did a [] ran h = refl
none-else did a (e ∷ es) ran h = by (is_run_at e.«open» did) refl (none-else did a es ran h.1)
  where
    by : (b : Bool) → is_run_at e.«open» did ≡ b → length (filter (λ (x : MapEvent). is_run_at x.«open» did) es) ≡ 0 → length (filter (λ (x : MapEvent). is_run_at x.«open» did) (e ∷ es)) ≡ 0
    by true its rest = absurd (h.0 (same-run did e.«open» a its ran))
    by false its rest = rw its rest

one-at-most : (did : Did) (es : List MapEvent) → AllDiffer (λ (e : MapEvent). e.«open») es → length (filter (λ (e : MapEvent). is_run_at e.«open» did) es) ≤ 1
one-at-most did [] h = omega arith
one-at-most did (e ∷ es) h = by (is_run_at e.«open» did) refl (one-at-most did es h.1)
  where
    by : (b : Bool) → is_run_at e.«open» did ≡ b → length (filter (λ (x : MapEvent). is_run_at x.«open» did) es) ≤ 1 → length (filter (λ (x : MapEvent). is_run_at x.«open» did) (e ∷ es)) ≤ 1
    by true its rest = rw its (let none = none-else did e.«open» es its h.0 in omega (arith, none))
    by false its rest = rw its rest

pub opens-one : (m : Map) (step : Step) → AllDiffer (λ (a : ℕ). a) (code_addresses m) → length (opened_by m step) ≤ 1
opens-one m step differ =
    let few = one-at-most step.did m.events (opens-differ m.events _ differ.1) in
    let same = length-map (filter (λ (e : MapEvent). ran_at e.«open» step) m.events) (λ (e : MapEvent). e.name) in
    omega (arith, few, same)

module _ {A : Type 0} where
  lone : (xs os : List A) (e : A) → os ≡ xs ++ e ∷ [] → length os ≤ 1 → xs ≡ []
  lone [] os e is few = refl
  lone (x ∷ xs) os e is few = let many = length-append xs (e ∷ []) in let same = ap length is in absurd (omega (arith, many, same, few))

-- A window that stands open was opened at a step, and nothing has committed since.
record OpenSince (m : Map) (log : Log) (k : ℕ) (e : List ℕ) : Type 0 where
  s : ℕ
  before : s < k
  opened : opened_by m (log s) ≡ e ∷ []
  still : (t : ℕ) → s < t → t < k → committed_by m (log t) ≡ []

module _ (m : Map) (log : Log) (differ : AllDiffer (λ (a : ℕ). a) (code_addresses m)) (n : ℕ) (turns : Alternates m log n) where
  just_now : (k : ℕ) (e : List ℕ) (cs : List (List ℕ)) → opened_by m (log k) ≡ cs ++ e ∷ [] → OpenSince m log (suc k) e
  just_now k e cs is =
      let none = lone cs (opened_by m (log k)) e is (opens-one m (log k) differ) in
      record {
        s = k;
        before = omega arith;
        opened = is ∙ ap (λ (xs : List (List ℕ)). xs ++ e ∷ []) none;
        still = λ t above below. absurd (omega (arith, above, below));
      }

  open-since : (k : ℕ) → k ≤ n → (e : List ℕ) → Window m log k e → OpenSince m log k e
  open-since zero inside e window = let it = window in cc
  open-since (suc k) inside e window = by (turns k (omega (arith, inside))) (open-since k (omega (arith, inside)))
    where
      after : ((x : List ℕ) → Window m log k x → OpenSince m log k x) → (d : List ℕ) (cs : List (List ℕ)) → committed_by m (log k) ≡ cs → opens m log k ≡ commits m log k ++ d ∷ [] → d ∷ opened_by m (log k) ≡ cs ++ e ∷ [] → OpenSince m log (suc k) e
      after earlier d [] none was is =
          let last : d ≡ e = let it = is in cc in
          let from = earlier e (was ∙ ap (λ (x : List ℕ). commits m log k ++ x ∷ []) last) in
          record {
            s = from.s;
            before = (let less = from.before in omega (arith, less));
            opened = from.opened;
            still = λ t above below. still-here from none t above below (t_is t below);
          }
        where
          t_is : (t : ℕ) → t < suc k → (t < k) ⊎ (t ≡ k)
          t_is t below = decide (eq_or_less t k below)
            where
              eq_or_less : (a b : ℕ) → a < suc b → (a < b) ⊎ (a ≡ b)
              eq_or_less zero zero h = inr refl
              eq_or_less zero (suc b) h = inl (omega arith)
              eq_or_less (suc a) zero h = absurd (omega (arith, h))
              eq_or_less (suc a) (suc b) h = next (eq_or_less a b (omega (arith, h)))
                where
                  next : (a < b) ⊎ (a ≡ b) → (suc a < suc b) ⊎ (suc a ≡ suc b)
                  next (inl g) = inl (omega (arith, g))
                  next (inr g) = inr (ap suc g)

              decide : (t < k) ⊎ (t ≡ k) → (t < k) ⊎ (t ≡ k)
              decide it = it

          still-here : (from : OpenSince m log k e) → committed_by m (log k) ≡ [] → (t : ℕ) → from.s < t → t < suc k → (t < k) ⊎ (t ≡ k) → committed_by m (log t) ≡ []
          still-here from none t above below (inl less) = from.still t above less
          still-here from none t above below (inr same) = ap (λ (j : ℕ). committed_by m (log j)) same ∙ none
      after earlier d (c ∷ cs) some was is = just_now k e cs (let it = is in cc)

      by : NoWindow m log k ⊎ ((d : List ℕ) × Window m log k d) → ((x : List ℕ) → Window m log k x → OpenSince m log k x) → OpenSince m log (suc k) e
      by (inl none) earlier =
          just_now k e (committed_by m (log k))
          (append_cancel_left (commits m log k) _ _ (ap (λ (xs : List (List ℕ)). xs ++ opened_by m (log k)) (sym none) ∙ window ∙ append_assoc (commits m log k) (committed_by m (log k)) (e ∷ [])))
      by (inr (d, was)) earlier =
          after earlier d (committed_by m (log k)) refl was
          (append_cancel_left (commits m log k) _ _
          (sym (append_assoc (commits m log k) (d ∷ []) (opened_by m (log k))) ∙ ap (λ (xs : List (List ℕ)). xs ++ opened_by m (log k)) (sym was) ∙ window ∙ append_assoc (commits m log k) (committed_by m (log k)) (e ∷ [])))

-- A number that never falls.
pub never-falls : (f : ℕ → ℕ) → ((k : ℕ) → f k ≤ f (k + 1)) → (a d : ℕ) → f a ≤ f (a + d)
never-falls f more a zero = let e : a ≡ a + 0 = omega arith in let same = ap f e in omega (arith, same)
never-falls f more a (suc d) =
    let before = never-falls f more a d in
    let next = more (a + d) in
    let e : a + d + 1 ≡ a + suc d = omega arith in
    let same = ap f e in
    omega (arith, before, next, same)

-- No window is open after k steps, where nothing commits in the next Off + 1.
pub no-window : (p : ProgramTree) (m : Map) (log : Log) (k : ℕ) → AllDiffer (λ (a : ℕ). a) (code_addresses m) → Alternates m log (k + off p + 1) → ClosesInTime p m log (k + off p + 1)
    → length (commits m log (k + off p + 1)) ≡ length (commits m log k) → NoWindow m log k
no-window p m log k differ turns closes same = by (turns k (omega arith))
  where
    grows : (a d : ℕ) → length (commits m log a) ≤ length (commits m log (a + d))
    grows = never-falls (λ n. length (commits m log n)) (λ n. let more = commits-more m log n in omega (arith, more))

    closed : (e : List ℕ) → OpenSince m log k e → ⊥
    closed e from =
        let below = from.before in
        let by_then = closes from.s e (omega (arith, below)) from.opened in
        before_or_past by_then.0 by_then.1 by_then.2 by_then.3 (less_or_more by_then.0 k)
      where
        less_or_more : (a b : ℕ) → (a < b) ⊎ (b ≤ a)
        less_or_more a zero = inr (omega arith)
        less_or_more zero (suc b) = inl (omega arith)
        less_or_more (suc a) (suc b) = next (less_or_more a b)
          where
            next : (a < b) ⊎ (b ≤ a) → (suc a < suc b) ⊎ (suc b ≤ suc a)
            next (inl h) = inl (omega (arith, h))
            next (inr h) = inr (omega (arith, h))

        before_or_past : (t : ℕ) → from.s < t → t ≤ from.s + off p → committed_by m (log t) ≡ e ∷ [] → (t < k) ⊎ (k ≤ t) → ⊥
        before_or_past t above in_time is (inl less) = let none = from.still t above less in let it = sym none ∙ is in cc
        before_or_past t above in_time is (inr past) =
            let below = from.before in
            let here = grows k (t - k) in
            let more = commits-more m log t in
            let one = ap length is in
            let rest = grows (t + 1) ((k + off p) - t) in
            let e1 : k + (t - k) ≡ t = omega (arith, past) in
            let e2 : t + 1 + ((k + off p) - t) ≡ k + off p + 1 = omega (arith, in_time, past, below) in
            let s1 = ap (λ n. length (commits m log n)) e1 in
            let s2 = ap (λ n. length (commits m log n)) e2 in
            omega (arith, here, more, one, rest, s1, s2, same)

    by : NoWindow m log k ⊎ ((e : List ℕ) × Window m log k e) → NoWindow m log k
    by (inl none) = none
    by (inr (e, window)) = absurd (closed e (open-since m log differ (k + off p + 1) turns k (omega arith) e window))
