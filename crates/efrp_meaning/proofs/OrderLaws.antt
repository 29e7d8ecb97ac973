-- Where no definition depends on itself on an event, the definitions have an order: as long as some are left, one of them depends
-- on those alone that stand in the order so far.
use Rattle.std.specs.Prelude.{◌≡◌, ℕ, zero, suc, ◌+◌, ◌<◌, ◌≤◌, ◌⊎◌, Bool, true, false, nat_lt, ◌||◌, ◌&&◌, List, [], ◌∷◌, ◌++◌, length, map, refl, if◌then◌else◌}
use Rattle.std.specs.List.{list_all}
use Rattle.std.specs.Str.{bytes_eq}
use Rattle.std.proofs.Common.{sym, ap, subst, ◌∙◌, arith}
use Rattle.std.proofs.lemmas.Bool.{false≢true, lt-ltb}
use Rattle.std.proofs.lemmas.List.Folds.{list_any-append}
use Rattle.std.proofs.lemmas.Slice.Eq.{bytes_eq-Decides}
use mathlib.Core.Logic.{inl, inr}
use Rattle.frp_tree.specs.Tree.{DeclTree, ProgramTree}
use Rattle.efrp_meaning.specs.Causal.{dependencies, DependsOn, IsCausalOn, place_of, stands_behind, IsOrderOn}
use Rattle.efrp_meaning.specs.Laws.{CausalIsOrdered}
use Rattle.efrp_meaning.proofs.CycleLaws.{leads-round}
use Rattle.efrp_meaning.proofs.DeclaredFacts.{depends-on-declared}
use Rattle.efrp_meaning.proofs.NameFacts.{or-right, is_in, same_bytes, Sides, sides, member-passes, all-pass, one-fails, without, without-shorter, others-kept}

-- The place of a name that is in a list is within it, and stays where more names follow; that of one that isn't is at its end.
place-below : (names : List (List ℕ)) (x : List ℕ) → is_in names x ≡ true → place_of names x < length names
place-below [] x h = absurd (false≢true h)
place-below (n ∷ ns) x h = by_side (sides n x) h (place-below ns x)
  where
    by_side : Sides n x → is_in (n ∷ ns) x ≡ true → (is_in ns x ≡ true → place_of ns x < length ns) → place_of (n ∷ ns) x < length (n ∷ ns)
    by_side (inl s) h rest = let same = s.0 in rw same (omega arith)
    by_side (inr s) h rest = let other = s.0 in let less = rest (sym (ap (λ b. b || is_in ns x) s.1) ∙ h) in rw other (omega (arith, less))

place-stays : (names more : List (List ℕ)) (x : List ℕ) → is_in names x ≡ true → place_of (names ++ more) x ≡ place_of names x
place-stays [] more x h = absurd (false≢true h)
place-stays (n ∷ ns) more x h = by_side (sides n x) h (place-stays ns more x)
  where
    by_side : Sides n x → is_in (n ∷ ns) x ≡ true → (is_in ns x ≡ true → place_of (ns ++ more) x ≡ place_of ns x) → place_of (n ∷ (ns ++ more)) x ≡ place_of (n ∷ ns) x
    by_side (inl s) h rest = let same = s.0 in rw same refl
    by_side (inr s) h rest = let other = s.0 in let stays = rest (sym (ap (λ b. b || is_in ns x) s.1) ∙ h) in rw other (ap (λ k. k + 1) stays)

place-of-next : (names : List (List ℕ)) (x : List ℕ) → is_in names x ≡ false → place_of (names ++ x ∷ []) x ≡ length names
place-of-next [] x h = let same = same_bytes x in rw same refl
place-of-next (n ∷ ns) x h = by_side (sides n x) h (place-of-next ns x)
  where
    by_side : Sides n x → is_in (n ∷ ns) x ≡ false → (is_in ns x ≡ false → place_of (ns ++ x ∷ []) x ≡ length ns) → place_of (n ∷ (ns ++ x ∷ [])) x ≡ length (n ∷ ns)
    by_side (inl s) h rest = absurd (false≢true (sym h ∙ ap (λ b. b || is_in ns x) s.1))
    by_side (inr s) h rest = let other = s.0 in let at = rest (sym (ap (λ b. b || is_in ns x) s.1) ∙ h) in rw other (omega (arith, at))

in-where-below : (names : List (List ℕ)) (x : List ℕ) → place_of names x < length names → is_in names x ≡ true
in-where-below [] x h = absurd (omega arith)
in-where-below (n ∷ ns) x h = by_side (sides n x) h (in-where-below ns x)
  where
    by_side : Sides n x → place_of (n ∷ ns) x < length (n ∷ ns) → (place_of ns x < length ns → is_in ns x ≡ true) → is_in (n ∷ ns) x ≡ true
    by_side (inl s) h rest = ap (λ b. b || is_in ns x) s.1
    by_side (inr s) h rest = let less = subst (λ b. (if b then 0 else place_of ns x + 1) < length (n ∷ ns)) s.0 h in ap (λ b. b || is_in ns x) s.1 ∙ rest (omega (arith, less))

module _ (p : ProgramTree) (event : List ℕ) where
  -- Each name of a list stands behind those on which it depends.
  abbrev Ordered : List (List ℕ) → Type 0
  Ordered order = (z : List ℕ) → is_in order z ≡ true → (y : List ℕ) → DependsOn p event z y → place_of order y < place_of order z

  -- One that depends on these alone may follow.
  may-follow : (order : List (List ℕ)) (x : List ℕ) → Ordered order → list_all (is_in order) (dependencies p event x) ≡ true → Ordered (order ++ x ∷ [])
  may-follow order x ordered known z inside y depends = by_place (is_in order z) refl
    where
      before : (y' : List ℕ) → place_of order y' < length order → place_of (order ++ x ∷ []) y' ≡ place_of order y'
      before y' h = place-stays order (x ∷ []) y' (in-where-below order y' h)

      next : (w : List ℕ) → w ≡ x → is_in order x ≡ false → DependsOn p event w y → place_of (order ++ x ∷ []) y < place_of (order ++ x ∷ []) w
      next w same new dep =
          let y-known = member-passes (is_in order) y (dependencies p event x) known (subst (λ v. DependsOn p event v y) same dep) in
          let y-below = place-below order y y-known in
          let y-stays = place-stays order (x ∷ []) y y-known in
          let at : place_of (order ++ x ∷ []) w ≡ length order = ap (place_of (order ++ x ∷ [])) same ∙ place-of-next order x new in
          omega (arith, y-below, y-stays, at)

      is-next : (b : Bool) → is_in order z ≡ b → b ≡ false → z ≡ x
      is-next b e out = (bytes_eq-Decides z x).0 (or-none (bytes_eq z x) (
          sym (ap (λ a. a || (bytes_eq z x || false)) (e ∙ out)) ∙ sym (list_any-append (bytes_eq z) order (x ∷ [])) ∙ inside))
        where
          or-none : (a : Bool) → (a || false) ≡ true → a ≡ true
          or-none true h = refl
          or-none false h = h

      by_place : (b : Bool) → is_in order z ≡ b → place_of (order ++ x ∷ []) y < place_of (order ++ x ∷ []) z
      by_place true there =
          let less = ordered z there y depends in
          let most = place-below order z there in
          let z-stays = place-stays order (x ∷ []) z there in
          let y-stays = before y (omega (arith, less, most)) in
          omega (arith, less, z-stays, y-stays)
      by_place false out =
          let same = is-next false out refl in
          next z same (ap (is_in order) (sym same) ∙ out) depends

  -- Of those that are left one depends on these alone, or each depends on another one.
  abbrev IsNext : List (List ℕ) → List ℕ → Type 0
  IsNext order x = list_all (is_in order) (dependencies p event x) ≡ true

  abbrev WaitsFor : List (List ℕ) → List ℕ → Type 0
  WaitsFor order x = (y : List ℕ) × DependsOn p event x y × (is_in order y ≡ false)

  next-or-none : (order left : List (List ℕ)) → ((x : List ℕ) × (is_in left x ≡ true) × IsNext order x) ⊎ ((x : List ℕ) → is_in left x ≡ true → WaitsFor order x)
  next-or-none order [] = inr (λ x inside. absurd (false≢true inside))
  next-or-none order (n ∷ ns) = by_test (list_all (is_in order) (dependencies p event n)) refl (next-or-none order ns)
    where
      waits : WaitsFor order n → ((x : List ℕ) → is_in ns x ≡ true → WaitsFor order x) → (x : List ℕ) → (b : Bool) → bytes_eq x n ≡ b → (b || is_in ns x) ≡ true → WaitsFor order x
      waits first rest x true same h = subst (WaitsFor order) (sym ((bytes_eq-Decides x n).0 same)) first
      waits first rest x false other h = rest x h

      by_test : (b : Bool) → list_all (is_in order) (dependencies p event n) ≡ b
          → ((x : List ℕ) × (is_in ns x ≡ true) × IsNext order x) ⊎ ((x : List ℕ) → is_in ns x ≡ true → WaitsFor order x)
          → ((x : List ℕ) × (is_in (n ∷ ns) x ≡ true) × IsNext order x) ⊎ ((x : List ℕ) → is_in (n ∷ ns) x ≡ true → WaitsFor order x)
      by_test true e rest = inl (n, ap (λ b. b || is_in ns n) (same_bytes n), e)
      by_test false e (inl found) = inl (found.0, or-right (bytes_eq found.0 n) (is_in ns found.0) found.1, found.2)
      by_test false e (inr none) = inr (λ x inside. waits (one-fails (is_in order) (dependencies p event n) e) none x (bytes_eq x n) refl inside)

  abbrev declared : List (List ℕ)
  declared = map (λ (d : DeclTree). d.name) p.decls

  -- An order that has all names is one of the definitions.
  all-ordered : (order : List (List ℕ)) → Ordered order → (ds : List DeclTree) → ((z : List ℕ) → is_in (map (λ (d : DeclTree). d.name) ds) z ≡ true → is_in order z ≡ true)
      → list_all (λ (d : DeclTree). stands_behind p event order d.name) ds ≡ true
  all-ordered order ordered [] all = refl
  all-ordered order ordered (d ∷ ds) all =
      ap (λ b. b && list_all (λ (c : DeclTree). stands_behind p event order c.name) ds) behind ∙ all-ordered order ordered ds (λ z inside. all z (or-right (bytes_eq z d.name) (is_in (map (λ (c : DeclTree). c.name) ds) z) inside))
    where
      behind : stands_behind p event order d.name ≡ true
      behind = all-pass (λ y. nat_lt (place_of order y) (place_of order d.name)) (dependencies p event d.name) (λ y depends.
          lt-ltb _ _ (ordered d.name (all d.name (ap (λ b. b || is_in (map (λ (c : DeclTree). c.name) ds) d.name) (same_bytes d.name))) y depends))

  module _ (on_declared : (x y : List ℕ) → DependsOn p event x y → is_in declared y ≡ true) (causal : IsCausalOn p event) where
    abbrev Covers : List (List ℕ) → List (List ℕ) → Type 0
    Covers order left = (z : List ℕ) → is_in declared z ≡ true → (is_in order z ≡ true) ⊎ (is_in left z ≡ true)

    covers-on : (order left : List (List ℕ)) (x : List ℕ) → Covers order left → Covers (order ++ x ∷ []) (without x left)
    covers-on order left x covers z its = by_place (covers z its)
      where
        appended : (a : Bool) → is_in order z ≡ a → (b : Bool) → bytes_eq z x ≡ b → (a || b) ≡ true → is_in (order ++ x ∷ []) z ≡ true
        appended true e b f h = list_any-append (bytes_eq z) order (x ∷ []) ∙ ap (λ a. a || (bytes_eq z x || false)) e
        appended false e true f h = list_any-append (bytes_eq z) order (x ∷ []) ∙ ap (λ a. a || (bytes_eq z x || false)) e ∙ ap (λ b. b || false) f
        appended false e false f h = absurd (false≢true h)

        by_side : is_in left z ≡ true → Sides x z → (is_in (order ++ x ∷ []) z ≡ true) ⊎ (is_in (without x left) z ≡ true)
        by_side inside (inl s) = inl (list_any-append (bytes_eq z) order (x ∷ []) ∙ ap (λ b. is_in order z || (b || false)) s.1 ∙ or-true (is_in order z))
          where
            or-true : (a : Bool) → (a || true) ≡ true
            or-true true = refl
            or-true false = refl
        by_side inside (inr s) = inr (others-kept x z s.0 left inside)

        by_place : (is_in order z ≡ true) ⊎ (is_in left z ≡ true) → (is_in (order ++ x ∷ []) z ≡ true) ⊎ (is_in (without x left) z ≡ true)
        by_place (inl there) = inl (appended true there (bytes_eq z x) refl refl)
        by_place (inr inside) = by_side inside (sides x z)

    finish : (order : List (List ℕ)) → Ordered order → Covers order [] → (its : List (List ℕ)) × IsOrderOn p event its
    finish order ordered covers = (order, all-ordered order ordered p.decls (λ z its. all z (covers z its)))
      where
        all : (z : List ℕ) → (is_in order z ≡ true) ⊎ (is_in [] z ≡ true) → is_in order z ≡ true
        all z (inl there) = there
        all z (inr h) = absurd (false≢true h)

    -- Where each of those that are left waits for another one, one depends on itself.
    no-circle : (order : List (List ℕ)) (n : List ℕ) (ns : List (List ℕ)) → Covers order (n ∷ ns) → ((x : List ℕ) → is_in (n ∷ ns) x ≡ true → WaitsFor order x) → ⊥
    no-circle order n ns covers waits = let round = leads-round p event (n ∷ ns) (λ e. cc) next in causal round.0 round.1 round.2
      where
        waited : (y : List ℕ) → is_in order y ≡ false → (is_in order y ≡ true) ⊎ (is_in (n ∷ ns) y ≡ true) → is_in (n ∷ ns) y ≡ true
        waited y out (inl there) = absurd (false≢true (sym out ∙ there))
        waited y out (inr inside) = inside

        next : (x : List ℕ) → is_in (n ∷ ns) x ≡ true → (y : List ℕ) × (is_in (n ∷ ns) y ≡ true) × DependsOn p event x y
        next x inside = let w = waits x inside in (w.0, waited w.0 w.2 (covers w.0 (on_declared x w.0 w.1)), w.1)

    order-from : (k : ℕ) (order left : List (List ℕ)) → length left ≤ k → Ordered order → Covers order left → (its : List (List ℕ)) × IsOrderOn p event its
    order-from k order [] short ordered covers = finish order ordered covers
    order-from zero order (n ∷ ns) short ordered covers = absurd (omega arith)
    order-from (suc k) order (n ∷ ns) short ordered covers = by_search (next-or-none order (n ∷ ns)) (order-from k)
      where
        by_search : ((x : List ℕ) × (is_in (n ∷ ns) x ≡ true) × IsNext order x) ⊎ ((x : List ℕ) → is_in (n ∷ ns) x ≡ true → WaitsFor order x)
            → ((next left : List (List ℕ)) → length left ≤ k → Ordered next → Covers next left → (its : List (List ℕ)) × IsOrderOn p event its)
            → (its : List (List ℕ)) × IsOrderOn p event its
        by_search (inl found) rest =
            let less = without-shorter found.0 (n ∷ ns) found.1 in
            rest (order ++ found.0 ∷ []) (without found.0 (n ∷ ns)) (omega (arith, less, short)) (may-follow order found.0 ordered found.2) (covers-on order (n ∷ ns) found.0 covers)
        by_search (inr waits) rest = absurd (no-circle order n ns covers waits)

pub causal-is-ordered : (p : ProgramTree) → CausalIsOrdered p
causal-is-ordered p event typed causal =
    order-from p event (depends-on-declared p typed event) causal (length (declared p event)) [] (declared p event) (omega arith) (λ z inside. absurd (false≢true inside)) (λ z its. inr its)
