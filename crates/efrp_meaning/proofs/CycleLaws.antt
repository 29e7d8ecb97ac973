-- Where each name of a list depends on one of the list, one of them depends on itself.
use Rattle.std.specs.Prelude.{◌≡◌, ℕ, Bool, true, false, ◌||◌, List, [], ◌∷◌, ◌++◌, refl}
use Rattle.std.specs.List.{list_any}
use Rattle.std.specs.Str.{bytes_eq}
use Rattle.std.proofs.Common.{ap, subst}
use Rattle.std.proofs.lemmas.Bool.{false≢true}
use Rattle.std.proofs.lemmas.Slice.Eq.{bytes_eq-Decides}
use Rattle.frp_tree.specs.Tree.{ProgramTree}
use Rattle.efrp_meaning.specs.Causal.{DependsThrough}
use Rattle.efrp_meaning.specs.Laws.{LeadsRound}

module _ (p : ProgramTree) (event : List ℕ) where
  abbrev Leads : List ℕ → List ℕ → Type 0
  Leads x y = (others : List (List ℕ)) × DependsThrough p event x others y

  -- What one leads to leads on.
  join : (x y z : List ℕ) (others more : List (List ℕ)) → DependsThrough p event x others y → DependsThrough p event y more z → DependsThrough p event x (others ++ y ∷ more) z
  join x y z [] more first second = (first, second)
  join x y z (o ∷ os) more first second = (first.0, join o y z os more first.1 second)

  abbrev IsIn : List ℕ → List (List ℕ) → Type 0
  IsIn x names = list_any (bytes_eq x) names ≡ true

  abbrev NextIn : List (List ℕ) → List ℕ → Type 0
  NextIn names x = (y : List ℕ) × IsIn y names × Leads x y

  -- Without the first name: what led to it leads to the one that follows it.
  past-first : (n y x : List ℕ) (ns : List (List ℕ)) → IsIn y ns → Leads n y → NextIn (n ∷ ns) x → NextIn ns x
  past-first n y x ns inside on next = by_name (bytes_eq next.0 n) refl next.1
    where
      by_name : (b : Bool) → bytes_eq next.0 n ≡ b → (b || list_any (bytes_eq next.0) ns) ≡ true → NextIn ns x
      by_name true same h =
          let path = subst (λ z. DependsThrough p event x next.2.0 z) ((bytes_eq-Decides next.0 n).0 same) next.2.1 in
          (y, inside, (next.2.0 ++ n ∷ on.0, join x n y next.2.0 on.0 path on.1))
      by_name false other h = (next.0, h, next.2)

  round : (names : List (List ℕ)) (x : List ℕ) → IsIn x names → ((z : List ℕ) → IsIn z names → NextIn names z) → (z : List ℕ) × Leads z z
  round [] x inside next = absurd (false≢true inside)
  round (n ∷ ns) x inside next = by_name (bytes_eq first.0 n) refl first.1 (round ns first.0)
    where
      first : NextIn (n ∷ ns) n
      first = next n (ap (λ b. b || list_any (bytes_eq n) ns) ((bytes_eq-Decides n n).1 refl))

      there : (b : Bool) (z : List ℕ) → IsIn z ns → (b || list_any (bytes_eq z) ns) ≡ true
      there true z h = refl
      there false z h = h

      by_name : (b : Bool) → bytes_eq first.0 n ≡ b → (b || list_any (bytes_eq first.0) ns) ≡ true
          → (IsIn first.0 ns → ((z : List ℕ) → IsIn z ns → NextIn ns z) → (z : List ℕ) × Leads z z) → (z : List ℕ) × Leads z z
      by_name true same h rest = (n, (first.2.0, subst (λ z. DependsThrough p event n first.2.0 z) ((bytes_eq-Decides first.0 n).0 same) first.2.1))
      by_name false other h rest = rest h (λ z inside. past-first n first.0 z ns h first.2 (next z (there (bytes_eq z n) z inside)))

pub leads-round : (p : ProgramTree) → LeadsRound p
leads-round p event [] some next = absurd (some refl)
leads-round p event (n ∷ ns) some next =
    let found = round p event (n ∷ ns) n (ap (λ b. b || list_any (bytes_eq n) ns) ((bytes_eq-Decides n n).1 refl)) (λ z inside. let y = next z inside in (y.0, y.1, ([], y.2))) in
    (found.0, found.1.0, found.1.1)
