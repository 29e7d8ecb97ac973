-- How walks are put together, and rows of items that are gone through.
use Rattle.std.proofs.Common.{◌≡◌, ℕ, ◌+◌, ◌<◌, ◌≤◌, suc, Bool, true, false, List, [], ◌∷◌, ◌++◌, length, map, Some, None, Result, Ok, Err, ◌⊎◌, inl, inr, refl, sym, ap, subst, ◌∙◌, arith, take, drop, get_or, add-one, if◌then◌else◌}
use Rattle.std.specs.Result.{IsErrAnd}
use Rattle.std.proofs.Math.Seq.{drop-cons}
use Rattle.std.proofs.lemmas.List.{take_more}
use Rattle.efrp_types.specs.declared.faults.CheckFault.{CheckFault}
use Rattle.efrp_types.specs.declared.faults.CheckFault.TheVariants.{Memory}
use Rattle.efrp_types.specs.Answers.{IsFirst}
use Rattle.where_tool.specs.declared.parts.Part.{Part}
use Rattle.where_tool.specs.declared.parts.Halted.{Halted}
use Rattle.where_tool.specs.declared.parts.Halted.TheVariants as halted
use Rattle.where_tool.specs.Visits.{Visit, visit, each_visited, first_part, has_fault}
use Rattle.where_tool.specs.Walks.{Halts, Walks, Goes}
use Rattle.where_tool.proofs.VisitLaws.{met}

-- Where nothing is visited, no fault is met.
pub none-visited : first_part [] ≡ None
unfolding first_part
none-visited = refl

-- The first part of two rows is that of the first, or else that of the second.
none-then : (vs ws : List Visit) → first_part vs ≡ None → first_part (vs ++ ws) ≡ first_part ws
unfolding first_part
none-then [] ws none = refl
none-then (v ∷ vs) ws none = by_test (has_fault v.faults) none (none-then vs ws)
  where
    by_test : (b : Bool) → (if b then Some v.part else first_part vs) ≡ None → (first_part vs ≡ None → first_part (vs ++ ws) ≡ first_part ws) → (if b then Some v.part else first_part (vs ++ ws)) ≡ first_part ws
    by_test true is rest = cc
    by_test false is rest = rest is

some-then : (vs ws : List Visit) (part : Part) → first_part vs ≡ Some part → first_part (vs ++ ws) ≡ Some part
unfolding first_part
some-then [] ws part some = cc
some-then (v ∷ vs) ws part some = by_test (has_fault v.faults) some (some-then vs ws part)
  where
    by_test : (b : Bool) → (if b then Some v.part else first_part vs) ≡ Some part → (first_part vs ≡ Some part → first_part (vs ++ ws) ≡ Some part) → (if b then Some v.part else first_part (vs ++ ws)) ≡ Some part
    by_test true is rest = is
    by_test false is rest = rest is

pub none-both : (vs ws : List Visit) → first_part vs ≡ None → first_part ws ≡ None → first_part (vs ++ ws) ≡ None
none-both vs ws first second = none-then vs ws first ∙ second

-- A walk that halts in a part halts so in the whole; and one that goes on with the rest.
pub halts-first : (vs ws : List Visit) (why : Halted) → Halts (first_part vs) why → Halts (first_part (vs ++ ws)) why
halts-first vs ws (halted.Met part) halts = some-then vs ws part halts
halts-first vs ws halted.Memory halts = tt

pub halts-rest : (vs ws : List Visit) (why : Halted) → first_part vs ≡ None → Halts (first_part ws) why → Halts (first_part (vs ++ ws)) why
halts-rest vs ws why none halts = subst (λ o. Halts o why) (sym (none-then vs ws none)) halts

pub walks-rest : {A : Type 0} (vs ws : List Visit) (Q : A → Type 0) (r : Result A Halted) → first_part vs ≡ None → Walks ws Q r → Walks (vs ++ ws) Q r
walks-rest vs ws Q (Ok x) none walks = (none-both vs ws none walks.0, walks.1)
walks-rest vs ws Q (Err why) none walks = halts-rest vs ws why none walks

-- The same of an answer that hands on an `Err`.
pub handed : {B : Type 0} (vs : List Visit) (Q : B → Type 0) (why : Halted) (r : Result B Halted) → IsErrAnd r (λ told. told ≡ why) → Halts (first_part vs) why → Walks vs Q r
handed vs Q why (Ok x) is halts = absurd is
handed vs Q why (Err other) is halts = subst (λ (w : Halted). Halts (first_part vs) w) (sym is) halts

pub handed-first : {B : Type 0} (vs ws : List Visit) (Q : B → Type 0) (why : Halted) (r : Result B Halted) → IsErrAnd r (λ told. told ≡ why) → Halts (first_part vs) why → Walks (vs ++ ws) Q r
handed-first vs ws Q why r is halts = handed (vs ++ ws) Q why r is (halts-first vs ws why halts)

-- A part: its check told no fault, or its first one, or out of memory.
pub part-none : (part : Part) (faults : List CheckFault) → faults ≡ [] → first_part (visit part faults) ≡ None
unfolding first_part
part-none part faults none = subst (λ fs. first_part (visit part fs) ≡ None) (sym none) refl

part-first : (part : Part) (fault : CheckFault) (faults : List CheckFault) → IsFirst fault faults → first_part (visit part faults) ≡ Some part
unfolding first_part
part-first part fault faults first = subst (λ fs. first_part (visit part fs) ≡ Some part) (sym first.1) refl

pub part-halts : (part : Part) (fault : CheckFault) (faults : List CheckFault) (why : Halted) → (fault ≡ Memory → why ≡ halted.Memory) → ((fault ≡ Memory → ⊥) → why ≡ halted.Met part)
    → IsFirst fault faults ⊎ (fault ≡ Memory) → Halts (first_part (visit part faults)) why
part-halts part fault faults why memory met (inr is) = subst (λ (w : Halted). Halts (first_part (visit part faults)) w) (sym (memory is)) tt
part-halts part fault faults why memory met (inl first) = by_kind fault memory met first
  where
    by_kind : (f : CheckFault) → (f ≡ Memory → why ≡ halted.Memory) → ((f ≡ Memory → ⊥) → why ≡ halted.Met part) → IsFirst f faults → Halts (first_part (visit part faults)) why
    by_kind Memory m k is = subst (λ (w : Halted). Halts (first_part (visit part faults)) w) (sym (m refl)) tt
    by_kind f m k is = subst (λ (w : Halted). Halts (first_part (visit part faults)) w) (sym (k (λ e. cc))) (part-first part f faults is)

-- A step of a row.
each-step : {A : Type 0} (visits : ℕ → List A → A → List Visit) (xs : List A) (i : ℕ) (d : A) → i < length xs
    → each_visited visits i (take i xs) (drop i xs) ≡ visits i (take i xs) (get_or xs i d) ++ each_visited visits (i + 1) (take (i + 1) xs) (drop (i + 1) xs)
each-step visits xs i d less =
    ap (each_visited visits i (take i xs)) (drop-cons xs i d less)
    ∙ ap (λ ys. visits i (take i xs) (get_or xs i d) ++ each_visited visits (i + 1) ys (drop (suc i) xs)) (sym (take_more xs i d less))
    ∙ ap (λ k. visits i (take i xs) (get_or xs i d) ++ each_visited visits (i + 1) (take (i + 1) xs) (drop k xs)) (sym (add-one i))

-- A row of which the first i items have no fault: its first part is that of the rest.
abbrev pub Gone : {A : Type 0} → (ℕ → List A → A → List Visit) → List A → ℕ → Type 0
Gone visits xs i = first_part (each_visited visits 0 [] xs) ≡ first_part (each_visited visits i (take i xs) (drop i xs))

pub gone-more : {A : Type 0} (visits : ℕ → List A → A → List Visit) (xs : List A) (i : ℕ) (x : A) → i < length xs → x ≡ get_or xs i x → Gone visits xs i → first_part (visits i (take i xs) x) ≡ None → Gone visits xs (i + 1)
gone-more visits xs i x less is gone none =
    gone ∙ ap first_part (each-step visits xs i x less ∙ ap (λ y. visits i (take i xs) y ++ each_visited visits (i + 1) (take (i + 1) xs) (drop (i + 1) xs)) (sym is))
    ∙ none-then (visits i (take i xs) x) (each_visited visits (i + 1) (take (i + 1) xs) (drop (i + 1) xs)) none

-- What halts in the item at hand, halts the walk over the row.
pub gone-halts : {A : Type 0} (visits : ℕ → List A → A → List Visit) (xs : List A) (i : ℕ) (x : A) (why : Halted) (r : Result (Unit {0}) Halted) → i < length xs → x ≡ get_or xs i x → Gone visits xs i
    → IsErrAnd r (λ told. told ≡ why) → Halts (first_part (visits i (take i xs) x)) why → Goes (each_visited visits 0 [] xs) r
gone-halts visits xs i x why r less is gone handing halts =
    handed (each_visited visits 0 [] xs) (λ (done : Unit {0}). Unit {0}) why r handing
    (subst (λ o. Halts o why) (sym (gone ∙ ap first_part (each-step visits xs i x less ∙ ap (λ y. visits i (take i xs) y ++ each_visited visits (i + 1) (take (i + 1) xs) (drop (i + 1) xs)) (sym is))))
    (halts-first (visits i (take i xs) x) (each_visited visits (i + 1) (take (i + 1) xs) (drop (i + 1) xs)) why halts))

drop-all : {A : Type 0} (xs : List A) → drop (length xs) xs ≡ []
drop-all [] = refl
drop-all (x ∷ xs) = drop-all xs

pub gone-all : {A : Type 0} (visits : ℕ → List A → A → List Visit) (xs : List A) (i : ℕ) → i ≤ length xs → length xs ≤ i → Gone visits xs i → first_part (each_visited visits 0 [] xs) ≡ None
unfolding first_part
gone-all visits xs i most least gone =
    let e : i ≡ length xs = omega (arith, most, least) in
    gone ∙ ap (λ ys. first_part (each_visited visits i (take i xs) ys)) (ap (λ k. drop k xs) e ∙ drop-all xs)

-- Rows of items in memory and of their trees.
map-more : {A B : Type 0} (g : A → B) (xs : List A) (x : A) → map g (xs ++ x ∷ []) ≡ map g xs ++ g x ∷ []
map-more g [] x = refl
map-more g (y ∷ xs) x = ap (λ zs. g y ∷ zs) (map-more g xs x)

visited-of : {A B : Type 0} (g : A → B) (visits : ℕ → List B → B → List Visit) (n : ℕ) (before xs : List A)
    → each_visited (λ k b x. visits k (map g b) (g x)) n before xs ≡ each_visited visits n (map g before) (map g xs)
visited-of g visits n before [] = refl
visited-of g visits n before (x ∷ xs) =
    ap (λ zs. visits n (map g before) (g x) ++ zs) (visited-of g visits (n + 1) (before ++ x ∷ []) xs ∙ ap (λ b. each_visited visits (n + 1) b (map g xs)) (map-more g before x))

pub visited-trees : {A B : Type 0} (g : A → B) (visits : ℕ → List B → B → List Visit) (xs : List A) → each_visited (λ k b x. visits k (map g b) (g x)) 0 [] xs ≡ each_visited visits 0 [] (map g xs)
visited-trees g visits xs = visited-of g visits 0 [] xs

-- Where no part has a fault, no fault is met; and the other way round.
pub none-met : (vs : List Visit) → first_part vs ≡ None → met vs ≡ []
unfolding first_part
none-met [] none = refl
none-met (v ∷ vs) none = by_faults v.faults none (none-met vs)
  where
    by_faults : (faults : List CheckFault) → (if has_fault faults then Some v.part else first_part vs) ≡ None → (first_part vs ≡ None → met vs ≡ []) → faults ++ met vs ≡ []
    by_faults [] is rest = rest is
    by_faults (f ∷ fs) is rest = cc

-- What a walk answers that is good is so in another way.
pub walks-map : {A : Type 0} (vs : List Visit) (P Q : A → Type 0) (r : Result A Halted) → ((x : A) → P x → Q x) → Walks vs P r → Walks vs Q r
walks-map vs P Q (Ok x) step walks = (walks.0, step x walks.1)
walks-map vs P Q (Err why) step walks = walks
