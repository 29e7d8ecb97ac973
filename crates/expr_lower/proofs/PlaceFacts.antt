-- Places where one is bound, and where the next ones are numbered.
use Rattle.std.specs.List.{AllByRecursion}
use Rattle.std.proofs.Common.{◌≡◌, ℕ, ◌+◌, ◌*◌, ◌≤◌, ◌<◌, Some, None, List, [], ◌∷◌, ◌++◌, length, map, slice_get, sum_by, take, get_or, refl, sym, ap, subst, ◌∙◌, arith, zero, suc, zero-add}
use Rattle.std.proofs.Math.ListN.{set}
use Rattle.std.proofs.Math.Seq.{take-length}
use Rattle.std.proofs.lemmas.List.Sums.{sum_by-cons, sum_by_push}
use Rattle.std.proofs.lemmas.List.{length-map, length-take, map-append, take_more}
use Rattle.frp_tree.specs.declared.syntax.Decl.{Decl}
use Rattle.std.proofs.lemmas.Option.{none-some, get_or_from_slice_get}
use Rattle.frp_tree.specs.declared.syntax.Ty.{Ty}
use Rattle.frp_tree.specs.declared.syntax.Ty.TheVariants as ty
use Rattle.frp_tree.specs.Tree.{BehaviourTree, Plain, Input, Table, Reactive, DeclTree, ProgramTree, behaviour_of, decl_of}
use Rattle.efrp_meaning.specs.Bounds.{bytes_in, state_bytes}
use Rattle.byte_ops.specs.declared.operations.Pair.{Pair}
use Rattle.expr_lower.specs.declared.cells.Cells.{Cells}
use Rattle.expr_lower.specs.declared.places.Place.{Place}
use Rattle.expr_lower.specs.Numbered.{AreStates, state_cells, state_places}
use Rattle.expr_lower.specs.Places.{FitIn, IsPlaced}

set-types : (places : List Place) (n : ℕ) (old new : Place) → slice_get places n ≡ Some old → new.ty ≡ old.ty → map (λ (x : Place). x.ty) (set places n new) ≡ map (λ (x : Place). x.ty) places
set-types [] n old new e same = absurd (none-some old e)
set-types (x ∷ xs) zero old new e same = let is : x ≡ old = cc in ap (λ t. t ∷ map (λ (x : Place). x.ty) xs) (same ∙ ap (λ (q : Place). q.ty) (sym is))
set-types (x ∷ xs) (suc n) old new e same = ap (λ ts. x.ty ∷ ts) (set-types xs n old new e same)

set-placed : (next : ℕ) (places : List Place) (n : ℕ) (new : Place) → AllByRecursion (IsPlaced next) places → IsPlaced next new → AllByRecursion (IsPlaced next) (set places n new)
set-placed next [] n new all one = tt
set-placed next (x ∷ xs) zero new all one = (one, all.1)
set-placed next (x ∷ xs) (suc n) new all one = (all.0, set-placed next xs n new all.1 one)

at-slot : (next : ℕ) (places : List Place) (n : ℕ) (place : Place) → AllByRecursion (IsPlaced next) places → slice_get places n ≡ Some place → IsPlaced next place
at-slot next [] n place all e = absurd (none-some place e)
at-slot next (x ∷ xs) zero place all e = let same : x ≡ place = cc in subst (IsPlaced next) same all.0
at-slot next (x ∷ xs) (suc n) place all e = at-slot next xs n place all.1 e

pub bound-types : (ts : List Ty) (places : List Place) (n : ℕ) (place seen : Place) (at : Pair) → slice_get places n ≡ Some place → seen ≡ get_or places n seen → map (λ (x : Place). x.ty) places ≡ ts → map (λ (x : Place). x.ty) (set places n (record seen { bound = Some at })) ≡ ts
bound-types ts places n place seen at e is types =
    let same : seen ≡ place = is ∙ get_or_from_slice_get places n place seen e in
    set-types places n place (record seen { bound = Some at }) e (ap (λ (q : Place). q.ty) same) ∙ types

pub bound-placed : (next : ℕ) (places : List Place) (n : ℕ) (place seen : Place) (at : Pair) → slice_get places n ≡ Some place → seen ≡ get_or places n seen → FitIn next place.ty (Some at) → AllByRecursion (IsPlaced next) places → AllByRecursion (IsPlaced next) (set places n (record seen { bound = Some at }))
bound-placed next places n place seen at e is fits all =
    let same : seen ≡ place = is ∙ get_or_from_slice_get places n place seen e in
    let old = at-slot next places n place all e in
    let new : IsPlaced next (record place { bound = Some at }) = record { state = old.state; bound = fits } in
    set-placed next places n (record seen { bound = Some at }) all (subst (λ (q : Place). IsPlaced next (record q { bound = Some at })) (sym same) new)

-- States that are numbered one after another.

pub states-append : (next : ℕ) (ds : List DeclTree) (d : DeclTree) → state_places next (ds ++ d ∷ []) ≡ state_places next ds ++ record { ty = d.ty; state = state_cells (next + sum_by (λ d. bytes_in d.ty d.behaviour) ds) d.ty d.behaviour; bound = None } ∷ []
states-append next [] d = ap (λ k. record { ty = d.ty; state = state_cells k d.ty d.behaviour; bound = None } ∷ []) (omega arith)
states-append next (x ∷ xs) d =
    let step = sum_by-cons (λ (c : DeclTree). bytes_in c.ty c.behaviour) x xs in
    ap (λ ps. record { ty = x.ty; state = state_cells next x.ty x.behaviour; bound = None } ∷ ps)
    (states-append (next + bytes_in x.ty x.behaviour) xs d
    ∙ ap (λ k. state_places (next + bytes_in x.ty x.behaviour) xs ++ record { ty = d.ty; state = state_cells k d.ty d.behaviour; bound = None } ∷ []) (omega (arith, step)))

pub states-types : (next : ℕ) (ds : List DeclTree) → map (λ (x : Place). x.ty) (state_places next ds) ≡ map (λ (d : DeclTree). d.ty) ds
states-types next [] = refl
states-types next (d ∷ ds) = ap (λ ts. d.ty ∷ ts) (states-types (next + bytes_in d.ty d.behaviour) ds)

state-fits : (next k : ℕ) (t : Ty) (b : BehaviourTree) → next + bytes_in t b ≤ k → FitIn k t (state_cells next t b)
state-fits next k t (Plain e) h = tt
state-fits next k t (Input port) h = tt
state-fits next k t (Table entries) h = tt
state-fits next k ty.Bool (Reactive init clauses) h = (omega arith, (omega arith), λ e. refl)
state-fits next k ty.U8 (Reactive init clauses) h = (omega arith, (omega arith), λ e. refl)
state-fits next k ty.U16 (Reactive init clauses) h = (omega arith, (omega arith), λ e. cc)

pub states-placed : (next k : ℕ) (ds : List DeclTree) → next + sum_by (λ d. bytes_in d.ty d.behaviour) ds ≤ k → AllByRecursion (IsPlaced k) (state_places next ds)
states-placed next k [] h = tt
states-placed next k (d ∷ ds) h =
    let step = sum_by-cons (λ (c : DeclTree). bytes_in c.ty c.behaviour) d ds in
    (record { state = state-fits next k d.ty d.behaviour (omega (arith, step)); bound = tt }, states-placed (next + bytes_in d.ty d.behaviour) k ds (omega (arith, step)))

byte-few : (t : Ty) (b : BehaviourTree) → bytes_in t b ≤ 2
byte-few t (Plain e) = omega arith
byte-few t (Input port) = omega arith
byte-few t (Table entries) = omega arith
byte-few ty.Bool (Reactive init clauses) = omega arith
byte-few ty.U8 (Reactive init clauses) = omega arith
byte-few ty.U16 (Reactive init clauses) = omega arith

pub states-few : (ds : List DeclTree) → sum_by (λ d. bytes_in d.ty d.behaviour) ds ≤ 2 * length ds
states-few [] = omega arith
states-few (d ∷ ds) =
    let step = sum_by-cons (λ (c : DeclTree). bytes_in c.ty c.behaviour) d ds in
    omega (arith, step, byte-few d.ty d.behaviour, states-few ds)

-- There are few enough definitions for their states to have numbers.
pub states-room : (ds : List Decl) (i : ℕ) → length (map decl_of ds) ≤ 128 → sum_by (λ d. bytes_in d.ty d.behaviour) (map decl_of (take i ds)) ≤ 256
states-room ds i h = omega (arith, h, states-few (map decl_of (take i ds)), length-map (take i ds) decl_of, length-map ds decl_of, length-take i ds)

-- One more definition has its place.
pub one-more :
    (ds : List Decl) (i : ℕ) (d : Decl) (next later : ℕ) (old new : List Place) (place : Place)
    → i < length ds → d ≡ get_or ds i d
    → old ≡ state_places 0 (map decl_of (take i ds)) → next ≡ sum_by (λ d. bytes_in d.ty d.behaviour) (map decl_of (take i ds))
    → place ≡ record { ty = d.ty; state = state_cells next d.ty (behaviour_of d.behaviour); bound = None } → later ≡ next + bytes_in d.ty (behaviour_of d.behaviour) → new ≡ old ++ place ∷ []
    → record { places : new ≡ state_places 0 (map decl_of (take (i + 1) ds)); next : later ≡ sum_by (λ d. bytes_in d.ty d.behaviour) (map decl_of (take (i + 1) ds)) }
one-more ds i d next later old new place inside is places number made some pushed =
    let row : map decl_of (take (i + 1) ds) ≡ map decl_of (take i ds) ++ decl_of d ∷ [] = ap (map decl_of) (take_more ds i d inside ∙ ap (λ (x : Decl). take i ds ++ x ∷ []) (sym is)) ∙ map-append decl_of (take i ds) (d ∷ []) in
    record {
      places = pushed ∙ ap (λ ps. ps ++ place ∷ []) places ∙ ap (λ (q : Place). state_places 0 (map decl_of (take i ds)) ++ q ∷ []) (made ∙ ap (λ k. record { ty = d.ty; state = state_cells k d.ty (behaviour_of d.behaviour); bound = None }) (number ∙ sym (zero-add _)))
          ∙ sym (states-append 0 (map decl_of (take i ds)) (decl_of d)) ∙ ap (state_places 0) (sym row);
      next = some ∙ ap (λ k. k + bytes_in d.ty (behaviour_of d.behaviour)) number
          ∙ sym (sum_by_push (λ (d : DeclTree). bytes_in d.ty d.behaviour) (map decl_of (take i ds)) (decl_of d)) ∙ ap (sum_by (λ (d : DeclTree). bytes_in d.ty d.behaviour)) (sym row);
    }

-- Where all definitions have theirs, the states have cells.
pub all-states : (p : ProgramTree) (cells : Cells) → length p.decls ≤ 128 → cells.places.items ≡ state_places 0 p.decls → cells.next ≡ state_bytes p → AreStates p cells
all-states p cells few places next = record {
  places = places;
  next = next;
  ours = record {
    types = ap (map (λ (x : Place). x.ty)) places ∙ states-types 0 p.decls;
    placed = subst (AllByRecursion (IsPlaced cells.next)) (sym places) (states-placed 0 cells.next p.decls (omega (arith, next)));
    few = omega (arith, next, few, states-few p.decls);
  };
}

pub all-taken : (ds : List Decl) (i : ℕ) → i ≤ length ds → length ds ≤ i → take i ds ≡ ds
all-taken ds i h g = let same : i ≡ length ds = omega arith in ap (λ k. take k ds) same ∙ take-length ds
