-- Numbers of events and definitions.
use Rattle.std.specs.Prelude.{◌≡◌, ℕ, zero, suc, ◌+◌, ◌<◌, ◌≤◌, Bool, true, false, not, List, [], ◌∷◌, length, filter, map, nat_lt, position, slice_get, option_and_then, option_map, Option, Some, None, IsSome, cond, refl, if◌then◌else◌}
use Rattle.std.specs.List.{AllByRecursion, IsDistinct, position_or_len}
use Rattle.std.specs.Str.{bytes_eq}
use Rattle.std.proofs.Common.{sym, ap, subst, ◌∙◌, arith, get_or, ltb-true}
use Rattle.std.proofs.lemmas.Bool.{lt-ltb, ltb-false}
use Rattle.std.proofs.lemmas.List.{length-map}
use Rattle.std.proofs.lemmas.List.Recursion.{is_position_or_len}
use Rattle.std.proofs.lemmas.List.Sums.{length-filter, count_by-le-length}
use Rattle.std.proofs.lemmas.Option.{none-some, slice_get_past, slice_get_within, slice_get-map, slice_get_read}
use Rattle.std.proofs.lemmas.Slice.Eq.{bytes_eq-Decides}
use Rattle.frp_tree.specs.declared.syntax.Event.{Event}
use Rattle.frp_tree.specs.declared.syntax.Decl.{Decl}
use Rattle.frp_tree.specs.declared.syntax.Program.{Program}
use Rattle.frp_tree.specs.Tree.{DeclTree, ProgramTree, behaviour_of, decl_of, program_tree_of}
use Rattle.efrp_meaning.specs.Decls.{decl_named, is_input}
use Rattle.efrp_types.specs.Laws.{NumbersAgree}
use Rattle.efrp_types.specs.Numbers.{NameLists, AreNamesOf, decl_number, event_number, event_source, inputs}
use Rattle.efrp_types.proofs.ListFacts.{not-turned}

some-same : {A : Type 0} (x y : A) → Some x ≡ Some y → x ≡ y
some-same x y e = ap (λ o. elim o [ Some k ↦ k | None ↦ x ]) e

turned : (b : Bool) (m : ℕ) → cond (not b) m 0 ≡ cond b 0 m
turned true m = refl
turned false m = refl

same-place : {A B : Type 0} (test : B → Bool) (g : A → B) (xs : List A) → position_or_len test (map g xs) ≡ position_or_len (λ x. test (g x)) xs
same-place test g = is_position_or_len (λ xs. position_or_len test (map g xs)) (λ x. test (g x)) refl (λ x xs. turned (test (g x)) _)

-- What is mapped stands at the same place.
pub position_mapped : {A B : Type 0} (test : B → Bool) (g : A → B) (xs : List A) → position test (map g xs) ≡ position (λ x. test (g x)) xs
position_mapped test g xs =
    ap (λ n. cond (nat_lt n (length (map g xs))) (Some n) None) (same-place test g xs)
    ∙ ap (λ l. cond (nat_lt (position_or_len (λ x. test (g x)) xs) l) (Some (position_or_len (λ x. test (g x)) xs)) None) (length-map xs g)

-- The first item passes, or it doesn't.
first-at : {A : Type 0} (test : A → Bool) (x : A) (xs : List A) → test x ≡ true → position_or_len test (x ∷ xs) ≡ 0
first-at test x xs e = ap (λ b. cond (not b) (1 + position_or_len test xs) 0) e

later-at : {A : Type 0} (test : A → Bool) (x : A) (xs : List A) → test x ≡ false → position_or_len test (x ∷ xs) ≡ suc (position_or_len test xs)
later-at test x xs e = ap (λ b. cond (not b) (1 + position_or_len test xs) 0) e ∙ omega arith

-- A place that is given: it is within, and the first.
pub place_of : {A : Type 0} (test : A → Bool) (xs : List A) (n : ℕ) → position test xs ≡ Some n → (position_or_len test xs ≡ n) × (n < length xs)
place_of test xs n e = by_test (nat_lt (position_or_len test xs) (length xs)) refl e
  where
    by_test : (b : Bool) → nat_lt (position_or_len test xs) (length xs) ≡ b → cond b (Some (position_or_len test xs)) None ≡ Some n → (position_or_len test xs ≡ n) × (n < length xs)
    by_test true less f =
        let is = some-same (position_or_len test xs) n f in
        (is, subst (λ k. k < length xs) is (ltb-true (position_or_len test xs) (length xs) less))
    by_test false more f = absurd (none-some n f)

placed : {A : Type 0} (test : A → Bool) (xs : List A) (n : ℕ) → position_or_len test xs ≡ n → n < length xs → position test xs ≡ Some n
placed test xs n is less =
    ap (λ k. cond (nat_lt k (length xs)) (Some k) None) is ∙ ap (λ b. cond b (Some n) None) (lt-ltb n (length xs) less)

-- At the place of the first definition of a name stands the one that the name stands for.
pub named_place : (ds : List DeclTree) (x : List ℕ) → slice_get ds (position_or_len (λ (d : DeclTree). bytes_eq x d.name) ds) ≡ decl_named ds x
named_place [] x = refl
named_place (d ∷ ds) x = by_test (bytes_eq x d.name) refl (named_place ds x)
  where
    by_test : (b : Bool) → bytes_eq x d.name ≡ b → slice_get ds (position_or_len (λ (k : DeclTree). bytes_eq x k.name) ds) ≡ decl_named ds x
        → slice_get (d ∷ ds) (position_or_len (λ (k : DeclTree). bytes_eq x k.name) (d ∷ ds)) ≡ decl_named (d ∷ ds) x
    by_test true e rest =
        ap (slice_get (d ∷ ds)) (first-at (λ (k : DeclTree). bytes_eq x k.name) d ds e) ∙ sym (ap (λ b. if b then Some d else decl_named ds x) e)
    by_test false e rest =
        ap (slice_get (d ∷ ds)) (later-at (λ (k : DeclTree). bytes_eq x k.name) d ds e) ∙ rest ∙ sym (ap (λ b. if b then Some d else decl_named ds x) e)

pub decl_number_agrees : (p : ProgramTree) (name : List ℕ) (n : ℕ) → decl_number p name ≡ Some n → slice_get p.decls n ≡ decl_named p.decls name
decl_number_agrees p name n e = ap (slice_get p.decls) (sym (place_of (λ (d : DeclTree). bytes_eq name d.name) p.decls n e).0) ∙ named_place p.decls name

pub decl_number_within : (p : ProgramTree) (name : List ℕ) (n : ℕ) → decl_number p name ≡ Some n → n < length p.decls
decl_number_within p name n e = (place_of (λ (d : DeclTree). bytes_eq name d.name) p.decls n e).1

-- A name stands for what stands at its number, if it has one.
pub by_number : (p : ProgramTree) (name : List ℕ) → decl_named p.decls name ≡ option_and_then (slice_get p.decls) (decl_number p name)
by_number p name = sym (named_place p.decls name) ∙ by_test (nat_lt place (length p.decls)) refl
  where
    place : ℕ
    place = position_or_len (λ (d : DeclTree). bytes_eq name d.name) p.decls

    by_test : (b : Bool) → nat_lt place (length p.decls) ≡ b → slice_get p.decls place ≡ option_and_then (slice_get p.decls) (cond (nat_lt place (length p.decls)) (Some place) None)
    by_test true e = sym (ap (λ b. option_and_then (slice_get p.decls) (cond b (Some place) None)) e)
    by_test false e =
        slice_get_past p.decls place (ltb-false place (length p.decls) e) ∙ sym (ap (λ b. option_and_then (slice_get p.decls) (cond b (Some place) None)) e)

pub numbered : (p : ProgramTree) (name : List ℕ) → IsSome (decl_named p.decls name) → IsSome (decl_number p name)
numbered p name there = by_number_of (decl_number p name) (subst IsSome (by_number p name) there)
  where
    by_number_of : (o : Option ℕ) → IsSome (option_and_then (slice_get p.decls) o) → IsSome o
    by_number_of (Some n) there = refl
    by_number_of None there = there

-- The number of a name by the list of names.
pub number_by_names : (p : ProgramTree) (names : NameLists) (name : List ℕ) → AreNamesOf names p → position (bytes_eq name) names.decls ≡ decl_number p name
number_by_names p names name are = ap (λ (k : NameLists). position (bytes_eq name) k.decls) are ∙ position_mapped (bytes_eq name) (λ (d : DeclTree). d.name) p.decls

pub event_number_by_names : (p : ProgramTree) (names : NameLists) (name : List ℕ) → AreNamesOf names p → position (bytes_eq name) names.events ≡ event_number p name
event_number_by_names p names name are = ap (λ (k : NameLists). position (bytes_eq name) k.events) are ∙ position_mapped (bytes_eq name) (λ (e : Event). e.name) p.events

-- The definition in memory that stands at a number is the one that the name stands for.
pub stands_at : (p : Program) (name : List ℕ) (n : ℕ) (d : Decl) → decl_number (program_tree_of p) name ≡ Some n → d ≡ get_or p.decls n d
    → decl_named (map decl_of p.decls) name ≡ Some (decl_of d)
stands_at p name n d is stands =
    sym (decl_number_agrees (program_tree_of p) name n is)
    ∙ slice_get-map decl_of p.decls n
    ∙ ap (option_map decl_of) (slice_get_read p.decls (length p.decls) n d refl
    (subst (λ k. n < k) (length-map p.decls decl_of) (decl_number_within (program_tree_of p) name n is)) stands)

-- As many inputs are in memory as in the tree, and no more than there are definitions.
pub inputs_in_memory : (ds : List Decl) → length (filter (λ (d : Decl). is_input (behaviour_of d.behaviour)) ds) ≡ length (filter (λ (d : DeclTree). is_input d.behaviour) (map decl_of ds))
inputs_in_memory [] = refl
inputs_in_memory (d ∷ ds) = by_test (is_input (behaviour_of d.behaviour)) (inputs_in_memory ds)
  where
    by_test : (b : Bool) → length (filter (λ (k : Decl). is_input (behaviour_of k.behaviour)) ds) ≡ length (filter (λ (k : DeclTree). is_input k.behaviour) (map decl_of ds))
        → length (cond b (d ∷ filter (λ (k : Decl). is_input (behaviour_of k.behaviour)) ds) (filter (λ (k : Decl). is_input (behaviour_of k.behaviour)) ds))
        ≡ length (cond b (decl_of d ∷ filter (λ (k : DeclTree). is_input k.behaviour) (map decl_of ds)) (filter (λ (k : DeclTree). is_input k.behaviour) (map decl_of ds)))
    by_test true rest = ap suc rest
    by_test false rest = rest

pub few_inputs : (p : ProgramTree) → inputs p ≤ length p.decls
few_inputs p =
    let e = length-filter (λ (d : DeclTree). is_input d.behaviour) p.decls in
    let h = count_by-le-length (λ (d : DeclTree). is_input d.behaviour) p.decls in
    omega (arith, e, h)

-- The source of the event that stands at a number.
pub source_at : (p : ProgramTree) (n : ℕ) (e : Event) → n < length p.events → e ≡ get_or p.events n e → event_source p n ≡ e.source
source_at p n e less stands = ap (λ o. elim o [ Some k ↦ k.source | None ↦ [] ]) (slice_get_read p.events (length p.events) n e refl less stands)

-- At a place within stands something; what stands first passes.
pub item_at : {A : Type 0} (xs : List A) (n : ℕ) → n < length xs → (x : A) × (slice_get xs n ≡ Some x)
item_at [] n less = absurd (omega (arith, less))
item_at (x ∷ xs) zero less = (x, refl)
item_at (x ∷ xs) (suc n) less = item_at xs n (omega (arith, less))

passes : {A : Type 0} (test : A → Bool) (xs : List A) (x : A) → slice_get xs (position_or_len test xs) ≡ Some x → test x ≡ true
passes test [] x at = absurd (none-some x at)
passes test (y ∷ ys) x at = by_test (test y) refl (passes test ys x)
  where
    by_test : (b : Bool) → test y ≡ b → (slice_get ys (position_or_len test ys) ≡ Some x → test x ≡ true) → test x ≡ true
    by_test true e rest = ap test (sym (some-same y x (sym (ap (slice_get (y ∷ ys)) (first-at test y ys e)) ∙ at))) ∙ e
    by_test false e rest = rest (sym (ap (slice_get (y ∷ ys)) (later-at test y ys e)) ∙ at)

pub event_number_agrees : (p : ProgramTree) (name : List ℕ) (n : ℕ) → event_number p name ≡ Some n → (e : Event) × (slice_get p.events n ≡ Some e) × (e.name ≡ name)
event_number_agrees p name n is =
    let place = place_of (λ (e : Event). bytes_eq name e.name) p.events n is in
    let item = item_at p.events n place.1 in
    let found = passes (λ (e : Event). bytes_eq name e.name) p.events item.0 (ap (slice_get p.events) place.0 ∙ item.1) in
    (item.0, item.1, sym ((bytes_eq-Decides name item.0.name).0 found))

-- Where names differ, the item at a place is the first of its name.
all-get : {A B : Type 0} (P : B → Type 0) (key : A → B) (xs : List A) (n : ℕ) (x : A) → AllByRecursion P (map key xs) → slice_get xs n ≡ Some x → P (key x)
all-get P key [] n x all at = absurd (none-some x at)
all-get P key (y ∷ ys) zero x all at = subst (λ k. P (key k)) (some-same y x at) all.0
all-get P key (y ∷ ys) (suc n) x all at = all-get P key ys n x all.1 at

own-first : {A : Type 0} (key : A → List ℕ) (xs : List A) (n : ℕ) (x : A) → IsDistinct bytes_eq (map key xs) → slice_get xs n ≡ Some x
    → position_or_len (λ (y : A). bytes_eq (key x) (key y)) xs ≡ n
unfolding IsDistinct
own-first key [] n x differ at = absurd (none-some x at)
own-first key (y ∷ ys) zero x differ at =
    first-at (λ z. bytes_eq (key x) (key z)) y ys ((bytes_eq-Decides (key x) (key y)).1 (ap key (sym (some-same y x at))))
own-first key (y ∷ ys) (suc n) x differ at =
    later-at (λ z. bytes_eq (key x) (key z)) y ys (not-turned (key y) (key x) (all-get (λ k. bytes_eq (key y) k ≡ false) key ys n x differ.0 at))
    ∙ ap suc (own-first key ys n x differ.1 at)

pub own_place : {A : Type 0} (key : A → List ℕ) (xs : List A) (n : ℕ) (x : A) → IsDistinct bytes_eq (map key xs) → slice_get xs n ≡ Some x
    → position (λ (y : A). bytes_eq (key x) (key y)) xs ≡ Some n
own_place key xs n x differ at = placed (λ y. bytes_eq (key x) (key y)) xs n (own-first key xs n x differ at) (slice_get_within xs n x at)

pub numbers-agree : (p : ProgramTree) → NumbersAgree p
numbers-agree p =
    record {
      decls = decl_number_agrees p;
      decls_within = decl_number_within p;
      events = event_number_agrees p;
      own_decls = λ differ n d at. own_place (λ (d : DeclTree). d.name) p.decls n d differ at;
      own_events = λ differ n e at. own_place (λ (e : Event). e.name) p.events n e differ at;
    }
