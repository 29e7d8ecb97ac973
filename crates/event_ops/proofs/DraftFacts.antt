-- What is drafted keeps its promise: at the start, behind further operations, and behind one assignment more.
use Rattle.std.specs.List.{AllByRecursion, list_any}
use Rattle.std.specs.Str.{bytes_eq}
use Rattle.std.proofs.Common.{◌≡◌, ◌≢◌, ℕ, ◌+◌, ◌*◌, ◌<◌, ◌≤◌, ◌⊎◌, ◌&&◌, ◌||◌, ◌==◌, Bool, true, false, List, [], ◌∷◌, ◌++◌, map, nat_lt, slice_get, sum_by, Option, Some, None, if◌then◌else◌, option_and_then, refl, sym, ap, subst, ◌∙◌, arith, eq-eqb}
use Rattle.std.proofs.lemmas.Bool.{and_parts, eqb-true, false≢true, ltb-false, ltb-true, ne_eqb, or_right}
use Rattle.std.proofs.lemmas.Bool.Decides.{eqb_tells}
use Rattle.std.proofs.lemmas.List.{append_assoc, append-nil, map-append}
use Rattle.std.proofs.lemmas.List.Folds.{list_any-append}
use Rattle.std.proofs.lemmas.List.Sums.{fold-append, sum_by-append}
use Rattle.std.proofs.lemmas.Option.{same_Some}
use Rattle.std.proofs.lemmas.Slice.Eq.{bytes_eq-Decides}
use mathlib.Core.Logic.{inl, inr}
use Rattle.frp_tree.specs.declared.syntax.Ty.{Ty}
use Rattle.frp_tree.specs.declared.syntax.Ty.TheVariants.{U8}
use Rattle.frp_tree.specs.Tree.{BehaviourTree, Plain, Input, Table, Reactive, DeclTree, ProgramTree}
use Rattle.efrp_meaning.specs.Bounds.{state_bytes}
use Rattle.efrp_meaning.specs.Decls.{inputs_of, is_reactive}
use Rattle.efrp_meaning.specs.Meaning.{State, old_state}
use Rattle.efrp_meaning.specs.States.{AreSamples, AreValuesOf, IsState, NamesDiffer}
use Rattle.efrp_meaning.specs.Types.{IsTyped, type_of_name}
use Rattle.efrp_meaning.proofs.DefinedLaws.{old-typed}
use Rattle.efrp_types.specs.Numbers.{decl_number}
use Rattle.event_needs.proofs.NumberLaws.{own-decl, same-place}
use Rattle.event_needs.proofs.ListLaws.{all-append}
use Rattle.byte_ops.specs.declared.operations.Op.{Op}
use Rattle.byte_ops.specs.declared.operations.Pair.{Pair}
use Rattle.byte_ops.specs.Cells.{Differ, cells_of, held}
use Rattle.byte_ops.specs.Weights.{weight_of}
use Rattle.expr_lower.specs.declared.places.Place.{Place}
use Rattle.expr_lower.specs.Lowered.{IsHeld}
use Rattle.expr_lower.specs.Nodes.{new_pair}
use Rattle.expr_lower.specs.Numbered.{Binds, CanBind, state_cells}
use Rattle.expr_lower.specs.Places.{AreCellsOf, cells_of_name, cells_of_place, is_wide}
use Rattle.expr_lower.specs.Running.{CanRun, DoAll, GiveOut, HoldBytes}
use Rattle.expr_lower.proofs.BindLaws.{bound-name, other-name}
use Rattle.expr_lower.proofs.OrderLaws.{between, ends-after, leaves, order-append}
use Rattle.expr_lower.proofs.StateLaws.{name-of-state, place-at, state_place}
use Rattle.two_phase.specs.declared.plans.Assign.{Assign}
use Rattle.two_phase.specs.Plans.{after, assigns, bound, given, given_by, meant, names_after, names_before, same_kind}
use Rattle.event_ops.specs.declared.drafts.Draft.{Draft}
use Rattle.event_ops.specs.declared.results.Copied.{Copied}
use Rattle.event_ops.specs.Drafts.{Drafted, Grows, HoldNames, IsNew, IsPlaceOf, Leaves, is_set, is_to, pair_copies, state_copies}
use Rattle.event_ops.specs.Works.{HoldState, IsCopy, copied, state_of}
use Rattle.event_ops.proofs.CopyFacts.{copied-first, copied-same, copied-second, copies-more, differ-push, not-to, tos}
use Rattle.event_ops.proofs.NameFacts.{NameAt, all-cells, any-more, any-set, each-cell, held-same, kind-is, name-at, set-more, some-below, still-ours}
use Rattle.event_ops.proofs.PieceFacts.{runs-more}
use Rattle.event_ops.proofs.PlaceFacts.{apart, before, has-cells, lies-in}

or-nothing : (a : Bool) → (a || (false || false)) ≡ a
or-nothing true = refl
or-nothing false = refl

or-one : (a : Bool) → (a || (true || false)) ≡ true
or-one true = refl
or-one false = refl

or-not : (a b : Bool) → b ≡ false → (a || b) ≡ a
or-not true b h = refl
or-not false b h = h

-- No samples are those of a program without inputs.
pub no-samples : (p : ProgramTree) → inputs_of p ≡ [] → AreSamples p []
no-samples p none = subst (λ (ds : List DeclTree). AreValuesOf (map (λ (d : DeclTree). U8) ds) []) (sym none) tt

module _ (p : ProgramTree) (typed : IsTyped p) (differ : NamesDiffer p) (none : inputs_of p ≡ []) (event : List ℕ) where
  -- The state of a definition at the start.
  given-old : (s : State) (d : DeclTree) (b : BehaviourTree) → d.behaviour ≡ b → is_reactive b ≡ true → given_by p s [] d ≡ old_state p s d.name
  given-old s d (Plain e) is h = absurd (false≢true h)
  given-old s d (Input port) is h = absurd (false≢true h)
  given-old s d (Table entries) is h = absurd (false≢true h)
  given-old s d (Reactive init clauses) is h = rw is refl

  starts-held : (s : State) → IsState p s → (start finish : ℕ → ℕ) → HoldState p s start → ((cell : ℕ) → finish cell ≡ start cell)
      → (n : ℕ) (d : DeclTree) (pair : Pair) → slice_get p.decls n ≡ Some d → state_of p n d ≡ Some pair → IsHeld d.ty (names_before p s [] d.name) pair finish
  starts-held s is_state start finish hold same n d pair at is =
      let cells = has-cells (before p.decls n) d.ty d.behaviour pair is in
      let found = own-decl p differ n d at in
      let old = hold n d pair at is in (
        held (is_wide d.ty) pair start,
        ap (option_and_then (given_by p s [])) found ∙ given-old s d d.behaviour refl cells.reactive ∙ old,
        some-below d.ty (old_state p s d.name) (held (is_wide d.ty) pair start) (old-typed p typed s is_state [] (no-samples p none) d.name d found cells.reactive) old,
        held-same (is_wide d.ty) pair finish start (all-cells (λ cell. finish cell ≡ start cell) (is_wide d.ty) pair (same pair.low) (same pair.high)),
      )

  -- Nothing is drafted.
  pub begins : (draft : Draft) → IsNew p draft → Drafted p event [] 0 0 draft
  begins draft new = record {
    ours = new.cells.ours;
    states = new.states;
    order = subst (λ (ops : List Op). GiveOut (state_bytes p) ops draft.cells.next) (sym new.ops) (sym new.cells.next);
    runs = subst (λ (ops : List Op). AllByRecursion (CanRun draft.cells.next) ops) (sym new.ops) tt;
    places = λ n d at. (
      state_place (0 + before p.decls n) d,
      ap (λ (places : List Place). slice_get places n) new.cells.places ∙ place-at 0 p.decls n d at,
      record { ty = refl; state = ap (λ k. state_cells k d.ty d.behaviour) (from-zero (before p.decls n)); bound = refl },
    );
    copies = subst (λ (cs : List Copied). AllByRecursion (IsCopy (state_bytes p) draft.cells.next) cs) (sym new.copies) tt;
    once = subst (λ (cs : List Copied). Differ (tos cs)) (sym new.copies) tt;
    marks = λ n d pair at is.
        all-cells (λ cell. is_to draft.copies cell ≡ is_set n []) (is_wide d.ty) pair (ap (λ (cs : List Copied). is_to cs pair.low) new.copies) (ap (λ (cs : List Copied). is_to cs pair.high) new.copies);
    leaves = λ s start finish is_state bytes hold d.
        let same = subst (λ (ops : List Op). DoAll ops start finish) new.ops d in
        record {
          names = λ y t pair type has.
              let its = name-at p draft.cells new.cells.ours y t pair type has in
              let is = sym (name-of-state p draft.cells new.cells y its.n its.d its.number its.at) ∙ has in
              subst (λ z. IsHeld t (names_before p s [] z) pair finish) its.name
              (subst (λ u. IsHeld u (names_before p s [] its.d.name) pair finish) its.ty (starts-held s is_state start finish hold same its.n its.d pair its.at is));
          news = λ n d pair next at is set. absurd (false≢true set);
        };
    count = omega (arith, new.cells.next);
    weight = subst (λ (ops : List Op). sum_by weight_of ops ≤ 0) (sym new.ops) (omega arith);
  }
    where
      from-zero : (k : ℕ) → 0 + k ≡ k
      from-zero k = omega arith

  -- Further operations.
  module _ (front : List Assign) (b w : ℕ) (old new : Draft) (so_far : Drafted p event front b w old) (ops : List Op) (bytes_more most : ℕ) (adds : Grows old new ops bytes_more most) where
    more : old.cells.next ≤ new.cells.next
    more = ends-after old.cells.next ops new.cells.next adds.order

    split : (start finish : ℕ → ℕ) → DoAll new.ops start finish → DoAll (old.ops ++ ops) start finish
    split start finish d = subst (λ (ops : List Op). DoAll ops start finish) adds.goes_on.ops d

    kept : (middle finish : ℕ → ℕ) → DoAll ops middle finish → (cell : ℕ) → cell < old.cells.next → finish cell ≡ middle cell
    kept middle finish d = leaves old.cells.next ops new.cells.next middle finish adds.order d

    -- What holds of the names behind the first ones holds behind all.
    names-kept : (s : State) (middle finish : ℕ → ℕ) → DoAll ops middle finish → Leaves p event front old s middle
        → (y : List ℕ) (u : Ty) (pair : Pair) → type_of_name p y ≡ Some u → cells_of_name p new.cells y ≡ Some pair → IsHeld u (names_after p s [] event front y) pair finish
    names-kept s middle finish d left y u pair type has =
        let before_has = ap (λ (items : List Place). option_and_then (λ n. option_and_then cells_of_place (slice_get items n)) (decl_number p y)) (sym adds.goes_on.places) ∙ has in
        let v = left.names y u pair type before_has in
        let its = name-at p old.cells so_far.ours y u pair type before_has in (
          v.0,
          v.1,
          v.2,
          held-same (is_wide u) pair finish middle (all-cells (λ cell. finish cell ≡ middle cell) (is_wide u) pair (kept middle finish d pair.low its.low) (kept middle finish d pair.high its.high)) ∙ v.3,
        )

    pub grows : old.cells.next + bytes_more ≤ 65536 → Drafted p event front (b + bytes_more) (w + most) new
    grows room = record {
      ours = still-ours p old.cells new.cells so_far.ours adds.goes_on.places more (omega (arith, adds.count, room));
      states = adds.goes_on.states ∙ so_far.states;
      order = subst (λ (ops : List Op). GiveOut (state_bytes p) ops new.cells.next) (sym adds.goes_on.ops) (order-append (state_bytes p) old.ops ops old.cells.next new.cells.next so_far.order adds.order);
      runs =
          subst (λ (ops : List Op). AllByRecursion (CanRun new.cells.next) ops) (sym adds.goes_on.ops)
          (all-append (CanRun new.cells.next) old.ops ops (runs-more old.cells.next new.cells.next old.ops more so_far.runs) adds.runs);
      places = λ n d is.
          let here = so_far.places n d is in
          (here.0, ap (λ (items : List Place). slice_get items n) adds.goes_on.places ∙ here.1, here.2);
      copies = subst (λ (cs : List Copied). AllByRecursion (IsCopy (state_bytes p) new.cells.next) cs) (sym adds.goes_on.copies) (copies-more (state_bytes p) old.cells.next new.cells.next old.copies more so_far.copies);
      once = subst (λ (cs : List Copied). Differ (tos cs)) (sym adds.goes_on.copies) so_far.once;
      marks = λ n d pair is its.
          subst (λ (cs : List Copied). AllByRecursion (λ cell. is_to cs cell ≡ is_set n front) (cells_of (is_wide d.ty) pair)) (sym adds.goes_on.copies) (so_far.marks n d pair is its);
      leaves = λ s start finish is_state bytes hold d.
          let parts = between old.ops ops start finish bytes (split start finish d) in
          let left = so_far.leaves s start parts.at is_state bytes hold parts.first in
          record {
            names = names-kept s parts.at finish parts.second left;
            news = λ n c pair next is its set.
                let marked = so_far.marks n c pair is its in
                let going = any-set n next front set in
                left.news n c pair next is its set
                ∙ ap Some (held-same (is_wide c.ty) pair (copied old.copies parts.at) (copied old.copies finish)
                (each-cell (λ cell. is_to old.copies cell ≡ is_set n front) (λ cell. copied old.copies parts.at cell ≡ copied old.copies finish cell) (is_wide c.ty) pair
                (λ cell mark. copied-same (state_bytes p) old.cells.next old.copies parts.at finish so_far.copies (λ k below. sym (kept parts.at finish parts.second k below)) cell (mark ∙ going)) marked))
                ∙ ap (λ (cs : List Copied). Some (held (is_wide c.ty) pair (copied cs finish))) (sym adds.goes_on.copies);
          };
      count = omega (arith, so_far.count, adds.count);
      weight =
          let sum = ap (sum_by weight_of) adds.goes_on.ops ∙ sum_by-append weight_of old.ops ops in
          omega (arith, sum, so_far.weight, adds.weight);
    }

    -- Before them the names' cells hold what names stand for.
    pub record Held (s : State) (start finish : ℕ → ℕ) : Type 0 where
      pub middle : ℕ → ℕ
      pub bytes : HoldBytes middle
      pub names : HoldNames p old.cells (names_after p s [] event front) middle
      pub done : DoAll ops middle finish

    pub names-held : (s : State) (start finish : ℕ → ℕ) → IsState p s → HoldBytes start → HoldState p s start → DoAll new.ops start finish → Held s start finish
    names-held s start finish is_state bytes hold d =
        let parts = between old.ops ops start finish bytes (split start finish d) in
        record { middle = parts.at; bytes = parts.bytes; names = (so_far.leaves s start parts.at is_state bytes hold parts.first).names; done = parts.second }

  -- An assignment, where the value is held in cells, behind others.
  pub record Step (front : List Assign) (a : Assign) (d : DeclTree) (old new : Draft) (pair : Pair) : Type 0 where
    pub at : slice_get p.decls a.decl ≡ Some d
    pub fresh : is_set a.decl front ≡ false
    pub low : pair.low < old.cells.next
    pub high : pair.high < old.cells.next
    pub lasting : (q : Pair) → state_of p a.decl d ≡ Some q → (state_bytes p ≤ pair.low) × (state_bytes p ≤ pair.high)
    pub value : (s : State) (start finish : ℕ → ℕ) → IsState p s → HoldBytes start → HoldState p s start → DoAll old.ops start finish → IsHeld d.ty (given p s event (names_after p s [] event front) d) pair finish
    pub gives : (s : State) → given p s event (names_after p s [] event front) d ≡ meant p s [] event d a.next
    pub ops : new.ops ≡ old.ops
    pub states : new.states ≡ old.states
    pub copies : new.copies ≡ old.copies ++ state_copies (is_wide d.ty) pair (state_of p a.decl d)
    pub ours : AreCellsOf p new.cells
    pub next : new.cells.next ≡ old.cells.next
    pub keeps : a.next ≡ true → new.cells.places.items ≡ old.cells.places.items
    pub can : a.next ≡ false → CanBind old.cells a.decl pair
    pub binds : a.next ≡ false → Binds a.decl pair old.cells new.cells

  -- No cell of one definition's state is one of another's.
  apart-both : (m n : ℕ) (c d : DeclTree) (x y : Pair) → slice_get p.decls m ≡ Some c → slice_get p.decls n ≡ Some d → m ≢ n → state_of p m c ≡ Some x → state_of p n d ≡ Some y
      → (x.low ≢ y.low) × (x.low ≢ y.high) × (x.high ≢ y.low) × (x.high ≢ y.high)
  apart-both m n c d x y at there other is its = elim (less-or-more m n other) [
    | inl less ↦ let k = apart p m n c d x y at there less is its in ((λ e. absurd (omega (arith, e, k.0))), (λ e. absurd (omega (arith, e, k.1))), (λ e. absurd (omega (arith, e, k.2))), (λ e. absurd (omega (arith, e, k.3))))
    | inr less ↦ let k = apart p n m d c y x there at less its is in ((λ e. absurd (omega (arith, e, k.0))), (λ e. absurd (omega (arith, e, k.2))), (λ e. absurd (omega (arith, e, k.1))), (λ e. absurd (omega (arith, e, k.3))))
  ]
    where
      less-or-more : (i k : ℕ) → i ≢ k → (i < k) ⊎ (k < i)
      less-or-more i k h = by_test (nat_lt i k) refl
        where
          by_test : (b : Bool) → nat_lt i k ≡ b → (i < k) ⊎ (k < i)
          by_test true e = inl (ltb-true i k e)
          by_test false e = let more = ltb-false i k e in let less : k < i = omega (arith, more, h) in inr less

  module _ (front : List Assign) (b w : ℕ) (a : Assign) (d : DeclTree) (old new : Draft) (pair : Pair) (so_far : Drafted p event front b w old) (step : Step front a d old new pair) where
    abbrev all : List Assign
    all = front ++ a ∷ []

    abbrev added : List Copied
    added = state_copies (is_wide d.ty) pair (state_of p a.decl d)

    place-of : (n : ℕ) (c : DeclTree) → slice_get p.decls n ≡ Some c → (place : Place) × (slice_get new.cells.places.items n ≡ Some place) × IsPlaceOf p all n c place
    place-of n c is = by_kind a.next refl
      where
        here : (place : Place) × (slice_get old.cells.places.items n ≡ Some place) × IsPlaceOf p front n c place
        here = so_far.places n c is

        unbound : assigns n false a ≡ false → IsPlaceOf p all n c here.0
        unbound isnt = record { ty = here.2.ty; state = here.2.state; bound = here.2.bound ∙ sym (any-more n false front a ∙ ap (λ k. list_any (assigns n false) front || (k || false)) isnt ∙ or-nothing (list_any (assigns n false) front)) }

        by_kind : (k : Bool) → a.next ≡ k → (place : Place) × (slice_get new.cells.places.items n ≡ Some place) × IsPlaceOf p all n c place
        by_kind true later =
            (here.0, ap (λ (items : List Place). slice_get items n) (step.keeps later) ∙ here.1, unbound (ap (λ k. (a.decl == n) && same_kind k false) later ∙ no-kind (a.decl == n)))
          where
            no-kind : (k : Bool) → (k && false) ≡ false
            no-kind true = refl
            no-kind false = refl
        by_kind false now = elim (eqb_tells a.decl n) [
          | inl same ↦
              let own = (step.binds now).own here.0 (ap (slice_get old.cells.places.items) same.1 ∙ here.1) in
              let place = here.0 in (
                record place { bound = Some pair },
                ap (slice_get new.cells.places.items) (sym same.1) ∙ own,
                record {
                  ty = here.2.ty;
                  state = here.2.state;
                  bound = sym (any-more n false front a ∙ ap (λ k. list_any (assigns n false) front || ((k && same_kind a.next false) || false)) same.0 ∙ ap (λ k. list_any (assigns n false) front || (same_kind k false || false)) now ∙ or-one (list_any (assigns n false) front));
                },
              )
          | inr other ↦
              (here.0, (step.binds now).others n (λ e. other.1 (sym e)) ∙ here.1, unbound (ap (λ k. k && same_kind a.next false) other.0))
        ]

    -- What is copied more.
    added-copies : AllByRecursion (IsCopy (state_bytes p) old.cells.next) added
    added-copies = by_state (state_of p a.decl d) refl
      where
        by_state : (o : Option Pair) → state_of p a.decl d ≡ o → AllByRecursion (IsCopy (state_bytes p) old.cells.next) (state_copies (is_wide d.ty) pair o)
        by_state None is = tt
        by_state (Some q) is = by_width (is_wide d.ty)
          where
            by_width : (v : Bool) → AllByRecursion (IsCopy (state_bytes p) old.cells.next) (pair_copies v pair q)
            by_width false = (record { to = (lies-in p a.decl d q step.at is).low; old = (step.lasting q is).0; given = step.low }, tt)
            by_width true =
                (record { to = (lies-in p a.decl d q step.at is).low; old = (step.lasting q is).0; given = step.low }, (record { to = (lies-in p a.decl d q step.at is).high; old = (step.lasting q is).1; given = step.high }, tt))

    untouched : (q : Pair) → state_of p a.decl d ≡ Some q → AllByRecursion (λ cell. is_to old.copies cell ≡ false) (cells_of (is_wide d.ty) q)
    untouched q is = each-cell (λ cell. is_to old.copies cell ≡ is_set a.decl front) (λ cell. is_to old.copies cell ≡ false) (is_wide d.ty) q (λ cell mark. mark ∙ step.fresh) (so_far.marks a.decl d q step.at is)

    -- Of a state's own cells the high one stands behind the low one.
    high-is : (q : Pair) → state_of p a.decl d ≡ Some q → is_wide d.ty ≡ true → q.high ≡ q.low + 1
    high-is q is wide =
        let pair_is = (has-cells (before p.decls a.decl) d.ty d.behaviour q is).pair ∙ ap (λ v. new_pair v (before p.decls a.decl)) wide in
        ap (λ (x : Pair). x.high) pair_is ∙ sym (ap (λ (x : Pair). x.low + 1) pair_is)

    added-once : Differ (tos (old.copies ++ added))
    added-once = subst (λ (xs : List ℕ). Differ xs) (sym (map-append (λ (c : Copied). c.to) old.copies added)) (by_state (state_of p a.decl d) refl)
      where
        by_state : (o : Option Pair) → state_of p a.decl d ≡ o → Differ (tos old.copies ++ tos (state_copies (is_wide d.ty) pair o))
        by_state None is = subst (λ (xs : List ℕ). Differ xs) (sym (append-nil (tos old.copies))) so_far.once
        by_state (Some q) is = by_width (is_wide d.ty) refl (untouched q is)
          where
            by_width : (v : Bool) → is_wide d.ty ≡ v → AllByRecursion (λ cell. is_to old.copies cell ≡ false) (cells_of v q) → Differ (tos old.copies ++ tos (pair_copies v pair q))
            by_width false wide free = differ-push (tos old.copies) q.low so_far.once (not-to old.copies q.low free.0)
            by_width true wide free =
                let first = differ-push (tos old.copies) q.low so_far.once (not-to old.copies q.low free.0) in
                let high = high-is q is wide in
                let others = all-append (λ other. other ≢ q.high) (tos old.copies) (q.low ∷ []) (not-to old.copies q.high free.1.0) ((λ e. absurd (omega (arith, e, high))), tt) in
                subst (λ (xs : List ℕ). Differ xs) (append_assoc (tos old.copies) (q.low ∷ []) (q.high ∷ [])) (differ-push (tos old.copies ++ q.low ∷ []) q.high first others)

    to-same : (cell : ℕ) → (cell == cell) ≡ true
    to-same cell = eq-eqb cell cell refl

    -- The cells of this state are those to which is copied,
    added-to : (q : Pair) → state_of p a.decl d ≡ Some q → AllByRecursion (λ cell. is_to added cell ≡ true) (cells_of (is_wide d.ty) q)
    added-to q is = subst (λ (o : Option Pair). AllByRecursion (λ cell. is_to (state_copies (is_wide d.ty) pair o) cell ≡ true) (cells_of (is_wide d.ty) q)) (sym is) (by_width (is_wide d.ty))
      where
        by_width : (v : Bool) → AllByRecursion (λ cell. is_to (pair_copies v pair q) cell ≡ true) (cells_of v q)
        by_width false = (ap (λ k. k || false) (to-same q.low), tt)
        by_width true = (ap (λ k. k || ((q.high == q.low) || false)) (to-same q.low), (or_right (q.low == q.high) ((q.high == q.high) || false) (ap (λ k. k || false) (to-same q.high)), tt))

    -- those of others aren't,
    added-not : (n : ℕ) (c : DeclTree) (x : Pair) → slice_get p.decls n ≡ Some c → state_of p n c ≡ Some x → a.decl ≢ n → AllByRecursion (λ cell. is_to added cell ≡ false) (cells_of (is_wide c.ty) x)
    added-not n c x there its other = by_state (state_of p a.decl d) refl
      where
        by_state : (o : Option Pair) → state_of p a.decl d ≡ o → AllByRecursion (λ cell. is_to (state_copies (is_wide d.ty) pair o) cell ≡ false) (cells_of (is_wide c.ty) x)
        by_state None is = all-cells (λ cell. is_to (state_copies (is_wide d.ty) pair None) cell ≡ false) (is_wide c.ty) x refl refl
        by_state (Some q) is = all-cells (λ cell. is_to (pair_copies (is_wide d.ty) pair q) cell ≡ false) (is_wide c.ty) x (by_width (is_wide d.ty) x.low k.0 k.2) (by_width (is_wide d.ty) x.high k.1 k.3)
          where
            k : (q.low ≢ x.low) × (q.low ≢ x.high) × (q.high ≢ x.low) × (q.high ≢ x.high)
            k = apart-both a.decl n d c q x step.at there other is its

            by_width : (v : Bool) (cell : ℕ) → q.low ≢ cell → q.high ≢ cell → is_to (pair_copies v pair q) cell ≡ false
            by_width false cell low high = ap (λ k. k || false) (ne_eqb q.low cell low)
            by_width true cell low high = ap (λ k. k || ((q.high == cell) || false)) (ne_eqb q.low cell low) ∙ ap (λ k. k || false) (ne_eqb q.high cell high)

    -- and once copied they hold the value.
    added-held : (q : Pair) (f : ℕ → ℕ) → state_of p a.decl d ≡ Some q → held (is_wide d.ty) q (copied added f) ≡ held (is_wide d.ty) pair f
    added-held q f is = ap (λ (o : Option Pair). held (is_wide d.ty) q (copied (state_copies (is_wide d.ty) pair o) f)) is ∙ by_width (is_wide d.ty) refl
      where
        low-first : (rest : List Copied) → copied (record { from = pair.low; to = q.low } ∷ rest) f q.low ≡ f pair.low
        low-first rest = ap (λ k. if k then f pair.low else copied rest f q.low) (to-same q.low)

        high-second : q.high ≡ q.low + 1 → copied (pair_copies true pair q) f q.high ≡ f pair.high
        high-second high =
            ap (λ k. if k then f pair.low else (if q.high == q.high then f pair.high else f q.high)) (ne_eqb q.low q.high (λ e. absurd (omega (arith, e, high))))
            ∙ ap (λ k. if k then f pair.high else f q.high) (to-same q.high)

        by_width : (v : Bool) → is_wide d.ty ≡ v → held v q (copied (pair_copies v pair q) f) ≡ held v pair f
        by_width false wide = low-first []
        by_width true wide =
            ap (λ x. x + 256 * copied (pair_copies true pair q) f q.high) (low-first (record { from = pair.high; to = q.high } ∷ []))
            ∙ ap (λ x. f pair.low + 256 * x) (high-second (high-is q is wide))

    marks-all : (n : ℕ) (c : DeclTree) (x : Pair) → slice_get p.decls n ≡ Some c → state_of p n c ≡ Some x → AllByRecursion (λ cell. is_to (old.copies ++ added) cell ≡ is_set n all) (cells_of (is_wide c.ty) x)
    marks-all n c x there its = elim (eqb_tells a.decl n) [
      | inl same ↦
          let c_is = same_Some d c (sym step.at ∙ ap (slice_get p.decls) same.1 ∙ there) in
          let own = ap (λ k. state_of p k d) same.1 ∙ ap (λ (z : DeclTree). state_of p n z) c_is ∙ its in
          each-cell (λ cell. is_to added cell ≡ true) (λ cell. is_to (old.copies ++ added) cell ≡ is_set n all) (is_wide c.ty) x
          (λ cell to.
          list_any-append (λ (k : Copied). k.to == cell) old.copies added ∙ or_right (is_to old.copies cell) (is_to added cell) to
          ∙ sym (set-more n front a ∙ ap (λ k. is_set n front || (k || false)) same.0 ∙ or-one (is_set n front)))
          (subst (λ (z : DeclTree). AllByRecursion (λ cell. is_to added cell ≡ true) (cells_of (is_wide z.ty) x)) c_is (added-to x own))
      | inr other ↦
          both-cells (is_wide c.ty) (so_far.marks n c x there its) (added-not n c x there its other.1)
          (set-more n front a ∙ ap (λ k. is_set n front || (k || false)) other.0 ∙ or-nothing (is_set n front))
    ]
      where
        one-cell : (cell : ℕ) → is_to old.copies cell ≡ is_set n front → is_to added cell ≡ false → is_set n all ≡ is_set n front → is_to (old.copies ++ added) cell ≡ is_set n all
        one-cell cell mark not set = list_any-append (λ (k : Copied). k.to == cell) old.copies added ∙ or-not (is_to old.copies cell) (is_to added cell) not ∙ mark ∙ sym set

        both-cells : (v : Bool) → AllByRecursion (λ cell. is_to old.copies cell ≡ is_set n front) (cells_of v x) → AllByRecursion (λ cell. is_to added cell ≡ false) (cells_of v x) → is_set n all ≡ is_set n front
            → AllByRecursion (λ cell. is_to (old.copies ++ added) cell ≡ is_set n all) (cells_of v x)
        both-cells false mark not set = (one-cell x.low mark.0 not.0 set, tt)
        both-cells true mark not set = (one-cell x.low mark.0 not.0 set, (one-cell x.high mark.1.0 not.1.0 set, tt))

    -- What is left from a state.
    module _ (s : State) (start finish : ℕ → ℕ) (is_state : IsState p s) (bytes : HoldBytes start) (hold : HoldState p s start) (done : DoAll old.ops start finish) where
      left : Leaves p event front old s finish
      left = so_far.leaves s start finish is_state bytes hold done

      abbrev names : List ℕ → Option ℕ
      names = names_after p s [] event front

      abbrev bound-by : Bool → Option DeclTree → List ℕ → Option ℕ
      bound-by next o = if next then names else elim o [ Some c ↦ bound names c.name (given p s event names c) | None ↦ names ]

      names-more : (y : List ℕ) → names_after p s [] event all y ≡ bound-by a.next (Some d) y
      names-more y = ap (λ (f : List ℕ → Option ℕ). f y) (fold-append (after p s event) (names_before p s []) front (a ∷ [])) ∙ ap (λ o. bound-by a.next o y) step.at

      names-all : (y : List ℕ) (t : Ty) (x : Pair) → type_of_name p y ≡ Some t → cells_of_name p new.cells y ≡ Some x → IsHeld t (names_after p s [] event all y) x finish
      names-all y t x type has = subst (λ o. IsHeld t o x finish) (sym (names-more y)) (by_kind a.next refl)
        where
          its : NameAt p new.cells y t x
          its = name-at p new.cells step.ours y t x type has

          by_kind : (k : Bool) → a.next ≡ k → IsHeld t (bound-by k (Some d) y) x finish
          by_kind true later =
              left.names y t x type (ap (λ (items : List Place). option_and_then (λ n. option_and_then cells_of_place (slice_get items n)) (decl_number p y)) (sym (step.keeps later)) ∙ has)
          by_kind false now = elim (eqb_tells a.decl its.n) [
            | inl same ↦
                let number = its.number ∙ ap Some (sym same.1) in
                let x_is = same_Some pair x (sym (bound-name p old.cells new.cells a.decl pair (step.binds now) y (step.can now) number) ∙ has) in
                let d_is = same_Some d its.d (sym step.at ∙ ap (slice_get p.decls) same.1 ∙ its.at) in
                let name = (bytes_eq-Decides d.name y).1 (ap (λ (c : DeclTree). c.name) d_is ∙ its.name) in
                let v = subst (λ (z : Pair). IsHeld d.ty (given p s event names d) z finish) x_is (step.value s start finish is_state bytes hold done) in
                let u = subst (λ (u : Ty). IsHeld u (given p s event names d) x finish) (ap (λ (c : DeclTree). c.ty) d_is ∙ its.ty) v in
                subst (λ o. IsHeld t o x finish) (sym (ap (λ k. if k then given p s event names d else names y) name)) u
            | inr other ↦
                let old_has = sym (other-name p old.cells new.cells a.decl pair (step.binds now) y its.n its.number (λ e. other.1 (sym e))) ∙ has in
                subst (λ o. IsHeld t o x finish) (sym (ap (λ k. if k then given p s event names d else names y) (other-bytes other.1))) (left.names y t x type old_has)
          ]
            where
              other-bytes : a.decl ≢ its.n → bytes_eq d.name y ≡ false
              other-bytes differs = by_test (bytes_eq d.name y) refl
                where
                  by_test : (k : Bool) → bytes_eq d.name y ≡ k → k ≡ false
                  by_test false e = refl
                  by_test true e = absurd (differs (same-place p differ a.decl its.n d its.d step.at its.at (subst (λ z. bytes_eq d.name z ≡ true) (sym its.name) e)))

      own-new : (q : Pair) → state_of p a.decl d ≡ Some q → meant p s [] event d a.next ≡ Some (held (is_wide d.ty) q (copied (old.copies ++ added) finish))
      own-new q is =
          let v = step.value s start finish is_state bytes hold done in
          sym (step.gives s) ∙ v.1 ∙ ap Some (sym v.3) ∙ ap Some (sym (added-held q finish is))
          ∙ ap Some (held-same (is_wide d.ty) q (copied added finish) (copied (old.copies ++ added) finish)
          (each-cell (λ cell. is_to old.copies cell ≡ false) (λ cell. copied added finish cell ≡ copied (old.copies ++ added) finish cell) (is_wide d.ty) q (λ cell free. sym (copied-second old.copies added finish cell free)) (untouched q is)))

      news-all : (n : ℕ) (c : DeclTree) (x : Pair) (next : Bool) → slice_get p.decls n ≡ Some c → state_of p n c ≡ Some x → list_any (assigns n next) all ≡ true
          → meant p s [] event c next ≡ Some (held (is_wide c.ty) x (copied (old.copies ++ added) finish))
      news-all n c x next there its set = by_front (list_any (assigns n next) front) refl (sym (any-more n next front a) ∙ set)
        where
          by_front : (k : Bool) → list_any (assigns n next) front ≡ k → (k || (assigns n next a || false)) ≡ true → meant p s [] event c next ≡ Some (held (is_wide c.ty) x (copied (old.copies ++ added) finish))
          by_front true before h =
              left.news n c x next there its before
              ∙ ap Some (held-same (is_wide c.ty) x (copied old.copies finish) (copied (old.copies ++ added) finish)
              (each-cell (λ cell. is_to old.copies cell ≡ is_set n front) (λ cell. copied old.copies finish cell ≡ copied (old.copies ++ added) finish cell) (is_wide c.ty) x
              (λ cell mark. sym (copied-first old.copies added finish cell (mark ∙ any-set n next front before))) (so_far.marks n c x there its)))
          by_front false before h =
              let tests = and_parts (a.decl == n) (same_kind a.next next) (sym (or-end (assigns n next a)) ∙ h) in
              let same = eqb-true a.decl n tests.0 in
              let c_is = same_Some d c (sym step.at ∙ ap (slice_get p.decls) same ∙ there) in
              let own = ap (λ k. state_of p k d) same ∙ ap (λ (z : DeclTree). state_of p n z) c_is ∙ its in
              subst (λ (z : DeclTree). meant p s [] event z next ≡ Some (held (is_wide z.ty) x (copied (old.copies ++ added) finish))) c_is
              (subst (λ k. meant p s [] event d k ≡ Some (held (is_wide d.ty) x (copied (old.copies ++ added) finish))) (kind-is a.next next tests.1) (own-new x own))
            where
              or-end : (k : Bool) → (k || false) ≡ k
              or-end true = refl
              or-end false = refl

    pub assigned-more : Drafted p event all b w new
    assigned-more = record {
      ours = step.ours;
      states = step.states ∙ so_far.states;
      order = subst (λ n. GiveOut (state_bytes p) new.ops n) (sym step.next) (subst (λ (ops : List Op). GiveOut (state_bytes p) ops old.cells.next) (sym step.ops) so_far.order);
      runs = subst (λ n. AllByRecursion (CanRun n) new.ops) (sym step.next) (subst (λ (ops : List Op). AllByRecursion (CanRun old.cells.next) ops) (sym step.ops) so_far.runs);
      places = place-of;
      copies =
          subst (λ n. AllByRecursion (IsCopy (state_bytes p) n) new.copies) (sym step.next)
          (subst (λ (cs : List Copied). AllByRecursion (IsCopy (state_bytes p) old.cells.next) cs) (sym step.copies) (all-append (IsCopy (state_bytes p) old.cells.next) old.copies added so_far.copies added-copies));
      once = subst (λ (cs : List Copied). Differ (tos cs)) (sym step.copies) added-once;
      marks = λ n c x there its. subst (λ (cs : List Copied). AllByRecursion (λ cell. is_to cs cell ≡ is_set n all) (cells_of (is_wide c.ty) x)) (sym step.copies) (marks-all n c x there its);
      leaves = λ s start finish is_state bytes hold d.
          let done = subst (λ (ops : List Op). DoAll ops start finish) step.ops d in
          record {
            names = names-all s start finish is_state bytes hold done;
            news = λ n c x next there its set.
                subst (λ (cs : List Copied). meant p s [] event c next ≡ Some (held (is_wide c.ty) x (copied cs finish))) (sym step.copies) (news-all s start finish is_state bytes hold done n c x next there its set);
          };
      count = omega (arith, so_far.count, step.next);
      weight = subst (λ (ops : List Op). sum_by weight_of ops ≤ w) (sym step.ops) so_far.weight;
    }
