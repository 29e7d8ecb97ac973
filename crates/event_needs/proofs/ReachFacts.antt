-- Marks while an event's order is gone through from the back: no more than what the event needs, and for those behind all that they name.
use Rattle.std.specs.Prelude.{◌≡◌, ℕ, suc, ◌-◌, ◌<◌, ◌≤◌, ◌⊎◌, Bool, true, false, ◌||◌, ◌&&◌, ◌==◌, List, [], ◌∷◌, ◌++◌, length, take, drop, filter, fold, get_or, count_by, cond, slice_get, Some, None, if◌then◌else◌, refl}
use Rattle.std.specs.List.{list_any, list_all}
use Rattle.std.specs.Str.{bytes_eq}
use Rattle.std.proofs.Common.{sym, ap, subst, ◌∙◌, arith, drop-cons}
use Rattle.std.proofs.lemmas.Bool.{and_parts, eqb-true, false≢true}
use Rattle.std.proofs.lemmas.List.{ext_get_or, get_or-map, length-map, take-append-drop}
use Rattle.std.proofs.lemmas.List.Folds.{list_any-append}
use Rattle.std.proofs.lemmas.List.Sums.{sum_by-append, sum_by-cons}
use Rattle.std.proofs.lemmas.Option.{same_Some, slice_get-get_or, slice_get_within}
use mathlib.Core.Logic.{inl, inr}
use Rattle.frp_tree.specs.declared.syntax.Ty.TheVariants.{U8}
use Rattle.frp_tree.specs.Tree.{Tree, BehaviourTree, Plain, Input, Table, Reactive, DeclTree, ProgramTree}
use Rattle.efrp_meaning.specs.Causal.{dependencies_by, DependsOn}
use Rattle.efrp_meaning.specs.Decls.{is_plain}
use Rattle.efrp_meaning.specs.Meaning.{rule_on}
use Rattle.efrp_meaning.specs.Needs.{names_in, is_named_in, first_needed, expressions_of, needed, needed_plain, plain_named_in}
use Rattle.efrp_meaning.specs.States.{NamesDiffer}
use Rattle.efrp_meaning.proofs.NeedsLaws.{needs-are-closed, needs-are-least}
use Rattle.efrp_types.specs.Numbers.{decl_number}
use Rattle.causality.specs.Orders.{IsOrder}
use Rattle.event_needs.specs.Marking.{AreNamed, own_names, with_name}
use Rattle.event_needs.specs.Needed.{named_on}
use Rattle.event_needs.proofs.FilterFacts.{or-left, or-right, and-both, alike, all-kept, kept-each, found-plain, plain-found}
use Rattle.event_needs.proofs.MarkFacts.{long-fold, fold-at}
use Rattle.event_needs.proofs.NumberLaws.{count-some, own-decl, own-number, some-count}

pub either : (a b : Bool) → (a || b) ≡ true → (a ≡ true) ⊎ (b ≡ true)
either true b h = inl refl
either false b h = inr h

abbrev pub has : List ℕ → ℕ → Bool
has numbers n = list_any (λ m. m == n) numbers

-- One that stands once in a row doesn't stand on both sides.
not-both : (front rest : List ℕ) (i m : ℕ) → count_by (λ k. k == m) (front ++ i ∷ rest) ≡ 1 → has front m ≡ true → has rest m ≡ true → ⊥
not-both front rest i m once before behind =
    let split = sum_by-append (λ k. cond (k == m) 1 0) front (i ∷ rest) in
    let next = sum_by-cons (λ k. cond (k == m) 1 0) i rest in
    let first = some-count (λ k. k == m) front before in
    let second = some-count (λ k. k == m) rest behind in
    omega (arith, split, next, first, second, once)

-- What has names of its own is an expression.
own-plain : (x : List ℕ) (b : BehaviourTree) → list_any (bytes_eq x) (own_names b) ≡ true → (e : Tree) × (b ≡ Plain e) × (list_any (bytes_eq x) (names_in e) ≡ true)
own-plain x (Plain e) h = (e, refl, h)
own-plain x (Input port) h = absurd (false≢true h)
own-plain x (Table entries) h = absurd (false≢true h)
own-plain x (Reactive init clauses) h = absurd (false≢true h)

plain-is : (b : BehaviourTree) (e : Tree) → b ≡ Plain e → is_plain b ≡ true
plain-is b e is = ap is_plain is

module _ (p : ProgramTree) (differ : NamesDiffer p) (event : List ℕ) where
  -- It is named in one of the expressions, as a test of one.
  abbrev pub named-in : List ℕ → Tree → Bool
  named-in x tree = list_any (bytes_eq x) (names_in tree)

  -- A non-reactive definition that is named in what the event needs.
  abbrev pub wanted : DeclTree → Bool
  wanted d = is_plain d.behaviour && is_named_in d.name (needed p event)

  pub plain-needed : needed_plain p event ≡ filter wanted p.decls
  plain-needed = sym (needs-are-closed p event)

  -- What is named in such a definition is named in what the event needs.
  pub goes-on : (m n : ℕ) (c d : DeclTree) → slice_get p.decls m ≡ Some c → is_named_in c.name (needed p event) ≡ true → list_any (bytes_eq d.name) (own_names c.behaviour) ≡ true → is_named_in d.name (needed p event) ≡ true
  goes-on m n c d at its inside =
      let own = own-plain d.name c.behaviour inside in
      let found = plain-found wanted (named-in d.name) p.decls m c own.0 at (and-both (is_plain c.behaviour) (is_named_in c.name (needed p event)) (plain-is c.behaviour own.0 own.1) its) own.1 own.2 in
      list_any-append (named-in d.name) (first_needed p event) (expressions_of (needed_plain p event))
      ∙ or-right (list_any (named-in d.name) (first_needed p event)) (list_any (named-in d.name) (expressions_of (needed_plain p event)))
      (ap (λ ds. list_any (named-in d.name) (expressions_of ds)) plain-needed ∙ found)

  depends : (c d : DeclTree) (m : ℕ) → slice_get p.decls m ≡ Some c → list_any (bytes_eq d.name) (own_names c.behaviour) ≡ true → DependsOn p event c.name d.name
  depends c d m at inside =
      let own = own-plain d.name c.behaviour inside in
      ap (λ o. list_any (bytes_eq d.name) (elim o [ Some k ↦ dependencies_by c.name (rule_on event k.behaviour) | None ↦ [] ])) (own-decl p differ m c at)
      ∙ ap (λ b. list_any (bytes_eq d.name) (dependencies_by c.name (rule_on event b))) own.1 ∙ own.2

  pub record IsReached (rest : List ℕ) (marked : List Bool) : Type 0 where
    pub len : length marked ≡ length p.decls
    pub sound : (n : ℕ) (d : DeclTree) → slice_get p.decls n ≡ Some d → get_or marked n false ≡ true → is_named_in d.name (needed p event) ≡ true
    pub first : (n : ℕ) (d : DeclTree) → slice_get p.decls n ≡ Some d → is_named_in d.name (first_needed p event) ≡ true → get_or marked n false ≡ true
    pub closed : (m n : ℕ) (c d : DeclTree) → slice_get p.decls m ≡ Some c → slice_get p.decls n ≡ Some d → has rest m ≡ true → get_or marked m false ≡ true
        → list_any (bytes_eq d.name) (own_names c.behaviour) ≡ true → get_or marked n false ≡ true

  pub begins : (marked : List Bool) → AreNamed p (first_needed p event) marked → IsReached [] marked
  begins marked are = record {
    len = are.len;
    sound = λ n d at its.
        list_any-append (named-in d.name) (first_needed p event) (expressions_of (needed_plain p event))
        ∙ or-left (list_any (named-in d.name) (first_needed p event)) (list_any (named-in d.name) (expressions_of (needed_plain p event))) (sym (are.marks n d at) ∙ its);
    first = λ n d at its. are.marks n d at ∙ its;
    closed = λ m n c d at there behind its inside. absurd (false≢true behind);
  }

  -- One definition more, whose names get marks where it has one.
  module _ (front rest : List ℕ) (i : ℕ) (d : DeclTree) (marked : List Bool) (ordered : IsOrder p event (front ++ i ∷ rest)) (at : slice_get p.decls i ≡ Some d) (so_far : IsReached rest marked) (b : Bool) (is : get_or marked i false ≡ b) where
    abbrev own : List (List ℕ)
    own = if b then own_names d.behaviour else []

    abbrev after : List Bool
    after = fold (with_name p) marked own

    marks : (n : ℕ) (c : DeclTree) → slice_get p.decls n ≡ Some c → get_or after n false ≡ (get_or marked n false || list_any (bytes_eq c.name) own)
    marks n c there = fold-at p differ marked own so_far.len n c there

    marked-own : (x : List ℕ) → list_any (bytes_eq x) own ≡ true → (get_or marked i false ≡ true) × (list_any (bytes_eq x) (own_names d.behaviour) ≡ true)
    marked-own x h = by_mark b is h
      where
        by_mark : (k : Bool) → get_or marked i false ≡ k → list_any (bytes_eq x) (if k then own_names d.behaviour else []) ≡ true → (get_or marked i false ≡ true) × (list_any (bytes_eq x) (own_names d.behaviour) ≡ true)
        by_mark true e h = (e, h)
        by_mark false e h = absurd (false≢true h)

    own-of : (x : List ℕ) → get_or marked i false ≡ true → list_any (bytes_eq x) (own_names d.behaviour) ≡ true → list_any (bytes_eq x) own ≡ true
    own-of x its h = ap (λ k. list_any (bytes_eq x) (if k then own_names d.behaviour else [])) (sym is ∙ its) ∙ h

    -- One behind has no mark more.
    behind-same : (m : ℕ) (c : DeclTree) → slice_get p.decls m ≡ Some c → has rest m ≡ true → list_any (bytes_eq c.name) own ≡ true → get_or marked m false ≡ true
    behind-same m c there behind inside =
        let its = marked-own c.name inside in
        let before = ordered.behind front rest i d refl at c.name (depends d c i at its.1) in
        absurd (not-both front rest i m (ordered.once m (slice_get_within p.decls m c there)) (ap (λ o. elim o [ Some k ↦ has front k | None ↦ false ]) (sym (own-number p differ m c there)) ∙ before) behind)

    pub goes-further : IsReached (i ∷ rest) after
    goes-further = record {
      len = long-fold p differ marked own ∙ so_far.len;
      sound = λ n c there its. elim (either (get_or marked n false) (list_any (bytes_eq c.name) own) (sym (marks n c there) ∙ its)) [
        | inl old ↦ so_far.sound n c there old
        | inr new ↦ let from = marked-own c.name new in goes-on i n d c at (so_far.sound i d at from.0) from.1
      ];
      first = λ n c there its. marks n c there ∙ or-left (get_or marked n false) (list_any (bytes_eq c.name) own) (so_far.first n c there its);
      closed = λ m n c k there other inside its names. elim (either (i == m) (has rest m) inside) [
        | inl here ↦ is-here m n c k there other (eqb-true i m here) its names
        | inr behind ↦ is-behind m n c k there other behind its names
      ];
    }
      where
        was : (m : ℕ) (c : DeclTree) → slice_get p.decls m ≡ Some c → get_or after m false ≡ true → (list_any (bytes_eq c.name) own ≡ true → get_or marked m false ≡ true) → get_or marked m false ≡ true
        was m c there its if_new = elim (either (get_or marked m false) (list_any (bytes_eq c.name) own) (sym (marks m c there) ∙ its)) [ inl old ↦ old | inr new ↦ if_new new ]

        is-behind : (m n : ℕ) (c k : DeclTree) → slice_get p.decls m ≡ Some c → slice_get p.decls n ≡ Some k → has rest m ≡ true → get_or after m false ≡ true
            → list_any (bytes_eq k.name) (own_names c.behaviour) ≡ true → get_or after n false ≡ true
        is-behind m n c k there other behind its names =
            marks n k other ∙ or-left (get_or marked n false) (list_any (bytes_eq k.name) own) (so_far.closed m n c k there other behind (was m c there its (behind-same m c there behind)) names)

        is-here : (m n : ℕ) (c k : DeclTree) → slice_get p.decls m ≡ Some c → slice_get p.decls n ≡ Some k → i ≡ m → get_or after m false ≡ true
            → list_any (bytes_eq k.name) (own_names c.behaviour) ≡ true → get_or after n false ≡ true
        is-here m n c k there other here its names =
            let same : d ≡ c = same_Some d c (sym at ∙ ap (slice_get p.decls) here ∙ there) in
            let mark = was m c there its (λ new. ap (λ j. get_or marked j false) (sym here) ∙ (marked-own c.name new).0) in
            marks n k other ∙ or-right (get_or marked n false) (list_any (bytes_eq k.name) own)
            (own-of k.name (ap (λ j. get_or marked j false) here ∙ mark) (ap (λ (g : DeclTree). list_any (bytes_eq k.name) (own_names g.behaviour)) same ∙ names))

  -- The place before the last one that is gone through.
  pub step-back : (order : List ℕ) → IsOrder p event order → (k : ℕ) → 0 < k → k ≤ length order → (d : DeclTree) → slice_get p.decls (get_or order (k - 1) 0) ≡ Some d → (marked : List Bool) → IsReached (drop k order) marked
      → (b : Bool) → get_or marked (get_or order (k - 1) 0) false ≡ b → (marked' : List Bool) → marked' ≡ fold (with_name p) marked (if b then own_names d.behaviour else []) → IsReached (drop (k - 1) order) marked'
  step-back order ordered k some most d at marked so_far b is marked' new =
      let less : k - 1 < length order = omega (arith, some, most) in
      let next : suc (k - 1) ≡ k = omega (arith, some) in
      let parted = drop-cons order (k - 1) 0 less ∙ ap (λ n. get_or order (k - 1) 0 ∷ drop n order) next in
      let split = sym (take-append-drop (k - 1) order) ∙ ap (λ rest. take (k - 1) order ++ rest) parted in
      subst (λ rest. IsReached rest marked') (sym parted)
      (subst (IsReached (get_or order (k - 1) 0 ∷ drop k order)) (sym new)
      (goes-further (take (k - 1) order) (drop k order) (get_or order (k - 1) 0) d marked (subst (IsOrder p event) split ordered) at so_far b is))

  -- Where the whole order is gone through, the marks are those of what the event needs.
  module _ (order : List ℕ) (ordered : IsOrder p event order) (marked : List Bool) (all : IsReached order marked) where
    abbrev kept : DeclTree → Bool
    kept d = elim (decl_number p d.name) [ Some n ↦ get_or marked n false | None ↦ false ]

    kept-at : (n : ℕ) (d : DeclTree) → slice_get p.decls n ≡ Some d → kept d ≡ get_or marked n false
    kept-at n d at = ap (λ o. elim o [ Some k ↦ get_or marked k false | None ↦ false ]) (own-number p differ n d at)

    closed-at : (m n : ℕ) (c d : DeclTree) (e : Tree) → slice_get p.decls m ≡ Some c → slice_get p.decls n ≡ Some d → kept c ≡ true → c.behaviour ≡ Plain e → named-in d.name e ≡ true → get_or marked n false ≡ true
    closed-at m n c d e at there its is inside =
        let once = ordered.once m (slice_get_within p.decls m c at) in
        all.closed m n c d at there (count-some (λ k. k == m) order (omega (arith, once))) (sym (kept-at m c at) ∙ its) (ap (λ b. list_any (bytes_eq d.name) (own_names b)) is ∙ inside)

    kept-closed : list_all kept (plain_named_in p (first_needed p event ++ expressions_of (filter kept p.decls))) ≡ true
    kept-closed = all-kept (λ d. is_plain d.behaviour && is_named_in d.name (first_needed p event ++ expressions_of (filter kept p.decls))) kept p.decls each
      where
        each : (n : ℕ) (d : DeclTree) → slice_get p.decls n ≡ Some d → (is_plain d.behaviour && is_named_in d.name (first_needed p event ++ expressions_of (filter kept p.decls))) ≡ true → kept d ≡ true
        each n d at h =
            let inside = sym (list_any-append (named-in d.name) (first_needed p event) (expressions_of (filter kept p.decls))) ∙ (and_parts (is_plain d.behaviour) _ h).1 in
            kept-at n d at ∙ elim (either (list_any (named-in d.name) (first_needed p event)) (list_any (named-in d.name) (expressions_of (filter kept p.decls))) inside) [
              | inl its ↦ all.first n d at its
              | inr its ↦ let f = found-plain kept (named-in d.name) p.decls its in closed-at f.place n f.decl d f.expr f.at at f.passes f.plain f.tested
            ]

    wanted-kept : list_all kept (filter wanted p.decls) ≡ true
    wanted-kept = ap (list_all kept) (sym plain-needed) ∙ needs-are-least p event kept kept-closed

    named-marked : (n : ℕ) (d : DeclTree) → slice_get p.decls n ≡ Some d → is_named_in d.name (needed p event) ≡ true → get_or marked n false ≡ true
    named-marked n d at h =
        elim (either (list_any (named-in d.name) (first_needed p event)) (list_any (named-in d.name) (expressions_of (needed_plain p event))) (sym (list_any-append (named-in d.name) (first_needed p event) (expressions_of (needed_plain p event))) ∙ h)) [
          | inl its ↦ all.first n d at its
          | inr its ↦
              let f = found-plain wanted (named-in d.name) p.decls (ap (λ ds. list_any (named-in d.name) (expressions_of ds)) (sym plain-needed) ∙ its) in
              closed-at f.place n f.decl d f.expr f.at at (kept-each wanted kept p.decls wanted-kept f.place f.decl f.at f.passes) f.plain f.tested
        ]

    pub are-named : marked ≡ named_on p event
    are-named = ext_get_or false marked (named_on p event) (all.len ∙ sym (length-map p.decls (λ (d : DeclTree). is_named_in d.name (needed p event)))) each
      where
        some : DeclTree
        some = record { name = []; ty = U8; behaviour = Input [] }

        each : (n : ℕ) → n < length marked → get_or marked n false ≡ get_or (named_on p event) n false
        each n less =
            let long = all.len in
            let inside : n < length p.decls = omega (arith, less, long) in
            let d = get_or p.decls n some in
            let at = slice_get-get_or p.decls n some inside in
            alike (get_or marked n false) (is_named_in d.name (needed p event)) (all.sound n d at) (named-marked n d at)
            ∙ sym (get_or-map (λ (c : DeclTree). is_named_in c.name (needed p event)) p.decls n some false inside)
