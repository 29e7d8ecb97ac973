-- What is planned of one definition more.
use Rattle.std.specs.Prelude.{◌≡◌, ℕ, zero, suc, ◌+◌, Bool, true, false, nat_lt, List, [], ◌∷◌, ◌++◌, length, map, filter, take, get_or, slice_get, Option, Some, None, if◌then◌else◌, refl}
use Rattle.std.specs.List.{flat_map, range_with_len}
use Rattle.std.proofs.Common.{sym, ap, ◌∙◌, arith}
use Rattle.std.proofs.Math.Path.{ap₂}
use Rattle.std.proofs.lemmas.Grind.{flat_map-append}
use Rattle.std.proofs.lemmas.List.{append_assoc, append-nil, get_or-map, map-append}
use Rattle.std.proofs.lemmas.Option.{get_or_from_slice_get, slice_get_within}
use Rattle.frp_tree.specs.Tree.{ClauseTree, BehaviourTree, Plain, Input, Table, Reactive, DeclTree, ProgramTree}
use Rattle.efrp_meaning.specs.Meaning.{rule_on}
use Rattle.efrp_meaning.specs.Needs.{expression_of, reacting_expression}
use Rattle.efrp_meaning.specs.States.{NamesDiffer}
use Rattle.efrp_types.specs.Numbers.{decl_number}
use Rattle.event_needs.specs.Needed.{is_needed, needed_on, reacting_clause}
use Rattle.event_needs.proofs.ListLaws.{take-one}
use Rattle.event_needs.proofs.NumberLaws.{own-number}
use Rattle.two_phase.specs.declared.plans.Assign.{Assign}
use Rattle.two_phase.specs.Assigned.{assigned, number_wanted, reacts}
use Rattle.two_phase.specs.Plans.{is_wanted, is_wanted_by}

pub rows-more : (f : ℕ → List Assign) (old work work' : List Assign) (ms : List ℕ) (n : ℕ) → work ≡ old ++ flat_map f ms → work' ≡ work ++ f n → work' ≡ old ++ flat_map f (ms ++ n ∷ [])
rows-more f old work work' ms n so_far next =
    next ∙ ap (λ w. w ++ f n) so_far ∙ append_assoc old (flat_map f ms) (f n)
    ∙ ap (λ w. old ++ w) (sym (flat_map-append f ms (n ∷ []) ∙ ap (λ w. flat_map f ms ++ w) (append-nil (f n))))

pub range-more : (a n : ℕ) → range_with_len a (n + 1) ≡ range_with_len a n ++ (a + n) ∷ []
range-more a zero = ap (λ k. k ∷ []) (sym (plus-zero a))
  where
    plus-zero : (a : ℕ) → a + 0 ≡ a
    plus-zero a = omega arith
range-more a (suc n) =
    ap (range_with_len a) (next n) ∙ ap (λ ns. a ∷ ns) (range-more (a + 1) n) ∙ ap (λ k. a ∷ (range_with_len (a + 1) n ++ k ∷ [])) (sum a n)
  where
    next : (n : ℕ) → suc n + 1 ≡ suc (n + 1)
    next n = omega arith

    sum : (a n : ℕ) → a + 1 + n ≡ a + suc n
    sum a n = omega arith

-- The definitions of these that react to an event.
abbrev pub reacting-of : List ℕ → List DeclTree → List DeclTree
reacting-of event ds = filter (reacts event) ds

-- It does where it has a clause for it.
clause-tells : (event : List ℕ) (b : BehaviourTree) → reacting_expression event b ≡ expression_of (reacting_clause event b)
clause-tells event (Plain e) = refl
clause-tells event (Input port) = refl
clause-tells event (Table entries) = refl
clause-tells event (Reactive init clauses) = refl

pub reacts-tells : (event : List ℕ) (b : BehaviourTree) (o : Option ClauseTree) → o ≡ reacting_clause event b → nat_lt 0 (length (expression_of o)) ≡ nat_lt 0 (length (reacting_expression event b))
reacts-tells event b o is = sym (ap (λ es. nat_lt 0 (length es)) (clause-tells event b ∙ ap expression_of (sym is)))

filter-one : (f : DeclTree → Bool) (ds : List DeclTree) (d : DeclTree) → filter f (ds ++ d ∷ []) ≡ filter f ds ++ (if f d then d ∷ [] else [])
filter-one f [] d = refl
filter-one f (c ∷ cs) d = by_test (f c) (filter-one f cs d)
  where
    by_test : (b : Bool) → filter f (cs ++ d ∷ []) ≡ filter f cs ++ (if f d then d ∷ [] else [])
        → (if b then c ∷ filter f (cs ++ d ∷ []) else filter f (cs ++ d ∷ [])) ≡ (if b then c ∷ filter f cs else filter f cs) ++ (if f d then d ∷ [] else [])
    by_test true rest = ap (λ ds. c ∷ ds) rest
    by_test false rest = rest

module _ (p : ProgramTree) (differ : NamesDiffer p) (event : List ℕ) (i : ℕ) (d : DeclTree) (at : slice_get p.decls i ≡ Some d) (numbers : List ℕ) where
  abbrev number-of : DeclTree → Option ℕ
  number-of c = decl_number p c.name

  abbrev AreTo : ℕ → List ℕ → Type 0
  AreTo n ns = map Some ns ≡ map number-of (reacting-of event (take n p.decls))

  one-further : (b : Bool) → reacts event d ≡ b → map number-of (reacting-of event (take (i + 1) p.decls)) ≡ map number-of (reacting-of event (take i p.decls)) ++ map number-of (if b then d ∷ [] else [])
  one-further b is =
      ap (λ ds. map number-of (reacting-of event ds)) (take-one p.decls i d at)
      ∙ ap (map number-of) (filter-one (reacts event) (take i p.decls) d ∙ ap (λ k. reacting-of event (take i p.decls) ++ (if k then d ∷ [] else [])) is)
      ∙ map-append number-of (reacting-of event (take i p.decls)) (if b then d ∷ [] else [])

  pub reacts-more : reacts event d ≡ true → AreTo i numbers → AreTo (i + 1) (numbers ++ i ∷ [])
  reacts-more is so_far =
      map-append Some numbers (i ∷ []) ∙ ap₂ (λ (ns : List (Option ℕ)) (k : Option ℕ). ns ++ k ∷ []) so_far (sym (own-number p differ i d at)) ∙ sym (one-further true is)

  pub stays-more : reacts event d ≡ false → AreTo i numbers → AreTo (i + 1) numbers
  stays-more is so_far = so_far ∙ sym (append-nil (map number-of (reacting-of event (take i p.decls)))) ∙ sym (one-further false is)

-- What is wanted of the definition with a number.
pub wanted-of : (p : ProgramTree) (event : List ℕ) (next : Bool) (n : ℕ) (d : DeclTree) (needed b : Bool) → slice_get p.decls n ≡ Some d → needed ≡ get_or (needed_on p event) n false → b ≡ is_wanted_by needed next (rule_on event d.behaviour)
    → number_wanted p event next n ≡ b
wanted-of p event next n d needed b at is tells =
    ap (λ o. elim o [ Some k ↦ is_wanted p event k next | None ↦ false ]) at
    ∙ ap (λ k. is_wanted_by k next (rule_on event d.behaviour))
    (sym (is ∙ get_or-map (is_needed p event) p.decls n d false (slice_get_within p.decls n d at) ∙ ap (is_needed p event) (get_or_from_slice_get p.decls n d d at)))
    ∙ sym tells

pub assigned-is : (p : ProgramTree) (event : List ℕ) (next : Bool) (n : ℕ) (b : Bool) → number_wanted p event next n ≡ b → assigned p event next n ≡ (if b then record { decl = n; next = next } ∷ [] else [])
assigned-is p event next n b is = ap (λ k. if k then record { decl = n; next = next } ∷ [] else []) is
