-- The non-reactive definitions that an event needs are the least that are closed: as many turns as there are definitions reach
-- them all.
use Rattle.std.specs.Prelude.{◌≡◌, ℕ, zero, suc, ◌<◌, ◌≤◌, ◌⊎◌, Bool, true, false, ◌||◌, ◌&&◌, List, [], ◌∷◌, ◌++◌, length, filter, refl, if◌then◌else◌}
use Rattle.std.specs.List.{AllByRecursion, list_any, list_all}
use Rattle.std.specs.Str.{bytes_eq}
use Rattle.std.proofs.Common.{sym, ap, ◌∙◌, arith}
use Rattle.std.proofs.lemmas.Bool.{and_parts, false≢true}
use Rattle.std.proofs.lemmas.List.Folds.{list_any-append}
use mathlib.Core.Logic.{inl, inr}
use Rattle.frp_tree.specs.Tree.{Tree, DeclTree, ProgramTree}
use Rattle.efrp_meaning.specs.Decls.{is_plain}
use Rattle.efrp_meaning.specs.Needs.{names_in, is_named_in, plain_expression, first_needed, expressions_of, plain_named_in, plain_reached}
use Rattle.efrp_meaning.proofs.NameFacts.{or-right}
use Rattle.efrp_meaning.specs.Laws.{NeedsAreClosed, NeedsAreLeast}

-- On these definitions what passes the first test passes the second.
abbrev Sub : (DeclTree → Bool) → (DeclTree → Bool) → List DeclTree → Type 0
Sub f g ds = AllByRecursion (λ (d : DeclTree). f d ≡ true → g d ≡ true) ds

sub-from-each : (f g : DeclTree → Bool) → ((d : DeclTree) → f d ≡ true → g d ≡ true) → (ds : List DeclTree) → Sub f g ds
sub-from-each f g each [] = tt
sub-from-each f g each (d ∷ ds) = (each d, sub-from-each f g each ds)

-- Then there are no fewer of the second, and where there are no more they are the same.
no-fewer : (f g : DeclTree → Bool) (ds : List DeclTree) → Sub f g ds → length (filter f ds) ≤ length (filter g ds)
no-fewer f g [] sub = omega arith
no-fewer f g (d ∷ ds) sub = by_tests (f d) (g d) sub.0 (no-fewer f g ds sub.1)
  where
    by_tests : (a b : Bool) → (a ≡ true → b ≡ true) → length (filter f ds) ≤ length (filter g ds)
        → length (if a then d ∷ filter f ds else filter f ds) ≤ length (if b then d ∷ filter g ds else filter g ds)
    by_tests true true h rest = omega arith
    by_tests true false h rest = absurd (false≢true (h refl))
    by_tests false true h rest = omega arith
    by_tests false false h rest = rest

same-or-more : (f g : DeclTree → Bool) (ds : List DeclTree) → Sub f g ds → (filter f ds ≡ filter g ds) ⊎ (length (filter f ds) < length (filter g ds))
same-or-more f g [] sub = inl refl
same-or-more f g (d ∷ ds) sub = by_tests (f d) (g d) sub.0 (no-fewer f g ds sub.1) (same-or-more f g ds sub.1)
  where
    by_tests : (a b : Bool) → (a ≡ true → b ≡ true) → length (filter f ds) ≤ length (filter g ds)
        → (filter f ds ≡ filter g ds) ⊎ (length (filter f ds) < length (filter g ds))
        → ((if a then d ∷ filter f ds else filter f ds) ≡ (if b then d ∷ filter g ds else filter g ds)) ⊎ (length (if a then d ∷ filter f ds else filter f ds) < length (if b then d ∷ filter g ds else filter g ds))
    by_tests true true h most (inl e) = inl (ap (λ rest. d ∷ rest) e)
    by_tests true true h most (inr less) = inr (omega arith)
    by_tests true false h most either = absurd (false≢true (h refl))
    by_tests false true h most either = inr (omega arith)
    by_tests false false h most either = either

filter-no-longer : (f : DeclTree → Bool) (ds : List DeclTree) → length (filter f ds) ≤ length ds
filter-no-longer f [] = omega arith
filter-no-longer f (d ∷ ds) = by_test (f d) (filter-no-longer f ds)
  where
    by_test : (a : Bool) → length (filter f ds) ≤ length ds → length (if a then d ∷ filter f ds else filter f ds) ≤ length (d ∷ ds)
    by_test true h = omega arith
    by_test false h = omega arith

filter-none : (ds : List DeclTree) → filter (λ d. false) ds ≡ []
filter-none [] = refl
filter-none (d ∷ ds) = filter-none ds

-- What is found in a list is found in a longer one.
or-more : (a b c : Bool) → (b ≡ true → c ≡ true) → (a || b) ≡ true → (a || c) ≡ true
or-more true b c more h = refl
or-more false b c more h = more h

append-more : {X : Type 0} (test : X → Bool) (xs ys zs : List X) → (list_any test ys ≡ true → list_any test zs ≡ true) → list_any test (xs ++ ys) ≡ true → list_any test (xs ++ zs) ≡ true
append-more test xs ys zs more h =
    list_any-append test xs zs ∙ or-more (list_any test xs) (list_any test ys) (list_any test zs) more (sym (list_any-append test xs ys) ∙ h)

append-right : {X : Type 0} (test : X → Bool) (xs ys : List X) → list_any test ys ≡ true → list_any test (xs ++ ys) ≡ true
append-right test xs ys h = list_any-append test xs ys ∙ or-right (list_any test xs) (list_any test ys) h

expressions-more : (test : Tree → Bool) (f g : DeclTree → Bool) (ds : List DeclTree) → Sub f g ds → list_any test (expressions_of (filter f ds)) ≡ true → list_any test (expressions_of (filter g ds)) ≡ true
expressions-more test f g [] sub h = h
expressions-more test f g (d ∷ ds) sub h = by_tests (f d) (g d) sub.0 (expressions-more test f g ds sub.1) h
  where
    by_tests : (a b : Bool) → (a ≡ true → b ≡ true) → (list_any test (expressions_of (filter f ds)) ≡ true → list_any test (expressions_of (filter g ds)) ≡ true)
        → list_any test (expressions_of (if a then d ∷ filter f ds else filter f ds)) ≡ true → list_any test (expressions_of (if b then d ∷ filter g ds else filter g ds)) ≡ true
    by_tests true true sub rest h = append-more test (plain_expression d.behaviour) (expressions_of (filter f ds)) (expressions_of (filter g ds)) rest h
    by_tests true false sub rest h = absurd (false≢true (sub refl))
    by_tests false true sub rest h = append-right test (plain_expression d.behaviour) (expressions_of (filter g ds)) (rest h)
    by_tests false false sub rest h = rest h

module _ (p : ProgramTree) (trees : List Tree) where
  -- A turn, as a test: the definitions that are named in the trees or in what passed before.
  abbrev turn : (DeclTree → Bool) → DeclTree → Bool
  turn f d = is_plain d.behaviour && is_named_in d.name (trees ++ expressions_of (filter f p.decls))

  turn-more : (f g : DeclTree → Bool) → Sub f g p.decls → (d : DeclTree) → turn f d ≡ true → turn g d ≡ true
  turn-more f g sub d h = both (is_plain d.behaviour) h
    where
      named : is_named_in d.name (trees ++ expressions_of (filter f p.decls)) ≡ true → is_named_in d.name (trees ++ expressions_of (filter g p.decls)) ≡ true
      named = append-more (λ tree. list_any (bytes_eq d.name) (names_in tree)) trees (expressions_of (filter f p.decls)) (expressions_of (filter g p.decls))
          (expressions-more (λ tree. list_any (bytes_eq d.name) (names_in tree)) f g p.decls sub)

      both : (a : Bool) → (a && is_named_in d.name (trees ++ expressions_of (filter f p.decls))) ≡ true → (a && is_named_in d.name (trees ++ expressions_of (filter g p.decls))) ≡ true
      both true h = named h
      both false h = h

  abbrev passed : ℕ → DeclTree → Bool
  passed zero = λ d. false
  passed (suc k) = turn (passed k)

  reached-passed : (k : ℕ) → plain_reached k p trees ≡ filter (passed k) p.decls
  reached-passed zero = sym (filter-none p.decls)
  reached-passed (suc k) = ap (λ found. plain_named_in p (trees ++ expressions_of found)) (reached-passed k)

  passed-more : (k : ℕ) → Sub (passed k) (passed (suc k)) p.decls
  passed-more zero = sub-from-each (passed zero) (passed (suc zero)) (λ d h. absurd (false≢true h)) p.decls
  passed-more (suc k) = sub-from-each (passed (suc k)) (passed (suc (suc k))) (turn-more (passed k) (passed (suc k)) (passed-more k)) p.decls

  -- A turn reaches no more, or each turn so far has reached another one.
  still-or-longer : (k : ℕ) → (filter (passed (suc k)) p.decls ≡ filter (passed k) p.decls) ⊎ (k < length (filter (passed (suc k)) p.decls))
  still-or-longer zero = by_first (same-or-more (passed zero) (passed (suc zero)) p.decls (passed-more zero))
    where
      by_first : (filter (passed zero) p.decls ≡ filter (passed (suc zero)) p.decls) ⊎ (length (filter (passed zero) p.decls) < length (filter (passed (suc zero)) p.decls))
          → (filter (passed (suc zero)) p.decls ≡ filter (passed zero) p.decls) ⊎ (zero < length (filter (passed (suc zero)) p.decls))
      by_first (inl e) = inl (sym e)
      by_first (inr less) = inr (omega arith)
  still-or-longer (suc k) = by_last (still-or-longer k) (same-or-more (passed (suc k)) (passed (suc (suc k))) p.decls (passed-more (suc k)))
    where
      by_last : (filter (passed (suc k)) p.decls ≡ filter (passed k) p.decls) ⊎ (k < length (filter (passed (suc k)) p.decls))
          → (filter (passed (suc k)) p.decls ≡ filter (passed (suc (suc k))) p.decls) ⊎ (length (filter (passed (suc k)) p.decls) < length (filter (passed (suc (suc k))) p.decls))
          → (filter (passed (suc (suc k))) p.decls ≡ filter (passed (suc k)) p.decls) ⊎ (suc k < length (filter (passed (suc (suc k))) p.decls))
      by_last (inl still) next = inl (ap (λ found. plain_named_in p (trees ++ expressions_of found)) still)
      by_last (inr longer) (inl still) = inl (sym still)
      by_last (inr longer) (inr more) = inr (omega arith)

  pub reached-is-closed : plain_named_in p (trees ++ expressions_of (plain_reached (length p.decls) p trees)) ≡ plain_reached (length p.decls) p trees
  reached-is-closed = by_last (still-or-longer (length p.decls))
    where
      by_last : (filter (passed (suc (length p.decls))) p.decls ≡ filter (passed (length p.decls)) p.decls) ⊎ (length p.decls < length (filter (passed (suc (length p.decls))) p.decls))
          → plain_named_in p (trees ++ expressions_of (plain_reached (length p.decls) p trees)) ≡ plain_reached (length p.decls) p trees
      by_last (inl still) = reached-passed (suc (length p.decls)) ∙ still ∙ sym (reached-passed (length p.decls))
      by_last (inr longer) = let most = filter-no-longer (passed (suc (length p.decls))) p.decls in absurd (omega (arith, most))

  -- What is closed has all that is reached.
  sub-from-all : (kept f : DeclTree → Bool) (ds : List DeclTree) → list_all kept (filter f ds) ≡ true → Sub f kept ds
  sub-from-all kept f [] h = tt
  sub-from-all kept f (d ∷ ds) h = by_test (f d) h (sub-from-all kept f ds)
    where
      by_test : (a : Bool) → list_all kept (if a then d ∷ filter f ds else filter f ds) ≡ true → (list_all kept (filter f ds) ≡ true → Sub f kept ds) → (a ≡ true → kept d ≡ true) × Sub f kept ds
      by_test true h rest = let parts = and_parts _ _ h in (λ e. parts.0, rest parts.1)
      by_test false h rest = (λ e. absurd (false≢true e), rest h)

  all-from-sub : (kept f : DeclTree → Bool) (ds : List DeclTree) → Sub f kept ds → list_all kept (filter f ds) ≡ true
  all-from-sub kept f [] sub = refl
  all-from-sub kept f (d ∷ ds) sub = by_test (f d) sub.0 (all-from-sub kept f ds sub.1)
    where
      by_test : (a : Bool) → (a ≡ true → kept d ≡ true) → list_all kept (filter f ds) ≡ true → list_all kept (if a then d ∷ filter f ds else filter f ds) ≡ true
      by_test true its rest = ap (λ b. b && list_all kept (filter f ds)) (its refl) ∙ rest
      by_test false its rest = rest

  through : (f g h : DeclTree → Bool) (ds : List DeclTree) → ((d : DeclTree) → f d ≡ true → g d ≡ true) → Sub g h ds → Sub f h ds
  through f g h [] first second = tt
  through f g h (d ∷ ds) first second = (λ e. second.0 (first d e), through f g h ds first second.1)

  module _ (kept : DeclTree → Bool) (closed : list_all kept (plain_named_in p (trees ++ expressions_of (filter kept p.decls))) ≡ true) where
    passed-kept : (k : ℕ) → Sub (passed k) kept p.decls
    passed-kept zero = sub-from-each (passed zero) kept (λ d h. absurd (false≢true h)) p.decls
    passed-kept (suc k) = through (passed (suc k)) (turn kept) kept p.decls (turn-more (passed k) kept (passed-kept k)) (sub-from-all kept (turn kept) p.decls closed)

    pub reached-is-least : (k : ℕ) → list_all kept (plain_reached k p trees) ≡ true
    reached-is-least k = ap (list_all kept) (reached-passed k) ∙ all-from-sub kept (passed k) p.decls (passed-kept k)

pub needs-are-closed : (p : ProgramTree) → NeedsAreClosed p
needs-are-closed p event = reached-is-closed p (first_needed p event)

pub needs-are-least : (p : ProgramTree) → NeedsAreLeast p
needs-are-least p event kept closed = reached-is-least p (first_needed p event) kept closed (length p.decls)
