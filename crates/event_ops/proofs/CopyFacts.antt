-- Lists of copies: which cells they go to, and what cells hold once they are copied.
use Rattle.std.specs.List.{AllByRecursion}
use Rattle.std.proofs.Common.{◌≡◌, ◌≢◌, ℕ, ◌<◌, ◌≤◌, ◌==◌, ◌||◌, Bool, true, false, List, [], ◌∷◌, ◌++◌, map, if◌then◌else◌, refl, sym, ap, ◌∙◌, arith, eq-eqb}
use Rattle.std.proofs.lemmas.Bool.{false≢true}
use Rattle.byte_ops.specs.Cells.{AreNot, Differ}
use Rattle.event_ops.specs.declared.results.Copied.{Copied}
use Rattle.event_ops.specs.Drafts.{is_to}
use Rattle.event_ops.specs.Works.{IsCopy, copied}

abbrev pub tos : List Copied → List ℕ
tos cs = map (λ (c : Copied). c.to) cs

pub copies-more : (states a b : ℕ) (cs : List Copied) → a ≤ b → AllByRecursion (IsCopy states a) cs → AllByRecursion (IsCopy states b) cs
copies-more states a b [] h all = tt
copies-more states a b (c ∷ cs) h all = (record { to = all.0.to; old = all.0.old; given = omega (arith, all.0.given, h) }, copies-more states a b cs h all.1)

-- A cell to which the first ones go holds what these say, and another what the others say.
pub copied-first : (xs ys : List Copied) (f : ℕ → ℕ) (cell : ℕ) → is_to xs cell ≡ true → copied (xs ++ ys) f cell ≡ copied xs f cell
copied-first [] ys f cell h = absurd (false≢true h)
copied-first (x ∷ xs) ys f cell h = by_test (x.to == cell) h (copied-first xs ys f cell)
  where
    by_test : (b : Bool) → (b || is_to xs cell) ≡ true → (is_to xs cell ≡ true → copied (xs ++ ys) f cell ≡ copied xs f cell)
        → (if b then f x.from else copied (xs ++ ys) f cell) ≡ (if b then f x.from else copied xs f cell)
    by_test true h rest = refl
    by_test false h rest = rest h

pub copied-second : (xs ys : List Copied) (f : ℕ → ℕ) (cell : ℕ) → is_to xs cell ≡ false → copied (xs ++ ys) f cell ≡ copied ys f cell
copied-second [] ys f cell h = refl
copied-second (x ∷ xs) ys f cell h = by_test (x.to == cell) h (copied-second xs ys f cell)
  where
    by_test : (b : Bool) → (b || is_to xs cell) ≡ false → (is_to xs cell ≡ false → copied (xs ++ ys) f cell ≡ copied ys f cell)
        → (if b then f x.from else copied (xs ++ ys) f cell) ≡ copied ys f cell
    by_test true h rest = absurd (false≢true (sym h))
    by_test false h rest = rest h

pub copied-none : (xs : List Copied) (f : ℕ → ℕ) (cell : ℕ) → is_to xs cell ≡ false → copied xs f cell ≡ f cell
copied-none [] f cell h = refl
copied-none (x ∷ xs) f cell h = by_test (x.to == cell) h (copied-none xs f cell)
  where
    by_test : (b : Bool) → (b || is_to xs cell) ≡ false → (is_to xs cell ≡ false → copied xs f cell ≡ f cell) → (if b then f x.from else copied xs f cell) ≡ f cell
    by_test true h rest = absurd (false≢true (sym h))
    by_test false h rest = rest h

-- Where the cells that are given out hold the same, so do those to which they are copied.
pub copied-same : (states next : ℕ) (xs : List Copied) (f g : ℕ → ℕ) → AllByRecursion (IsCopy states next) xs → ((cell : ℕ) → cell < next → f cell ≡ g cell)
    → (cell : ℕ) → is_to xs cell ≡ true → copied xs f cell ≡ copied xs g cell
copied-same states next [] f g all same cell h = absurd (false≢true h)
copied-same states next (x ∷ xs) f g all same cell h = by_test (x.to == cell) h (copied-same states next xs f g all.1 same cell)
  where
    by_test : (b : Bool) → (b || is_to xs cell) ≡ true → (is_to xs cell ≡ true → copied xs f cell ≡ copied xs g cell) → (if b then f x.from else copied xs f cell) ≡ (if b then g x.from else copied xs g cell)
    by_test true h rest = same x.from all.0.given
    by_test false h rest = rest h

-- A cell to which none of these goes is none of theirs.
pub not-to : (xs : List Copied) (cell : ℕ) → is_to xs cell ≡ false → AllByRecursion (λ other. other ≢ cell) (tos xs)
not-to [] cell h = tt
not-to (x ∷ xs) cell h = (λ e. absurd (false≢true (sym h ∙ ap (λ b. b || is_to xs cell) (eq-eqb x.to cell e))), not-to xs cell (last-false (x.to == cell) (is_to xs cell) h))
  where
    last-false : (a b : Bool) → (a || b) ≡ false → b ≡ false
    last-false true b h = absurd (false≢true (sym h))
    last-false false b h = h

not-push : (ys : List ℕ) (y last : ℕ) → AreNot y ys → y ≢ last → AreNot y (ys ++ last ∷ [])
not-push [] y last nots h = (h, tt)
not-push (z ∷ zs) y last nots h = (nots.0, not-push zs y last nots.1 h)

-- One more at the end is another cell.
pub differ-push : (xs : List ℕ) (cell : ℕ) → Differ xs → AllByRecursion (λ other. other ≢ cell) xs → Differ (xs ++ cell ∷ [])
differ-push [] cell differ other = (tt, tt)
differ-push (x ∷ xs) cell differ other = (not-push xs x cell differ.0 other.0, differ-push xs cell differ.1 other.1)
