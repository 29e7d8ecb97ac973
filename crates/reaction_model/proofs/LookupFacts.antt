-- Definitions by name and by number, entries by number, and clauses by event.
use Rattle.std.specs.Prelude.{◌≡◌, ℕ, ◌-◌, ◌<◌, Bool, true, false, nat_lt, cond, List, [], ◌∷◌, length, map, slice_get, position, find, Some, None, option_map, option_and_then, if◌then◌else◌, refl}
use Rattle.std.specs.List.{position_or_len, last_or}
use Rattle.std.specs.Str.{bytes_eq}
use Rattle.std.proofs.Common.{sym, ap, ◌∙◌, arith, ltb-true, get_or}
use Rattle.std.proofs.lemmas.Bool.{ltb-false}
use Rattle.std.proofs.lemmas.Option.{none-some, slice_get_past, slice_get-get_or}
use Rattle.std.proofs.lemmas.List.Folds.{find_at}
use Rattle.frp_tree.specs.declared.syntax.Event.{Event}
use Rattle.frp_tree.specs.declared.syntax.Lit.{Lit}
use Rattle.frp_tree.specs.declared.syntax.Lit.TheVariants.{Truth}
use Rattle.frp_tree.specs.Tree.{DeclTree, ProgramTree}
use Rattle.efrp_meaning.specs.Decls.{decl_named}
use Rattle.efrp_meaning.specs.Values.{entry_at}
use Rattle.efrp_types.specs.Numbers.{decl_number, event_name}

-- What is found is that at the number of the first that passes.
pub found-by-position : {A : Type 0} (test : A → Bool) (xs : List A) → find test xs ≡ option_and_then (slice_get xs) (position test xs)
found-by-position test xs = find_at test xs ∙ by_test (nat_lt (position_or_len test xs) (length xs)) refl
  where
    by_test : (b : Bool) → nat_lt (position_or_len test xs) (length xs) ≡ b → slice_get xs (position_or_len test xs) ≡ option_and_then (slice_get xs) (cond b (Some (position_or_len test xs)) None)
    by_test true e = refl
    by_test false e = slice_get_past xs (position_or_len test xs) (ltb-false _ _ e)

named-is-found : (ds : List DeclTree) (x : List ℕ) → decl_named ds x ≡ find (λ d. bytes_eq x d.name) ds
named-is-found [] x = refl
named-is-found (d ∷ ds) x = ap (λ o. if bytes_eq x d.name then Some d else o) (named-is-found ds x)

-- The definition of a name stands at the name's number.
pub named-at : (p : ProgramTree) (x : List ℕ) → decl_named p.decls x ≡ option_and_then (slice_get p.decls) (decl_number p x)
named-at p x = named-is-found p.decls x ∙ found-by-position (λ d. bytes_eq x d.name) p.decls

pub find-mapped : {A B : Type 0} (test : B → Bool) (g : A → B) (xs : List A) → find test (map g xs) ≡ option_map g (find (λ x. test (g x)) xs)
find-mapped test g [] = refl
find-mapped test g (x ∷ xs) = by_test (test (g x)) (find-mapped test g xs)
  where
    by_test : (b : Bool) → find test (map g xs) ≡ option_map g (find (λ y. test (g y)) xs) → (if b then Some (g x) else find test (map g xs)) ≡ option_map g (if b then Some x else find (λ y. test (g y)) xs)
    by_test true rest = refl
    by_test false rest = rest

-- An entry within a table, and past its end.
pub entry-within : (entries : List Lit) (i : ℕ) (l : Lit) → slice_get entries i ≡ Some l → entry_at entries i ≡ Some l
entry-within entries i l found = by_test (nat_lt i (length entries)) refl
  where
    by_test : (b : Bool) → nat_lt i (length entries) ≡ b → (if b then slice_get entries i else last_or None entries) ≡ Some l
    by_test true e = found
    by_test false e = absurd (none-some l (sym (slice_get_past entries i (ltb-false _ _ e)) ∙ found))

pub entry-past : (entries : List Lit) (i : ℕ) → slice_get entries i ≡ None → entry_at entries i ≡ last_or None entries
entry-past entries i none = by_test (nat_lt i (length entries)) refl
  where
    by_test : (b : Bool) → nat_lt i (length entries) ≡ b → (if b then slice_get entries i else last_or None entries) ≡ last_or None entries
    by_test true e = absurd (none-some (get_or entries i (Truth false)) (sym none ∙ slice_get-get_or entries i (Truth false) (ltb-true i (length entries) e)))
    by_test false e = refl

-- The name of an event within the row.
pub event-at : (p : ProgramTree) (events : List Event) (n : ℕ) (e : Event) → events ≡ p.events → n < length p.events → (get_or events n e).name ≡ event_name p n
event-at p events n e same inside =
    ap (λ es. (get_or es n e).name) same ∙ sym (ap (λ o. elim o [ Some k ↦ k.name | None ↦ [] ]) (slice_get-get_or p.events n e inside))

last-from : (e : Lit) (es : List Lit) → last_or (Some e) es ≡ slice_get (e ∷ es) (length es)
last-from e [] = refl
last-from e (f ∷ fs) = last-from f fs

pub last-at : (entries : List Lit) → 0 < length entries → last_or None entries ≡ slice_get entries (length entries - 1)
last-at [] some = absurd (omega arith)
last-at (e ∷ es) some = let k : length es ≡ length (e ∷ es) - 1 = omega arith in last-from e es ∙ ap (slice_get (e ∷ es)) k
