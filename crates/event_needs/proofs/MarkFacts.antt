-- What a mark more changes, and marks on all that is named in more expressions.
use Rattle.std.specs.Prelude.{◌≡◌, ◌≢◌, ℕ, ◌+◌, ◌<◌, Bool, true, false, ◌||◌, List, [], ◌∷◌, ◌++◌, length, map, take, set, fold, get_or, replicate, slice_get, Option, Some, None, refl}
use Rattle.std.specs.List.{flat_map, list_any}
use Rattle.std.specs.Str.{bytes_eq}
use Rattle.std.proofs.Common.{sym, ap, subst, ◌∙◌, arith}
use Rattle.std.proofs.Math.Path.{ap₂}
use Rattle.std.proofs.lemmas.Bool.Decides.{eqb_tells}
use Rattle.std.proofs.lemmas.List.{append_assoc, append-nil, get_or-replicate, get_or-set_other, get_or-set_same, length-replicate, length-set, map-append}
use Rattle.std.proofs.lemmas.Grind.{flat_map-append}
use Rattle.std.proofs.lemmas.List.Folds.{list_any-append}
use Rattle.std.proofs.lemmas.Option.{none-some, same_Some, slice_get_within}
use Rattle.std.proofs.lemmas.Slice.Eq.{bytes_eq-Decides}
use mathlib.Core.Logic.{inl, inr}
use Rattle.frp_tree.specs.Tree.{Tree, DeclTree, OutputTree, ProgramTree}
use Rattle.efrp_meaning.specs.Needs.{names_in, reacting_expression}
use Rattle.efrp_meaning.specs.States.{NamesDiffer}
use Rattle.efrp_types.specs.Numbers.{decl_number}
use Rattle.event_needs.specs.Marking.{AreNamed, clause_expressions, with_name}
use Rattle.event_needs.proofs.FilterFacts.{or-right}
use Rattle.event_needs.proofs.ListLaws.{take-one}
use Rattle.event_needs.proofs.NumberLaws.{numbered-name, own-number}

or-nothing : (a b : Bool) → b ≡ false → a ≡ (a || b)
or-nothing true b e = refl
or-nothing false b e = sym e

or-false : (a : Bool) → (a || false) ≡ a
or-false true = refl
or-false false = refl

or-assoc : (a b c : Bool) → ((a || b) || c) ≡ (a || (b || c))
or-assoc true b c = refl
or-assoc false b c = refl

-- The names of several expressions.
any-named : (x : List ℕ) (es : List Tree) → list_any (bytes_eq x) (flat_map names_in es) ≡ list_any (λ tree. list_any (bytes_eq x) (names_in tree)) es
any-named x [] = refl
any-named x (e ∷ es) = list_any-append (bytes_eq x) (names_in e) (flat_map names_in es) ∙ ap (λ b. list_any (bytes_eq x) (names_in e) || b) (any-named x es)

module _ (p : ProgramTree) (differ : NamesDiffer p) where
  pub long-with : (marked : List Bool) (x : List ℕ) → length (with_name p marked x) ≡ length marked
  long-with marked x = by_number (decl_number p x)
    where
      by_number : (o : Option ℕ) → length (elim o as (λ k. List Bool) [ Some n ↦ set marked n true | None ↦ marked ]) ≡ length marked
      by_number None = refl
      by_number (Some n) = length-set marked n true

  pub long-fold : (marked : List Bool) (names : List (List ℕ)) → length (fold (with_name p) marked names) ≡ length marked
  long-fold marked [] = refl
  long-fold marked (x ∷ xs) = long-fold (with_name p marked x) xs ∙ long-with marked x

  -- Another name's mark.
  not-named : (x : List ℕ) (n : ℕ) (d : DeclTree) → slice_get p.decls n ≡ Some d → (decl_number p x ≢ Some n) → bytes_eq d.name x ≡ false
  not-named x n d at other = by_test (bytes_eq d.name x) refl
    where
      by_test : (b : Bool) → bytes_eq d.name x ≡ b → b ≡ false
      by_test false e = refl
      by_test true e = absurd (other (ap (decl_number p) (sym ((bytes_eq-Decides d.name x).0 e)) ∙ own-number p differ n d at))

  with-name-at : (marked : List Bool) (x : List ℕ) → length marked ≡ length p.decls → (n : ℕ) (d : DeclTree) → slice_get p.decls n ≡ Some d
      → get_or (with_name p marked x) n false ≡ (get_or marked n false || bytes_eq d.name x)
  with-name-at marked x long n d at = by_number (decl_number p x) refl
    where
      within : n < length p.decls
      within = slice_get_within p.decls n d at

      by_number : (o : Option ℕ) → decl_number p x ≡ o → get_or (elim o as (λ k. List Bool) [ Some m ↦ set marked m true | None ↦ marked ]) n false ≡ (get_or marked n false || bytes_eq d.name x)
      by_number None e = or-nothing (get_or marked n false) (bytes_eq d.name x) (not-named x n d at (λ same. none-some n (sym e ∙ same)))
      by_number (Some m) e =
          elim (eqb_tells m n) [
            | inl same ↦
                let here : decl_number p x ≡ Some n = e ∙ ap Some same.1 in
                let its = (bytes_eq-Decides d.name x).1 (sym ((bytes_eq-Decides x d.name).0 (numbered-name p x n d here at))) in
                ap (λ k. get_or (set marked k true) n false) same.1 ∙ get_or-set_same marked n true false (omega (arith, within, long))
                ∙ sym (or-right (get_or marked n false) (bytes_eq d.name x) its)
            | inr differs ↦
                get_or-set_other marked m n true false (λ k. differs.1 (sym k))
                ∙ or-nothing (get_or marked n false) (bytes_eq d.name x) (not-named x n d at (λ k. differs.1 (same_Some m n (sym e ∙ k))))
          ]

  pub fold-at : (marked : List Bool) (names : List (List ℕ)) → length marked ≡ length p.decls → (n : ℕ) (d : DeclTree) → slice_get p.decls n ≡ Some d
      → get_or (fold (with_name p) marked names) n false ≡ (get_or marked n false || list_any (bytes_eq d.name) names)
  fold-at marked [] long n d at = sym (or-false (get_or marked n false))
  fold-at marked (x ∷ xs) long n d at =
      fold-at (with_name p marked x) xs (long-with marked x ∙ long) n d at
      ∙ ap (λ b. b || list_any (bytes_eq d.name) xs) (with-name-at marked x long n d at)
      ∙ or-assoc (get_or marked n false) (bytes_eq d.name x) (list_any (bytes_eq d.name) xs)

  -- Marks on what is named in more expressions.
  more-named : (trees es : List Tree) (marked marked' : List Bool) → AreNamed p trees marked → marked' ≡ fold (with_name p) marked (flat_map names_in es) → AreNamed p (trees ++ es) marked'
  more-named trees es marked marked' are is = record {
    len = ap length is ∙ long-fold marked (flat_map names_in es) ∙ are.len;
    marks = λ n d at.
        ap (λ ms. get_or ms n false) is ∙ fold-at marked (flat_map names_in es) are.len n d at
        ∙ ap₂ (λ a b. a || b) (are.marks n d at) (any-named d.name es)
        ∙ sym (list_any-append (λ tree. list_any (bytes_eq d.name) (names_in tree)) trees es);
  }

  -- Those in the clauses up to one more.
  pub clause-more : (event : List ℕ) (k : ℕ) (d : DeclTree) (marked marked' : List Bool) → slice_get p.decls k ≡ Some d → AreNamed p (clause_expressions event (take k p.decls)) marked
      → marked' ≡ fold (with_name p) marked (flat_map names_in (reacting_expression event d.behaviour)) → AreNamed p (clause_expressions event (take (k + 1) p.decls)) marked'
  clause-more event k d marked marked' at are is =
      subst (λ trees. AreNamed p trees marked')
      (sym (ap (clause_expressions event) (take-one p.decls k d at) ∙ flat_map-append (λ (c : DeclTree). reacting_expression event c.behaviour) (take k p.decls) (d ∷ [])
      ∙ ap (λ es. clause_expressions event (take k p.decls) ++ es) (append-nil (reacting_expression event d.behaviour))))
      (more-named (clause_expressions event (take k p.decls)) (reacting_expression event d.behaviour) marked marked' are is)

  -- And those in the outputs up to one more.
  pub output-more : (first : List Tree) (k : ℕ) (o : OutputTree) (marked marked' : List Bool) → slice_get p.outputs k ≡ Some o → AreNamed p (first ++ map (λ (q : OutputTree). q.expr) (take k p.outputs)) marked
      → marked' ≡ fold (with_name p) marked (names_in o.expr) → AreNamed p (first ++ map (λ (q : OutputTree). q.expr) (take (k + 1) p.outputs)) marked'
  output-more first k o marked marked' at are is =
      subst (λ trees. AreNamed p trees marked')
      (append_assoc first (map (λ (q : OutputTree). q.expr) (take k p.outputs)) (o.expr ∷ [])
      ∙ ap (λ es. first ++ es) (sym (ap (map (λ (q : OutputTree). q.expr)) (take-one p.outputs k o at) ∙ map-append (λ (q : OutputTree). q.expr) (take k p.outputs) (o ∷ []))))
      (more-named (first ++ map (λ (q : OutputTree). q.expr) (take k p.outputs)) (o.expr ∷ []) marked marked' are (is ∙ ap (fold (with_name p) marked) (sym (append-nil (names_in o.expr)))))

pub none-named : (p : ProgramTree) (marked : List Bool) (n : ℕ) → marked ≡ replicate n false → n ≡ length p.decls → AreNamed p [] marked
none-named p marked n is long = record {
  len = ap length is ∙ length-replicate n false ∙ long;
  marks = λ k d at. let within = slice_get_within p.decls k d at in ap (λ ms. get_or ms k false) is ∙ get_or-replicate n k false false (omega (arith, within, long));
}
