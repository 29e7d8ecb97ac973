-- A definition that is looked for in order; rows of items in memory and of their trees.
use Rattle.std.specs.Prelude.{◌≡◌, ℕ, ◌+◌, ◌<◌, ◌≤◌, suc, Bool, ◌||◌, List, [], ◌∷◌, ◌++◌, length, map, Some, refl, if◌then◌else◌}
use Rattle.std.specs.List.{flat_map, list_any}
use Rattle.std.specs.Str.{bytes_eq}
use Rattle.std.proofs.Common.{sym, ap, ◌∙◌, drop, get_or, add-one, drop-cons}
use Rattle.frp_tree.specs.declared.syntax.Decl.{Decl}
use Rattle.frp_tree.specs.Tree.{decl_of}
use Rattle.efrp_meaning.specs.Decls.{decl_named}
use Rattle.efrp_types.specs.declared.faults.CheckFault.{CheckFault}
use Rattle.efrp_types.specs.NameFaults.{each_after}

-- The first i definitions don't have the name.
abbrev pub Past : List Decl → List ℕ → ℕ → Type 0
Past ds x i = decl_named (map decl_of ds) x ≡ decl_named (map decl_of (drop i ds)) x

at : (ds : List Decl) (x : List ℕ) (i : ℕ) (d : Decl) → i < length ds → d ≡ get_or ds i d → Past ds x i → decl_named (map decl_of ds) x ≡ (if bytes_eq x d.name then Some (decl_of d) else decl_named (map decl_of (drop (i + 1) ds)) x)
at ds x i d less is past =
    past ∙ ap (λ es. decl_named (map decl_of es) x) (drop-cons ds i d less)
    ∙ ap (λ e. decl_named (map decl_of (e ∷ drop (suc i) ds)) x) (sym is)
    ∙ ap (λ k. if bytes_eq x d.name then Some (decl_of d) else decl_named (map decl_of (drop k ds)) x) (sym (add-one i))

-- Rows of trees.
map-more : {A B : Type 0} (g : A → B) (xs : List A) (x : A) → map g (xs ++ x ∷ []) ≡ map g xs ++ g x ∷ []
map-more g [] x = refl
map-more g (y ∷ xs) x = ap (λ zs. g y ∷ zs) (map-more g xs x)

after-of : {A B : Type 0} (g : A → B) (faults : List B → B → List CheckFault) (before xs : List A)
    → each_after (λ b x. faults (map g b) (g x)) before xs ≡ each_after faults (map g before) (map g xs)
after-of g faults before [] = refl
after-of g faults before (x ∷ xs) =
    ap (λ zs. faults (map g before) (g x) ++ zs) (after-of g faults (before ++ x ∷ []) xs ∙ ap (λ b. each_after faults b (map g xs)) (map-more g before x))

pub after-trees : {A B : Type 0} (g : A → B) (faults : List B → B → List CheckFault) (xs : List A) → each_after (λ b x. faults (map g b) (g x)) [] xs ≡ each_after faults [] (map g xs)
after-trees g faults xs = after-of g faults [] xs

flat-of : {A B : Type 0} (g : A → B) (faults : B → List CheckFault) (before xs : List A) → each_after (λ b x. faults (g x)) before xs ≡ flat_map faults (map g xs)
flat-of g faults before [] = refl
flat-of g faults before (x ∷ xs) = ap (λ zs. faults (g x) ++ zs) (flat-of g faults (before ++ x ∷ []) xs)

pub flat-trees : {A B : Type 0} (g : A → B) (faults : B → List CheckFault) (xs : List A) → each_after (λ (b : List A) x. faults (g x)) [] xs ≡ flat_map faults (map g xs)
flat-trees g faults xs = flat-of g faults [] xs

flat-from : {A : Type 0} (faults : A → List CheckFault) (before xs : List A) → each_after (λ b x. faults x) before xs ≡ flat_map faults xs
flat-from faults before [] = refl
flat-from faults before (x ∷ xs) = ap (λ zs. faults x ++ zs) (flat-from faults (before ++ x ∷ []) xs)

pub flat-row : {A : Type 0} (faults : A → List CheckFault) (xs : List A) → each_after (λ (b : List A) x. faults x) [] xs ≡ flat_map faults xs
flat-row faults xs = flat-from faults [] xs

pub any-of : {A B : Type 0} (g : A → B) (test : B → Bool) (xs : List A) → list_any (λ x. test (g x)) xs ≡ list_any test (map g xs)
any-of g test [] = refl
any-of g test (x ∷ xs) = ap (λ b. test (g x) || b) (any-of g test xs)
