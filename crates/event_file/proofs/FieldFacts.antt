-- Fields that give samples, and the lists of them.
use Rattle.std.proofs.Common.{◌≡◌, ℕ, zero, suc, ◌+◌, Bool, true, false, ◌&&◌, ◌||◌, ◌==◌, ◌<◌, ◌≤◌, map, get_or, subst, arith, cond, nat_lt, List, [], ◌∷◌, ◌++◌, length, take, drop, Option, Some, None, codes, refl, sym, ap, ◌∙◌, add-one}
use Rattle.std.specs.List.{find, list_all, list_any}
use Rattle.std.specs.Str.{bytes_eq}
use Rattle.std.proofs.Math.Bool.{and-true, and-false}
use Rattle.std.proofs.lemmas.List.{append-nil, map-append, take_more}
use Rattle.std.proofs.lemmas.List.Elements.{filter-append}
use Rattle.std.proofs.lemmas.List.Folds.{list_all-append}
use Rattle.text_parts.specs.Numbers.{is_byte, value_after}
use Rattle.frp_tree.specs.declared.syntax.Decl.{Decl}
use Rattle.frp_tree.specs.declared.syntax.Ty.TheVariants.{U8}
use Rattle.frp_tree.specs.Tree.{DeclTree, behaviour_of, decl_of}
use Rattle.efrp_meaning.specs.Decls.{is_input}
use Rattle.efrp_meaning.specs.States.{AreValuesOf}
use Rattle.event_file.specs.Events.{gives, sample_in}
use Rattle.event_file.specs.Parts.{is_value, ValueOf, Gives, byte_of, samples_for, inputs_among, IsFirst, is_once, SampleOf, AreGiven}

-- A field gives a sample where an input's name stands first and then a value.
front : (name field : List ℕ) → (bytes_eq (take (suc (length name)) field) (name ++ codes "=") && is_byte (drop (suc (length name)) field)) ≡ (bytes_eq (take (length name) field) name && is_value (drop (length name) field))
front [] [] = refl
front [] (x ∷ xs) = ap (λ b. b && is_byte xs) (and-true (x == 61))
front (c ∷ cs) [] = refl
front (c ∷ cs) (x ∷ xs) = go (x == c) (front cs xs)
  where
    go : (b : Bool) → (bytes_eq (take (suc (length cs)) xs) (cs ++ codes "=") && is_byte (drop (suc (length cs)) xs)) ≡ (bytes_eq (take (length cs) xs) cs && is_value (drop (length cs) xs))
        → ((b && bytes_eq (take (suc (length cs)) xs) (cs ++ codes "=")) && is_byte (drop (suc (length cs)) xs)) ≡ ((b && bytes_eq (take (length cs) xs) cs) && is_value (drop (length cs) xs))
    go true e = e
    go false e = refl

pub gives-front : (field : List ℕ) (input : DeclTree) → gives field input ≡ (bytes_eq (take (length input.name) field) input.name && is_value (drop (length input.name) field))
gives-front field input =
    ap (λ n. bytes_eq (take n field) (input.name ++ codes "=") && is_byte (drop n field)) (add-one (length input.name)) ∙ front input.name field

-- What stands after one byte more.
pub drop-more : (n : ℕ) (xs : List ℕ) → drop (suc n) xs ≡ drop 1 (drop n xs)
drop-more zero xs = refl
drop-more (suc n) [] = refl
drop-more (suc n) (x ∷ xs) = drop-more n xs

-- What a field gives, where the input's name stands first and where it doesn't.
pub gives-none : (field : List ℕ) (input : DeclTree) (name : List ℕ) → name ≡ input.name → bytes_eq (take (length name) field) name ≡ false → gives field input ≡ false
gives-none field input name n h =
    gives-front field input ∙ ap (λ x. bytes_eq (take (length x) field) x && is_value (drop (length x) field)) (sym n) ∙ ap (λ b. b && is_value (drop (length name) field)) h

pub gives-value : (field : List ℕ) (input : DeclTree) (name rest : List ℕ) (found : Option ℕ) → name ≡ input.name → bytes_eq (take (length name) field) name ≡ true → rest ≡ drop (length name) field
    → ValueOf rest found → Gives field input found
gives-value field input name rest found n named e is = go found is
  where
    same : gives field input ≡ is_value rest
    same = gives-front field input ∙ ap (λ x. bytes_eq (take (length x) field) x && is_value (drop (length x) field)) (sym n)
        ∙ ap (λ b. b && is_value (drop (length name) field)) named ∙ ap is_value (sym e)

    place : drop 1 rest ≡ drop (length input.name + 1) field
    place = ap (drop 1) (e ∙ ap (λ x. drop (length x) field) n) ∙ sym (ap (λ k. drop k field) (add-one (length input.name)) ∙ drop-more (length input.name) field)

    go : (o : Option ℕ) → ValueOf rest o → Gives field input o
    go None h = same ∙ h
    go (Some byte) h = (same ∙ h.0, h.1 ∙ ap (value_after 16 0) place, h.2)

-- One of the inputs among definitions passes.
pub any_input : (field : List ℕ) (ds : List Decl) → list_any (gives field) (inputs_among (map decl_of ds)) ≡ list_any (λ d. is_input (behaviour_of d.behaviour) && gives field (decl_of d)) ds
any_input field [] = refl
any_input field (d ∷ ds) = go (is_input (behaviour_of d.behaviour)) (any_input field ds)
  where
    go : (b : Bool) → list_any (gives field) (inputs_among (map decl_of ds)) ≡ list_any (λ x. is_input (behaviour_of x.behaviour) && gives field (decl_of x)) ds
        → list_any (gives field) (cond b (decl_of d ∷ inputs_among (map decl_of ds)) (inputs_among (map decl_of ds))) ≡ ((b && gives field (decl_of d)) || list_any (λ x. is_input (behaviour_of x.behaviour) && gives field (decl_of x)) ds)
    go true e = ap (λ x. gives field (decl_of d) || x) e
    go false e = e

-- What an input is given, by the fields that are for it.
find-none : (fields : List (List ℕ)) (input : DeclTree) → samples_for input fields ≡ [] → sample_in fields input ≡ 0
find-none [] input h = refl
find-none (field ∷ fields) input h = go (gives field input) h (find-none fields input)
  where
    go : (b : Bool) → cond b (field ∷ samples_for input fields) (samples_for input fields) ≡ [] → (samples_for input fields ≡ [] → sample_in fields input ≡ 0)
        → elim (cond b (Some field) (find (λ x. gives x input) fields)) as (λ _. ℕ) [ None ↦ 0 | Some x ↦ byte_of x input ] ≡ 0
    go true e more = cc
    go false e more = more e

find-first : (fields rest : List (List ℕ)) (first : List ℕ) (input : DeclTree) → samples_for input fields ≡ first ∷ rest → sample_in fields input ≡ byte_of first input
find-first [] rest first input h = cc
find-first (field ∷ fields) rest first input h = go (gives field input) h (find-first fields rest first input)
  where
    go : (b : Bool) → cond b (field ∷ samples_for input fields) (samples_for input fields) ≡ first ∷ rest → (samples_for input fields ≡ first ∷ rest → sample_in fields input ≡ byte_of first input)
        → elim (cond b (Some field) (find (λ x. gives x input) fields)) as (λ _. ℕ) [ None ↦ 0 | Some x ↦ byte_of x input ] ≡ byte_of first input
    go true e more = let same : field ≡ first = cc in ap (λ x. byte_of x input) same
    go false e more = more e

pub no-sample : (fields : List (List ℕ)) (input : DeclTree) → samples_for input fields ≡ [] → SampleOf fields input (Some 0)
no-sample fields input h = (ap (λ found. nat_lt (length found) 2) h, sym (find-none fields input h), omega arith)

pub one-sample : (fields : List (List ℕ)) (input : DeclTree) (byte : ℕ) (rest : List (List ℕ)) → IsFirst fields input byte rest → samples_for input rest ≡ [] → SampleOf fields input (Some byte)
one-sample fields input byte rest first h =
    let all : samples_for input fields ≡ first.field ∷ [] = first.split ∙ ap (λ more. first.field ∷ more) h in
    (ap (λ found. nat_lt (length found) 2) all, first.value ∙ sym (find-first fields [] first.field input all), first.small)

-- The inputs among definitions, with one definition more.
inputs-push : (ds : List Decl) (d : Decl) → inputs_among (map decl_of (ds ++ d ∷ [])) ≡ inputs_among (map decl_of ds) ++ cond (is_input (behaviour_of d.behaviour)) (decl_of d ∷ []) []
inputs-push ds d = ap inputs_among (map-append decl_of ds (d ∷ [])) ∙ filter-append (λ x. is_input x.behaviour) (map decl_of ds) (decl_of d ∷ [])

inputs-no : (ds : List Decl) (d : Decl) → is_input (behaviour_of d.behaviour) ≡ false → inputs_among (map decl_of (ds ++ d ∷ [])) ≡ inputs_among (map decl_of ds)
inputs-no ds d h = inputs-push ds d ∙ ap (λ b. inputs_among (map decl_of ds) ++ cond b (decl_of d ∷ []) []) h ∙ append-nil (inputs_among (map decl_of ds))

inputs-yes : (ds : List Decl) (d : Decl) → is_input (behaviour_of d.behaviour) ≡ true → inputs_among (map decl_of (ds ++ d ∷ [])) ≡ inputs_among (map decl_of ds) ++ decl_of d ∷ []
inputs-yes ds d h = inputs-push ds d ∙ ap (λ b. inputs_among (map decl_of ds) ++ cond b (decl_of d ∷ []) []) h

values-push : (ds : List DeclTree) (d : DeclTree) (ns : List ℕ) (n : ℕ) → AreValuesOf (map (λ (x : DeclTree). U8) ds) ns → n < 256 → AreValuesOf (map (λ (x : DeclTree). U8) (ds ++ d ∷ [])) (ns ++ n ∷ [])
values-push [] d [] n are small = (small, tt)
values-push [] d (m ∷ ns) n are small = absurd are
values-push (x ∷ ds) d [] n are small = absurd are
values-push (x ∷ ds) d (m ∷ ns) n are small = (are.0, values-push ds d ns n are.1 small)

-- The samples of the definitions so far, with one more.
pub given-skip : (fields : List (List ℕ)) (ds : List Decl) (i : ℕ) (d : Decl) (samples : List ℕ) → i < length ds → d ≡ get_or ds i d → is_input (behaviour_of d.behaviour) ≡ false
    → AreGiven fields (inputs_among (map decl_of (take i ds))) samples → AreGiven fields (inputs_among (map decl_of (take (i + 1) ds))) samples
given-skip fields ds i d samples inside at h are =
    let more : take (i + 1) ds ≡ take i ds ++ d ∷ [] = take_more ds i d inside ∙ ap (λ x. take i ds ++ x ∷ []) (sym at) in
    subst (λ inputs. AreGiven fields inputs samples) (sym (ap (λ x. inputs_among (map decl_of x)) more ∙ inputs-no (take i ds) d h)) are

pub given-more : (fields : List (List ℕ)) (ds : List Decl) (i : ℕ) (d : Decl) (samples : List ℕ) (byte : ℕ) → i < length ds → d ≡ get_or ds i d → is_input (behaviour_of d.behaviour) ≡ true
    → SampleOf fields (decl_of d) (Some byte) → AreGiven fields (inputs_among (map decl_of (take i ds))) samples → AreGiven fields (inputs_among (map decl_of (take (i + 1) ds))) (samples ++ byte ∷ [])
given-more fields ds i d samples byte inside at h sample are =
    let before : List DeclTree = inputs_among (map decl_of (take i ds)) in
    let more : take (i + 1) ds ≡ take i ds ++ d ∷ [] = take_more ds i d inside ∙ ap (λ x. take i ds ++ x ∷ []) (sym at) in
    let pushed : AreGiven fields (before ++ decl_of d ∷ []) (samples ++ byte ∷ []) = record {
      once = list_all-append (is_once fields) before (decl_of d ∷ []) ∙ ap (λ b. b && (is_once fields (decl_of d) && true)) are.once ∙ ap (λ b. b && true) sample.0;
      values = ap (λ x. x ++ byte ∷ []) are.values ∙ ap (λ n. map (sample_in fields) before ++ n ∷ []) sample.1 ∙ sym (map-append (sample_in fields) before (decl_of d ∷ []));
      bytes = values-push before (decl_of d) samples byte are.bytes sample.2;
    } in
    subst (λ inputs. AreGiven fields inputs (samples ++ byte ∷ [])) (sym (ap (λ x. inputs_among (map decl_of x)) more ∙ inputs-yes (take i ds) d h)) pushed

pub given-twice : (fields : List (List ℕ)) (ds : List Decl) (i : ℕ) (d : Decl) → i < length ds → d ≡ get_or ds i d → is_input (behaviour_of d.behaviour) ≡ true → is_once fields (decl_of d) ≡ false
    → list_all (is_once fields) (inputs_among (map decl_of ds)) ≡ false
given-twice fields [] i d inside at h twice = absurd (omega arith)
given-twice fields (x ∷ ds) zero d inside at h twice =
    ap (λ b. list_all (is_once fields) (cond b (decl_of x ∷ inputs_among (map decl_of ds)) (inputs_among (map decl_of ds)))) (ap (λ y. is_input (behaviour_of y.behaviour)) (sym at) ∙ h)
    ∙ ap (λ b. b && list_all (is_once fields) (inputs_among (map decl_of ds))) (ap (λ y. is_once fields (decl_of y)) (sym at) ∙ twice)
given-twice fields (x ∷ ds) (suc i) d inside at h twice = go (is_input (behaviour_of x.behaviour)) (given-twice fields ds i d (omega arith) at h twice)
  where
    go : (b : Bool) → list_all (is_once fields) (inputs_among (map decl_of ds)) ≡ false → list_all (is_once fields) (cond b (decl_of x ∷ inputs_among (map decl_of ds)) (inputs_among (map decl_of ds))) ≡ false
    go true e = ap (λ b. is_once fields (decl_of x) && b) e ∙ and-false (is_once fields (decl_of x))
    go false e = e
