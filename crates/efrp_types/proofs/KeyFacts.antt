-- Names that are put into a set, one after another.
use Rattle.std.specs.Prelude.{◌≡◌, ℕ, ◌+◌, ◌<◌, Bool, true, false, List, [], ◌∷◌, ◌++◌, map, take, String, refl, if◌then◌else◌}
use Rattle.std.specs.List.{flat_map, list_any}
use Rattle.std.specs.Str.{bytes_eq}
use Rattle.std.specs.String.{string_bytes, string_eq}
use Rattle.std.proofs.Common.{sym, ap, ◌∙◌, append_assoc}
use Rattle.std.proofs.lemmas.List.{append-nil, map-append}
use Rattle.std.proofs.lemmas.Simd.{map-map}
use Rattle.indexmap.specs.IndexSet.{insert_key, insert_all}
use Rattle.frp_tree.specs.declared.syntax.Decl.{Decl}
use Rattle.frp_tree.specs.declared.syntax.Event.{Event}
use Rattle.frp_tree.specs.declared.syntax.Program.{Program}
use Rattle.frp_tree.specs.Tree.{DeclTree, decl_of, program_tree_of}
use Rattle.efrp_types.specs.declared.faults.CheckFault.{CheckFault}
use Rattle.efrp_types.specs.declared.faults.CheckFault.TheVariants.{Twice}
use Rattle.efrp_types.specs.NameFaults.{fault_if, is_event, each_after, event_faults, setup_faults, decl_faults, item_faults, expression_faults, name_faults}
use Rattle.efrp_types.specs.Numbers.{NameLists, names_of}
use Rattle.efrp_types.proofs.DeclFacts.{any-of}
use Rattle.efrp_types.proofs.GoodLaws.{no-decl-fault}
use Rattle.efrp_types.proofs.NodeLaws.{both-none, fault-false}

-- Where a text is put among others, its bytes are put among theirs.
pub put-text : {Y : Type 0} (keys : List (String Y)) (k : String Y) → map string_bytes (insert_key string_eq keys k) ≡ insert_key bytes_eq (map string_bytes keys) (string_bytes k)
put-text keys k =
    by_test (list_any (string_eq k) keys)
    ∙ ap (λ b. if b then map string_bytes keys else map string_bytes keys ++ string_bytes k ∷ []) (any-of string_bytes (bytes_eq (string_bytes k)) keys)
  where
    by_test : (b : Bool) → map string_bytes (if b then keys else keys ++ k ∷ []) ≡ (if b then map string_bytes keys else map string_bytes keys ++ string_bytes k ∷ [])
    by_test true = refl
    by_test false = map-append string_bytes keys (k ∷ [])

-- The first i of some items have been put in. One more.
abbrev pub Put : {A : Type 0} → (A → List ℕ) → List A → ℕ → List (List ℕ) → Type 0
Put key xs i texts = texts ≡ insert_all bytes_eq [] (map key (take i xs))

-- Names that each differ from those before are put in as they are.
module _ {A : Type 0} (key : A → List ℕ) (faults : List A → A → List CheckFault)
    (found : (before : List A) (x : A) → faults before x ≡ [] → list_any (λ b. bytes_eq (key x) (key b)) before ≡ false) where
  put-last : (before : List A) (x : A) → faults before x ≡ [] → insert_key bytes_eq (map key before) (key x) ≡ map key (before ++ x ∷ [])
  put-last before x none =
      ap (λ b. if b then map key before else map key before ++ key x ∷ []) (sym (any-of key (bytes_eq (key x)) before) ∙ found before x none)
      ∙ sym (map-append key before (x ∷ []))

  put-behind : (before xs : List A) → each_after faults before xs ≡ [] → insert_all bytes_eq (map key before) (map key xs) ≡ map key before ++ map key xs
  put-behind before [] e = sym (append-nil (map key before))
  put-behind before (x ∷ xs) e =
      let parts = both-none (faults before x) (each_after faults (before ++ x ∷ []) xs) e in
      ap (λ ts. insert_all bytes_eq ts (map key xs)) (put-last before x parts.0)
      ∙ put-behind (before ++ x ∷ []) xs parts.1
      ∙ ap (λ ts. ts ++ map key xs) (map-append key before (x ∷ []))
      ∙ append_assoc (map key before) (key x ∷ []) (map key xs)

  pub put-all : (xs : List A) → each_after faults [] xs ≡ [] → insert_all bytes_eq [] (map key xs) ≡ map key xs
  put-all xs e = put-behind [] xs e

-- The names of a program whose names have no fault.
event-new : (before : List Event) (e : Event) → event_faults before e ≡ [] → is_event before e.name ≡ false
event-new before e none = fault-false (is_event before e.name) (Twice e.name) (both-none (fault_if (is_event before e.name) (Twice e.name)) _ none).0

names-of-trees : (ds : List Decl) → map (λ (d : Decl). d.name) ds ≡ map (λ (d : DeclTree). d.name) (map decl_of ds)
names-of-trees ds = sym (map-map (λ (d : DeclTree). d.name) decl_of ds)

pub are-names : (p : Program) (events decls : List (List ℕ)) → name_faults (program_tree_of p) ≡ [] → events ≡ insert_all bytes_eq [] (map (λ (e : Event). e.name) p.events)
    → decls ≡ insert_all bytes_eq [] (map (λ (d : Decl). d.name) p.decls) → ◌≡◌ {A = NameLists} (record { events = events; decls = decls }) (names_of (program_tree_of p))
are-names p events decls none es ds =
    let t = program_tree_of p in
    let items = both-none (each_after event_faults [] t.events) _ (both-none (item_faults t) (expression_faults t) none).0 in
    let rest = both-none (each_after (decl_faults t.events) [] t.decls) _ (both-none (flat_map setup_faults t.setups) _ items.1).1 in
    ap (λ k. record { events = k; decls = decls }) (es ∙ put-all (λ (e : Event). e.name) event_faults event-new p.events items.0)
    ∙ ap (λ k. record { events = map (λ (e : Event). e.name) p.events; decls = k })
    (ds ∙ ap (insert_all bytes_eq []) (names-of-trees p.decls) ∙ put-all (λ (d : DeclTree). d.name) (decl_faults t.events) (no-decl-fault t.events) t.decls rest.0)
