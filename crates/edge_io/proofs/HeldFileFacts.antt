-- What a map from texts to buffers holds, as files.
use Rattle.std.proofs.Common.{◌≡◌, ℕ, Bool, true, false, List, [], ◌∷◌, map, Option, Some, String, BTreeMap, string_bytes, cond, refl, sym, ap, ◌∙◌}
use Rattle.std.specs.Option.{option_map}
use Rattle.std.specs.Ordering.{nat_cmp}
use Rattle.std.specs.Cmp.Lexicographic.{slice_cmp}
use Rattle.std.specs.Map.{lookup}
use Rattle.std.specs.Str.{bytes_eq}
use Rattle.std.specs.String.{string_cmp}
use Rattle.std.specs.BTreeMap.{get_by_text, UpdatesBy, is_at}
use Rattle.std.proofs.lemmas.Bool.{cond-true, cond-false, false_from_ne_true}
use Rattle.std.proofs.lemmas.Map.Text.{is_eq-slice_cmp, btree_map_updates_text}
use Rattle.std.proofs.lemmas.Slice.Eq.{bytes_eq-Decides}
use Rattle.edge_io.specs.Files.{Replaces}
use Rattle.edge_io.specs.Memory.{FileList, held}

module _ {X : Type 0} (items : X → List ℕ) where
  option_map-cond : (b : Bool) (x : X) (o : Option X) → cond b (Some (items x)) (option_map items o) ≡ option_map items (cond b (Some x) o)
  option_map-cond true x o = refl
  option_map-cond false x o = refl

module _ {X Y : Type 0} (items : X → List ℕ) where
  -- the names and the bytes
  abbrev pub named : List (String Y × X) → FileList
  named = map (λ file. (string_bytes file.0, items file.1))

  -- what is held under a name is what the map has there
  pub held-named : (es : List (String Y × X)) (name : List ℕ) → held (named es) name ≡ option_map items (lookup (is_at (λ k. slice_cmp nat_cmp name (string_bytes k))) es)
  held-named [] name = refl
  held-named (e ∷ es) name =
      rw (← is_eq-slice_cmp name (string_bytes e.0), held-named es name) (option_map-cond items _ e.1 _)

  -- a map that has another value at one name holds another file
  pub named-replaces : (m n : BTreeMap (String Y) X) (name : List ℕ) (x : X) → UpdatesBy string_cmp (λ k. slice_cmp nat_cmp name (string_bytes k)) m n (Some x) → Replaces (held (named m.entries)) (held (named n.entries)) name (items x)
  named-replaces m n name x updates = (
    held-named n.entries name ∙ ap (option_map items) (updates_at name ∙ cond-true _ _ _ ((bytes_eq-Decides name name).1 refl)),
    λ other differs.
        held-named n.entries other
        ∙ ap (option_map items) (updates_at other ∙ cond-false _ _ _ (false_from_ne_true _ (λ e. differs (sym ((bytes_eq-Decides name other).0 e)))))
        ∙ sym (held-named m.entries other),
  )
    where
      updates_at : (other : List ℕ) → get_by_text n other ≡ cond (bytes_eq name other) (Some x) (get_by_text m other)
      updates_at = btree_map_updates_text name m n (Some x) updates
