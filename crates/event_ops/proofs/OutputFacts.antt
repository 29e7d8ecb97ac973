-- Outputs one behind the other: what is drafted and put for some, and for one more.
use Rattle.std.specs.List.{AllByRecursion}
use Rattle.std.proofs.Common.{◌≡◌, ℕ, ◌+◌, ◌<◌, ◌≤◌, List, [], ◌∷◌, ◌++◌, map, slice_get, sum_by, take, Option, Some, option_and_then, refl, sym, ap, subst, ◌∙◌, arith}
use Rattle.std.proofs.lemmas.List.{map-append}
use Rattle.std.proofs.lemmas.List.Sums.{sum_by-append, sum_by-take-le, sum_by_push}
use Rattle.frp_tree.specs.declared.syntax.Ty.TheVariants.{U8}
use Rattle.frp_tree.specs.Tree.{OutputTree, ProgramTree}
use Rattle.pic_isa.specs.Names.{port_at}
use Rattle.efrp_meaning.specs.Bounds.{result_bytes, weight}
use Rattle.efrp_meaning.specs.Meaning.{evaluate}
use Rattle.efrp_meaning.specs.Types.{type_of}
use Rattle.efrp_types.specs.Numbers.{decl_number}
use Rattle.event_needs.proofs.ListLaws.{all-append, each-at, take-one}
use Rattle.byte_ops.specs.declared.operations.Op.{Op}
use Rattle.byte_ops.specs.declared.operations.Pair.{Pair}
use Rattle.byte_ops.specs.Weights.{weight_of}
use Rattle.expr_lower.specs.declared.places.Place.{Place}
use Rattle.expr_lower.specs.Lowered.{HasNoLook, NamesHaveCells}
use Rattle.expr_lower.specs.Places.{AreCellsOf, cells_of_place, is_wide}
use Rattle.expr_lower.specs.Running.{CanRun, DoAll}
use Rattle.expr_lower.proofs.OrderLaws.{between, ends-after, leaves, order-append}
use Rattle.event_ops.specs.declared.drafts.Draft.{Draft}
use Rattle.event_ops.specs.declared.results.Put.{Put}
use Rattle.event_ops.specs.Drafts.{CanAdd, CanPut, Grows, HoldNames, Lasting, Shows}
use Rattle.event_ops.specs.Works.{IsPut}
use Rattle.event_ops.proofs.NameFacts.{all-cells, held-same, name-at, still-ours}
use Rattle.event_ops.proofs.PieceFacts.{goes-further, runs-more}

-- One piece behind another.
pub grows-further : (first middle last : Draft) (xs ys : List Op) (b c w v : ℕ) → Grows first middle xs b w → Grows middle last ys c v → Grows first last (xs ++ ys) (b + c) (w + v)
grows-further first middle last xs ys b c w v g h =
    let more = ends-after middle.cells.next ys last.cells.next h.order in
    let sum = sum_by-append weight_of xs ys in
    record {
      goes_on = goes-further first middle last xs ys g.goes_on h.goes_on;
      order = order-append first.cells.next xs ys middle.cells.next last.cells.next g.order h.order;
      runs = all-append (CanRun last.cells.next) xs ys (runs-more middle.cells.next last.cells.next xs more g.runs) h.runs;
      count = omega (arith, g.count, h.count);
      weight = omega (arith, sum, g.weight, h.weight);
    }

puts-more : (states a b : ℕ) (qs : List Put) → a ≤ b → AllByRecursion (IsPut states a) qs → AllByRecursion (IsPut states b) qs
puts-more states a b [] h all = tt
puts-more states a b (q ∷ qs) h all = (record { old = all.0.old; given = omega (arith, all.0.given, h); port = all.0.port }, puts-more states a b qs h all.1)

still-put : (states a : ℕ) (qs : List Put) (f g : ℕ → ℕ) → AllByRecursion (IsPut states a) qs → ((cell : ℕ) → cell < a → f cell ≡ g cell) → map (λ (q : Put). Some (f q.from)) qs ≡ map (λ (q : Put). Some (g q.from)) qs
still-put states a [] f g all same = refl
still-put states a (q ∷ qs) f g all same =
    ap (λ n. Some n ∷ map (λ (x : Put). Some (f x.from)) qs) (same q.from all.0.given) ∙ ap (λ rest. Some (g q.from) ∷ rest) (still-put states a qs f g all.1 same)

module _ (p : ProgramTree) (first middle last : Draft) (outputs : List OutputTree) (o : OutputTree) (puts : List Put) (shows : Shows p first middle outputs puts) where
  more : first.cells.next ≤ middle.cells.next
  more = ends-after first.cells.next shows.ops middle.cells.next shows.grows.order

  -- The next one can be lowered.
  pub can-add-output : (all : List OutputTree) (k : ℕ) → CanPut p first all → outputs ≡ take k all → slice_get all k ≡ Some o → type_of p o.expr ≡ Some U8 → CanAdd p middle o.expr
  can-add-output all k can taken there typed =
      let room = within all k can taken there in
      record {
        typed = (U8, typed);
        no_look = each-at (λ (x : OutputTree). HasNoLook x.expr) all k o can.no_look there;
        cells = still-ours p first.cells middle.cells can.cells shows.grows.goes_on.places more (omega (arith, room));
        named = λ y inside.
            let it = each-at (λ (x : OutputTree). NamesHaveCells p first.cells x.expr) all k o can.named there y inside in
            (it.0, ap (λ (items : List Place). option_and_then (λ n. option_and_then cells_of_place (slice_get items n)) (decl_number p y)) shows.grows.goes_on.places ∙ it.1);
        old = omega (arith, can.old, shows.grows.goes_on.states, more);
        room = room;
      }
    where
      within : (all : List OutputTree) (k : ℕ) → CanPut p first all → outputs ≡ take k all → slice_get all k ≡ Some o → middle.cells.next + result_bytes p o.expr ≤ 65536
      within all k can taken there =
          let f = λ (x : OutputTree). result_bytes p x.expr in
          let upto = ap (sum_by f) (take-one all k o there) ∙ sum_by_push f (take k all) o in
          let part = sum_by-take-le f all (k + 1) in
          let same = ap (sum_by f) taken in
          omega (arith, upto, part, same, shows.grows.count, can.room)

  -- And it is put.
  pub shows-more : (at : Pair) (port : ℕ) → AreCellsOf p first.cells → Lasting p middle last o.expr U8 at → port_at o.port ≡ Some port → port ≤ 4 → Shows p first last (outputs ++ o ∷ []) (puts ++ record { from = at.low; port = port } ∷ [])
  shows-more at port old lasting named few =
      let values = lasting.values in
      let further = ends-after middle.cells.next values.ops last.cells.next values.grows.order in
      let f = λ (x : OutputTree). result_bytes p x.expr in
      let g = λ (x : OutputTree). weight p x.expr in
      record {
        ops = shows.ops ++ values.ops;
        grows =
            subst (λ m. Grows first last (shows.ops ++ values.ops) m (sum_by g (outputs ++ o ∷ []))) (sym (sum_by_push f outputs o))
            (subst (λ m. Grows first last (shows.ops ++ values.ops) (sum_by f outputs + result_bytes p o.expr) m) (sym (sum_by_push g outputs o))
            (grows-further first middle last shows.ops values.ops (sum_by f outputs) (result_bytes p o.expr) (sum_by g outputs) (weight p o.expr) shows.grows values.grows));
        puts =
            all-append (IsPut first.states last.cells.next) puts (record { from = at.low; port = port } ∷ []) (puts-more first.states middle.cells.next last.cells.next puts further shows.puts)
            (record { old = omega (arith, lasting.low, shows.grows.goes_on.states); given = values.result_in.0; port = few }, tt);
        ports =
            map-append (λ (q : Put). Some q.port) puts (record { from = at.low; port = port } ∷ [])
            ∙ ap (λ rest. rest ++ Some port ∷ []) shows.ports ∙ ap (λ x. map (λ (x : OutputTree). port_at x.port) outputs ++ x ∷ []) (sym named)
            ∙ sym (map-append (λ (x : OutputTree). port_at x.port) outputs (o ∷ []));
        values = λ names start finish bytes hold d.
            let parts = between shows.ops values.ops start finish bytes d in
            let kept = λ (cell : ℕ) (below : cell < middle.cells.next). leaves middle.cells.next values.ops last.cells.next parts.at finish values.grows.order parts.second cell below in
            let before = shows.values names start parts.at bytes hold parts.first in
            let v = values.value names parts.at finish parts.bytes (λ y inside t pair type has. still-held names start parts.at hold parts.first y t pair type has) parts.second in
            map-append (λ (q : Put). Some (finish q.from)) puts (record { from = at.low; port = port } ∷ [])
            ∙ ap (λ rest. rest ++ Some (finish at.low) ∷ []) (still-put first.states middle.cells.next puts finish parts.at shows.puts kept ∙ before)
            ∙ ap (λ n. map (λ (x : OutputTree). evaluate p names x.expr) outputs ++ n ∷ []) (ap Some v.3 ∙ sym v.1)
            ∙ sym (map-append (λ (x : OutputTree). evaluate p names x.expr) outputs (o ∷ []));
      }
    where
      still-held : (names : List ℕ → Option ℕ) (start at : ℕ → ℕ) → HoldNames p first.cells names start → DoAll shows.ops start at → HoldNames p middle.cells names at
      still-held names start at hold d y t pair type has =
          let first_has = ap (λ (items : List Place). option_and_then (λ n. option_and_then cells_of_place (slice_get items n)) (decl_number p y)) (sym shows.grows.goes_on.places) ∙ has in
          let v = hold y t pair type first_has in
          let its = name-at p first.cells old y t pair type first_has in
          let kept = λ (cell : ℕ) (below : cell < first.cells.next). leaves first.cells.next shows.ops middle.cells.next start at shows.grows.order d cell below in
          (v.0, v.1, v.2, held-same (is_wide t) pair at start (all-cells (λ cell. at cell ≡ start cell) (is_wide t) pair (kept pair.low its.low) (kept pair.high its.high)) ∙ v.3)
