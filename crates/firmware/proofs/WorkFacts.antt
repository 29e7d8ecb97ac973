-- The work of an event can be made where the program's bytes are placed; and works are those of the events so far.
use Rattle.std.proofs.Common.{◌≡◌, ℕ, ◌+◌, ◌<◌, ◌≤◌, ◌*◌, ◌⊎◌, List, [], ◌∷◌, ◌++◌, length, length-append, map, get_or, slice_get, Some, None, refl, sym, ap, subst, ◌∙◌, arith, inl, inr}
use Rattle.std.proofs.lemmas.Bool.{cases_lt}
use Rattle.std.proofs.lemmas.List.{get_or_append_left, get_or_push}
use Rattle.std.proofs.lemmas.List.Recursion.{max_bounds}
use Rattle.std.proofs.lemmas.Option.{get_or_from_slice_get, slice_get-get_or, slice_get_read, slice_get_within}
use Rattle.frp_tree.specs.declared.syntax.Event.{Event}
use Rattle.frp_tree.specs.Tree.{ProgramTree}
use Rattle.efrp_meaning.specs.Bounds.{greatest, scratch_bytes, state_bytes}
use Rattle.efrp_types.specs.Numbers.{event_name}
use Rattle.bank_alloc.specs.declared.needs.Needs.{Needs}
use Rattle.bank_alloc.specs.Needs.{bytes_of}
use Rattle.event_ops.specs.declared.results.EventOps.{EventOps}
use Rattle.event_ops.specs.Works.{Works}
use Rattle.event_code.specs.declared.works.Work.{Work}
use Rattle.event_code.specs.Works.{CanBeCoded}
use Rattle.event_code.proofs.WorkLaws.{works_can_be_coded}
use Rattle.firmware.specs.Making.{AreNeeds, AreWorksOf, IsWorkFor}

-- The scratch of an event is no more than is placed.
scratch_within : (p : ProgramTree) (event : ℕ) → event < length p.events
    → scratch_bytes p (event_name p event) ≤ greatest (map (λ (e : Event). scratch_bytes p e.name) p.events)
scratch_within p event inside =
    let some : Event = record { name = []; source = []; priority = 0 } in
    let found = slice_get-get_or p.events event some inside in
    let named : event_name p event ≡ (get_or p.events event some).name = ap (λ o. elim o [ Some e ↦ e.name | None ↦ [] ]) found in
    let most = max_bounds (λ (es : List Event). greatest (map (λ (e : Event). scratch_bytes p e.name) es)) (λ (e : Event). scratch_bytes p e.name) refl (λ e es. refl) p.events event some inside in
    subst (λ name. scratch_bytes p name ≤ greatest (map (λ (e : Event). scratch_bytes p e.name) p.events)) (sym named) most

pub has_room : (p : ProgramTree) (need : Needs) (event : ℕ) → AreNeeds p need → event < length p.events
    → state_bytes p + scratch_bytes p (event_name p event) ≤ bytes_of need
has_room p need event its inside =
    let most = scratch_within p event inside in
    let states = its.states in
    let scratch = its.scratch in
    omega (arith, most, states, scratch)

pub can_be_coded : (p : ProgramTree) (need : Needs) (event : ℕ) (ops : EventOps) → AreNeeds p need → event < length p.events
    → Works p (event_name p event) ops → CanBeCoded (bytes_of need) ops
can_be_coded p need event ops its inside works =
    let room = works.room in
    let more = has_room p need event its inside in
    works_can_be_coded p (event_name p event) (bytes_of need) ops works (omega (arith, room, more))

-- One work more.
pub one_work_more : (p : ProgramTree) (need : Needs) (count : ℕ) (works : List Work) (one : Work) → AreWorksOf p need count works → IsWorkFor p need count one
    → AreWorksOf p need (count + 1) (works ++ one ∷ [])
one_work_more p need count works one are its = record {
  number =
      let long = length-append works (one ∷ []) in
      let number = are.number in
      omega (arith, long, number);
  each = λ event work found. by_place event work found (cases_lt event count);
}
  where
    by_place : (event : ℕ) (work : Work) → slice_get (works ++ one ∷ []) event ≡ Some work → (event < count) ⊎ (count ≤ event) → IsWorkFor p need event work
    by_place event work found (inl less) =
        let number = are.number in
        let inside : event < length works = omega (arith, less, number) in
        let same : get_or works event work ≡ work =
        sym (get_or_append_left works (one ∷ []) work event inside) ∙ get_or_from_slice_get (works ++ one ∷ []) event work work found in
        are.each event work (slice_get_read works (length works) event work refl inside (sym same))
    by_place event work found (inr most) =
        let number = are.number in
        let long = length-append works (one ∷ []) in
        let inside = slice_get_within (works ++ one ∷ []) event work found in
        let last : event ≡ count = omega (arith, most, inside, long, number) in
        let same : one ≡ work =
        sym (get_or_push works one work event (number ∙ sym last)) ∙ get_or_from_slice_get (works ++ one ∷ []) event work work found in
        subst (λ n. IsWorkFor p need n work) (sym last) (subst (IsWorkFor p need count) same its)
