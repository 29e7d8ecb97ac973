-- Where each piece of firmware does its own, the pieces can be put together.
use Rattle.std.proofs.Common.{◌≡◌, ℕ, zero, suc, ◌+◌, ◌<◌, ◌≤◌, List, [], ◌∷◌, length, map, slice_get, Some, None, refl, sym, ap, subst, arith, inl, inr}
use Rattle.std.specs.List.{AllByRecursion}
use Rattle.std.proofs.lemmas.Option.{none-some, same_Some}
use Rattle.frp_tree.specs.declared.syntax.Event.{Event}
use Rattle.frp_tree.specs.Tree.{OutputTree}
use Rattle.efrp_meaning.specs.Bounds.{greatest, scratch_bytes, state_bytes}
use Rattle.efrp_types.specs.Numbers.{event_name}
use Rattle.efrp_types.proofs.NumberLaws.{item_at}
use Rattle.pic_isa.specs.Instructions.{FieldsFit}
use Rattle.pic_isa.specs.Names.{port_at}
use Rattle.pic_machine.specs.Exec.{field}
use Rattle.code_items.specs.declared.items.Item.TheVariants.{Ins}
use Rattle.event_needs.proofs.ListLaws.{all-append}
use Rattle.event_ops.specs.declared.results.Put.{Put}
use Rattle.event_ops.specs.Works.{IsCopy, IsPut}
use Rattle.scratch_commit.specs.Plans.{IsInstruction}
use Rattle.isr_vector.proofs.ListLaws.{all_mapped}
use Rattle.event_code.specs.Moves.{move_of, put_of}
use Rattle.firmware_layout.specs.Made.{DoesEvent, IsMade, IsMaking}
use Rattle.firmware_layout.specs.Pieces.{Makings}
use Rattle.firmware_layout.specs.Sound.{IsMoveIn, IsWorkIn}

-- What is made of each of some items passes where each of them does.
all-made_of : {A B : Type 0} (P : A → Type 0) (Q : B → Type 0) (g : A → B) → ((x : A) → P x → Q (g x)) → (xs : List A) → AllByRecursion P xs → AllByRecursion Q (map g xs)
all-made_of P Q g each [] all = tt
all-made_of P Q g each (x ∷ xs) all = (each x all.0, all-made_of P Q g each xs all.1)

-- No number is above the greatest.
below_greatest : {A : Type 0} (g : A → ℕ) (xs : List A) (n : ℕ) (x : A) → slice_get xs n ≡ Some x → g x ≤ greatest (map g xs)
below_greatest g [] n x there = absurd (none-some x there)
below_greatest g (y ∷ ys) zero x there = let own = ap g (same_Some y x there) in omega (arith, own)
below_greatest g (y ∷ ys) (suc n) x there = let rest = below_greatest g ys n x there in omega (arith, rest)

-- Bytes that are put on the ports of outputs, one on each, go to outputs.
abbrev IsPortOf : List OutputTree → ℕ → Type 0
IsPortOf os port = (n : ℕ) × (o : OutputTree) × (slice_get os n ≡ Some o) × (port_at o.port ≡ Some port)

are_outputs : (qs : List Put) (os : List OutputTree) → map (λ (q : Put). Some q.port) qs ≡ map (λ (o : OutputTree). port_at o.port) os
    → AllByRecursion (λ (q : Put). IsPortOf os q.port) qs
are_outputs [] os same = tt
are_outputs (q ∷ qs) [] same = absurd (cc)
are_outputs (q ∷ qs) (o ∷ os) same =
    let first : port_at o.port ≡ Some q.port = cc in
    let rest : map (λ (r : Put). Some r.port) qs ≡ map (λ (k : OutputTree). port_at k.port) os = cc in
    ((0, o, refl, first), all_mapped (λ (r : Put). IsPortOf os r.port) (λ (r : Put). IsPortOf (o ∷ os) r.port) (λ r its. (suc its.0, its.1, its.2, its.3)) qs (are_outputs qs os rest))

puts_in : (f : Makings) (cells : ℕ) → cells ≤ f.need.states + f.need.scratch → (qs : List Put) → AllByRecursion (IsPut (state_bytes f.p) cells) qs
    → AllByRecursion (λ (q : Put). IsPortOf f.p.outputs q.port) qs → AllByRecursion (IsMoveIn f) (map (put_of f.need) qs)
puts_in f cells few [] puts ports = tt
puts_in f cells few (q ∷ qs) puts ports =
    let given = puts.0.given in
    let its = ports.0 in (
      record {
        from = (q.from, omega (arith, given, few), refl);
        to = inr (its.0, its.1, q.port, its.2, its.3, refl);
      },
      puts_in f cells few qs puts.1 ports.1,
    )

-- The work of an event is instructions on cells that are placed.
module _ (f : Makings) (made : IsMade f) (event : ℕ) (inside : event < length f.p.events) where
  its : DoesEvent f event
  its = made.events event inside

  scratch : scratch_bytes f.p (event_name f.p event) ≤ f.need.scratch
  scratch =
      let item = item_at f.p.events event inside in
      let named : event_name f.p event ≡ item.0.name = ap (λ o. elim o [ Some e ↦ e.name | None ↦ [] ]) item.1 in
      let most = below_greatest (λ (e : Event). scratch_bytes f.p e.name) f.p.events event item.0 item.1 in
      let bytes = ap (scratch_bytes f.p) named in
      let placed = made.scratch in
      omega (arith, most, bytes, placed)

  few : its.ops.cells ≤ f.need.states + f.need.scratch
  few =
      let room = its.works.room in
      let states = made.states in
      let more = scratch in
      omega (arith, room, states, more)

  work-is_in : IsWorkIn f event
  work-is_in = record {
    instructions = subst (AllByRecursion IsInstruction) (sym its.code.are.all)
        (all-made_of (λ i. FieldsFit i × (field i ≡ Some 0x0A → ⊥)) IsInstruction Ins (λ i fits. tt) its.code.instrs its.code.are.fit);
    last = its.code.are.last;
    cells = let same = its.cells in let most = few in omega (arith, same, most);
    moves = subst (AllByRecursion (IsMoveIn f)) (sym its.moves)
        (all-append (IsMoveIn f) (map (move_of f.need) its.ops.copies) (map (put_of f.need) its.ops.puts)
        (all-made_of (IsCopy (state_bytes f.p) its.ops.cells) (IsMoveIn f) (move_of f.need)
        (λ c is.
        let given = is.given in
        let most = few in
        record { from = (c.from, omega (arith, given, most), refl); to = inl (c.to, is.to, refl) })
        its.ops.copies its.works.copies)
        (puts_in f its.ops.cells few its.ops.puts its.works.puts (are_outputs its.ops.puts f.p.outputs its.works.ports)));
  }

pub is_making : (f : Makings) → IsMaking f
is_making f made = record {
  written = made.written;
  passes = made.passes;
  no_inputs = made.no_inputs;
  states = let same = made.states in omega (arith, same);
  frames = let same = made.frames in omega (arith, same);
  few = made.few;
  sources = made.sources;
  bytes =
      let states = made.states in
      let frames = made.frames in
      let scratch = made.scratch in
      let fits = made.fits in
      omega (arith, states, frames, scratch, fits);
  works = λ event inside. work-is_in f made event inside;
}
