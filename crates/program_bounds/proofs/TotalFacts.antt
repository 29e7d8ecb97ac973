-- What all events add to a program's bounds: one event more, and that it is within the limits of counts.
use Rattle.std.specs.Prelude.{◌≡◌, ℕ, ◌+◌, ◌*◌, ◌<◌, ◌≤◌, max, List, [], length, slice_get, sum_by, Some, None}
use Rattle.std.proofs.Common.{ap, arith, get_or, refl, subst, sym, take, ◌∙◌}
use Rattle.std.proofs.lemmas.List.{take_all}
use Rattle.std.proofs.lemmas.Option.{slice_get-get_or}
use Rattle.frp_tree.specs.declared.syntax.Event.{Event}
use Rattle.frp_tree.specs.Tree.{ProgramTree}
use Rattle.efrp_meaning.specs.Bounds.{body, scratch_bytes}
use Rattle.efrp_types.specs.Laws.{IsWellFormed}
use Rattle.efrp_types.specs.Numbers.{event_name}
use Rattle.program_bounds.specs.declared.bounds.Totals.{Totals}
use Rattle.program_bounds.specs.declared.costs.Costs.{Costs}
use Rattle.program_bounds.specs.Bounded.{AreCosts}
use Rattle.program_bounds.specs.Sized.{AreTotals, AreTotalsOf}
use Rattle.program_bounds.proofs.BoundLaws.{words-few}
use Rattle.program_bounds.proofs.FewFacts.{body-few, scratch-few}
use Rattle.program_bounds.proofs.SumFacts.{greatest-few, greatest-more, sum-few, sum-more, sum-within}

module _ (p : ProgramTree) (formed : IsWellFormed p) (copied off : ℕ) (few_copied : copied ≤ 2048) (few_off : off ≤ 4096) where
  abbrev words-of : Event → ℕ
  words-of e = 128 + body p e.name + copied

  abbrev steps-of : Event → ℕ
  steps-of e = 3 * body p e.name + 4 * off

  few-steps : (e : Event) → steps-of e ≤ 9849088
  few-steps e = let few = body-few p formed e.name in omega (arith, few, few_off)

  all-words-few : sum_by words-of p.events ≤ 40000000
  all-words-few = words-few p formed copied few_copied

  all-steps-few : sum_by steps-of p.events ≤ 110000000
  all-steps-few = let all = sum-few steps-of 9849088 few-steps p.events in let events = formed.written.events in omega (arith, all, events)

  -- One event more.
  module _ (i : ℕ) (inside : i < length p.events) (all : Totals) (so_far : AreTotalsOf p copied off (take i p.events) all) (own : Costs) (costs : AreCosts p (event_name p i) own) where
    abbrev event : Event
    event = get_or p.events i (record { name = []; source = []; priority = 0 })

    there : slice_get p.events i ≡ Some event
    there = slice_get-get_or p.events i (record { name = []; source = []; priority = 0 }) inside

    named : event_name p i ≡ event.name
    named = ap (λ o. elim o [ Some e ↦ e.name | None ↦ [] ]) there

    its-body : own.body ≡ body p event.name
    its-body = costs.body ∙ ap (body p) named

    its-words : 128 + own.body + copied ≡ words-of event
    its-words = ap (λ n. 128 + n + copied) its-body

    its-steps : 3 * own.body + 4 * off ≡ steps-of event
    its-steps = ap (λ n. 3 * n + 4 * off) its-body

    pub words-fit : all.words + (128 + own.body + copied) ≤ 40000000
    words-fit = let within = sum-within words-of p.events i event all.words (128 + own.body + copied) there so_far.words its-words in let few = all-words-few in omega (arith, within, few)

    pub steps-fit : all.settle + (3 * own.body + 4 * off) ≤ 110000000
    steps-fit = let within = sum-within steps-of p.events i event all.settle (3 * own.body + 4 * off) there so_far.settle its-steps in let few = all-steps-few in omega (arith, within, few)

    pub totals-more : (scratch : ℕ) → scratch ≡ max all.scratch own.scratch
        → AreTotalsOf p copied off (take (i + 1) p.events) (record { words = all.words + (128 + own.body + copied); settle = all.settle + (3 * own.body + 4 * off); scratch = scratch })
    totals-more scratch is = record {
      words = sum-more words-of p.events i event all.words (128 + own.body + copied) (all.words + (128 + own.body + copied)) there so_far.words its-words refl;
      settle = sum-more steps-of p.events i event all.settle (3 * own.body + 4 * off) (all.settle + (3 * own.body + 4 * off)) there so_far.settle its-steps refl;
      scratch = is ∙ greatest-more (λ (e : Event). scratch_bytes p e.name) p.events i event all.scratch own.scratch there so_far.scratch (costs.scratch ∙ ap (scratch_bytes p) named);
    }

  -- Behind them all.
  pub totals-all : (i : ℕ) (all : Totals) → length p.events ≤ i → AreTotalsOf p copied off (take i p.events) all → AreTotals p copied off all
  totals-all i all past so_far =
      let are = subst (λ (es : List Event). AreTotalsOf p copied off es all) (take_all i p.events past) so_far in
      let words = are.words in
      let settle = are.settle in
      let scratch = are.scratch in
      let most = greatest-few (λ (e : Event). scratch_bytes p e.name) 8320 (λ e. scratch-few p formed e.name) p.events in
      record { are = are; few_words = subst (λ n. n ≤ 40000000) (sym words) all-words-few; few_steps = subst (λ n. n ≤ 110000000) (sym settle) all-steps-few; few_bytes = subst (λ n. n ≤ 8320) (sym scratch) most }
