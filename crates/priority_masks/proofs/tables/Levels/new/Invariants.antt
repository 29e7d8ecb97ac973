use Rattle.std.proofs.Common.{◌≡◌, ℕ, ◌<◌, length, map, take, get_or}
use Rattle.frp_tree.specs.declared.syntax.Event.{Event}
use Rattle.frp_tree.specs.Tree.{program_tree_of}
use Rattle.pic_isa.specs.declared.sources.Source.TheVariants.{T0}
use Rattle.pic_isa.specs.Sources.{source_name}
use Rattle.efrp_types.specs.Numbers.{event_source}
use Rattle.priority_masks.proofs.tables.Levels.new.Given as goal

abbrev pub invariant-loop-n : goal.invariant-loop-n
invariant-loop-n l =
    (length l.priorities ≡ 11) × (length l.sources ≡ 11) × (take l.n l.priorities ≡ map (λ (e : Event). e.priority) (take l.n l.events))
    × ((k : ℕ) → k < l.n → event_source (program_tree_of l.c.typed.program) k ≡ source_name (get_or l.sources k T0))
