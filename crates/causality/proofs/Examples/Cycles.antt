-- First cycles of small programs, computed.
use Rattle.std.specs.Prelude.{◌≡◌, ℕ, zero, suc, Bool, true, false, List, [], ◌∷◌, codes, refl}
use Rattle.std.specs.List.{list_all}
use Rattle.std.proofs.lemmas.Bool.{false≢true}
use Rattle.frp_tree.specs.declared.syntax.Ty.TheVariants.{U8}
use Rattle.frp_tree.specs.declared.syntax.Lit.TheVariants as lit
use Rattle.frp_tree.specs.Tree.{Name, DeclTree, ProgramTree}
use Rattle.efrp_meaning.proofs.CausalLaws.{none-depends-on-itself}
use Rattle.efrp_meaning.proofs.Examples.Programs.{event, clause, reactive, plain, on_go, go, one_more}
use Rattle.causality.specs.Graphs.{graph_on, edges, is_marked}
use Rattle.causality.specs.Orders.{DependsOnItself, IsFirstCycle}
use Rattle.causality.proofs.GraphFacts.{closed-path, has-passes}
use Rattle.causality.proofs.BridgeFacts.{own-numbered, round-from}

abbrev x : List ℕ
x = codes "x"

abbrev y : List ℕ
y = codes "y"

-- x becomes y + 1, and y becomes x + 1.
abbrev first_x : DeclTree
first_x = reactive x U8 (lit.Plain 1) (clause go (one_more y) ∷ [])

abbrev then_y : DeclTree
then_y = reactive y U8 (lit.Plain 2) (clause go (one_more x) ∷ [])

abbrev both : ProgramTree
both = on_go (first_x ∷ then_y ∷ [])

pub x_is_first : IsFirstCycle both go x
x_is_first = record {
  event_is_first = ([], [], event go (codes "T0") 2, refl, refl, tt);
  name_is_first = ([], then_y ∷ [], first_x, refl, refl, (y ∷ [], (refl, refl)), tt);
}

-- On an event before it both stay as they are: the cycle is on the second event.
abbrev tick : List ℕ
tick = codes "Tick"

abbrev on_second : ProgramTree
on_second = record both { events = event tick (codes "T1") 1 ∷ event go (codes "T0") 2 ∷ [] }

pub second_event_is_first : IsFirstCycle on_second go x
second_event_is_first = record {
  event_is_first = (event tick (codes "T1") 1 ∷ [], [], event go (codes "T0") 2, refl, refl, (none-depends-on-itself on_second tick (x ∷ y ∷ []) refl, tt));
  name_is_first = ([], then_y ∷ [], first_x, refl, refl, (y ∷ [], (refl, refl)), tt);
}

-- A definition before these that leads to the cycle and isn't on it isn't told.
abbrev lead : DeclTree
lead = plain (codes "n") U8 (Name x)

abbrev led : ProgramTree
led = on_go (lead ∷ first_x ∷ then_y ∷ [])

abbrev on_the_cycle : List Bool
on_the_cycle = false ∷ true ∷ true ∷ []

stays-on : (i : ℕ) → is_marked on_the_cycle i ≡ true → list_all (is_marked on_the_cycle) (edges (graph_on led go) i) ≡ true
stays-on zero h = absurd (false≢true h)
stays-on (suc zero) h = refl
stays-on (suc (suc zero)) h = refl
stays-on (suc (suc (suc i))) h = absurd (false≢true h)

lead-stays-off : ¬ DependsOnItself led go lead.name
lead-stays-off depends =
    let round = round-from led go refl lead.name 0 (own-numbered led go refl 0 lead refl) depends in
    false≢true (closed-path (graph_on led go) on_the_cycle (λ i h j edge. has-passes (is_marked on_the_cycle) j (edges (graph_on led go) i) (stays-on i h) edge)
    0 0 round.0 (λ k edge. has-passes (is_marked on_the_cycle) k (edges (graph_on led go) 0) refl edge) round.1)

pub led_names_x : IsFirstCycle led go x
led_names_x = record {
  event_is_first = ([], [], event go (codes "T0") 2, refl, refl, tt);
  name_is_first = (lead ∷ [], then_y ∷ [], first_x, refl, refl, (y ∷ [], (refl, refl)), (lead-stays-off, tt));
}
