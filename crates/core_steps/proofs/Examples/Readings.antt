-- A choice between two events, read as steps of the core of lists: what arrives meanwhile, and what another order would say.
use Rattle.std.specs.Prelude.{◌≡◌, ℕ, true, List, [], ◌∷◌, Some, None, refl}
use Rattle.preempt_core.specs.declared.steps.Step.{Step}
use Rattle.preempt_core.specs.declared.steps.Step.TheVariants as core
use Rattle.preempt_core.specs.Runs.{told}
use Rattle.core_steps.specs.LogSteps.{Reading, arrive_all, take_event, turn_on, resume}
use Rattle.core_steps.specs.Tied.{taken_in}

-- Event 0 had arrived and was chosen, its flag not yet cleared; events 0 and 1 arrive meanwhile.
abbrev choosing : Reading
choosing = record { steps = core.Arrive 0 ∷ []; held = Some []; turned = [] }

abbrev chosen : Reading
chosen = take_event (arrive_all choosing (0 ∷ 1 ∷ [])) 0

-- Its own second arrival stands before the Take, where it is merged; that of event 1 just after it.
pub order : chosen.steps ≡ core.Arrive 1 ∷ core.Take ∷ core.Arrive 0 ∷ core.Arrive 0 ∷ []
order = refl

-- Interrupts are turned on: the run begins, which is no step; once more, and it begins again; RETFIE leaves it.
pub turns : ((turn_on true chosen).steps ≡ chosen.steps) × ((turn_on true (turn_on true chosen)).steps ≡ core.Redo ∷ chosen.steps) × ((resume true chosen).turned ≡ [])
turns = (refl, refl, refl)

-- The events that these steps take, where event 1 has the higher priority.
abbrev takes : List Step → List ℕ
takes steps = elim (told (1 ∷ 3 ∷ []) (λ k state e. state) [] steps) [ Some t ↦ taken_in t.answers | None ↦ [] ]

-- With event 1's arrival in its place, before the Take, the core would have taken event 1.
pub takes_chosen : (takes chosen.steps ≡ 0 ∷ []) × (takes (core.Take ∷ core.Arrive 1 ∷ core.Arrive 0 ∷ core.Arrive 0 ∷ []) ≡ 1 ∷ [])
takes_chosen = (refl, refl)
