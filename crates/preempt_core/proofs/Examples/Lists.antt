-- An event that is interrupted by one that commits, and begins again; and steps that aren't allowed.
use Rattle.std.specs.Prelude.{ℕ, List, [], ◌∷◌, ◌++◌, Option, Some, None, reverse}
use Rattle.std.proofs.Common.{◌≡◌, refl}
use Rattle.preempt_core.specs.declared.steps.Step.{Step}
use Rattle.preempt_core.specs.declared.steps.Step.TheVariants as steps
use Rattle.preempt_core.specs.declared.steps.Done.{Done}
use Rattle.preempt_core.specs.declared.steps.Done.TheVariants as answers
use Rattle.preempt_core.specs.Runs.{Told, told}

-- What two events of priorities 1 and 2 have come to, where a reaction adds its event's number to the state.
abbrev after : List Step → Option Told
after list = told (1 ∷ 2 ∷ []) (λ k state e. e ∷ state) [] (reverse list)

abbrev answers_of : Option Told → Option (List Done)
answers_of None = None
answers_of (Some t) = Some (reverse t.answers)

abbrev state_of : Option Told → Option (List ℕ)
state_of None = None
state_of (Some t) = Some t.state

abbrev until_the_return : List Step
until_the_return = steps.Arrive 0 ∷ steps.Take ∷ steps.Work ∷ steps.Arrive 1 ∷ steps.Take ∷ steps.Commit ∷ steps.Resume ∷ []

each_is_allowed
    : answers_of (after (until_the_return ++ steps.Redo ∷ steps.Commit ∷ steps.Resume ∷ []))
    ≡ Some (answers.Latched 0 ∷ answers.Took 0 ∷ answers.Worked ∷ answers.Latched 1 ∷ answers.Took 1 ∷ answers.Committed 1 ∷ answers.Resumed ∷ answers.Redone 0 ∷ answers.Committed 0 ∷ answers.Resumed ∷ [])
each_is_allowed = refl

both_have_reacted : state_of (after (until_the_return ++ steps.Redo ∷ steps.Commit ∷ [])) ≡ Some (0 ∷ 1 ∷ [])
both_have_reacted = refl

commit_reacts : state_of (after (steps.Arrive 1 ∷ steps.Take ∷ steps.Commit ∷ [])) ≡ Some (1 ∷ [])
commit_reacts = refl

void_run_may_not_commit : answers_of (after (until_the_return ++ steps.Commit ∷ [])) ≡ None
void_run_may_not_commit = refl

clean_run_may_not_begin_again : answers_of (after (steps.Arrive 0 ∷ steps.Take ∷ steps.Redo ∷ [])) ≡ None
clean_run_may_not_begin_again = refl

open_run_may_not_be_left : answers_of (after (steps.Arrive 0 ∷ steps.Take ∷ steps.Resume ∷ [])) ≡ None
open_run_may_not_be_left = refl

less_urgent_may_not_be_taken : answers_of (after (steps.Arrive 1 ∷ steps.Take ∷ steps.Arrive 0 ∷ steps.Take ∷ [])) ≡ None
less_urgent_may_not_be_taken = refl

more_urgent_is_taken : answers_of (after (steps.Arrive 0 ∷ steps.Arrive 1 ∷ steps.Take ∷ [])) ≡ Some (answers.Latched 0 ∷ answers.Latched 1 ∷ answers.Took 1 ∷ [])
more_urgent_is_taken = refl

commits_are_counted : state_of (told (1 ∷ 2 ∷ []) (λ k state e. k ∷ e ∷ state) [] (reverse (until_the_return ++ steps.Redo ∷ steps.Commit ∷ []))) ≡ Some (1 ∷ 0 ∷ 0 ∷ 1 ∷ [])
commits_are_counted = refl
