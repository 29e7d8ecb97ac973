-- What a status says of the line that was to be put.
use Rattle.std.proofs.Common.{◌≡◌, ℕ, ◌<◌, List, inl, inr, arith, subst}
use Rattle.edge_io.specs.Sinks.{SinkSeen, Appends}
use Rattle.command_parts.specs.Endings.{Ends, DueOrYielded}

pub line_due : (before after : SinkSeen) (want : ℕ) (line : List ℕ) (status : ℕ) → Ends before after want line status → DueOrYielded want status
line_due before after want line status (inl h) = inl h.0
line_due before after want line status (inr (inl h)) = inr (inl h.0)
line_due before after want line status (inr (inr h)) = inr (inr h.0)

-- A status that isn't 5 or 6 is the one that was due, and then the line was put.
pub line_settled : (before after : SinkSeen) (want : ℕ) (line : List ℕ) (status : ℕ) → Ends before after want line status → status < 5 → (status ≡ want) × Appends before.taken after.taken line
line_settled before after want line status (inl h) small = h
line_settled before after want line status (inr (inl h)) small = absurd (omega (arith, h.0))
line_settled before after want line status (inr (inr h)) small = absurd (omega (arith, h.0))

-- A call that ends as one that puts this line and gives this status ends so by other names of both.
pub ends_as : (before after : SinkSeen) (due want : ℕ) (line text : List ℕ) (status : ℕ) → (due ≡ want) × (line ≡ text) → Ends before after due line status → Ends before after want text status
ends_as before after due want line text status same ends =
    subst (λ (put : List ℕ). Ends before after want put status) same.1 (subst (λ (n : ℕ). Ends before after n line status) same.0 ends)
