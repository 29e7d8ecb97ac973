pub mod AddFacts
pub mod DepthFacts
pub mod GiveLaws
pub mod NameFacts
pub mod NamedLaws
pub mod PlanFacts
pub mod PlannedFacts
pub mod ReadFacts
