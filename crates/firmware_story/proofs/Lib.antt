pub mod CodeLaws
mod CostFacts
mod FirstFacts
mod FrameFacts
mod MayFacts
mod PlanFacts
pub mod RunLaws
mod StateFacts
mod TimeFacts
pub mod VectorLaws
mod WorkFacts
