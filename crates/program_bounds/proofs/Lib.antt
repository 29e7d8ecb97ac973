pub mod BoundLaws
mod ClauseFacts
mod CostFacts
mod FewFacts
mod ReadFacts
mod SumFacts
mod TotalFacts
mod TypedFacts
