mod ApartFacts
mod BeginFacts
mod ClearFacts
mod EnterFacts
mod ExitFacts
mod FrameFacts
mod GateFacts
mod LockFacts
mod MoveFacts
pub mod PlaceLaws
mod ReturnFacts
pub mod RunLaws
mod SavedFacts
mod ShortFacts
mod SkipFacts
mod StartFacts
mod StretchFacts
mod TailFacts
mod WindowFacts
mod WorkFacts
