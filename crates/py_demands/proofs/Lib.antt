mod Agreed
mod AimRows
mod AimsKept
mod AsksKept
mod BothFirst
pub mod BothFound
mod Bounded
mod Closed
mod ClosedForms
mod Decided
mod DemandVectors
mod EffectsTied
mod ExactRows
mod FewOpen
mod Found
mod FoundClosed
pub mod FrontFirst
mod ItemFollowed
mod ItemSteps
mod ItemTurned
mod Items
mod LowRows
mod Lower
mod Made
mod Ordered
pub mod OrderedFronts
mod Paired
mod Passing
pub mod ReadItems
mod ReadSettled
pub mod ReadingsLow
pub mod ReadySteps
mod RowsAimed
mod RowsClose
mod RowsLow
mod Shut
mod StartsBelow
mod TargetVectors
mod TargetsLeft
mod Turned
mod TurnedPaired
mod Turning
pub mod Ways
pub mod Steps
pub mod ShallowFronts
