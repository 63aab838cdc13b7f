-- The tree that stands for a state.
pub mod ModifiedPlaces
pub mod ListFronts
pub mod SlotWinners
pub mod CarryingNodes
pub mod IndexedNodes
pub mod SoundSteps
pub mod MergedIndex
pub mod CutTrees
pub mod Floors
pub mod FoundNodes
