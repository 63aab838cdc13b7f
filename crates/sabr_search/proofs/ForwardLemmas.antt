-- From the start forward.
pub mod Forward
pub mod LayerEntries
pub mod MadeLayers
pub mod Queues
pub mod FirstWays
