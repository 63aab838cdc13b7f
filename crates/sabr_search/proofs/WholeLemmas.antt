-- Layers for one delivery: how their chains stand, that they leave out no way of a part's question, and where they show that there is none.
pub mod Chained
pub mod Leaves
pub mod Walks
