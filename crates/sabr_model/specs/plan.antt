-- A contact plan, its rules, and what it keeps.
pub mod Plan
pub mod Table
pub mod Tabled
pub mod Known
pub mod Adding
pub mod Openings
pub mod Light
pub mod RangeOrder
