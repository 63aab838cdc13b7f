-- Ways of a question, and routes of a part.
pub mod Ways
pub mod Chains
pub mod RoutesAndWays
pub mod Prefixes
pub mod PartWays
pub mod Detours
pub mod Least
pub mod PrefixPaths
pub mod Shortness
pub mod EarliestSeconds
