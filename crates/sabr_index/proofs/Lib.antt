pub mod PassNumbers
pub mod LinkLemmas
pub mod TableLemmas
pub mod IncomingLemmas
pub mod ContactOrders
pub mod SenderLemmas
