pub mod BufferLemmas
mod LentLemmas
pub mod WriterLemmas
