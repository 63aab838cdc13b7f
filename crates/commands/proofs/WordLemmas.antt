-- Lists on the command line, the words of commands, and texts of requests and of lists.
pub mod RequestWords
pub mod TextLines
pub mod NamedWords
