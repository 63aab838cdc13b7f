-- What the words of the command line say.
pub mod Values
pub mod CommandLine
pub mod Lines
