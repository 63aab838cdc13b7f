-- Session texts and reports, as they are spelled.
pub mod Gathering
pub mod SaidLines
pub mod TextsRead
pub mod TextsTold
pub mod SpelledLines
