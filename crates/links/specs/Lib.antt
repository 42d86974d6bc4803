-- What a reader believes of links in lent words.
pub mod Words
pub mod Seek
