-- What the fast form of may-pass decides by.
pub mod Quick
