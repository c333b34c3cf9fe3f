pub mod Answers
pub mod Numbers
pub mod Bytes
pub mod Reading
pub mod Formal
pub mod Laws
