pub mod Added
mod Again
mod Asked
mod Columns
mod Fronts
mod Indented
mod Marked
mod Numbers
mod Words
