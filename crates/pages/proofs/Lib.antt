pub mod Marks
pub mod Digits
pub mod Pieces
pub mod Words
pub mod Sofar
