pub mod Spacing
pub mod Columns
pub mod Reading
