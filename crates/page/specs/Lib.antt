pub mod Faults
pub mod Sums
pub mod Entries
pub mod Pages
