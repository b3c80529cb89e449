pub mod Histories
pub mod Depths
