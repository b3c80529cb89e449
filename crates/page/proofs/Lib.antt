pub mod Alike
pub mod Keeping
pub mod Finding
pub mod Totals
