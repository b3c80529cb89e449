pub mod Lines
pub mod Calls
pub mod Numbers
pub mod Session
pub mod Reports
