pub mod Acting
pub mod Resolving
pub mod Runs
pub mod Walks
