pub mod Classes
pub mod Rules
pub mod Order
pub mod Stretches
pub mod Worked
pub mod Contexts
pub mod Claims
pub mod Finite
