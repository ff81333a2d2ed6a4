pub mod Xor
pub mod Laws
pub mod Shifts
pub mod Power
pub mod Tables
pub mod Elem
pub mod Working
pub mod Halves
