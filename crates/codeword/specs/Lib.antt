pub mod Codeword
pub mod Test
pub mod Inner
