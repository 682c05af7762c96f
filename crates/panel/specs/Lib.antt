pub mod Refusals
pub mod Allowed
pub mod Test
pub mod Words
pub mod Panel
pub mod Said
