pub mod Lines
pub mod Listing
pub mod Window
pub mod Printed
pub mod Turn
pub mod Page
