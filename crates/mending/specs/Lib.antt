pub mod Mended
pub mod Window
pub mod Passed
pub mod Laid
pub mod InWindows
pub mod Report
pub mod Turn
pub mod Room
