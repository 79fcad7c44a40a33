pub mod Bytes
pub mod Item
pub mod Laid
pub mod Back
