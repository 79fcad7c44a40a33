pub mod Laid
pub mod Stays
pub mod Back
pub mod Names
pub mod WayBack
pub mod Examples
