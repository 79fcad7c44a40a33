pub mod Areas
pub mod Words
pub mod Read
pub mod Scan
pub mod Skip
pub mod Examples
