pub mod Area
pub mod Words
pub mod Room
pub mod Read
pub mod Scan
pub mod Skip
pub mod Examples
