pub mod Steps
pub mod Script
pub mod Waste
pub mod Forking
