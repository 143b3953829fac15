pub mod Quoted
pub mod Record
pub mod Claims
pub mod Program
pub mod Command
pub mod Announcement
pub mod Check
