pub mod Numbers
pub mod Requests
pub mod Arguments
pub mod Text
pub mod support
