pub mod Numbers
pub mod Quick
pub mod Worked
