pub mod Faults
pub mod Contents
pub mod Texts
pub mod Judging
