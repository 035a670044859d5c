pub mod Line
pub mod Tables
pub mod Printed
pub mod Front
pub mod ReadsBack
