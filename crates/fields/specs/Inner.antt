pub mod Marks
pub mod NumberAt
pub mod RowAt
pub mod WellNamed
