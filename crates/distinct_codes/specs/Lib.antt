pub mod Cells
pub mod Met
pub mod Tree
