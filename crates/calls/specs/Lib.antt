-- The code's calls as the model's.
pub mod CallOf
