-- What the contracts of `mask_tree` cite.
pub mod Tree
