-- The calls of an updater: the causes that refuse them, and that where none does their stores are those of the state after them.
pub mod Adds
pub mod Causes
pub mod Deletes
pub mod HandBacks
pub mod Shown
