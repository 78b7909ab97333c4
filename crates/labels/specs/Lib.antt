-- What the writer of labels promises.
pub mod Writing
