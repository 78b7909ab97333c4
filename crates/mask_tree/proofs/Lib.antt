-- Laws of the tree: a bit cleared, and levels set by those below.
pub mod TreeLaws
mod FunctionLaws
