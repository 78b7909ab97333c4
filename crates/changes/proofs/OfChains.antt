-- Chains and slots: links, products, the search for a code.
pub mod ChainStates
pub mod ChainLinks
pub mod ChainChanges
pub mod Products
pub mod Find
pub mod ChainShapes
