-- Laws of words as masks, which callers cite, and of the generation order.
pub mod BitLaws
