-- What the loops of the reader and the writer know, the ways out of both, and what they are worth together.
pub mod ReadLaws
pub mod WriteLaws
pub mod RoundTrip
