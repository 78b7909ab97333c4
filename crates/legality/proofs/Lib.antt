-- Laws on plain lists and numbers, for the proofs of this crate, from the parts to the whole: the walks' steps, then the table; legality.
mod StepsRead
mod TableSaid
mod TableLaws
mod LegalLaws
