-- For clients: `CellLaws` for the slots met one after the other. `TreeLaws` and `MeetLaws` for the functions of this crate.
pub mod CellLaws
mod TreeLaws
mod MeetLaws
