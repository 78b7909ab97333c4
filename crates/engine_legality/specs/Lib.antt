-- What the functions of the check decide: `LaneSentences` one lane and one group of masks at a time, `WordSentences` those of document 01 about the
-- global words, the masks and the lanes.
pub mod LaneSentences
pub mod WordSentences
