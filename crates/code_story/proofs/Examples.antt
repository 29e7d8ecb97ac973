-- An arrangement of three events on three levels: what is assumed of arrangements can be met.
pub mod ThreeLevels
