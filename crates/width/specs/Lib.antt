pub mod Controls
pub mod Fnv
pub mod Widths
pub mod TableRuleLemmas
