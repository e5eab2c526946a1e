pub mod Numbers
pub mod Measures
pub mod Marks
pub mod Texts
pub mod MeasuresLemmas
