-- That "no worse" has the four laws, and what the proof of that needs. No definition of the subject
-- stands here.
pub mod Below
pub mod Count
pub mod NoWorseLaws
pub mod PairLaws
pub mod Strict
pub mod SumLaws
