mod Back
mod ClassFiles
mod MarkLemmas
pub mod NumberWords
pub mod PlainWords
pub mod RoundTrip
pub mod SpelledWords
pub mod SpokenText
pub mod StatementsBack
pub mod TextAgain
