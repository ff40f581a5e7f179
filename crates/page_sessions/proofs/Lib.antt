pub mod ThreadTexts
