pub mod Tokens
pub mod Terminals
pub mod Spelling
pub mod SpellingLaws
pub mod Numbers
pub mod Scanner
