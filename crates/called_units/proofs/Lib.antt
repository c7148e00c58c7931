pub mod Walks
pub mod Ranking
pub mod Answered
