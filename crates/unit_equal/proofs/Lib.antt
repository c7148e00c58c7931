pub mod EqualLists
