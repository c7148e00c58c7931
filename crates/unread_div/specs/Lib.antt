pub mod Unread
pub mod Flags
pub mod UnreadLaws
