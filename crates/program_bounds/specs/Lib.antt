pub mod Facts
pub mod Tables
pub mod Sweeps
pub mod Stale
pub mod Programs
pub mod BoundStacks
pub mod ProgramLaws
