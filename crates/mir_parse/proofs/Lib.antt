mod PartSound
mod Sound
mod Complete
mod Exact
mod Early
mod Texts
