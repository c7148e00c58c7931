mod Zips
mod Fits
mod Linking
mod ProgramSteps
mod Rounds
mod KeptDivisions
