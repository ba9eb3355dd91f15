mod Growing
mod Submitted
mod Ends
mod AtNodes
mod Whole
