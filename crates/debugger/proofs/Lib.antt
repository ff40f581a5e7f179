pub mod Actors
pub mod Carried
pub mod FreeRuns
pub mod HeapText
pub mod RunSteps
pub mod SessionSteps
pub mod StopRuns
