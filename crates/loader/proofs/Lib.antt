pub mod EqualPrograms
pub mod KnownCallLemmas
pub mod KnownMethodLemmas
pub mod StepListLemmas
pub mod TranslationLemmas
