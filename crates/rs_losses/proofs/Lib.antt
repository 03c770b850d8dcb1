mod LawLemmas
mod CountLemmas
mod StepLemmas
mod ComesLemmas
