pub mod EndLemmas
pub mod RunLemmas
mod RefusalLemmas
mod OctetLemmas
mod RecordsLemmas
