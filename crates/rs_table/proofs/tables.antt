-- Tables by their cells: what each peer has, and what each client gets.
pub mod StoredLemmas
pub mod TablesLemmas
