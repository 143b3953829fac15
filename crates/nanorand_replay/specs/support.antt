-- Not needed to understand the contracts: lemmas that laws of impls cite.
pub mod BufferedLemmas
