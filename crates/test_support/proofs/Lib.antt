pub mod lemmas
mod known_answers
