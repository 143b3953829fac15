pub mod nanorand_core
pub mod nanorand_replay
pub mod nanorand_fairness
pub mod nanorand
pub mod nanorand_calls
pub mod draw_core
pub mod lots_record
