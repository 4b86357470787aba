-- The traced world, a world with what it forgets. `Traces`, `Layers` and `Moves` are the statements that most files
-- prove together: begin there. The others say what one change leaves.
pub mod Traces
pub mod Layers
pub mod WorldLaws
pub mod TraceLaws
pub mod ChangeLaws
pub mod IdLaws
pub mod Moves
pub mod LaterLaws
pub mod LaterMoves
pub mod Outsets
