-- The collector (Dijkstra, Lamport, Martin, Scholten and Steffens, CACM 21(11), 1978): the places where references
-- stand, the table of its steps, the invariant of three colours, and what is proved of every run of threads and
-- collector.
pub mod Changes
pub mod Choices
pub mod Invariant
pub mod Moves
pub mod Paths
pub mod Places
pub mod Reached
pub mod Reclaim
pub mod Runs
pub mod Table
