-- Moves of one seat: sends, looks, and replies that are put into its queue.
pub mod OneSeat
pub mod Sending
pub mod Replying
pub mod Looking
