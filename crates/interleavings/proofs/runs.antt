-- All moves together: `Simulating` is what the law cites with `Following`.
pub mod Simulating
