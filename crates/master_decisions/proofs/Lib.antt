pub mod Firsts
pub mod Heaviest
pub mod SetLaws
