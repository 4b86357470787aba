pub mod Greetings
