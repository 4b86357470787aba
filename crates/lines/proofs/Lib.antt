mod Appended
mod Naming
