-- Each call that fits its target, with a key that is one and numbers in their ranges, is spelled by some bytes. Begin
-- with `Spelling`.
pub mod SpelledFields
pub mod SpelledStores
pub mod Spelling
pub mod OneRequest
