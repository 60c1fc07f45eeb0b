pub mod Words
pub mod Digits
pub mod Number
pub mod Appending
pub mod PaddedText
