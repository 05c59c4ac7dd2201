mod Words
mod Quotients
