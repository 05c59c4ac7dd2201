mod Hex
mod Shown
