mod Parts
mod Ranges
mod Marking
mod Stashing
mod Looking
mod Promising
mod Placing
