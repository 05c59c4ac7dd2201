mod Feeds
mod Known
