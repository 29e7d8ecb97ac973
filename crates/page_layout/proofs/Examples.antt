-- Addresses and words of items, computed.
mod Layouts
