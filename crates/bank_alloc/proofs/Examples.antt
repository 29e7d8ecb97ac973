-- Addresses, computed.
mod Places
