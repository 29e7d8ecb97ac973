-- What operations mean, computed.
mod Operations
