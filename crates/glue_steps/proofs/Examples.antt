-- Glue, computed.
mod Pieces
