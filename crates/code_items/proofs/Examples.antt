-- Lines of items, and where they stand, computed.
mod Lines
