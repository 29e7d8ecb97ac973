-- Products and quotients, computed by the machine.
mod Values
