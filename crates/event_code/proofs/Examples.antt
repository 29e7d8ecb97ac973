-- Computed examples.
mod States
