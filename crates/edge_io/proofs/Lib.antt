pub mod HeldFileFacts
