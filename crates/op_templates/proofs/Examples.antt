-- The words of templates, computed.
mod Words
