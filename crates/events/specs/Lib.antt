-- Document 01, "Catalogue bytes and the watcher program", and document 02, R-4: the events.
pub mod Events
