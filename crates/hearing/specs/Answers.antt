-- The answers about modes, and publishing, as those crates define them.
pub use Rattle.answers.specs.Answers.{Storing, Marking, storing}
unfoldable pub use Rattle.answers.specs.Answers.{store_modes, hear_modes, declined_as, hear_mode}
pub use Rattle.publishing.specs.Publishing.{is_done}
unfoldable pub use Rattle.publishing.specs.Publishing.{is_whole, is_mode, copied}
