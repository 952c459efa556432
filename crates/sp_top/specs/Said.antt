-- What the code's values stand for.
pub use Rattle.sp_command.specs.Said.{plain_command}
