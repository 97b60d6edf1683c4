-- Texts as lists of bytes, and the writing of them, under the names by which this crate's callers know them: they are defined in `texts`.
pub use Rattle.texts.specs.Text.{bytes, one, digits, decimal, after, joined, Wrote, Counts}
