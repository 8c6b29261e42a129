-- The text that the error tells is that of the word.
use Rattle.std.proofs.Common.{inr}
use Rattle.scripts.proofs.errors.found_or.Goals as goal

pub returns-in_ok-from_str-in-None : goal.returns-in_ok-from_str-in-None
returns-in_ok-from_str-in-None g c = inr (c.in-None.is, c.in_ok-from_str-in-None.field-0, c.in_ok-from_str-in-None.ensures.ok, c.wrong.ensures)
