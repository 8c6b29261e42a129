-- The word is none of the names.
use Rattle.std.proofs.Common.{sym}
use Rattle.scripts.specs.Names.{algebras}
use Rattle.scripts.proofs.Places.{lookup_none}
use Rattle.scripts.proofs.names.algebra_named.Goals as goal

pub returns-in_default : goal.returns-in_default
returns-in_default c = sym (lookup_none algebras c.args.word.now (c.in_default.not-counts, (c.in_default.not-amplitudes, tt)))
