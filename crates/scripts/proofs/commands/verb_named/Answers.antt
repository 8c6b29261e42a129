-- The word is none of the names.
use Rattle.std.proofs.Common.{sym}
use Rattle.scripts.specs.Commands.{verbs}
use Rattle.scripts.proofs.Places.{lookup_none}
use Rattle.scripts.proofs.commands.verb_named.Goals as goal

pub returns-in_default : goal.returns-in_default
returns-in_default c =
    let w = c.in_default in
    sym (lookup_none verbs c.args.word.now (w.not-algebra, (w.not-store, (w.not-open, (w.not-line, (w.not-enter, (w.not-scrap, (w.not-withdraw, (w.not-entry, (w.not-begin, (w.not-step, (w.not-result, (w.not-close, (w.not-run, tt))))))))))))))
