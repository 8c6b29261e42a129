-- The words gone through give fields of the set, so those that are left decide.
use Rattle.std.proofs.Common.{◌≡◌}
use Rattle.scripts.specs.Words.{words_of}
use Rattle.scripts.specs.Fields.{known, field_names}
use Rattle.scripts.proofs.fields.check_fields.Given as goal

abbrev pub invariant-loop-word : goal.invariant-loop-word
invariant-loop-word l = known (field_names l.set) (words_of l.text) ≡ known (field_names l.set) (words_of l.word-iterator.left.now)
