-- The numbers gone through are limited.
use Rattle.std.proofs.Common.{◌≡◌, map, take, vec_items}
use Rattle.scripts.specs.Numbers.{limit}
use Rattle.scripts.proofs.numbers.limited_all.Given as goal

abbrev pub invariant-loop-number : goal.invariant-loop-number
invariant-loop-number l = vec_items l.places ≡ map limit (take l.number-index l.numbers)
