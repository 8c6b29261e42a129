-- There are as many formulas as the tables count.
use Rattle.std.proofs.Common.{ltb, sym, ap}
use Rattle.collection.proofs.Serving.{count_is}
use Rattle.collection.proofs.holdings.Collection.is_given.Goals as goal

pub returns : goal.returns
returns g c =
    let s = c.args.self.now in
    ap (ltb c.args.number) (sym (count_is s.draft s.tables s.sound))
