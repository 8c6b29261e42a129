-- What is known of the number is told, or it was not given.
use Rattle.std.proofs.Common.{sym, refl, ◌∙◌}
use Rattle.collection.proofs.Serving.{given_few, entry_not, entry_done}
use Rattle.collection.proofs.holdings.Collection.entry.Goals as goal

pub returns-then-not-is_given : goal.returns-then-not-is_given
returns-then-not-is_given g c =
    let s = c.args.self.now in
    record {
      told = entry_not g.A.Algebra.meaning g.met.A.Algebra.lawful.formed s.serials s.draft s.tables c.args.number (sym c.is_given.ensures ∙ c.if-not-is_given.true);
      lent = refl;
    }

pub bounds-self-number : goal.bounds-self-number
bounds-self-number g c = let s = c.args.self.now in given_few s.draft s.tables c.args.number s.sound (sym c.is_given.ensures ∙ c.if-not-is_given.false)

pub returns : goal.returns
returns g c =
    let s = c.args.self.now in
    record {
      told = entry_done g.A.Algebra.meaning g.met.A.Algebra.lawful.formed s.serials s.draft s.tables c.args.number s.sound (sym c.is_given.ensures ∙ c.if-not-is_given.false);
      lent = tt;
    }
