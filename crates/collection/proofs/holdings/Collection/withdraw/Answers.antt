-- The number is withdrawn, or it is not in use.
use Rattle.std.proofs.Common.{ltb, length, sym, ◌∙◌}
use Rattle.std.proofs.lemmas.Bool.{and_parts}
use Rattle.checker.specs.Views.{formulas_of}
use Rattle.collection.proofs.Serving.{given_few, withdraw_not, withdraw_done}
use Rattle.collection.proofs.holdings.Collection.withdraw.Goals as goal

pub returns-then-not-in_use : goal.returns-then-not-in_use
returns-then-not-in_use g c =
    let s = c.args.self.now in
    withdraw_not g.A.Algebra.meaning g.met.A.Algebra.lawful.formed s.serials s.draft s.tables c.args.number (sym c.in_use.ensures ∙ c.if-not-in_use.true)

pub mark-requires : goal.mark-requires
mark-requires g c =
    let s = c.args.self.now in
    given_few s.draft s.tables c.args.number s.sound (and_parts (ltb c.args.number (length (formulas_of s.tables))) _ (sym c.in_use.ensures ∙ c.if-not-in_use.false)).0

pub returns : goal.returns
returns g c =
    let s = c.args.self.now in
    withdraw_done g.A.Algebra.meaning g.met.A.Algebra.lawful.formed s.serials s.draft s.tables c.args.number c.mark.new.self s.sound (sym c.in_use.ensures ∙ c.if-not-in_use.false) c.mark.ensures
