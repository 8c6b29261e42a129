-- The draft is dropped, or the slip is another's.
use Rattle.std.proofs.Common.{sym, ap, ◌∙◌}
use Rattle.checker.specs.declared.drafts.Draft.{Draft}
use Rattle.checker.specs.Sound.{sound}
use Rattle.checker.proofs.Sounding.{dropped_sound}
use Rattle.collection.proofs.Serving.{scrap_wrong, scrap_done}
use Rattle.collection.proofs.holdings.Collection.scrap.Goals as goal

pub returns-then-not-has : goal.returns-then-not-has
returns-then-not-has g c =
    let s = c.args.self.now in
    scrap_wrong g.A.Algebra.meaning g.met.A.Algebra.lawful.formed s.serials s.draft s.tables c.args.slip.serial (sym c.has.ensures ∙ c.if-not-has.true)

pub invariant_of-self : goal.invariant_of-self
invariant_of-self g c =
    let s = c.args.self.now in
    let d = s.draft in
    record { sound = ap (λ (e : Draft). sound e s.tables) c.drop_lines.ensures ∙ dropped_sound d s.tables s.sound }

pub returns : goal.returns
returns g c =
    let s = c.args.self.now in
    scrap_done g.A.Algebra.meaning g.met.A.Algebra.lawful.formed s.serials s.draft s.tables c.args.slip.serial c.drop_lines.new.self (sym c.has.ensures ∙ c.if-not-has.false) c.drop_lines.ensures
