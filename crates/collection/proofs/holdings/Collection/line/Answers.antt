-- The line is added, or one of the three questions is answered by no.
use Rattle.std.proofs.Common.{◌+◌, ◌&&◌, leb, length, sym, ap, ◌∙◌, arith}
use Rattle.std.proofs.lemmas.Bool.{and_parts, leb-true}
use Rattle.lines.specs.Lines.{line_of}
use Rattle.checker.specs.declared.drafts.Draft.{Draft}
use Rattle.checker.specs.Sound.{sound}
use Rattle.checker.proofs.Sounding.{grown_sound}
use Rattle.collection.proofs.Serving.{line_wrong, line_full, line_bad, line_done}
use Rattle.collection.proofs.holdings.Collection.line.Goals as goal

pub returns-then-not-has : goal.returns-then-not-has
returns-then-not-has g c =
    let s = c.args.self.now in
    line_wrong g.A.Algebra.meaning g.met.A.Algebra.lawful.formed s.serials s.draft s.tables c.args.slip.now.serial (line_of c.args.line.now) (sym c.has.ensures ∙ c.if-not-has.true)

pub returns-then-not-has_space : goal.returns-then-not-has_space
returns-then-not-has_space g c =
    let s = c.args.self.now in
    line_full g.A.Algebra.meaning g.met.A.Algebra.lawful.formed s.serials s.draft s.tables c.args.slip.now.serial (line_of c.args.line.now) s.sound (sym c.has.ensures ∙ c.if-not-has.false)
    (sym c.has_space.ensures ∙ c.if-not-has_space.true)

pub returns-in_default : goal.returns-in_default
returns-in_default g c =
    let s = c.args.self.now in
    line_bad g.A.Algebra.meaning g.met.A.Algebra.lawful.formed s.serials s.draft s.tables c.args.slip.now.serial (line_of c.args.line.now) s.sound (sym c.has.ensures ∙ c.if-not-has.false)
    (sym c.has_space.ensures ∙ c.if-not-has_space.false) c.in_default.ensures

pub invariant_of-self : goal.invariant_of-self
invariant_of-self g c =
    let s = c.args.self.now in
    let d = s.draft in
    let t = s.tables in
    let cs = c.args.line.now.codes.now in
    let room = and_parts (leb (d.height + 1) 64) (leb (t.height + d.height + 1) 1024 && leb (t.width + d.width + length cs) 4096) (sym c.has_space.ensures ∙ c.if-not-has_space.false) in
    let both = and_parts (leb (t.height + d.height + 1) 1024) (leb (t.width + d.width + length cs) 4096) room.1 in
    let few = leb-true (d.height + 1) 64 room.0 in
    let tall = leb-true (t.height + d.height + 1) 1024 both.0 in
    record { sound = ap (λ (e : Draft). sound e t) c.add.ensures ∙ grown_sound d t c.in-Some.fields cs s.sound (omega arith) (omega arith) (leb-true (t.width + d.width + length cs) 4096 both.1) }

pub returns : goal.returns
returns g c =
    let s = c.args.self.now in
    line_done g.A.Algebra.meaning g.met.A.Algebra.lawful.formed s.serials s.draft s.tables c.args.slip.now.serial (line_of c.args.line.now) s.sound (sym c.has.ensures ∙ c.if-not-has.false)
    c.in-Some.fields c.add.new.self (sym c.has_space.ensures ∙ c.if-not-has_space.false) c.in-Some.ensures c.add.ensures
