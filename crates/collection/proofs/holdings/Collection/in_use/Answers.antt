-- A number that was given, and its mark.
use Rattle.std.proofs.Common.{Bool, not, ◌&&◌, get_or, sym, ap, ◌∙◌}
use Rattle.remora.specs.Calls as calls
use Rattle.checker.specs.Views.{formulas_of}
use Rattle.collection.proofs.Serving.{given_below, given_few, mark_is}
use Rattle.collection.proofs.holdings.Collection.in_use.Goals as goal

pub bounds-self-number : goal.bounds-self-number
bounds-self-number g c = let s = c.args.self.now in given_few s.draft s.tables c.args.number s.sound (sym c.is_given.ensures ∙ c.if-is_given.true)

pub returns-then-is_given : goal.returns-then-is_given
returns-then-is_given g c =
    let s = c.args.self.now in
    let given = sym c.is_given.ensures ∙ c.if-is_given.true in
    ap not (sym (mark_is s.draft s.tables s.sound c.args.number (given_below s.draft s.tables c.args.number s.sound given)))
    ∙ ap (λ (b : Bool). b && not (get_or (formulas_of s.tables) c.args.number calls.no_formula).withdrawn) (sym given)
