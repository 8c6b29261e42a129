-- The draft is entered, or one of the questions is answered by no.
use Rattle.std.proofs.Common.{◌<◌, List, Ok, Err, ◌∙◌, subst, inl, inr, rules}
use Rattle.std.proofs.lemmas.Result.{err_from_is_err_and}
use Rattle.typing.specs.declared.found.Entry.{Entry}
use Rattle.checker.specs.Changes.{kept}
use Rattle.checker.specs.Checking.{DraftChecked}
use Rattle.collection.proofs.Entering.{enter_not, enter_refused, enter_kept, asked_yes, asked_no, keep_fits}
use Rattle.collection.proofs.entries.entered.Goals.{then-empty-via-then-empty, then-empty-via-else-empty+then-full}
use Rattle.collection.proofs.entries.entered.Goals as goal

pub returns-then-empty : goal.returns-then-empty
returns-then-empty g c =
    let m = g.A.Algebra.meaning in
    let d = c.args.draft.now in
    let t = c.args.tables.now in
    elim c.then-empty.branch [
      | then-empty-via-then-empty w ↦ enter_not m d t c.requires (asked_no m d t c.requires (inl (search rules)))
      | then-empty-via-else-empty+then-full w ↦ enter_not m d t c.requires (asked_no m d t c.requires (inr (search rules)))
    ]

pub returns-in_err-entry : goal.returns-in_err-entry
returns-in_err-entry g c =
    let m = g.A.Algebra.meaning in
    let d = c.args.draft.now in
    let t = c.args.tables.now in
    let x = c.in_err-entry.field-0.0 in
    let some : 0 < d.height = search rules in
    let q = err_from_is_err_and c.from_residual.result c.from_residual.ensures.1 in
    rw (q.1, q.2) (enter_refused m d t c.requires c.check.new.self x (asked_yes m d t c.requires some (search rules))
    (subst (λ (es : List Entry). DraftChecked m es d (Err x) c.check.new.self) c.known.ensures c.in_err-entry.ensures))

pub keep-requires : goal.keep-requires
keep-requires g c =
    let m = g.A.Algebra.meaning in
    let d = c.args.draft.now in
    let t = c.args.tables.now in
    let checked = subst (λ (es : List Entry). DraftChecked m es d c.check.result c.check.new.self) c.known.ensures c.check.ensures in
    let fits = keep_fits m d t c.requires c.check.new.self c.check.result c.lines.result.now c.own_codes.result.now checked c.lines.ensures c.own_codes.ensures in
    ((search rules), (fits.0, fits.1))

pub returns : goal.returns
returns g c =
    let m = g.A.Algebra.meaning in
    let d = c.args.draft.now in
    let t = c.args.tables.now in
    let e = c.in_ok-entry.entry in
    let some : 0 < d.height = search rules in
    enter_kept m d t c.requires c.check.new.self e c.keep.new.self (asked_yes m d t c.requires some (search rules)) (search rules)
    (subst (λ (es : List Entry). DraftChecked m es d (Ok e) c.check.new.self) c.known.ensures c.in_ok-entry.ensures)
    (c.keep.ensures ∙ (λ i. kept t e (c.lines.ensures i) (c.own_codes.ensures i)))
