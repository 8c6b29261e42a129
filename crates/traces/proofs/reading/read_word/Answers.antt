-- The word that is no count is the only one.
use Rattle.std.proofs.Common.{◌≡◌, true, cond, not, [], ◌∷◌, string_bytes, sym, refl, ap, ◌∙◌, subst}
use Rattle.traces.specs.Texts.{filled, Count}
use Rattle.traces.proofs.reading.read_word.Goals as goal

pub returns-in_default : goal.returns-in_default
returns-in_default c =
    let w = c.args.word.now in
    let same : string_bytes c.in_ok-word.word ≡ w = c.in_ok-word.ensures.ok in
    let some : filled w ≡ true = ap not (sym c.if-is_empty.ensures) in
    (refl, ([], [], ap (λ v. cond v (w ∷ []) []) some ∙ ap (λ v. v ∷ []) (sym same), tt, λ h. c.in_default.ensures (subst Count same h)))
