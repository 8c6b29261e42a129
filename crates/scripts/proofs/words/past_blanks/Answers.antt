-- The blanks that are cut off part no word.
use Rattle.std.proofs.Common.{[], ◌∷◌, sym, refl}
use Rattle.scripts.proofs.Cuts.{words_trimmed}
use Rattle.scripts.proofs.words.past_blanks.Goals as goal

pub returns-clause-words : goal.returns-clause-words
returns-clause-words c =
    let m = c.trim_start_matches.ensures.matches in
    sym (words_trimmed (32 ∷ 9 ∷ 13 ∷ []) (λ b. refl) c.args.text.now m.0.0 c.trim_start_matches.result.now m.0.1)
