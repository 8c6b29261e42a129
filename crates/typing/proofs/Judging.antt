-- Questions one before the other: what a yes leaves to ask, and what a no refuses.
use Rattle.std.proofs.Common.{◌≡◌, ℕ, Bool, true, false, List, [], ◌∷◌, Some, None, Ok, Err, Result, refl, ap, ◌∙◌}
use Rattle.std.proofs.lemmas.Bool.{true≢false}
use Rattle.remora.specs.Questions.{Question, AllYes, or_else, first_no}
use Rattle.remora.specs.Calls.{Answer, refused}
use Rattle.lines.specs.declared.refusals.Refusal.{Refusal}
use Rattle.lines.specs.Refusals.{answer_of}
use Rattle.typing.specs.Typings.{answer_at, Refused, Judged}

-- without a first no, all are answered by yes
pub all_yes : (qs : List Question) → first_no qs ≡ None → AllYes qs
all_yes [] e = tt
all_yes (q ∷ qs) e = go q.1 refl e (all_yes qs)
  where
    go : (b : Bool) → q.1 ≡ b → or_else b q.0 (first_no qs) ≡ None → (first_no qs ≡ None → AllYes qs) → AllYes (q ∷ qs)
    go true y n rest = (y, rest n)
    go false y n rest = let z : ◌≡◌ {A = Bool} true false = cc in absurd (true≢false z)

-- a yes before other questions
pub judged_yes : {X : Type 0} (P : X → Type 0) (n : ℕ) (b : Bool) (qs : List Question) (line : ℕ) (r : Result X Refusal) → b ≡ true → Judged qs P line r → Judged ((n, b) ∷ qs) P line r
judged_yes P n b qs line (Ok x) y j = (ap (λ (x : Bool). or_else x n (first_no qs)) y ∙ j.0, j.1)
judged_yes P n b qs line (Err e) y j = ap (λ (x : Bool). answer_at line (or_else x n (first_no qs))) y ∙ j

-- a no before other questions
pub refused_no : (n : ℕ) (b : Bool) (qs : List Question) (line : ℕ) (e : Refusal) → b ≡ false → refused n (Some line) ≡ answer_of e → Refused ((n, b) ∷ qs) line e
refused_no n b qs line e h is = ap (λ (x : Bool). answer_at line (or_else x n (first_no qs))) h ∙ ap (λ (a : Answer). Some a) is

-- what is found, said in another way
pub judged_as : {X : Type 0} (P Q : X → Type 0) (qs : List Question) (line : ℕ) (r : Result X Refusal) → ((x : X) → AllYes qs → P x → Q x) → Judged qs P line r → Judged qs Q line r
judged_as P Q qs line (Ok x) turn j = (j.0, turn x (all_yes qs j.0) j.1)
judged_as P Q qs line (Err e) turn j = j

-- where all are answered by yes, there is no first no
pub yes_all : (qs : List Question) → AllYes qs → first_no qs ≡ None
yes_all [] y = refl
yes_all (q ∷ qs) y = ap (λ (b : Bool). or_else b q.0 (first_no qs)) y.0 ∙ yes_all qs y.1
